-- When two kinds and numbers of a class are one deliverer.
use Prim.Native.Nat.{ℕ}
use mathlib.Core.Path.{◌≡◌, refl, sym, ◌∙◌}
use mathlib.Core.Bool.{Bool, true, false}
use lib.Dec.{eqb}
use borrow.Author.Tests.{eq-eqb, ne_eqb, eqb-true, eqb-false}
use Rattle.runs.proofs.Cases.{by_test}
use Rattle.model.specs.declared.Class.{Class}
use Rattle.model.specs.declared.Class.TheVariants.{Feeders, Peers, Own}
use Rattle.model.specs.declared.Deliverer.TheVariants.{Restored}
use Rattle.model.specs.Class.{same_deliverer}
use Rattle.model.specs.BookWords.{own_deliverer, read_who}

-- a restored one is no other of its class, and is itself
restored_other : (c : Class) (mark : ℕ) → false ≡ same_deliverer (Restored c) (own_deliverer c mark)
unfolding same_deliverer
restored_other Feeders mark = refl
restored_other Peers mark = refl
restored_other Own mark = refl

other_restored : (c : Class) (number : ℕ) → false ≡ same_deliverer (own_deliverer c number) (Restored c)
unfolding same_deliverer
other_restored Feeders number = refl
other_restored Peers number = refl
other_restored Own number = refl

restored_self : (c : Class) → true ≡ same_deliverer (Restored c) (Restored c)
unfolding same_deliverer
restored_self Feeders = refl
restored_self Peers = refl
restored_self Own = refl

own_numbers : (c : Class) (number mark : ℕ) → (c ≡ Own → ⊥) → eqb number mark ≡ same_deliverer (own_deliverer c number) (own_deliverer c mark)
unfolding same_deliverer
own_numbers Feeders number mark o = refl
own_numbers Peers number mark o = refl
own_numbers Own number mark o = absurd (o refl)

module _ (c : Class) (kind number other mark : ℕ) where
  abbrev same : Bool
  same = same_deliverer (read_who c kind number) (read_who c other mark)

  pub who_restored : kind ≡ 3 → eqb kind other ≡ same
  who_restored k =
      by_test (eqb other 3)
      (λ e. let z : eqb kind other ≡ true = eq-eqb kind other (k ∙ sym (eqb-true other 3 e)) in rw z (rw (k, e) (restored_self c)))
      (λ e. let z : eqb kind other ≡ false = ne_eqb kind other (λ d. eqb-false other 3 e (sym d ∙ k)) in rw z (rw (k, e) (restored_other c mark)))

  pub who_other : (kind ≡ 3 → ⊥) → other ≡ 3 → eqb kind other ≡ same
  who_other n k = let z : eqb kind other ≡ false = ne_eqb kind other (λ d. n (d ∙ k)) in rw z (rw (ne_eqb kind 3 n, k) (other_restored c number))

  pub who_numbered : (kind ≡ 3 → ⊥) → (other ≡ 3 → ⊥) → (c ≡ Own → ⊥) → eqb number mark ≡ same
  unfolding same_deliverer
  who_numbered n m o = rw (ne_eqb kind 3 n, ne_eqb other 3 m) (own_numbers c number mark o)

  pub who_own : (kind ≡ 3 → ⊥) → (other ≡ 3 → ⊥) → c ≡ Own → true ≡ same
  unfolding same_deliverer
  who_own n m o = rw (ne_eqb kind 3 n, ne_eqb other 3 m, o)
