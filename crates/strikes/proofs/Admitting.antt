-- What the first refusals mean for each kind of call, and what a call that passes them may use.
use Prim.Native.Nat.{ℕ}
use native.Mathlib.Omega.{arith}
use mathlib.Core.Path.{◌≡◌, sym, ◌∙◌, ap}
use mathlib.Core.Bool.{Bool, true, false, not, and-true, and-false}
use mathlib.Core.List.{List, [], ◌∷◌, ◌++◌}
use lib.Dec.{leb, eqb}
use lib.ListN.{length}
use borrow.Author.Tests.{ltb-false, not-false}
use Rattle.runs.proofs.Cases.{by_test, both_true}
use Rattle.model.specs.declared.Settings.{Settings}
use Rattle.model.specs.Settings.{settings_of, settings_fit}
use Rattle.model.specs.Words.{State}
use Rattle.model.specs.Calls.{Deed, Call, On, Refusal, refusal, first_met, settings_words_fit, no_refusals}
use Rattle.model.specs.Calls.{deed_fits, codes_fit, unfit, is_open, too_short, sound, unsound, no_such_register, deed_refusals, own_refusals, refused}
use Rattle.model.specs.Calls.{register_at, held_in}
use Rattle.vet.specs.Vetted.{vetted}
use Rattle.strikes.specs.Admitted.{admits}
use Rattle.strikes.proofs.Through.{Entered, entered}

-- ---- lists of refusals
-- the first of some that is met is the first of more
first_of : (xs rest : List Refusal) (n : ℕ) → first_met xs ≡ n → (n ≡ 0 → ⊥) → first_met (xs ++ rest) ≡ n
unfolding first_met
first_of [] rest n e h = absurd (h (sym e))
first_of (x ∷ xs) rest n e h = by_test x.met (λ t. rw t (rw t at e)) (λ f. rw f (first_of xs rest n (rw f at e) h))

-- where none is met, not the first
pub none_of : (n : ℕ) (b : Bool) (xs : List Refusal) → (n ≡ 0 → ⊥) → first_met (refusal n b ∷ xs) ≡ 0 → (b ≡ false) × (first_met xs ≡ 0)
unfolding first_met
none_of n b xs h e = by_test b (λ t. absurd (h (rw t at e))) (λ f. (f, rw f at e))

-- what may refuse a call after 4
unfoldable pub first_own : List Refusal → ℕ
first_own own = first_met own

-- ---- 1, 2 and 3
module _ (st ws : List ℕ) where
  -- where none of them is met
  pub record Vets : Type 0 where
    pub unmet : (not (settings_words_fit st) ≡ false) × (too_short st ws ≡ false) × (not (sound (settings_of st) ws) ≡ false)
    pub fit : settings_words_fit st ≡ true
    pub may : Entered (settings_of st) ws

  pub vets_pass : vetted st ws ≡ 0 → Vets
  unfolding vetted too_short settings_words_fit
  vets_pass e =
      let a = none_of 1 (not (settings_words_fit st)) _ (λ k. omega arith) e in
      let b = none_of 2 (too_short st ws) _ (λ k. omega arith) a.1 in
      let c = none_of 3 (not (sound (settings_of st) ws)) _ (λ k. omega arith) b.1 in
      let f = not-false _ a.0 in
      let g = both_true (eqb (length st) 29) (settings_fit (settings_of st)) f in
      record {
        unmet = (a.0, b.0, c.0);
        fit = f;
        may = entered (settings_of st) ws g.1 (ltb-false _ _ b.0) (not-false _ c.0);
      }

  none_vetted : not (settings_words_fit st) ≡ false → too_short st ws ≡ false → not (sound (settings_of st) ws) ≡ false → vetted st ws ≡ 0
  unfolding vetted first_met
  none_vetted p q r = rw (p, q, r)

  -- a code that is not listed
  pub unlisted : (call : Call) → codes_fit (settings_of st) call ≡ false → refused st ws call ≡ 1
  unfolding refused unfit first_met
  unlisted call n = rw (n, and-false (settings_words_fit st))

-- ---- and 4
module _ (st ws : List ℕ) (r : ℕ) where
  pub first_three : (n : ℕ) → n ≡ vetted st ws → (n ≡ 0 → ⊥) → n ≡ admits st ws r
  unfolding vetted admits
  first_three n v h = sym (first_of (refusal 1 _ ∷ refusal 2 _ ∷ refusal 3 _ ∷ []) (refusal 4 _ ∷ []) n (sym v) h)

  module _ (v : vetted st ws ≡ 0) where
    pub no_register : leb (settings_of st).registers r ≡ true → 4 ≡ admits st ws r
    unfolding admits first_met
    no_register h = let p = (vets_pass st ws v).unmet in rw (p.0, p.1, p.2, h)

    pub all_passed : leb (settings_of st).registers r ≡ false → admits st ws r ≡ 0
    unfolding admits first_met
    all_passed h = let p = (vets_pass st ws v).unmet in rw (p.0, p.1, p.2, h)

  pub admits_pass : admits st ws r ≡ 0 → Vets st ws × (leb (settings_of st).registers r ≡ false)
  unfolding admits
  admits_pass e =
      let a = none_of 1 (not (settings_words_fit st)) _ (λ k. omega arith) e in
      let b = none_of 2 (too_short st ws) _ (λ k. omega arith) a.1 in
      let c = none_of 3 (not (sound (settings_of st) ws)) _ (λ k. omega arith) b.1 in
      let d = none_of 4 (leb (settings_of st).registers r) [] (λ k. omega arith) c.1 in
      (vets_pass st ws (none_vetted st ws a.0 b.0 c.0), d.0)

  -- a call on the register, its codes listed
  module _ (deed : Deed) (fits : deed_fits deed ≡ true) where
    pub refused_early : (n : ℕ) → n ≡ admits st ws r → (n ≡ 0 → ⊥) → refused st ws (On r deed) ≡ n
    unfolding refused admits unfit codes_fit unsound is_open no_such_register
    refused_early n e h =
        rw (fits, and-true (settings_words_fit st)) (first_of (refusal 1 _ ∷ refusal 2 _ ∷ refusal 3 _ ∷ refusal 4 _ ∷ []) _ n (sym e) h)

    pub refused_own : admits st ws r ≡ 0 → refused st ws (On r deed) ≡ first_own (deed_refusals (register_at r (held_in (settings_of st) ws)) deed)
    unfolding refused admits unfit codes_fit unsound is_open no_such_register own_refusals first_own first_met
    refused_own e = let p = admits_pass e in let q = p.0.unmet in rw (fits, and-true (settings_words_fit st)) (rw (q.0, q.1, q.2, p.1))

  -- or not
  pub deed_unlisted : (deed : Deed) → deed_fits deed ≡ false → refused st ws (On r deed) ≡ 1
  unfolding codes_fit
  deed_unlisted deed n = unlisted st ws (On r deed) n

-- ---- a call on the book is no opening and names no register
pub record OfBook (call : Call) : Type 0 where
  pub shut : is_open call ≡ false
  pub unnumbered : (s : Settings) → no_such_register s call ≡ false

-- and nothing refuses it after 3
pub record OnBook (call : Call) : Type 0 where
  pub of : OfBook call
  pub never : (s : Settings) (t : State) → own_refusals s call t ≡ no_refusals

module _ (st ws : List ℕ) (call : Call) (of : OfBook call) (fits : codes_fit (settings_of st) call ≡ true) where
  book_list : refused st ws call
      ≡ first_met (refusal 1 (not (settings_words_fit st)) ∷ refusal 2 (too_short st ws) ∷ refusal 3 (not (sound (settings_of st) ws))
      ∷ refusal 4 false ∷ own_refusals (settings_of st) call (held_in (settings_of st) ws))
  unfolding refused unfit unsound
  book_list = rw (of.shut, of.unnumbered (settings_of st), fits, and-true (settings_words_fit st))

  pub book_early : (n : ℕ) → n ≡ vetted st ws → (n ≡ 0 → ⊥) → refused st ws call ≡ n
  unfolding vetted
  book_early n e h = book_list ∙ first_of (refusal 1 _ ∷ refusal 2 _ ∷ refusal 3 _ ∷ []) (refusal 4 _ ∷ own_refusals _ _ _) n (sym e) h

  pub book_own : vetted st ws ≡ 0 → refused st ws call ≡ first_own (own_refusals (settings_of st) call (held_in (settings_of st) ws))
  unfolding first_own first_met
  book_own e = let p = (vets_pass st ws e).unmet in book_list ∙ rw (p.0, p.1, p.2)

pub book_never : (st ws : List ℕ) (call : Call) → OnBook call → codes_fit (settings_of st) call ≡ true → vetted st ws ≡ 0 → refused st ws call ≡ 0
unfolding first_own first_met
book_never st ws call on fits e =
    book_own st ws call on.of fits e ∙ ap first_own (on.never (settings_of st) (held_in (settings_of st) ws))
