-- No ticket is New twice in the numbers that a C host sees (specs/OnceInNumbers). Assumes nothing.
use Prim.Native.Nat.{ℕ}
use mathlib.Core.Path.{◌≡◌, refl, ap, sym, ◌∙◌, subst}
use mathlib.Core.Bool.{Bool, true, false, ◌&&◌}
use mathlib.Core.List.{List, [], ◌∷◌, ◌++◌, map}
use Rattle.std.specs.Prelude.{Some}
use lib.Dec.{eqb}
use lib.ListN.{get_or}
use native.Mathlib.Omega.{arith}
use Rattle.runs.proofs.Cases.{no}
use Rattle.model.specs.declared.Verdict.TheVariants.{New}
use Rattle.model.specs.Answer.{Answer}
use Rattle.model.specs.Answer.{Said}
use Rattle.model.specs.Codes.{went_through}
use Rattle.model.specs.Calls.{Sort, Asks, Takes, Restores, Resumes, Plain, Kind, Opens, OnOne, Sets, Other, kind, reply, after}
use Rattle.model.specs.View.{Given, words_after}
use Rattle.model.specs.Once.{Strike, sort_asks, asks_about, sort_takes, takes, renews, remakes, remade_among}
use Rattle.model.proofs.Choice.{or_false, and_false}
use Rattle.model.proofs.ToldApart.{zero_is_through}
use Rattle.model.proofs.Once.{no_ticket_twice}
use Rattle.strikes_c.specs.Out.{value_out, values_out, Returned}
use Rattle.strikes_c.specs.OnceInNumbers.{Served, AllKept, SaysNew, sort_ends, kind_ends, ended_among, OnceInNumbers}
use Rattle.strikes_c.proofs.ZeroIsNew.{says, new_number}

-- ---- a take asks about its ticket
sort_asks_too : (t : Strike) (r : ℕ) (d : Sort) → sort_takes r d ≡ Some t → sort_asks r d ≡ Some t
unfolding sort_takes sort_asks
sort_asks_too t r (Asks a) e = no (cc)
sort_asks_too t r (Takes a) e = e
sort_asks_too t r Restores e = e
sort_asks_too t r Resumes e = e
sort_asks_too t r Plain e = e

asks_too : (t : Strike) (k : Kind) → takes k ≡ Some t → asks_about k ≡ Some t
unfolding takes asks_about
asks_too t (Opens limits starts) e = e
asks_too t (OnOne r d) e = sort_asks_too t r d e
asks_too t (Sets limits) e = e
asks_too t Other e = e

-- ---- a call that kept its contract, and said New by its numbers
abbrev given : Served → Given
given x = record { settings = x.settings; call = x.call }

abbrev Kept : List ℕ → Served → Type 0
Kept ws x = Returned x.settings ws x.call x.returned x.left x.olds x.news

first_out : (a : Answer) (olds : List ℕ) → values_out 0 a olds ≡ 0 ∷ [] → (old : ℕ) × (value_out 0 a old ≡ 0)
first_out a [] e = absurd (let k : ◌≡◌ {A = ℕ} 1 0 = ap (λ (l : List ℕ). get_or l 0 1) e in omega arith)
first_out a (old ∷ olds) e = (old, ap (λ (l : List ℕ). get_or l 0 1) e)

is_new : (ws : List ℕ) (x : Served) (t : Strike) → Kept ws x → asks_about (kind x.call) ≡ Some t → SaysNew x → reply x.settings ws x.call ≡ Said New
is_new ws x t c asks s =
    let v = first_out (reply x.settings ws x.call) x.olds (sym c.values ∙ s.verdict) in
    says x.settings ws x.call t asks New v.0 (sym c.number ∙ s.returned) (v.1 ∙ sym new_number)

-- ---- what remakes a register ends the promise by its numbers
and_no : (b : Bool) → (b && false) ≡ false
and_no true = refl
and_no false = refl

module _ (ws : List ℕ) (x : Served) (c : Kept ws x) where
  abbrev answer : Answer
  answer = reply x.settings ws x.call

  -- it returned another number than 0: it did not go through
  not_through : eqb x.returned 0 ≡ false → went_through answer ≡ false
  not_through e = sym (zero_is_through x.settings ws x.call) ∙ ap (λ (n : ℕ). eqb n 0) (sym c.number) ∙ e

  sort_not : (d : Sort) → sort_ends d x ≡ false → renews d answer ≡ false
  unfolding sort_ends renews
  sort_not (Asks a) e = refl
  sort_not (Takes a) e = refl
  sort_not Restores e = refl
  sort_not Resumes e = not_through e
  sort_not Plain e = refl

  not_remade : (r : ℕ) (k : Kind) → kind_ends r k x ≡ false → remakes r k answer ≡ false
  unfolding kind_ends remakes
  not_remade r (Opens limits starts) e = not_through e
  not_remade r (OnOne q d) e = and_false (eqb r q) (sort_ends d x) e (λ f. rw f refl) (λ f. rw (sort_not d f) (and_no (eqb r q)))
  not_remade r (Sets limits) e = refl
  not_remade r Other e = refl

-- ---- the list: no register is remade in it, and the call after it kept its contract on the words that it left
through_list : (r : ℕ) (ws : List ℕ) (xs : List Served) (later : Served) → AllKept ws (xs ++ (later ∷ [])) → ended_among r xs ≡ false
    → (remade_among r ws (map given xs) ≡ false) × Kept (words_after ws (map given xs)) later
unfolding ended_among remade_among words_after
through_list r ws [] later kept clear = (refl, kept.0)
through_list r ws (x ∷ xs) later kept clear =
    let n = or_false (kind_ends r (kind x.call) x) (ended_among r xs) clear in
    let rest = subst (λ (l : List ℕ). AllKept l (xs ++ (later ∷ []))) kept.0.words kept.1 in
    let p = through_list r (after x.settings ws x.call) xs later rest n.1 in
    (rw (not_remade ws x kept.0 r (kind x.call) n.0) p.0, p.1)

pub once_in_numbers : OnceInNumbers
once_in_numbers ws t first between later kept take new clear ask again =
    let now = is_new ws first t kept.0 (asks_too t (kind first.call) take) new in
    let rest = subst (λ (l : List ℕ). AllKept l (between ++ (later ∷ []))) kept.0.words kept.1 in
    let p = through_list t.register (after first.settings ws first.call) between later rest clear in
    no_ticket_twice ws t (given first) (map given between) (given later) take now p.0 ask
    (is_new (words_after (after first.settings ws first.call) (map given between)) later t p.1 ask again)
