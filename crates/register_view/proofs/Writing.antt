-- A generation's four words, as the code writes them.
use Prim.Native.Nat.{ℕ}
use mathlib.Core.Path.{◌≡◌, sym, ◌∙◌}
use mathlib.Core.List.{List, [], ◌∷◌}
use lib.ListN.{get_or}
use borrow.Author.Tests.{eq-eqb, ne_eqb}
use Rattle.runs.specs.Over.{Fits, Puts}
use Rattle.runs.proofs.Over.{puts_none}
use Rattle.generation.specs.declared.Generation.{Generation as Leading}
use Rattle.generation.specs.Words.{Leads}
use Rattle.register_view.specs.Views.{part_view}

module _ {ws : List ℕ} {g : Leading} (l : Leads ws g) where
  pub view_none : {enc : ℕ → List ℕ} {k p : ℕ} {out : List ℕ} → g.held ≡ 0 → Puts enc k p (part_view ws) out out p
  unfolding part_view
  view_none {enc} {k} {p} {out} z = rw (eq-eqb (get_or ws 1 0) 0 (sym l.held ∙ z)) (puts_none enc k p out)

  module _ (n : g.held ≡ 0 → ⊥) where
    view_is : part_view ws ≡ g.bucket ∷ g.oldest ∷ g.newest ∷ g.held ∷ []
    unfolding part_view
    view_is = rw (ne_eqb (get_or ws 1 0) 0 (λ z. n (l.held ∙ z)), l.bucket, l.oldest, l.newest, l.held)

    pub view_fits : {k p : ℕ} {out : List ℕ} → Fits k p (part_view ws) out → Fits k p (g.bucket ∷ g.oldest ∷ g.newest ∷ g.held ∷ []) out
    view_fits f = rw view_is at f

    pub view_puts : {enc : ℕ → List ℕ} {k p r : ℕ} {out after : List ℕ} → Puts enc k p (g.bucket ∷ g.oldest ∷ g.newest ∷ g.held ∷ []) out after r
        → Puts enc k p (part_view ws) out after r
    view_puts d = rw view_is d
