-- Going by the cases of a disjunction, of a class, and of one class among three. Assumes nothing.
use mathlib.Core.Path.{◌≡◌, refl}
use mathlib.Core.Bool.{Bool, true, false, ◌&&◌, ◌||◌}
use Rattle.model.specs.declared.Class.{Class}
use Rattle.model.specs.declared.Class.TheVariants.{Feeders, Peers, Own}
use Rattle.runs.proofs.Cases.{no}
use Rattle.model.specs.Class.{Each, pick, swap}

pub or_left : (a b : Bool) → a ≡ true → (a || b) ≡ true
or_left a b p = cc

pub or_right : (a b : Bool) → b ≡ true → (a || b) ≡ true
or_right true b p = refl
or_right false b p = p

pub or_cases : (a b : Bool) {Q : Type 0} → (a || b) ≡ true → (a ≡ true → Q) → (b ≡ true → Q) → Q
or_cases true b p f g = f refl
or_cases false b p f g = g p

pub or_false : (a b : Bool) → (a || b) ≡ false → (a ≡ false) × (b ≡ false)
or_false true b p = (p, (cc))
or_false false b p = (refl, p)

pub and_false : (a b : Bool) {Q : Type 0} → (a && b) ≡ false → (a ≡ false → Q) → (b ≡ false → Q) → Q
and_false true b p f g = g p
and_false false b p f g = f refl

pub true_false : {Q : Type 0} {b : Bool} → b ≡ true → b ≡ false → Q
true_false p q = no (cc)

-- ---- one class's part is replaced: what holds of the new part, and of the others as they were
pub swap_cases : {A : Type 0} (P : A → Type 0) (c d : Class) (x : A) (e : Each A) → (c ≡ d → P x) → P (pick d e) → P (pick d (swap c x e))
swap_cases P Feeders Feeders x e f p = f refl
swap_cases P Feeders Peers x e f p = p
swap_cases P Feeders Own x e f p = p
swap_cases P Peers Feeders x e f p = p
swap_cases P Peers Peers x e f p = f refl
swap_cases P Peers Own x e f p = p
swap_cases P Own Feeders x e f p = p
swap_cases P Own Peers x e f p = p
swap_cases P Own Own x e f p = f refl

pub swap_same : {A : Type 0} (P : A → Type 0) (c : Class) (x : A) (e : Each A) → P x → P (pick c (swap c x e))
swap_same P Feeders x e p = p
swap_same P Peers x e p = p
swap_same P Own x e p = p
