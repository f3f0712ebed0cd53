-- Sound words are those of a class of Feeders.
use Prim.Native.Nat.{ℕ}
use mathlib.Core.Path.{◌≡◌, refl}
use mathlib.Core.Bool.{true}
use mathlib.Core.List.{List}
use lib.ListN.{length}
use Rattle.model.specs.declared.Class.TheVariants.{Feeders}
use Rattle.model.specs.Settings.{shares_fit}
use Rattle.model.specs.BookWords.{class_form}
use Rattle.model.specs.Words.{class_width}
use Rattle.model.proofs.BookWords.{class_exact}
use Rattle.book.specs.ClassRules.{ClassIs}
use Rattle.book.proofs.Finding.{class_is}
use Rattle.book_expiry_try.specs.Fixed.{fixed}

pub in_bounds : (n : ℕ) → n ≡ class_width fixed → (shares_fit fixed ≡ true) × (n ≡ class_width fixed)
unfolding shares_fit
in_bounds n long = (refl, long)

pub is_class : (ws : List ℕ) → length ws ≡ class_width fixed → (class_form fixed Feeders).test ws ≡ true → ClassIs fixed Feeders ws
unfolding shares_fit
is_class ws long sound =
    let q = (class_exact fixed Feeders).back ws long sound in
    class_is fixed Feeders ws refl (record { value = (class_form fixed Feeders).read ws; ok = q.0; words = q.1 })
