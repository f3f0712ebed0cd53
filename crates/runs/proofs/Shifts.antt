-- Parts of a run that is written as three runs.
use Prim.Native.Nat.{ℕ}
use mathlib.Core.Path.{◌≡◌}
use mathlib.Core.List.{List, ◌++◌}
use lib.ListN.{length}
use lib.Seq.{take_at, drop_at}
use borrow.Rule.Slice.PartMut.{mid_of, put_mid}

-- ---- the middle of three runs, seen and replaced
pub mid_of_append : {A : Type 0} (u v w : List A) (a k : ℕ) → length u ≡ a → length v ≡ k → mid_of a k (u ++ (v ++ w)) ≡ v
mid_of_append u v w a k hu hv = rw (drop_at u (v ++ w) a hu) (take_at v w k hv)

pub put_of : {A : Type 0} (u v w y : List A) (a k : ℕ) → length u ≡ a → length v ≡ k → put_mid a k (u ++ (v ++ w)) y ≡ u ++ (y ++ w)
put_of u v w y a k hu hv = rw (drop_at u (v ++ w) a hu, take_at u (v ++ w) a hu, drop_at v w k hv)
