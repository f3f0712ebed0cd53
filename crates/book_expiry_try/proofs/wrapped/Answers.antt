use mathlib.Core.Path.{◌≡◌, ◌∙◌}
use native.Mathlib.Omega.{arith}
use Prim.Native.Nat.{◌<◌}
use lib.ListN.{length, length-set, set}
use Rattle.book_expiry_try.proofs.wrapped.Goals as goal

pub bounds-words-9-3 : goal.bounds-words-9-3
bounds-words-9-3 g c =
    let l = c.args.words.now in
    let p : 11 < length l = c.requires in
    let e : length (set (set l 9 18_446_744_073_709_551_615) 11 6) ≡ length l = length-set (set l 9 18_446_744_073_709_551_615) 11 6 ∙ length-set l 9 18_446_744_073_709_551_615 in
    let q : 9 < length (set (set l 9 18_446_744_073_709_551_615) 11 6) = omega arith in
    q
