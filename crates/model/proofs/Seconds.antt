-- A draw's second is rounded up (specs/Seconds), and so is the second that an expire stores. Assumes nothing.
use Prim.Native.Nat.{ℕ, ◌*◌, min}
use native.Mathlib.Omega.{arith}
use mathlib.Core.Path.{◌≡◌, refl}
use mathlib.Core.Logic.{inl, inr}
use lib.Dec.{leb}
use borrow.Author.Tests.{leb-true, leb-false}
use Rattle.model.specs.declared.Shares.{Shares}
use Rattle.model.specs.declared.Usable.{Usable}
use Rattle.model.specs.declared.Verdict.{Verdict}
use Rattle.model.specs.declared.Verdict.TheVariants.{New}
use Rattle.runs.proofs.Cases.{by_test}
use Rattle.model.specs.Numbers.{top64, top32, cap64, cap32, ceil}
use Rattle.model.specs.Book.{Book, second_of, drawn}
use Rattle.model.specs.Register.{Register}
use Rattle.model.specs.Judge.{Ask, bucket_of, judge, judge_batch, Taken, take_room, take_judged, take, take_batch}
use Rattle.model.specs.Seconds.{RoundedUp, SecondsRoundedUp}
use Rattle.model.proofs.Judging.{taken_cases}

pub rounded_up : (ms : ℕ) → RoundedUp ms (cap32 (ceil ms 1_000))
unfolding cap32 ceil
rounded_up ms = record {
  enough = by_test (leb (ceil ms 1_000) top32) (λ e. let h = leb-true (ceil ms 1_000) top32 e in inl (omega arith))
      (λ e. let h = leb-false (ceil ms 1_000) top32 e in inr (omega arith));
  no_more = omega arith;
  capped = omega arith;
}

second_up : (bucket width : ℕ) → RoundedUp (min (bucket * width) top64) (second_of bucket width)
unfolding second_of cap64
second_up bucket width = rounded_up (min (bucket * width) top64)

-- ---- the draw of a take
module _ (u : Usable) (b : Shares) (a : Ask) (k : Book) (reg : Register) where
  abbrev second : ℕ
  second = second_of (bucket_of u a.stamp) u.bucket

  rest_enters : (v : Verdict) → (take_judged u b a k reg v).says ≡ New → (take_judged u b a k reg v).book ≡ drawn b a.who second k
  unfolding take_room
  rest_enters =
      taken_cases u b a k reg (λ (y : Taken). y.says ≡ New → y.book ≡ drawn b a.who second k) (λ i r g e. refl) (λ v n e. absurd (n e))

pub seconds_rounded_up : SecondsRoundedUp
unfolding take take_batch
seconds_rounded_up u b reg k a = record {
  of_take = record {
    second = second_of (bucket_of u a.stamp) u.bucket;
    rounded = second_up (bucket_of u a.stamp) u.bucket;
    entered = rest_enters u b a k (judge u reg a).register (judge u reg a).says;
  };
  of_batch = record {
    second = second_of (bucket_of u a.stamp) u.bucket;
    rounded = second_up (bucket_of u a.stamp) u.bucket;
    entered = rest_enters u b a k (judge_batch u reg a).register (judge_batch u reg a).says;
  };
}
