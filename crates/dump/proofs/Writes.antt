-- What the words of a well-formed register let the code do, and what it has written after.
use Prim.Native.Nat.{ℕ}
use mathlib.Core.Path.{◌≡◌, ◌∙◌}
use mathlib.Core.List.{List}
use lib.ListN.{length}
use Rattle.model.specs.declared.Usable.{Usable}
use Rattle.model.specs.Widths.{generation_width}
use Rattle.model.specs.Settings.{ring_of}
use Rattle.model.specs.Dump.{dump_bytes}
use Rattle.numbers.proofs.Needed.{Few, usable_few}
use Rattle.register.specs.Words.{RegisterWords, RegisterReads}
use Rattle.dump.specs.Bytes.{Fits, Puts}
use Rattle.dump.specs.Parts.{register_words, register_long, LaidOut}
use Rattle.dump.proofs.Dumped.{register_counted, dumped, room_for, laid_out}
use Rattle.dump.specs.Outputs.{Holds, Outputs}

module _ (u : Usable) (ws : List ℕ) (w : RegisterWords u ws) where
  pub few : Few u
  few = usable_few u w.fit

  pub may_walk : {S n : ℕ} → S ≡ u.slots → n ≡ ring_of u → LaidOut (generation_width S) n ws
  may_walk e r = rw (e, r) (laid_out u w.is.value w.is.ok ws w.is.words few.slots few.ring)

  -- as its rings are lent
  module _ {S n : ℕ} {lent : List ℕ} (l : lent ≡ ws) (e : S ≡ u.slots) (r : n ≡ ring_of u) where
    pub counted : {m : ℕ} → m ≡ register_long (generation_width S) lent → RegisterReads u (λ reg. length (dump_bytes reg)) ws m
    counted x = record { says = λ reg ok is. (rw (l, e) at x) ∙ register_counted u reg ok ws is }

    pub has_room : {out : List ℕ} → Holds dump_bytes u ws out → Fits 0 (register_words (generation_width S) n lent) out
    has_room h = rw (l, e, r) (room_for u w.is.value w.is.ok ws w.is.words (h.room w.is.value w.is.ok w.is.words))

    pub wrote : {out mid after : List ℕ} {m : ℕ} → Puts 0 (register_words (generation_width S) n lent) out mid m → after ≡ mid
        → Outputs dump_bytes u ws out after m
    wrote p same =
        let q = rw (l, e, r, ← same) at p in
        record { out = record { says = λ reg ok is. (dumped u reg ok ws is q).0 }; count = record { says = λ reg ok is. (dumped u reg ok ws is q).1 } }
