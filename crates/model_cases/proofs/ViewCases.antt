-- Request Q-1 by computing: the oldest stamp through insertions, restores, sweeps and drops, and what the two views show.
use Prim.Native.Nat.{ℕ}
use mathlib.Core.Path.{◌≡◌, refl}
use mathlib.Core.List.{List, [], ◌∷◌, ◌++◌}
use lib.ListN.{replicate}
use Rattle.runs.specs.Chunks.{flat}
use Rattle.model.specs.declared.Class.TheVariants.{Peers}
use Rattle.model.specs.declared.Deliverer.TheVariants.{Feeder, Peer, Restored}
use Rattle.model.specs.declared.Manner.TheVariants.{Taken}
use Rattle.model.specs.Answer.{Refused, Viewed}
use Rattle.model.specs.Settings.{settings_of}
use Rattle.model.specs.Register.{generation_at}
use Rattle.model.specs.Dump.{word_bytes}
use Rattle.model.specs.RawViews.{deliverer_view, register_view}
use Rattle.model.specs.Words.{State}
use Rattle.model.specs.Calls.{Ticket, Sweep, Restore, ViewRegister, Call, On, ViewDeliverer, register_at, opened}
use Rattle.model.specs.View.{left_by}
use Rattle.model.specs.Once.{Answered, moments}
use Rattle.model.specs.SameAnswers.{served, state_after}
use Rattle.model.specs.Worked.{before, last, open_ample, take_it, P1}
use Rattle.model.proofs.NotVacuous.{compute_all, given, opened_words, ask}

-- the view of register 0 after calls under the settings of the worked cases
abbrev viewed_after : List Call → List ℕ
viewed_after calls = register_view (register_at 0 (last before calls))

-- a dump of one Feeders' generation in bucket 120, and of one Peers' there
abbrev dump_of : ℕ → ℕ → Call
dump_of newest fp = On 0 (Restore (flat word_bytes (0 ∷ 1 ∷ 120 ∷ newest ∷ 1 ∷ fp ∷ 0 ∷ 0 ∷ [])))

abbrev dump_of_peers : Call
dump_of_peers = On 0 (Restore (flat word_bytes (0 ∷ 0 ∷ 1 ∷ 120 ∷ 100_000 ∷ 1 ∷ 7 ∷ 0 ∷ [])))

-- ---- a register's view: P1; two stamps of one bucket, in either order
pub view_of_P1 : viewed_after P1 ≡ 120 ∷ 100_000 ∷ 100_000 ∷ 1 ∷ []
unfolding compute_all served state_after
view_of_P1 = refl

pub view_of_two : viewed_after (open_ample ∷ take_it 7 100_000 ∷ take_it 8 99_500 ∷ []) ≡ 120 ∷ 99_500 ∷ 100_000 ∷ 2 ∷ []
unfolding compute_all served state_after
view_of_two = refl

-- Feeders by position, bucket 120 at 0 and bucket 119 at 23, then Peers
pub view_in_sequence : viewed_after (open_ample ∷ dump_of_peers ∷ take_it 9 99_000 ∷ take_it 8 100_000 ∷ [])
    ≡ 120 ∷ 100_000 ∷ 100_000 ∷ 1 ∷ 119 ∷ 99_000 ∷ 99_000 ∷ 1 ∷ 120 ∷ 100_000 ∷ 100_000 ∷ 1 ∷ []
unfolding compute_all served state_after
view_in_sequence = refl

-- ---- stamps 0 and 5 in a bucket of 60,000 ms, in either order: a stamp of 0 is a stamp
abbrev wide_settings : List ℕ
wide_settings = 1 ∷ 8 ∷ 16 ∷ 1 ∷ 1 ∷ 10_000 ∷ 2_000 ∷ 20_000 ∷ 2_000 ∷ 60_000 ∷ 8 ∷ replicate 18 0

abbrev taken_at : ℕ → ℕ → Call
taken_at fp stamp = On 0 (Ticket Taken (record { fp = fp; stamp = stamp; ms = 5; flag = 1; kind = 0; number = 1 }))

abbrev viewed_wide : List Call → List ℕ
viewed_wide calls = register_view (register_at 0 (state_after wide_settings (opened (settings_of wide_settings) [] []) (open_ample ∷ calls)))

pub zero_then_five : viewed_wide (taken_at 7 0 ∷ taken_at 8 5 ∷ []) ≡ 1 ∷ 0 ∷ 5 ∷ 2 ∷ []
unfolding compute_all served state_after
zero_then_five = refl

pub five_then_zero : viewed_wide (taken_at 7 5 ∷ taken_at 8 0 ∷ []) ≡ 1 ∷ 0 ∷ 5 ∷ 2 ∷ []
unfolding compute_all served state_after
five_then_zero = refl

-- ---- "a restored fingerprint counts as inserted at the dump's newest": a second, older restore lowers the oldest, also of a
-- fingerprint that is held already
pub older_restore : viewed_after (open_ample ∷ dump_of 100_000 7 ∷ dump_of 99_500 8 ∷ []) ≡ 120 ∷ 99_500 ∷ 100_000 ∷ 2 ∷ []
unfolding compute_all served state_after
older_restore = refl

pub held_already : viewed_after (P1 ++ (dump_of 99_500 7 ∷ [])) ≡ 120 ∷ 99_500 ∷ 100_000 ∷ 1 ∷ []
unfolding compute_all served state_after
held_already = refl

-- ---- a sweep drops it: nothing is shown, and the oldest is 0 again
pub swept_away : viewed_after (P1 ++ (On 0 (Sweep 140_000) ∷ [])) ≡ []
unfolding compute_all served state_after
swept_away = refl

pub zero_when_empty : (generation_at (register_at 0 (last before (P1 ++ (On 0 (Sweep 140_000) ∷ [])))).rings.of_feeders 120).oldest ≡ 0
unfolding compute_all served state_after
zero_when_empty = refl

-- ---- a deliverer's view: its pairs rising and then its entries; a stranger has one word; a Restored is no Peer
abbrev shared_out : State
shared_out = last before (open_ample ∷ take_it 7 100_000 ∷ take_it 8 100_000 ∷ take_it 9 99_000 ∷ dump_of_peers ∷ [])

pub pairs_then_entries : deliverer_view (Feeder 1) shared_out.book ≡ 119 ∷ 1 ∷ 120 ∷ 2 ∷ 3 ∷ []
unfolding compute_all served state_after
pairs_then_entries = refl

pub a_stranger : deliverer_view (Feeder 2) shared_out.book ≡ 0 ∷ []
unfolding compute_all served state_after
a_stranger = refl

pub restored_is_no_peer : (deliverer_view (Peer 1) shared_out.book ≡ 0 ∷ []) × (deliverer_view (Restored Peers) shared_out.book ≡ 120 ∷ 1 ∷ 1 ∷ [])
unfolding compute_all served state_after
restored_is_no_peer = (refl, refl)

-- ---- 8: an output that is one word short, and one that is just long enough; 4 comes before it
abbrev view_into : ℕ → ℕ → Call
view_into r n = On r (ViewRegister (replicate n 0))

pub short_and_enough : moments (left_by opened_words (given (ask Taken 1 7 6)))
    (given (view_into 0 3) ∷ given (view_into 0 4) ∷ given (view_into 1 3) ∷ given (ViewDeliverer 0 1 (replicate 2 0)) ∷ given (ViewDeliverer 0 1 (replicate 3 0))
    ∷ given (ViewDeliverer 4 1 []) ∷ [])
    ≡ Answered (view_into 0 3) (Refused 8) ∷ Answered (view_into 0 4) (Viewed 4) ∷ Answered (view_into 1 3) (Refused 4)
    ∷ Answered (ViewDeliverer 0 1 (replicate 2 0)) (Refused 8) ∷ Answered (ViewDeliverer 0 1 (replicate 3 0)) (Viewed 3)
    ∷ Answered (ViewDeliverer 4 1 []) (Refused 1) ∷ []
unfolding compute_all
short_and_enough = refl
