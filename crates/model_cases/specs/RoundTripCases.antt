-- A round trip whose conditions are met: from register 0 of one run of words to register 1 of another, with other settings of the book, in
-- which both classes hold entries already, a restored deliverer's among them.
use Rattle.std.specs.Prelude.{ℕ, ◌+◌, List, [], ◌∷◌, replicate}
use Rattle.runs.specs.Chunks.{flat}
use Rattle.model.specs.declared.Manner.TheVariants.{Taken}
use Rattle.model.specs.Settings.{settings_of, words_needed}
use Rattle.model.specs.Dump.{word_bytes}
use Rattle.model.specs.Calls.{Ticket, Sweep, DumpTo, Restore, Call, Open, On, Close, after}
use Rattle.model.specs.View.{Given, words_after}

-- kind 0 is a Feeder, 1 a Peer; stamped at the reading
abbrev pub takes : ℕ → ℕ → ℕ → ℕ → ℕ → Call
takes r kind id fp ms = On r (Ticket Taken (record { fp = fp; stamp = ms; ms = ms; flag = 1; kind = kind; number = id }))

abbrev pub brings : List ℕ → Call → Given
brings settings call = record { settings = settings; call = call }

-- ---- the source: R 1, P 3, E 2, both units 1; 2,000 behind, 0 ahead, bucket 1,000, S 8
abbrev pub source_settings : List ℕ
source_settings = 1 ∷ 3 ∷ 2 ∷ 1 ∷ 1 ∷ 2_000 ∷ 0 ∷ 2_000 ∷ 0 ∷ 1_000 ∷ 8 ∷ replicate 18 0

-- two Feeders' tickets are in bucket 3, which a sweep drops, so the floor is 1,000; one Feeder's and two Peers' are in bucket 4
abbrev pub source_calls : List Given
source_calls =
    brings source_settings (Open (replicate 5 9) (replicate 8 0)) ∷ brings source_settings (takes 0 0 1 11 1_000)
    ∷ brings source_settings (takes 0 0 2 12 1_000) ∷ brings source_settings (takes 0 0 1 13 2_000) ∷ brings source_settings (takes 0 1 7 21 2_000)
    ∷ brings source_settings (takes 0 1 8 22 2_000) ∷ brings source_settings (On 0 (Sweep 4_000)) ∷ []

abbrev pub source_words : List ℕ
source_words = words_after (replicate (words_needed (settings_of source_settings)) 5) source_calls

-- an output of 120 bytes, of which the dump writes 104: 13 words
abbrev pub output : List ℕ
output = replicate 120 9

abbrev pub dump_call : Call
dump_call = On 0 (DumpTo output)

-- ---- the target: R 2, P 3, E 4, units 2 and 1; register 0 has a ring of 2 and 4 slots, register 1 the settings of the source
abbrev pub target_settings : List ℕ
target_settings =
    2 ∷ 3 ∷ 4 ∷ 2 ∷ 1 ∷ 0 ∷ 0 ∷ 0 ∷ 0 ∷ 1_000 ∷ 4 ∷ 2_000 ∷ 0 ∷ 2_000 ∷ 0 ∷ 1_000 ∷ 8 ∷ replicate 12 0

abbrev pub target_opening : Call
target_opening = Open (replicate 5 9) (replicate 8 0)

-- after it register 0 restores one entry of class 0, and takes a Feeder's and a Peer's ticket; a call without settings is refused
abbrev pub target_calls : List Given
target_calls =
    brings target_settings (On 0 (Restore (flat word_bytes (0 ∷ 1 ∷ 7 ∷ 6_500 ∷ 1 ∷ 31 ∷ 0 ∷ 0 ∷ []))))
    ∷ brings target_settings (takes 0 0 1 41 8_000) ∷ brings [] Close ∷ brings target_settings (takes 0 1 7 42 8_000) ∷ []

-- two words more than it needs
abbrev pub target_words : List ℕ
target_words = words_after (after target_settings (replicate (words_needed (settings_of target_settings) + 2) 6) target_opening) target_calls
