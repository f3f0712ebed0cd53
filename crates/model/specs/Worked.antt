-- "Tickets worked through": the cases marked P in one table, each number of the paper beside the calls that give it.
-- The theorem that the rules give them all is proofs/Worked; specs/WorkedOnWords says it of what the calls answer on words.
use Rattle.std.specs.Prelude.{ℕ, zero, suc, ◌+◌, ◌*◌, ◌%◌, List, [], ◌∷◌, ◌++◌, map, length, replicate}
use Rattle.model.specs.declared.Manner.{Manner}
use Rattle.model.specs.declared.Manner.TheVariants.{Judged, JudgedBatch, Taken}
use Rattle.model.specs.declared.Verdict.TheVariants.{New, Duplicate, Late, Ahead, Full}
use Rattle.model.specs.Answer.{Answer}
use Rattle.model.specs.Answer.{Done, Said, Yes, Dumped, NoFloor, FloorAt, Entries, Totals}
use Rattle.model.specs.Settings.{settings_of, usable_at, ring_of}
use Rattle.model.specs.Register.{generation_at}
use Rattle.model.specs.Judge.{bucket_of}
use Rattle.model.specs.Dump.{dump_words}
use Rattle.model.specs.Words.{State}
use Rattle.model.specs.Calls.{Call, Open, On, Expire, HeldBy, ClassTotals, Ticket, ContainsHash, Sweep, DumpTo, Floor, register_at, opened}
use Rattle.model.specs.SameAnswers.{answers_from, state_after}

-- ---- "Origin 10,000 behind, copy 20,000, both 2,000 ahead; bucket 1,000; ring 24; S 8; ample limits; one register, opened Empty."
-- (R, P, E and the place units come first; P, E and the Peer units are ours.)
abbrev pub settings : List ℕ
settings = 1 ∷ 8 ∷ 16 ∷ 1 ∷ 1 ∷ 10_000 ∷ 2_000 ∷ 20_000 ∷ 2_000 ∷ 1_000 ∷ 8 ∷ replicate 18 0

abbrev pub open_ample : Call
open_ample = Open (1_000 ∷ 1_000 ∷ 1_000 ∷ 1_000 ∷ 1_000 ∷ []) (replicate 8 0)

-- "T 12, Feeder units 1, shares 12"
abbrev pub open_twelve : Call
open_twelve = Open (12 ∷ 12 ∷ 12 ∷ 12 ∷ 12 ∷ []) (replicate 8 0)

-- kind 0 is a Feeder, 1 a Peer
abbrev pub ask : Manner → ℕ → ℕ → ℕ → ℕ → ℕ → Call
ask m kind id ms fp stamp = On 0 (Ticket m (record { fp = fp; stamp = stamp; ms = ms; flag = 1; kind = kind; number = id }))

-- "Reading 100,000, Feeder 1, unless said."
abbrev pub take_it : ℕ → ℕ → Call
take_it fp stamp = ask Taken 0 1 100_000 fp stamp

abbrev pub judge_it : ℕ → ℕ → Call
judge_it fp stamp = ask Judged 0 1 100_000 fp stamp

-- a Feeder takes n tickets, fingerprints from fp on, in so many buckets that no generation fills
unfoldable pub takes_by : ℕ → ℕ → ℕ → List Call
takes_by id zero fp = []
takes_by id (suc n) fp = ask Taken 0 id 100_000 fp (90_000 + 1_000 * (fp % 12)) ∷ takes_by id n (suc fp)

-- ---- calls on a state: before its opening there is nothing to know of it
abbrev pub before : State
before = opened (settings_of settings) [] []

abbrev pub last : State → List Call → State
last t calls = state_after settings t calls

-- ---- the table
pub record Case : Type 0 where
  pub calls : List Call
  pub gives : List Answer

abbrev pub P1 : List Call
P1 = open_ample ∷ take_it 7 100_000 ∷ []

unfoldable pub cases : List Case
cases =
    -- P1: New. P2: again, Duplicate. P3: same bucket, Duplicate. P4: New
    record {
      calls = open_ample ∷ take_it 7 100_000 ∷ take_it 7 100_000 ∷ take_it 7 99_500 ∷ take_it 7 99_000 ∷ [];
      gives = Done ∷ Said New ∷ Said Duplicate ∷ Said Duplicate ∷ Said New ∷ [];
    }
    -- P5, judged only: 90,000 New; 89,999 Late, from a Peer New. P6: 102,000 New; 102,001 Late, batch form Ahead
    ∷ record {
      calls = open_ample ∷ judge_it 7 90_000 ∷ judge_it 7 89_999 ∷ ask Judged 1 1 100_000 7 89_999 ∷ judge_it 7 102_000 ∷ judge_it 7 102_001
          ∷ ask JudgedBatch 0 1 100_000 7 102_001 ∷ [];
      gives = Done ∷ Said New ∷ Said Late ∷ Said New ∷ Said New ∷ Said Late ∷ Said Ahead ∷ [];
    }
    -- P7, after P1 alone: at 120,000 Duplicate; at 120,001 Late, floor 100,000, and Late again at 100,000
    ∷ record {
      calls = P1 ++ (ask Judged 0 1 120_000 7 100_000 ∷ On 0 Floor ∷ ask Judged 0 1 120_001 7 100_000 ∷ On 0 Floor ∷ judge_it 7 100_000 ∷ []);
      gives = Done ∷ Said New ∷ Said Duplicate ∷ NoFloor ∷ Said Late ∷ FloorAt 100_000 ∷ Said Late ∷ [];
    }
    -- P8, after P1 alone: at 76,000, (9, 76,000) judges New, take says Late
    ∷ record {
      calls = P1 ++ (ask Judged 0 1 76_000 9 76_000 ∷ ask Taken 0 1 76_000 9 76_000 ∷ []);
      gives = Done ∷ Said New ∷ Said New ∷ Said Late ∷ [];
    }
    -- P9: fingerprints 0 and 1 are one
    ∷ record {
      calls = open_ample ∷ take_it 0 100_000 ∷ take_it 1 100_000 ∷ On 0 (ContainsHash 0) ∷ On 0 (ContainsHash 1) ∷ [];
      gives = Done ∷ Said New ∷ Said Duplicate ∷ Yes ∷ Yes ∷ [];
    }
    -- P10: six are taken, a seventh is Full
    ∷ record {
      calls = open_ample ∷ take_it 1 100_000 ∷ take_it 2 100_000 ∷ take_it 3 100_000 ∷ take_it 4 100_000 ∷ take_it 5 100_000 ∷ take_it 6 100_000
          ∷ take_it 7 100_000 ∷ [];
      gives = Done ∷ replicate 6 (Said New) ++ (Said Full ∷ []);
    }
    -- P11: eight words are 64 bytes
    ∷ record { calls = P1 ++ (On 0 (DumpTo (replicate 64 0)) ∷ []); gives = Done ∷ Said New ∷ Dumped 64 ∷ [] }
    -- P12: three Feeders get 11, 5, 3 entries; a fourth gets 1, its second is Full (25 > 24)
    ∷ record {
      calls = open_twelve ∷ takes_by 1 12 100 ++ takes_by 2 6 200 ++ takes_by 3 4 300 ++ takes_by 4 2 400
          ++ (HeldBy 0 1 ∷ HeldBy 0 2 ∷ HeldBy 0 3 ∷ HeldBy 0 4 ∷ ClassTotals 0 ∷ []);
      gives = Done ∷ replicate 11 (Said New) ++ (Said Full ∷ []) ++ replicate 5 (Said New) ++ (Said Full ∷ []) ++ replicate 3 (Said New) ++ (Said Full ∷ [])
          ++ (Said New ∷ Said Full ∷ Entries 11 ∷ Entries 5 ∷ Entries 3 ∷ Entries 1 ∷ Totals 20 4 24 0 ∷ []);
    }
    -- P13, `expired` 121: 119 s leaves 121; 118 s sets 118
    ∷ record {
      calls = open_ample ∷ On 0 (Sweep 121_000) ∷ Expire 121_000 ∷ ClassTotals 0 ∷ Expire 119_000 ∷ ClassTotals 0 ∷ Expire 118_000 ∷ ClassTotals 0 ∷ [];
      gives = Done ∷ Done ∷ Done ∷ Totals 0 0 0 121 ∷ Done ∷ Totals 0 0 0 121 ∷ Done ∷ Totals 0 0 0 118 ∷ [];
    }
    ∷ []

-- P10: "holding 1, 2, 3, 4, 6 gives 2, 4, 4, 8, 8 slots"
unfoldable pub strikes : ℕ → List Call
strikes zero = []
strikes (suc n) = strikes n ++ (take_it (suc n) 100_000 ∷ [])

unfoldable pub slots_in : State → ℕ
slots_in t = length (generation_at (register_at 0 t).rings.of_feeders 120).slots

unfoldable pub slots_holding : ℕ → ℕ
slots_holding n = slots_in (last before (open_ample ∷ strikes n))

-- a number that the rules give, and the paper's
pub record Number : Type 0 where
  pub is : ℕ
  pub paper : ℕ

abbrev pub number : ℕ → ℕ → Number
number a b = record { is = a; paper = b }

unfoldable pub numbers : List Number
numbers =
    -- ring 24
    number (ring_of (usable_at (settings_of settings) 0)) 24
    -- P1: bucket 120. P3: the same bucket. P4: another
    ∷ number (bucket_of (usable_at (settings_of settings) 0) 100_000) 120
    ∷ number (bucket_of (usable_at (settings_of settings) 0) 99_500) 120
    ∷ number (bucket_of (usable_at (settings_of settings) 0) 99_000) 119
    -- P8: "buckets 96 and 120 share position 0"
    ∷ number (bucket_of (usable_at (settings_of settings) 0) 76_000) 96
    ∷ number (96 % ring_of (usable_at (settings_of settings) 0)) 0
    ∷ number (120 % ring_of (usable_at (settings_of settings) 0)) 0
    -- P10
    ∷ number (slots_holding 1) 2 ∷ number (slots_holding 2) 4 ∷ number (slots_holding 3) 4 ∷ number (slots_holding 4) 8 ∷ number (slots_holding 6) 8
    ∷ []

-- P11, after P1 alone: "dump words 0, 1, 120, 100,000, 1, 7, 0, 0"
unfoldable pub dumped : List ℕ
dumped = dump_words (register_at 0 (last before P1))

abbrev pub dumped_paper : List ℕ
dumped_paper = 0 ∷ 1 ∷ 120 ∷ 100_000 ∷ 1 ∷ 7 ∷ 0 ∷ 0 ∷ []

-- ---- what the rules give, and what the paper gives
pub record Outcome : Type 0 where
  pub answers : List (List Answer)
  pub numbers : List ℕ
  pub dump : List ℕ

unfoldable pub outcome : Outcome
outcome = record { answers = map (λ (c : Case). answers_from settings before c.calls) cases; numbers = map (λ (n : Number). n.is) numbers; dump = dumped }

unfoldable pub paper : Outcome
paper = record { answers = map (λ (c : Case). c.gives) cases; numbers = map (λ (n : Number). n.paper) numbers; dump = dumped_paper }
