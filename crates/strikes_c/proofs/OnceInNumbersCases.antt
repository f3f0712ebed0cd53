-- The conditions of OnceInNumbers are met (specs/OnceInNumbers), by computing. A ticket is taken. Then a take without settings is refused,
-- and its out number keeps the 0 that it held; a restore comes out Partly and drops the ticket; the floor is read. Then the ticket is Late.
use Prim.Native.Nat.{ℕ}
use mathlib.Core.Path.{◌≡◌, refl}
use mathlib.Core.Bool.{false}
use mathlib.Core.List.{List, [], ◌∷◌, ◌++◌}
use Rattle.std.specs.Prelude.{Some}
use lib.ListN.{replicate}
use Rattle.runs.specs.Chunks.{flat}
use Rattle.model.specs.declared.Manner.{Manner}
use Rattle.model.specs.declared.Manner.TheVariants.{Judged, Taken}
use Rattle.model.specs.Dump.{word_bytes}
use Rattle.model.specs.Calls.{Ticket, Restore, Floor, Call, Open, On, kind, after}
use Rattle.model.specs.Once.{Strike, asks_about, takes}
use Rattle.model.proofs.NotVacuous.{compute_all}
use Rattle.strikes_c.specs.Out.{value_out, Read}
use Rattle.strikes_c.specs.OnceInNumbers.{Served, AllKept, SaysNew, sort_ends, kind_ends, ended_among}
use Rattle.strikes_c.proofs.Readers.{readers_kept}

-- one register: no window, buckets of 2 ms, two positions, four slots
abbrev settings : List ℕ
settings = 1 ∷ 2 ∷ 2 ∷ 0 ∷ 0 ∷ 0 ∷ 0 ∷ 0 ∷ 0 ∷ 2 ∷ 4 ∷ replicate 18 0

abbrev start : List ℕ
start = after settings (replicate 230 5) (Open (replicate 5 4) (replicate 8 0))

-- a Feeder's ticket, fingerprint 7, its stamp and the reading 6
abbrev ask : Manner → Call
ask m = On 0 (Ticket m (record { fp = 7; stamp = 6; ms = 6; flag = 1; kind = 0; number = 1 }))

-- a call on words, with the number that it returned and its out numbers before and after
abbrev serves : List ℕ → List ℕ → Call → ℕ → List ℕ → List ℕ → Served
serves st ws call n olds news = record { settings = st; call = call; returned = n; left = after st ws call; olds = olds; news = news }

abbrev first : Served
first = serves settings start (ask Taken) 0 (9 ∷ []) (0 ∷ [])

abbrev refused : Served
refused = serves [] first.left (ask Taken) 1 (0 ∷ []) (0 ∷ [])

abbrev partly : Served
partly = serves settings refused.left (On 0 (Restore (flat word_bytes (0 ∷ 1 ∷ 3 ∷ 5 ∷ 3 ∷ 8 ∷ 9 ∷ 10 ∷ 0 ∷ 0 ∷ [])))) 0 (9 ∷ 9 ∷ []) (0 ∷ 80 ∷ [])

-- it leaves the words
abbrev reads : Served
reads = record { settings = settings; call = On 0 Floor; returned = 0; left = partly.left; olds = 9 ∷ 9 ∷ []; news = 1 ∷ 6 ∷ [] }

abbrev later : Served
later = serves settings reads.left (ask Judged) 0 (9 ∷ []) (2 ∷ [])

abbrev between : List Served
between = refused ∷ partly ∷ reads ∷ []

abbrev ticket : Strike
ticket = record { register = 0; print = 7; stamp = 6 }

floor_read : Read settings partly.left (On 0 Floor) 0 (9 ∷ 9 ∷ []) (1 ∷ 6 ∷ [])
unfolding compute_all value_out
floor_read = record { number = refl; values = refl }

all_kept : AllKept start (first ∷ (between ++ (later ∷ [])))
unfolding compute_all value_out
all_kept = (
  record { number = refl; words = refl; values = refl },
  (
    record { number = refl; words = refl; values = refl },
    (
      record { number = refl; words = refl; values = refl },
      (
        (readers_kept settings partly.left (On 0 Floor) 0 (9 ∷ 9 ∷ []) (1 ∷ 6 ∷ []) refl).by_read floor_read,
        (record { number = refl; words = refl; values = refl }, tt),
      ),
    ),
  ),
)

pub conditions_met : AllKept start (first ∷ (between ++ (later ∷ [])))
    × ((takes (kind first.call) ≡ Some ticket) × (SaysNew first × ((ended_among 0 between ≡ false) × (asks_about (kind later.call) ≡ Some ticket))))
unfolding compute_all sort_ends kind_ends ended_among
conditions_met = (all_kept, (refl, (record { returned = refl; verdict = refl }, (refl, refl))))
