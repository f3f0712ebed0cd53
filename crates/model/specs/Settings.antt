-- "Settings and soundness", first half: the settings as a call brings them, their bounds, and the words that they need.
use Rattle.std.specs.Prelude.{ℕ, zero, suc, ◌+◌, ◌*◌, max, Bool, cond, ◌&&◌, ◌||◌, List, [], ◌∷◌, leb, ltb, eqb, get_or}
use Rattle.model.specs.declared.Window.{Window}
use Rattle.model.specs.declared.Usable.{Usable}
use Rattle.model.specs.declared.Shares.{Shares}
use Rattle.model.specs.declared.Limits.{Limits}
use Rattle.model.specs.declared.Settings.{Settings}
use Rattle.model.specs.Numbers.{between, cap64, ceil}
use Rattle.model.specs.Widths.{generation_width, place_width}

-- ---- settings as words: R, P, E, the Feeder and the Peer units, then for each of four registers the origin span behind and
-- ahead, the copy span behind and ahead, the bucket and S
abbrev pub settings_width : ℕ
settings_width = 29

abbrev pub usable_of : List ℕ → ℕ → Usable
usable_of st r = record {
  origin = record { behind = get_or st (5 + 6 * r) 0; ahead = get_or st (5 + 6 * r + 1) 0 };
  copy = record { behind = get_or st (5 + 6 * r + 2) 0; ahead = get_or st (5 + 6 * r + 3) 0 };
  bucket = get_or st (5 + 6 * r + 4) 0;
  slots = get_or st (5 + 6 * r + 5) 0;
}

abbrev pub no_usable : Usable
no_usable = record { origin = record { behind = 0; ahead = 0 }; copy = record { behind = 0; ahead = 0 }; bucket = 0; slots = 0 }

-- of registers not below R nothing is read
abbrev pub usable_below : List ℕ → ℕ → Usable
usable_below st r = cond (ltb r (get_or st 0 0)) (usable_of st r) no_usable

abbrev pub settings_of : List ℕ → Settings
settings_of st = record {
  registers = get_or st 0 0;
  shares = record { places = get_or st 1 0; pairs = get_or st 2 0; feeder = get_or st 3 0; peer = get_or st 4 0 };
  usable = usable_below st 0 ∷ usable_below st 1 ∷ usable_below st 2 ∷ usable_below st 3 ∷ [];
}

-- the five limits as words, in the order of the paper
abbrev pub limits_width : ℕ
limits_width = 5

abbrev pub limits_of : List ℕ → Limits
limits_of ls = record { feeder = get_or ls 0 0; feeders = get_or ls 1 0; peer = get_or ls 2 0; peers = get_or ls 3 0; relay = get_or ls 4 0 }

-- ---- what follows from one register's settings
-- "Retained is the larger behind span; ahead the larger ahead span."
unfoldable pub retained : Usable → ℕ
retained u = max u.origin.behind u.copy.behind

unfoldable pub ahead : Usable → ℕ
ahead u = max u.origin.ahead u.copy.ahead

-- "Ring = ceil((retained + ahead) / bucket) + 2": within the bounds below no cap is met
unfoldable pub ring_of : Usable → ℕ
ring_of u = cap64 (ceil (cap64 (retained u + ahead u)) u.bucket + 2)

-- ---- bounds
unfoldable pub power_of_two : ℕ → Bool
power_of_two n =
    eqb n 2 || (eqb n 4 || (eqb n 8 || (eqb n 16 || (eqb n 32 || (eqb n 64 || (eqb n 128 || (eqb n 256 || (eqb n 512 || eqb n 1_024))))))))

unfoldable pub window_fit : Window → Bool
window_fit w = leb w.behind 3_600_000 && leb w.ahead 3_600_000

unfoldable pub usable_fit : Usable → Bool
usable_fit u =
    window_fit u.origin && (window_fit u.copy && (between 1 60_000 u.bucket && (power_of_two u.slots && leb (ring_of u) 256)))

unfoldable pub shares_fit : Shares → Bool
shares_fit b = between 1 64 b.places && (between 2 512 b.pairs && (leb b.feeder 4_096 && leb b.peer 4_096))

unfoldable pub limits_fit : Limits → Bool
limits_fit l =
    leb l.feeder 1_000_000 && (leb l.feeders 1_000_000 && (leb l.peer 1_000_000 && (leb l.peers 1_000_000 && leb l.relay 1_000_000)))

abbrev pub usable_at : Settings → ℕ → Usable
usable_at s r = get_or s.usable r no_usable

-- the settings of a register not below R are not tested
abbrev pub fit_at : Settings → ℕ → Bool
fit_at s r = leb s.registers r || usable_fit (usable_at s r)

unfoldable pub settings_fit : Settings → Bool
settings_fit s =
    between 1 4 s.registers && (shares_fit s.shares && (fit_at s 0 && (fit_at s 1 && (fit_at s 2 && fit_at s 3))))

-- ---- words needed
unfoldable pub register_words : Usable → ℕ
register_words u = 3 * ring_of u * generation_width u.slots

unfoldable pub registers_words : Settings → ℕ → ℕ → ℕ
registers_words s r zero = 0
registers_words s r (suc n) = register_words (usable_at s r) + registers_words s (suc r) n

-- none for a register not below R
abbrev pub words_for : Settings → ℕ → ℕ
words_for s r = cond (leb s.registers r) 0 (cond (usable_fit (usable_at s r)) (register_words (usable_at s r)) 0)

unfoldable pub book_words : Shares → ℕ
book_words b = 3 * b.places * place_width b.pairs

-- "3 × ring × (S + 4) for each register, plus 3 × P × (2 × E + 4), plus 128"
unfoldable pub words_needed : Settings → ℕ
words_needed s = registers_words s 0 s.registers + book_words s.shares + 128

-- the rules of this file, for a theorem that computes
unfoldable pub compute_settings : ℕ
unfolding retained ahead ring_of power_of_two window_fit usable_fit shares_fit limits_fit settings_fit register_words registers_words book_words words_needed
compute_settings = 0
