-- Where words of a register's heading and of the front lie, by name: the same numbers as in the code, src/layout.rt.
use Rattle.std.specs.Prelude.{ℕ}

-- ---- a register's heading
abbrev pub swept_at : ℕ
swept_at = 6

abbrev pub published_at : ℕ
published_at = 7

abbrev pub has_floor_at : ℕ
has_floor_at = 8

abbrev pub floor_at : ℕ
floor_at = 9

abbrev pub pending_at : ℕ
pending_at = 10

-- ---- the front
abbrev pub feeder_limit_at : ℕ
feeder_limit_at = 5

abbrev pub feeders_limit_at : ℕ
feeders_limit_at = 6

abbrev pub peer_limit_at : ℕ
peer_limit_at = 7

abbrev pub peers_limit_at : ℕ
peers_limit_at = 8

abbrev pub relay_limit_at : ℕ
relay_limit_at = 9

abbrev pub closed_at : ℕ
closed_at = 10
