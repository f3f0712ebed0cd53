-- What each function writes, as its contract says it.
use Prim.Native.Nat.{ℕ, suc, ◌+◌, ◌-◌, ◌<◌, ◌≤◌}
use native.Mathlib.Numerals.{add-one}
use native.Mathlib.Omega.{arith}
use mathlib.Core.Path.{◌≡◌}
use mathlib.Core.List.{List}
use lib.ListN.{length}
use borrow.Rule.Slice.PartMut.{put_mid}
use Rattle.model.specs.declared.Start.{Start}
use Rattle.model.specs.declared.Settings.{Settings}
use Rattle.model.specs.Settings.{usable_at, words_needed}
use Rattle.model.specs.RegisterWords.{encode_heading}
use Rattle.model.specs.Words.{register_start}
use Rattle.opening.specs.Opened.{heading_at, start_at, with_heading, with_headings}

-- ---- write_register
pub register_words : (s : Settings) (starts : List Start) (r a : ℕ) (start : Start) (ws own : List ℕ)
    → a ≡ register_start s r → start ≡ start_at starts r → own ≡ encode_heading (usable_at s r) (heading_at start)
    → put_mid a (a + 24 - a) ws own ≡ with_heading s starts r ws
unfolding with_heading
register_words s starts r a start ws own e g h =
    let k : a + 24 - a ≡ 24 = omega arith in
    rw (k, h, g, e)

-- ---- write_registers: the registers from r on are still to be written
pub record Headed (s : Settings) (starts : List Start) (ws₀ ws : List ℕ) (r : ℕ) : Type 0 where
  pub within : r ≤ s.registers
  pub few : s.registers ≤ 4
  pub long : length ws ≡ words_needed s
  pub rest : with_headings s starts r (s.registers - r) ws ≡ with_headings s starts 0 s.registers ws₀

module _ (s : Settings) (starts : List Start) (ws₀ : List ℕ) where
  pub headed_none : s.registers ≤ 4 → length ws₀ ≡ words_needed s → Headed s starts ws₀ ws₀ 0
  headed_none few long = record { within = omega arith; few = few; long = long; rest = let e : s.registers - 0 ≡ s.registers = omega arith in rw e }

  module _ (ws : List ℕ) (r : ℕ) (h : Headed s starts ws₀ ws r) where
    pub headed_more : r < s.registers → (new : List ℕ) → length new ≡ length ws → new ≡ with_heading s starts r ws → Headed s starts ws₀ new (r + 1)
    unfolding with_headings
    headed_more l new long e =
        let k : s.registers - r ≡ suc (s.registers - (r + 1)) = omega arith in
        let t = rw k at h.rest in
        let f = h.few in
        let w = h.long in
        record { within = omega arith; few = f; long = omega arith; rest = rw (e, add-one) (rw add-one at t) }

    pub headed_all : s.registers ≤ r → ws ≡ with_headings s starts 0 s.registers ws₀
    unfolding with_headings
    headed_all l = let k : s.registers - r ≡ 0 = omega arith in rw k at h.rest
