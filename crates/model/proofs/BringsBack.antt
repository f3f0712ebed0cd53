-- A dump restored into a newly opened register brings back what it held (specs/BringsBack). Assumes nothing.
use Prim.Native.Nat.{ℕ}
use mathlib.Core.Path.{◌≡◌, refl, ap, sym, ◌∙◌, subst}
use mathlib.Core.List.{List, ◌++◌}
use Rattle.std.specs.Prelude.{Some}
use lib.ListN.{length}
use Rattle.model.specs.Answer.{Whole}
use Rattle.model.specs.declared.Settings.{Settings}
use Rattle.model.specs.Settings.{settings_of}
use Rattle.model.specs.Words.{State}
use Rattle.model.specs.Calls.{On, Restore, register_at, held_in, after}
use Rattle.model.specs.View.{view, holding}
use Rattle.model.specs.Soundness.{Vetted}
use Rattle.model.specs.RoundTrip.{EnoughRoom, BroughtBack, Returns}
use Rattle.model.specs.BringsBack.{ADump, bytes_of, dumped, its_settings, words_then, BringsBack, DumpBringsBack}
use Rattle.model.proofs.View.{view_read}
use Rattle.model.proofs.Simulates.{vetted_kept}
use Rattle.model.proofs.Untouched.{stays_as_started}
use Rattle.model.proofs.RoundTrip.{wrote, vetted_seen, round_trip}

-- ---- what a vetted run of words holds, it holds under its own settings
seen_holding : (st ws : List ℕ) → Vetted st ws → view ws ≡ Some (holding ws)
seen_holding st ws v = let e = vetted_seen st ws v in e ∙ ap Some (sym (view_read ws _ e).holds)

pub holding_is : (st ws : List ℕ) → Vetted st ws → held_in (settings_of st) ws ≡ holding ws
holding_is st ws v = sym (view_read ws _ (vetted_seen st ws v)).holds

-- ---- the round trip's end is the promise's, where the words that were dumped were sound
ends : (d : ADump) (st now : List ℕ) (q : ℕ) (more : List ℕ) → view d.words ≡ Some (holding d.words) → length (bytes_of d) ≡ d.told
    → Returns (dumped d) (bytes_of d) st now q (bytes_of d ++ more) → BringsBack d st now q more
ends d st now q more seen long r =
    let same = (view_read (after st now (On q (Restore (bytes_of d ++ more)))) r.left r.holds).holds in
    record {
      long = long;
      answer = r.answer ∙ ap Whole long;
      then_sound = seen;
      now_sound = r.holds ∙ ap Some (sym same);
      brought = subst (λ (x : State). BroughtBack (dumped d) (register_at q x)) (sym same) r.brought;
    }

-- demand 2, last sentence
pub dump_brings_back : DumpBringsBack
dump_brings_back d o calls clear room more =
    let now = words_then o calls in
    let st = o.settings in
    let q = o.register in
    let source = (wrote d.settings d.words d.register d.output d.told d.small d.said).vetted in
    let seen = seen_holding d.settings d.words source in
    let stayed = stays_as_started o.words st o.limits o.starts calls q o.through o.there o.empty clear in
    let kept = vetted_kept st now stayed.vetted in
    let p = round_trip d.settings d.words (holding d.words) d.register d.output d.told
    (record { words = d.small; holds = seen; said = d.said }) st now (holding now) q
    (record {
      holds = seen_holding st now stayed.vetted;
      fit = stayed.vetted.fit;
      kept = kept;
      there = o.there;
      settings = o.same;
      untouched = ap (register_at q) (sym (holding_is st now stayed.vetted)) ∙ stayed.same ∙ rw o.same refl;
    }) (subst (λ (s : Settings). EnoughRoom (its_settings d) s.shares (holding now).book (dumped d).rings) kept room) more in
    ends d st now q more seen p.0 p.1
