-- The round trip on words and bytes (specs/RoundTrip): what the dump call wrote is what the restore call reads.
use mathlib.Core.Path.{◌≡◌, refl, ap, sym, ◌∙◌, subst}
use mathlib.Core.Bool.{true}
use mathlib.Core.List.{List, ◌++◌}
use Rattle.std.specs.Prelude.{Some}
use Prim.Native.Nat.{ℕ, ◌+◌, ◌*◌, ◌≤◌, ◌<◌}
use native.Mathlib.Omega.{arith}
use lib.Dec.{eqb}
use lib.ListN.{length, drop}
use lib.Seq.{take_at, get_or-set_same}
use borrow.Author.Tests.{eqb-true, leb-false, lt-leb, le-ltb}
use Rattle.model.specs.Answer.{Refused, Dumped, Whole}
use Rattle.model.specs.declared.Settings.{Settings}
use Rattle.model.specs.declared.Usable.{Usable}
use Rattle.model.specs.declared.Start.TheVariants.{Empty}
use Rattle.runs.proofs.Cases.{by_test, no}
use Rattle.runs.proofs.Each.{each_at}
use Rattle.model.specs.Settings.{settings_of, usable_at, words_needed}
use Rattle.model.specs.Register.{Register, started}
use Rattle.model.specs.Dump.{dump_words, dump_bytes, Dump, read_dump, Restoring, restore}
use Rattle.model.specs.RegisterWords.{register_form}
use Rattle.model.specs.Words.{State, front_form, book_form, registers_form, state_form, of_state}
use Rattle.model.specs.Calls.{On, DumpTo, Restore, Step, no_register, register_at, after_restored, restored, done_on, step, codes_fit, deed_fits, settings_words_fit}
use Rattle.model.specs.Calls.{unfit, too_short, is_open, sound, unsound, no_such_register, is_cut, deed_refusals, own_refusals, first_met, held_in, refused, reply}
use Rattle.model.specs.Calls.{output_of, written_by, output_after}
use Rattle.model.specs.View.{kept_settings, view}
use Rattle.model.specs.Codes.{went_through}
use Rattle.model.specs.Soundness.{Vetted}
use Rattle.model.specs.RoundTrip.{EnoughRoom, BroughtBack, Words64, written, Returns, RoundTrip}
use Rattle.model.proofs.View.{sound_holds, brought_trimmed, view_sound, view_read}
use Rattle.model.proofs.Simulates.{entered, fit_settings, vetted_ok, reply_is, simulates}
use Rattle.model.proofs.BytesRead.{bytes_long}
use Rattle.model.proofs.DumpRead.{dump_of, dump_back}
use Rattle.model.proofs.RestoredWhole.{WholeBack, whole_back}
use Rattle.model.proofs.SmallWords.{first_words, last_words, row_words, dump_small, floor_word_small}

-- ---- a register of words that are sound: it is well formed, and its words are those of the run
register_ok : (s : Settings) (t : State) (r : ℕ) → (state_form s).Ok t → r < s.registers → (register_form (usable_at s r)).Ok (register_at r t)
register_ok s t r ok h =
    let l = ok.1.1.0.0 in
    each_at (λ i. (register_form (usable_at s i)).Ok) t.registers r no_register ok.1.1.0.1 (omega arith)

register_words : (s : Settings) (t : State) (r : ℕ) (rest : List ℕ) → (state_form s).Ok t → r < s.registers → Words64 ((state_form s).enc t ++ rest)
    → Words64 ((register_form (usable_at s r)).enc (register_at r t))
register_words s t r rest ok h w =
    let l = ok.1.1.0.0 in
    let p = of_state t in
    let front = (front_form s).enc p.head in
    let book = (book_form s).enc p.body.head in
    let regs = (registers_form s).enc p.body.body.head in
    let all = first_words ((state_form s).enc t) rest w in
    let behind = last_words book (regs ++ t.unused) (last_words front (book ++ (regs ++ t.unused)) all) in
    let e : 0 + r ≡ r = omega arith in
    subst (λ (i : ℕ). Words64 ((register_form (usable_at s i)).enc (register_at r t))) e
    (row_words (λ i. register_form (usable_at s i)) 0 t.registers r no_register (omega arith) (first_words regs t.unused behind))

-- ---- the source
pub record Written (st ws : List ℕ) (r : ℕ) (out : List ℕ) (n : ℕ) : Type 0 where
  pub vetted : Vetted st ws
  pub bytes : written st ws r out n ≡ dump_bytes (register_at r (held_in (settings_of st) ws))
  pub many : length (dump_bytes (register_at r (held_in (settings_of st) ws))) ≡ n
  pub ok : (register_form (usable_at (settings_of st) r)).Ok (register_at r (held_in (settings_of st) ws))
  pub words : Words64 ((register_form (usable_at (settings_of st) r)).enc (register_at r (held_in (settings_of st) ws)))

pub said_many : (st ws : List ℕ) (r : ℕ) (out : List ℕ) (n : ℕ) → reply st ws (On r (DumpTo out)) ≡ Dumped n
    → (eqb (refused st ws (On r (DumpTo out))) 0 ≡ true) × (length (dump_bytes (register_at r (held_in (settings_of st) ws))) ≡ n)
unfolding reply step done_on
said_many st ws r out n e =
    by_test (eqb (refused st ws (On r (DumpTo out))) 0)
    (λ t. let q : Dumped (length (dump_bytes (register_at r (held_in (settings_of st) ws)))) ≡ Dumped n = rw t at e in (t, (cc)))
    (λ t. let q : Refused (refused st ws (On r (DumpTo out))) ≡ Dumped n = rw t at e in no (cc))

pub wrote : (st ws : List ℕ) (r : ℕ) (out : List ℕ) (n : ℕ) → Words64 ws → reply st ws (On r (DumpTo out)) ≡ Dumped n → Written st ws r out n
unfolding output_after output_of written_by is_open no_such_register
wrote st ws r out n small said =
    let call = On r (DumpTo out) in
    let s = settings_of st in
    let t = held_in s ws in
    let p = said_many st ws r out n said in
    let z = eqb-true (refused st ws call) 0 p.0 in
    let e = entered st ws call z in
    let v : Vetted st ws = record { fit = e.fit; long = e.long; sound = e.vets refl } in
    let h = sound_holds s (fit_settings st v.fit) ws v.long v.sound in
    let low : r < s.registers = leb-false s.registers r e.register in
    let bytes = dump_bytes (register_at r t) in
    record {
      vetted = v;
      bytes = rw p.0 (take_at bytes (drop (length bytes) out) n p.1);
      many = p.1;
      ok = register_ok s t r h.ok low;
      words = register_words s t r (drop (words_needed s) ws) h.ok low (subst Words64 h.words small);
    }

-- ---- the target, on states
pub record Stepped (from : Register) (q : ℕ) (e : Step) : Type 0 where
  pub answer : e.answer ≡ Whole (8 * length (dump_words from))
  pub brought : BroughtBack from (register_at q e.state)

after_whole : (from : Register) (q : ℕ) (t : State) (w : Restoring) → q < length t.registers → WholeBack from w → Stepped from q (after_restored q t (dump_of from) w)
unfolding after_restored
after_whole from q t w low b = record {
  answer = rw b.whole;
  brought = rw (get_or-set_same t.registers q w.register no_register low) b.back;
}

steps : (s : Settings) (t : State) (q : ℕ) (u : Usable) (from : Register) (bytes : List ℕ) → usable_at s q ≡ u → register_at q t ≡ started u Empty
    → q < length t.registers → read_dump bytes ≡ Some (dump_of from) → WholeBack from (restore u s.shares (dump_of from) (started u Empty) t.book)
    → Stepped from q (step s (On q (Restore bytes)) t)
unfolding step done_on restored
steps s t q u from bytes same untouched low read back =
    rw (read, same, untouched) (after_whole from q t (restore u s.shares (dump_of from) (started u Empty) t.book) low back)

-- ---- the target, on words: nothing refuses
passes : (st vs : List ℕ) (q : ℕ) (bytes : List ℕ) (d : Dump) → Vetted st vs → q < (settings_of st).registers → read_dump bytes ≡ Some d
    → refused st vs (On q (Restore bytes)) ≡ 0
unfolding refused first_met unfit codes_fit deed_fits too_short unsound is_open no_such_register own_refusals deed_refusals is_cut
passes st vs q bytes d v low read =
    rw (
      v.fit,
      le-ltb (length vs) (words_needed (settings_of st)) v.long,
      v.sound,
      lt-leb (settings_of st).registers q low,
      read,
    )

module _ (st vs : List ℕ) (q : ℕ) (v : Vetted st vs) (low : q < (settings_of st).registers) where
  abbrev s : Settings
  s = settings_of st

  abbrev now : State
  now = held_in s vs

  returns : (from : Register) (u : Usable) → (register_form u).Ok from → Words64 ((register_form u).enc from) → usable_at s q ≡ u
      → register_at q now ≡ started u Empty → EnoughRoom u s.shares now.book from.rings → (more : List ℕ)
      → Returns from (dump_bytes from) st vs q (dump_bytes from ++ more)
  unfolding dump_bytes went_through
  returns from u ok words same untouched room more =
      let call = On q (Restore (dump_bytes from ++ more)) in
      let l = (vetted_ok st vs v).1.1.0.0 in
      let read = dump_back from more (dump_small u from ok words) in
      let z = passes st vs q (dump_bytes from ++ more) (dump_of from) v low read in
      let e = steps s now q u from (dump_bytes from ++ more) same untouched (omega arith) read
      (whole_back u s.shares from now.book ok (floor_word_small u from ok words) room) in
      let answer : reply st vs call ≡ Whole (length (dump_bytes from)) =
      reply_is st vs call z ∙ e.answer ∙ ap Whole (sym (bytes_long (dump_words from))) in
      record {
        answer = answer;
        left = (step s call now).state;
        holds = (simulates vs (record { settings = st; call = call }) (ap went_through answer)).seen;
        brought = e.brought;
      }

-- ---- what `view` reads is what the calls find
view_vetted : (st ws : List ℕ) (t : State) → view ws ≡ Some t → settings_words_fit st ≡ true → kept_settings ws ≡ settings_of st
    → Vetted st ws × (held_in (settings_of st) ws ≡ t)
view_vetted st ws t e fit kept =
    let r = view_read ws t e in (
      record {
        fit = fit;
        long = subst (λ (x : Settings). words_needed x ≤ length ws) kept r.long;
        sound = subst (λ (x : Settings). sound x ws ≡ true) kept r.sound;
      },
      subst (λ (x : Settings). held_in x ws ≡ t) kept r.holds,
    )

pub vetted_seen : (st ws : List ℕ) → Vetted st ws → view ws ≡ Some (held_in (settings_of st) ws)
vetted_seen st ws v = let fit = fit_settings st v.fit in view_sound (settings_of st) fit (brought_trimmed st fit) ws v.long v.sound

pub vetted_view : (st ws : List ℕ) (t : State) → view ws ≡ Some t → Vetted st ws → held_in (settings_of st) ws ≡ t
vetted_view st ws t e v = let h : Some (held_in (settings_of st) ws) ≡ Some t = sym (vetted_seen st ws v) ∙ e in cc

-- demand 2, last sentence
pub round_trip : RoundTrip
round_trip st ws t r out n src st₂ ws₂ t₂ q target room more =
    let u = usable_at (settings_of st) r in
    let w = wrote st ws r out n src.words src.said in
    let e = vetted_view st ws t src.holds w.vetted in
    let p = view_vetted st₂ ws₂ t₂ target.holds target.fit target.kept in
    let bytes : written st ws r out n ≡ dump_bytes (register_at r t) =
    w.bytes ∙ ap (λ (x : State). dump_bytes (register_at r x)) e in
    let many : length (dump_bytes (register_at r t)) ≡ n = ap (λ (x : State). length (dump_bytes (register_at r x))) (sym e) ∙ w.many in
    let ok = subst (λ (x : State). (register_form u).Ok (register_at r x)) e w.ok in
    let words = subst (λ (x : State). Words64 ((register_form u).enc (register_at r x))) e w.words in
    let untouched = subst (λ (x : State). register_at q x ≡ started u Empty) (sym p.1) target.untouched in
    let room₂ = subst (λ (x : State). EnoughRoom u (settings_of st₂).shares x.book (register_at r t).rings) (sym p.1) room in
    let back = returns st₂ ws₂ q p.0 target.there (register_at r t) u ok words target.settings untouched room₂ more in
    subst (λ (dump : List ℕ). (length dump ≡ n) × Returns (register_at r t) dump st₂ ws₂ q (dump ++ more)) (sym bytes) (many, back)
