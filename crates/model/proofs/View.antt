-- Words keep their settings: the words of a well-formed state give back the settings under which they were written, and the state.
use Prim.Native.Nat.{ℕ, zero, suc, ◌+◌, ◌-◌, ◌≤◌}
use native.Mathlib.Omega.{arith}
use mathlib.Core.Path.{◌≡◌, refl, ◌∙◌, ap}
use mathlib.Core.Bool.{true, cond, ◌&&◌}
use Rattle.std.specs.Prelude.{Some, None}
use mathlib.Core.List.{List, [], ◌∷◌, ◌++◌, append_assoc}
use lib.ListN.{length, get_or, drop, replicate, length-append}
use lib.Seq.{take_at, drop_at, drop-append-add}
use lib.Dec.{leb, ltb}
use borrow.Author.Tests.{le-leb, leb-true}
use Rattle.model.specs.declared.Usable.{Usable}
use Rattle.model.specs.declared.Settings.{Settings}
use Rattle.runs.specs.Combine.{enc_row, EachOk}
use Rattle.runs.proofs.Cases.{by_test, each_true, no}
use Rattle.runs.proofs.Exact.{view_back as words_back}
use Rattle.model.specs.Settings.{no_usable, settings_of, usable_at, settings_fit, register_words, words_needed}
use Rattle.model.specs.Register.{Register}
use Rattle.model.specs.RegisterWords.{heading_width, register_form}
use Rattle.model.specs.Words.{State, front_form, book_form, state_form, of_state}
use Rattle.model.specs.Calls.{sound, held_in}
use Rattle.model.specs.View.{kept_usables, registers_start, kept_settings, view}
use Rattle.model.proofs.Words.{register_wide, book_wide, registers≤4, state_wide, front_exact, register_at_exact, book_exact, state_exact}

-- n of them from r on
unfoldable pub usables_from : List Usable → ℕ → ℕ → List Usable
usables_from us r zero = []
usables_from us r (suc n) = get_or us r no_usable ∷ usables_from us (suc r) n

-- settings of which nothing is read for registers not below R
pub record Trimmed (s : Settings) : Type 0 where
  pub only : usables_from s.usable 0 s.registers ++ replicate (4 - s.registers) no_usable ≡ s.usable

below : (n : ℕ) (a b c d : Usable) → n ≤ 4
    → usables_from (cond (ltb 0 n) a no_usable ∷ cond (ltb 1 n) b no_usable ∷ cond (ltb 2 n) c no_usable ∷ cond (ltb 3 n) d no_usable ∷ []) 0 n
    ++ replicate (4 - n) no_usable
    ≡ cond (ltb 0 n) a no_usable ∷ cond (ltb 1 n) b no_usable ∷ cond (ltb 2 n) c no_usable ∷ cond (ltb 3 n) d no_usable ∷ []
unfolding usables_from
below zero a b c d h = refl
below (suc zero) a b c d h = refl
below (suc (suc zero)) a b c d h = refl
below (suc (suc (suc zero))) a b c d h = refl
below (suc (suc (suc (suc zero)))) a b c d h = refl
below (suc (suc (suc (suc (suc n))))) a b c d h = absurd (omega arith)

-- those that words bring are so
pub brought_trimmed : (st : List ℕ) → settings_fit (settings_of st) ≡ true → Trimmed (settings_of st)
brought_trimmed st fit = record { only = below (get_or st 0 0) _ _ _ _ (registers≤4 (settings_of st) fit) }

module _ (s : Settings) where
  -- ---- what the words of registers keep
  kept_row : (r : ℕ) (regs : List Register) (rest : List ℕ) → EachOk (λ i. (register_form (usable_at s i)).Ok) r regs
      → kept_usables (length regs) (enc_row (λ i. register_form (usable_at s i)) r regs ++ rest) ≡ usables_from s.usable r (length regs)
  unfolding EachOk enc_row kept_usables usables_from
  kept_row r [] rest ok = refl
  kept_row r (reg ∷ regs) rest ok =
      let u = usable_at s r in
      let more = enc_row (λ i. register_form (usable_at s i)) (suc r) regs in
      let w = (register_at_exact s r).width reg ok.0 ∙ register_wide u in
      let d : drop (heading_width + register_words u) ((register_form u).enc reg ++ (more ++ rest)) ≡ more ++ rest =
      drop_at ((register_form u).enc reg) (more ++ rest) (heading_width + register_words u) w in
      rw (append_assoc, d) (ap (λ (l : List Usable). u ∷ l) (kept_row (suc r) regs rest ok.1))

  module _ (x : State) (ok : (state_form s).Ok x) (rest : List ℕ) (trimmed : Trimmed s) where
    -- the front and the book are passed over
    registers_at : drop (registers_start s.shares) ((state_form s).enc x ++ rest)
        ≡ enc_row (λ i. register_form (usable_at s i)) 0 x.registers ++ (x.unused ++ rest)
    registers_at =
        let p = of_state x in
        let wf = (front_exact s).width p.head ok.0 in
        let wb = (book_exact s).width p.body.head ok.1.0 ∙ book_wide s in
        let regs = enc_row (λ i. register_form (usable_at s i)) 0 x.registers in
        let e : registers_start s.shares ≡ length ((front_form s).enc p.head) + length ((book_form s).enc p.body.head) = rw (wf, wb) (omega arith) in
        rw (e, append_assoc ((front_form s).enc p.head), drop-append-add, append_assoc ((book_form s).enc p.body.head))
        (drop_at ((book_form s).enc p.body.head) ((regs ++ x.unused) ++ rest) (length ((book_form s).enc p.body.head)) refl ∙ append_assoc regs x.unused rest)

    pub kept_of_words : kept_settings ((state_form s).enc x ++ rest) ≡ s
    unfolding kept_settings
    kept_of_words =
        let k = ok.1.1.0.0 in
        let a = kept_row 0 x.registers (x.unused ++ rest) ok.1.1.0.1 in
        let b : kept_usables s.registers (drop (registers_start s.shares) ((state_form s).enc x ++ rest)) ≡ usables_from s.usable 0 s.registers =
        rw registers_at (rw k at a) in
        λ i. record {
          registers = s.registers;
          shares = s.shares;
          usable = (ap (λ (l : List Usable). l ++ replicate (4 - s.registers) no_usable) b ∙ trimmed.only) i;
        }

  module _ (fit : settings_fit s ≡ true) where
    -- ---- sound words are those of a well-formed state
    pub record Holds (ws : List ℕ) : Type 0 where
      pub ok : (state_form s).Ok (held_in s ws)
      pub words : ws ≡ (state_form s).enc (held_in s ws) ++ drop (words_needed s) ws

    pub sound_holds : (ws : List ℕ) → words_needed s ≤ length ws → sound s ws ≡ true → Holds ws
    unfolding sound held_in
    sound_holds ws long t =
        let w = state_wide s fit in
        let b = words_back (state_form s) (state_exact s) ws (rw w long) (rw w t) in
        record { ok = rw w at b.0; words = rw w at b.1 }

    -- and a well-formed state's words, whatever lies after them, are enough, sound, and hold it
    pub record Written (x : State) (rest : List ℕ) : Type 0 where
      pub long : words_needed s ≤ length ((state_form s).enc x ++ rest)
      pub sound : sound s ((state_form s).enc x ++ rest) ≡ true
      pub holds : held_in s ((state_form s).enc x ++ rest) ≡ x
      pub past : drop (words_needed s) ((state_form s).enc x ++ rest) ≡ rest

    pub written : (x : State) (rest : List ℕ) → (state_form s).Ok x → Written x rest
    unfolding sound held_in
    written x rest ok =
        let exact = state_exact s in
        let w = exact.width x ok ∙ state_wide s fit in
        let t = take_at ((state_form s).enc x) rest (words_needed s) w in
        let p = exact.forth x ok in
        record {
          long = rw (length-append, w) (omega arith);
          sound = rw t p.0;
          holds = rw t p.1;
          past = drop_at ((state_form s).enc x) rest (words_needed s) w;
        }

    -- ---- so words by themselves tell settings and state
    module _ (trimmed : Trimmed s) where
      pub kept_are : (ws : List ℕ) → words_needed s ≤ length ws → sound s ws ≡ true → kept_settings ws ≡ s
      kept_are ws long t =
          let h = sound_holds ws long t in
          ap kept_settings h.words ∙ kept_of_words (held_in s ws) h.ok (drop (words_needed s) ws) trimmed

      pub view_sound : (ws : List ℕ) → words_needed s ≤ length ws → sound s ws ≡ true → view ws ≡ Some (held_in s ws)
      unfolding view
      view_sound ws long t = rw (kept_are ws long t, fit, le-leb _ _ long, t)

      pub view_written : (x : State) (rest : List ℕ) → (state_form s).Ok x → view ((state_form s).enc x ++ rest) ≡ Some x
      view_written x rest ok =
          let w = written x rest ok in
          view_sound ((state_form s).enc x ++ rest) w.long w.sound ∙ ap Some w.holds

-- ---- what `view` reads is read under the settings that the words keep
pub record Read (ws : List ℕ) (t : State) : Type 0 where
  pub fit : settings_fit (kept_settings ws) ≡ true
  pub long : words_needed (kept_settings ws) ≤ length ws
  pub sound : sound (kept_settings ws) ws ≡ true
  pub holds : held_in (kept_settings ws) ws ≡ t

pub view_read : (ws : List ℕ) (t : State) → view ws ≡ Some t → Read ws t
unfolding view
view_read ws t e =
    let k = kept_settings ws in
    by_test (settings_fit k && (leb (words_needed k) (length ws) && sound k ws))
    (λ p.
    let q = each_true (settings_fit k) (leb (words_needed k) (length ws) ∷ sound k ws ∷ []) p in
    let h : Some (held_in k ws) ≡ Some t = rw p at e in
    record { fit = q.0; long = leb-true (words_needed k) (length ws) q.1.0; sound = q.1.1; holds = (cc) })
    (λ p. let h : None ≡ Some t = rw p at e in no (cc))

-- what `view` reads is a well-formed state, of which the words are the encoding, free words included
pub record Seen (ws : List ℕ) (x : State) : Type 0 where
  pub fit : settings_fit (kept_settings ws) ≡ true
  pub ok : (state_form (kept_settings ws)).Ok x
  pub words : ws ≡ (state_form (kept_settings ws)).enc x ++ drop (words_needed (kept_settings ws)) ws

pub view_back : (ws : List ℕ) (x : State) → view ws ≡ Some x → Seen ws x
view_back ws x e =
    let s = kept_settings ws in
    let r = view_read ws x e in
    let h = sound_holds s r.fit ws r.long r.sound in
    record { fit = r.fit; ok = rw r.holds at h.ok; words = rw r.holds at h.words }
