-- Calls that alter nothing: those that only read (specs/ReadersLeave), a ticket answered Unjudged (specs/UnjudgedLeaves), a begin
-- answered Already (specs/AlreadyLeaves). Assumes nothing.
use Prim.Native.Nat.{ℕ}
use mathlib.Core.Path.{◌≡◌, refl, sym, ◌∙◌, ap}
use mathlib.Core.Bool.{Bool, true, false, cond, not, ◌||◌}
use mathlib.Core.List.{List, ◌++◌}
use lib.Dec.{eqb}
use lib.ListN.{drop}
use lib.Seq.{set-get_or}
use borrow.Author.Tests.{eqb-true}
use Rattle.model.specs.Answer.{Said, Begun, Already}
use Rattle.model.specs.declared.Manner.{Manner}
use Rattle.model.specs.declared.Manner.TheVariants.{Judged, JudgedBatch, Taken as TakenManner, TakenBatch}
use Rattle.model.specs.declared.Room.{Room}
use Rattle.model.specs.declared.Room.TheVariants.{At, Collides, Full as NoSlots}
use Rattle.model.specs.declared.Settings.{Settings}
use Rattle.model.specs.declared.Shares.{Shares}
use Rattle.model.specs.declared.Usable.{Usable}
use Rattle.model.specs.declared.Verdict.{Verdict}
use Rattle.model.specs.declared.Verdict.TheVariants.{New, Duplicate, Late, Ahead, Full, Unjudged}
use Rattle.runs.proofs.Cases.{by_test, split_if, no}
use Rattle.model.specs.Settings.{settings_of, usable_at, words_needed}
use Rattle.model.specs.Book.{Book, second_of, granted, draw_says}
use Rattle.model.specs.Numbers.{under}
use Rattle.model.specs.Generation.{as_read}
use Rattle.model.specs.Register.{Register, holds, any_class, begin}
use Rattle.model.specs.Judge.{Ask, bucket_of, window_for, in_window, unjudged, verdict, judge, ahead_for, judge_batch, Taken, take_room, take_share, take_judged, take, take_batch}
use Rattle.model.specs.Words.{State, state_form}
use Rattle.model.specs.Calls.{Ticket, Begin, Call, On, no_register, register_at, with_register}
use Rattle.model.specs.Calls.{ask_of, after_judged, after_taken, asked, done_on, step, only_reads, is_open, held_in, refused, after}
use Rattle.model.specs.ReadersLeave.{ReadersLeave}
use Rattle.model.specs.UnjudgedLeaves.{UnjudgedLeaves}
use Rattle.model.specs.AlreadyLeaves.{AlreadyLeaves}
use Rattle.model.proofs.View.{sound_holds}
use Rattle.model.proofs.Simulates.{refused_words, entered, fit_settings, after_is, reply_is}
use Rattle.model.proofs.EveryCall.{lawful}

-- a call other than an opening that leaves the state leaves the words
leaves_words : (st ws : List ℕ) (call : Call) → is_open call ≡ false
    → (refused st ws call ≡ 0 → (step (settings_of st) call (held_in (settings_of st) ws)).state ≡ held_in (settings_of st) ws) → after st ws call ≡ ws
leaves_words st ws call o f =
    by_test (eqb (refused st ws call) 0)
    (λ d. let z = eqb-true (refused st ws call) 0 d in
    let n = entered st ws call z in
    let s = settings_of st in
    let h = sound_holds s (fit_settings st n.fit) ws n.long (n.vets o) in
    after_is st ws call z ∙ ap (λ (x : State). (state_form s).enc x ++ drop (words_needed s) ws) (f z) ∙ sym h.words)
    (λ d. refused_words st ws call d)

-- ---- one that only reads
pub readers_leave : ReadersLeave
unfolding only_reads is_open step
readers_leave st ws call e = let r = (lawful call).reads e in leaves_words st ws call r.shut (λ z. r.stays (settings_of st) (held_in (settings_of st) ws))

-- ---- Unjudged: it is said only where the register is pending or the flag off
not_unjudged : (u : Usable) (reg : Register) (a : Ask) → verdict u reg a ≡ Unjudged → ⊥
unfolding verdict
not_unjudged u reg a =
    split_if (λ (v : Verdict). v ≡ Unjudged → ⊥) (any_class (holds (bucket_of u a.stamp) (as_read a.fp)) reg.rings) (λ d e. no (cc))
    (λ d. split_if (λ (v : Verdict). v ≡ Unjudged → ⊥) (under a.stamp reg.floor || not (in_window (window_for u a.who) a.stamp a.ms))
    (λ c e. no (cc)) (λ c e. no (cc)))

judge_unjudged : (u : Usable) (reg : Register) (a : Ask) → (judge u reg a).says ≡ Unjudged → unjudged reg a ≡ true
unfolding judge
judge_unjudged u reg a e =
    by_test (unjudged reg a) (λ d. d) (λ d. absurd (not_unjudged u _ a (rw d at e)))

ahead_unjudged : (p : Bool) (v : Verdict) → ahead_for p v ≡ Unjudged → v ≡ Unjudged
unfolding ahead_for
ahead_unjudged p New e = e
ahead_unjudged p Duplicate e = e
ahead_unjudged p Late e = split_if (λ (v : Verdict). v ≡ Unjudged → Late ≡ Unjudged) p (λ d h. no (cc)) (λ d h. h) e
ahead_unjudged p Ahead e = e
ahead_unjudged p Full e = e
ahead_unjudged p Unjudged e = refl

module _ (u : Usable) (b : Shares) (a : Ask) (k : Book) (reg : Register) where
  room_judged : (m : Room) → (take_room u b a reg k m).says ≡ Unjudged → ⊥
  unfolding take_room
  room_judged (At i) e = no (cc)
  room_judged Collides e = no (cc)
  room_judged NoSlots e = no (cc)

  share_judged : (take_share u b a reg k).says ≡ Unjudged → ⊥
  unfolding take_share
  share_judged =
      split_if (λ (y : Taken). y.says ≡ Unjudged → ⊥) (granted (draw_says b a.who (second_of (bucket_of u a.stamp) u.bucket) k))
      (λ g. room_judged _) (λ g e. no (cc))

  rest_unjudged : (v : Verdict) → (take_judged u b a k reg v).says ≡ Unjudged → v ≡ Unjudged
  unfolding take_judged
  rest_unjudged New e = absurd (share_judged e)
  rest_unjudged Duplicate e = e
  rest_unjudged Late e = e
  rest_unjudged Ahead e = e
  rest_unjudged Full e = e
  rest_unjudged Unjudged e = refl

said_unjudged : (v : Verdict) → Said v ≡ Said Unjudged → v ≡ Unjudged
said_unjudged v e = cc

-- the register that stands there, put in its own place
put_same : (r : ℕ) (t : State) → with_register r (register_at r t) t ≡ t
put_same r t =
    ap (λ (l : List Register). record { book = t.book; registers = l; spare = t.spare; unused = t.unused }) (set-get_or t.registers r no_register)

module _ (s : Settings) (r : ℕ) (a : Ask) (t : State) where
  asked_unjudged : (m : Manner) → (asked s r m a t).answer ≡ Said Unjudged → unjudged (register_at r t) a ≡ true
  unfolding asked after_judged after_taken judge_batch take take_batch
  asked_unjudged Judged e = judge_unjudged (usable_at s r) (register_at r t) a (said_unjudged _ e)
  asked_unjudged JudgedBatch e = judge_unjudged (usable_at s r) (register_at r t) a (ahead_unjudged _ _ (said_unjudged _ e))
  asked_unjudged TakenManner e =
      judge_unjudged (usable_at s r) (register_at r t) a (rest_unjudged (usable_at s r) s.shares a t.book _ _ (said_unjudged _ e))
  asked_unjudged TakenBatch e =
      judge_unjudged (usable_at s r) (register_at r t) a
      (ahead_unjudged _ _ (rest_unjudged (usable_at s r) s.shares a t.book _ _ (said_unjudged _ e)))

  asked_leaves : (m : Manner) → unjudged (register_at r t) a ≡ true → (asked s r m a t).state ≡ t
  unfolding asked after_judged after_taken judge ahead_for judge_batch take_judged take take_batch
  asked_leaves Judged e = rw e (put_same r t)
  asked_leaves JudgedBatch e = rw e (put_same r t)
  asked_leaves TakenManner e = rw e (put_same r t)
  asked_leaves TakenBatch e = rw e (put_same r t)

-- an answer that is none of the refusals comes of a call that goes through
pub unjudged_leaves : UnjudgedLeaves
unfolding is_open step done_on
unjudged_leaves st ws r m a e =
    let s = settings_of st in
    leaves_words st ws (On r (Ticket m a)) refl
    (λ z. asked_leaves s r (ask_of a) (held_in s ws) m
    (asked_unjudged s r (ask_of a) (held_in s ws) m (sym (reply_is st ws (On r (Ticket m a)) z) ∙ e)))

-- ---- Already: the register is not pending
begun : (b : Bool) → cond b Begun Already ≡ Already → b ≡ false
begun true e = no (cc)
begun false e = refl

pub already_leaves : AlreadyLeaves
unfolding is_open step done_on begin
already_leaves st ws r number e =
    let s = settings_of st in
    let t = held_in s ws in
    leaves_words st ws (On r (Begin number)) refl
    (λ z. let p = begun (register_at r t).pending (sym (reply_is st ws (On r (Begin number)) z) ∙ e) in rw p (put_same r t))
