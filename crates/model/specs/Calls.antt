-- "Who causes which reply": every call as a value, the refusals in their order, the reply, and the words and bytes after it.
use Rattle.std.specs.Prelude.{ℕ, zero, suc, ◌+◌, ◌*◌, min, Bool, true, false, cond, not, ◌&&◌, ◌||◌, Option, Some, None, List, [], ◌∷◌, ◌++◌, leb, ltb, eqb, length, get_or, set, take, drop, replicate}
use Rattle.model.specs.Answer.{Answer}
use Rattle.model.specs.Answer.{Refused, Done, Said, Yes, No, Begun, Already, Dumped, Viewed, Whole, Partly, NoFloor, FloorAt, SweptTo, Entries, Totals}
use Rattle.model.specs.Answer.{Because, NoStamp, StampAt}
use Rattle.model.specs.declared.Manner.{Manner}
use Rattle.model.specs.declared.Manner.TheVariants.{Judged, JudgedBatch, Taken as TakenManner, TakenBatch}
use Rattle.model.specs.declared.Settings.{Settings}
use Rattle.model.specs.Numbers.{compute_numbers}
use Rattle.model.specs.Settings.{settings_width, settings_of, limits_width, limits_of, limits_fit, settings_fit, usable_at, words_needed, compute_settings}
use Rattle.model.specs.Class.{class_fits, class_at, class_of, deliverer_fits, deliverer_of, three, pick, compute_class}
use Rattle.model.specs.Codes.{flag_fits, flag_of, start_fits, start_of, verdict_fits, verdict_of, compute_codes}
use Rattle.model.specs.Generation.{as_read, compute_generation}
use Rattle.model.specs.Book.{Held, Book, entries_of, entries_in, units, places_of, expire, opened_book, closed_book, with_limits, compute_book}
use Rattle.model.specs.Register.{Register, any_class, holds_any, sweep, published, started, begin, compute_register}
use Rattle.model.specs.Judge.{Ask, Judgement, judge, judge_batch, Taken, take_batch, compute_judge}
use Rattle.model.specs.Judge.{take as take_ticket}
use Rattle.model.specs.Dump.{dump_bytes, Dump, read_dump, Restoring, restore, resume, compute_dump}
use Rattle.model.specs.First.{Rule, rule, first_of}
use Rattle.model.specs.Reason.{reason, compute_reason}
use Rattle.model.specs.RawViews.{deliverer_view, register_view, compute_raw_views}
use Rattle.model.specs.Stamp.{stamp_for, compute_stamp}
use Rattle.model.specs.Words.{State, front_spare, unused_width, state_form}

-- ---- calls, with every number as the host passes it
pub record Asking : Type 0 where
  pub fp : ℕ
  pub stamp : ℕ
  pub ms : ℕ
  pub flag : ℕ
  pub kind : ℕ
  pub number : ℕ

-- a ticket without its stamp, and the number of the verdict that is wanted
pub record Seeking : Type 0 where
  pub fp : ℕ
  pub ms : ℕ
  pub flag : ℕ
  pub kind : ℕ
  pub number : ℕ
  pub wanted : ℕ

-- the ticket with a stamp
abbrev pub asking_at : ℕ → Seeking → Asking
asking_at x q = record { fp = q.fp; stamp = x; ms = q.ms; flag = q.flag; kind = q.kind; number = q.number }

-- on one register
pub data Deed : Type 0 where
  Ticket : Manner → Asking → Deed
  ContainsHash : ℕ → Deed
  Begin : ℕ → Deed
  Sweep : ℕ → Deed
  -- the output's bytes as they are lent
  DumpTo : List ℕ → Deed
  Restore : List ℕ → Deed
  -- the bytes, 1 where a floor is proven, and that floor
  Resume : List ℕ → ℕ → ℕ → Deed
  Floor Pending SweptBucket : Deed
  -- the output's words as they are lent
  ViewRegister : List ℕ → Deed
  -- asked like a take
  Explain : Asking → Deed
  StampFor : Seeking → Deed

pub data Call : Type 0 where
  -- the limits, and for each of four registers a start's code and floor
  Open : List ℕ → List ℕ → Call
  On : ℕ → Deed → Call
  Expire : ℕ → Call
  SetLimits : List ℕ → Call
  Close : Call
  HeldBy : ℕ → ℕ → Call
  ClassTotals : ℕ → Call
  -- a deliverer's kind and number, and the output's words as they are lent
  ViewDeliverer : ℕ → ℕ → List ℕ → Call

-- ---- what is done to a state that nothing refuses
pub record Step : Type 0 where
  pub answer : Answer
  pub state : State

abbrev pub no_register : Register
no_register = record { swept = 0; floor = None; pending = false; spare = []; rings = three [] }

abbrev pub register_at : ℕ → State → Register
register_at r t = get_or t.registers r no_register

abbrev pub with_register : ℕ → Register → State → State
with_register r reg t = record { book = t.book; registers = set t.registers r reg; spare = t.spare; unused = t.unused }

abbrev pub with_book : Book → State → State
with_book book t = record { book = book; registers = t.registers; spare = t.spare; unused = t.unused }

-- opening: every word follows from its arguments
unfoldable pub start_all : Settings → List ℕ → ℕ → ℕ → List Register
start_all s starts r zero = []
start_all s starts r (suc n) =
    started (usable_at s r) (start_of (get_or starts (2 * r) 0) (get_or starts (2 * r + 1) 0)) ∷ start_all s starts (suc r) n

unfoldable pub opened : Settings → List ℕ → List ℕ → State
opened s limits starts = record {
  book = opened_book (limits_of limits);
  registers = start_all s starts 0 s.registers;
  spare = replicate front_spare 0;
  unused = replicate (unused_width s) 0;
}

abbrev pub ask_of : Asking → Ask
ask_of a = record { fp = a.fp; stamp = a.stamp; ms = a.ms; judging = flag_of a.flag; who = deliverer_of a.kind a.number }

unfoldable pub after_judged : ℕ → State → Judgement → Step
after_judged r t j = record { answer = Said j.says; state = with_register r j.register t }

unfoldable pub after_taken : ℕ → State → Taken → Step
after_taken r t k = record { answer = Said k.says; state = with_book k.book (with_register r k.register t) }

unfoldable pub asked : Settings → ℕ → Manner → Ask → State → Step
asked s r Judged a t = after_judged r t (judge (usable_at s r) (register_at r t) a)
asked s r JudgedBatch a t = after_judged r t (judge_batch (usable_at s r) (register_at r t) a)
asked s r TakenManner a t = after_taken r t (take_ticket (usable_at s r) s.shares (register_at r t) t.book a)
asked s r TakenBatch a t = after_taken r t (take_batch (usable_at s r) s.shares (register_at r t) t.book a)

-- "returns bytes read and Whole or Partly"
abbrev pub bytes_read : Dump → ℕ
bytes_read d = 8 * d.words

unfoldable pub after_restored : ℕ → State → Dump → Restoring → Step
after_restored r t d w = record {
  answer = cond w.whole (Whole (bytes_read d)) (Partly (bytes_read d));
  state = with_book w.book (with_register r w.register t);
}

-- a dump cut short is refused before this (7)
unfoldable pub restored : Settings → ℕ → State → Option Dump → Step
restored s r t None = record { answer = Done; state = t }
restored s r t (Some d) = after_restored r t d (restore (usable_at s r) s.shares d (register_at r t) t.book)

abbrev pub proven_of : ℕ → ℕ → Option ℕ
proven_of flag floor = cond (flag_of flag) (Some floor) None

unfoldable pub resumed : Settings → ℕ → State → Option ℕ → Option Dump → Step
resumed s r t proven None = record { answer = Done; state = t }
resumed s r t proven (Some d) = after_restored r t d (resume (usable_at s r) s.shares d proven (register_at r t) t.book)

abbrev pub yes_no : Bool → Answer
yes_no true = Yes
yes_no false = No

abbrev pub floor_answer : Option ℕ → Answer
floor_answer None = NoFloor
floor_answer (Some f) = FloorAt f

abbrev pub sought : Settings → ℕ → Seeking → State → Option ℕ
sought s r q t = stamp_for (usable_at s r) s.shares (register_at r t) t.book (ask_of (asking_at 0 q)) (verdict_of q.wanted)

abbrev pub stamp_answer : Option ℕ → Answer
stamp_answer None = NoStamp
stamp_answer (Some x) = StampAt x

-- "the least of all published sweeps and the reading"
unfoldable pub least_published : Settings → ℕ → List Register → ℕ → ℕ
least_published s r [] ms = ms
least_published s r (reg ∷ regs) ms = least_published s (suc r) regs (min ms (published (usable_at s r) reg.swept))

unfoldable pub class_totals : Settings → Held → Answer
class_totals s h = Totals (entries_in h.places) (length h.places) (units s.shares h.places) h.expired

-- ---- refusals
-- 1, its codes: "a setting or limit outside its bounds, or a deliverer kind, class, start, flag or other code not listed"
unfoldable pub start_fits_at : Settings → List ℕ → ℕ → Bool
start_fits_at s starts r = leb s.registers r || start_fits (get_or starts (2 * r) 0)

abbrev pub starts_width : ℕ
starts_width = 8

unfoldable pub starts_fit : Settings → List ℕ → Bool
starts_fit s starts =
    eqb (length starts) starts_width
    && (start_fits_at s starts 0 && (start_fits_at s starts 1 && (start_fits_at s starts 2 && start_fits_at s starts 3)))

unfoldable pub limits_words_fit : List ℕ → Bool
limits_words_fit limits = eqb (length limits) limits_width && limits_fit (limits_of limits)

-- a ticket's codes
abbrev pub asking_fits : Asking → Bool
asking_fits a = flag_fits a.flag && deliverer_fits a.kind a.number

-- a refusal number and whether its condition holds
abbrev pub Refusal : Type 0
Refusal = Rule ℕ

abbrev pub refusal : ℕ → Bool → Refusal
refusal n b = rule n b

-- 6: "dump while pending", 5: "dump output too short"
abbrev pub dump_refusals : List ℕ → Register → List Refusal
dump_refusals out reg = refusal 6 reg.pending ∷ refusal 5 (ltb (length out) (length (dump_bytes reg))) ∷ []

-- 7: "dump cut short"
unfoldable pub is_cut : Option Dump → Bool
is_cut None = true
is_cut (Some d) = false

abbrev pub restore_refusals : List ℕ → List Refusal
restore_refusals bytes = refusal 7 (is_cut (read_dump bytes)) ∷ []

-- 8: "view output too short"
abbrev pub view_refusals : List ℕ → List ℕ → List Refusal
view_refusals out view = refusal 8 (ltb (length out) (length view)) ∷ []

abbrev pub no_refusals : List Refusal
no_refusals = []

-- ---- calls, sorted for what is promised of lists of them
-- a deed
pub data Sort : Type 0 where
  -- judge and judge_batch; take and take_batch
  Asks Takes : Asking → Sort
  Restores Resumes : Sort
  -- any other
  Plain : Sort

pub data Kind : Type 0 where
  -- an opening, with its limits and starts
  Opens : List ℕ → List ℕ → Kind
  OnOne : ℕ → Sort → Kind
  -- a limit change
  Sets : List ℕ → Kind
  -- any other
  Other : Kind

unfoldable pub manner_sort : Manner → Asking → Sort
manner_sort Judged a = Asks a
manner_sort JudgedBatch a = Asks a
manner_sort TakenManner a = Takes a
manner_sort TakenBatch a = Takes a

unfoldable pub opens : Kind → Bool
opens (Opens limits starts) = true
opens (OnOne r d) = false
opens (Sets limits) = false
opens Other = false

-- 4: "register number not below R"
unfoldable pub beyond : Settings → Kind → Bool
beyond s (Opens limits starts) = false
beyond s (OnOne r d) = leb s.registers r
beyond s (Sets limits) = false
beyond s Other = false

-- ---- every deed, in one clause
pub record Act : Type 0 where
  -- its codes are listed
  pub fits : Bool
  -- its own refusals after 4, in the order in which they are tried
  pub own : Register → List Refusal
  -- what it does to a state that nothing refuses
  pub does : Settings → ℕ → State → Step
  -- the output that it is lent, and the bytes or words that it writes there
  pub output : List ℕ
  pub writes : Register → List ℕ
  -- it only reads: no word is altered
  pub reads : Bool
  -- the reading by which it sweeps its register, unless that is pending
  pub reading : Option ℕ
  pub sort : Sort

-- one that reads: it answers, and writes to its output alone
abbrev pub shows : Bool → (Register → List Refusal) → List ℕ → (Register → List ℕ) → (Settings → ℕ → State → Answer) → Act
shows fits own output writes says = record {
  fits = fits;
  own = own;
  does = λ s r t. record { answer = says s r t; state = t };
  output = output;
  writes = writes;
  reads = true;
  reading = None;
  sort = Plain;
}

abbrev pub looks : Bool → (Settings → ℕ → State → Answer) → Act
looks fits says = shows fits (λ reg. no_refusals) [] (λ reg. []) says

-- one that alters the state
abbrev pub alters : Bool → List Refusal → Sort → (Settings → ℕ → State → Step) → Act
alters fits own sort does = record {
  fits = fits;
  own = λ reg. own;
  does = does;
  output = [];
  writes = λ reg. [];
  reads = false;
  reading = None;
  sort = sort;
}

-- one that sweeps its register first
abbrev pub sweeps_by : Option ℕ → Act → Act
sweeps_by ms a = record {
  fits = a.fits;
  own = a.own;
  does = a.does;
  output = a.output;
  writes = a.writes;
  reads = a.reads;
  reading = ms;
  sort = a.sort;
}

-- with the flag off a ticket's reading is not used
abbrev pub reading_of_ask : Ask → Option ℕ
reading_of_ask a = cond a.judging (Some a.ms) None

unfoldable pub act : Deed → Act
act (Ticket m a) =
    sweeps_by (reading_of_ask (ask_of a))
    (alters (asking_fits a) no_refusals (manner_sort m a) (λ s r t. asked s r m (ask_of a) t))
act (ContainsHash fp) = looks true (λ s r t. yes_no (any_class (holds_any (as_read fp)) (register_at r t).rings))
act (Begin number) =
    alters true no_refusals Plain
    (λ s r t. record { answer = cond (register_at r t).pending Begun Already; state = with_register r (begin number (register_at r t)) t })
act (Sweep ms) =
    sweeps_by (Some ms)
    (alters true no_refusals Plain (λ s r t. record { answer = Done; state = with_register r (sweep (usable_at s r) ms (register_at r t)) t }))
act (DumpTo out) = shows true (dump_refusals out) out dump_bytes (λ s r t. Dumped (length (dump_bytes (register_at r t))))
act (Restore bytes) = alters true (restore_refusals bytes) Restores (λ s r t. restored s r t (read_dump bytes))
act (Resume bytes flag floor) =
    alters (flag_fits flag) (restore_refusals bytes) Resumes (λ s r t. resumed s r t (proven_of flag floor) (read_dump bytes))
act Floor = looks true (λ s r t. floor_answer (register_at r t).floor)
act Pending = looks true (λ s r t. yes_no (register_at r t).pending)
act SweptBucket = looks true (λ s r t. SweptTo (register_at r t).swept (published (usable_at s r) (register_at r t).swept))
act (ViewRegister out) =
    shows true (λ reg. view_refusals out (register_view reg)) out register_view (λ s r t. Viewed (length (register_view (register_at r t))))
act (Explain a) = looks (asking_fits a) (λ s r t. Because (reason (usable_at s r) s.shares (register_at r t) t.book (ask_of a)))
act (StampFor q) = looks (asking_fits (asking_at 0 q) && verdict_fits q.wanted) (λ s r t. stamp_answer (sought s r q t))

unfoldable pub deed_fits : Deed → Bool
unfolding act
deed_fits d = (act d).fits

unfoldable pub deed_refusals : Register → Deed → List Refusal
unfolding act
deed_refusals reg d = (act d).own reg

unfoldable pub done_on : Settings → ℕ → Deed → State → Step
unfolding act
done_on s r d t = (act d).does s r t

-- ---- and every call
pub record Meaning : Type 0 where
  pub fits : Settings → Bool
  pub own : Settings → State → List Refusal
  pub does : Settings → State → Step
  pub output : List ℕ
  pub writes : State → List ℕ
  pub reads : Bool
  pub reading : Option ℕ
  pub kind : Kind

-- one that reads
abbrev pub shows_all : (Settings → Bool) → (Settings → State → List Refusal) → List ℕ → (State → List ℕ) → (Settings → State → Answer) → Meaning
shows_all fits own output writes says = record {
  fits = fits;
  own = own;
  does = λ s t. record { answer = says s t; state = t };
  output = output;
  writes = writes;
  reads = true;
  reading = None;
  kind = Other;
}

abbrev pub tells : Bool → (Settings → State → Answer) → Meaning
tells fits says = shows_all (λ s. fits) (λ s t. no_refusals) [] (λ t. []) says

-- one that is done
abbrev pub makes : (Settings → Bool) → Kind → (Settings → State → State) → Meaning
makes fits kind leaves = record {
  fits = fits;
  own = λ s t. no_refusals;
  does = λ s t. record { answer = Done; state = leaves s t };
  output = [];
  writes = λ t. [];
  reads = false;
  reading = None;
  kind = kind;
}

abbrev pub viewed_by : ℕ → ℕ → State → List ℕ
viewed_by kind number t = deliverer_view (deliverer_of kind number) t.book

unfoldable pub meaning : Call → Meaning
meaning (Open limits starts) =
    makes (λ s. limits_words_fit limits && starts_fit s starts) (Opens limits starts) (λ s t. opened s limits starts)
meaning (On r d) = record {
  fits = λ s. deed_fits d;
  own = λ s t. deed_refusals (register_at r t) d;
  does = λ s t. done_on s r d t;
  output = (act d).output;
  writes = λ t. (act d).writes (register_at r t);
  reads = (act d).reads;
  reading = (act d).reading;
  kind = OnOne r (act d).sort;
}
meaning (Expire ms) = makes (λ s. true) Other (λ s t. with_book (expire (least_published s 0 t.registers ms) t.book) t)
meaning (SetLimits limits) = makes (λ s. limits_words_fit limits) (Sets limits) (λ s t. with_book (with_limits (limits_of limits) t.book) t)
meaning Close = makes (λ s. true) Other (λ s t. with_book (closed_book t.book) t)
meaning (HeldBy kind number) =
    tells (deliverer_fits kind number)
    (λ s t. let who = deliverer_of kind number in Entries (entries_of who (places_of (class_of who) t.book)))
meaning (ViewDeliverer kind number out) =
    shows_all (λ s. deliverer_fits kind number) (λ s t. view_refusals out (viewed_by kind number t)) out (viewed_by kind number)
    (λ s t. Viewed (length (viewed_by kind number t)))
meaning (ClassTotals c) = tells (class_fits c) (λ s t. class_totals s (pick (class_at c) t.book.classes))

unfoldable pub codes_fit : Settings → Call → Bool
unfolding meaning
codes_fit s call = (meaning call).fits s

unfoldable pub own_refusals : Settings → Call → State → List Refusal
unfolding meaning
own_refusals s call t = (meaning call).own s t

unfoldable pub step : Settings → Call → State → Step
unfolding meaning
step s call t = (meaning call).does s t

unfoldable pub output_of : Call → List ℕ
unfolding meaning act
output_of call = (meaning call).output

unfoldable pub written_by : Call → State → List ℕ
unfolding meaning act
written_by call t = (meaning call).writes t

unfoldable pub only_reads : Call → Bool
unfolding meaning act
only_reads call = (meaning call).reads

-- the reading by which it sweeps the register that it is on
unfoldable pub reading_of : Call → Option ℕ
unfolding meaning act
reading_of call = (meaning call).reading

unfoldable pub kind : Call → Kind
unfolding meaning
kind call = (meaning call).kind

unfoldable pub is_open : Call → Bool
unfolding kind opens
is_open call = opens (kind call)

unfoldable pub no_such_register : Settings → Call → Bool
unfolding kind beyond
no_such_register s call = beyond s (kind call)

-- ---- refusals that every call has
-- 1
unfoldable pub settings_words_fit : List ℕ → Bool
settings_words_fit st = eqb (length st) settings_width && settings_fit (settings_of st)

unfoldable pub unfit : List ℕ → Call → Bool
unfit st call = not (settings_words_fit st && codes_fit (settings_of st) call)

-- 2: "fewer lent words than the settings need"
unfoldable pub too_short : List ℕ → List ℕ → Bool
too_short st ws = ltb (length ws) (words_needed (settings_of st))

-- 3: "words that break a soundness rule"; "Opening overwrites the words and tries 1 and 2 alone"
unfoldable pub sound : Settings → List ℕ → Bool
sound s ws = (state_form s).test (take (words_needed s) ws)

unfoldable pub unsound : List ℕ → List ℕ → Call → Bool
unsound st ws call = not (is_open call || sound (settings_of st) ws)

-- the number of the first that is met, or 0
unfoldable pub first_met : List Refusal → ℕ
unfolding first_of
first_met xs = first_of 0 xs

-- what a state has to say: 4, and the call's own
abbrev pub refusals_of : Settings → Call → State → List Refusal
refusals_of s call t = refusal 4 (no_such_register s call) ∷ own_refusals s call t

-- what words hold under settings
unfoldable pub held_in : Settings → List ℕ → State
held_in s ws = (state_form s).read (take (words_needed s) ws)

-- "Tried in the order 1, 2, 3, 4, 6, 5, 7"; 8 "tried after 4"
abbrev pub refusals : List ℕ → List ℕ → Call → List Refusal
refusals st ws call =
    refusal 1 (unfit st call) ∷ refusal 2 (too_short st ws) ∷ refusal 3 (unsound st ws call)
    ∷ refusals_of (settings_of st) call (held_in (settings_of st) ws)

unfoldable pub refused : List ℕ → List ℕ → Call → ℕ
refused st ws call = first_met (refusals st ws call)

-- ---- reply, and words and bytes after
unfoldable pub reply : List ℕ → List ℕ → Call → Answer
reply st ws call =
    cond (eqb (refused st ws call) 0) (step (settings_of st) call (held_in (settings_of st) ws)).answer (Refused (refused st ws call))

-- "alters nothing"; "Words past those needed are neither read nor written"
unfoldable pub after : List ℕ → List ℕ → Call → List ℕ
after st ws call =
    cond (eqb (refused st ws call) 0)
    ((state_form (settings_of st)).enc (step (settings_of st) call (held_in (settings_of st) ws)).state ++ drop (words_needed (settings_of st)) ws)
    ws

-- "Output past what a call writes keeps its content."
abbrev pub written_over : List ℕ → List ℕ → List ℕ
written_over what out = what ++ drop (length what) out

unfoldable pub output_after : List ℕ → List ℕ → Call → List ℕ
output_after st ws call =
    cond (eqb (refused st ws call) 0) (written_over (written_by call (held_in (settings_of st) ws)) (output_of call)) (output_of call)

-- the rules of this file, for a theorem that computes
unfoldable pub compute_calls : ℕ
unfolding start_all opened after_judged after_taken asked after_restored restored resumed least_published class_totals start_fits_at starts_fit limits_words_fit is_cut manner_sort opens beyond act deed_fits deed_refusals done_on meaning codes_fit own_refusals step output_of written_by only_reads reading_of kind is_open no_such_register settings_words_fit unfit too_short sound unsound first_met held_in refused reply after output_after
compute_calls = 0

-- the rules of all files
unfoldable pub compute_rules : ℕ
unfolding compute_numbers compute_settings compute_class compute_generation compute_book compute_register compute_judge compute_dump compute_codes compute_raw_views compute_reason compute_stamp compute_calls
compute_rules = 0
