-- A class's words before the first place, between two places and after the last: the invariant of the walk, and what its end makes of the class.
use Prim.Native.Nat.{ℕ, ◌+◌, ◌-◌, ◌*◌, ◌<◌, ◌≤◌}
use native.Mathlib.Nat.{zero-mul, add-mul}
use native.Mathlib.Numerals.{add-one}
use native.Mathlib.Omega.{arith}
use mathlib.Core.Path.{◌≡◌, refl, ap, ap₂, sym, subst, ◌∙◌}
use mathlib.Core.Bool.{false}
use mathlib.Core.List.{List, [], ◌∷◌, ◌++◌}
use lib.ListN.{length, get_or, take, drop, replicate, length-append, drop_of_length-le, replicate-append-replicate}
use lib.Seq.{take_all}
use lib.Dec.{ltb}
use borrow.Author.Tests.{le-leb, lt-leb, lt-ltb, le-ltb}
use borrow.Rule.Slice.PartMut.{mid_of, put_mid}
use Rattle.model.specs.declared.Class.{Class}
use Rattle.model.specs.declared.Shares.{Shares}
use Rattle.runs.specs.Chunks.{flat}
use Rattle.runs.specs.Combine.{enc_up}
use Rattle.model.specs.Numbers.{cap32}
use Rattle.model.specs.Widths.{class_head, place_width}
use Rattle.model.specs.Book.{Place, Held, entries_in, units, later_places, expire_class}
use Rattle.model.specs.BookWords.{encode_place, place_form, class_form}
use Rattle.model.proofs.Places.{PlacesOk}
use Rattle.book.specs.declared.totals.Totals.{Totals}
use Rattle.book.specs.Sums.{totals_in, totals_of, expired_to}
use Rattle.book.specs.ClassRules.{ClassIs, ClassTurns}
use Rattle.runs.proofs.Shifts.{mid_of_append, put_of}
use Rattle.book.proofs.ClassWords.{turns_one, flat_long, up_flat, holders_are}
use Rattle.book.proofs.Finding.{in_part}
use Rattle.book.proofs.Entering.{class_words}
use Rattle.numbers.specs.declared.units.Sums.{Sums}
use Rattle.numbers.specs.Sums.{no_sums}
use Rattle.book_expiry.specs.Walks.{between, Walk, Standing, Steps, lead_of, rest_of, Walking, freed_to}
use Rattle.book_expiry.proofs.Lists.{kept_ok, first_units, first_entries, first_length}

-- ---- nothing has been seen yet
module _ (b : Shares) (c : Class) (t : ℕ) (ws : List ℕ) where
  none_seen : (h : Held) → (class_form b c).Ok h → ws ≡ (class_form b c).enc h
      → Walk b t 0 (lead_of b h) h.places (rest_of b h) no_sums ws
  unfolding later_places entries_in units flat between
  none_seen h ok is = record {
    gap = [];
    left = refl;
    words = is ∙ ap (λ (l : List ℕ). lead_of b h ++ l) (up_flat c b.pairs b.places h.places ok.1.0.0);
    size = rw zero-mul;
    holders = refl;
    entries = refl;
    units = refl;
  }

  pub starts : Walking b c t ws 0 no_sums ws
  starts = record { does = none_seen }

-- ---- one place more
module _ (b : Shares) (c : Class) (t : ℕ) (ws : List ℕ) (cl : ClassIs b c ws) (i : ℕ) (k : Sums) (now : List ℕ) (x : Walking b c t ws i k now) where
  abbrev ps : List Place
  ps = cl.is.value.places

  each : PlacesOk c b.pairs 0 ps
  each = cl.is.ok.1.0.1

  walk : Walk b t i (lead_of b cl.is.value) ps (rest_of b cl.is.value) k now
  walk = x.does cl.is.value cl.is.ok cl.is.words

  entries_are : get_or ws 0 0 ≡ entries_in ps
  entries_are = ap (λ (l : List ℕ). get_or l 0 0) cl.is.words

  units_are : get_or ws 2 0 ≡ units b ps
  units_are = ap (λ (l : List ℕ). get_or l 2 0) cl.is.words

  pub stands : i < get_or ws 1 0 → length now ≡ length ws → Standing b c t i k now
  stands h long =
      let n = holders_are b c ws cl in
      let m = cl.holders in
      let o = cl.places in
      let g = walk.size in
      let y = ap (λ (z : ℕ). z * place_width b.pairs) walk.holders in
      let z = walk.holders in
      let wi = in_part b c ws cl i h in
      let fl = first_length b c t i ps each in
      let fe = first_entries b c t i ps each in
      let fu = first_units b c t i ps in
      let we = walk.entries in
      let wu = walk.units in
      let ea = entries_are in
      let ua = units_are in
      let ce = cl.entries in
      let cu = cl.units in
      record {
        lead = lead_of b cl.is.value;
        ps = ps;
        rest = rest_of b cl.is.value;
        walk = walk;
        totals = refl;
        ok = each;
        below = omega arith;
        index = omega arith;
        pairs = cl.pairs;
        feeder = cl.feeder;
        peer = cl.peer;
        within = omega arith;
        behind = omega arith;
        holders = omega arith;
        entries = omega arith;
        units = omega arith;
      }

  pub on : i < get_or ws 1 0 → (r : Sums) (last : List ℕ) → Steps b c t i k now last r → Walking b c t ws (i + 1) r last
  on h r last s = record {
    does = λ v ok is.
        let n : get_or ws 1 0 ≡ length v.places = ap (λ (l : List ℕ). get_or l 1 0) is in
        rw (add-one i) (s.does (lead_of b v) v.places (rest_of b v) refl ok.1.0.1 (omega arith) (x.does v ok is));
  }

-- ---- all have been seen
module _ (b : Shares) (c : Class) (t : ℕ) (ws : List ℕ) (cl : ClassIs b c ws) (k : Sums) (now : List ℕ) (x : Walking b c t ws (get_or ws 1 0) k now) where
  abbrev all : List Place
  all = cl.is.value.places

  abbrev kept : List Place
  kept = later_places t cl.is.value.places

  abbrev W : ℕ
  W = place_width b.pairs

  abbrev rest : List ℕ
  rest = replicate ((b.places - length cl.is.value.places) * place_width b.pairs) 0

  -- what the walk says, of all places
  pub record Done (seen : List ℕ) : Type 0 where
    pub gap : List ℕ
    pub words : seen ≡ (lead_of b cl.is.value ++ flat encode_place kept) ++ (gap ++ rest)
    pub size : length kept * W + length gap ≡ length all * W
    pub holders : k.holders ≡ length kept
    pub entries : k.entries ≡ entries_in kept
    pub units : k.units ≡ units b kept

  whole : Walk b t (length all) (lead_of b cl.is.value) all rest k now
  whole =
      subst (λ (n : ℕ). Walk b t n (lead_of b cl.is.value) all rest k now) (holders_are b c ws cl)
      (x.does cl.is.value cl.is.ok cl.is.words)

  done : Done now
  unfolding flat
  done =
      let d : drop (length all) all ≡ [] = drop_of_length-le all {i = length all} (omega arith) in
      let l : take (length all) all ≡ all = take_all (length all) all (omega arith) in
      record {
        gap = whole.gap;
        words = rw (l, d) at whole.words;
        size = rw l at whole.size;
        holders = rw l at whole.holders;
        entries = rw l at whole.entries;
        units = rw l at whole.units;
      }

  each_one : PlacesOk c b.pairs 0 all
  each_one = cl.is.ok.1.0.1

  kept_fine : PlacesOk c b.pairs 0 kept
  kept_fine =
      let l : take (length all) all ≡ all = take_all (length all) all (omega arith) in
      rw l at (kept_ok b c t (length all) all each_one)

  kept_few : length kept ≤ length all
  kept_few =
      let l : take (length all) all ≡ all = take_all (length all) all (omega arith) in
      rw l at (first_length b c t (length all) all each_one)

  all_few : length all ≤ b.places
  all_few = cl.is.ok.1.0.0

  front_long : length (lead_of b cl.is.value ++ flat encode_place kept) ≡ class_head + k.holders * W
  front_long =
      let l = length-append (lead_of b cl.is.value) (flat encode_place kept) in
      let f = flat_long c b.pairs 0 kept kept_fine in
      let m = ap (λ (n : ℕ). n * W) done.holders in
      omega arith

  gap_long : k.holders * W + length done.gap ≡ get_or ws 1 0 * W
  gap_long =
      let m = ap (λ (n : ℕ). n * W) done.holders in
      let n = ap (λ (n : ℕ). n * W) (holders_are b c ws cl) in
      let s = done.size in
      omega arith

  -- the zeros after the places kept
  zeros_are : length done.gap + (b.places - length all) * W ≡ (b.places - length kept) * W
  zeros_are =
      let s = done.size in
      let f = kept_few in
      let g = all_few in
      let m = add-mul (length kept) (length all - length kept) W in
      let n : length kept + (length all - length kept) ≡ length all = omega arith in
      let o = ap (λ (z : ℕ). z * W) n in
      let y = add-mul (length all - length kept) (b.places - length all) W in
      let z : length all - length kept + (b.places - length all) ≡ b.places - length kept = omega arith in
      let v = ap (λ (z : ℕ). z * W) z in
      omega arith

  -- the totals are those of all places, of which no more are kept
  pub kept_within : (s : Totals) → s ≡ totals_in ws → (k.entries ≤ s.entries) × (k.holders ≤ s.holders) × (k.units ≤ s.units)
  kept_within s e =
      let l : take (length all) all ≡ all = take_all (length all) all (omega arith) in
      let fe = rw l at (first_entries b c t (length all) all each_one) in
      let fu = rw l at (first_units b c t (length all) all) in
      let fl = kept_few in
      let d = done in
      let de = d.entries in
      let dp = d.holders in
      let du = d.units in
      let se = ap (λ (z : Totals). z.entries) e ∙ ap (λ (y : List ℕ). get_or y 0 0) cl.is.words in
      let sh = ap (λ (z : Totals). z.holders) e ∙ holders_are b c ws cl in
      let su = ap (λ (z : Totals). z.units) e ∙ ap (λ (y : List ℕ). get_or y 2 0) cl.is.words in
      (omega arith, omega arith, omega arith)

  module _ (a e : ℕ) (ha : a ≡ class_head + k.holders * W) (he : e ≡ class_head + get_or ws 1 0 * W) (zs : List ℕ) (is : zs ≡ replicate (length (mid_of a (e - a) now)) 0) where
    gap_is : length done.gap ≡ e - a
    gap_is = let g = gap_long in omega arith

    lent : mid_of a (e - a) now ≡ done.gap
    lent = ap (mid_of a (e - a)) done.words ∙ mid_of_append (lead_of b cl.is.value ++ flat encode_place kept) done.gap rest a (e - a) (front_long ∙ sym ha) gap_is

    cleared : put_mid a (e - a) now zs ≡ (lead_of b cl.is.value ++ flat encode_place kept) ++ (replicate (length done.gap) 0 ++ rest)
    cleared =
        let z : zs ≡ replicate (length done.gap) 0 = is ∙ ap (λ (y : List ℕ). replicate (length y) 0) lent in
        ap₂ (put_mid a (e - a)) done.words z
        ∙ put_of (lead_of b cl.is.value ++ flat encode_place kept) done.gap rest (replicate (length done.gap) 0) a (e - a) (front_long ∙ sym ha) gap_is

    body : drop class_head (put_mid a (e - a) now zs) ≡ enc_up (place_form c b.pairs) b.places kept
    body =
        let f = kept_few in
        let g = all_few in
        ap (drop class_head) cleared
        ∙ ap (λ (y : List ℕ). flat encode_place kept ++ y)
        (replicate-append-replicate (length done.gap) ((b.places - length all) * W) 0 ∙ ap (λ (n : ℕ). replicate n 0) zeros_are)
        ∙ sym (up_flat c b.pairs b.places kept (omega arith))

    pub ends : (s left : Totals) → s ≡ totals_in ws → left ≡ expired_to s (record { entries = s.entries - k.entries; holders = s.holders - k.holders; units = s.units - k.units }) t
        → ClassTurns b c (freed_to t) (λ h. tt {0}) ws (left.entries ∷ left.holders ∷ left.units ∷ left.expired ∷ drop class_head (put_mid a (e - a) now zs)) (tt {0})
    ends s left is_read is-left =
        let d = done in
        let w = kept_within s is_read in
        let n : s.entries - (s.entries - k.entries) ≡ entries_in kept = let f = d.entries in omega arith in
        let m : s.holders - (s.holders - k.holders) ≡ length kept = let f = d.holders in omega arith in
        let u : s.units - (s.units - k.units) ≡ units b kept = let f = d.units in omega arith in
        let y : left ≡ totals_of b (freed_to t cl.is.value) = is-left ∙ (λ i. record { entries = n i; holders = m i; units = u i; expired = t }) in
        turns_one b c ws cl.is (class_words b c (freed_to t cl.is.value) left (drop class_head (put_mid a (e - a) now zs)) y body) refl

-- ---- the rule for a clock that stepped back
module _ (b : Shares) (c : Class) (t : ℕ) (ws : List ℕ) (cl : ClassIs b c ws) where
  expired_is : get_or ws 3 0 ≡ cl.is.value.expired
  expired_is = ap (λ (l : List ℕ). get_or l 3 0) cl.is.words

  pub noted : cap32 (t + 2) < get_or ws 3 0 → (s left : Totals) → s ≡ totals_in ws → left ≡ expired_to s no_sums t
      → ClassTurns b c (expire_class t) (λ h. tt {0}) ws (left.entries ∷ left.holders ∷ left.units ∷ left.expired ∷ drop class_head ws) (tt {0})
  unfolding expire_class
  noted h s left is_read is-left =
      let e = lt-ltb (cap32 (t + 2)) cl.is.value.expired (let x = expired_is in omega arith) in
      let was : totals_in ws ≡ totals_of b cl.is.value = ap totals_in cl.is.words in
      let none : expired_to s no_sums t ≡ record { entries = s.entries; holders = s.holders; units = s.units; expired = t } =
      let n : s.entries - 0 ≡ s.entries = omega arith in
      let m : s.holders - 0 ≡ s.holders = omega arith in
      let u : s.units - 0 ≡ s.units = omega arith in
      λ i. record { entries = n i; holders = m i; units = u i; expired = t } in
      let y : left ≡ totals_of b (record { places = cl.is.value.places; expired = t }) =
      is-left ∙ none ∙ ap (λ (z : Totals). record { entries = z.entries; holders = z.holders; units = z.units; expired = t }) (is_read ∙ was) in
      turns_one b c ws cl.is
      (class_words b c (record { places = cl.is.value.places; expired = t }) left (drop class_head ws) y (ap (drop class_head) cl.is.words) ∙ rw e)
      refl

  module _ (fresh : get_or ws 3 0 ≤ cap32 (t + 2)) where
    not_back : ltb (cap32 (t + 2)) cl.is.value.expired ≡ false
    not_back = le-ltb (cap32 (t + 2)) cl.is.value.expired (let x = expired_is in omega arith)

    pub waits : t ≤ get_or ws 3 0 → ClassTurns b c (expire_class t) (λ h. tt {0}) ws ws (tt {0})
    unfolding expire_class
    waits h =
        let d = le-leb t cl.is.value.expired (let x = expired_is in omega arith) in
        turns_one b c ws cl.is (cl.is.words ∙ rw (not_back, d)) refl

    pub moves_on : get_or ws 3 0 < t → (last : List ℕ) → ClassTurns b c (freed_to t) (λ h. tt {0}) ws last (tt {0})
        → ClassTurns b c (expire_class t) (λ h. tt {0}) ws last (tt {0})
    unfolding expire_class
    moves_on h last x =
        let d = lt-leb t cl.is.value.expired (let x = expired_is in omega arith) in
        turns_one b c ws cl.is ((x.does cl.is.value cl.is.ok cl.is.words).0 ∙ rw (not_back, d)) refl
