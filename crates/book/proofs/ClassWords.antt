-- A class's words: its totals, the places in use one after the other, and zeros. Where place i lies, and what the whole is when it changes.
use Prim.Native.Nat.{ℕ, zero, suc, ◌+◌, ◌-◌, ◌*◌, ◌<◌, ◌≤◌}
use native.Mathlib.Nat.{zero-mul, suc-mul, mul-le-mul_right}
use native.Mathlib.Omega.{arith}
use mathlib.Core.Path.{◌≡◌, refl, ap, sym, subst, ◌∙◌}
use mathlib.Core.List.{List, [], ◌∷◌, ◌++◌, append_assoc}
use lib.ListN.{length, get_or, take, drop, replicate, length-append}
use lib.Seq.{split_at, length-take-le, get_or-take, get_or-drop}
use borrow.Rule.Slice.PartMut.{mid_of, put_mid}
use Rattle.model.specs.declared.Class.{Class}
use Rattle.model.specs.declared.Deliverer.TheVariants.{Relay}
use Rattle.model.specs.declared.Shares.{Shares}
use Rattle.runs.specs.Chunks.{flat}
use Rattle.runs.specs.Combine.{EachOk, enc_up}
use Rattle.runs.specs.Turns.{Is}
use Rattle.runs.proofs.Chunks.{flat_append}
use Rattle.runs.proofs.Exact.{up_none}
use Rattle.model.specs.Widths.{class_head, place_width}
use Rattle.model.specs.Book.{Place, Held, entries_in, units}
use Rattle.model.specs.BookWords.{encode_place, PlaceOk, place_form, class_form}
use Rattle.model.proofs.BookWords.{place_exact, class_exact}
use Rattle.model.proofs.Places.{PlacesOk, from_any}
use Rattle.book.specs.Sums.{totals_in, totals_of}
use Rattle.book.specs.ClassRules.{ClassIs, ClassReads, ClassTurns}
use Rattle.runs.proofs.Shifts.{mid_of_append, put_of}

pub nobody : Place
nobody = record { who = Relay; mark = 0; pairs = []; past = [] }

-- ---- one value only has these words, so a contract need only be shown of it
module _ (b : Shares) (c : Class) (ws : List ℕ) (w : Is (class_form b c).enc (class_form b c).Ok ws) where
  pub only : (h : Held) → (class_form b c).Ok h → ws ≡ (class_form b c).enc h → h ≡ w.value
  only h ok is =
      sym ((class_exact b c).forth h ok).1 ∙ ap (class_form b c).read (sym is ∙ w.words) ∙ ((class_exact b c).forth w.value w.ok).1

  pub reads_one : {R : Type 0} {out : Held → R} {r : R} → r ≡ out w.value → ClassReads b c out ws r
  reads_one {out = out} e = record { says = λ h ok is. e ∙ ap out (sym (only h ok is)) }

  pub turns_one : {R : Type 0} {f : Held → Held} {out : Held → R} {last : List ℕ} {r : R} → last ≡ (class_form b c).enc (f w.value) → r ≡ out w.value
      → ClassTurns b c f out ws last r
  turns_one {f = f} {out = out} e d = record {
    does = λ h ok is. let o = sym (only h ok is) in (e ∙ ap (λ (x : Held). (class_form b c).enc (f x)) o, d ∙ ap out o);
  }

-- ---- places in words
pub flat_cons : (p : Place) (ps : List Place) → flat encode_place (p ∷ ps) ≡ encode_place p ++ flat encode_place ps
unfolding flat
flat_cons p ps = refl

module _ (c : Class) (E : ℕ) where
  pub place_long : (p : Place) → PlaceOk c E p → length (encode_place p) ≡ place_width E
  place_long p ok = (place_exact c E).width p ok

  pub flat_long : (i : ℕ) (ps : List Place) → PlacesOk c E i ps → length (flat encode_place ps) ≡ length ps * place_width E
  unfolding EachOk flat
  flat_long i [] ok = sym (zero-mul (place_width E))
  flat_long i (p ∷ ps) ok = rw (length-append, place_long p ok.0, flat_long (suc i) ps ok.1, suc-mul (length ps) (place_width E)) (omega arith)

  pub ok_append : (i j : ℕ) (xs ys : List Place) → PlacesOk c E i (xs ++ ys) → PlacesOk c E i xs × PlacesOk c E (i + length xs) ys
  unfolding EachOk
  ok_append i j [] ys ok = (tt, let e : i + 0 ≡ i = omega arith in rw e ok)
  ok_append i j (x ∷ xs) ys ok =
      let r = ok_append (suc i) j xs ys ok.1 in
      let e : i + suc (length xs) ≡ suc i + length xs = omega arith in
      ((ok.0, r.0), rw e r.1)

  pub up_flat : (n : ℕ) (ps : List Place) → length ps ≤ n
      → enc_up (place_form c E) n ps ≡ flat encode_place ps ++ replicate ((n - length ps) * place_width E) 0
  unfolding flat enc_up
  up_flat zero [] h = rw zero-mul
  up_flat zero (p ∷ ps) h = absurd (omega arith)
  up_flat (suc n) [] h = let e : suc n - 0 ≡ suc n = omega arith in rw e (up_none (place_form c E) (suc n))
  up_flat (suc n) (p ∷ ps) h =
      let e : suc n - suc (length ps) ≡ n - length ps = omega arith in
      rw (up_flat n ps (omega arith), e) (sym (append_assoc (encode_place p) (flat encode_place ps) _))

-- ---- the class's value and its words
module _ (b : Shares) (c : Class) (ws : List ℕ) (w : ClassIs b c ws) where
  abbrev pub held : Held
  held = w.is.value

  abbrev pub ps : List Place
  ps = w.is.value.places

  pub each_ok : PlacesOk c b.pairs 0 ps
  each_ok = w.is.ok.1.0.1

  pub few : length ps ≤ b.places
  few = w.is.ok.1.0.0

  -- the words after the last place in use
  abbrev pub rest : List ℕ
  rest = replicate ((b.places - length w.is.value.places) * place_width b.pairs) 0

  pub body_is : enc_up (place_form c b.pairs) b.places ps ≡ flat encode_place ps ++ rest
  body_is = up_flat c b.pairs b.places ps few

  pub words_are : ws ≡ entries_in ps ∷ length ps ∷ units b ps ∷ w.is.value.expired ∷ (flat encode_place ps ++ rest)
  words_are = w.is.words ∙ ap (λ (l : List ℕ). entries_in ps ∷ length ps ∷ units b ps ∷ w.is.value.expired ∷ l) body_is

  pub holders_are : get_or ws 1 0 ≡ length ps
  holders_are = ap (λ (l : List ℕ). get_or l 1 0) w.is.words

  pub totals_are : totals_in ws ≡ totals_of b held
  totals_are = ap totals_in w.is.words

  -- ---- place i, cut out of its class
  module _ (i : ℕ) (h : i < length ps) where
    abbrev pub here : Place
    here = get_or w.is.value.places i nobody

    abbrev pub front : List Place
    front = take i w.is.value.places

    abbrev pub back : List Place
    back = drop (suc i) w.is.value.places

    pub cut : ps ≡ front ++ here ∷ back
    cut = split_at ps i nobody h

    cut_ok : PlacesOk c b.pairs 0 (front ++ here ∷ back)
    cut_ok = subst (PlacesOk c b.pairs 0) cut each_ok

    pub front_ok : PlacesOk c b.pairs 0 front
    front_ok = (ok_append c b.pairs 0 0 front (here ∷ back) cut_ok).0

    pub here_ok : PlaceOk c b.pairs here
    unfolding EachOk
    here_ok = (ok_append c b.pairs 0 0 front (here ∷ back) cut_ok).1.0

    pub back_ok : PlacesOk c b.pairs 0 back
    unfolding EachOk
    back_ok = from_any c b.pairs (suc (0 + length front)) 0 back (ok_append c b.pairs 0 0 front (here ∷ back) cut_ok).1.1

    pub front_long : length front ≡ i
    front_long = length-take-le i ps (omega arith)

    -- the words before it
    abbrev pub lead : List ℕ
    lead = entries_in w.is.value.places ∷ length w.is.value.places ∷ units b w.is.value.places ∷ w.is.value.expired ∷ flat encode_place (take i w.is.value.places)

    pub lead_long : length lead ≡ class_head + i * place_width b.pairs
    lead_long = let f = flat_long c b.pairs 0 front front_ok in let l = ap (λ (n : ℕ). n * place_width b.pairs) front_long in omega arith

    pub words_cut : ws ≡ lead ++ (encode_place here ++ (flat encode_place back ++ rest))
    words_cut =
        words_are ∙ ap (λ (l : List ℕ). entries_in ps ∷ length ps ∷ units b ps ∷ w.is.value.expired ∷ l)
        (ap (λ (l : List Place). flat encode_place l ++ rest) cut ∙ rw (flat_append encode_place front (here ∷ back), flat_cons here back, append_assoc, append_assoc))

    module _ (a e : ℕ) (ha : a ≡ class_head + i * place_width b.pairs) (he : e ≡ a + place_width b.pairs) where
      size : e - a ≡ place_width b.pairs
      size = omega arith

      pub within : e ≤ length ws
      within =
          let l = w.long in
          let k = mul-le-mul_right (place_width b.pairs) (let f = few in (let z : suc i ≤ b.places = omega arith in z)) in
          let m = suc-mul i (place_width b.pairs) in
          omega arith

      pub seen_here : mid_of a (e - a) ws ≡ encode_place here
      seen_here = rw (size, words_cut) (mid_of_append lead (encode_place here) _ a (place_width b.pairs) (lead_long ∙ sym ha) (place_long c b.pairs here here_ok))

      -- word j of the place
      pub word_here : (j : ℕ) → j < place_width b.pairs → get_or ws (a + j) 0 ≡ get_or (encode_place here) j 0
      word_here j l = sym (get_or-drop a ws j 0) ∙ sym (get_or-take (e - a) (drop a ws) j 0 (omega (arith, size))) ∙ ap (λ (z : List ℕ). get_or z j 0) seen_here

      -- with a place put back
      pub put_here : (q : Place) (ys : List ℕ) → ys ≡ encode_place q
          → drop class_head (put_mid a (e - a) ws ys) ≡ flat encode_place (front ++ q ∷ back) ++ rest
      put_here q ys is =
          let p : put_mid a (e - a) ws ys ≡ lead ++ (encode_place q ++ (flat encode_place back ++ rest)) =
          rw (size, words_cut, is)
          (put_of lead (encode_place here) (flat encode_place back ++ rest) (encode_place q) a (place_width b.pairs) (lead_long ∙ sym ha) (place_long c b.pairs here here_ok)) in
          let f : flat encode_place (front ++ q ∷ back) ++ rest ≡ flat encode_place front ++ (encode_place q ++ (flat encode_place back ++ rest)) =
          rw (flat_append encode_place front (q ∷ back), flat_cons q back, append_assoc, append_assoc) in
          ap (drop class_head) p ∙ sym f
