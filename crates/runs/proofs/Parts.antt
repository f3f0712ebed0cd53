-- Where the words of one form lie in the words of another. `Lies` says what is seen there, `Part` also what the whole is when
-- the part is put back; both at `mid_of` and `put_mid`, which is what the borrow checker says of `&ws[a..e]` and
-- `&mut ws[a..e]`. Here are the laws for a head and a body, for a row, for places of one width and for another type of the
-- whole, and one (`in_part`, `in_lies`) for a part of a part; proofs/Turns carries contracts over any of them.
use Prim.Native.Nat.{ℕ, zero, suc, ◌+◌, ◌-◌, ◌*◌, ◌<◌, ◌≤◌}
use native.Mathlib.Omega.{arith}
use mathlib.Core.Path.{◌≡◌, ap, sym, ◌∙◌}
use mathlib.Core.List.{List, [], ◌∷◌, ◌++◌, append_assoc, append-nil}
use lib.ListN.{length, get_or, set, take, drop, drop_of_length-le, take-append-drop}
use lib.Seq.{take_at, drop_at, take_all, take-append-add, drop-append-add, take-take, take-add, drop-drop}
use borrow.Rule.Slice.PartMut.{mid_of, put_mid}
use Rattle.runs.specs.Form.{Form, Exact}
use Rattle.runs.specs.Combine.{both, EachOk, wide_row, enc_row, row, FormAt, form_at, many, seen_as}
use Rattle.runs.proofs.Words.{drop_take}
use Rattle.runs.proofs.Each.{each_at}
use Rattle.runs.proofs.Exact.{wide_many, flat_row}

-- from word a on lies a value of G, `get x`
pub record Lies {A B : Type 0} (F : Form A) (G : Form B) (a : ℕ) (get : A → B) : Type 0 where
  pub inside : a + G.wide ≤ F.wide
  pub fine : (x : A) → F.Ok x → G.Ok (get x)
  pub seen : (x : A) → F.Ok x → mid_of a G.wide (F.enc x) ≡ G.enc (get x)

-- and with the words of y in its place the whole is `put x y`
pub record Part {A B : Type 0} (F : Form A) (G : Form B) (a : ℕ) (get : A → B) (put : A → B → A) : Type 0 where
  pub lies : Lies F G a get
  pub stored : (x : A) → F.Ok x → (y : B) → put_mid a G.wide (F.enc x) (G.enc y) ≡ F.enc (put x y)

-- ---- the head and the body of both
module _ {A B : Type 0} (F : Form A) (G : Form B) (f : Exact F) where
  pub head_part : Part (both F G) F 0 (λ x. x.head) (λ x y. record { head = y; body = x.body })
  head_part = record {
    lies = record {
      inside = omega arith;
      fine = λ x ok. ok.0;
      seen = λ x ok. take_at (F.enc x.head) (G.enc x.body) F.wide (f.width x.head ok.0);
    };
    stored = λ x ok y.
        ap (λ (l : List ℕ). F.enc y ++ l) (drop_at (F.enc x.head) (G.enc x.body) F.wide (f.width x.head ok.0));
  }

  pub body_part : Exact G → Part (both F G) G F.wide (λ x. x.body) (λ x y. record { head = x.head; body = y })
  body_part g = record {
    lies = record {
      inside = omega arith;
      fine = λ x ok. ok.1;
      seen = λ x ok.
          let w = g.width x.body ok.1 in
          let d = drop_at (F.enc x.head) (G.enc x.body) F.wide (f.width x.head ok.0) in
          rw d (take_all G.wide (G.enc x.body) (omega arith));
    };
    stored = λ x ok y.
        let w = g.width x.body ok.1 in
        let v = f.width x.head ok.0 in
        let t = take_at (F.enc x.head) (G.enc x.body) F.wide v in
        let d = drop_at (F.enc x.head) (G.enc x.body) F.wide v in
        rw (t, d, drop_of_length-le (G.enc x.body) {i = G.wide} (omega arith), append-nil);
  }

-- ---- part j of a row: it starts where the widths before it end
module _ {A : Type 0} (F : ℕ → Form A) where
  wide_within : (i j n : ℕ) → j < n → wide_row F i j + (F (i + j)).wide ≤ wide_row F i n
  unfolding wide_row
  wide_within i j zero h = absurd (omega arith)
  wide_within i zero (suc n) h = let e : i + 0 ≡ i = omega arith in rw e (omega arith)
  wide_within i (suc j) (suc n) h =
      let e : i + suc j ≡ suc i + j = omega arith in
      let k = wide_within (suc i) j n (omega arith) in
      rw e (omega arith)

  module _ (exact : (i : ℕ) → Exact (F i)) where
    row_seen : (i : ℕ) (xs : List A) (j : ℕ) (d : A) → EachOk (λ k. (F k).Ok) i xs → j < length xs
        → mid_of (wide_row F i j) (F (i + j)).wide (enc_row F i xs) ≡ (F (i + j)).enc (get_or xs j d)
    unfolding EachOk enc_row wide_row
    row_seen i [] j d ok h = absurd (omega arith)
    row_seen i (x ∷ xs) zero d ok h =
        let e : i + 0 ≡ i = omega arith in
        rw e (take_at ((F i).enc x) (enc_row F (suc i) xs) (F i).wide ((exact i).width x ok.0))
    row_seen i (x ∷ xs) (suc j) d ok h =
        let e : i + suc j ≡ suc i + j = omega arith in
        let w : (F i).wide ≡ length ((F i).enc x) = sym ((exact i).width x ok.0) in
        rw (e, w, drop-append-add) (row_seen (suc i) xs j d ok.1 (omega arith))

    row_stored : (i : ℕ) (xs : List A) (j : ℕ) (y : A) → EachOk (λ k. (F k).Ok) i xs → j < length xs
        → put_mid (wide_row F i j) (F (i + j)).wide (enc_row F i xs) ((F (i + j)).enc y) ≡ enc_row F i (set xs j y)
    unfolding EachOk enc_row wide_row
    row_stored i [] j y ok h = absurd (omega arith)
    row_stored i (x ∷ xs) zero y ok h =
        let e : i + 0 ≡ i = omega arith in
        rw (e, drop_at ((F i).enc x) (enc_row F (suc i) xs) (F i).wide ((exact i).width x ok.0))
    row_stored i (x ∷ xs) (suc j) y ok h =
        let e : i + suc j ≡ suc i + j = omega arith in
        let w : (F i).wide ≡ length ((F i).enc x) = sym ((exact i).width x ok.0) in
        rw (e, w, take-append-add, drop-append-add, append_assoc, row_stored (suc i) xs j y ok.1 (omega arith))

    pub row_part : (n j : ℕ) (d : A) → j < n → Part (row F n) (F j) (wide_row F 0 j) (λ xs. get_or xs j d) (λ xs y. set xs j y)
    row_part n j d h =
        let z : 0 + j ≡ j = omega arith in
        record {
          lies = record {
            inside = rw z at (wide_within 0 j n h);
            fine = λ xs ok. let l = ok.0 in each_at (λ k. (F k).Ok) xs j d ok.1 (omega arith);
            seen = λ xs ok. let l = ok.0 in rw z at (row_seen 0 xs j d ok.1 (omega arith));
          };
          stored = λ xs ok y. let l = ok.0 in rw z at (row_stored 0 xs j y ok.1 (omega arith));
        }

-- ---- place j of n of one width
module _ {A : Type 0} (P : FormAt A) (exact : (i : ℕ) → Exact (form_at P i)) where
  pub place_part : (n j : ℕ) (d : A) → j < n → Part (many P n) (form_at P j) (j * P.wide) (λ xs. get_or xs j d) (λ xs y. set xs j y)
  place_part n j d h =
      let r = row_part (form_at P) exact n j d h in
      record {
        lies = record {
          inside = rw (wide_many P 0 j, wide_many P 0 n) at r.lies.inside;
          fine = r.lies.fine;
          seen = λ xs ok. rw (wide_many P 0 j, flat_row P 0 xs) at (r.lies.seen xs ok);
        };
        stored = λ xs ok y. rw (wide_many P 0 j, flat_row P 0 xs, flat_row P 0 (set xs j y)) at (r.stored xs ok y);
      }

-- ---- a part stays a part under another type of the whole
module _ {A B : Type 0} {F : Form A} {G : Form B} {a : ℕ} {get : A → B} where
  pub seen_lies : {C : Type 0} (to : A → C) (from : C → A) → Lies F G a get → Lies (seen_as to from F) G a (λ y. get (from y))
  seen_lies to from p = record { inside = p.inside; fine = λ y ok. p.fine (from y) ok; seen = λ y ok. p.seen (from y) ok }

  pub seen_part : {put : A → B → A} {C : Type 0} (to : A → C) (from : C → A) → ((x : A) → from (to x) ≡ x) → Part F G a get put
      → Part (seen_as to from F) G a (λ y. get (from y)) (λ y z. to (put (from y) z))
  seen_part {put} to from left p = record {
    lies = seen_lies to from p.lies;
    stored = λ y ok z. p.stored (from y) ok z ∙ ap F.enc (sym (left (put (from y) z)));
  }

-- ---- a part of a part
drop_within : {X : Type 0} (m g : ℕ) (l : List X) → m ≤ g → drop m (take g l) ++ drop g l ≡ drop m l
drop_within m g l h =
    let e : m + (g - m) ≡ g = omega arith in
    let d : drop (g - m) (drop m l) ≡ drop g l = drop-drop (g - m) m l ∙ ap (λ (k : ℕ). drop k l) e in
    rw (drop_take m g l h, ← d) (take-append-drop (g - m) (drop m l))

take_within : {X : Type 0} (b h g : ℕ) (l : List X) → b + h ≤ g → take h (drop b (take g l)) ≡ take h (drop b l)
take_within b h g l k = rw (drop_take b g l (omega arith)) (take-take h (g - b) (drop b l) (omega arith))

put_within : {X : Type 0} (a g b h : ℕ) (l ys : List X) → b + h ≤ g
    → put_mid (a + b) h l ys ≡ put_mid a g l (put_mid b h (mid_of a g l) ys)
put_within a g b h l ys k =
    let t = take-take b g (drop a l) (omega arith) in
    let w = drop_within (b + h) g (drop a l) k in
    let s = append_assoc (take a l) (take b (drop a l)) (ys ++ drop h (drop b (drop a l))) in
    rw (take-add a b l, ← drop-drop b a l, t, drop-drop h b (take g (drop a l)), s, append_assoc, append_assoc, w, drop-drop h b (drop a l))

module _ {A B C : Type 0} {F : Form A} {G : Form B} {H : Form C} {a b : ℕ} {get : A → B} {get' : B → C} where
  pub in_lies : Lies F G a get → Lies G H b get' → Lies F H (a + b) (λ x. get' (get x))
  in_lies p q = record {
    inside = let k = p.inside in let l = q.inside in omega arith;
    fine = λ x ok. q.fine (get x) (p.fine x ok);
    seen = λ x ok.
        rw (← drop-drop b a (F.enc x), ← take_within b H.wide G.wide (drop a (F.enc x)) q.inside, p.seen x ok)
        (q.seen (get x) (p.fine x ok));
  }

  pub in_part : {put : A → B → A} {put' : B → C → B} → Part F G a get put → Part G H b get' put'
      → Part F H (a + b) (λ x. get' (get x)) (λ x z. put x (put' (get x) z))
  in_part p q = record {
    lies = in_lies p.lies q.lies;
    stored = λ x ok z.
        put_within a G.wide b H.wide (F.enc x) (H.enc z) q.lies.inside
        ∙ rw (p.lies.seen x ok, q.stored (get x) (p.lies.fine x ok) z) (p.stored x ok _);
  }
