-- Each combinator of specs/Combine is exact where its parts are.
use Prim.Native.Nat.{ℕ, zero, suc, ◌+◌, ◌*◌, ◌≤◌}
use native.Mathlib.Nat.{zero-mul, suc-mul}
use native.Mathlib.Omega.{arith}
use mathlib.Core.Path.{◌≡◌, refl, ap, ap₂, sym, subst, ◌∙◌}
use mathlib.Core.Bool.{Bool, true}
use mathlib.Core.List.{List, [], ◌∷◌, ◌++◌}
use lib.ListN.{length, take, drop, replicate, length-append, length-drop, length-replicate, take-append-drop, replicate-append-replicate}
use lib.Seq.{take_at, drop_at, length-take-le}
use Rattle.runs.specs.Words.{same_words}
use Rattle.runs.specs.Chunks.{flat}
use Rattle.runs.specs.Form.{Form, Exact}
use Rattle.runs.specs.Combine.{free, both, EachOk, wide_row, enc_row, read_row, test_row, row, FormAt, form_at, many}
use Rattle.runs.specs.Combine.{enc_up, read_up, test_up, up_to, Marks, such, led, seen_as}
use Rattle.runs.specs.Turns.{Is}
use Rattle.runs.proofs.Cases.{by_test, both_true}
use Rattle.runs.proofs.Words.{zeros_are, zeros_pass, same_are, same_pass}

pub free_exact : (n : ℕ) → Exact (free n)
free_exact n = record { width = λ xs ok. ok; back = λ ws long t. (long, refl); forth = λ xs ok. (refl, refl) }

-- ---- a head, then a body
module _ {A B : Type 0} (F : Form A) (G : Form B) (f : Exact F) (g : Exact G) where
  pub both_exact : Exact (both F G)
  both_exact = record {
    width = λ x ok. rw (length-append, f.width x.head ok.0, g.width x.body ok.1);
    back = λ ws long t.
        let p = both_true (F.test (take F.wide ws)) (G.test (drop F.wide ws)) t in
        let a = f.back (take F.wide ws) (length-take-le F.wide ws (omega arith)) p.0 in
        let b = g.back (drop F.wide ws) (rw length-drop (omega arith)) p.1 in
        ((a.0, b.0), sym (take-append-drop F.wide ws) ∙ ap₂ ◌++◌ a.1 b.1);
    forth = λ x ok.
        let w = f.width x.head ok.0 in
        let p = f.forth x.head ok.0 in
        let q = g.forth x.body ok.1 in
        let t = take_at (F.enc x.head) (G.enc x.body) F.wide w in
        let d = drop_at (F.enc x.head) (G.enc x.body) F.wide w in
        (rw (t, d, p.0) q.0, λ i. record { head = (ap F.read t ∙ p.1) i; body = (ap G.read d ∙ q.1) i });
  }

-- ---- a row
module _ {A : Type 0} (F : ℕ → Form A) (exact : (i : ℕ) → Exact (F i)) where
  row_width : (i : ℕ) (xs : List A) → EachOk (λ j. (F j).Ok) i xs → length (enc_row F i xs) ≡ wide_row F i (length xs)
  unfolding EachOk enc_row wide_row
  row_width i [] ok = refl
  row_width i (x ∷ xs) ok = rw (length-append, (exact i).width x ok.0, row_width (suc i) xs ok.1)

  row_back : (i n : ℕ) (ws : List ℕ) → length ws ≡ wide_row F i n → test_row F i n ws ≡ true
      → ((length (read_row F i n ws) ≡ n) × EachOk (λ j. (F j).Ok) i (read_row F i n ws)) × (ws ≡ enc_row F i (read_row F i n ws))
  unfolding EachOk enc_row wide_row read_row test_row
  row_back i zero [] long t = ((refl, tt), refl)
  row_back i zero (w ∷ ws) long t = absurd (omega arith)
  row_back i (suc n) ws long t =
      let k = (F i).wide in
      let p = both_true ((F i).test (take k ws)) (test_row F (suc i) n (drop k ws)) t in
      let a = (exact i).back (take k ws) (length-take-le k ws (omega arith)) p.0 in
      let b = row_back (suc i) n (drop k ws) (rw length-drop (omega arith)) p.1 in
      ((ap suc b.0.0, (a.0, b.0.1)), sym (take-append-drop k ws) ∙ ap₂ ◌++◌ a.1 b.1)

  row_forth : (i : ℕ) (xs : List A) → EachOk (λ j. (F j).Ok) i xs
      → (test_row F i (length xs) (enc_row F i xs) ≡ true) × (read_row F i (length xs) (enc_row F i xs) ≡ xs)
  unfolding EachOk enc_row read_row test_row
  row_forth i [] ok = (refl, refl)
  row_forth i (x ∷ xs) ok =
      let w = (exact i).width x ok.0 in
      let p = (exact i).forth x ok.0 in
      let q = row_forth (suc i) xs ok.1 in
      let t = take_at ((F i).enc x) (enc_row F (suc i) xs) (F i).wide w in
      let d = drop_at ((F i).enc x) (enc_row F (suc i) xs) (F i).wide w in
      (rw (t, d, p.0) q.0, rw (t, d, p.1, q.1))

  pub row_exact : (n : ℕ) → Exact (row F n)
  row_exact n = record {
    width = λ xs ok. row_width 0 xs ok.1 ∙ rw ok.0;
    back = row_back 0 n;
    forth = λ xs ok. let q = row_forth 0 xs ok.1 in rw ok.0 at q;
  }

-- ---- n of one width: the row of those forms, in its words and its width
module _ {A : Type 0} (P : FormAt A) where
  pub wide_many : (i n : ℕ) → wide_row (form_at P) i n ≡ n * P.wide
  unfolding wide_row
  wide_many i zero = sym (zero-mul P.wide)
  wide_many i (suc n) = rw (wide_many (suc i) n, suc-mul) (omega arith)

  pub flat_row : (i : ℕ) (xs : List A) → enc_row (form_at P) i xs ≡ flat P.enc xs
  unfolding enc_row flat
  flat_row i [] = refl
  flat_row i (x ∷ xs) = rw (flat_row (suc i) xs)

  pub many_exact : ((i : ℕ) → Exact (form_at P i)) → (n : ℕ) → Exact (many P n)
  many_exact exact n =
      let r = row_exact (form_at P) exact n in
      record {
        width = λ xs ok. sym (ap length (flat_row 0 xs)) ∙ r.width xs ok ∙ wide_many 0 n;
        back = λ ws long t. let b = r.back ws (long ∙ sym (wide_many 0 n)) t in (b.0, b.1 ∙ flat_row 0 _);
        forth = λ xs ok. rw (flat_row 0 xs) at (r.forth xs ok);
      }

-- ---- at most n, zeros after them
module _ {A : Type 0} (F : Form A) where
  pub up_none : (n : ℕ) → enc_up F n [] ≡ replicate (n * F.wide) 0
  unfolding enc_up
  up_none zero = rw zero-mul
  up_none (suc n) =
      let e : F.wide + n * F.wide ≡ suc n * F.wide = rw suc-mul (omega arith) in
      rw (up_none n, replicate-append-replicate, e)

module _ {A : Type 0} (F : Form A) (used : List ℕ → Bool) (exact : Exact F) (marks : Marks F used) where
  up_width : (i n : ℕ) (xs : List A) → length xs ≤ n → EachOk (λ j. F.Ok) i xs → length (enc_up F n xs) ≡ n * F.wide
  unfolding EachOk enc_up
  up_width i zero xs h ok = sym (zero-mul F.wide)
  up_width i (suc n) [] h ok = rw (length-append, length-replicate, up_width i n [] (omega arith) tt, suc-mul) (omega arith)
  up_width i (suc n) (x ∷ xs) h ok =
      rw (length-append, exact.width x ok.0, up_width (suc i) n xs (omega arith) ok.1, suc-mul) (omega arith)

  up_back : (i n : ℕ) (ws : List ℕ) → length ws ≡ n * F.wide → test_up F used n ws ≡ true
      → ((length (read_up F used n ws) ≤ n) × EachOk (λ j. F.Ok) i (read_up F used n ws)) × (ws ≡ enc_up F n (read_up F used n ws))
  unfolding EachOk enc_up read_up test_up
  up_back i zero [] long t = ((omega arith, tt), refl)
  up_back i zero (w ∷ ws) long t = absurd (omega (arith, zero-mul F.wide))
  up_back i (suc n) ws long t =
      let k = F.wide in
      let m = suc-mul n k in
      by_test (used (take k ws))
      (λ e.
      let p = both_true (F.test (take k ws)) (test_up F used n (drop k ws)) (rw e at t) in
      let a = exact.back (take k ws) (length-take-le k ws (omega arith)) p.0 in
      let b = up_back (suc i) n (drop k ws) (rw length-drop (omega arith)) p.1 in
      let h = b.0.0 in
      rw e ((omega arith, (a.0, b.0.1)), sym (take-append-drop k ws) ∙ ap₂ ◌++◌ a.1 b.1))
      (λ e. rw e ((omega arith, tt), zeros_are ws (rw e at t) ∙ rw (long, up_none F (suc n))))

  up_forth : (i n : ℕ) (xs : List A) → length xs ≤ n → EachOk (λ j. F.Ok) i xs
      → (test_up F used n (enc_up F n xs) ≡ true) × (read_up F used n (enc_up F n xs) ≡ xs)
  unfolding EachOk enc_up read_up test_up
  up_forth i zero [] h ok = (refl, refl)
  up_forth i zero (x ∷ xs) h ok = absurd (omega arith)
  up_forth i (suc n) [] h ok =
      let t = take_at (replicate F.wide 0) (enc_up F n []) F.wide (length-replicate F.wide 0) in
      (rw (t, marks.off, up_none F n, replicate-append-replicate, zeros_pass), rw (t, marks.off))
  up_forth i (suc n) (x ∷ xs) h ok =
      let w = exact.width x ok.0 in
      let p = exact.forth x ok.0 in
      let q = up_forth (suc i) n xs (omega arith) ok.1 in
      let t = take_at (F.enc x) (enc_up F n xs) F.wide w in
      let d = drop_at (F.enc x) (enc_up F n xs) F.wide w in
      let m = marks.on x ok.0 in
      (rw (t, d, m, p.0) q.0, rw (t, d, m, p.1, q.1))

  pub up_exact : (n : ℕ) → Exact (up_to F used n)
  up_exact n = record {
    width = λ xs ok. up_width 0 n xs ok.0 ok.1;
    back = up_back 0 n;
    forth = λ xs ok. up_forth 0 n xs ok.0 ok.1;
  }

-- ---- a rule on the value
pub such_exact : {A : Type 0} (F : Form A) (rule : A → Bool) → Exact F → Exact (such F rule)
such_exact F rule exact = record {
  width = λ x ok. exact.width x ok.0;
  back = λ ws long t.
      let p = both_true (F.test ws) (rule (F.read ws)) t in
      let b = exact.back ws long p.0 in
      ((b.0, p.1), b.1);
  forth = λ x ok. let p = exact.forth x ok.0 in (rw (p.0, p.1) ok.1, p.1);
}

-- ---- words that are computed from the value, before it
pub led_exact : {A : Type 0} (k : ℕ) (lead : A → List ℕ) (F : Form A) → ((x : A) → F.Ok x → length (lead x) ≡ k) → Exact F
    → Exact (led k lead F)
led_exact k lead F long exact = record {
  width = λ x ok. rw (length-append, long x ok, exact.width x ok);
  back = λ ws l t.
      let p = both_true (F.test (drop k ws)) (same_words (take k ws) (lead (F.read (drop k ws)))) t in
      let b = exact.back (drop k ws) (rw length-drop (omega arith)) p.0 in
      (b.0, sym (take-append-drop k ws) ∙ ap₂ ◌++◌ (same_are (take k ws) _ p.1) b.1);
  forth = λ x ok.
      let p = exact.forth x ok in
      let t = take_at (lead x) (F.enc x) k (long x ok) in
      let d = drop_at (lead x) (F.enc x) k (long x ok) in
      (rw (t, d, p.0, p.1) (same_pass (lead x)), ap F.read d ∙ p.1);
}

-- ---- the same words under another type
pub seen_exact : {A B : Type 0} (to : A → B) (from : B → A) (F : Form A) → ((x : A) → from (to x) ≡ x) → ((y : B) → to (from y) ≡ y)
    → Exact F → Exact (seen_as to from F)
seen_exact to from F left right exact = record {
  width = λ y ok. exact.width (from y) ok;
  back = λ ws long t.
      let b = exact.back ws long t in
      let e = sym (left (F.read ws)) in
      (subst F.Ok e b.0, b.1 ∙ ap F.enc e);
  forth = λ y ok. let p = exact.forth (from y) ok in (p.0, ap to p.1 ∙ right y);
}

-- ---- what any exact form has
module _ {A : Type 0} (F : Form A) (f : Exact F) where
  -- sound words are those of some well-formed value
  pub sound_is : (ws : List ℕ) → length ws ≡ F.wide → F.test ws ≡ true → Is F.enc F.Ok ws
  sound_is ws long t = let b = f.back ws long t in record { value = F.read ws; ok = b.0; words = b.1 }

  -- the same of words that may be longer
  pub view_back : (ws : List ℕ) → F.wide ≤ length ws → F.test (take F.wide ws) ≡ true
      → F.Ok (F.read (take F.wide ws)) × (ws ≡ F.enc (F.read (take F.wide ws)) ++ drop F.wide ws)
  view_back ws h t =
      let a = f.back (take F.wide ws) (length-take-le F.wide ws h) t in
      (a.0, sym (take-append-drop F.wide ws) ∙ ap (λ (l : List ℕ). l ++ drop F.wide ws) a.1)
