-- Contracts carried over: from a part to the whole, to another name of what is done, one after the other.
use Prim.Native.Nat.{ℕ, ◌+◌, ◌-◌}
use native.Mathlib.Omega.{arith}
use mathlib.Core.Path.{◌≡◌, ap, ◌∙◌}
use mathlib.Core.List.{List}
use borrow.Rule.Slice.PartMut.{mid_of, put_mid}
use Rattle.runs.specs.Form.{Form}
use Rattle.runs.specs.Turns.{Is, Turns, Reads}
use Rattle.runs.proofs.Parts.{Lies, Part}

-- ---- from a part to the whole: `&ws[s..e]` and `&mut ws[s..e]`, with e the part's width after s
module _ {A B : Type 0} {F : Form A} {G : Form B} {a : ℕ} {get : A → B} (p : Lies F G a get)
    (s e : ℕ) (hs : s ≡ a) (he : e ≡ s + G.wide) where
  pub lies_at : (x : A) → F.Ok x → (ws : List ℕ) → ws ≡ F.enc x → mid_of s (e - s) ws ≡ G.enc (get x)
  lies_at x ok ws is = let k : e - s ≡ G.wide = omega arith in rw (k, hs, is) (p.seen x ok)

  pub part_is : {ws : List ℕ} → Is F.enc F.Ok ws → Is G.enc G.Ok (mid_of s (e - s) ws)
  part_is {ws} w = record {
    value = get w.value;
    ok = p.fine w.value w.ok;
    words = lies_at w.value w.ok ws w.words;
  }

  pub part_reads : {R : Type 0} {out : B → R} {ws : List ℕ} {r : R} → Reads G.enc G.Ok out (mid_of s (e - s) ws) r
      → Reads F.enc F.Ok (λ x. out (get x)) ws r
  part_reads {ws = ws} t = record { says = λ x ok is. t.says (get x) (p.fine x ok) (lies_at x ok ws is) }

module _ {A B : Type 0} {F : Form A} {G : Form B} {a : ℕ} {get : A → B} {put : A → B → A} (p : Part F G a get put)
    (s e : ℕ) (hs : s ≡ a) (he : e ≡ s + G.wide) where
  pub part_turns : {R : Type 0} {f : B → B} {out : B → R} {ws last : List ℕ} {r : R}
      → Turns G.enc G.Ok f out (mid_of s (e - s) ws) last r
      → Turns F.enc F.Ok (λ x. put x (f (get x))) (λ x. out (get x)) ws (put_mid s (e - s) ws last) r
  part_turns {f = f} {ws = ws} t = record {
    does = λ x ok is.
        let k : e - s ≡ G.wide = omega arith in
        let q = t.does (get x) (p.lies.fine x ok) (lies_at p.lies s e hs he x ok ws is) in
        (rw (k, hs, is, q.0) (p.stored x ok (f (get x))), q.1);
  }

-- ---- the same by another name: f and out may be replaced by what equals them at each value that the words may be
module _ {A R : Type 0} {enc : A → List ℕ} {Ok : A → Type 0} {ws : List ℕ} {r : R} where
  pub turns_as : {f g : A → A} {out : A → R} {last : List ℕ} → Turns enc Ok f out ws last r
      → {R' : Type 0} {out' : A → R'} {r' : R'}
      → ((x : A) → Ok x → ws ≡ enc x → r ≡ out x → (enc (f x) ≡ enc (g x)) × (r' ≡ out' x)) → Turns enc Ok g out' ws last r'
  turns_as t same = record {
    does = λ x ok is.
        let q = t.does x ok is in
        let e = same x ok is q.1 in
        (q.0 ∙ e.0, e.1);
  }

  pub reads_as : {out : A → R} → Reads enc Ok out ws r → {R' : Type 0} {out' : A → R'} {r' : R'}
      → ((x : A) → Ok x → ws ≡ enc x → r ≡ out x → r' ≡ out' x) → Reads enc Ok out' ws r'
  reads_as t same = record { says = λ x ok is. same x ok is (t.says x ok is) }

-- ---- one after the other
module _ {A R : Type 0} {enc : A → List ℕ} {Ok : A → Type 0} {f : A → A} {out : A → R} {ws mid : List ℕ} {r : R}
    (keeps : (x : A) → Ok x → Ok (f x)) (one : Turns enc Ok f out ws mid r) where
  pub stays : Is enc Ok ws → Is enc Ok mid
  stays w = record { value = f w.value; ok = keeps w.value w.ok; words = (one.does w.value w.ok w.words).0 }

  pub then : {R' : Type 0} {g : A → A} {out' : A → R'} {last : List ℕ} {r' : R'} → Turns enc Ok g out' mid last r'
      → Turns enc Ok (λ x. g (f x)) (λ x. out' (f x)) ws last r'
  then two = record { does = λ x ok is. two.does (f x) (keeps x ok) (one.does x ok is).0 }

  -- where what comes second depends on what the first answered
  pub then_with : {R' : Type 0} (g : R → A → A) (out' : R → A → R') {last : List ℕ} {r' : R'} → Turns enc Ok (g r) (out' r) mid last r'
      → Turns enc Ok (λ x. g (out x) (f x)) (λ x. out' (out x) (f x)) ws last r'
  then_with g out' two = record {
    does = λ x ok is.
        let p = one.does x ok is in
        let q = two.does (f x) (keeps x ok) p.0 in
        (q.0 ∙ ap (λ (z : R). enc (g z (f x))) p.1, q.1 ∙ ap (λ (z : R). out' z (f x)) p.1);
  }
