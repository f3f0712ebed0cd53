-- Forms put together from forms. Each is exact where its parts are (proofs/Exact).
use Rattle.std.specs.Prelude.{ℕ, zero, suc, ◌+◌, ◌*◌, ◌≤◌, ◌≡◌, Bool, true, false, cond, ◌&&◌, List, [], ◌∷◌, ◌++◌, length, take, drop, replicate}
use Rattle.runs.specs.Words.{zeros, same_words}
use Rattle.runs.specs.Chunks.{flat}
use Rattle.runs.specs.Form.{Form}

-- ---- n words that nothing constrains
abbrev pub free : ℕ → Form (List ℕ)
free n = record { wide = n; enc = λ xs. xs; read = λ ws. ws; Ok = λ xs. length xs ≡ n; test = λ ws. true }

-- ---- a head, then a body
pub record Both (A B : Type 0) : Type 0 where
  pub head : A
  pub body : B

abbrev pub both : {A B : Type 0} → Form A → Form B → Form (Both A B)
both F G = record {
  wide = F.wide + G.wide;
  enc = λ x. F.enc x.head ++ G.enc x.body;
  read = λ ws. record { head = F.read (take F.wide ws); body = G.read (drop F.wide ws) };
  Ok = λ x. F.Ok x.head × G.Ok x.body;
  test = λ ws. F.test (take F.wide ws) && G.test (drop F.wide ws);
}

-- ---- elements of which each is well formed at its place, counted from i
unfoldable pub EachOk : {A : Type 0} → (ℕ → A → Type 0) → ℕ → List A → Type 0
EachOk OkAt i [] = Unit {0}
EachOk OkAt i (x ∷ xs) = OkAt i x × EachOk OkAt (suc i) xs

-- ---- F 0, F 1, .. F (n - 1), each of its own width
module _ {A : Type 0} (F : ℕ → Form A) where
  -- the width of n of them from F i on
  unfoldable pub wide_row : ℕ → ℕ → ℕ
  wide_row i zero = 0
  wide_row i (suc n) = (F i).wide + wide_row (suc i) n

  unfoldable pub enc_row : ℕ → List A → List ℕ
  enc_row i [] = []
  enc_row i (x ∷ xs) = (F i).enc x ++ enc_row (suc i) xs

  unfoldable pub read_row : ℕ → ℕ → List ℕ → List A
  read_row i zero ws = []
  read_row i (suc n) ws = (F i).read (take (F i).wide ws) ∷ read_row (suc i) n (drop (F i).wide ws)

  unfoldable pub test_row : ℕ → ℕ → List ℕ → Bool
  test_row i zero ws = true
  test_row i (suc n) ws = (F i).test (take (F i).wide ws) && test_row (suc i) n (drop (F i).wide ws)

  abbrev pub row : ℕ → Form (List A)
  row n = record {
    wide = wide_row 0 n;
    enc = enc_row 0;
    read = read_row 0 n;
    Ok = λ xs. (length xs ≡ n) × EachOk (λ i. (F i).Ok) 0 xs;
    test = test_row 0 n;
  }

-- ---- n of one width, each tested at its place: a row whose place i is found by a product, i * wide
pub record FormAt (A : Type 0) : Type 1 where
  pub wide : ℕ
  pub enc : A → List ℕ
  pub read : List ℕ → A
  pub OkAt : ℕ → A → Type 0
  pub test_at : ℕ → List ℕ → Bool

abbrev pub form_at : {A : Type 0} → FormAt A → ℕ → Form A
form_at P i = record { wide = P.wide; enc = P.enc; read = P.read; Ok = P.OkAt i; test = P.test_at i }

abbrev pub read_all : {A : Type 0} → FormAt A → ℕ → List ℕ → List A
read_all P n = read_row (form_at P) 0 n

abbrev pub test_all : {A : Type 0} → FormAt A → ℕ → ℕ → List ℕ → Bool
test_all P i n = test_row (form_at P) i n

abbrev pub many : {A : Type 0} → FormAt A → ℕ → Form (List A)
many P n = record {
  wide = n * P.wide;
  enc = flat P.enc;
  read = read_all P n;
  Ok = λ xs. (length xs ≡ n) × EachOk P.OkAt 0 xs;
  test = test_all P 0 n;
}

-- ---- at most n of one form: the used ones first, zeros after them
unfoldable pub enc_up : {A : Type 0} → Form A → ℕ → List A → List ℕ
enc_up F zero xs = []
enc_up F (suc n) [] = replicate F.wide 0 ++ enc_up F n []
enc_up F (suc n) (x ∷ xs) = F.enc x ++ enc_up F n xs

module _ {A : Type 0} (F : Form A) (used : List ℕ → Bool) where
  unfoldable pub read_up : ℕ → List ℕ → List A
  read_up zero ws = []
  read_up (suc n) ws = cond (used (take F.wide ws)) (F.read (take F.wide ws) ∷ read_up n (drop F.wide ws)) []

  unfoldable pub test_up : ℕ → List ℕ → Bool
  test_up zero ws = true
  test_up (suc n) ws =
      cond (used (take F.wide ws)) (F.test (take F.wide ws) && test_up n (drop F.wide ws)) (zeros ws)

  abbrev pub up_to : ℕ → Form (List A)
  up_to n = record {
    wide = n * F.wide;
    enc = enc_up F n;
    read = read_up n;
    Ok = λ xs. (length xs ≤ n) × EachOk (λ i. F.Ok) 0 xs;
    test = test_up n;
  }

-- what tells a used one from zeros
pub record Marks {A : Type 0} (F : Form A) (used : List ℕ → Bool) : Type 0 where
  pub on : (x : A) → F.Ok x → used (F.enc x) ≡ true
  pub off : used (replicate F.wide 0) ≡ false

-- ---- a rule on the value that was read: rising, distinct, a sum that is right
abbrev pub such : {A : Type 0} → Form A → (A → Bool) → Form A
such F rule = record {
  wide = F.wide;
  enc = F.enc;
  read = F.read;
  Ok = λ x. F.Ok x × (rule x ≡ true);
  test = λ ws. F.test ws && rule (F.read ws);
}

-- ---- k words that are computed from the value stand before it: a length, a count, a sum
-- The words behind are tested first, though they lie behind: one pass over them tests them and adds up what the words before
-- must say, and a sum need not be taken (and cannot wrap) before the words that it is taken of have passed.
abbrev pub led : {A : Type 0} → ℕ → (A → List ℕ) → Form A → Form A
led k lead F = record {
  wide = k + F.wide;
  enc = λ x. lead x ++ F.enc x;
  read = λ ws. F.read (drop k ws);
  Ok = F.Ok;
  test = λ ws. F.test (drop k ws) && same_words (take k ws) (lead (F.read (drop k ws)));
}

-- ---- the same words under another type, a record with better names
abbrev pub seen_as : {A B : Type 0} → (A → B) → (B → A) → Form A → Form B
seen_as to from F = record {
  wide = F.wide;
  enc = λ y. F.enc (from y);
  read = λ ws. to (F.read ws);
  Ok = λ y. F.Ok (from y);
  test = F.test;
}
