-- Decimal numbers as text, without a sign: the number that a text names, and the text of a number. Assumes nothing.
use Rattle.std.specs.Prelude.{ℕ, zero, suc, ◌+◌, ◌*◌, ◌-◌, ◌/◌, ◌%◌, ◌&&◌, cond, List, [], ◌∷◌, ◌++◌, leb, ltb, length, take, drop, fold, Option, Some, None}

-- a number with one more digit behind it: none where the byte is no digit, or 64 bits do not hold the number
abbrev pub with_digit : Option ℕ → ℕ → Option ℕ
with_digit None b = None
with_digit (Some v) b =
    cond ((leb 48 b && leb b 57) && leb (v * 10 + (b - 48)) 18446744073709551615) (Some (v * 10 + (b - 48))) None

-- a number with the digits of a text behind it
abbrev pub with_digits : Option ℕ → List ℕ → Option ℕ
with_digits = fold with_digit

-- the number that a text names: none for a text with no byte
unfoldable pub number_of : List ℕ → Option ℕ
number_of [] = None
number_of (b ∷ text) = with_digits (Some 0) (b ∷ text)

-- the last digit of a number, as a byte
abbrev pub last_digit : ℕ → ℕ
last_digit n = 48 + n % 10

-- the digits of a number, of which at most so many come before the last
unfoldable pub digits : ℕ → ℕ → List ℕ
digits zero n = last_digit n ∷ []
digits (suc most) n = cond (ltb n 10) (last_digit n ∷ []) (digits most (n / 10) ++ (last_digit n ∷ []))

-- the text of a number, in the fewest digits: fewer than n of them come before the last, unless n is 0
unfoldable pub text_of : ℕ → List ℕ
text_of n = digits n n

-- bytes with a text from a place on; all others are as they were
abbrev pub with_text : ℕ → List ℕ → List ℕ → List ℕ
with_text at text bytes = take at bytes ++ (text ++ drop (at + length text) bytes)
