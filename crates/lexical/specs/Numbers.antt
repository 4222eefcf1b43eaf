-- ISO 32000-1, 7.3.3: numbers, as far as they are carried: a sign or none, then digits with a point before, among or after them, or with none, and at
-- least one digit. A token of regular characters that is no number is a keyword (1e5, --5, 1.2.3, null, true). Calculator text has the same.
use Rattle.std.specs.Prelude.{ℕ, ◌+◌, ◌-◌, ◌*◌, ◌/◌, ◌%◌, Bool, true, false, ◌&&◌, ◌||◌, not, cond, eqb, leb, ℤ, pos, neg_ℤ}
use mathlib.Core.List.{List, foldl}
use Rattle.lexical.specs.Chars.{decimal}
use Rattle.lexical.specs.declared.types.Part.{Part}
use Rattle.lexical.specs.declared.types.Part.TheVariants.{Empty, Sign, Digits, Point, Decimals, Keyword}
use Rattle.lexical.specs.declared.types.Number.{Number}

-- What a token of regular characters is so far: nothing, a sign alone, digits, a point with no digit, digits with a point, or no number.
-- One more digit
abbrev pub after_digit : Part → Part
after_digit Empty = Digits
after_digit Sign = Digits
after_digit Digits = Digits
after_digit Point = Decimals
after_digit Decimals = Decimals
after_digit Keyword = Keyword

-- a point
abbrev pub after_point : Part → Part
after_point Empty = Point
after_point Sign = Point
after_point Digits = Decimals
after_point Point = Keyword
after_point Decimals = Keyword
after_point Keyword = Keyword

-- a sign
abbrev pub after_sign : Part → Part
after_sign Empty = Sign
after_sign Sign = Keyword
after_sign Digits = Keyword
after_sign Point = Keyword
after_sign Decimals = Keyword
after_sign Keyword = Keyword

-- any other regular character than a digit: + and - are signs
unfoldable pub after_other : Part → ℕ → Part
after_other p b = cond (eqb b 46) (after_point p) (cond (eqb b 43 || eqb b 45) (after_sign p) Keyword)

-- the point is passed
abbrev pub pointed : Part → Bool
pointed Empty = false
pointed Sign = false
pointed Digits = false
pointed Point = true
pointed Decimals = true
pointed Keyword = false

-- there is a digit, and nothing that no number has
abbrev pub numeric : Part → Bool
numeric Empty = false
numeric Sign = false
numeric Digits = true
numeric Point = false
numeric Decimals = true
numeric Keyword = false

-- The number so far: `raw` is that of all digits up to the sixth after the point, and stays as it is once it is past 2³¹, which is too large for any
-- number; `after` is how many digits stand after the point, 7 for more than six; `fine` says that one past the sixth is not 0.
abbrev pub none : Number
none = record { part = Empty; minus = false; fine = false; raw = 0; after = 0 }

unfoldable pub with_digit : Number → ℕ → Number
with_digit n d =
    record {
      part = after_digit n.part;
      minus = n.minus;
      fine = n.fine || (leb 6 n.after && not (eqb d 0));
      raw = cond (leb n.after 5 && leb n.raw 2147483648) (n.raw * 10 + d) n.raw;
      after = cond (pointed n.part && leb n.after 6) (n.after + 1) n.after;
    }

unfoldable pub with_other : Number → ℕ → Number
with_other n b =
    record { part = after_other n.part b; minus = n.minus || eqb b 45; fine = n.fine; raw = n.raw; after = n.after }

-- one more regular character
unfoldable pub with_figure : Number → ℕ → Number
with_figure n b = cond (decimal b) (with_digit n (b - 48)) (with_other n b)

-- what a token of these regular characters is
unfoldable pub number_of : List ℕ → Number
number_of l = foldl with_figure none l

-- 10 to the power 6 - n
unfoldable pub scale_of : ℕ → ℕ
scale_of n =
    cond (eqb n 0) 1000000
    (cond (eqb n 1) 100000
    (cond (eqb n 2) 10000
    (cond (eqb n 3) 1000
    (cond (eqb n 4) 100
    (cond (eqb n 5) 10 1)))))

-- its size in millionths
abbrev pub millionths : Number → ℕ
millionths n = n.raw * scale_of n.after

-- 13 where it is too fine or too large: it has at most six digits after the point, and 32 bits have room for it, with its sign, in millionths
unfoldable pub fits : Number → Bool
fits n = leb n.after 6 && leb (millionths n) (cond n.minus 2147483648 2147483647)

-- its value in millionths
unfoldable pub value_of : Number → ℤ
value_of n = cond n.minus (neg_ℤ (pos (millionths n))) (pos (millionths n))

-- it is whole, of lo..hi; -0 is 0
unfoldable pub whole_in : Number → ℕ → ℕ → Bool
whole_in n lo hi =
    eqb (millionths n % 1000000) 0
    && (leb lo (millionths n / 1000000) && (leb (millionths n / 1000000) hi && (not n.minus || eqb (millionths n) 0)))

-- it is the whole number v, however fine it is written
unfoldable pub exactly : Number → ℕ → Bool
exactly n v = not n.fine && (leb n.raw 2147483648 && (eqb (millionths n) (v * 1000000) && (not n.minus || eqb v 0)))
