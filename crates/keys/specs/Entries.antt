-- FORMAT.md, Designers' texts: the entries of a dictionary: which keys each family has, how its values are written,
-- what is asked of their numbers, and what stands where one is left out. Keys go by their numbers: WhitePoint 1,
-- BlackPoint 2, Gamma 3, Matrix 4, Range 5, FunctionType 6, Domain 7, C0 8, C1 9, N 10.
use Rattle.std.specs.Prelude.{ℕ, ◌/◌, ◌%◌, ◌^◌, Bool, ◌&&◌, ◌||◌, not, cond, List, [], ◌∷◌, eqb, leb, ℤ, pos, neg_ℤ}
use Rattle.lexical.specs.declared.types.Number.{Number}
use Rattle.lexical.specs.Numbers.{fits, exactly, whole_in}

-- CalGray WhitePoint BlackPoint Gamma; CalRGB these and Matrix; Lab WhitePoint BlackPoint Range; a Separation's function FunctionType Domain C0 C1 N
unfoldable pub key_of : ℕ → ℕ → Bool
key_of kind key =
    cond (eqb kind 1) (leb 1 key && leb key 3)
    (cond (eqb kind 2) (leb 1 key && leb key 4)
    (cond (eqb kind 3) (eqb key 1 || (eqb key 2 || eqb key 5)) (leb 6 key && leb key 10)))

-- how many numbers in brackets a value is, m being the alternate's count; 0 for one number with no brackets: CalGray's Gamma, FunctionType and N
unfoldable pub length_of : ℕ → ℕ → ℕ → ℕ
length_of kind m key =
    cond (leb key 2) 3
    (cond (eqb key 3) (cond (eqb kind 1) 0 3)
    (cond (eqb key 4) 9
    (cond (eqb key 5) 4
    (cond (eqb key 7) 2
    (cond (eqb key 8 || eqb key 9) m 0)))))

-- the key was met: the mask has its bit
unfoldable pub met_in : ℕ → ℕ → Bool
met_in mask key = eqb (mask / 2 ^ key % 2) 1

-- no key is missing: WhitePoint; of a function FunctionType, Domain and N, and C0 and C1 unless the alternate's count is 1
unfoldable pub complete : ℕ → ℕ → ℕ → Bool
complete kind m mask =
    cond (leb kind 3) (met_in mask 1)
    (met_in mask 6 && (met_in mask 7 && (met_in mask 10 && (eqb m 1 || (met_in mask 8 && met_in mask 9)))))

-- what a number is refused with at its place in a value, or 0: FunctionType is 2 and Domain 0 1, else 12; 13 where it is too large or too fine; N is
-- whole in 1..4, else 5
unfoldable pub number_fault : ℕ → ℕ → Number → ℕ
number_fault key index n =
    cond ((eqb key 6 && not (exactly n 2)) || (eqb key 7 && not (exactly n index))) 12
    (cond (fits n) (cond (eqb key 10 && not (whole_in n 1 4)) 5 0) 13)

-- The values of a dictionary are thirty numbers: white from place 0, black 3, gammas 6, matrix 9, range 18, C0 22, C1 26. The others have no place (30).
unfoldable pub place_of : ℕ → ℕ
place_of key =
    cond (eqb key 1) 0
    (cond (eqb key 2) 3
    (cond (eqb key 3) 6
    (cond (eqb key 4) 9
    (cond (eqb key 5) 18
    (cond (eqb key 8) 22
    (cond (eqb key 9) 26 30))))))

abbrev pub one : ℤ
one = pos 1000000

abbrev pub hundred : ℤ
hundred = pos 100000000

-- the defaults: black 0 0 0, gammas 1 1 1, the identity, range -100 100 -100 100, C0 0, C1 1. White has none, and is always given. The second to fourth
-- of C0 and C1 are 0, as a page wants them past the alternate's count.
unfoldable pub defaults : List ℤ
defaults =
    pos 0 ∷ pos 0 ∷ pos 0
    ∷ pos 0 ∷ pos 0 ∷ pos 0
    ∷ one ∷ one ∷ one
    ∷ one ∷ pos 0 ∷ pos 0 ∷ pos 0 ∷ one ∷ pos 0 ∷ pos 0 ∷ pos 0 ∷ one
    ∷ neg_ℤ hundred ∷ hundred ∷ neg_ℤ hundred ∷ hundred
    ∷ pos 0 ∷ pos 0 ∷ pos 0 ∷ pos 0
    ∷ one ∷ pos 0 ∷ pos 0 ∷ pos 0 ∷ []
