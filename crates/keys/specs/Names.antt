-- The names that a text knows (ISO 32000-1, 8.6 and 7.10.3), each as its bytes, once #xx is taken out, and a number for it.
use Rattle.std.specs.Prelude.{◌≡◌, ℕ, ◌≤◌, cond, List, [], ◌∷◌, Option, MatchOption}
use Rattle.lexical.specs.Names.{same}

-- a row of a table: a name and its number
pub record Known : Type 0 where
  pub name : List ℕ
  pub number : ℕ

abbrev pub known : List ℕ → ℕ → Known
known name number = record { name = name; number = number }

-- the number of a name in a table, 0 where it is not there
abbrev pub among : List Known → List ℕ → ℕ
among [] w = 0
among (k ∷ ks) w = cond (same w k.name) k.number (among ks w)

-- CalGray, CalRGB, Lab, Indexed, Separation, by the kinds of their blocks
abbrev pub families : List Known
families =
    known (67 ∷ 97 ∷ 108 ∷ 71 ∷ 114 ∷ 97 ∷ 121 ∷ []) 1 ∷
    known (67 ∷ 97 ∷ 108 ∷ 82 ∷ 71 ∷ 66 ∷ []) 2 ∷
    known (76 ∷ 97 ∷ 98 ∷ []) 3 ∷
    known (73 ∷ 110 ∷ 100 ∷ 101 ∷ 120 ∷ 101 ∷ 100 ∷ []) 4 ∷
    known (83 ∷ 101 ∷ 112 ∷ 97 ∷ 114 ∷ 97 ∷ 116 ∷ 105 ∷ 111 ∷ 110 ∷ []) 5 ∷
    []

-- the kind of the family of a name, 0 for any other name
unfoldable pub family_named : List ℕ → ℕ
family_named w = among families w

-- DeviceGray, DeviceRGB, DeviceCMYK, by their counts of components
abbrev pub devices : List Known
devices =
    known (68 ∷ 101 ∷ 118 ∷ 105 ∷ 99 ∷ 101 ∷ 71 ∷ 114 ∷ 97 ∷ 121 ∷ []) 1 ∷
    known (68 ∷ 101 ∷ 118 ∷ 105 ∷ 99 ∷ 101 ∷ 82 ∷ 71 ∷ 66 ∷ []) 3 ∷
    known (68 ∷ 101 ∷ 118 ∷ 105 ∷ 99 ∷ 101 ∷ 67 ∷ 77 ∷ 89 ∷ 75 ∷ []) 4 ∷
    []

-- the count of components of a device space's name, 0 for any other name
unfoldable pub device_named : List ℕ → ℕ
device_named w = among devices w

-- the keys of a function: FunctionType, Domain, C0, C1, N
abbrev pub function_keys : List Known
function_keys =
    known (70 ∷ 117 ∷ 110 ∷ 99 ∷ 116 ∷ 105 ∷ 111 ∷ 110 ∷ 84 ∷ 121 ∷ 112 ∷ 101 ∷ []) 6 ∷
    known (68 ∷ 111 ∷ 109 ∷ 97 ∷ 105 ∷ 110 ∷ []) 7 ∷
    known (67 ∷ 48 ∷ []) 8 ∷
    known (67 ∷ 49 ∷ []) 9 ∷
    known (78 ∷ []) 10 ∷
    []

-- the keys: WhitePoint, BlackPoint, Gamma, Matrix, Range, and those of a function
abbrev pub keys : List Known
keys =
    known (87 ∷ 104 ∷ 105 ∷ 116 ∷ 101 ∷ 80 ∷ 111 ∷ 105 ∷ 110 ∷ 116 ∷ []) 1 ∷
    known (66 ∷ 108 ∷ 97 ∷ 99 ∷ 107 ∷ 80 ∷ 111 ∷ 105 ∷ 110 ∷ 116 ∷ []) 2 ∷
    known (71 ∷ 97 ∷ 109 ∷ 109 ∷ 97 ∷ []) 3 ∷
    known (77 ∷ 97 ∷ 116 ∷ 114 ∷ 105 ∷ 120 ∷ []) 4 ∷
    known (82 ∷ 97 ∷ 110 ∷ 103 ∷ 101 ∷ []) 5 ∷
    function_keys

-- the number of a function's key, 0 for any other name
unfoldable pub function_key_named : List ℕ → ℕ
function_key_named w = among function_keys w

-- the number of a key, 0 for any other name
unfoldable pub key_named : List ℕ → ℕ
key_named w = among keys w

-- what is answered for a name: its number, of 1 to the most, or none where it is 0
abbrev pub Names : Option ℕ → ℕ → ℕ → Type 0
Names r n most = MatchOption r (n ≡ 0) (λ x. (x ≡ n) × ((1 ≤ x) × (x ≤ most)))
