-- FORMAT.md, The listing: text as bytes.
use Rattle.std.specs.Prelude.{ℕ, List, [], ◌∷◌, ◌++◌, length, take, drop}
use Prim.Native.Char.{code}
use Prim.Native.String.{String, [] as []ˢ, ◌∷◌ as ◌∷ˢ◌}

-- the bytes of a text, a byte for each character: for characters of ASCII alone
abbrev pub text : String → List ℕ
text []ˢ = []
text (c ∷ˢ s) = code c ∷ text s

-- a text put over the start of bytes that are lent: as much of it as they have room for, and what it does not reach stays
unfoldable pub over : List ℕ → List ℕ → List ℕ
over t lent = take (length lent) t ++ drop (length t) lent
