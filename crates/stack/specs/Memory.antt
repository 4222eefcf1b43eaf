-- The stack as an array keeps it, the deepest first.
use Rattle.std.specs.Prelude.{ℕ, zero, suc, List, [], ◌∷◌, ℤ, pos, get_or}

-- the stack that an array holds up to a height
unfoldable pub stack_of : List ℤ → ℕ → List ℤ
stack_of a zero = []
stack_of a (suc h) = get_or a h (pos 0) ∷ stack_of a h
