-- The words of step 2, of step 3, of step 12 and of step 13 (FORMAT.md, The recipe of a space).
use Rattle.std.specs.Prelude.{ℕ, List, ◌∷◌, ◌++◌, ℤ, pos, length, take}
use Rattle.stack.specs.Programs.{Code}
use Rattle.stack.specs.Flat.{flat}
use Rattle.form.specs.Steps.{head_words}
use Rattle.form.specs.declared.Tints.{Tints}
use Rattle.record.specs.Layout.{entries_of}
use Rattle.record.specs.declared.types.Separation.{Separation as Ink}
use Rattle.space.specs.Spaces.{Space, count_of}
use Rattle.space.specs.Pages.{table_of}

-- step 2 of the Indexed block n over the base s
unfoldable pub row_words : List ℕ → ℕ → ℕ → Space → List ℤ
row_words page n hival s = pos 2 ∷ pos (count_of s) ∷ pos hival ∷ table_of page n hival s

-- step 3 of a Separation over an alternate of m components
unfoldable pub tint_words : Ink → ℕ → List ℤ
tint_words p m = pos 3 ∷ pos p.exponent ∷ pos m ∷ (take m (entries_of p.c0) ++ take m (entries_of p.c1))

-- step 12 of a Separation with a program, or step 13 of a DeviceN, over an alternate of m components
unfoldable pub program_words : Tints → Code → ℕ → List ℤ
program_words i c m = head_words i ++ (pos m ∷ pos (length (flat c)) ∷ flat c)
