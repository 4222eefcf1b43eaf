-- `run_filled`: its scans are those of the definition, from the same block to the same and from the same byte on.
use mathlib.Core.Path.{◌≡◌, refl, sym, ◌∙◌}
use mathlib.Core.Bool.{Bool, ◌&&◌}
use mathlib.Core.List.{List}
use Prim.Native.Nat.{ℕ, ◌+◌, ◌-◌, ◌*◌}
use Rattle.fixed.specs.Bytes.{block_at}
use Rattle.record.specs.Layout.{room}
use Rattle.record.specs.Rules.{palette_ends}
use Rattle.runs.specs.Runs.{run_length, palettes, run_filled}
use Rattle.runs.proofs.runs.run_filled.Goals as goal

both-held : (page : List ℕ) (i size n m : ℕ) {a b : Bool} → n ≡ run_length size → m ≡ n - 1 → a ≡ palettes page (i + 1) (i + 1 + n)
    → b ≡ palette_ends (block_at page (i + n)) (size - room * m) → (a && b) ≡ run_filled page i size
unfolding run_filled
both-held page i size n m e f g h = rw (g, h, f, e)

pub returns-then-all_palettes : goal.returns-then-all_palettes
returns-then-all_palettes c =
    both-held _ _ _ _ _ c.run_length-n.ensures c.saturating_sub.ensures (sym c.if-all_palettes.true ∙ c.all_palettes.ensures) c.palette_ends.ensures

pub returns-else-all_palettes : goal.returns-else-all_palettes
returns-else-all_palettes c =
    c.if-all_palettes.false ∙ both-held _ _ _ _ _ c.run_length-n.ensures c.saturating_sub.ensures (sym c.if-all_palettes.false ∙ c.all_palettes.ensures) refl
