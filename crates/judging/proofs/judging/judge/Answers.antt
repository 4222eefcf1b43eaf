-- `judge`: validation's verdict on the blocks that were made; where it accepts them they are copied.
use Prim.Native.Nat.{ℕ, ◌*◌}
use mathlib.Core.Path.{sym, ap, ◌∙◌}
use lib.ListN.{length, take}
use Rattle.page.specs.Validation.{validated}
use Rattle.reader.specs.Kept.{parser_at}
use Rattle.judging.proofs.Judged.{judged-page, judged-refused}
use Rattle.judging.proofs.judging.judge.Goals as goal

pub returns-in-Ok : goal.returns-in-Ok
returns-in-Ok c =
    λ values marks names.
    let g = c.args.g in
    let out = c.args.out.now in
    let blocks = c.args.blocks.now in
    let page = c.held-page.result.now in
    let e = c.held-page.ensures ∙ ap (λ (k : ℕ). take (512 * k) blocks) c.from.ensures in
    judged-page (parser_at g values marks names c.args.opens.now blocks) (validated (take (512 * g.next) blocks)) page out _ (length page)
    (ap validated (sym e) ∙ sym c.in-Ok.ensures) e (ap length e) c.write_page.ensures

pub returns-in-Err : goal.returns-in-Err
returns-in-Err c =
    λ values marks names.
    let g = c.args.g in
    let blocks = c.args.blocks.now in
    let e = c.held-page.ensures ∙ ap (λ (k : ℕ). take (512 * k) blocks) c.from.ensures in
    rw c.number-number.ensures (judged-refused (parser_at g values marks names c.args.opens.now blocks) (validated (take (512 * g.next) blocks)) _ _ _ c.args.out.now
    (ap validated (sym e) ∙ sym c.in-Err.ensures) c.bracket_of-at.ensures)
