-- After what is skipped there is nothing, a run of regular characters, or a delimiter.
use mathlib.Core.Path.{◌≡◌, sym, ap, ◌∙◌}
use mathlib.Core.Bool.{false}
use mathlib.Core.List.{◌∷◌}
use native.Mathlib.Omega.{arith}
use Prim.Native.Nat.{ℕ, ◌+◌}
use lib.ListN.{length, drop}
use Rattle.symbols.specs.Tokens.{Token, gap, lexed}
use Rattle.symbols.proofs.Lexed.{run_length, skipped-shorter, empty, run-taken, run-dropped, run-more, none-next, word-next, brace-next, rest-part}
use Rattle.symbols.proofs.lexing.next.Goals as goal

pub returns-in_err-b : goal.returns-in_err-b
returns-in_err-b c =
    rw c.from_residual.ensures
    (record { tokens = none-next c.args.text.now (sym c.skip-text.ensures ∙ empty _ c.in_err-b.ensures.cases); shorter = tt; part = tt })

pub returns-then-is_regular : goal.returns-then-is_regular
returns-then-is_regular c =
    let s = sym c.skip-text.ensures ∙ c.in_ok-b.ensures.cases.0 in
    let g = sym c.is_regular.ensures ∙ c.if-is_regular.true in
    let n : 1 + c.run_length.result ≡ run_length (c.in_ok-b.field-0-0.now ∷ c.in_ok-b.rest.now) = ap (λ (k : ℕ). 1 + k) c.run_length.ensures.is ∙ sym (run-more _ _ g) in
    record {
      tokens =
          ap (λ (t : Token). t ∷ lexed gap c.split_at.result.1.now) c.word_token.ensures
          ∙ word-next c.args.text.now _ _ s g _ _ (rw (c.in_ok-b.ensures.cases.0, n) at c.split_at.ensures.front ∙ run-taken _)
          (rw (c.in_ok-b.ensures.cases.0, n) at c.split_at.ensures.back ∙ run-dropped _);
      shorter =
          omega (arith, skipped-shorter false c.args.text.now, ap length c.skip-text.ensures, c.split_at.ensures.back_len);
      part = rest-part c.args.text.now (1 + c.run_length.result) c.skip-text.ensures (omega (arith, c.run_length.ensures.within, ap length c.in_ok-b.ensures.cases.0)) c.split_at.ensures.back;
    }

pub returns : goal.returns
returns c =
    let s = sym c.skip-text.ensures ∙ c.in_ok-b.ensures.cases.0 in
    record {
      tokens = ap (λ (t : Token). t ∷ lexed gap c.in_ok-b.rest.now) c.brace_token.ensures ∙ brace-next c.args.text.now _ _ s (sym c.is_regular.ensures ∙ c.if-is_regular.false);
      shorter = omega (arith, skipped-shorter false c.args.text.now, ap length s);
      part = rest-part c.args.text.now 1 c.skip-text.ensures (omega (arith, ap length c.in_ok-b.ensures.cases.0)) (sym (ap (drop 1) c.in_ok-b.ensures.cases.0));
    }
