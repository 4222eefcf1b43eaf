-- A truth value is on top, and then two paths; each return is a case of `leaves_at`. The second path leaves the kinds that the first brought.
use mathlib.Core.Path.{◌∙◌, ap, sym, refl, subst}
use mathlib.Core.Bool.{true, false, true≢false}
use Prim.Native.Nat.{ℕ, ◌+◌, ◌<◌}
use Rattle.std.specs.Prelude.{Option}
use Rattle.fixed.proofs.Signs.{signed_back}
use Rattle.fixed.specs.Values.{small_of}
use Rattle.form.specs.Paths.{met}
use Rattle.form.specs.Table.{bits_of, left, places_from}
use Rattle.form.proofs.Passes.{unless-wrong, unless-paths, bits-rest}
use Rattle.form.proofs.Packed.{within, stays-at}
use Rattle.form.proofs.paths.leave_unless.Goals as goal

pub returns-then-not-tests-clause-is : goal.returns-then-not-tests-clause-is
returns-then-not-tests-clause-is c = unless-wrong c.args.stack.now c.args.p (places_from c.args.t.now 0 c.args.n) c.args.x (sym c.tests.ensures ∙ c.if-not-tests.true)

pub returns-in_err-next-clause-is : goal.returns-in_err-next-clause-is
returns-in_err-next-clause-is c =
    ap (λ (r : Option ℕ). left r (places_from c.come.new.t 0 c.args.n)) c.from_residual.ensures
    ∙ unless-paths c.args.stack.now c.args.p (places_from c.args.t.now 0 c.args.n) c.args.x (sym c.tests.ensures ∙ c.if-not-tests.false) c.requires.3 c.discard.ensures false false (places_from c.come.new.t 0 c.args.n) (places_from c.come.new.t 0 c.args.n) c.in_err-next.ensures.is (small_of c.args.x) refl (λ e. absurd (true≢false (sym e)))

pub returns-in_err-come-clause-is : goal.returns-in_err-come-clause-is
returns-in_err-come-clause-is c =
    ap (λ (r : Option ℕ). left r (places_from c.come-2.new.t 0 c.args.n)) c.from_residual-in_err-come.ensures
    ∙ unless-paths c.args.stack.now c.args.p (places_from c.args.t.now 0 c.args.n) c.args.x (sym c.tests.ensures ∙ c.if-not-tests.false) c.requires.3 c.discard.ensures true false (places_from c.come.new.t 0 c.args.n) (places_from c.come-2.new.t 0 c.args.n) c.in_ok-next.ensures.is c.small.result (c.small.ensures.is ∙ ap small_of (signed_back c.ranges.x)) (λ e. c.in_err-come.ensures.is)

pub returns-clause-is : goal.returns-clause-is
returns-clause-is c =
    unless-paths c.args.stack.now c.args.p (places_from c.args.t.now 0 c.args.n) c.args.x (sym c.tests.ensures ∙ c.if-not-tests.false) c.requires.3 c.discard.ensures true true (places_from c.come.new.t 0 c.args.n) (places_from c.come-2.new.t 0 c.args.n) c.in_ok-next.ensures.is c.small.result (c.small.ensures.is ∙ ap small_of (signed_back c.ranges.x)) (λ e. c.in_ok-come.ensures.is)

pub returns-clause-stands : goal.returns-clause-stands
returns-clause-stands c =
    stays-at c.come.new.t c.come-2.new.t c.args.n (c.args.p + 1 + (1 + c.small.result)) (bits_of c.discard.new.self) c.in_ok-come.ensures.is c.in_ok-next.next
    (subst (λ (r : ℕ). r < c.args.n) (sym c.in_ok-next.ensures.stands.0) (within c.args.t.now c.come.new.t c.args.n (c.args.p + 1 + 1) (bits_of c.discard.new.self) c.in_ok-next.ensures.is))
    c.in_ok-next.ensures.stands.1
    ∙ ap met (bits-rest c.args.stack.now c.requires.3 c.discard.ensures)
