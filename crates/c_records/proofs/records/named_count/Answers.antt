-- `named_count`: each arm of the match is how many numbers a body of that kind names, whatever they are.
use borrow.Author.Tests.{ne_eqb}
use lib.Dec.{eqb}
use mathlib.Core.Logic.{inl, inr}
use mathlib.Core.Path.{◌≡◌, refl}
use Rattle.fixed.proofs.Decide.{cond_ind}
use Rattle.record.specs.declared.types.Body.{Body}
use Rattle.c_records.specs.Records.{body_of, named_count}
use Rattle.c_records.proofs.records.named_count.Goals as goal

pub returns-in_default : goal.returns-in_default
unfolding body_of
returns-in_default c =
    λ v.
    let r = c.in_default.in_default-own.rest in
    simp (ne_eqb _ _ r.1, ne_eqb _ _ (λ z. r.0.1 (inl z)), ne_eqb _ _ (λ z. r.0.1 (inr z)), ne_eqb _ _ r.0.0.1, ne_eqb _ _ r.0.0.0.1, ne_eqb _ _ r.0.0.0.0.1)
    (cond_ind (λ (y : Body). 2 ≡ named_count y) (eqb c.args.kind 6) (λ _. refl)
    (λ _. cond_ind (λ (y : Body). 2 ≡ named_count y) (eqb c.args.kind 7) (λ _. refl) (λ _. refl)))
