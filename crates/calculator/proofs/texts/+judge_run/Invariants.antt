use Rattle.calculator.proofs.texts.+judge_run.Given as goal

abbrev pub decreases-judge_run : goal.decreases-judge_run
decreases-judge_run l = l.blocks
