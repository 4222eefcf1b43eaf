-- `put_number`: what stands before the last digit is a smaller number.
use Rattle.digits.proofs.puts.+put_number.Given as goal

abbrev pub decreases-put_number : goal.decreases-put_number
decreases-put_number l = l.n
