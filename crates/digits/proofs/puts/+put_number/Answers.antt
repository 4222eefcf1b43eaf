-- `put_number`: a number below 10 is one digit; any other is what stands before its last digit, a smaller number, and that digit.
use Rattle.digits.proofs.Putting.{one-digit, last-digit}
use Rattle.digits.proofs.puts.+put_number.Goals as goal

pub returns-then-n-lt10 : goal.returns-then-n-lt10
returns-then-n-lt10 t c = one-digit c.if-n-lt10.true c.put_byte.ensures

pub returns : goal.returns
returns t c = last-digit c.if-n-lt10.false c.ranges.n.fits c.put_number-next.ensures c.put_byte-2.ensures
