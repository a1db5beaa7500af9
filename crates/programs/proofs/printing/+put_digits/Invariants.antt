-- The measure is the number of digits allowed, which falls by one.
use Rattle.programs.proofs.printing.+put_digits.Given as goal

abbrev pub decreases-put_digits : goal.decreases-put_digits
decreases-put_digits l = l.most
