-- The measure of `print::decimal`: the number itself, since a tenth of it is less. Assumes nothing.
use Rattle.print.proofs.+decimal.Given as goal

abbrev pub decreases-decimal : goal.decreases-decimal
decreases-decimal l = l.x
