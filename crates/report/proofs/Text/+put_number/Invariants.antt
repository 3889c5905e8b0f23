-- The measure of `Text::put_number`: the number.
use Rattle.report.proofs.Text.+put_number.Given as goal

abbrev pub decreases-put_number : goal.decreases-put_number
decreases-put_number l = l.n
