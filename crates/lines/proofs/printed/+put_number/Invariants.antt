-- `lines::printed::put_number` meets its contract; the number falls at each call.
use Rattle.lines.proofs.printed.+put_number.Given as goal

abbrev pub decreases-put_number : goal.decreases-put_number
decreases-put_number l = l.v
