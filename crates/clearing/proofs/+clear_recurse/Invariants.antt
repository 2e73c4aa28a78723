-- The measure is the depth, which falls at both calls.
use Rattle.clearing.proofs.+clear_recurse.Given as goal

abbrev pub decreases-clear_recurse : goal.decreases-clear_recurse
decreases-clear_recurse l = l.depth
