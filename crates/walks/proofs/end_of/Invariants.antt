-- The loop keeps the tip of the spine; the measure is the links left.
use Rattle.walks.proofs.Spines.{Going, links_left}
use Rattle.walks.proofs.end_of.Given as goal

abbrev pub invariant-loop-child : goal.invariant-loop-child
invariant-loop-child l =
    Going l.links l.initial.here.0 l.here.0

abbrev pub decreases-loop-child : goal.decreases-loop-child
decreases-loop-child l =
    links_left l.links l.here.0
