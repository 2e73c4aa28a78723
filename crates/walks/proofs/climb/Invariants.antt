-- The loop keeps what is to be found; the measure is the steps up that are left.
use Rattle.walks.proofs.Rises.{Climbing, steps_left}
use Rattle.walks.proofs.climb.Given as goal

abbrev pub invariant-loop-parent : goal.invariant-loop-parent
invariant-loop-parent l =
    Climbing l.links l.pc l.initial.here.0 l.here.0

abbrev pub decreases-loop-parent : goal.decreases-loop-parent
decreases-loop-parent l =
    steps_left l.links l.pc l.here.0
