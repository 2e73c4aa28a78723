-- The loop keeps the drawing to be reached; the measure is the steps up.
use Rattle.mending.proofs.Refilling.{Refilling, steps_left}
use Rattle.mending.proofs.post_remove.Given as goal

abbrev pub invariant-loop-next : goal.invariant-loop-next
invariant-loop-next l =
    Refilling l.near l.far l.initial.pc l.root l.initial.here.0 l.pc l.here.0

abbrev pub decreases-loop-next : goal.decreases-loop-next
decreases-loop-next l =
    steps_left l.near l.pc l.here.0
