-- The loop keeps the drawing to be reached; the measure is the steps up.
use Rattle.hanging.proofs.Climbing.{Ongoing, steps_left}
use Rattle.hanging.proofs.post_insert.Given as goal

abbrev pub invariant-loop-uncle : goal.invariant-loop-uncle
invariant-loop-uncle l =
    Ongoing l.near l.far l.initial.pc l.root l.initial.here.0 l.pc l.here.0

abbrev pub decreases-loop-uncle : goal.decreases-loop-uncle
decreases-loop-uncle l =
    steps_left l.near l.pc l.here.0
