-- The loop keeps where the descent stands; the measure is the slots not yet looked at.
use Prim.Native.Nat.{◌-◌}
use lib.ListN.{length}
use Rattle.descent.proofs.Sliding.{Sliding}
use Rattle.descent.proofs.edge.Given as goal

abbrev pub invariant-loop-node : goal.invariant-loop-node
invariant-loop-node l =
    Sliding l.near l.initial.here.0 l.here.0 l.last.0 l.probes

abbrev pub decreases-loop-node : goal.decreases-loop-node
decreases-loop-node l =
    length l.near - l.probes
