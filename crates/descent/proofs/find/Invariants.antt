-- The loop keeps where the descent stands; the measure is the slots not yet looked at.
use Prim.Native.Nat.{◌-◌}
use lib.ListN.{length}
use Rattle.model.specs.Lent.{at}
use Rattle.model.specs.Descent.{find_step}
use Rattle.descent.proofs.Downward.{By}
use Rattle.descent.proofs.Keeping.{Keeping}
use Rattle.descent.proofs.find.Given as goal

abbrev pub invariant-loop-node : goal.invariant-loop-node
invariant-loop-node l =
    Keeping l.view.left.now l.view.right.now l.view.key.now l.initial.here.0
    (By (find_step (at l.view.key.now) l.k.0)) l.here.0 l.last.0 l.probes

abbrev pub decreases-loop-node : goal.decreases-loop-node
decreases-loop-node l =
    length l.view.left.now - l.probes
