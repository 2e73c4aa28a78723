-- The loop keeps where the descent stands and, whatever it is that the test tells, its last turns; the measure is the
-- slots not yet looked at.
use Prim.Native.Nat.{ℕ, ◌-◌}
use mathlib.Core.Bool.{Bool}
use lib.ListN.{length}
use Rattle.descent.specs.Searches.{Tells}
use Rattle.descent.proofs.Downward.{Anyhow}
use Rattle.descent.proofs.Keeping.{Keeping}
use Rattle.descent.proofs.Passing.{Passing}
use Rattle.descent.proofs.path.Given as goal

abbrev pub invariant-loop-node : goal.invariant-loop-node
invariant-loop-node g l =
    Keeping l.view.left.now l.view.right.now l.view.key.now l.initial.here.0 Anyhow l.here.0 l.last.0 l.probes
    × ((over : ℕ → Bool) → Tells (goal.F-post g l.goes_left) over
    → Passing l.view.left.now l.view.right.now l.view.key.now l.initial.here.0 over l.here.0 l.last.0 l.under.0
    l.over.0 l.probes)

abbrev pub decreases-loop-node : goal.decreases-loop-node
decreases-loop-node g l = length l.view.left.now - l.probes
