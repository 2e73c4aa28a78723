use Rattle.wellformed.proofs.Tallies.{Tallying}
use Rattle.wellformed.proofs.counts.tally.Given as goal

abbrev pub invariant-loop-index : goal.invariant-loop-index
invariant-loop-index l =
    Tallying l.view.left.now l.view.right.now l.view.pc.now l.linked l.strays l.index
