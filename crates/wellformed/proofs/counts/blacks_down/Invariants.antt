use Rattle.wellformed.proofs.Downs.{Descending}
use Rattle.wellformed.proofs.counts.blacks_down.Given as goal

abbrev pub invariant-loop : goal.invariant-loop
invariant-loop l =
    Descending l.view.left.now l.view.pc.now l.view.root.0 l.here.0 l.blacks l.counter
