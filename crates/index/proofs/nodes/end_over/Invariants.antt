-- What is left of the walk ends where the whole walk does.
use Rattle.links.specs.Sides.{side_of}
use Rattle.index.proofs.nodes.Ending.{Walking}
use Rattle.index.proofs.nodes.end_over.Given as goal

abbrev pub invariant-loop : goal.invariant-loop
invariant-loop l =
    Walking (side_of l.side) l.nodes l.fn.start.0 l.here.0 l.counter
