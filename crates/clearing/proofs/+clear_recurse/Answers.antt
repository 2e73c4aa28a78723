use Rattle.clearing.proofs.Steps.{cleared_zero, cleared_none, cleared_node}
use Rattle.clearing.proofs.+clear_recurse.Goals as goal
use Rattle.clearing.proofs.+clear_recurse.Goals.{then-depth-eq0-via-then-depth-eq0}
use Rattle.clearing.proofs.+clear_recurse.Goals.{then-depth-eq0-via-else-depth-eq0+then-slot-eq0}

pub returns-then-depth-eq0 : goal.returns-then-depth-eq0
returns-then-depth-eq0 t c =
    elim c.then-depth-eq0.branch [
      | then-depth-eq0-via-then-depth-eq0 w ↦ cleared_zero c.requires w.if-depth-eq0.true
      | then-depth-eq0-via-else-depth-eq0+then-slot-eq0 w ↦ cleared_none c.requires w.if-slot-eq0.true
    ]

pub returns : goal.returns
returns t c =
    cleared_node c.requires c.if-depth-eq0.false c.if-slot-eq0.false c.get-first.ensures c.clear_recurse.ensures
    c.get-second.ensures c.clear_recurse-2.ensures c.release.ensures
