use Rattle.mending.proofs.Rounding.{sink_red, sink_lower, sunk_black, sink_turn, sink_parent}
use Rattle.mending.proofs.Rounding.{sunk_red}
use Rattle.mending.proofs.sink_at.Goals as goal
use Rattle.mending.proofs.sink_at.Goals.{then-is_red, else-is_red}

pub is_red-requires : goal.is_red-requires
is_red-requires c =
    sink_red c.requires

pub red_turn-new-requires : goal.red_turn-new-requires
red_turn-new-requires c =
    sink_turn c.requires c.is_red.ensures c.if-is_red.true

pub parent-above-requires : goal.parent-above-requires
parent-above-requires c =
    sink_parent c.requires c.is_red.ensures c.if-is_red.true c.red_turn-new.ensures

pub lower_end-requires-else-is_red : goal.lower_end-requires-else-is_red
lower_end-requires-else-is_red c =
    sink_lower c.requires c.is_red.ensures c.if-is_red.false

pub returns : goal.returns
returns c =
    elim c.if-is_red.branch [
      | then-is_red w ↦
          rw (w.near-is, w.far-is, w.pc-is, w.root-is)
          (sunk_red c.requires c.is_red.ensures w.if-is_red.true w.red_turn-new.ensures w.parent-above.ensures
          w.lower_end.ensures)
      | else-is_red w ↦
          rw (w.near-is, w.far-is, w.pc-is, w.root-is)
          (sunk_black c.requires c.is_red.ensures w.if-is_red.false w.lower_end-else-is_red.ensures)
    ]
