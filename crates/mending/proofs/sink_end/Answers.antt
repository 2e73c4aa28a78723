use Rattle.mending.proofs.Ending.{end_parent, end_get, end_right, end_left, ended_right, ended_left}
use Rattle.mending.proofs.sink_end.Goals as goal
use Rattle.mending.proofs.sink_end.Goals.{then-eq, else-eq}

pub parent-parent-requires : goal.parent-parent-requires
parent-parent-requires c =
    end_parent c.requires.lacking

pub get-first-requires : goal.get-first-requires
get-first-requires c =
    end_get c.requires.lacking c.parent-parent.ensures

pub sink_at-requires : goal.sink_at-requires
sink_at-requires c =
    end_right c.requires.lacking c.parent-parent.ensures c.get-first.ensures c.eq.ensures c.if-eq.true

pub sink_at-requires-else-eq : goal.sink_at-requires-else-eq
sink_at-requires-else-eq c =
    end_left c.requires.lacking c.parent-parent.ensures c.get-first.ensures c.eq.ensures c.if-eq.false

pub returns : goal.returns
returns c =
    elim c.if-eq.branch [
      | then-eq w ↦
          rw (w.near-is, w.far-is, w.pc-is, w.root-is)
          (ended_right c.requires.lacking c.parent-parent.ensures c.get-first.ensures c.eq.ensures w.if-eq.true
          w.sink_at.ensures)
      | else-eq w ↦
          rw (w.near-is, w.far-is, w.pc-is, w.root-is)
          (ended_left c.requires.lacking c.parent-parent.ensures c.get-first.ensures c.eq.ensures w.if-eq.false
          w.sink_at-else-eq.ensures)
    ]
