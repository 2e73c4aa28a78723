use Rattle.hanging.proofs.Inserting.{rooted}
use Rattle.hanging.proofs.insert_at.Goals as goal
use Rattle.hanging.proofs.insert_at.Goals.{then-parent-eq0, else-parent-eq0}

pub returns : goal.returns
returns c =
    elim c.if-parent-eq0.branch [
      | then-parent-eq0 w ↦
          rw (w.near-is, w.far-is, w.pc-is, w.root-is) (rooted w.if-parent-eq0.true w.insert_root.ensures)
      | else-parent-eq0 w ↦ rw (w.near-is, w.far-is, w.pc-is, w.root-is) w.insert_below.ensures
    ]
