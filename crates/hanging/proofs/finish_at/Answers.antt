use Rattle.hanging.proofs.Settling.{finish_get, finish_settle, finish_rotate, finish_settle_2, finished_outer}
use Rattle.hanging.proofs.Settling.{finished_inner}
use Rattle.hanging.proofs.finish_at.Goals as goal
use Rattle.hanging.proofs.finish_at.Goals.{then-eq, else-eq}

pub get-outer-requires : goal.get-outer-requires
get-outer-requires c =
    finish_get c.requires

pub settle-requires : goal.settle-requires
settle-requires c =
    finish_settle c.requires

pub rotate-requires : goal.rotate-requires
rotate-requires c =
    finish_rotate c.requires c.get-outer.ensures c.eq.ensures c.if-eq.false

pub settle-requires-else-eq : goal.settle-requires-else-eq
settle-requires-else-eq c =
    finish_settle_2 c.requires c.get-outer.ensures c.eq.ensures c.if-eq.false c.rotate.ensures

pub returns : goal.returns
returns c =
    elim c.if-eq.branch [
      | then-eq w ↦
          rw (w.near-is, w.far-is, w.pc-is, w.root-is)
          (finished_outer c.requires c.get-outer.ensures c.eq.ensures w.if-eq.true w.settle.ensures)
      | else-eq w ↦
          rw (w.near-is, w.far-is, w.pc-is, w.root-is)
          (finished_inner c.requires c.get-outer.ensures c.eq.ensures w.if-eq.false w.rotate.ensures
          w.settle-else-eq.ensures)
    ]
