use Rattle.hanging.proofs.Finishing.{finish_parent, finished_black, finish_parent_2, finish_get_left}
use Rattle.hanging.proofs.Finishing.{finish_left, finish_right, finished_left, finished_right}
use Rattle.hanging.proofs.finish.Goals as goal
use Rattle.hanging.proofs.finish.Goals.{then-eq, else-eq}

pub parent-parent-requires : goal.parent-parent-requires
parent-parent-requires c =
    finish_parent c.requires.here

pub returns-then-not-is_red : goal.returns-then-not-is_red
returns-then-not-is_red c =
    finished_black c.requires.here c.parent-parent.ensures c.is_red.ensures c.if-not-is_red.true

pub parent-grand-requires : goal.parent-grand-requires
parent-grand-requires c =
    finish_parent_2 c.requires.here c.parent-parent.ensures c.is_red.ensures c.if-not-is_red.false

pub get-first-requires : goal.get-first-requires
get-first-requires c =
    finish_get_left c.requires.here c.parent-parent.ensures c.is_red.ensures c.if-not-is_red.false
    c.parent-grand.ensures

pub finish_at-requires : goal.finish_at-requires
finish_at-requires c =
    finish_left c.requires.here c.parent-parent.ensures c.is_red.ensures c.if-not-is_red.false c.parent-grand.ensures
    c.get-first.ensures c.eq.ensures c.if-eq.true

pub finish_at-requires-else-eq : goal.finish_at-requires-else-eq
finish_at-requires-else-eq c =
    finish_right c.requires.here c.parent-parent.ensures c.is_red.ensures c.if-not-is_red.false c.parent-grand.ensures
    c.get-first.ensures c.eq.ensures c.if-eq.false

pub returns : goal.returns
returns c =
    elim c.if-eq.branch [
      | then-eq w ↦
          rw (w.near-is, w.far-is, w.pc-is, w.root-is)
          (finished_left c.requires.here c.parent-parent.ensures c.is_red.ensures c.if-not-is_red.false
          c.parent-grand.ensures c.get-first.ensures c.eq.ensures w.if-eq.true w.finish_at.ensures)
      | else-eq w ↦
          rw (w.near-is, w.far-is, w.pc-is, w.root-is)
          (finished_right c.requires.here c.parent-parent.ensures c.is_red.ensures c.if-not-is_red.false
          c.parent-grand.ensures c.get-first.ensures c.eq.ensures w.if-eq.false w.finish_at-else-eq.ensures)
    ]
