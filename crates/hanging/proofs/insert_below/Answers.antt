use mathlib.Core.Path.{ap}
use Rattle.links.specs.Sides.{side_of}
use Rattle.hanging.proofs.Inserting.{hang_left, hang_right, hung_left, hung_right, post_ready, inserted, Hung}
use Rattle.hanging.proofs.insert_below.Goals as goal
use Rattle.hanging.proofs.insert_below.Goals.{in-Left, in-Right, Joined-side}

pub hang-requires : goal.hang-requires
hang-requires c =
    hang_left c.requires

pub hang-requires-in-Right : goal.hang-requires-in-Right
hang-requires-in-Right c =
    hang_right c.requires

hung : (c : Joined-side)
    → Hung c.args.tree.0.now c.args.tree.1.now c.args.tree.2.now (side_of c.args.side) c.args.parent.0
    c.args.slot.0 c.match-side.near c.match-side.far c.match-side.pc
hung c =
    elim c.match-side.branch [
      | in-Left w ↦ rw (w.near-is, w.far-is, w.pc-is) (hung_left (ap side_of w.in-Left.is) w.hang.ensures)
      | in-Right w ↦
          rw (w.near-is, w.far-is, w.pc-is) (hung_right (ap side_of w.in-Right.is) w.hang-in-Right.ensures)
    ]

pub post_insert-requires : goal.post_insert-requires
post_insert-requires c =
    post_ready c.requires (hung (goal.at.post_insert-requires c).Joined-side)

pub returns : goal.returns
returns c =
    inserted c.requires (hung (goal.at.returns c).Joined-side) c.post_insert.ensures
