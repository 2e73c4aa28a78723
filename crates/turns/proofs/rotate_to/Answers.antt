use Rattle.turns.proofs.Mirrors.{left_rotated, right_rotated}
use Rattle.links.specs.Sides.{side_of}
use mathlib.Core.Path.{ap}
use Rattle.turns.proofs.rotate_to.Goals as goal
use Rattle.turns.proofs.rotate_to.Goals.{in-Left, in-Right}

pub returns : goal.returns
returns c =
    elim c.match-side.branch [
      | in-Left w ↦
          rw (w.near-is, w.far-is, w.pc-is, w.root-is)
          (left_rotated c.args.slot.0 (ap side_of w.in-Left.is) w.rotate.ensures)
      | in-Right w ↦
          rw (w.near-is, w.far-is, w.pc-is, w.root-is)
          (right_rotated c.args.slot.0 (ap side_of w.in-Right.is) c.requires w.rotate-in-Right.ensures)
    ]
