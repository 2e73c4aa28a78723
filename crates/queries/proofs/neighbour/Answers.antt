use Rattle.std.proofs.Common.{rules, ◌≡◌, Err}
use Rattle.links.specs.Sides.{side_of}
use Rattle.links.proofs.Shapes.{sound_well}
use Rattle.queries.proofs.Stepping.{step_position, step_refused, step_done}
use Rattle.queries.proofs.neighbour.Goals as goal

pub returns-in_err-test_position : goal.returns-in_err-test_position
returns-in_err-test_position c =
    let told : c.from_residual.result ≡ Err c.in_err-test_position.field-0.0 = search rules in
    rw told (step_refused (side_of c.args.side) _ c.in_err-test_position.ensures)

pub neighbour-slot-requires : goal.neighbour-slot-requires
neighbour-slot-requires c =
    step_position (sound_well c.args.tree) c.in_ok-test_position.ensures

pub returns : goal.returns
returns c =
    step_done (sound_well c.args.tree) c.in_ok-test_position.ensures (side_of c.args.side) c.neighbour-slot.ensures
