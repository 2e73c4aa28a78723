use Rattle.std.proofs.Common.{rules, ◌≡◌, Err}
use Rattle.placing.proofs.Positions.{stands_position}
use Rattle.changes.proofs.Removing.{remove_refused, remove_stands, remove_pre, removed_done}
use Rattle.changes.proofs.remove.Goals as goal

pub returns-in_err-test_node : goal.returns-in_err-test_node
returns-in_err-test_node c =
    let told : c.from_residual.result ≡ Err c.in_err-test_node.field-0.0 = search rules in
    rw told (remove_refused _ c.in_err-test_node.ensures)

pub neighbour-later-requires : goal.neighbour-later-requires
neighbour-later-requires c =
    stands_position (remove_stands c.requires c.in_ok-test_node.ensures)

pub remove-requires : goal.remove-requires
remove-requires c =
    remove_pre c.requires c.in_ok-test_node.ensures

pub returns : goal.returns
returns c =
    removed_done c.requires c.in_ok-test_node.ensures c.neighbour-later.ensures c.remove.ensures
