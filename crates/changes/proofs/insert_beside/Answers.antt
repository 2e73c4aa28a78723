use Rattle.std.proofs.Common.{rules, ◌≡◌, Err}
use Rattle.links.specs.Sides.{side_of}
use Rattle.changes.proofs.Neighbours.{next_refused, next_slot_refused, next_stands, next_pre, next_inserted}
use Rattle.changes.proofs.insert_beside.Goals as goal

pub returns-in_err-test_position : goal.returns-in_err-test_position
returns-in_err-test_position c =
    let told : c.from_residual.result ≡ Err c.in_err-test_position.field-0.0 = search rules in
    rw told (next_refused _ (side_of c.args.side) _ _ c.in_err-test_position.ensures)

pub returns-in_err-test_new : goal.returns-in_err-test_new
returns-in_err-test_new c =
    let told : c.from_residual-in_err-test_new.result ≡ Err c.in_err-test_new.field-0.0 = search rules in
    rw told (next_slot_refused _ (side_of c.args.side) _ _ c.in_ok-test_position.ensures c.in_err-test_new.ensures)

pub gap-gap-requires : goal.gap-gap-requires
gap-gap-requires c =
    next_stands c.requires c.in_ok-test_position.ensures c.in_ok-test_new.ensures

pub insert_in-requires : goal.insert_in-requires
insert_in-requires c =
    next_pre c.requires c.in_ok-test_position.ensures c.in_ok-test_new.ensures c.gap-gap.ensures

pub returns : goal.returns
returns c =
    next_inserted c.requires c.in_ok-test_position.ensures c.in_ok-test_new.ensures c.gap-gap.ensures
    c.insert_in.ensures
