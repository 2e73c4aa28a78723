use Rattle.std.proofs.Common.{rules, ◌≡◌, Err}
use Rattle.changes.proofs.Replacing.{replace_refused, replace_slot_refused, replace_out_of_order, replaced_done}
use Rattle.changes.proofs.Replacing.{replace_stands, replace_pre, replace_key}
use Rattle.changes.proofs.replace_with.Goals as goal

pub returns-in_err-test_node : goal.returns-in_err-test_node
returns-in_err-test_node c =
    let told : c.from_residual.result ≡ Err c.in_err-test_node.field-0.0 = search rules in
    rw told (replace_refused _ _ _ c.in_err-test_node.ensures)

pub returns-in_err-test_new : goal.returns-in_err-test_new
returns-in_err-test_new c =
    let told : c.from_residual-in_err-test_new.result ≡ Err c.in_err-test_new.field-0.0 = search rules in
    rw told (replace_slot_refused _ _ _ c.in_ok-test_node.ensures c.in_err-test_new.ensures)

pub may_stand-requires : goal.may_stand-requires
may_stand-requires c =
    replace_stands c.requires c.in_ok-test_node.ensures c.in_ok-test_new.ensures

pub returns-then-not-may_stand : goal.returns-then-not-may_stand
returns-then-not-may_stand c =
    replace_out_of_order c.requires c.in_ok-test_node.ensures c.in_ok-test_new.ensures c.may_stand.ensures
    c.if-not-may_stand.true

pub replace_with-requires : goal.replace_with-requires
replace_with-requires c =
    replace_pre c.requires c.in_ok-test_node.ensures c.in_ok-test_new.ensures

pub set_key-requires : goal.set_key-requires
set_key-requires c =
    replace_key c.requires c.in_ok-test_node.ensures c.in_ok-test_new.ensures

pub returns : goal.returns
returns c =
    replaced_done c.requires c.in_ok-test_node.ensures c.in_ok-test_new.ensures c.may_stand.ensures
    c.if-not-may_stand.false c.replace_with.ensures c.set_key.ensures
