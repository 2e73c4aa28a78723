use Rattle.std.proofs.Common.{rules, ◌≡◌, Err}
use Rattle.index.proofs.Calls.{performed_damaged, checked_well, performed}
use Rattle.index.proofs.replace_with.Goals as goal

pub returns-in_err-test : goal.returns-in_err-test
returns-in_err-test c =
    let told : c.from_residual.result ≡ Err c.in_err-test.field-0.0 = search rules in
    rw told (performed_damaged _ c.in_err-test.ensures _)

pub replace_with-requires : goal.replace_with-requires
replace_with-requires c =
    checked_well _ c.in_ok-test.ensures

pub returns : goal.returns
returns c =
    performed _ c.in_ok-test.ensures _ c.replace_with.ensures
