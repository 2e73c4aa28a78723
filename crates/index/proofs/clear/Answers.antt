use Rattle.std.proofs.Common.{rules, ◌≡◌, Err}
use Rattle.index.proofs.Calls.{performed_damaged, checked_well, performed}
use Rattle.index.proofs.clear.Goals as goal

pub returns-in_err-test : goal.returns-in_err-test
returns-in_err-test c =
    let told : c.from_residual.result ≡ Err c.in_err-test.field-0.0 = search rules in
    rw told (performed_damaged _ c.in_err-test.ensures _)

pub clear-requires : goal.clear-requires
clear-requires c =
    checked_well _ c.in_ok-test.ensures

pub returns : goal.returns
returns c =
    performed _ c.in_ok-test.ensures _ c.clear.ensures
