use Rattle.std.proofs.Common.{rules, ◌≡◌, Err}
use Rattle.index.proofs.Calls.{entered_damaged, checked_well, entered}
use Rattle.index.proofs.or_insert.Goals as goal

pub returns-in_err-test : goal.returns-in_err-test
returns-in_err-test c =
    let told : c.from_residual.result ≡ Err c.in_err-test.field-0.0 = search rules in
    rw told (entered_damaged _ c.in_err-test.ensures _ _ _)

pub or_insert_at-requires : goal.or_insert_at-requires
or_insert_at-requires c =
    checked_well _ c.in_ok-test.ensures

pub returns : goal.returns
returns c =
    entered _ c.in_ok-test.ensures _ _ _ c.or_insert_at.ensures
