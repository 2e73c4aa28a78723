use Rattle.std.proofs.Common.{rules, ◌≡◌, Err}
use Rattle.theory.proofs.Check.{check_complete}
use Rattle.commands.proofs.Numbers.{obeyed_none, obeyed_some}
use Rattle.commands.proofs.obey.Goals as goal

pub returns-in_err-query : goal.returns-in_err-query
returns-in_err-query c =
    let told : c.from_residual.result ≡ Err c.in_err-query.field-0.0 = search rules in
    rw told (obeyed_none _ _ c.in_err-query.ensures)

pub invariant_of-look : goal.invariant_of-look
invariant_of-look c =
    record { shaped = check_complete _ c.requires }

pub returns-in-Query : goal.returns-in-Query
returns-in-Query c =
    obeyed_some _ _ (rw c.in-Query.is at c.in_ok-query.ensures) c.look.ensures

pub returns : goal.returns
returns c =
    obeyed_some _ _ (rw c.in-Change.is at c.in_ok-query.ensures) c.apply.ensures
