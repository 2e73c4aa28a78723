use Rattle.std.proofs.Common.{rules, ◌≡◌, Err}
use Rattle.theory.proofs.Holds.{well_holds}
use Rattle.descent.proofs.Trees.{holds_searchable}
use Rattle.changes.proofs.Entering.{or_insert_refused, or_insert_fill, or_inserted}
use Rattle.changes.proofs.or_insert.Goals as goal

pub returns-in_err-test_new : goal.returns-in_err-test_new
returns-in_err-test_new c =
    let told : c.from_residual.result ≡ Err c.in_err-test_new.field-0.0 = search rules in
    rw told (or_insert_refused _ _ c.in_err-test_new.ensures)

pub entry-fresh-requires : goal.entry-fresh-requires
entry-fresh-requires c =
    search (rules, holds_searchable, well_holds)

pub fill-requires : goal.fill-requires
fill-requires c =
    or_insert_fill c.requires c.in_ok-test_new.ensures c.entry-fresh.ensures

pub returns : goal.returns
returns c =
    or_inserted c.requires c.in_ok-test_new.ensures _ c.fill.ensures
