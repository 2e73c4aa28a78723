use Rattle.std.proofs.Common.{rules, ◌≡◌, Err}
use Rattle.theory.proofs.Holds.{well_holds}
use Rattle.descent.proofs.Trees.{holds_searchable}
use Rattle.changes.proofs.Entering.{at_refused, at_stale, at_fill, at_inserted}
use Rattle.changes.proofs.or_insert_at.Goals as goal

pub returns-in_err-test_new : goal.returns-in_err-test_new
returns-in_err-test_new c =
    let told : c.from_residual.result ≡ Err c.in_err-test_new.field-0.0 = search rules in
    rw told (at_refused c.args.entry _ _ c.in_err-test_new.ensures)

pub entry-fresh-requires : goal.entry-fresh-requires
entry-fresh-requires c =
    search (rules, holds_searchable, well_holds)

pub returns-then-ne : goal.returns-then-ne
returns-then-ne c =
    at_stale c.requires c.in_ok-test_new.ensures c.args.entry c.entry-fresh.ensures (search rules)

pub fill-requires : goal.fill-requires
fill-requires c =
    at_fill c.requires c.in_ok-test_new.ensures c.args.entry c.entry-fresh.ensures (search rules)

pub returns : goal.returns
returns c =
    at_inserted c.requires c.in_ok-test_new.ensures c.args.entry c.entry-fresh.ensures (search rules)
    c.fill.ensures
