use Rattle.std.proofs.Common.{rules, ◌≡◌, Err}
use lib.Dec.{ltb}
use Rattle.theory.proofs.Holds.{well_holds}
use Rattle.descent.proofs.Trees.{holds_searchable}
use Rattle.changes.proofs.Inserting.{insert_refused, insert_hang, inserted}
use Rattle.changes.proofs.insert.Goals as goal

pub returns-in_err-test_new : goal.returns-in_err-test_new
returns-in_err-test_new c =
    let told : c.from_residual.result ≡ Err c.in_err-test_new.field-0.0 = search rules in
    rw told (insert_refused _ _ c.in_err-test_new.ensures)

pub path-path-requires : goal.path-path-requires
path-path-requires c =
    search (rules, holds_searchable, well_holds)

pub hang_at-requires : goal.hang_at-requires
hang_at-requires c =
    insert_hang c.requires c.in_ok-test_new.ensures
    (c.path-path.ensures.is (ltb c.args.k.0) (λ held told e. search rules)) c.place-at.ensures

pub returns : goal.returns
returns c =
    inserted c.requires c.in_ok-test_new.ensures
    (c.path-path.ensures.is (ltb c.args.k.0) (λ held told e. search rules)) c.place-at.ensures c.hang_at.ensures
