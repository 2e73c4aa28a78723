use Rattle.std.proofs.Common.{rules, ◌≡◌, Err}
use Rattle.index.proofs.Calls.{found_damaged, looked_up}
use Rattle.index.proofs.entry.Goals as goal

pub returns-in_err-tree : goal.returns-in_err-tree
returns-in_err-tree c =
    let told : c.from_residual.result ≡ Err c.in_err-tree.field-0.0 = search rules in
    rw told (found_damaged _ c.in_err-tree.ensures _)

pub returns : goal.returns
returns c =
    looked_up _ c.in_ok-tree.tree c.in_ok-tree.ensures _ c.entry.ensures
