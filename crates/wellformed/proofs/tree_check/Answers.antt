use Rattle.std.proofs.Common.{rules}
use Rattle.wellformed.proofs.Whole.{tree_none, tree_red, tree_stray, tree_deep, tree_counts}
use Rattle.wellformed.proofs.tree_check.Goals as goal

pub returns-then-root-eq0 : goal.returns-then-root-eq0
returns-then-root-eq0 c = search (rules, tree_none)

pub returns-in_default : goal.returns-in_default
returns-in_default c = search (rules, tree_red)

pub returns-in_default-2 : goal.returns-in_default-2
returns-in_default-2 c = search (rules, tree_stray)

pub returns-then-blacks-gt-DEPTH : goal.returns-then-blacks-gt-DEPTH
returns-then-blacks-gt-DEPTH c = search (rules, tree_deep)

pub returns : goal.returns
returns c = search (rules, tree_counts)
