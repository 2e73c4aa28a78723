use Rattle.std.proofs.Common.{rules}
use Rattle.placing.proofs.Besides.{beside_front, beside_lacking, beside_child}
use Rattle.placing.proofs.beside.Goals as goal

pub returns-then-position-eq0 : goal.returns-then-position-eq0
returns-then-position-eq0 c =
    search (rules, beside_front)

pub returns-then-child-eq0 : goal.returns-then-child-eq0
returns-then-child-eq0 c =
    search (rules, beside_lacking)

pub returns : goal.returns
returns c =
    search (rules, beside_child)
