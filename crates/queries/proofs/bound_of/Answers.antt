use native.Mathlib.Omega.{arith}
use Rattle.queries.proofs.Searching.{bound_known, kind_unknown}
use Rattle.queries.proofs.bound_of.Goals as goal

pub returns-in-0 : goal.returns-in-0
returns-in-0 c =
    bound_known _ 0 _ c.in-0.is (omega arith)

pub returns-in-1 : goal.returns-in-1
returns-in-1 c =
    bound_known _ 1 _ c.in-1.is (omega arith)

pub returns-in-2 : goal.returns-in-2
returns-in-2 c =
    bound_known _ 2 _ c.in-2.is (omega arith)

pub returns-in_default : goal.returns-in_default
returns-in_default c =
    kind_unknown _ _ (omega arith)
