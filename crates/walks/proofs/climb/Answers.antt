use Rattle.std.proofs.Common.{rules}
use Rattle.walks.proofs.Rises.{climb_parent, climb_get, climb_on, climb_less}
use Rattle.walks.proofs.Rises.{climb_root, climb_found}
use Rattle.walks.proofs.climb.Goals as goal

pub parent-requires : goal.parent-requires
parent-requires c =
    search (rules, climb_parent)

pub get-requires : goal.get-requires
get-requires c =
    climb_get c.loop-parent.invariant c.parent.ensures c.in-Some.ensures

pub returns-then-eq : goal.returns-then-eq
returns-then-eq c =
    climb_found c.loop-parent.invariant c.parent.ensures c.in-Some.ensures c.get.ensures (search rules)

pub loop-parent-smaller : goal.loop-parent-smaller
loop-parent-smaller c =
    climb_less c.loop-parent.invariant c.parent.ensures c.in-Some.ensures c.get.ensures (search rules)

pub loop-parent-preserved : goal.loop-parent-preserved
loop-parent-preserved c =
    climb_on c.loop-parent.invariant c.parent.ensures c.in-Some.ensures c.get.ensures (search rules)

pub returns : goal.returns
returns c =
    climb_root c.loop-parent.invariant c.parent.ensures c.in_default.ensures
