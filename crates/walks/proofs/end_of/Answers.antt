use Rattle.std.proofs.Common.{rules}
use Rattle.walks.proofs.Spines.{going_get, going_on, going_less, going_end}
use Rattle.walks.proofs.end_of.Goals as goal

pub get-requires : goal.get-requires
get-requires c =
    search (rules, going_get)

pub loop-child-smaller : goal.loop-child-smaller
loop-child-smaller c =
    going_less c.loop-child.invariant c.get.ensures c.in-Some.ensures

pub loop-child-preserved : goal.loop-child-preserved
loop-child-preserved c =
    going_on c.loop-child.invariant c.get.ensures c.in-Some.ensures

pub returns : goal.returns
returns c =
    going_end c.loop-child.invariant c.get.ensures c.in_default.ensures
