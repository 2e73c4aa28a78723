use Rattle.std.proofs.Common.{rules}
use Rattle.wellformed.proofs.Downs.{down_step, down_spent, down_none, down_past}
use Rattle.wellformed.proofs.counts.blacks_down.Goals as goal

pub loop-preserved : goal.loop-preserved
loop-preserved c =
    down_step c.loop.invariant (search rules) (search rules) c.index-at.ensures (search rules) (search rules)

pub returns-after-loop : goal.returns-after-loop
returns-after-loop c = search (rules, down_spent)

pub returns-then-here-eq0 : goal.returns-then-here-eq0
returns-then-here-eq0 c = search (rules, down_none)

pub returns-in_default : goal.returns-in_default
returns-in_default c =
    down_past c.loop.invariant (search rules) (search rules) c.index-at.ensures (search rules)
