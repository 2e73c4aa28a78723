use Rattle.std.proofs.Common.{rules}
use Rattle.wellformed.proofs.Tallies.{tally_start, tally_step, tally_end}
use Rattle.wellformed.proofs.counts.tally.Goals as goal

pub loop-index-init : goal.loop-index-init
loop-index-init c = search (rules, tally_start)

pub loop-index-preserved : goal.loop-index-preserved
loop-index-preserved c =
    tally_step c.requires c.loop-index.invariant (search rules)
    c.from-linked.ensures c.is_stray.ensures c.from-strays.ensures

pub returns : goal.returns
returns c =
    tally_end c.requires c.loop-index.invariant (search rules)
