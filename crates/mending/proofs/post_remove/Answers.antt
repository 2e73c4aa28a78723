use Rattle.mending.proofs.Refilling.{refill_start, refill_asked, refill_color}
use Rattle.mending.proofs.Refilling.{refill_last, refill_done, refill_on, refill_less}
use Rattle.mending.proofs.post_remove.Goals as goal

pub loop-next-init : goal.loop-next-init
loop-next-init c =
    refill_start c.requires

pub pass-requires : goal.pass-requires
pass-requires c =
    refill_asked c.loop-next.invariant

pub set_color-requires : goal.set_color-requires
set_color-requires c =
    refill_color c.loop-next.invariant

pub loop-next-smaller : goal.loop-next-smaller
loop-next-smaller c =
    refill_less c.loop-next.invariant c.in-Some.ensures c.set_color.ensures

pub loop-next-preserved : goal.loop-next-preserved
loop-next-preserved c =
    refill_on c.loop-next.invariant c.in-Some.ensures c.set_color.ensures

pub sink_end-requires : goal.sink_end-requires
sink_end-requires c =
    refill_last c.loop-next.invariant c.in_default.ensures

pub returns : goal.returns
returns c =
    refill_done c.loop-next.invariant c.in_default.ensures c.sink_end.ensures
