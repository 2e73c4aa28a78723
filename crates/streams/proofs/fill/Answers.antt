use Rattle.streams.proofs.Filling.{filled}
use Rattle.streams.proofs.fill.Goals as goal

pub loop-done-preserved : goal.loop-done-preserved
loop-done-preserved g c =
    let kept = c.loop-done.invariant in
    filled _ _ _ kept.0 c.read.auto.buf _ _ _ kept.1 _ c.in_ok-n.ensures.bound.0 c.in_ok-n.ensures.bytes.0
