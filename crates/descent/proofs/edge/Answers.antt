use Rattle.descent.proofs.Sliding.{slide_start, slide_get, slide_less, slide_on, slid}
use Rattle.descent.proofs.edge.Goals as goal

pub loop-node-init : goal.loop-node-init
loop-node-init c =
    slide_start

pub get-here-requires : goal.get-here-requires
get-here-requires c =
    slide_get c.requires c.loop-node.invariant c.in-Some.ensures

pub loop-node-smaller : goal.loop-node-smaller
loop-node-smaller c =
    slide_less c.requires c.loop-node.invariant c.in-Some.ensures

pub loop-node-preserved : goal.loop-node-preserved
loop-node-preserved c =
    slide_on c.requires c.loop-node.invariant c.in-Some.ensures c.get-here.ensures

pub returns : goal.returns
returns c =
    slid c.loop-node.invariant c.in_default.ensures
