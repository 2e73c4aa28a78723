use Rattle.hanging.proofs.Climbing.{post_start, post_uncle, post_finish, post_done}
use Rattle.hanging.proofs.Climbing.{post_recolor, post_on, post_less}
use Rattle.hanging.proofs.post_insert.Goals as goal

pub loop-uncle-init : goal.loop-uncle-init
loop-uncle-init c =
    post_start c.requires

pub red_uncle-requires : goal.red_uncle-requires
red_uncle-requires c =
    post_uncle c.loop-uncle.invariant

pub recolor-here-requires : goal.recolor-here-requires
recolor-here-requires c =
    post_recolor c.loop-uncle.invariant c.in-Some.ensures

pub loop-uncle-smaller : goal.loop-uncle-smaller
loop-uncle-smaller c =
    post_less c.loop-uncle.invariant c.in-Some.ensures c.recolor-here.ensures

pub loop-uncle-preserved : goal.loop-uncle-preserved
loop-uncle-preserved c =
    post_on c.loop-uncle.invariant c.in-Some.ensures c.recolor-here.ensures

pub finish-requires : goal.finish-requires
finish-requires c =
    post_finish c.loop-uncle.invariant c.in_default.ensures

pub returns : goal.returns
returns c =
    post_done c.loop-uncle.invariant c.in_default.ensures c.finish.ensures
