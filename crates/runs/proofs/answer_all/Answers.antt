use Rattle.runs.proofs.Running.{all_start, next_within, one_more, all_done}
use Rattle.runs.proofs.answer_all.Goals as goal

pub loop-index-init : goal.loop-index-init
loop-index-init c =
    all_start c.requires

pub answer_at-requires : goal.answer_at-requires
answer_at-requires c =
    next_within c.loop-index.invariant c.loop-index-test.true

pub loop-index-preserved : goal.loop-index-preserved
loop-index-preserved c =
    one_more c.loop-index.invariant c.answer_at.ensures c.loop-index-test.true

pub returns : goal.returns
returns c =
    all_done c.loop-index.invariant c.loop-index-test.false
