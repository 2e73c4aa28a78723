use Rattle.runs.proofs.Running.{answered_at}
use Rattle.runs.proofs.answer_at.Goals as goal

pub returns : goal.returns
returns c =
    answered_at _ c.record_at-record.ensures c.obey-answer.ensures c.put_answer.ensures
