-- The loop keeps the run that is to be reached.
use Rattle.model.specs.Lent.{lent}
use Rattle.links.specs.Bundles.{lent_in}
use Rattle.runs.proofs.Running.{Sofar}
use Rattle.runs.proofs.answer_all.Given as goal

abbrev pub invariant-loop-index : goal.invariant-loop-index
invariant-loop-index l =
    Sofar l.count l.index l.input l.fn.answers l.answers (lent_in l.fn.lent)
    (lent l.left l.right l.pc l.key l.root)
