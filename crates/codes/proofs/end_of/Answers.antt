use Rattle.std.proofs.Common.{eqb, ◌∙◌, ◌≡◌, rules, tests, reverse}
use Rattle.std.proofs.lemmas.Iterator.Adapters.{YieldsList-from_rev_slice}
use Rattle.std.proofs.lemmas.Iterator.Consumers.{count_from_yields_List}
use Rattle.std.proofs.lemmas.Iterator.Search.{YieldsList-from_take_while}
use Rattle.std.proofs.lemmas.List.Folds.{length-prefix_len}
use Rattle.codes.proofs.Cutting.{spaces, end_is}
use Rattle.codes.proofs.end_of.Goals as goal

pub returns : goal.returns
returns c =
    let s = c.args.line.now in
    let counted : c.count.result ≡ spaces (reverse s) =
    count_from_yields_List c.take_while.result _ c.count.ensures.ran
    (YieldsList-from_take_while _ (λ b. eqb b 32) (YieldsList-from_rev_slice s cc) c.take_while.ensures.closure
    c.take_while.ensures.done (λ x b q k. search (rules, tests)))
    ∙ length-prefix_len (λ b. eqb b 32) (reverse s) in
    rw counted (end_is s)
