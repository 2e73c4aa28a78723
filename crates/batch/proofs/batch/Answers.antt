use mathlib.Core.Logic.{inl, inr, ⊎_elim}
use Rattle.std.proofs.Common.{rules}
use Rattle.batch.proofs.Batching.{batch_length, batch_short, batch_damaged, batch_within, batch_done}
use Rattle.batch.proofs.batch.Goals as goal

pub returns-then-size-ne0 : goal.returns-then-size-ne0
returns-then-size-ne0 c =
    batch_length _ _ _ (⊎_elim inl (λ w. inr w.1) c.then-size-ne0.either)

pub returns-then-answers-count : goal.returns-then-answers-count
returns-then-answers-count c =
    search (rules, batch_short)

pub returns-in_err-checked : goal.returns-in_err-checked
returns-in_err-checked c =
    search (rules, batch_damaged)

pub answer_all-requires : goal.answer_all-requires
answer_all-requires c =
    batch_within _ _ _ c.if-size-ne0.false c.if-size-gt-LONGEST.false c.if-answers-count.false c.in_ok-checked.field-0
    c.in_ok-checked.ensures

pub returns : goal.returns
returns c =
    batch_done _ _ _ c.if-size-ne0.false c.if-size-gt-LONGEST.false c.if-answers-count.false c.in_ok-checked.field-0
    c.in_ok-checked.ensures c.answer_all.ensures
