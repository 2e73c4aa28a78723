use Rattle.std.proofs.Common.{rules, arith}
use Rattle.model.specs.Batch.{operations}
use Rattle.records.specs.Records.{record_in}
use Rattle.commands.proofs.Numbers.{unmarked, numbered, number_other}
use Rattle.commands.proofs.types.CommandTryFromRecord.try_from.Goals as goal

pub returns-then-order-ne-MARK : goal.returns-then-order-ne-MARK
returns-then-order-ne-MARK c =
    search (rules, unmarked)

pub returns-in-1 : goal.returns-in-1
unfolding operations record_in
returns-in-1 c =
    numbered _ c.if-order-ne-MARK.false 1 _ c.in-1.is (search rules)

pub returns-in-2 : goal.returns-in-2
unfolding operations record_in
returns-in-2 c =
    numbered _ c.if-order-ne-MARK.false 2 _ c.in-2.is (search rules)

pub returns-in-3 : goal.returns-in-3
unfolding operations record_in
returns-in-3 c =
    numbered _ c.if-order-ne-MARK.false 3 _ c.in-3.is (search rules)

pub returns-in-4 : goal.returns-in-4
unfolding operations record_in
returns-in-4 c =
    numbered _ c.if-order-ne-MARK.false 4 _ c.in-4.is (search rules)

pub returns-in-5 : goal.returns-in-5
unfolding operations record_in
returns-in-5 c =
    numbered _ c.if-order-ne-MARK.false 5 _ c.in-5.is (search rules)

pub returns-in-6 : goal.returns-in-6
unfolding operations record_in
returns-in-6 c =
    numbered _ c.if-order-ne-MARK.false 6 _ c.in-6.is (search rules)

pub returns-in-7 : goal.returns-in-7
unfolding operations record_in
returns-in-7 c =
    numbered _ c.if-order-ne-MARK.false 7 _ c.in-7.is (search rules)

pub returns-in-8 : goal.returns-in-8
unfolding operations record_in
returns-in-8 c =
    numbered _ c.if-order-ne-MARK.false 8 _ c.in-8.is (search rules)

pub returns-in-9 : goal.returns-in-9
unfolding operations record_in
returns-in-9 c =
    numbered _ c.if-order-ne-MARK.false 9 _ c.in-9.is (search rules)

pub returns-in-10 : goal.returns-in-10
unfolding operations record_in
returns-in-10 c =
    numbered _ c.if-order-ne-MARK.false 10 _ c.in-10.is (search rules)

pub returns-in-11 : goal.returns-in-11
unfolding operations record_in
returns-in-11 c =
    numbered _ c.if-order-ne-MARK.false 11 _ c.in-11.is (search rules)

pub returns-in-12 : goal.returns-in-12
unfolding operations record_in
returns-in-12 c =
    numbered _ c.if-order-ne-MARK.false 12 _ c.in-12.is (search rules)

pub returns-in_default : goal.returns-in_default
returns-in_default c =
    number_other _ c.if-order-ne-MARK.false (λ n low high e. omega arith)
