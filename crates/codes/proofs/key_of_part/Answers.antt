use Rattle.std.proofs.Common.{rules, ◌≡◌, Err}
use Rattle.codes.proofs.Keys.{none_yet, one_more, sum_fits, product_fits, keyed_length, keyed_stray, keyed_done}
use Rattle.codes.proofs.key_of_part.Goals as goal

pub returns-then-is_empty : goal.returns-then-is_empty
returns-then-is_empty c =
    keyed_length _ c.is_empty.ensures c.then-is_empty.either

pub loop-i-init : goal.loop-i-init
loop-i-init c =
    none_yet _

pub returns-in_err-value : goal.returns-in_err-value
returns-in_err-value c =
    let told : c.from_residual.result ≡ Err c.in_err-value.field-0.0 = search rules in
    keyed_stray _ _ _ c.place_at.ensures c.ok_or.ensures.value c.in_err-value.was told

pub overflow_mul-sum : goal.overflow_mul-sum
overflow_mul-sum c =
    product_fits c.place_at.result c.loop-i.invariant (search rules) c.place_at.ensures
    c.ok_or.ensures.value c.in_ok-value.was

pub overflow_add-sum : goal.overflow_add-sum
overflow_add-sum c =
    sum_fits c.place_at.result c.loop-i.invariant (search rules) c.place_at.ensures
    c.ok_or.ensures.value c.in_ok-value.was

pub loop-i-preserved : goal.loop-i-preserved
loop-i-preserved c =
    one_more c.place_at.result c.loop-i.invariant (search rules) c.place_at.ensures
    c.ok_or.ensures.value c.in_ok-value.was

pub returns : goal.returns
returns c =
    search (rules, keyed_done)
