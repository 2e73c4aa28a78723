-- `codes::value_of` gives each byte its value: the three ranges have one each, the gaps between them have none.
use mathlib.Core.Path.{sym}
use native.Mathlib.Omega.{arith}
use Rattle.theory.proofs.CodeValues.{value_digit, value_upper, value_lower, value_none}
use Rattle.codes.proofs.value_of.Goals as goal

pub returns-in-48-to-57 : goal.returns-in-48-to-57
returns-in-48-to-57 c =
    rw c.from.ensures (sym (value_digit _ (omega arith)))

pub returns-in-65-to-90 : goal.returns-in-65-to-90
returns-in-65-to-90 c =
    rw c.from-in-65-to-90.ensures (sym (value_upper _ (omega arith)))

pub returns-in-97-to-122 : goal.returns-in-97-to-122
returns-in-97-to-122 c =
    rw c.from-in-97-to-122.ensures (sym (value_lower _ (omega arith)))

pub returns-in_default : goal.returns-in_default
returns-in_default c =
    sym (value_none _ (λ w. omega arith) (λ w. omega arith) (λ w. omega arith))

pub returns-in_default-2 : goal.returns-in_default-2
returns-in_default-2 c =
    sym (value_none _ (λ w. omega arith) (λ w. omega arith) (λ w. omega arith))

pub returns-in_default-3 : goal.returns-in_default-3
returns-in_default-3 c =
    sym (value_none _ (λ w. omega arith) (λ w. omega arith) (λ w. omega arith))

pub returns-in_default-4 : goal.returns-in_default-4
returns-in_default-4 c =
    sym (value_none _ (λ w. omega arith) (λ w. omega arith) (λ w. omega arith))
