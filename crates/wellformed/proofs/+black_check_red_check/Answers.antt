use Rattle.std.proofs.Common.{rules, arith}
use Rattle.wellformed.proofs.Children.{only_asked, only_came, no_red, none_came, red_bad, red_fits, red_sum}
use Rattle.wellformed.proofs.Children.{red_asked, black_asked, red_came, black_came, other_came}
use Rattle.wellformed.proofs.Children.{black_bad, black_fits, black_sum}
use Rattle.wellformed.proofs.+black_check_red_check.Goals as goal

-- ---- under a black slot

pub black_check-returns-in_default : goal.black_check-returns-in_default
black_check-returns-in_default t c = search (rules, black_bad)

pub black_check-sum_of-requires : goal.black_check-sum_of-requires
black_check-sum_of-requires t c = search (rules, black_fits)

pub black_check-returns : goal.black_check-returns
black_check-returns t c = search (rules, black_sum)

pub child_of_black-red_check-requires : goal.child_of_black-red_check-requires
child_of_black-red_check-requires t c =
    (omega arith, red_asked c.requires c.kin_of.ensures (search rules))

pub child_of_black-black_check-requires : goal.child_of_black-black_check-requires
child_of_black-black_check-requires t c =
    (omega arith, black_asked c.requires c.kin_of.ensures (search rules))

pub child_of_black-returns-in-Some-Red : goal.child_of_black-returns-in-Some-Red
child_of_black-returns-in-Some-Red t c = search (rules, red_came)

pub child_of_black-returns-in-Some-Black : goal.child_of_black-returns-in-Some-Black
child_of_black-returns-in-Some-Black t c = search (rules, black_came)

pub child_of_black-returns-in-None : goal.child_of_black-returns-in-None
child_of_black-returns-in-None t c = search (rules, other_came)

-- ---- under a red slot

pub child_of_red-black_check-requires : goal.child_of_red-black_check-requires
child_of_red-black_check-requires t c =
    (omega arith, only_asked c.requires c.kin_of.ensures (search rules))

pub child_of_red-returns-in-Some-Black : goal.child_of_red-returns-in-Some-Black
child_of_red-returns-in-Some-Black t c = search (rules, only_came)

pub child_of_red-returns-in_default : goal.child_of_red-returns-in_default
child_of_red-returns-in_default t c = search (rules, no_red)

pub child_of_red-returns-in_default-2 : goal.child_of_red-returns-in_default-2
child_of_red-returns-in_default-2 t c = search (rules, none_came)

pub red_check-returns-in_default : goal.red_check-returns-in_default
red_check-returns-in_default t c = search (rules, red_bad)

pub red_check-sum_of-requires : goal.red_check-sum_of-requires
red_check-sum_of-requires t c = search (rules, red_fits)

pub red_check-returns : goal.red_check-returns
red_check-returns t c = search (rules, red_sum)
