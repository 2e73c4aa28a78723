use Rattle.hanging.proofs.Uncles.{uncle_none, uncle_parent, uncle_get, uncle_get_2, uncle_right, uncle_left}
use Rattle.hanging.proofs.red_uncle.Goals as goal

pub returns-then-not-is_red : goal.returns-then-not-is_red
returns-then-not-is_red c =
    uncle_none c.requires c.parent-parent.ensures c.is_red.ensures c.if-not-is_red.true

pub parent-grand-requires : goal.parent-grand-requires
parent-grand-requires c =
    uncle_parent c.requires c.parent-parent.ensures c.is_red.ensures c.if-not-is_red.false

pub get-first-requires : goal.get-first-requires
get-first-requires c =
    uncle_get c.requires c.parent-parent.ensures c.is_red.ensures c.if-not-is_red.false c.parent-grand.ensures

pub get-second-requires : goal.get-second-requires
get-second-requires c =
    uncle_get_2 c.requires c.parent-parent.ensures c.is_red.ensures c.if-not-is_red.false c.parent-grand.ensures

pub returns-then-eq : goal.returns-then-eq
returns-then-eq c =
    uncle_right c.requires c.parent-parent.ensures c.is_red.ensures c.if-not-is_red.false c.parent-grand.ensures
    c.get-first.ensures c.eq.ensures c.if-eq.true c.get-second.ensures c.red_or_none.ensures

pub returns-else-eq : goal.returns-else-eq
returns-else-eq c =
    uncle_left c.requires c.parent-parent.ensures c.is_red.ensures c.if-not-is_red.false c.parent-grand.ensures
    c.get-first.ensures c.eq.ensures c.if-eq.false c.red_or_none-else-eq.ensures
