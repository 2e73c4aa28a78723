use Rattle.mending.proofs.Passing.{sibling_none, sibling_right, sibling_left}
use Rattle.mending.proofs.sibling.Goals as goal

pub returns-then-parent-eq0 : goal.returns-then-parent-eq0
returns-then-parent-eq0 c =
    sibling_none c.requires c.parent-parent.ensures c.if-parent-eq0.true

pub returns-then-eq : goal.returns-then-eq
returns-then-eq c =
    sibling_right c.requires c.parent-parent.ensures c.if-parent-eq0.false c.get-first.ensures c.eq.ensures c.if-eq.true
    c.get.ensures c.or_none.ensures

pub returns-else-eq : goal.returns-else-eq
returns-else-eq c =
    sibling_left c.requires c.parent-parent.ensures c.if-parent-eq0.false c.get-first.ensures c.eq.ensures c.if-eq.false
    c.or_none-else-eq.ensures
