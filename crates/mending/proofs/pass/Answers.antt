use Rattle.mending.proofs.Passing.{pass_red, pass_child, pass_parent, passed}
use Rattle.mending.proofs.pass.Goals as goal
use Rattle.mending.proofs.pass.Goals.{then-is_red-via-then-is_red, then-is_red-via-else-is_red+then-has_red_child}

pub returns-then-is_red : goal.returns-then-is_red
returns-then-is_red c =
    elim c.then-is_red.branch [
      | then-is_red-via-then-is_red w ↦ pass_red c.requires c.is_red.ensures w.if-is_red.true
      | then-is_red-via-else-is_red+then-has_red_child w ↦
          pass_child c.requires c.is_red.ensures w.if-is_red.false w.has_red_child.ensures w.if-has_red_child.true
    ]

pub returns-then-is_red-2 : goal.returns-then-is_red-2
returns-then-is_red-2 c =
    pass_parent c.requires c.is_red.ensures c.if-is_red.false c.has_red_child.ensures c.if-has_red_child.false
    c.parent-parent.ensures c.is_red-2.ensures c.if-is_red-2.true

pub returns : goal.returns
returns c =
    passed c.requires c.is_red.ensures c.if-is_red.false c.has_red_child.ensures c.if-has_red_child.false
    c.parent-parent.ensures c.is_red-2.ensures c.if-is_red-2.false c.sibling.ensures
