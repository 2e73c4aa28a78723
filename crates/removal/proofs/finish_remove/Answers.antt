use Rattle.removal.proofs.Finishing.{finish_red, finish_color, finish_child, finish_root, finish_climb}
use Rattle.removal.proofs.finish_remove.Goals as goal

pub returns-then-eq : goal.returns-then-eq
returns-then-eq c =
    finish_red c.args.color c.requires c.eq.ensures c.if-eq.true

pub set_color-requires : goal.set_color-requires
set_color-requires c =
    finish_color c.args.color c.requires c.eq.ensures c.if-eq.false c.in-Some.is

pub returns-in-Some : goal.returns-in-Some
returns-in-Some c =
    finish_child c.args.color c.requires c.eq.ensures c.if-eq.false c.in-Some.is c.set_color.ensures

pub returns-in_default-sibling : goal.returns-in_default-sibling
returns-in_default-sibling c =
    finish_root c.args.color c.requires c.eq.ensures c.if-eq.false c.in_default.is c.in_default-sibling.is

pub returns : goal.returns
returns c =
    finish_climb c.args.color c.requires c.eq.ensures c.if-eq.false c.in_default.is c.in-Some-sibling.is
    c.post_remove.ensures
