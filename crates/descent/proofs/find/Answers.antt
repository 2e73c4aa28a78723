use Rattle.std.proofs.Common.{rules}
use Rattle.descent.proofs.Downward.{by_start}
use Rattle.descent.proofs.Keeping.{keep_start, keep_key, keep_left, keep_right, keep_less}
use Rattle.descent.proofs.Finding.{find_on, found_none, found_here, found_leaf}
use Rattle.descent.proofs.find.Goals as goal

pub loop-node-init : goal.loop-node-init
loop-node-init c =
    keep_start by_start

pub key_of-held-requires : goal.key_of-held-requires
key_of-held-requires c =
    keep_key c.requires c.loop-node.invariant c.in-Some.ensures

pub get-first-requires : goal.get-first-requires
get-first-requires c =
    keep_left c.requires c.loop-node.invariant c.in-Some.ensures

pub get-second-requires : goal.get-second-requires
get-second-requires c =
    keep_right c.requires c.loop-node.invariant c.in-Some.ensures

pub loop-node-smaller : goal.loop-node-smaller
loop-node-smaller c =
    keep_less c.requires c.loop-node.invariant c.in-Some.ensures

pub loop-node-preserved : goal.loop-node-preserved
loop-node-preserved c =
    find_on c.requires c.loop-node.invariant c.in-Some.ensures c.key_of-held.ensures c.get-first.ensures
    c.get-second.ensures (search rules) (search rules) c.pick-here.ensures

pub returns-in_default : goal.returns-in_default
returns-in_default c =
    found_none c.loop-node.invariant c.in_default.ensures

pub returns-then-eq : goal.returns-then-eq
returns-then-eq c =
    found_here c.requires c.loop-node.invariant c.in-Some.ensures c.key_of-held.ensures (search rules)

pub returns-then-is_leaf : goal.returns-then-is_leaf
returns-then-is_leaf c =
    found_leaf c.requires c.loop-node.invariant c.in-Some.ensures c.key_of-held.ensures c.get-first.ensures
    c.get-second.ensures (search rules) (search rules) c.pick-here.ensures c.is_leaf.ensures c.if-is_leaf.true
