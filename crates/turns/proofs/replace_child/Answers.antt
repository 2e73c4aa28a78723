use Rattle.turns.proofs.Rotations.{replaced_root, replaced_near, replaced_far}
use Rattle.std.proofs.Common.{rules}
use Rattle.turns.proofs.replace_child.Goals as goal

pub returns-then-parent-eq0 : goal.returns-then-parent-eq0
returns-then-parent-eq0 c =
    search (rules, replaced_root)

pub returns-then-eq : goal.returns-then-eq
returns-then-eq c =
    search (rules, replaced_near)

pub returns-else-eq : goal.returns-else-eq
returns-else-eq c =
    search (rules, replaced_far)
