use Rattle.std.proofs.Common.{rules}
use Rattle.wellformed.proofs.Kins.{kin_none, kin_past, kin_red, kin_black, kin_other}
use Rattle.wellformed.proofs.slots.kin_of.Goals as goal

pub returns-then-slot-eq0 : goal.returns-then-slot-eq0
returns-then-slot-eq0 c =
    search (rules, kin_none)

pub returns-in_default : goal.returns-in_default
returns-in_default c =
    kin_past _ _ _ (search rules) c.index.ensures (search rules)

pub returns-then-mark-parent : goal.returns-then-mark-parent
returns-then-mark-parent c =
    kin_red _ _ _ (search rules) c.index.ensures (search rules) (search rules)

pub returns-then-mark-parent-2 : goal.returns-then-mark-parent-2
returns-then-mark-parent-2 c =
    kin_black _ _ _ (search rules) c.index.ensures (search rules) (search rules)

pub returns-else-mark-parent-2 : goal.returns-else-mark-parent-2
returns-else-mark-parent-2 c =
    kin_other _ _ _ (search rules) c.index.ensures (search rules) (search rules) (search rules)
