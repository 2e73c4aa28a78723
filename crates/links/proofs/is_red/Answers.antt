use Rattle.links.proofs.Reading.{red_none, red_color}
use Rattle.std.proofs.Common.{rules}
use Rattle.links.proofs.is_red.Goals as goal

pub returns-then-slot-eq0 : goal.returns-then-slot-eq0
returns-then-slot-eq0 c =
    search (rules, red_none)

pub returns : goal.returns
returns c =
    search (rules, red_color)
