use Rattle.links.proofs.Reading.{got_red, got_black}
use Rattle.std.proofs.Common.{rules}
use Rattle.links.proofs.color.Goals as goal

pub returns-then-pc-index-eq0 : goal.returns-then-pc-index-eq0
returns-then-pc-index-eq0 c =
    search (rules, got_red)

pub returns-else-pc-index-eq0 : goal.returns-else-pc-index-eq0
returns-else-pc-index-eq0 c =
    search (rules, got_black)
