use Rattle.std.proofs.Common.{rules}
use Rattle.placing.proofs.Entries.{fill_hang, filled_occupied, filled_vacant}
use Rattle.placing.proofs.fill.Goals as goal

pub hang_at-requires : goal.hang_at-requires
hang_at-requires c =
    search (rules, fill_hang)

pub returns-in-Occupied : goal.returns-in-Occupied
returns-in-Occupied c =
    search (rules, filled_occupied)

pub returns : goal.returns
returns c =
    search (rules, filled_vacant)
