use Rattle.links.proofs.Shapes.{sound_well}
use Rattle.queries.proofs.Searching.{searchable, find_answered}
use Rattle.queries.proofs.find.Goals as goal

pub find-met-requires : goal.find-met-requires
find-met-requires c =
    searchable (sound_well c.args.tree)

pub returns : goal.returns
returns c =
    find_answered (sound_well c.args.tree) c.find-met.ensures
