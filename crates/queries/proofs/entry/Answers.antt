use Rattle.links.proofs.Shapes.{sound_well}
use Rattle.queries.proofs.Searching.{searchable, entry_found}
use Rattle.queries.proofs.entry.Goals as goal

pub entry-requires : goal.entry-requires
entry-requires c =
    searchable (sound_well c.args.tree)

pub returns : goal.returns
returns c =
    entry_found (sound_well c.args.tree) c.entry.ensures
