-- What the code's entries mean in the model.
use Rattle.model.specs.Descent as model
use Rattle.links.specs.Sides.{side_of}
use Rattle.descent.specs.declared.types.InsertCursor.{InsertCursor}
use Rattle.descent.specs.declared.types.Entry.{Entry}
use Rattle.descent.specs.declared.types.Entry.TheVariants.{Occupied, Vacant}

-- an empty place as the model has it
abbrev pub place_told : InsertCursor → model.Entry
place_told at = model.vacant at.parent.0 (side_of at.side)

-- an entry as the model has it
abbrev pub entry_told : Entry → model.Entry
entry_told (Occupied held) = model.occupied held.slot.0
entry_told (Vacant at) = place_told at
