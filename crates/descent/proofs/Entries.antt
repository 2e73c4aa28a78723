-- The model tells the code's entries apart: a promise about `entry_told` settles the entry.
use mathlib.Core.Path.{◌≡◌, refl, ap, sym, ◌∙◌}
use Rattle.model.specs.Tree as tree
use Rattle.model.specs.Tree.{lft, rgt}
use Rattle.model.specs.Descent as model
use Rattle.links.specs.declared.types.Side.{Side}
use Rattle.links.specs.declared.types.Side.TheVariants.{Left, Right}
use Rattle.links.specs.Sides.{side_of}
use Rattle.descent.specs.declared.types.Entry.{Entry}
use Rattle.descent.specs.declared.types.Entry.TheVariants.{Occupied, Vacant}
use Rattle.descent.specs.Entries.{entry_told}

-- the side that stands for one of the model
abbrev side_from : tree.Side → Side
side_from lft = Left
side_from rgt = Right

side_from_of : (s : Side) → side_from (side_of s) ≡ s
side_from_of Left = refl
side_from_of Right = refl

-- the entry that stands for one of the model
abbrev pub entry_from : model.Entry → Entry
entry_from (model.occupied c) = Occupied (record { slot = record { 0 = c } })
entry_from (model.vacant p d) = Vacant (record { parent = record { 0 = p }; side = side_from d })

pub entry_from_told : (e : Entry) → entry_from (entry_told e) ≡ e
entry_from_told (Occupied held) = refl
entry_from_told (Vacant at) = rw (side_from_of at.side)

-- One entry of the model, one of the code.
pub entry_one : (a b : Entry) → entry_told a ≡ entry_told b → a ≡ b
entry_one a b e = sym (entry_from_told a) ∙ ap entry_from e ∙ entry_from_told b
