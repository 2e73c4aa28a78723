-- The numbers of lent arrays, cell by cell.
use Rattle.std.specs.Prelude.{ℕ}
use Rattle.model.specs.Tree.{Color, Tree, on, top_of}
use Rattle.model.specs.Lent.{Arrays, child_of, pc_of, parent_color}
use Rattle.model.specs.Draw.{Cell, child_cell, pc_cell}

-- the slot of a cell
abbrev pub slot_of : Cell → ℕ
slot_of (child_cell d s) = s
slot_of (pc_cell s) = s

-- the number in a cell
abbrev pub number_at : Arrays → Cell → ℕ
number_at a (child_cell d s) = child_of d a s
number_at a (pc_cell s) = pc_of a s

-- what a node writes into the cells of its own slot
abbrev pub own_number : (above : ℕ) (c : Color) (l r : Tree) → Cell → ℕ
own_number above c l r (child_cell d s) = top_of (on d l r)
own_number above c l r (pc_cell s) = parent_color above c
