-- What detach, finish_remove, remove_one, remove_two and remove require.
use Rattle.std.specs.Prelude.{ℕ, ◌≤◌, ◌<◌, Option, None, Some, ◌≡◌, length}
use mathlib.Core.List.{List, ◌∷◌, ◌++◌, Memᴰ}
use Rattle.model.specs.Tree.{Side, lft, rgt, Color, black, Tree, leaf, node, nod, top_of, slots, Frame, frame, plug}
use Rattle.model.specs.Lent.{color_code}
use Rattle.theory.specs.Balance.{Balanced}
use Rattle.theory.specs.Places.{Bounded, Drawn, Spot, sibling_of, Solid}
use Rattle.links.specs.declared.types.Slot.{Slot}
use Rattle.links.specs.Reads.{SlotOrNone}

-- detach: the slot y, and its child n or 0
pub record DetachPre (left right pc : List ℕ) (root y n : ℕ) : Type 0 where
  pub bounded : Bounded left right pc root
  pub low : 0 < y
  pub high : y ≤ length left
  pub child : n ≤ length left

-- finish_remove: a node of the colour `lost` has left its place, at the end of the way, to the tree; c, n and s are
-- that colour, the slot at the top of that tree, if there is one, and the sibling's
pub record FinishPre (left right pc : List ℕ) (root c : ℕ) (n s : Option Slot) : Type 0 where
  pub size : ℕ
  pub lost : Color
  pub tree : Tree
  pub way : List Frame
  pub held : Drawn lft left right pc root size (plug tree way)
  pub solid : lost ≡ black → Solid way
  pub color : c ≡ color_code lost
  pub child : SlotOrNone n (top_of tree)
  pub sibling : SlotOrNone s (sibling_of way)

-- the number of a slot, or 0 for none
abbrev pub number : Option Slot → ℕ
number None = 0
number (Some s) = s.0

-- remove_one: x stands in a balanced tree, and has no other child than n, if that
pub record OnePre (left right pc : List ℕ) (root x n : ℕ) : Type 0 where
  pub size : ℕ
  pub side : Side
  pub color : Color
  pub tree : Tree
  pub way : List Frame
  pub spot : Spot lft left right pc root size side color tree x leaf way
  pub balanced : Balanced (plug (nod side color tree x leaf) way)
  pub child : n ≡ top_of tree

-- remove_two: y, which has no left child, stands in a balanced tree below x on the right; `inner` is the way up to x
pub record TwoPre (left right pc : List ℕ) (root x y : ℕ) : Type 0 where
  pub size : ℕ
  pub next_color : Color
  pub tree : Tree
  pub inner : List Frame
  pub color : Color
  pub other : Tree
  pub way : List Frame
  pub spot : Spot lft left right pc root size lft next_color leaf y tree (inner ++ frame rgt color x other ∷ way)
  pub balanced : Balanced (plug (node next_color leaf y tree) (inner ++ frame rgt color x other ∷ way))

-- remove: the arrays draw a balanced tree, and x stands in it
pub record Removable (left right pc : List ℕ) (root x : ℕ) : Type 0 where
  pub size : ℕ
  pub tree : Tree
  pub held : Drawn lft left right pc root size tree
  pub balanced : Balanced tree
  pub stands : Memᴰ x (slots tree)
