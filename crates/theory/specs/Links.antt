-- The lent numbers without the keys: how the programs read and write them, and the links that a tree draws.
use Rattle.std.specs.Prelude.{ℕ, ◌+◌, ◌*◌, ◌/◌, ◌%◌, Bool, false, List, [], eqb}
use Rattle.model.specs.Branch.{pick}
use Rattle.model.specs.Tree.{Side, lft, rgt, Tree}
use Rattle.model.specs.Lent.{Lent, lent, at}
use Rattle.model.specs.Draw.{Cell, lay, draw}
use Rattle.theory.specs.Slots.{put}

pub record Links : Type 0 where
  pub left : List ℕ
  pub right : List ℕ
  pub pc : List ℕ
  pub root : ℕ

abbrev pub links : (left right pc : List ℕ) → (root : ℕ) → Links
links l r p t = record { left = l; right = r; pc = p; root = t }

abbrev pub links_of : Lent → Links
links_of m = links m.arrays.left m.arrays.right m.arrays.pc m.root

abbrev pub with_keys : List ℕ → Links → Lent
with_keys keys k = lent k.left k.right k.pc keys k.root

-- ---- drawings

-- the links with what f says in every cell
unfoldable pub laid : (C : ℕ) → (Cell → ℕ) → (root : ℕ) → Links
laid C f root = links_of (lay C f [] root)

-- the links of C slots that hold the tree
unfoldable pub drawn : (C : ℕ) → Tree → Links
drawn C t = links_of (draw C t [])

-- ---- one number

abbrev pub children : Side → Links → List ℕ
children lft k = k.left
children rgt k = k.right

unfoldable pub child_in : Side → Links → (slot : ℕ) → ℕ
child_in d k s = at (children d k) s

unfoldable pub pc_in : Links → (slot : ℕ) → ℕ
pc_in k s = at k.pc s

abbrev pub parent_in : Links → (slot : ℕ) → ℕ
parent_in k s = pc_in k s / 2

abbrev pub color_in : Links → (slot : ℕ) → ℕ
color_in k s = pc_in k s % 2

-- there is such a slot, and it is red
unfoldable pub red_in : Links → (slot : ℕ) → Bool
red_in k s = pick (eqb s 0) false (eqb (color_in k s) 0)

-- the side of p on which its child s hangs
unfoldable pub side_in : Links → (s p : ℕ) → Side
side_in k s p = pick (eqb (child_in lft k p) s) lft rgt

unfoldable pub set_child : Side → Links → (slot value : ℕ) → Links
set_child lft k s v = links (put k.left s v) k.right k.pc k.root
set_child rgt k s v = links k.left (put k.right s v) k.pc k.root

unfoldable pub set_pc : Links → (slot value : ℕ) → Links
set_pc k s v = links k.left k.right (put k.pc s v) k.root

abbrev pub set_parent : Links → (slot parent : ℕ) → Links
set_parent k s v = set_pc k s (2 * v + color_in k s)

abbrev pub set_color : Links → (slot color : ℕ) → Links
set_color k s v = set_pc k s (2 * parent_in k s + v)

unfoldable pub set_root : Links → (root : ℕ) → Links
set_root k v = links k.left k.right k.pc v
