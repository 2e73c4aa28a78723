-- Where a slot stands in a tree.
use Rattle.std.specs.Prelude.{ℕ, List, ◌≡◌}
use Rattle.model.specs.Tree.{Side, Color, Tree, node, nod, Frame, plug}
use Rattle.model.specs.Removal.{Focus}

-- the slot s stands at f in the tree t
pub record Focused (s : ℕ) (t : Tree) (f : Focus) : Type 0 where
  pub same : f.slot ≡ s
  pub whole : plug (node f.color f.left s f.right) f.way ≡ t

-- the place of a slot in a tree, seen from a side
pub record Standing (d : Side) (x : ℕ) (t : Tree) : Type 0 where
  pub color : Color
  pub near : Tree
  pub far : Tree
  pub way : List Frame
  pub whole : plug (nod d color near x far) way ≡ t
