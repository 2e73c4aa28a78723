-- The lent numbers as a tree: what well-formed arrays come down to, and what every later proof starts from.
use Rattle.std.specs.Prelude.{◌≤◌, ◌≡◌, length}
use Rattle.model.specs.Limits.{capacity_limit}
use Rattle.model.specs.Tree.{Tree, slots}
use Rattle.model.specs.Lent.{Lent, capacity, key_of}
use Rattle.model.specs.WellFormed.{Rising}
use Rattle.model.specs.Draw.{draw}
use Rattle.theory.specs.Balance.{Balanced}
use Rattle.theory.specs.Sound.{Sound}

-- The links are the drawing of t, which is balanced and fits, and the keys never fall along its in-order list.
pub record Holds (m : Lent) (t : Tree) : Type 0 where
  pub is : m ≡ draw (capacity m.arrays) t m.arrays.key
  pub sound : Sound (capacity m.arrays) t
  pub balanced : Balanced t
  pub rising : Rising (key_of m.arrays) 0 (slots t)
  pub keys : length m.arrays.key ≡ capacity m.arrays
  pub small : capacity m.arrays ≤ capacity_limit
