-- What a call's position and new slot are once their tests have passed, and what the test of a key tells.
use Rattle.std.specs.Prelude.{ℕ, ◌≤◌, ◌<◌, Bool, ◌⊎◌, ◌≡◌}
use mathlib.Core.List.{Memᴰ}
use Rattle.model.specs.Tree.{slots}
use Rattle.model.specs.Lent.{Lent, capacity, key_of, tree_of}
use Rattle.model.specs.WellFormed.{WellFormed}
use Rattle.model.specs.Order.{next_in, prev_in}
use Rattle.theory.specs.Between.{between}

-- The lent numbers are well formed, and p is a slot of their tree, or 0.
pub record Stands (m : Lent) (p : ℕ) : Type 0 where
  pub well : WellFormed m
  pub here : (p ≡ 0) ⊎ Memᴰ p (slots (tree_of m))

-- The slot s is one of theirs, and not in the tree.
pub record Free (m : Lent) (s : ℕ) : Type 0 where
  pub low : 0 < s
  pub high : s ≤ capacity m.arrays
  pub absent : ¬ Memᴰ s (slots (tree_of m))

-- may_stand: whether k fits between the slots before and after p.
pub record Fits (m : Lent) (p k : ℕ) (fits : Bool) : Type 0 where
  pub is : fits ≡ between (key_of m.arrays) (prev_in p (slots (tree_of m))) k (next_in p (slots (tree_of m)))
