-- A tree as the lent numbers tell it: what stands at each of its nodes, and that no other slot is linked.
use Rattle.std.specs.Prelude.{ℕ, zero, suc, ◌≤◌, ◌<◌, ◌≡◌}
use Rattle.model.specs.Tree.{Side, lft, rgt, Color, Tree, leaf, node, slots}
use Rattle.model.specs.Lent.{Arrays, Lent, Linked, capacity, child_of, pc_of, key_of, parent_of, parent_color}
use Rattle.model.specs.WellFormed.{Lengths, Differ, Rising}
use Rattle.theory.specs.Balance.{Balanced}
use Rattle.theory.specs.Sound.{count}

-- the child number s of `above` names x, a node of the colour c
pub record Here (a : Arrays) (above s : ℕ) (c : Color) (x : ℕ) : Type 0 where
  pub same : s ≡ x
  pub linked : Linked a x
  pub marked : pc_of a x ≡ parent_color above c
  pub differ : Differ (child_of lft a x) (child_of rgt a x)

-- the child number s of `above` leads to this tree
abbrev pub Hangs : Arrays → (above s : ℕ) → Tree → Type 0
Hangs a above s leaf = s ≡ 0
Hangs a above s (node c l x r) = Here a above s c x × Hangs a x (child_of lft a x) l × Hangs a x (child_of rgt a x) r

-- both children and the mark of a slot are 0
pub record Clear (a : Arrays) (s : ℕ) : Type 0 where
  pub child : (d : Side) → child_of d a s ≡ 0
  pub pc : pc_of a s ≡ 0

-- the root leads to this tree, it keeps all rules, and the slots outside it are clear
pub record Hung (m : Lent) (t : Tree) : Type 0 where
  pub lengths : Lengths m.arrays
  pub hangs : Hangs m.arrays 0 m.root t
  pub rest : (s : ℕ) → 0 < s → s ≤ capacity m.arrays → count t s ≡ 0 → Clear m.arrays s
  pub balanced : Balanced t
  pub rising : Rising (key_of m.arrays) 0 (slots t)

-- so many parent steps lead from the slot up to 0
abbrev pub Level : Arrays → (steps s : ℕ) → Type 0
Level a zero s = s ≡ 0
Level a (suc n) s = (0 < s) × Level a n (parent_of a s)
