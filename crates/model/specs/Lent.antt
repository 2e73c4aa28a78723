-- 01, "Slots and the lent arrays": the numbers that a caller lends, and how a slot is read from them.
use Rattle.std.specs.Prelude.{ℕ, zero, suc, ◌-◌, ◌*◌, ◌+◌, ◌/◌, ◌%◌, ◌≤◌, ◌<◌, Bool, not, List, get_or, set, length}
use Rattle.std.specs.Prelude.{replicate, eqb}
use Rattle.model.specs.Branch.{choose}
use Rattle.model.specs.Limits.{depth_limit}
use Rattle.model.specs.Tree.{Side, lft, rgt, Color, red, black, Tree, leaf, node}

-- Four arrays: the two children, parent and colour in one number, and the key of each slot.
pub record Arrays : Type 0 where
  pub left : List ℕ
  pub right : List ℕ
  pub pc : List ℕ
  pub key : List ℕ

-- The arrays, and the number of the root beside them.
pub record Lent : Type 0 where
  pub arrays : Arrays
  pub root : ℕ

abbrev pub arrays_of : List ℕ → List ℕ → List ℕ → List ℕ → Arrays
arrays_of l r p k = record { left = l; right = r; pc = p; key = k }

abbrev pub lent : List ℕ → List ℕ → List ℕ → List ℕ → ℕ → Lent
lent l r p k t = record { arrays = arrays_of l r p k; root = t }

-- C, the number of slots: they are counted from 1.
unfoldable pub capacity : Arrays → ℕ
capacity a = length a.pc

-- The number of a slot in an array: the slots start at 1, the elements at 0.
unfoldable pub at : List ℕ → ℕ → ℕ
at l s = get_or l (s - 1) 0

unfoldable pub child_of : Side → Arrays → ℕ → ℕ
child_of lft a s = at a.left s
child_of rgt a s = at a.right s

unfoldable pub pc_of : Arrays → ℕ → ℕ
pc_of a s = at a.pc s

unfoldable pub key_of : Arrays → ℕ → ℕ
key_of a s = at a.key s

-- Parent and colour share a number, so no linked slot has 0 there: red counts 0, black 1.
abbrev pub color_code : Color → ℕ
color_code red = 0
color_code black = 1

abbrev pub parent_color : ℕ → Color → ℕ
parent_color p c = 2 * p + color_code c

unfoldable pub parent_of : Arrays → ℕ → ℕ
parent_of a s = pc_of a s / 2

unfoldable pub color_of : Arrays → ℕ → Color
color_of a s = choose (eqb (pc_of a s % 2) 0) (λ _. red) (λ _. black)

-- A slot from 1 to C with a number other than 0 in pc.
pub record Linked (a : Arrays) (s : ℕ) : Type 0 where
  pub positive : 0 < s
  pub fits : s ≤ capacity a
  pub marked : 0 < pc_of a s

unfoldable pub is_linked : Arrays → ℕ → Bool
is_linked a s = not (eqb (pc_of a s) 0)

-- The tree that the child numbers spell, down from a slot, as far as the depth goes.
unfoldable pub grow : ℕ → Arrays → ℕ → Tree
grow zero a s = leaf
grow (suc depth) a s =
    choose (eqb s 0) (λ _. leaf) λ _.
    node (color_of a s) (grow depth a (child_of lft a s)) s (grow depth a (child_of rgt a s))

unfoldable pub tree_of : Lent → Tree
tree_of m = grow depth_limit m.arrays m.root

-- The key array once the slot s has the key k.
unfoldable pub keyed : (s k : ℕ) → Arrays → List ℕ
keyed s k a = set a.key (s - 1) k

-- A fresh start: C unlinked slots, all keys 0.
unfoldable pub empty_lent : ℕ → Lent
empty_lent C = lent (replicate C 0) (replicate C 0) (replicate C 0) (replicate C 0) 0
