-- The check as the code makes it. A walk counts the missing children, which are one more than the nodes, and gives 0
-- where something is wrong; the bounds of the keys and the black nodes still to come are handed down.
use Rattle.std.specs.Prelude.{ℕ, zero, suc, ◌+◌, ◌*◌, ◌-◌, ◌%◌, ◌≤◌, Bool, ◌&&◌, List, [], ◌∷◌, ◌≡◌, length, eqb, leb}
use Rattle.std.specs.Prelude.{ltb}
use Rattle.model.specs.Branch.{pick, both}
use Rattle.model.specs.Limits.{depth_limit}
use Rattle.model.specs.Tree.{lft, rgt, Color, red, black, Tree, slots}
use Rattle.model.specs.Lent.{Arrays, Lent, at, capacity, child_of, pc_of, key_of, parent_color}
use Rattle.model.specs.WellFormed.{Rising}
use Rattle.model.specs.Check.{differ, tidy_slot, linked_count, lengths_fit}
use Rattle.theory.specs.Balance.{Calm, Even, blacks}
use Rattle.theory.specs.Hangs.{Hangs}
use Rattle.theory.specs.Checked.{last_key}

-- W3: the child number s of p names a node of this colour below p
unfoldable pub is_child : Color → (pc : List ℕ) → (p s : ℕ) → Bool
is_child c pc p s = (ltb 0 s && leb s (length pc)) && eqb (at pc s) (parent_color p c)

-- W4 for a key, by its bounds
unfoldable pub is_between : (low k high : ℕ) → Bool
is_between low k high = leb low k && leb k high

-- W3 for the two children of a slot, and W4 for its key
unfoldable pub is_node : (left right key low high : ℕ) → Bool
is_node l r k low high = differ l r && is_between low k high

abbrev pub is_node_at : Arrays → (s low high : ℕ) → Bool
is_node_at a s low high = is_node (child_of lft a s) (child_of rgt a s) (key_of a s) low high

-- the missing children of both sides, or 0 where something is wrong on one
unfoldable pub sum_of : ℕ → ℕ → ℕ
sum_of x y = pick (eqb x 0) 0 (pick (eqb y 0) 0 (x + y))

-- Under a slot: `ask` counts under each child.
unfoldable pub under : Arrays → (s low high : ℕ) → (ask : (child low high : ℕ) → ℕ) → ℕ
under a s low high ask =
    pick (is_node_at a s low high)
    (sum_of (ask (child_of lft a s) low (key_of a s)) (ask (child_of rgt a s) (key_of a s) high))
    0

-- s is a red child of p and has no children
unfoldable pub is_tip : Arrays → (p s low high : ℕ) → Bool
is_tip a p s low high =
    eqb (pc_of a s) (parent_color p red)
    && ((eqb (child_of lft a s) 0 && eqb (child_of rgt a s) 0) && is_between low (key_of a s) high)

-- Below the last black node of a way there is nothing, or a red node without children.
unfoldable pub tip_ends : Arrays → (p s low high : ℕ) → ℕ
tip_ends a p s low high = pick (eqb s 0) 1 (pick (ltb (capacity a) s) 0 (pick (is_tip a p s low high) 2 0))

-- W5: a child that has to be black; `ask` counts under it.
unfoldable pub black_child : Arrays → (ask : (s low high : ℕ) → ℕ) → (p child low high : ℕ) → ℕ
black_child a ask p child low high = pick (is_child black a.pc p child) (ask child low high) 0

-- Under a red slot.
unfoldable pub red_ends : Arrays → (ask : (s low high : ℕ) → ℕ) → (s low high : ℕ) → ℕ
red_ends a ask s low high = under a s low high (black_child a ask s)

-- A child that may be red, too; `ask` counts under a black one.
unfoldable pub any_child : Arrays → (ask : (s low high : ℕ) → ℕ) → (p child low high : ℕ) → ℕ
any_child a ask p child low high =
    pick (is_child red a.pc p child) (red_ends a ask child low high) (black_child a ask p child low high)

-- W6: under a black slot, below which each way has so many black nodes more.
unfoldable pub black_ends : (more : ℕ) → Arrays → (s low high : ℕ) → ℕ
black_ends zero a s low high = under a s low high (tip_ends a s)
black_ends (suc n) a s low high = under a s low high (any_child a (black_ends n a) s)

-- the black nodes on the way down the left links, as far as it goes within so many turns
unfoldable pub blacks_down : (turns : ℕ) → (left pc : List ℕ) → ℕ → ℕ
blacks_down zero left pc s = 0
blacks_down (suc turns) left pc s =
    pick (ltb 0 s && leb s (length pc)) (at pc s % 2 + blacks_down turns left pc (at left s)) 0

-- Under the root, which is black: each way is to have so many black nodes, itself included. More of them than half the
-- depth fit on no way.
unfoldable pub root_ends : (highest blacks : ℕ) → Arrays → (root : ℕ) → ℕ
root_ends highest n a root = pick (leb (2 * n) depth_limit) (black_ends (n - 1) a root 0 highest) 0

-- the missing children of the whole tree
unfoldable pub tree_ends : (highest : ℕ) → Lent → ℕ
tree_ends highest m =
    pick (eqb m.root 0) 1
    (pick (is_child black m.arrays.pc 0 m.root)
    (root_ends highest (blacks_down depth_limit m.arrays.left m.arrays.pc m.root) m.arrays m.root)
    0)

-- W2: the number of unlinked slots that have a child
unfoldable pub stray_count : (left right pc : List ℕ) → ℕ
stray_count [] rs ps = 0
stray_count (l ∷ ls) [] ps = 0
stray_count (l ∷ ls) (r ∷ rs) [] = 0
stray_count (l ∷ ls) (r ∷ rs) (p ∷ ps) = pick (tidy_slot l r p) 0 1 + stray_count ls rs ps

-- W1
unfoldable pub fits : Lent → Bool
fits m = both (lengths_fit m.arrays) λ _. leb m.root (capacity m.arrays)

-- W1 to W6, for keys that are no higher than `highest`
unfoldable pub quick_check : (highest : ℕ) → Lent → Bool
quick_check highest m =
    both (fits m) λ _.
    both (eqb (stray_count m.arrays.left m.arrays.right m.arrays.pc) 0) λ _.
    eqb (tree_ends highest m) (linked_count m.arrays.pc + 1)

-- The child number s of `above` leads to a tree that keeps the rules, with so many black nodes on each way, its keys
-- from low to high.
pub record Regular (a : Arrays) (above s low high n : ℕ) (t : Tree) : Type 0 where
  pub hangs : Hangs a above s t
  pub calm : Calm t
  pub even : Even t
  pub level : blacks t ≡ n
  pub rising : Rising (key_of a) low (slots t)
  pub last : last_key (key_of a) low (slots t) ≤ high
