-- Trees seen from a side: a node has a near and a far child.
use Prim.Native.Nat.{ℕ}
use mathlib.Core.Path.{◌≡◌, refl, sym}
use mathlib.Core.Bool.{true, true≢false}
use Rattle.model.specs.Tree.{Side, lft, rgt, Color, red, black, Tree, leaf, node, opp, nod, child_tree, is_red}

pub opp_opp : (d : Side) → opp (opp d) ≡ d
opp_opp lft = refl
opp_opp rgt = refl

-- the same node, seen from the other side
pub nod_opp : (d : Side) (c : Color) (near : Tree) (x : ℕ) (far : Tree) → nod (opp d) c far x near ≡ nod d c near x far
nod_opp lft c near x far = refl
nod_opp rgt c near x far = refl

-- a tree is a leaf or has a child near the side and one far from it
pub by_side {ℓ} : (d : Side) (P : Tree → Type ℓ) → P leaf
    → ((c : Color) (near : Tree) (x : ℕ) (far : Tree) → P (nod d c near x far)) → (t : Tree) → P t
by_side d P none some leaf = none
by_side lft P none some (node c l x r) = some c l x r
by_side rgt P none some (node c l x r) = some c r x l

-- a red tree has a red node on top
pub red_side : (d : Side) (t : Tree) → is_red t ≡ true
    → (near : Tree) × (x : ℕ) × (far : Tree) × (t ≡ nod d red near x far)
red_side d leaf is = absurd (true≢false (sym is))
red_side d (node black l x r) is = absurd (true≢false (sym is))
red_side lft (node red l x r) is = (l, x, r, refl)
red_side rgt (node red l x r) is = (r, x, l, refl)

-- the children of a node, by side
pub child_near : (d : Side) (c : Color) (near : Tree) (x : ℕ) (far : Tree) → child_tree d (nod d c near x far) ≡ near
child_near lft c near x far = refl
child_near rgt c near x far = refl

pub child_far : (d : Side) (c : Color) (near : Tree) (x : ℕ) (far : Tree)
    → child_tree (opp d) (nod d c near x far) ≡ far
child_far lft c near x far = refl
child_far rgt c near x far = refl
