-- What proofs of code carry: that the numbers are in bounds, that the links are a drawing, and a place in its tree.
use Rattle.std.specs.Prelude.{ℕ, ◌≤◌, List, [], ◌∷◌, ◌≡◌, length}
use Rattle.model.specs.Limits.{capacity_limit}
use Rattle.model.specs.Tree.{Side, Color, red, black, Tree, leaf, node, on, nod, top_of, Frame, frame, plug}
use Rattle.theory.specs.Slots.{Below, Parents}
use Rattle.theory.specs.Links.{Links, links, drawn}
use Rattle.theory.specs.Sided.{sided}
use Rattle.theory.specs.Sound.{Sound}

-- ---- bounds, drawings, places

-- every number is a slot or 0, and the arrays are equally long and small
pub record Bounded (near far pc : List ℕ) (root : ℕ) : Type 0 where
  pub near_below : Below near
  pub far_below : Below far
  pub parents : Parents pc
  pub top : root ≤ length near
  pub same_far : length far ≡ length near
  pub same_pc : length pc ≡ length near
  pub small : length near ≤ capacity_limit

-- near and far, on the side d, are the drawing of a tree that fits into C slots
pub record Drawn (d : Side) (near far pc : List ℕ) (root C : ℕ) (t : Tree) : Type 0 where
  pub is : sided d near far pc root ≡ drawn C t
  pub sound : Sound C t
  pub small : C ≤ capacity_limit

-- x stands in that tree at the end of the way w, with the child a on the side e and b on the other
pub record Spot (d : Side) (near far pc : List ℕ) (root C : ℕ) (e : Side) (c : Color) (a : Tree) (x : ℕ) (b : Tree)
    (w : List Frame) : Type 0 where
  pub held : Drawn d near far pc root C (plug (nod e c a x b) w)

-- the slot of a place's sibling, or 0
abbrev pub sibling_of : List Frame → ℕ
sibling_of [] = 0
sibling_of (frame d c p s ∷ w) = top_of s

abbrev pub BlackNode : Tree → Type 0
BlackNode leaf = ⊥
BlackNode (node red l x r) = ⊥
BlackNode (node black l x r) = Unit {0}

-- a sibling as the rules of removal ask for, of a place on the side d: a black node, or a red one whose near child is
-- a black node
abbrev pub Firm : Side → Tree → Type 0
Firm d leaf = ⊥
Firm d (node black l s r) = Unit {0}
Firm d (node red l s r) = BlackNode (on d l r)

-- all of them, from a place up to the root
abbrev pub Solid : List Frame → Type 0
Solid [] = Unit {0}
Solid (frame d c q s ∷ w) = Firm d s × Solid w

-- ---- promises

-- what a mutator promises: the links at exit are these, in bounds, and as long
pub record Made (k : Links) (size : ℕ) (left right pc : List ℕ) (root : ℕ) : Type 0 where
  pub is : links left right pc root ≡ k
  pub bounded : Bounded left right pc root
  pub same : length left ≡ size

-- what a mutator of (near, far) promises: on either side they are what `op` makes of those at entry
pub record Mirrored (op : Side → Links → Links) (near far pc : List ℕ) (root : ℕ) (near' far' pc' : List ℕ) (root' : ℕ)
    : Type 0 where
  pub is : (d : Side) → sided d near' far' pc' root' ≡ op d (sided d near far pc root)
  pub bounded : Bounded near' far' pc' root'
  pub same : length near' ≡ length near
