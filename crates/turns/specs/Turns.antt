-- What adopt, replace_child, the rotations and replace_with require, and what the first two leave.
use Rattle.std.specs.Prelude.{ℕ, ◌≤◌, ◌<◌, List, ◌≡◌, length}
use Rattle.model.specs.Limits.{capacity_limit}
use Rattle.model.specs.Tree.{Side, lft, rgt}
use Rattle.model.specs.Lent.{at}
use Rattle.theory.specs.Slots.{adopt_at, Below, Parents}
use Rattle.theory.specs.Links.{Links}
use Rattle.theory.specs.Programs.{replace_child, rotate_in}
use Rattle.theory.specs.Sided.{sided}
use Rattle.theory.specs.Places.{Bounded}

-- adopt: the child may be 0
pub record AdoptPre (pc : List ℕ) (child parent : ℕ) : Type 0 where
  pub child_top : child ≤ length pc
  pub parent_top : parent ≤ length pc
  pub parents : Parents pc
  pub small : length pc ≤ capacity_limit

pub record Adopted (pc : List ℕ) (child parent : ℕ) (pc' : List ℕ) : Type 0 where
  pub is : pc' ≡ adopt_at pc child parent
  pub parents : Parents pc'
  pub same : length pc' ≡ length pc

-- replace_child: the parent may be 0
pub record ReplaceChildPre (near far : List ℕ) (root parent new : ℕ) : Type 0 where
  pub parent_top : parent ≤ length near
  pub new_top : new ≤ length near
  pub near_below : Below near
  pub far_below : Below far
  pub top : root ≤ length near
  pub same_far : length far ≡ length near

pub record ReplacedChild (near far : List ℕ) (root parent old new : ℕ) (near' far' : List ℕ) (root' : ℕ) : Type 0 where
  pub is : (d : Side) (pc : List ℕ)
      → sided d near' far' pc root' ≡ replace_child d (sided d near far pc root) parent old new
  pub near_below : Below near'
  pub far_below : Below far'
  pub top : root' ≤ length near'
  pub same_near : length near' ≡ length near
  pub same_far : length far' ≡ length far

-- a rotation: the slot x has a far child
pub record RotatePre (near far pc : List ℕ) (root x : ℕ) : Type 0 where
  pub bounded : Bounded near far pc root
  pub low : 0 < x
  pub high : x ≤ length near
  pub child : 0 < at far x

-- to the left with near as left, to the right with near as right
abbrev pub RotateToPre : Side → (near far pc : List ℕ) (root x : ℕ) → Type 0
RotateToPre lft near far pc root x = RotatePre near far pc root x
RotateToPre rgt near far pc root x = RotatePre far near pc root x

unfoldable pub rotate_at : (x : ℕ) → Side → Links → Links
rotate_at x d k = rotate_in d k x

-- replace_with
pub record ReplaceWithPre (left right pc : List ℕ) (root old new : ℕ) : Type 0 where
  pub bounded : Bounded left right pc root
  pub old_low : 0 < old
  pub old_high : old ≤ length left
  pub new_low : 0 < new
  pub new_high : new ≤ length left
