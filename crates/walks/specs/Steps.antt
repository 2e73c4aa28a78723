-- step, walk and neighbour: what each requires, and what it finds.
use Rattle.std.specs.Prelude.{ℕ, ◌≤◌, ◌⊎◌, ◌≡◌, length}
use mathlib.Core.List.{List, Memᴰ}
use Rattle.model.specs.Tree.{Side, lft, rgt, Color, Tree, slots, Frame}
use Rattle.model.specs.Order.{next_in, prev_in}
use Rattle.theory.specs.Programs.{step_to, walk_to}
use Rattle.theory.specs.Sided.{sided}
use Rattle.theory.specs.Places.{Drawn, Spot}
use Rattle.links.specs.declared.types.View.{View}

-- a demand on the links of a view, or a promise about them
abbrev pub Linked : {A : Type 1} → (List ℕ → List ℕ → List ℕ → ℕ → A) → View → A
Linked f v = f v.left.now v.right.now v.pc.now v.root.0

-- ---- step: the slot x stands in a tree, and near is the child array of one side

pub record StepPre (near far pc : List ℕ) (x : ℕ) : Type 0 where
  pub side : Side
  pub root : ℕ
  pub size : ℕ
  pub color : Color
  pub near_tree : Tree
  pub far_tree : Tree
  pub way : List Frame
  pub spot : Spot side near far pc root size side color near_tree x far_tree way

pub record StepPost (near far pc : List ℕ) (x found : ℕ) : Type 0 where
  pub is : (d : Side) (root : ℕ) → found ≡ step_to d (length near) (sided d near far pc root) x
  pub top : found ≤ length near

-- ---- walk and neighbour

-- the arrays draw a tree, near is the child array of the side d, and p is a slot of the tree or 0
pub record Position (d : Side) (near far pc : List ℕ) (root p : ℕ) : Type 0 where
  pub size : ℕ
  pub tree : Tree
  pub held : Drawn d near far pc root size tree
  pub stands : (p ≡ 0) ⊎ Memᴰ p (slots tree)

-- it is one on either side
pub record WalkPre (near far pc : List ℕ) (root p : ℕ) : Type 0 where
  pub side : Side
  pub position : Position side near far pc root p

pub record Walked (near far pc : List ℕ) (root p found : ℕ) : Type 0 where
  pub is : (d : Side) → found ≡ walk_to d (length near) (sided d near far pc root) p
  pub top : found ≤ length near

-- whatever tree that is, the slot found is the one after the position, or before it

pub record Followed (left right pc : List ℕ) (root p found : ℕ) : Type 0 where
  pub is : (v : Position lft left right pc root p) → found ≡ next_in p (slots v.tree)
  pub top : found ≤ length left

pub record Preceded (left right pc : List ℕ) (root p found : ℕ) : Type 0 where
  pub is : (v : Position lft left right pc root p) → found ≡ prev_in p (slots v.tree)
  pub top : found ≤ length left

-- on the left the one before, on the right the one after
abbrev pub Adjoined : Side → (left right pc : List ℕ) → (root p found : ℕ) → Type 0
Adjoined lft left right pc root p found = Preceded left right pc root p found
Adjoined rgt left right pc root p found = Followed left right pc root p found
