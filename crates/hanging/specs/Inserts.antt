-- hang, insert_below, insert_root and insert_at: what each requires, and what it leaves.
use Rattle.std.specs.Prelude.{ℕ, ◌≤◌, ◌<◌, List, ◌≡◌, length}
use Rattle.model.specs.Tree.{Side, lft, leaf, Frame, plug, above, side_of}
use Rattle.model.specs.Hanging.{hang}
use Rattle.theory.specs.Balance.{Balanced}
use Rattle.theory.specs.Sound.{count}
use Rattle.theory.specs.Links.{links, drawn}
use Rattle.theory.specs.Programs.{hang_in}
use Rattle.theory.specs.Sided.{sided}
use Rattle.theory.specs.Places.{Bounded, Drawn}
use Rattle.links.specs.declared.types.Links.{Links}
use Rattle.links.specs.Bundles.{LinksLeft}
use Rattle.links.specs.Reads.{SlotIn}

-- ---- hang

-- every number is a slot or 0, and the parent and x are slots
pub record HangPre (near far pc : List ℕ) (parent x : ℕ) : Type 0 where
  pub slot : SlotIn near far pc x
  pub low : 0 < parent
  pub high : parent ≤ length near

pub record HangPost (near far pc : List ℕ) (parent x : ℕ) (near' far' pc' : List ℕ) : Type 0 where
  pub is : (d : Side) (root : ℕ) → sided d near' far' pc' root ≡ hang_in d (sided d near far pc root) parent x
  pub same_near : length near' ≡ length near
  pub same_far : length far' ≡ length far
  pub same_pc : length pc' ≡ length pc

-- ---- the insertions

-- The arrays draw a balanced tree with an empty place below the parent, on the side d of it; 0 as the parent stands for
-- the place in an empty tree, whatever the side. The slot x is not in the tree.
pub record Vacant (left right pc : List ℕ) (root parent : ℕ) (d : Side) (x : ℕ) : Type 0 where
  pub size : ℕ
  pub way : List Frame
  pub over : above way ≡ parent
  pub side : 0 < parent → side_of way ≡ d
  pub held : Drawn lft left right pc root size (plug leaf way)
  pub balanced : Balanced (plug leaf way)
  pub fresh : count (plug leaf way) x ≡ 0
  pub low : 1 ≤ x
  pub high : x ≤ size

-- beside that, the parent is a slot
pub record VacantBelow (left right pc : List ℕ) (root parent : ℕ) (d : Side) (x : ℕ) : Type 0 where
  pub vacant : Vacant left right pc root parent d x
  pub some : 0 < parent

-- Whatever tree and place that is, the exit draws the tree that the model has with x hung there.
pub record Inserted (left right pc : List ℕ) (root parent : ℕ) (d : Side) (x : ℕ)
    (left' right' pc' : List ℕ) (root' : ℕ) : Type 0 where
  pub is : (v : Vacant left right pc root parent d x)
      → links left' right' pc' root' ≡ drawn v.size (hang x v.way)
  pub bounded : Bounded left' right' pc' root'
  pub same : length left' ≡ length left

-- the same of a bundle, from the entry to the exit
abbrev pub InsertedIn : Links → (parent : ℕ) → Side → (x : ℕ) → LinksLeft → Type 0
InsertedIn k parent d x e =
    Inserted k.0.now k.1.now k.2.now k.3.now parent d x e.0.now e.1.0.now e.1.1.0.now e.1.1.1.0.now
