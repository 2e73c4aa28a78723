-- end_of, front and climb: what each requires, and what it finds.
use Rattle.std.specs.Prelude.{ℕ, zero, suc, ◌≤◌, ◌<◌, List, ◌≡◌, length, eqb}
use Rattle.model.specs.Branch.{pick}
use Rattle.model.specs.Tree.{Side, Color, Tree, Frame}
use Rattle.model.specs.Lent.{at}
use Rattle.theory.specs.Slots.{parent_at}
use Rattle.theory.specs.Places.{Drawn, Spot}

-- ---- the same over one child array

-- the end of the chain of links from a slot, after n steps at the most
unfoldable pub end_at : (n : ℕ) → (links : List ℕ) → (slot : ℕ) → ℕ
end_at zero links s = s
end_at (suc n) links s = pick (eqb (at links s) 0) s (end_at n links (at links s))

-- the end of the chain from the root; 0 where the tree is empty
unfoldable pub front_at : (links : List ℕ) → (root : ℕ) → ℕ
front_at links root = pick (eqb root 0) 0 (end_at (length links) links root)

-- the parent of the first slot, from this one up, that is a child by the links; or 0
unfoldable pub rise_at : (n : ℕ) → (links pc : List ℕ) → (slot : ℕ) → ℕ
rise_at zero links pc s = 0
rise_at (suc n) links pc s =
    let p = parent_at pc s in
    pick (eqb p 0) 0 (pick (eqb (at links p) s) p (rise_at n links pc p))

-- ---- end_of

-- the slot x stands in a tree, and the links are the children of one side
pub record EndPre (links : List ℕ) (x : ℕ) : Type 0 where
  pub side : Side
  pub other : List ℕ
  pub pc : List ℕ
  pub root : ℕ
  pub size : ℕ
  pub color : Color
  pub near : Tree
  pub far : Tree
  pub way : List Frame
  pub spot : Spot side links other pc root size side color near x far way

pub record EndPost (links : List ℕ) (x found : ℕ) : Type 0 where
  pub is : found ≡ end_at (length links) links x
  pub pos : 0 < found
  pub top : found ≤ length links

-- ---- front

-- the links are the children of one side of a tree
pub record FrontPre (links : List ℕ) (root : ℕ) : Type 0 where
  pub side : Side
  pub other : List ℕ
  pub pc : List ℕ
  pub size : ℕ
  pub tree : Tree
  pub held : Drawn side links other pc root size tree

pub record FrontPost (links : List ℕ) (root found : ℕ) : Type 0 where
  pub is : found ≡ front_at links root
  pub top : found ≤ length links

-- ---- climb

-- the slot x stands in a tree, and the links are the children of one side
pub record ClimbPre (links pc : List ℕ) (x : ℕ) : Type 0 where
  pub side : Side
  pub other : List ℕ
  pub root : ℕ
  pub size : ℕ
  pub hand : Side
  pub color : Color
  pub near : Tree
  pub far : Tree
  pub way : List Frame
  pub spot : Spot side links other pc root size hand color near x far way

pub record ClimbPost (links pc : List ℕ) (x found : ℕ) : Type 0 where
  pub is : found ≡ rise_at (length pc) links pc x
  pub top : found ≤ length pc
