-- sibling, has_red_child and pass: what each requires, and what it tells.
use Rattle.std.specs.Prelude.{ℕ, ◌≤◌, ◌<◌, Bool, ◌||◌, Option, List, ◌≡◌, length}
use Rattle.model.specs.Branch.{pick}
use Rattle.model.specs.Tree.{lft, rgt}
use Rattle.theory.specs.Slots.{parent_at}
use Rattle.theory.specs.Links.{Links, links, child_in, parent_in, red_in}
use Rattle.theory.specs.Programs.{sibling_in}
use Rattle.links.specs.declared.types.Slot.{Slot}
use Rattle.links.specs.Reads.{SlotIn, SlotOrNone}

-- ---- sibling

pub record Sibling (left right pc : List ℕ) (s : ℕ) (found : Option Slot) : Type 0 where
  pub is : (root : ℕ) → SlotOrNone found (sibling_in (links left right pc root) s)
  pub top : (root : ℕ) → sibling_in (links left right pc root) s ≤ length left

-- ---- has_red_child

unfoldable pub red_below : Links → (s : ℕ) → Bool
red_below k s = red_in k (child_in lft k s) || red_in k (child_in rgt k s)

pub record RedChild (left right pc : List ℕ) (s : ℕ) (red : Bool) : Type 0 where
  pub is : (root : ℕ) → red ≡ red_below (links left right pc root) s

-- ---- pass

-- the sibling of s's parent, where s, its children and its parent are black; or 0
unfoldable pub pass_in : Links → (s : ℕ) → ℕ
pass_in k s =
    let p = parent_in k s in
    pick (red_in k s) 0 (pick (red_below k s) 0 (pick (red_in k p) 0 (sibling_in k p)))

pub record PassPre (left right pc : List ℕ) (s : ℕ) : Type 0 where
  pub slot : SlotIn left right pc s
  pub parent : 0 < parent_at pc s

pub record Passed (left right pc : List ℕ) (s : ℕ) (next : Option Slot) : Type 0 where
  pub is : (root : ℕ) → SlotOrNone next (pass_in (links left right pc root) s)
  pub top : (root : ℕ) → pass_in (links left right pc root) s ≤ length left
