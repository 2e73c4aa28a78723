-- What the reads of links require, and what they tell.
use Rattle.std.specs.Prelude.{ℕ, ◌≤◌, ◌<◌, Bool, false, not, Option, Some, None, List, ◌≡◌, eqb, length}
use Rattle.model.specs.Branch.{pick}
use Rattle.model.specs.Limits.{capacity_limit}
use Rattle.model.specs.Lent.{at}
use Rattle.theory.specs.Slots.{parent_at, color_at, Below, Parents}
use Rattle.links.specs.declared.types.Slot.{Slot}

-- s is a slot of the array.
pub record SlotOf (l : List ℕ) (s : ℕ) : Type 0 where
  pub pos : 0 < s
  pub top : s ≤ length l

-- s is a slot of all three arrays, which are equally long and small, and in which every number is a slot or 0.
pub record SlotIn (l r p : List ℕ) (s : ℕ) : Type 0 where
  pub left : Below l
  pub right : Below r
  pub pc : Parents p
  pub lr : length r ≡ length l
  pub lp : length p ≡ length l
  pub small : length l ≤ capacity_limit
  pub pos : 0 < s
  pub top : s ≤ length l

-- get: the child numbers are slots, and so is the one read.
pub record GetPre (l : List ℕ) (s : ℕ) : Type 0 where
  pub pos : 0 < s
  pub top : s ≤ length l
  pub below : Below l

pub record Got (l : List ℕ) (s r : ℕ) : Type 0 where
  pub is : r ≡ at l s
  pub top : r ≤ length l

-- parent
pub record ParentPre (p : List ℕ) (s : ℕ) : Type 0 where
  pub pos : 0 < s
  pub top : s ≤ length p
  pub parents : Parents p

pub record GotParent (p : List ℕ) (s r : ℕ) : Type 0 where
  pub is : r ≡ parent_at p s
  pub top : r ≤ length p

-- color
pub record GotColor (p : List ℕ) (s r : ℕ) : Type 0 where
  pub is : r ≡ color_at p s
  pub bit : r ≤ 1

-- is_red: there is a slot, and it is red.
unfoldable pub red_at : List ℕ → ℕ → Bool
red_at p s = pick (eqb s 0) false (eqb (color_at p s) 0)

pub record GotRed (p : List ℕ) (s : ℕ) (b : Bool) : Type 0 where
  pub is : b ≡ red_at p s

-- is_linked: the slot has a number other than 0 in pc.
unfoldable pub linked_at : List ℕ → ℕ → Bool
linked_at p s = not (eqb (at p s) 0)

pub record GotLinked (p : List ℕ) (s : ℕ) (b : Bool) : Type 0 where
  pub is : b ≡ linked_at p s

-- an answer of a search is the slot of this number, or none for 0
abbrev pub SlotOrNone : Option Slot → ℕ → Type 0
SlotOrNone None n = n ≡ 0
SlotOrNone (Some s) n = (0 < s.0) × (s.0 ≡ n)
