-- The numbers of an entry: what each case is told as, and what any numbers are read as.
use Rattle.std.specs.Prelude.{ℕ, ◌≡◌, eqb}
use Rattle.model.specs.Branch.{choose}
use Rattle.model.specs.Tree.{lft, rgt}
use Rattle.model.specs.Answers.{code_number}
use Rattle.model.specs.Descent.{Entry, occupied, vacant}
use Rattle.model.specs.Operations.{Entered}
use Rattle.exports.specs.declared.types.Place.{Place}

-- 1 for a slot that holds the key, 0 for an empty place
abbrev pub occupied_number : Entry → ℕ
occupied_number (occupied x) = 1
occupied_number (vacant p d) = 0

-- that slot, or the parent of the place
abbrev pub slot_number : Entry → ℕ
slot_number (occupied x) = x
slot_number (vacant p d) = p

-- 1 for a place on the left side of its parent, else 0
abbrev pub left_number : Entry → ℕ
left_number (occupied x) = 0
left_number (vacant p lft) = 1
left_number (vacant p rgt) = 0

-- r has the numbers of an entry and its code.
pub record PlaceTold (r : Place) (e : Entered) : Type 0 where
  pub code : r.code ≡ code_number e.code
  pub occupied : r.occupied ≡ occupied_number e.entry
  pub slot : r.slot ≡ slot_number e.entry
  pub left : r.on_left ≡ left_number e.entry

-- The entry that numbers say: any number but 0 counts as a yes, and the code is not looked at.
unfoldable pub entry_in : Place → Entry
entry_in r =
    choose (eqb r.occupied 0)
    (λ _. vacant r.slot (choose (eqb r.on_left 0) (λ _. rgt) (λ _. lft)))
    (λ _. occupied r.slot)
