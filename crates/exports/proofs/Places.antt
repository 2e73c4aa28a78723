-- Entries and their numbers.
use mathlib.Core.Path.{◌≡◌, refl}
use lib.Dec.{eqb}
use borrow.Author.Tests.{eq-eqb, ne_eqb}
use Rattle.model.specs.Branch.{choose}
use Rattle.model.specs.Tree.{lft, rgt}
use Rattle.model.specs.Descent.{Entry, occupied, vacant}
use Rattle.model.specs.Operations.{Entered}
use Rattle.exports.specs.declared.types.Place.{Place}
use Rattle.exports.specs.Places.{occupied_number, slot_number, left_number, PlaceTold, entry_in}

pub reads_occupied : (r : Place) → (r.occupied ≡ 0 → ⊥) → occupied r.slot ≡ entry_in r
unfolding entry_in
reads_occupied r n = rw (ne_eqb _ _ n)

pub reads_left : (r : Place) → r.occupied ≡ 0 → (r.on_left ≡ 0 → ⊥) → vacant r.slot lft ≡ entry_in r
unfolding entry_in
reads_left r e n = rw (eq-eqb _ _ e, ne_eqb _ _ n)

pub reads_right : (r : Place) → r.occupied ≡ 0 → r.on_left ≡ 0 → vacant r.slot rgt ≡ entry_in r
unfolding entry_in
reads_right r e f = rw (eq-eqb _ _ e, eq-eqb _ _ f)

-- Handed back as it was told, an entry is read as the one it was.
pub entry_back : (e : Entered) (r : Place) → PlaceTold r e → entry_in r ≡ e.entry
unfolding entry_in
entry_back e r told = rw (told.occupied, told.slot, told.left) (back e.entry)
  where
    back :
        (x : Entry) → choose (eqb (occupied_number x) 0)
        (λ _. vacant (slot_number x) (choose (eqb (left_number x) 0) (λ _. rgt) (λ _. lft)))
        (λ _. occupied (slot_number x)) ≡ x
    back (occupied s) = refl
    back (vacant p lft) = refl
    back (vacant p rgt) = refl
