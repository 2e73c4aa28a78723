-- fill: what its call asks for, and its promise.
use Prim.Native.Nat.{ℕ}
use mathlib.Core.Logic.{⊎_elim}
use mathlib.Core.Path.{◌≡◌, ◌∙◌}
use native.Mathlib.Omega.{arith}
use Rattle.model.specs.Lent.{Lent, key_of, tree_of}
use Rattle.model.specs.Descent.{find_landing, entry_for}
use Rattle.model.specs.Commands.{or_insert}
use Rattle.model.specs.Answers.{outcome, done}
use Rattle.model.specs.Operations.{hang_at, enter, accept, accepted}
use Rattle.theory.specs.Descents.{Unmet}
use Rattle.theory.proofs.Holds.{well_holds}
use Rattle.theory.proofs.Bounds.{insert_plug}
use Rattle.theory.proofs.Finds.{entry_cases}
use Rattle.descent.specs.declared.types.Cursor.{Cursor}
use Rattle.descent.specs.declared.types.InsertCursor.{InsertCursor}
use Rattle.descent.specs.declared.types.Entry.{Entry}
use Rattle.descent.specs.declared.types.Entry.TheVariants.{Occupied, Vacant}
use Rattle.descent.specs.Entries.{place_told, entry_told}
use Rattle.placing.specs.Places.{HangPre, HungAt, FillPre}
use Rattle.placing.proofs.Hanging.{told_at}

-- where the entry is occupied, its slot is answered
pub filled_occupied : {m : Lent} {entry : Entry} {held : Cursor} {n s k : ℕ} → entry ≡ Occupied held
    → FillPre m (entry_told entry) n s k → outcome done n held.slot.0 m ≡ accepted (or_insert s k) m
unfolding accepted accept enter
filled_occupied told v = rw (← v.entry_is, told, v.probes_is)

-- where it is vacant, the slot is hung there
module _ {m : Lent} {entry : Entry} {place : InsertCursor} {n s k : ℕ} (told : entry ≡ Vacant place)
    (v : FillPre m (entry_told entry) n s k) where
  found : place_told place ≡ entry_for (key_of m.arrays) k (tree_of m)
  found = rw told at v.entry_is

  -- no slot has the key
  unmet : Unmet (key_of m.arrays) k (tree_of m)
  unmet =
      ⊎_elim (λ held. let z : ◌≡◌ {A = ℕ} 0 1 = cc (held.1.entry, found) in absurd (omega arith)) (λ u. u)
      (entry_cases (key_of m.arrays) k (tree_of m) (well_holds m v.well).rising)

  pub fill_hang : HangPre m place s
  fill_hang =
      record {
        well = v.well;
        way = (find_landing (key_of m.arrays) k (tree_of m)).way;
        whole = rw unmet.same (insert_plug (key_of m.arrays) k (tree_of m));
        there = told_at (rw unmet.same (found ∙ unmet.entry));
        free = v.free;
      }

  pub filled_vacant : {m' : Lent} → HungAt m place s k m' → outcome done n s m' ≡ accepted (or_insert s k) m
  unfolding accepted accept enter hang_at fill_hang
  filled_vacant hung = rw (← found, v.probes_is, hung.is fill_hang)
