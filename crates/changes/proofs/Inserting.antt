-- insert: what its call of hang_at asks for, and the promise.
use Prim.Native.Nat.{ℕ}
use mathlib.Core.Path.{◌≡◌, refl, sym, ◌∙◌}
use Rattle.model.specs.Lent.{Lent, key_of, tree_of}
use Rattle.model.specs.WellFormed.{WellFormed}
use Rattle.model.specs.Descent.{insert_landing}
use Rattle.model.specs.Commands.{insert}
use Rattle.model.specs.Answers.{outcome, done}
use Rattle.model.specs.Operations.{hang_at, accept, operate}
use Rattle.theory.proofs.Holds.{well_holds}
use Rattle.theory.proofs.Bounds.{insert_plug}
use Rattle.theory.proofs.Operate.{tests_insert}
use Rattle.descent.specs.declared.types.Path.{Path}
use Rattle.descent.specs.declared.types.InsertCursor.{InsertCursor}
use Rattle.descent.specs.Searches.{FoundPath, FoundPlace}
use Rattle.descent.proofs.Trees.{insert_probes, insert_holds}
use Rattle.std.proofs.Common.{Err}
use lib.Dec.{ltb}
use Rattle.links.specs.declared.types.Refusal.{Refusal}
use Rattle.links.specs.Outcomes.{refusal_code, outcome_of}
use Rattle.refusals.specs.Tested.{SlotTested}
use Rattle.placing.specs.Places.{HangPre, HungAt}
use Rattle.placing.proofs.Hanging.{told_at}
use Rattle.changes.proofs.Calls.{answer_done, new_refused, new_free}

-- the slot is refused
pub insert_refused : {m : Lent} {s : ℕ} (k : ℕ) (why : Refusal) → SlotTested m.arrays.pc s (refusal_code why)
    → outcome_of (Err why) m ≡ operate (insert s k) m
insert_refused {m} {s} k why test = new_refused (insert s k) m why (tests_insert m s k) test

module _ {m : Lent} {s : ℕ} (well : WellFormed m) (test : SlotTested m.arrays.pc s done) {k : ℕ} {p : Path}
    (path : FoundPath m.arrays.left m.arrays.right m.arrays.key m.root (ltb k) p)
    {place : InsertCursor} (found : FoundPlace m.arrays.key p.last.0 k place) where
  -- what the call of hang_at asks for
  pub insert_hang : HangPre m place s
  insert_hang =
      record {
        well = well;
        way = (insert_landing (key_of m.arrays) k (tree_of m)).way;
        whole = insert_plug (key_of m.arrays) k (tree_of m);
        there = told_at (insert_holds (well_holds m well) k path found);
        free = new_free well test;
      }

  -- done
  pub inserted : {m' : Lent} → HungAt m place s k m' → outcome done p.probes s m' ≡ operate (insert s k) m
  unfolding accept hang_at insert_hang
  inserted hung =
      answer_done well (insert s k) (tests_insert m s k ∙ sym (test.is m.arrays refl))
      (rw (hung.is insert_hang, insert_probes (well_holds m well) k path))
