-- or_insert and or_insert_at: what their calls of fill ask for, and the promises.
use Prim.Native.Nat.{ℕ}
use mathlib.Core.Bool.{Bool, true, false}
use mathlib.Core.Path.{◌≡◌, refl, sym, ◌∙◌}
use Rattle.model.specs.Lent.{Lent, key_of, tree_of}
use Rattle.model.specs.WellFormed.{WellFormed}
use Rattle.model.specs.Descent.{entry_for}
use Rattle.model.specs.Commands.{or_insert}
use Rattle.model.specs.Answers.{Outcome, refused, done, stale, same_entry, stale_test}
use Rattle.model.specs.Answers.{then_test, entry_refusal, unless_refused}
use Rattle.model.specs.Operations.{accepted, operate}
use Rattle.theory.proofs.Holds.{well_holds}
use Rattle.theory.proofs.Finds.{same_entry_same}
use Rattle.theory.proofs.Operate.{tests_or_insert}
use Rattle.descent.specs.declared.types.Entry.{Entry}
use Rattle.descent.specs.declared.types.Sought.{Sought}
use Rattle.descent.specs.Entries.{entry_told}
use Rattle.descent.specs.Searches.{FoundEntry}
use Rattle.descent.proofs.Trees.{entry_holds, entry_probes}
use Rattle.std.proofs.Common.{Err}
use Rattle.links.specs.declared.types.Refusal.{Refusal}
use Rattle.links.specs.Outcomes.{refusal_code, outcome_of}
use Rattle.links.proofs.Answers.{refuses}
use Rattle.refusals.specs.Tested.{SlotTested}
use Rattle.placing.specs.Places.{FillPre}
use Rattle.changes.proofs.Calls.{answer_done, new_refused, new_free}

-- ---- or_insert

-- the slot is refused
pub or_insert_refused : {m : Lent} {s : ℕ} (k : ℕ) (why : Refusal) → SlotTested m.arrays.pc s (refusal_code why)
    → outcome_of (Err why) m ≡ operate (or_insert s k) m
or_insert_refused {m} {s} k why test = new_refused (or_insert s k) m why (tests_or_insert m s k) test

module _ {m : Lent} {s : ℕ} (well : WellFormed m) (test : SlotTested m.arrays.pc s done) where
  -- what the call of fill asks for
  pub or_insert_fill : {k : ℕ} {sought : Sought}
      → FoundEntry m.arrays.left m.arrays.right m.arrays.key m.root k sought
      → FillPre m (entry_told sought.entry) sought.probes s k
  or_insert_fill f =
      record {
        well = well;
        free = new_free well test;
        entry_is = entry_holds (well_holds m well) f;
        probes_is = entry_probes (well_holds m well) f;
      }

  -- done
  pub or_inserted : (k : ℕ) {o : Outcome} → o ≡ accepted (or_insert s k) m → o ≡ operate (or_insert s k) m
  unfolding accepted
  or_inserted k e = answer_done well (or_insert s k) (tests_or_insert m s k ∙ sym (test.is m.arrays refl)) e

-- ---- or_insert_at

-- the new slot is refused
pub at_refused : {m : Lent} {s : ℕ} (entry : Entry) (k : ℕ) (why : Refusal)
    → SlotTested m.arrays.pc s (refusal_code why)
    → outcome_of (Err why) m
    ≡ unless_refused (entry_refusal (entry_told entry) s k m) m (λ _. accepted (or_insert s k) m)
unfolding entry_refusal then_test unless_refused
at_refused {m} entry k why test = rw (← test.is m.arrays refl, refuses why, refuses why)

module _ {m : Lent} {s : ℕ} (well : WellFormed m) (test : SlotTested m.arrays.pc s done) (entry : Entry) {k : ℕ}
    {sought : Sought} (f : FoundEntry m.arrays.left m.arrays.right m.arrays.key m.root k sought) where
  now : {same : Bool} → same_entry (entry_told entry) (entry_told sought.entry) ≡ same
      → same_entry (entry_told entry) (entry_for (key_of m.arrays) k (tree_of m)) ≡ same
  now is = rw (← entry_holds (well_holds m well) f) is

  -- the entry no longer holds
  pub at_stale : same_entry (entry_told entry) (entry_told sought.entry) ≡ false
      → refused stale m
      ≡ unless_refused (entry_refusal (entry_told entry) s k m) m (λ _. accepted (or_insert s k) m)
  unfolding entry_refusal then_test stale_test unless_refused
  at_stale apart = rw (← test.is m.arrays refl, now apart)

  -- it holds: what the call of fill asks for, and done
  module _ (same : same_entry (entry_told entry) (entry_told sought.entry) ≡ true) where
    pub at_fill : FillPre m (entry_told entry) sought.probes s k
    at_fill =
        let v = or_insert_fill well test f in
        record {
          well = well;
          free = v.free;
          entry_is = same_entry_same (entry_told entry) (entry_for (key_of m.arrays) k (tree_of m)) (now same);
          probes_is = v.probes_is;
        }

    pub at_inserted : {o : Outcome} → o ≡ accepted (or_insert s k) m
        → o ≡ unless_refused (entry_refusal (entry_told entry) s k m) m (λ _. accepted (or_insert s k) m)
    unfolding entry_refusal then_test stale_test unless_refused
    at_inserted e = rw (← test.is m.arrays refl, now same) e
