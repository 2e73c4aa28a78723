-- What the operations share: a call that is done, and the test of a new slot by itself.
use Prim.Native.Nat.{ℕ}
use mathlib.Core.Option.{some}
use mathlib.Core.Path.{◌≡◌, refl, sym, ◌∙◌}
use Rattle.model.specs.Lent.{Lent, key_of, tree_of}
use Rattle.model.specs.WellFormed.{WellFormed}
use Rattle.model.specs.Commands.{Command}
use Rattle.model.specs.Answers.{Outcome, done, slot_test, refusal}
use Rattle.model.specs.Operations.{accept, operate}
use Rattle.theory.proofs.Tests.{slot_done}
use Rattle.theory.proofs.Holds.{well_holds}
use Rattle.theory.proofs.HoldsReads.{in_linked}
use Rattle.theory.proofs.Operate.{operate_accepted}
use Rattle.std.proofs.Common.{Err}
use Rattle.links.specs.declared.types.Refusal.{Refusal}
use Rattle.links.specs.Outcomes.{refusal_code, outcome_of}
use Rattle.refusals.specs.Tested.{SlotTested}
use Rattle.refusals.proofs.Callers.{answer_refused}
use Rattle.placing.specs.Positions.{Free}

-- a call that no test refuses does what the model does
pub answer_done : {m : Lent} → WellFormed m → (c : Command) {o : Outcome} → refusal c m ≡ done
    → o ≡ accept c (key_of m.arrays) (tree_of m) m → o ≡ operate c m
answer_done {m} well c passed e = e ∙ sym (operate_accepted (well_holds m well) c passed)

-- insert and or_insert test the new slot alone
pub new_refused : (c : Command) (m : Lent) {s : ℕ} (why : Refusal) → refusal c m ≡ slot_test (some s) m.arrays
    → SlotTested m.arrays.pc s (refusal_code why) → outcome_of (Err why) m ≡ operate c m
new_refused c m why tests test = answer_refused c m why (test.is m.arrays refl ∙ sym tests)

-- a new slot that passes its test is free
pub new_free : {m : Lent} {s : ℕ} → WellFormed m → SlotTested m.arrays.pc s done → Free m s
new_free {m} {s} well test =
    let fits = slot_done (some s) m.arrays (sym (test.is m.arrays refl)) s refl in
    record {
      low = fits.0;
      high = fits.1;
      absent = λ here. fits.2 (in_linked (well_holds m well) s here);
    }
