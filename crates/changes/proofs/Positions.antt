-- The operations that place a key at a position: both of their refusals, and when none is given.
use Prim.Native.Nat.{ℕ, ◌≤◌, ◌<◌}
use mathlib.Core.Bool.{Bool, true, false}
use mathlib.Core.List.{Memᴰ}
use mathlib.Core.Logic.{◌⊎◌, inl, inr, ⊎_elim}
use mathlib.Core.Path.{◌≡◌, refl, sym, ◌∙◌}
use Rattle.model.specs.Branch.{choose}
use Rattle.model.specs.Tree.{slots}
use Rattle.model.specs.Lent.{Lent, capacity, key_of, tree_of}
use Rattle.model.specs.WellFormed.{WellFormed}
use Rattle.model.specs.Commands.{Command}
use Rattle.model.specs.Operations.{accept, operate}
use Rattle.model.specs.Answers.{Code, done, out_of_order, refused, placed_test, then_test, refusal}
use Rattle.theory.specs.Between.{both_test}
use Rattle.theory.proofs.Branch.{clash}
use Rattle.theory.proofs.Holds.{well_holds}
use Rattle.theory.proofs.Operate.{operate_refused, operate_accepted, both_done}
use Rattle.std.proofs.Common.{Err}
use Rattle.links.specs.declared.types.Refusal.{Refusal}
use Rattle.links.specs.Outcomes.{refusal_code, outcome_of}
use Rattle.links.proofs.Answers.{refuses}
use Rattle.refusals.specs.Tested.{PositionTested, SlotTested, BothTested}
use Rattle.refusals.proofs.Callers.{both_tested, both_passed, both_refused, answer_refused}
use Rattle.placing.specs.Positions.{Stands, Free}

module _ {m : Lent} (well : WellFormed m) {needed : Bool} {p s : ℕ}
    (position : PositionTested needed m.arrays.pc p done) (slot : SlotTested m.arrays.pc s done) where
  fitting : (((p ≡ 0) × (needed ≡ false)) ⊎ Memᴰ p (slots (tree_of m)))
      × (0 < s) × (s ≤ capacity m.arrays) × (¬ Memᴰ s (slots (tree_of m)))
  fitting = both_done (well_holds m well) needed p s (sym (both_tested position (both_passed refl slot) m.arrays refl))

  -- a position and a new slot that pass their tests
  pub position_stands : Stands m p
  position_stands = record { well = well; here = ⊎_elim (λ e. inl e.0) inr fitting.0 }

  pub position_node : needed ≡ true → Memᴰ p (slots (tree_of m))
  position_node e = ⊎_elim (λ n. clash (sym n.1 ∙ e)) (λ here. here) fitting.0

  pub position_free : Free m s
  position_free = record { low = fitting.1; high = fitting.2; absent = fitting.3 }

module _ (c : Command) (m : Lent) (s : ℕ) {needed : Bool} {p : ℕ}
    (tests : refusal c m ≡ then_test (both_test needed p s m.arrays) (λ _. placed_test c m)) where
  -- one of the two tests refuses
  refused_first : {first : Code} (why : Refusal) → PositionTested needed m.arrays.pc p first
      → BothTested m.arrays.pc first s (refusal_code why) → outcome_of (Err why) m ≡ operate c m
  unfolding then_test
  refused_first why position both =
      answer_refused c m why (rw (tests, ← both_tested position both m.arrays refl, refuses why))

  pub position_refused : (why : Refusal) → PositionTested needed m.arrays.pc p (refusal_code why)
      → outcome_of (Err why) m ≡ operate c m
  position_refused why position = refused_first why position (both_refused (refuses why))

  pub slot_refused : (why : Refusal) → PositionTested needed m.arrays.pc p done
      → SlotTested m.arrays.pc s (refusal_code why) → outcome_of (Err why) m ≡ operate c m
  slot_refused why position slot = refused_first why position (both_passed refl slot)

  -- both pass, and the order of the keys decides
  module _ (position : PositionTested needed m.arrays.pc p done) (slot : SlotTested m.arrays.pc s done) where
    passes : {order : Code} → placed_test c m ≡ order → refusal c m ≡ order
    unfolding then_test
    passes order = tests ∙ rw (← both_tested position (both_passed refl slot) m.arrays refl) order

    pub position_decided : WellFormed m → (fits : Bool)
        → placed_test c m ≡ choose fits (λ _. done) (λ _. out_of_order)
        → choose fits (λ _. accept c (key_of m.arrays) (tree_of m) m) (λ _. refused out_of_order m) ≡ operate c m
    position_decided well true order = sym (operate_accepted (well_holds m well) c (passes order))
    position_decided well false order = sym (operate_refused c m out_of_order (passes order) refl)
