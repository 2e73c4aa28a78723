-- next and prev, as one move towards a side: on well-formed arrays the slot that is found is the model's answer.
use Prim.Native.Nat.{ℕ}
use mathlib.Core.Bool.{false}
use mathlib.Core.Logic.{inl, inr, ⊎_elim}
use mathlib.Core.Option.{some}
use mathlib.Core.Path.{◌≡◌, refl, sym, ◌∙◌}
use Rattle.std.proofs.Common.{Err}
use Rattle.model.specs.Tree.{Side, lft, rgt, Tree, slots}
use Rattle.model.specs.Lent.{Lent, capacity, tree_of}
use Rattle.model.specs.WellFormed.{WellFormed}
use Rattle.model.specs.Order.{next_in, prev_in}
use Rattle.model.specs.Answers.{done, position_test, refusal, outcome}
use Rattle.model.specs.Operations.{accept, operate}
use Rattle.theory.specs.Lists.{facing}
use Rattle.theory.proofs.Tests.{position_done}
use Rattle.theory.proofs.Holds.{well_holds}
use Rattle.theory.proofs.HoldsDrawn.{holds_drawn}
use Rattle.theory.proofs.HoldsReads.{linked_in}
use Rattle.theory.proofs.Operate.{operate_accepted, tests_next, tests_prev}
use Rattle.links.specs.declared.types.Refusal.{Refusal}
use Rattle.links.specs.Outcomes.{refusal_code, outcome_of}
use Rattle.refusals.specs.Tested.{PositionTested}
use Rattle.refusals.proofs.Callers.{answer_refused}
use Rattle.walks.specs.Steps.{Position, Adjoined}
use Rattle.queries.specs.Queries.{step_command}

-- ---- the move in the model: its position is tested, and it goes on in the order of its side

tests_step : (d : Side) (m : Lent) (p : ℕ) → refusal (step_command d p) m ≡ position_test false (some p) m.arrays
tests_step lft m p = tests_prev m p
tests_step rgt m p = tests_next m p

accept_step : (d : Side) (key : ℕ → ℕ) (t : Tree) (m : Lent) (p : ℕ)
    → accept (step_command d p) key t m ≡ outcome done 0 (next_in p (facing d (slots t))) m
unfolding accept prev_in
accept_step lft key t m p = refl
accept_step rgt key t m p = refl

-- ---- neighbour

-- it is refused
pub step_refused : (d : Side) {m : Lent} {p : ℕ} (why : Refusal) → PositionTested false m.arrays.pc p (refusal_code why)
    → outcome_of (Err why) m ≡ operate (step_command d p) m
step_refused d {m} {p} why test =
    answer_refused (step_command d p) m why (test.is m.arrays refl ∙ sym (tests_step d m p))

module _ {m : Lent} {p : ℕ} (well : WellFormed m) (test : PositionTested false m.arrays.pc p done) where
  abbrev tested : done ≡ position_test false (some p) m.arrays
  tested = test.is m.arrays refl

  -- what its call asks for
  unfoldable pub step_position : Position lft m.arrays.left m.arrays.right m.arrays.pc m.root p
  step_position = record {
    size = capacity m.arrays;
    tree = tree_of m;
    held = holds_drawn (well_holds m well);
    stands =
        ⊎_elim (λ none. inl none.0) (λ here. inr (linked_in (well_holds m well) p here))
        (position_done false (some p) m.arrays (sym tested) p refl);
  }

  step_found : (d : Side) {found : ℕ} → Adjoined d m.arrays.left m.arrays.right m.arrays.pc m.root p found
      → found ≡ next_in p (facing d (slots (tree_of m)))
  unfolding step_position prev_in
  step_found lft adjoined = adjoined.is step_position
  step_found rgt adjoined = adjoined.is step_position

  -- it is done
  pub step_done : (d : Side) {found : ℕ} → Adjoined d m.arrays.left m.arrays.right m.arrays.pc m.root p found
      → outcome done 0 found m ≡ operate (step_command d p) m
  step_done d adjoined = rw (
    operate_accepted (well_holds m well) (step_command d p) (tests_step d m p ∙ sym tested),
    accept_step,
    step_found d adjoined,
  ) refl
