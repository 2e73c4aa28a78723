-- What the tests of a call tell. A test reads pc alone, so its code is the model's on any arrays that have this pc.
use Rattle.std.specs.Prelude.{ℕ, ◌≤◌, Bool, List, ◌≡◌, length}
use Rattle.std.proofs.Math.Option.{some}
use Rattle.model.specs.Lent.{Arrays}
use Rattle.model.specs.Answers.{Code, position_test, slot_test, then_test}

-- test_position, and test_node where a node is needed
pub record PositionTested (needed : Bool) (pc : List ℕ) (position : ℕ) (code : Code) : Type 0 where
  pub is : (a : Arrays) → a.pc ≡ pc → code ≡ position_test needed (some position) a

-- test_new
pub record SlotTested (pc : List ℕ) (slot : ℕ) (code : Code) : Type 0 where
  pub is : (a : Arrays) → a.pc ≡ pc → code ≡ slot_test (some slot) a

-- two tests in a row: the one gave `first`, and where that is Done the new slot is tested.
pub record BothTested (pc : List ℕ) (first : Code) (slot : ℕ) (code : Code) : Type 0 where
  pub is : (a : Arrays) → a.pc ≡ pc → code ≡ then_test first (λ _. slot_test (some slot) a)

-- in_order requires that the slots beside the place, each of them or 0, have a key.
pub record Beside (key : List ℕ) (earlier later : ℕ) : Type 0 where
  pub earlier_top : earlier ≤ length key
  pub later_top : later ≤ length key
