-- What a caller makes of the tests: of one that has passed or refused, of two in a row, of the keys beside a place.
use Prim.Native.Nat.{ℕ}
use mathlib.Core.Bool.{Bool, false}
use mathlib.Core.List.{List}
use mathlib.Core.Path.{◌≡◌, refl, sym, ap}
use Rattle.std.proofs.Common.{Result, Ok, Err}
use Rattle.model.specs.Lent.{Arrays, Lent, at, key_of}
use Rattle.model.specs.Commands.{Command}
use Rattle.model.specs.Operations.{operate}
use Rattle.model.specs.Answers as model
use Rattle.model.specs.Answers.{done, is_done, then_test, refusal, refused}
use Rattle.theory.specs.Between.{both_test, between}
use Rattle.theory.proofs.Operate.{operate_refused}
use Rattle.links.specs.declared.types.Refusal.{Refusal}
use Rattle.links.specs.Outcomes.{refusal_code, verdict, outcome_of}
use Rattle.links.proofs.Answers.{refuses}
use Rattle.refusals.specs.Tested.{PositionTested, SlotTested, BothTested}

-- A test that answers Ok has passed.
pub passed : {A : Type 0} {a : A} (r : Result A Refusal) → r ≡ Ok a → verdict r ≡ done
passed r e = ap verdict e

-- One that answers Err has refused.
pub refuses_by : {A : Type 0} {why : Refusal} (r : Result A Refusal) → r ≡ Err why → verdict r ≡ refusal_code why
refuses_by r e = ap verdict e

-- Two tests in a row: the first refuses, or it passes and the second decides.
module _ {pc : List ℕ} {first : model.Code} {s : ℕ} where
  pub both_passed : {code : model.Code} → first ≡ done → SlotTested pc s code → BothTested pc first s code
  unfolding then_test
  both_passed e t = record { is = λ a same. rw e (t.is a same) }

  pub both_refused : is_done first ≡ false → BothTested pc first s first
  unfolding then_test
  both_refused e = record { is = λ a _. rw e }

pub both_tested : {needed : Bool} {pc : List ℕ} {p s : ℕ} {first code : model.Code}
    → PositionTested needed pc p first → BothTested pc first s code
    → (a : Arrays) → a.pc ≡ pc → code ≡ both_test needed p s a
unfolding both_test
both_tested t b a same = rw (← t.is a same) (b.is a same)

-- in_order speaks of the key array, the model of the key of a slot.
pub between_keys : (a : Arrays) (earlier k later : ℕ)
    → between (at a.key) earlier k later ≡ between (key_of a) earlier k later
unfolding key_of
between_keys a earlier k later = refl

-- A call that is refused: why, and every number as it was.
pub answer_refused : (c : Command) (m : Lent) (why : Refusal) → refusal_code why ≡ refusal c m
    → outcome_of (Err why) m ≡ operate c m
answer_refused c m why e = sym (operate_refused c m (refusal_code why) (sym e) (refuses why))
