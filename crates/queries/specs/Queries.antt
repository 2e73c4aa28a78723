-- What the test of a bound's kind tells, the two bounds as one command of a side, and next and prev as another.
use Rattle.std.specs.Prelude.{ℕ, ◌≡◌, Result, IfOk}
use Rattle.std.proofs.Math.Option.{some}
use Rattle.std.specs.declared.ops.Bound.{Bound}
use Rattle.model.specs.Tree.{Side, lft, rgt}
use Rattle.model.specs.Commands.{Command, lower_bound, upper_bound, next, prev}
use Rattle.model.specs.Answers.{kind_test}
use Rattle.links.specs.declared.types.Key.{Key}
use Rattle.links.specs.declared.types.Refusal.{Refusal}
use Rattle.links.specs.Outcomes.{verdict}
use Rattle.descent.specs.Bounds as bounds

-- bound_of: there is such a kind, and then its bound, or not
pub record BoundTested (kind k : ℕ) (r : Result (Bound Key) Refusal) : Type 0 where
  pub is : verdict r ≡ kind_test (some kind)
  pub bound_is : IfOk r (λ b. b ≡ bounds.bound_of kind k)

-- the bound whose descent keeps to a side
abbrev pub bound_command : Side → (kind k : ℕ) → Command
bound_command lft kind k = lower_bound kind k
bound_command rgt kind k = upper_bound kind k

-- the move towards a side
abbrev pub step_command : Side → (position : ℕ) → Command
step_command lft p = prev p
step_command rgt p = next p
