-- What the three demands say of a call, in the words of `model` alone.
use Rattle.std.specs.Prelude.{ℕ, ◌<◌, ◌≡◌, ◌≢◌, List}
use Rattle.model.specs.Tree.{slots}
use Rattle.model.specs.Lent.{Lent, capacity, key_of, tree_of, empty_lent}
use Rattle.model.specs.WellFormed.{WellFormed}
use Rattle.model.specs.Commands.{Command}
use Rattle.model.specs.Order.{list_after, key_after, Told}
use Rattle.model.specs.Answers.{done, damaged, Outcome, refused}
use Rattle.model.specs.Operations.{perform, perform_all}
use Rattle.model.specs.Shape.{PathFits, TurnedAtMost, unmended, rotation_limit}

-- Demand 1: an outcome that is not Done is a refusal, with two zeros beside its code and every number as it was.
abbrev pub Faithful : Lent → Outcome → Type 0
Faithful m o = o.answer.code ≢ done → o ≡ refused o.answer.code m

-- Demand 2: what an accepted call means.
pub record Means (c : Command) (m : Lent) (o : Outcome) : Type 0 where
  -- the in-order list after it
  pub list : slots (tree_of o.after) ≡ list_after (key_of m.arrays) c (slots (tree_of m))
  -- the slot that it answers
  pub told : Told (key_of m.arrays) c (slots (tree_of m)) o.answer.slot
  -- the keys after it
  pub keys : (x : ℕ) → 0 < x → key_of o.after.arrays x ≡ key_after (key_of m.arrays) c (slots (tree_of m)) x
  -- the slots are as many as before
  pub same : capacity o.after.arrays ≡ capacity m.arrays
  -- few rotations lead from the tree before it is mended to the tree after the call
  pub turned : TurnedAtMost (rotation_limit c) (unmended c (key_of m.arrays) (tree_of m)) (tree_of o.after)

-- Demand 3: what holds on C slots after any commands from an empty tree, whatever the next command c is.
pub record Stands (C : ℕ) (cs : List Command) (c : Command) : Type 0 where
  -- the arrays are well formed
  pub well : WellFormed (perform_all cs (empty_lent C))
  -- the call is not told that they are damaged
  pub never : (perform c (perform_all cs (empty_lent C))).answer.code ≢ damaged
  -- its path is short for the tree before it
  pub probes : PathFits (perform c (perform_all cs (empty_lent C))).answer.probes
      (tree_of (perform_all cs (empty_lent C)))
  -- the arrays are well formed after it
  pub after : WellFormed (perform c (perform_all cs (empty_lent C))).after
  -- and where it is done it means what demand 2 says, with few rotations
  pub means : (perform c (perform_all cs (empty_lent C))).answer.code ≡ done
      → Means c (perform_all cs (empty_lent C)) (perform c (perform_all cs (empty_lent C)))
