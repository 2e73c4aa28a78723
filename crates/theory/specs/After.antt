-- What an accepted command comes down to: the tree that it leaves, and all that is true of it.
use Rattle.std.specs.Prelude.{ℕ, ◌≤◌, ◌<◌, ◌≡◌, ◌⊎◌, true, length}
use Rattle.std.proofs.Math.Option.{some}
use mathlib.Core.List.{List, Memᴰ}
use Rattle.model.specs.Tree.{Tree, leaf, slots}
use Rattle.model.specs.Lent.{Lent, at, capacity, key_of}
use Rattle.model.specs.Draw.{draw}
use Rattle.model.specs.Hanging.{hang}
use Rattle.model.specs.Removal.{removed, replaced}
use Rattle.model.specs.Descent.{Landing, insert_landing, find_landing, Entry, occupied, vacant, entry_for}
use Rattle.model.specs.Commands.{Command, insert, or_insert, find, lower_bound, upper_bound, remove, next, prev}
use Rattle.model.specs.Commands.{insert_after, insert_before, replace_with, clear, fields_of}
use Rattle.model.specs.Order.{list_after, key_after, Told}
use Rattle.model.specs.Answers.{Outcome, done}
use Rattle.model.specs.Operations.{place_after, place_before}
use Rattle.model.specs.Shape.{PathFits, TurnedAtMost, unmended, rotation_limit}
use Rattle.theory.specs.Balance.{Balanced}
use Rattle.theory.specs.Sound.{Sound}

-- the tree after or_insert
unfoldable pub entered : Entry → Landing → (slot : ℕ) → Tree → Tree
entered (occupied x) e s t = t
entered (vacant p d) e s t = hang s e.way

-- the tree after a command
unfoldable pub tree_after : Command → (key : ℕ → ℕ) → Tree → Tree
tree_after (insert s k) key t = hang s (insert_landing key k t).way
tree_after (or_insert s k) key t = entered (entry_for key k t) (find_landing key k t) s t
tree_after (find k) key t = t
tree_after (lower_bound b k) key t = t
tree_after (upper_bound b k) key t = t
tree_after (remove p) key t = removed p t
tree_after (next p) key t = t
tree_after (prev p) key t = t
tree_after (insert_after p s k) key t = hang s (place_after p t)
tree_after (insert_before p s k) key t = hang s (place_before p t)
tree_after (replace_with p s k) key t = replaced p s t
tree_after clear key t = leaf

-- The position and the new slot of the command are such as it asks for: all tests but that of the order pass.
pub record Admitted (c : Command) (C : ℕ) (L : List ℕ) : Type 0 where
  pub position : (p : ℕ) → (fields_of c).position ≡ some p → (p ≡ 0) ⊎ Memᴰ p L
  pub node : (p : ℕ) → (fields_of c).position ≡ some p → (fields_of c).needs_node ≡ true → Memᴰ p L
  pub slot : (s : ℕ) → (fields_of c).slot ≡ some s → (0 < s) × (s ≤ C) × (¬ Memᴰ s L)

-- The outcome o of a command on a tree t is the drawing of another tree, which keeps the rules, has the list and the
-- keys that the command means, and came about by few rotations; the answer is Done, with few probes.
pub record Result (c : Command) (m : Lent) (t t' : Tree) (o : Outcome) : Type 0 where
  pub keys : List ℕ
  pub after : o.after ≡ draw (capacity m.arrays) t' keys
  pub long : length keys ≡ capacity m.arrays
  pub key : (x : ℕ) → 0 < x → at keys x ≡ key_after (key_of m.arrays) c (slots t) x
  pub sound : Sound (capacity m.arrays) t'
  pub balanced : Balanced t'
  pub list : slots t' ≡ list_after (key_of m.arrays) c (slots t)
  pub turned : TurnedAtMost (rotation_limit c) (unmended c (key_of m.arrays) t) t'
  pub code : o.answer.code ≡ done
  pub told : Told (key_of m.arrays) c (slots t) o.answer.slot
  pub probes : PathFits o.answer.probes t
