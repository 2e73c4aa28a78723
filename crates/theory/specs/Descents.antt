-- What a comparison must have so that its descents mean something on the in-order list, and what they then part.
use Rattle.std.specs.Prelude.{ℕ, ◌≤◌, Bool, true, false, not, ◌≡◌}
use mathlib.Core.List.{List, Memᴰ}
use Rattle.model.specs.Tree.{Side, lft, rgt, Tree, slots, Frame, above, side_of}
use Rattle.model.specs.Order.{holds, Holding, Lacking}
use Rattle.model.specs.Descent.{Step, leftward, rightward, left_if, insert_landing, find_landing, occupied, vacant}
use Rattle.model.specs.Descent.{entry_for}
use Rattle.theory.specs.Lists.{before, after}

-- the comparison goes by the key: it also sends left at greater keys, and right at smaller ones
pub record Directed (key : ℕ → ℕ) (step : ℕ → Step) : Type 0 where
  pub left : (x y : ℕ) → key x ≤ key y → step x ≡ leftward → step y ≡ leftward
  pub right : (x y : ℕ) → key y ≤ key x → step x ≡ rightward → step y ≡ rightward

-- every slot before the place sends right, every slot after it left
pub record Parted (step : ℕ → Step) (w : List Frame) : Type 0 where
  pub early : (y : ℕ) → Memᴰ y (before w) → step y ≡ rightward
  pub late : (y : ℕ) → Memᴰ y (after w) → step y ≡ leftward

-- to the side d if the test passes, otherwise to the other side
abbrev pub step_if : Side → Bool → Step
step_if lft b = left_if b
step_if rgt b = left_if (not b)

-- ---- the two ways in which the descent of find and entry ends

-- at the slot x, which has the key
pub record Met (key : ℕ → ℕ) (k : ℕ) (t : Tree) (x : ℕ) : Type 0 where
  pub entry : entry_for key k t ≡ occupied x
  pub holding : Holding key k (slots t) x
  pub held : holds key k (slots t) ≡ true

-- where insert would hang a slot, as no slot has the key
pub record Unmet (key : ℕ → ℕ) (k : ℕ) (t : Tree) : Type 0 where
  pub entry : entry_for key k t ≡ vacant (above (insert_landing key k t).way) (side_of (insert_landing key k t).way)
  pub same : find_landing key k t ≡ insert_landing key k t
  pub lacking : Lacking key k (slots t)
  pub held : holds key k (slots t) ≡ false
