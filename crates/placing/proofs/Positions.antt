-- A position and a free slot of arrays that are well formed: what callees ask for.
use Prim.Native.Nat.{ℕ, ◌≤◌}
use mathlib.Core.List.{Memᴰ}
use mathlib.Core.Logic.{◌⊎◌, ⊎_elim}
use mathlib.Core.Path.{◌≡◌}
use native.Mathlib.Omega.{arith}
use Rattle.model.specs.Tree.{Side, lft, rgt, slots}
use Rattle.model.specs.Lent.{Lent, capacity, tree_of}
use Rattle.model.specs.WellFormed.{WellFormed}
use Rattle.model.specs.Order.{next_in, prev_in}
use Rattle.theory.specs.Sound.{count}
use Rattle.theory.specs.Lists.{facing}
use Rattle.theory.proofs.Counts.{by_count}
use Rattle.theory.proofs.Lists.{count_member, member_count}
use Rattle.theory.proofs.Holds.{well_holds}
use Rattle.theory.proofs.HoldsDrawn.{holds_drawn}
use Rattle.links.specs.Reads.{SlotOf}
use Rattle.walks.specs.Steps.{Position, Adjoined}
use Rattle.placing.specs.Positions.{Stands, Free}

-- a walk to a neighbour starts from a position
unfoldable pub stands_position : {m : Lent} {p : ℕ} → Stands m p
    → Position lft m.arrays.left m.arrays.right m.arrays.pc m.root p
stands_position {m} v = record {
  size = capacity m.arrays;
  tree = tree_of m;
  held = holds_drawn (well_holds m v.well);
  stands = v.here;
}

-- what is found there is the slot next to it on a side
abbrev pub Stepped : Side → Lent → (p found : ℕ) → Type 0
Stepped d m p found = Adjoined d m.arrays.left m.arrays.right m.arrays.pc m.root p found

pub step_found : (d : Side) {m : Lent} {p found : ℕ} → Stands m p → Stepped d m p found
    → found ≡ next_in p (facing d (slots (tree_of m)))
unfolding stands_position prev_in
step_found lft v step = step.is (stands_position v)
step_found rgt v step = step.is (stands_position v)

-- a slot of the tree, or 0, is within the capacity
pub slot_high : {m : Lent} (p : ℕ) → WellFormed m → (p ≡ 0) ⊎ Memᴰ p (slots (tree_of m)) → p ≤ capacity m.arrays
slot_high {m} p well here =
    ⊎_elim (λ e. omega arith) (λ there. (well_holds m well).sound.high p (member_count (tree_of m) p there)) here

-- a free slot stands nowhere in the tree, and has a key
module _ {m : Lent} {s : ℕ} (f : Free m s) where
  pub free_count : count (tree_of m) s ≡ 0
  free_count = by_count (tree_of m) s (λ none. none) (λ some. absurd (f.absent (count_member (tree_of m) s some)))

  pub free_key : WellFormed m → SlotOf m.arrays.key s
  free_key well = record { pos = f.low; top = omega (arith, f.high, well.w1.lengths.key) }
