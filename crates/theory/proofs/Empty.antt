-- Where the commands of demand 3 start: empty arrays have as many slots as asked for, hold no slot, are well formed,
-- and the check accepts them.
use Prim.Native.Nat.{ℕ, ◌-◌, ◌≤◌, ◌<◌}
use native.Mathlib.Omega.{arith}
use mathlib.Core.Bool.{true}
use mathlib.Core.Path.{◌≡◌, refl}
use lib.ListN.{replicate, length-replicate, get_or-replicate}
use Rattle.model.specs.Limits.{capacity_limit}
use Rattle.model.specs.Tree.{leaf}
use Rattle.model.specs.Lent.{at, capacity, child_of, pc_of, empty_lent}
use Rattle.model.specs.WellFormed.{WellFormed}
use Rattle.model.specs.Check.{check}
use Rattle.theory.specs.Holds.{Holds}
use Rattle.theory.specs.Hangs.{Clear, Hung}
use Rattle.theory.proofs.Hangs.{clear_of}
use Rattle.theory.proofs.Hung.{hung_holds}
use Rattle.theory.proofs.Well.{hung_well}
use Rattle.theory.proofs.Check.{hung_check}

-- they have as many slots as asked for
pub empty_capacity : (C : ℕ) → capacity (empty_lent C).arrays ≡ C
unfolding empty_lent capacity
empty_capacity C = length-replicate C 0

at_empty : (C s : ℕ) → 0 < s → s ≤ C → at (replicate C 0) s ≡ 0
unfolding at
at_empty C s low high = get_or-replicate C (s - 1) 0 0 (omega arith)

empty_clear : (C s : ℕ) → 0 < s → s ≤ C → Clear (empty_lent C).arrays s
unfolding empty_lent child_of pc_of
empty_clear C s low high = let e = at_empty C s low high in clear_of (empty_lent C).arrays s (e, e) e

empty_hung : (C : ℕ) → C ≤ capacity_limit → Hung (empty_lent C) leaf
unfolding empty_lent capacity
empty_hung C small = record {
  lengths = record { left = refl; right = refl; key = refl; small = rw (length-replicate {A = ℕ} C 0) small };
  hangs = refl;
  rest = λ s low high none. empty_clear C s low (rw (length-replicate {A = ℕ} C 0) at high);
  balanced = record { calm = tt; even = tt; top = refl };
  rising = tt;
}

-- they hold the empty tree, W1 to W6 hold, and the check accepts
pub empty_holds : (C : ℕ) → C ≤ capacity_limit → Holds (empty_lent C) leaf
empty_holds C small = hung_holds (empty_hung C small)

pub empty_well : (C : ℕ) → C ≤ capacity_limit → WellFormed (empty_lent C)
empty_well C small = hung_well (empty_hung C small)

pub empty_check : (C : ℕ) → C ≤ capacity_limit → check (empty_lent C) ≡ true
empty_check C small = hung_check (empty_hung C small)
