-- One lent array of links as the code reads and writes it, slot by slot, and what its entries may be.
use Rattle.std.specs.Prelude.{ℕ, zero, suc, ◌+◌, ◌-◌, ◌*◌, ◌/◌, ◌%◌, ◌≤◌, List, set, length, eqb}
use Rattle.model.specs.Branch.{pick}
use Rattle.model.specs.Lent.{at}

unfoldable pub put : List ℕ → (slot value : ℕ) → List ℕ
put l s v = set l (s - 1) v

-- ---- parent_color: both parts of it

unfoldable pub parent_at : List ℕ → (slot : ℕ) → ℕ
parent_at pc s = at pc s / 2

unfoldable pub color_at : List ℕ → (slot : ℕ) → ℕ
color_at pc s = at pc s % 2

unfoldable pub put_parent : List ℕ → (slot parent : ℕ) → List ℕ
put_parent pc s v = put pc s (2 * v + color_at pc s)

unfoldable pub put_color : List ℕ → (slot color : ℕ) → List ℕ
put_color pc s v = put pc s (2 * parent_at pc s + v)

-- a child, where there is one, gets the parent
unfoldable pub adopt_at : List ℕ → (child parent : ℕ) → List ℕ
adopt_at pc child parent = pick (eqb child 0) pc (put_parent pc child parent)

-- so many steps from a slot up to the root, counted no further than n
unfoldable pub ups : (n : ℕ) → List ℕ → (slot : ℕ) → ℕ
ups zero pc s = 0
ups (suc n) pc s = pick (eqb (parent_at pc s) 0) 0 (suc (ups n pc (parent_at pc s)))

-- ---- what the entries may be

-- every child is a slot of the array, or 0
pub record Below (l : List ℕ) : Type 0 where
  pub each : (s : ℕ) → at l s ≤ length l

-- every parent is
pub record Parents (pc : List ℕ) : Type 0 where
  pub each : (s : ℕ) → parent_at pc s ≤ length pc
