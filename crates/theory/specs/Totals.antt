-- Sums over slots.
use Rattle.std.specs.Prelude.{ℕ, zero, suc, ◌+◌, eqb}
use Rattle.model.specs.Branch.{pick}

-- f s + f (s + 1) + .., of C numbers
abbrev pub total : (C s : ℕ) → (ℕ → ℕ) → ℕ
total zero s f = 0
total (suc C) s f = f s + total C (suc s) f

-- 1 for a mark that isn't 0
abbrev pub one_if : (mark : ℕ) → ℕ
one_if v = pick (eqb v 0) 0 1
