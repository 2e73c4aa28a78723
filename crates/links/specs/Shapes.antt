-- What a type says of the numbers that are lent.
use Rattle.std.specs.Prelude.{ℕ, List, ◌≡◌, true}
use Rattle.model.specs.Lent.{lent}
use Rattle.model.specs.Check.{check}

-- the check passes
abbrev pub Shaped : (l r p k : List ℕ) → (t : ℕ) → Type 0
Shaped l r p k t = check (lent l r p k t) ≡ true
