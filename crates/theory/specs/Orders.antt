-- What a command's position and new slot must be on a list, and which commands cannot break the order of its keys.
use Rattle.std.specs.Prelude.{ℕ, ◌⊎◌, ◌≡◌}
use mathlib.Core.List.{List, Memᴰ}
use Rattle.std.proofs.Math.Option.{some}
use Rattle.model.specs.Commands.{Command, insert, or_insert, find, lower_bound, upper_bound, remove, next, prev}
use Rattle.model.specs.Commands.{insert_after, insert_before, replace_with, clear, fields_of}

-- the new slot of a command that has one does not stand in the list
abbrev pub Fresh : Command → List ℕ → Type 0
Fresh c L = (s : ℕ) → (fields_of c).slot ≡ some s → ¬ Memᴰ s L

-- the position of a command that has one is 0 or stands in the list
abbrev pub Positioned : Command → List ℕ → Type 0
Positioned c L = (p : ℕ) → (fields_of c).position ≡ some p → (p ≡ 0) ⊎ Memᴰ p L

-- the command puts no key at a position of the caller's choice
abbrev pub Fitting : Command → Type 0
Fitting (insert s k) = Unit {0}
Fitting (or_insert s k) = Unit {0}
Fitting (find k) = Unit {0}
Fitting (lower_bound b k) = Unit {0}
Fitting (upper_bound b k) = Unit {0}
Fitting (remove p) = Unit {0}
Fitting (next p) = Unit {0}
Fitting (prev p) = Unit {0}
Fitting (insert_after p s k) = ⊥
Fitting (insert_before p s k) = ⊥
Fitting (replace_with p s k) = ⊥
Fitting clear = Unit {0}
