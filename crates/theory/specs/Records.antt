-- The lent arrays as a list of link records, slot after slot.
use Rattle.std.specs.Prelude.{ℕ, List, [], ◌∷◌}
use Rattle.model.specs.Ends.{Link}
use Rattle.theory.specs.Links.{Links}

-- as many as each of three arrays has numbers
abbrev pub records : (left right pc : List ℕ) → List Link
records [] r p = []
records (x ∷ l) [] p = []
records (x ∷ l) (y ∷ r) [] = []
records (x ∷ l) (y ∷ r) (z ∷ p) = record { left = x; right = y; pc = z } ∷ records l r p

unfoldable pub records_of : Links → List Link
records_of k = records k.left k.right k.pc
