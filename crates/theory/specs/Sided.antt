-- The links as code on (near, far) sees them: near is the child array of a side, and the mirror is the same code with
-- the two arrays swapped.
use Rattle.std.specs.Prelude.{ℕ, List}
use Rattle.model.specs.Tree.{Side, lft, rgt}
use Rattle.theory.specs.Links.{Links, links}

abbrev pub sided : Side → (near far pc : List ℕ) → (root : ℕ) → Links
sided lft near far pc root = links near far pc root
sided rgt near far pc root = links far near pc root
