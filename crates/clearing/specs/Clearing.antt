-- What clear_recurse leaves. It asks for numbers in bounds, no tree: `Bounded` of theory, with the slot for the root.
use Rattle.std.specs.Prelude.{ℕ, List, ◌≡◌, length}
use Rattle.theory.specs.Links.{links}
use Rattle.theory.specs.Places.{Bounded}
use Rattle.theory.specs.Programs.{clear_from}

-- Whatever the root, the links at exit are those at entry with all slots from s down to the depth unlinked; they are in
-- bounds, and as long.
pub record Cleared (depth : ℕ) (left right pc : List ℕ) (s : ℕ) (left' right' pc' : List ℕ) : Type 0 where
  pub is : (root : ℕ) → links left' right' pc' root ≡ clear_from depth (links left right pc root) s
  pub bounded : Bounded left' right' pc' s
  pub same : length left' ≡ length left
