-- remove for a caller who knows a tree: what it asks for, and that it leaves the tree without the slot.
use Prim.Native.Nat.{ℕ}
use mathlib.Core.List.{List, Memᴰ}
use mathlib.Core.Path.{◌≡◌, ap, sym, ◌∙◌}
use lib.ListN.{length}
use Rattle.model.specs.Tree.{Tree, slots}
use Rattle.model.specs.Lent.{Lent, lent, capacity}
use Rattle.model.specs.Removal.{removed}
use Rattle.model.specs.Operations.{with_tree}
use Rattle.theory.specs.Holds.{Holds}
use Rattle.theory.specs.Links.{links, links_of, with_keys, drawn}
use Rattle.theory.specs.Places.{Made}
use Rattle.theory.specs.Programs.{remove_at}
use Rattle.theory.proofs.Drawings.{remove_drawing}
use Rattle.theory.proofs.HoldsDrawn.{holds_drawn}
use Rattle.theory.proofs.Places.{long}
use Rattle.theory.proofs.Reading.{draw_with}
use Rattle.removal.specs.Removals.{Removable}

-- The drawing of a balanced tree becomes the drawing of the tree without the slot.
pub remove_links : {left right pc : List ℕ} {root slot size : ℕ} {left' right' pc' : List ℕ} {root' : ℕ}
    (pre : Removable left right pc root slot)
    → Made (remove_at (length left) (links left right pc root) slot) size left' right' pc' root'
    → links left' right' pc' root' ≡ drawn pre.size (removed slot pre.tree)
remove_links {slot = slot} pre made =
    made.is ∙ (λ i. remove_at (long pre.held i) (pre.held.is i) slot)
    ∙ remove_drawing pre.tree pre.held.sound slot pre.stands pre.balanced

module _ {m : Lent} {tree : Tree} {slot : ℕ} (holds : Holds m tree) (stands : Memᴰ slot (slots tree)) where
  pub remove_asked : Removable m.arrays.left m.arrays.right m.arrays.pc m.root slot
  remove_asked = record {
    size = capacity m.arrays;
    tree = tree;
    held = holds_drawn holds;
    balanced = holds.balanced;
    stands = stands;
  }

  -- On lent numbers that hold a tree remove leaves, with the same keys, what the model's remove leaves.
  pub remove_lent : {size : ℕ} {left' right' pc' : List ℕ} {root' : ℕ}
      → Made (remove_at (length m.arrays.left) (links_of m) slot) size left' right' pc' root'
      → lent left' right' pc' m.arrays.key root' ≡ with_tree (removed slot tree) m
  unfolding with_tree remove_asked
  remove_lent made =
      ap (with_keys m.arrays.key) (remove_links remove_asked made)
      ∙ sym (draw_with (capacity m.arrays) (removed slot tree) m.arrays.key)
