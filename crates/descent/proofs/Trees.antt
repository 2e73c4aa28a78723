-- The descents for a caller whose lent numbers hold a tree: what each tells, in the words of the model's commands.
use Prim.Native.Nat.{ℕ}
use mathlib.Core.List.{[]}
use mathlib.Core.Path.{◌≡◌, ◌∙◌}
use lib.Dec.{ltb}
use Rattle.model.specs.Tree.{Side, Tree, above, side_of}
use Rattle.model.specs.Lent.{Lent, capacity, key_of}
use Rattle.model.specs.Descent.{probes, insert_step, insert_landing, find_landing, find_slot, vacant, entry_for}
use Rattle.theory.specs.Holds.{Holds}
use Rattle.theory.proofs.HoldsDrawn.{holds_drawn}
use Rattle.theory.proofs.Descents.{descend_leaf}
use Rattle.theory.proofs.Bounds.{insert_step_never}
use Rattle.descent.specs.declared.types.Path.{Path}
use Rattle.descent.specs.declared.types.Met.{Met}
use Rattle.descent.specs.declared.types.InsertCursor.{InsertCursor}
use Rattle.descent.specs.declared.types.Sought.{Sought}
use Rattle.descent.specs.Entries.{place_told, entry_told}
use Rattle.descent.specs.Searches.{Searchable, over_step, bound_landing, bound_slot, PathTo, MetAt}
use Rattle.descent.specs.Searches.{FoundPath, FoundKey, FoundBound, FoundPlace, FoundEntry}
use Rattle.descent.proofs.Downward.{last_node_empty}
use Rattle.descent.proofs.Entering.{placed_insert}

module _ {m : Lent} {t : Tree} (h : Holds m t) where
  -- the arrays may be searched
  pub holds_searchable : Searchable m.arrays.left m.arrays.right m.arrays.key m.root
  holds_searchable = record {
    pc = m.arrays.pc;
    size = capacity m.arrays;
    tree = t;
    drawing = holds_drawn h;
    keys = h.keys;
  }

  module _ {k : ℕ} where
    -- find: the slot and the probes
    pub find_holds : {r : Met} → FoundKey m.arrays.left m.arrays.right m.arrays.key m.root k r
        → MetAt (find_landing (key_of m.arrays) k t) (find_slot (key_of m.arrays) k t) r
    unfolding holds_searchable key_of
    find_holds f = f.is holds_searchable

    -- the same of lower_bound, for the left side, and of upper_bound, for the right one
    pub bound_holds : (d : Side) {kind : ℕ} {r : Met}
        → FoundBound m.arrays.left m.arrays.right m.arrays.key m.root d kind k r
        → let e = bound_landing d (key_of m.arrays) kind k t in MetAt e (bound_slot d e) r
    unfolding holds_searchable key_of
    bound_holds d f = f.is holds_searchable

    -- entry: what is there for the key, and the probes of find
    module _ {s : Sought} (f : FoundEntry m.arrays.left m.arrays.right m.arrays.key m.root k s) where
      pub entry_holds : entry_told s.entry ≡ entry_for (key_of m.arrays) k t
      unfolding holds_searchable key_of
      entry_holds = f.is holds_searchable

      pub entry_probes : s.probes ≡ probes (find_landing (key_of m.arrays) k t)
      unfolding holds_searchable key_of
      entry_probes = f.probes_is holds_searchable

  -- insert, by path and place: the probes, and the empty place
  module _ (k : ℕ) {p : Path} (f : FoundPath m.arrays.left m.arrays.right m.arrays.key m.root (ltb k) p) where
    insert_path : PathTo (insert_landing (key_of m.arrays) k t) p
    unfolding holds_searchable key_of insert_landing insert_step over_step
    insert_path = f.is holds_searchable

    pub insert_probes : p.probes ≡ probes (insert_landing (key_of m.arrays) k t)
    insert_probes = insert_path.probes_is

    pub insert_holds : {place : InsertCursor} → FoundPlace m.arrays.key p.last.0 k place
        → let w = (insert_landing (key_of m.arrays) k t).way in place_told place ≡ vacant (above w) (side_of w)
    unfolding key_of insert_landing
    insert_holds q =
        placed_insert m.arrays.key k t h.sound
        (insert_path.last_is
        ∙ last_node_empty (insert_landing (key_of m.arrays) k t)
        (descend_leaf (insert_step (key_of m.arrays) k) t [] (insert_step_never (key_of m.arrays) k)))
        q
