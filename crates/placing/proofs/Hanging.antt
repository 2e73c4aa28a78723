-- hang_at: what its call asks for, and the promise.
use Prim.Native.Nat.{ℕ}
use mathlib.Core.List.{List}
use mathlib.Core.Path.{◌≡◌, ap, sym, ◌∙◌}
use Rattle.model.specs.Tree.{Tree, Frame, above, side_of}
use Rattle.model.specs.Lent.{Lent, lent, capacity, keyed}
use Rattle.model.specs.Hanging.{hang}
use Rattle.model.specs.Descent.{vacant}
use Rattle.model.specs.Operations.{with_placed}
use Rattle.theory.specs.Slots.{put}
use Rattle.theory.specs.Links.{links, with_keys, drawn}
use Rattle.theory.proofs.Holds.{well_holds}
use Rattle.theory.proofs.HoldsDrawn.{holds_drawn}
use Rattle.theory.proofs.Reading.{draw_with}
use Rattle.links.specs.Writes.{SetKey}
use Rattle.hanging.specs.Inserts.{Vacant, Inserted}
use Rattle.descent.specs.declared.types.InsertCursor.{InsertCursor}
use Rattle.links.specs.Sides as sides
use Rattle.descent.specs.Entries.{place_told}
use Rattle.placing.specs.Places.{At, HangPre, HungAt}
use Rattle.placing.proofs.Positions.{free_count}

-- the drawing of a tree, and a key placed beside it
pub placed_lent : (m : Lent) (t : Tree) {s k : ℕ} {left' right' pc' key' : List ℕ} {root' : ℕ}
    → links left' right' pc' root' ≡ drawn (capacity m.arrays) t → SetKey m.arrays.key s k key'
    → lent left' right' pc' key' root' ≡ with_placed t s k m
unfolding with_placed keyed put
placed_lent m t {s} {k} e stored =
    rw stored.is
    (ap (with_keys (put m.arrays.key s k)) e ∙ sym (draw_with (capacity m.arrays) t (keyed s k m.arrays)))

-- what its call asks for
pub hang_vacant : {m : Lent} {place : InsertCursor} {s : ℕ} → HangPre m place s
    → Vacant m.arrays.left m.arrays.right m.arrays.pc m.root place.parent.0
    (sides.side_of place.side) s
hang_vacant {m} {place} v =
    let h = well_holds m v.well in
    record {
      size = capacity m.arrays;
      way = v.way;
      over = sym v.there.parent_is;
      side = λ low. sym (v.there.side_is (rw v.there.parent_is at low));
      held = rw v.whole (holds_drawn h);
      balanced = rw v.whole h.balanced;
      fresh = rw v.whole (free_count v.free);
      low = v.free.low;
      high = v.free.high;
    }

-- the promise
pub hung_at : {m : Lent} {place : InsertCursor} {s k : ℕ} {left' right' pc' key' : List ℕ} {root' : ℕ}
    → Inserted m.arrays.left m.arrays.right m.arrays.pc m.root place.parent.0
    (sides.side_of place.side) s left' right' pc' root'
    → SetKey m.arrays.key s k key' → HungAt m place s k (lent left' right' pc' key' root')
unfolding hang_vacant
hung_at {m} {s = s} hung stored =
    record { is = λ v. placed_lent m (hang s v.way) (hung.is (hang_vacant v)) stored }

-- a place that the code tells as the model does is that place
pub told_at : {place : InsertCursor} {w : List Frame} → place_told place ≡ vacant (above w) (side_of w) → At place w
told_at e = record { parent_is = cc; side_is = λ _. cc }
