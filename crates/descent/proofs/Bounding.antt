-- The two bounds: Unbounded goes along an edge, the others by a path, of which they answer the last turn to their side.
use Prim.Native.Nat.{ℕ, zero, suc}
use mathlib.Core.Bool.{Bool}
use mathlib.Core.List.{List, []}
use mathlib.Core.Path.{◌≡◌, refl}
use lib.Dec.{leb, ltb}
use Rattle.std.specs.declared.ops.Bound.{Bound}
use Rattle.std.specs.declared.ops.Bound.TheVariants.{Included, Excluded, Unbounded}
use Rattle.model.specs.Tree as model
use Rattle.model.specs.Tree.{lft, rgt, Tree}
use Rattle.model.specs.Lent.{at}
use Rattle.model.specs.Descent.{Landing, descend, last_turn, lower_step, lower_landing, lower_slot, upper_step}
use Rattle.model.specs.Descent.{upper_landing, upper_slot}
use Rattle.links.specs.declared.types.Key.{Key}
use Rattle.links.specs.declared.types.Side.{Side}
use Rattle.links.specs.declared.types.Side.TheVariants.{Left, Right}
use Rattle.links.specs.Sides.{side_of}
use Rattle.descent.specs.declared.types.Path.{Path}
use Rattle.descent.specs.declared.types.Met.{Met}
use Rattle.descent.specs.Bounds.{kind_of, key_in, bound_of}
use Rattle.descent.specs.Searches.{Searchable, Sloping, over_step, toward, bound_landing, bound_slot, PathTo}
use Rattle.descent.specs.Searches.{turn_of, met_of, FoundEdge, FoundPath, FoundBound}

-- ---- the links of either side, for edge

module _ {left right key : List ℕ} {root : ℕ} (v : Searchable left right key root) where
  pub slope_left : Sloping left root
  slope_left = record { side = lft; far = right; pc = v.pc; size = v.size; tree = v.tree; drawing = v.drawing }

  pub slope_right : Sloping right root
  slope_right = record {
    side = rgt;
    far = left;
    pc = v.pc;
    size = v.size;
    tree = v.tree;
    drawing = record { is = v.drawing.is; sound = v.drawing.sound; small = v.drawing.small };
  }

-- ---- the last turn of a path to the side

slot_turn : (d : model.Side) (e : Landing) → bound_slot d e ≡ last_turn d e.way
unfolding lower_slot upper_slot
slot_turn lft e = refl
slot_turn rgt e = refl

turn_is : (d : model.Side) {e : Landing} {p : Path} → PathTo e p → turn_of d p ≡ bound_slot d e
unfolding lower_slot upper_slot
turn_is lft z = z.over_is
turn_is rgt z = z.under_is

-- ---- the promises

-- a bound as FoundBound has it
abbrev Bounded : (left right key : List ℕ) → (root : ℕ) → Side → Bound Key → Met → Type 0
Bounded left right key root d b m = FoundBound left right key root (side_of d) (kind_of b) (key_in b) m

module _ {left right key : List ℕ} {root : ℕ} (side : Side) (bound : Bound Key) {m : Met} where
  -- Unbounded: the first slot, and the last one
  pub bound_first : side ≡ Left → bound ≡ Unbounded → FoundEdge left root m → Bounded left right key root side bound m
  unfolding slope_left lower_landing lower_step
  bound_first d b edge = rw (d, b) (record {
    is = λ v. rw (slot_turn lft (descend (λ _. toward lft) v.tree [])) (edge.is (slope_left v));
  })

  pub bound_last : side ≡ Right → bound ≡ Unbounded → FoundEdge right root m
      → Bounded left right key root side bound m
  unfolding slope_right upper_landing upper_step
  bound_last d b edge = rw (d, b) (record {
    is = λ v. rw (slot_turn rgt (descend (λ _. toward rgt) v.tree [])) (edge.is (slope_right v));
  })

  -- by a path that goes left of the keys over k, or of those that are k too
  module _ (k : Key) {p : Path} (is : m ≡ met_of (turn_of (side_of side) p) p.last.0 p.probes) where
    by_path : {over : ℕ → Bool}
        → ((t : Tree) → bound_landing (side_of side) (at key) (kind_of bound) (key_in bound) t
        ≡ descend (over_step (at key) over) t [])
        → FoundPath left right key root over p → Bounded left right key root side bound m
    by_path same passed = record {
      is = λ v.
          let z = passed.is v in
          rw (same v.tree, is)
          (record { slot_is = turn_is (side_of side) z; last_is = z.last_is; probes_is = z.probes_is });
    }

    pub lower_included : side ≡ Left → bound ≡ Included k → FoundPath left right key root (leb k.0) p
        → Bounded left right key root side bound m
    unfolding lower_landing lower_step over_step
    lower_included d b passed = by_path (λ t. rw (d, b) refl) passed

    pub lower_excluded : side ≡ Left → bound ≡ Excluded k → FoundPath left right key root (ltb k.0) p
        → Bounded left right key root side bound m
    unfolding lower_landing lower_step over_step
    lower_excluded d b passed = by_path (λ t. rw (d, b) refl) passed

    pub upper_included : side ≡ Right → bound ≡ Included k → FoundPath left right key root (ltb k.0) p
        → Bounded left right key root side bound m
    unfolding upper_landing upper_step over_step
    upper_included d b passed = by_path (λ t. rw (d, b) refl) passed

    pub upper_excluded : side ≡ Right → bound ≡ Excluded k → FoundPath left right key root (leb k.0) p
        → Bounded left right key root side bound m
    unfolding upper_landing upper_step over_step
    upper_excluded d b passed = by_path (λ t. rw (d, b) refl) passed

-- ---- for a caller with a kind and a key as numbers

-- a bound that stands for them is met as they say: beside kind 0 any key is as good as 0
pub bound_numbers : {left right key : List ℕ} {root : ℕ} (d : model.Side) (kind k : ℕ) {m : Met}
    → FoundBound left right key root d (kind_of (bound_of kind k)) (key_in (bound_of kind k)) m
    → FoundBound left right key root d kind k m
unfolding lower_landing lower_step upper_landing upper_step
bound_numbers lft zero k f = record { is = λ v. f.is v }
bound_numbers rgt zero k f = record { is = λ v. f.is v }
bound_numbers d (suc zero) k f = f
bound_numbers lft (suc (suc n)) k f = record { is = λ v. f.is v }
bound_numbers rgt (suc (suc n)) k f = record { is = λ v. f.is v }
