-- The sibling in focus; and sink_at: each call's demands, from what the calls before it left, and the promise.
use Prim.Native.Nat.{ℕ, ◌≤◌}
use mathlib.Core.Bool.{Bool, true, false, true≢false}
use mathlib.Core.List.{List, ◌∷◌}
use mathlib.Core.Path.{◌≡◌, sym, ◌∙◌}
use lib.ListN.{length}
use native.Mathlib.Omega.{arith}
use Rattle.model.specs.Tree.{Side, opp, Color, red, black, Tree, top_of, nod, Frame, frame, plug}
use Rattle.model.specs.Lent.{at}
use Rattle.theory.specs.Rounds.{lower_end, red_end, sink_at}
use Rattle.theory.specs.Places.{Firm, Drawn, Spot, Mirrored}
use Rattle.theory.proofs.Sides.{by_side}
use Rattle.theory.proofs.Sided.{sided_near, sided_far, sided_parent, sided_color}
use Rattle.theory.proofs.Sinking.{black_by, firm_near}
use Rattle.links.specs.Reads.{SlotIn, ParentPre, GotParent, red_at, GotRed}
use Rattle.links.proofs.Colors.{spot_red, red_slot}
use Rattle.links.proofs.Spots.{spot_in, spot_beside, in_parent}
use Rattle.mending.specs.Turns.{LowerEndPre, RedTurnPre, RedTurned}
use Rattle.mending.specs.Climbs.{SinkAtPre}

-- ---- what lower_end and red_turn want, by the sibling's colour

module _ {d : Side} {near far pc : List ℕ} {root size : ℕ} {outer : Tree} {sibling : ℕ} {parent_color : Color}
    {parent : ℕ} {place : Tree} {way : List Frame} where
  lower_end_at : (color : Color) {inner : Tree}
      → Spot d near far pc root size d color inner sibling outer (frame (opp d) parent_color parent place ∷ way)
      → red_at pc sibling ≡ false → LowerEndPre near far pc root sibling parent
  lower_end_at red spot tested = absurd (true≢false (sym (spot_red spot) ∙ tested))
  lower_end_at black {inner} spot tested = record {
    side = d;
    size = size;
    inner = inner;
    outer = outer;
    parent_color = parent_color;
    place = place;
    way = way;
    spot = spot;
  }

  red_turn_at : (color : Color) (inner : Tree)
      → Spot d near far pc root size d color inner sibling outer (frame (opp d) parent_color parent place ∷ way)
      → Firm d (nod d color inner sibling outer) → red_at pc sibling ≡ true → RedTurnPre near far pc root sibling parent
  red_turn_at black inner spot firm tested = absurd (true≢false (sym tested ∙ spot_red spot))
  red_turn_at red inner spot firm tested = black_by d
      (λ tree. Spot d near far pc root size d red tree sibling outer (frame (opp d) parent_color parent place ∷ way)
      → RedTurnPre near far pc root sibling parent)
      (λ inner_near slot inner_far spot. record {
        side = d;
        size = size;
        inner_near = inner_near;
        inner = slot;
        inner_far = inner_far;
        outer = outer;
        parent_color = parent_color;
        place = place;
        way = way;
        spot = spot;
      })
      inner (firm_near d inner sibling outer firm) spot

-- ---- the sibling of a place on a side, in focus

pub record Beside (d : Side) (near far pc : List ℕ) (root size : ℕ) (side : Side) (parent_color : Color)
    (parent : ℕ)
    (place : Tree) (way : List Frame) (sibling : ℕ) : Type 0 where
  pub color : Color
  pub inner : Tree
  pub outer : Tree
  pub spot : Spot d near far pc root size side color inner sibling outer
      (frame (opp side) parent_color parent place ∷ way)
  pub firm : Firm side (nod side color inner sibling outer)

pub beside : {d : Side} {near far pc : List ℕ} {root size : ℕ} (side : Side) (parent_color : Color) (parent : ℕ)
    (place : Tree) (way : List Frame) {sibling : ℕ} (tree : Tree)
    → Drawn d near far pc root size (plug place (frame side parent_color parent tree ∷ way)) → Firm side tree
    → sibling ≡ top_of tree → Beside d near far pc root size side parent_color parent place way sibling
beside {d} {near} {far} {pc} {root} {size} side parent_color parent place way {sibling} = by_side side
    (λ tree. Drawn d near far pc root size (plug place (frame side parent_color parent tree ∷ way)) → Firm side tree
    → sibling ≡ top_of tree → Beside d near far pc root size side parent_color parent place way sibling)
    (λ held none is. absurd none)
    (λ color inner slot outer held firm is.
    rw is (record { color = color; inner = inner; outer = outer; spot = spot_beside side held; firm = firm }))

-- ---- sink_at

module _ {near far pc : List ℕ} {root sibling parent : ℕ} (pre : SinkAtPre near far pc root sibling parent) where
  seen : Beside pre.side near far pc root pre.size pre.side pre.color parent pre.place pre.way sibling
  seen = beside pre.side pre.color parent pre.place pre.way pre.sibling pre.held pre.firm pre.is

  slot : SlotIn near far pc sibling
  slot = spot_in seen.spot

  pub sink_red : sibling ≤ length pc
  sink_red = omega (arith, slot.top, slot.lp)

  module _ {red : Bool} (tested : GotRed pc sibling red) where
    pub sink_lower : red ≡ false → LowerEndPre near far pc root sibling parent
    sink_lower none = lower_end_at seen.color seen.spot (sym tested.is ∙ none)

    pub sunk_black : {near' far' pc' : List ℕ} {root' : ℕ} → red ≡ false
        → Mirrored (λ d k. lower_end d k sibling parent) near far pc root near' far' pc' root'
        → Mirrored (λ d k. sink_at d k sibling parent) near far pc root near' far' pc' root'
    unfolding sink_at
    sunk_black none made = record {
      is = λ d. rw (
        sided_color d near far pc root sibling,
        ← red_slot pc sibling slot.pos,
        ← tested.is,
        none,
      ) (made.is d);
      bounded = made.bounded;
      same = made.same;
    }

    module _ (is-red : red ≡ true) where
      pub sink_turn : RedTurnPre near far pc root sibling parent
      sink_turn = red_turn_at seen.color seen.inner seen.spot seen.firm (sym tested.is ∙ is-red)

      module _ {near₁ far₁ pc₁ : List ℕ} {root₁ new : ℕ}
          (turned : RedTurned near far pc root sibling parent near₁ far₁ pc₁ root₁ new)
        where
          pub sink_parent : ParentPre pc₁ new
          sink_parent = in_parent (spot_in turned.lower.spot)

          module _ {above : ℕ} (up : GotParent pc₁ new above) where
            pub sunk_red : {near' far' pc' : List ℕ} {root' : ℕ}
                → Mirrored (λ d k. lower_end d k new above) near₁ far₁ pc₁ root₁ near' far' pc' root'
                → Mirrored (λ d k. sink_at d k sibling parent) near far pc root near' far' pc' root'
            unfolding sink_at red_end
            sunk_red made = record {
              is = λ d. rw (
                sided_color d near far pc root sibling,
                ← red_slot pc sibling slot.pos,
                ← tested.is,
                is-red,
                ← turned.made.is d,
                sided_near d near₁ far₁ pc₁ root₁ sibling,
                sided_far d near₁ far₁ pc₁ root₁ (at near₁ sibling),
                ← turned.is,
                sided_parent d near₁ far₁ pc₁ root₁ new,
                ← up.is,
              ) (made.is d);
              bounded = made.bounded;
              same = made.same ∙ turned.made.same;
            }
