-- far_turn and near_turn: each call's demands, from what the calls before it left, and the promises.
use Prim.Native.Nat.{ℕ, ◌<◌}
use mathlib.Core.List.{List, ◌∷◌}
use mathlib.Core.Path.{◌≡◌, ap, ◌∙◌}
use native.Mathlib.Omega.{arith}
use Rattle.model.specs.Tree.{Side, opp, Color, red, black, Tree, nod, Frame, frame, plug}
use Rattle.model.specs.Lent.{at}
use Rattle.theory.specs.Slots.{parent_at}
use Rattle.theory.specs.Sound.{Sound}
use Rattle.theory.specs.Links.{set_color}
use Rattle.theory.specs.Sided.{sided}
use Rattle.theory.specs.Programs.{rotate_in, far_turn, near_turn}
use Rattle.theory.specs.Places.{Bounded, Spot, Mirrored}
use Rattle.theory.proofs.Sided.{sided_far, sided_parent, sided_color, sided_set_color}
use Rattle.theory.proofs.Reading.{paint_drawn, paint_sound}
use Rattle.theory.proofs.Climbing.{raise_drawn, raise_sound}
use Rattle.theory.proofs.Places.{swap, spot_low, spot_high, spot_bounded, spot_parent, spot_near, spot_far, spot_over}
use Rattle.theory.proofs.Places.{spot_up}
use Rattle.links.specs.Reads.{ParentPre, Got, GotParent, GotColor}
use Rattle.links.specs.Writes.{SetColorPre, SetColor}
use Rattle.links.proofs.Spots.{spot_in, spot_beside, in_parent, in_set_color, in_painted, bounded_painted}
use Rattle.turns.specs.Turns.{RotatePre, rotate_at}
use Rattle.turns.proofs.Mirrors.{rotated_over}
use Rattle.mending.specs.Turns.{FarTurnPre, NearTurnPre}

-- ---- far_turn

module _ {near far pc pc₁ pc₂ pc₃ : List ℕ} {root sibling parent color outer : ℕ}
    (pre : FarTurnPre near far pc root sibling parent) (shade : GotColor pc parent color)
    (painted₁ : SetColor pc sibling color pc₁) (painted₂ : SetColor pc₁ parent 1 pc₂)
    (got-outer : Got far sibling outer) (painted₃ : SetColor pc₂ outer 1 pc₃)
  where
    pub far_turned : {near' far' pc' : List ℕ} {root' : ℕ}
        → Mirrored (rotate_at parent) near far pc₃ root near' far' pc' root'
        → Mirrored (λ d k. far_turn d k sibling parent) near far pc root near' far' pc' root'
    unfolding far_turn rotate_at
    far_turned made = record {
      is = λ d. rw (
        sided_color d near far pc root parent,
        ← shade.is,
        sided_set_color d near far pc root sibling color,
        ← painted₁.is,
        sided_set_color d near far pc₁ root parent 1,
        ← painted₂.is,
        sided_far d near far pc₂ root sibling,
        ← got-outer.is,
        sided_set_color d near far pc₂ root outer 1,
        ← painted₃.is,
      ) (made.is d);
      bounded = made.bounded;
      same = made.same;
    }

-- from the tree: the sibling is its parent's far child
pub far_turn_at : {d : Side} {near far pc : List ℕ} {root size : ℕ} {color : Color} {inner outer : Tree} {sibling : ℕ}
    {parent_color : Color} {parent : ℕ} {place : Tree} {way : List Frame}
    → Spot d near far pc root size d color inner sibling outer (frame (opp d) parent_color parent place ∷ way)
    → 0 < at far sibling → FarTurnPre near far pc root sibling parent
far_turn_at spot some =
    let over = spot_up spot in
    record {
      bounded = spot_bounded spot;
      low = spot_low spot;
      high = spot_high spot;
      parent_low = spot_low over;
      parent_high = spot_high over;
      outer = some;
      child = rw (spot_over over) (spot_low spot);
    }

-- ---- near_turn

module _ {near far pc : List ℕ} {root sibling inner : ℕ} (pre : NearTurnPre near far pc root sibling inner) where
  all : Bounded near far pc root
  all = spot_bounded pre.spot

  pub near_color : SetColorPre pc inner
  near_color = in_set_color (spot_in pre.spot)

  module _ {pc₁ : List ℕ} (painted₁ : SetColor pc inner 1 pc₁) where
    pub near_color_2 : SetColorPre pc₁ sibling
    near_color_2 = in_set_color (in_painted (spot_in (spot_up pre.spot)) painted₁)

    module _ {pc₂ : List ℕ} (painted₂ : SetColor pc₁ sibling 0 pc₂) where
      pub near_rotate : RotatePre far near pc₂ root sibling
      near_rotate =
          let over = spot_up pre.spot in
          record {
            bounded = swap (bounded_painted (bounded_painted all painted₁) painted₂);
            low = spot_low over;
            high = omega (arith, spot_high over, all.same_far);
            child = rw (spot_near over) (spot_low pre.spot);
          }

      module _ {near₃ far₃ pc₃ : List ℕ} {root₃ : ℕ}
          (turned : Mirrored (rotate_at sibling) far near pc₂ root far₃ near₃ pc₃ root₃) where
        turned_is : (d : Side) → sided d near₃ far₃ pc₃ root₃
            ≡ rotate_in (opp d) (set_color (set_color (sided d near far pc root) inner 1) sibling 0) sibling
        turned_is d =
            rw (
              sided_set_color d near far pc root inner 1,
              ← painted₁.is,
              sided_set_color d near far pc₁ root sibling 0,
              ← painted₂.is,
            ) (rotated_over sibling turned d)

        -- the inner slot stands where the sibling was, and that below it on the far side
        upper : Spot pre.side near₃ far₃ pc₃ root₃ pre.size pre.side black pre.inner_near inner
            (nod pre.side red pre.inner_far sibling pre.outer)
            (frame (opp pre.side) pre.parent_color pre.parent pre.place ∷ pre.way)
        upper =
            let d = pre.side in let inner_near = pre.inner_near in let inner_far = pre.inner_far in
            let over = frame (opp d) pre.parent_color pre.parent pre.place ∷ pre.way in
            let way = frame d pre.color sibling pre.outer ∷ over in
            let sound = pre.spot.held.sound in
            let middle = nod d black inner_near inner inner_far in
            let sound₁ : Sound pre.size (plug (nod d pre.color middle sibling pre.outer) over)
            = paint_sound d red inner_near inner inner_far way sound black in
            let sound₂ : Sound pre.size (plug (nod d red middle sibling pre.outer) over)
            = paint_sound d pre.color middle sibling pre.outer over sound₁ red in
            record {
              held = record {
                is = turned_is d
                    ∙ rw (
                      pre.spot.held.is,
                      paint_drawn d red inner_near inner inner_far way sound black,
                      paint_drawn d pre.color middle sibling pre.outer over sound₁ red,
                    ) (raise_drawn d black inner_near inner inner_far red sibling pre.outer over sound₂);
                sound = raise_sound d black inner_near inner inner_far red sibling pre.outer over sound₂;
                small = pre.spot.held.small;
              };
            }

        lower : Spot pre.side near₃ far₃ pc₃ root₃ pre.size pre.side red pre.inner_far sibling pre.outer
            (frame (opp pre.side) black inner pre.inner_near
            ∷ frame (opp pre.side) pre.parent_color pre.parent pre.place ∷ pre.way)
        lower = spot_beside pre.side upper.held

        pub near_parent : ParentPre pc₃ sibling
        near_parent = in_parent (spot_in lower)

        module _ {raised : ℕ} (got-raised : GotParent pc₃ sibling raised) where
          raised_is : raised ≡ inner
          raised_is = got-raised.is ∙ spot_parent lower

          pub near_parent_2 : ParentPre pc₃ raised
          near_parent_2 = rw raised_is (in_parent (spot_in upper))

          module _ {parent : ℕ} (got_parent : GotParent pc₃ raised parent) where
            parent_is : parent ≡ pre.parent
            parent_is = got_parent.is ∙ ap (parent_at pc₃) raised_is ∙ spot_parent upper

            pub near_far : FarTurnPre near₃ far₃ pc₃ root₃ raised parent
            near_far = rw (raised_is, parent_is) (far_turn_at upper (rw (spot_far upper) (spot_low lower)))

            pub near_turned : {near' far' pc' : List ℕ} {root' : ℕ}
                → Mirrored (λ d k. far_turn d k raised parent) near₃ far₃ pc₃ root₃ near' far' pc' root'
                → Mirrored (λ d k. near_turn d k sibling inner) near far pc root near' far' pc' root'
            unfolding near_turn
            near_turned made = record {
              is = λ d. rw (
                ← turned_is d,
                sided_parent d near₃ far₃ pc₃ root₃ sibling,
                ← got-raised.is,
                sided_parent d near₃ far₃ pc₃ root₃ raised,
                ← got_parent.is,
              ) (made.is d);
              bounded = made.bounded;
              same = made.same ∙ turned.bounded.same_far ∙ turned.same ∙ all.same_far;
            }
