-- lower_end and red_turn: each call's demands, from what the calls before it left, and the promises.
use Prim.Native.Nat.{ℕ, ◌≤◌}
use mathlib.Core.Bool.{Bool, true, false, true≢false}
use mathlib.Core.List.{List, ◌∷◌}
use mathlib.Core.Path.{◌≡◌, refl, sym, ap, ◌∙◌}
use lib.ListN.{length}
use native.Mathlib.Omega.{arith}
use Rattle.model.specs.Branch.{pick}
use Rattle.model.specs.Tree.{Side, opp, Color, red, black, Tree, nod, Frame, frame}
use Rattle.model.specs.Lent.{at}
use Rattle.theory.specs.Slots.{parent_at}
use Rattle.theory.specs.Links.{Links, set_color}
use Rattle.theory.specs.Sided.{sided}
use Rattle.theory.specs.Programs.{far_turn, near_turn, red_turn}
use Rattle.theory.specs.Rounds.{lower_end}
use Rattle.theory.specs.Places.{Bounded, Spot, Mirrored}
use Rattle.theory.proofs.Sides.{by_side}
use Rattle.theory.proofs.Sided.{sided_near, sided_far, sided_set_color}
use Rattle.theory.proofs.Sinking.{red_sound, red_turn_drawn}
use Rattle.theory.proofs.Places.{spot_low, spot_high, spot_bounded, spot_parent, spot_near, spot_over, spot_up}
use Rattle.links.specs.Reads.{GetPre, Got, red_at, GotRed}
use Rattle.links.specs.Writes.{SetColorPre, SetColor}
use Rattle.links.proofs.Reading.{sided_red}
use Rattle.links.proofs.Colors.{red_some, spot_red}
use Rattle.links.proofs.Spots.{spot_in, in_get, in_get_far, in_set_color, in_painted, bounded_painted}
use Rattle.turns.specs.Turns.{RotatePre, rotate_at}
use Rattle.mending.specs.Turns.{FarTurnPre, NearTurnPre, LowerEndPre, RedTurnPre, RedTurned}
use Rattle.mending.proofs.Turning.{far_turn_at}

-- ---- lower_end

-- a red near child, as near_turn wants it
module _ {d : Side} {near far pc : List ℕ} {root size : ℕ} {outer : Tree} {sibling : ℕ} {parent_color : Color}
    {parent : ℕ} {place : Tree} {way : List Frame} {inner : ℕ} (is : inner ≡ at near sibling)
    (tested : red_at pc inner ≡ true) where
  near_turn_by : (color : Color) (inner_near : Tree) (slot : ℕ) (inner_far : Tree)
      → Spot d near far pc root size d color inner_near slot inner_far
      (frame d black sibling outer ∷ frame (opp d) parent_color parent place ∷ way)
      → NearTurnPre near far pc root sibling inner
  near_turn_by black inner_near slot inner_far spot =
      absurd (true≢false (sym tested ∙ ap (red_at pc) (is ∙ spot_near (spot_up spot)) ∙ spot_red spot))
  near_turn_by red inner_near slot inner_far spot = rw (is ∙ spot_near (spot_up spot)) (record {
    side = d;
    size = size;
    inner_near = inner_near;
    inner_far = inner_far;
    color = black;
    outer = outer;
    parent_color = parent_color;
    parent = parent;
    place = place;
    way = way;
    spot = spot;
  })

  near_turn_at : (tree : Tree)
      → Spot d near far pc root size d black tree sibling outer (frame (opp d) parent_color parent place ∷ way)
      → NearTurnPre near far pc root sibling inner
  near_turn_at = by_side d
      (λ tree. Spot d near far pc root size d black tree sibling outer
      (frame (opp d) parent_color parent place ∷ way)
      → NearTurnPre near far pc root sibling inner)
      (λ spot. absurd (omega (arith, red_some pc inner tested, spot_near spot)))
      (λ color inner_near slot inner_far spot.
      near_turn_by color inner_near slot inner_far (record { held = spot.held }))

module _ {near far pc : List ℕ} {root sibling parent : ℕ} (pre : LowerEndPre near far pc root sibling parent) where
  all : Bounded near far pc root
  all = spot_bounded pre.spot

  pub lower_get : GetPre far sibling
  lower_get = in_get_far (spot_in pre.spot)

  pub lower_get_2 : GetPre near sibling
  lower_get_2 = in_get (spot_in pre.spot)

  pub lower_red : {outer : ℕ} → Got far sibling outer → outer ≤ length pc
  lower_red got-outer = omega (arith, got-outer.top, all.same_pc, all.same_far)

  pub lower_red_2 : {inner : ℕ} → Got near sibling inner → inner ≤ length pc
  lower_red_2 got-inner = omega (arith, got-inner.top, all.same_pc)

  pub lower_color : SetColorPre pc sibling
  lower_color = in_set_color (spot_in pre.spot)

  pub lower_color_2 : {pc₁ : List ℕ} → SetColor pc sibling 0 pc₁ → SetColorPre pc₁ parent
  lower_color_2 painted = in_set_color (in_painted (spot_in (spot_up pre.spot)) painted)

  module _ {outer : ℕ} {outer-red : Bool} (got-outer : Got far sibling outer)
      (tested-outer : GotRed pc outer outer-red) where
    pub lower_far : outer-red ≡ true → FarTurnPre near far pc root sibling parent
    lower_far e = far_turn_at pre.spot (rw (← got-outer.is) (red_some pc outer (sym tested-outer.is ∙ e)))

    pub lowered_far : {near' far' pc' : List ℕ} {root' : ℕ} → outer-red ≡ true
        → Mirrored (λ d k. far_turn d k sibling parent) near far pc root near' far' pc' root'
        → Mirrored (λ d k. lower_end d k sibling parent) near far pc root near' far' pc' root'
    unfolding lower_end
    lowered_far e made = record {
      is = λ d. rw (
        sided_far d near far pc root sibling,
        ← got-outer.is,
        sided_red d near far pc root outer,
        ← tested-outer.is,
        e,
      ) (made.is d);
      bounded = made.bounded;
      same = made.same;
    }

    module _ (black-outer : outer-red ≡ false) {inner : ℕ} {inner-red : Bool} (got-inner : Got near sibling inner)
        (tested-inner : GotRed pc inner inner-red) where
      pub lower_near : inner-red ≡ true → NearTurnPre near far pc root sibling inner
      lower_near e = near_turn_at got-inner.is (sym tested-inner.is ∙ e) pre.inner pre.spot

      -- the model's choice, by the children that were read
      lower_by : (d : Side) → let all = sided d near far pc root in
          lower_end d all sibling parent
          ≡ pick inner-red (near_turn d all sibling inner) (set_color (set_color all sibling 0) parent 1)
      unfolding lower_end
      lower_by d = rw (
        sided_far d near far pc root sibling,
        ← got-outer.is,
        sided_red d near far pc root outer,
        ← tested-outer.is,
        black-outer,
        sided_near d near far pc root sibling,
        ← got-inner.is,
        sided_red d near far pc root inner,
        ← tested-inner.is,
      )

      pub lowered_near : {near' far' pc' : List ℕ} {root' : ℕ} → inner-red ≡ true
          → Mirrored (λ d k. near_turn d k sibling inner) near far pc root near' far' pc' root'
          → Mirrored (λ d k. lower_end d k sibling parent) near far pc root near' far' pc' root'
      lowered_near e made =
          record { is = λ d. rw (lower_by d, e) (made.is d); bounded = made.bounded; same = made.same }

      pub lowered_none : {pc₁ pc₂ : List ℕ} → inner-red ≡ false → SetColor pc sibling 0 pc₁ → SetColor pc₁ parent 1 pc₂
          → Mirrored (λ d k. lower_end d k sibling parent) near far pc root near far pc₂ root
      lowered_none {pc₁} none painted₁ painted₂ = record {
        is = λ d. rw (
          lower_by d,
          none,
          sided_set_color d near far pc root sibling 0,
          ← painted₁.is,
          sided_set_color d near far pc₁ root parent 1,
          ← painted₂.is,
        ) refl;
        bounded = bounded_painted (bounded_painted all painted₁) painted₂;
        same = refl;
      }

-- ---- red_turn: the sibling stands where its parent was, and that below it, with the inner child as its far one

module _ {near far pc : List ℕ} {root sibling parent : ℕ} (pre : RedTurnPre near far pc root sibling parent) where
  pub red_color : SetColorPre pc sibling
  red_color = in_set_color (spot_in pre.spot)

  module _ {pc₁ : List ℕ} (painted₁ : SetColor pc sibling 1 pc₁) where
    pub red_color_2 : SetColorPre pc₁ parent
    red_color_2 = in_set_color (in_painted (spot_in (spot_up pre.spot)) painted₁)

    module _ {pc₂ : List ℕ} (painted₂ : SetColor pc₁ parent 0 pc₂) where
      pub red_rotate : RotatePre near far pc₂ root parent
      red_rotate =
          let over = spot_up pre.spot in
          record {
            bounded = bounded_painted (bounded_painted (spot_bounded pre.spot) painted₁) painted₂;
            low = spot_low over;
            high = spot_high over;
            child = rw (spot_over over) (spot_low pre.spot);
          }

      module _ {near' far' pc' : List ℕ} {root' : ℕ}
          (turned : Mirrored (rotate_at parent) near far pc₂ root near' far' pc' root') where
        made : Mirrored (λ d k. red_turn d k sibling parent) near far pc root near' far' pc' root'
        unfolding red_turn rotate_at
        made = record {
          is = λ d. rw (
            sided_set_color d near far pc root sibling 1,
            ← painted₁.is,
            sided_set_color d near far pc₁ root parent 0,
            ← painted₂.is,
          ) (turned.is d);
          bounded = turned.bounded;
          same = turned.same;
        }

        upper : Spot pre.side near' far' pc' root' pre.size pre.side black
            (nod (opp pre.side) red (nod pre.side black pre.inner_near pre.inner pre.inner_far) parent
            pre.place) sibling pre.outer pre.way
        upper =
            let d = pre.side in let tree = nod d black pre.inner_near pre.inner pre.inner_far in
            let sound = pre.spot.held.sound in
            record {
              held = record {
                is = made.is d ∙ ap (λ (z : Links). red_turn d z sibling parent) pre.spot.held.is
                    ∙ red_turn_drawn d pre.parent_color tree sibling pre.outer parent pre.place pre.way
                    sound;
                sound = red_sound d pre.parent_color tree sibling pre.outer parent pre.place pre.way sound;
                small = pre.spot.held.small;
              };
            }

        lower : Spot pre.side near' far' pc' root' pre.size pre.side black pre.inner_near pre.inner
            pre.inner_far
            (frame (opp pre.side) red parent pre.place ∷ frame pre.side black sibling pre.outer ∷ pre.way)
        lower = record { held = upper.held }

        pub red_get : GetPre near' sibling
        red_get = in_get (spot_in upper)

        module _ {below : ℕ} (got-below : Got near' sibling below) where
          below_is : below ≡ parent
          below_is = got-below.is ∙ spot_near upper

          pub red_get_2 : GetPre far' below
          red_get_2 = rw below_is (in_get_far (spot_in (spot_up lower)))

          pub red_turned : {new : ℕ} → Got far' below new
              → RedTurned near far pc root sibling parent near' far' pc' root' new
          red_turned {new} got-new =
              let new_is : new ≡ pre.inner = got-new.is ∙ ap (at far') below_is ∙ spot_over (spot_up lower) in
              let parent_is : parent_at pc' new ≡ parent = ap (parent_at pc') new_is ∙ spot_parent lower in
              record {
                made = made;
                is = got-new.is ∙ ap (at far') got-below.is;
                lower = rw (parent_is, new_is) (record {
                  side = pre.side;
                  size = pre.size;
                  inner = pre.inner_near;
                  outer = pre.inner_far;
                  parent_color = red;
                  place = pre.place;
                  way = frame pre.side black sibling pre.outer ∷ pre.way;
                  spot = lower;
                });
              }
