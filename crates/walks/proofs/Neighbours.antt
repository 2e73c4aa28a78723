-- step, walk and neighbour: the slot found is the next in the order of the side.
use Prim.Native.Nat.{ℕ}
use mathlib.Core.List.{List, ◌∷◌}
use mathlib.Core.Path.{◌≡◌, ap, ◌∙◌}
use mathlib.Core.Logic.{⊎_elim}
use native.Mathlib.Omega.{arith}
use lib.ListN.{length}
use borrow.Author.Tests.{eq-eqb, ne_eqb}
use Rattle.model.specs.Tree.{Side, lft, rgt, Color, Tree, opp, slots, Frame, frame}
use Rattle.model.specs.Lent.{at}
use Rattle.model.specs.Order.{next_in, prev_in}
use Rattle.theory.specs.Links.{Links}
use Rattle.theory.specs.Programs.{step_to, walk_to}
use Rattle.theory.specs.Sided.{sided}
use Rattle.theory.specs.Lists.{facing}
use Rattle.theory.specs.Focus.{Standing}
use Rattle.theory.specs.Places.{Spot}
use Rattle.theory.proofs.Sides.{by_side}
use Rattle.theory.proofs.Focus.{standing}
use Rattle.theory.proofs.Sided.{sided_opp, sided_root, sided_near}
use Rattle.theory.proofs.Walking.{walk_drawn}
use Rattle.theory.proofs.Places.{flip, bounded, long, spot_low, spot_high, spot_bounded, spot_near}
use Rattle.theory.proofs.Depth.{sound_height}
use Rattle.links.specs.declared.types.Side as code
use Rattle.links.specs.declared.types.Side.TheVariants.{Left, Right}
use Rattle.links.specs.Sides.{side_of}
use Rattle.links.specs.Reads.{GetPre, Got}
use Rattle.walks.specs.Ends.{front_at, EndPre, EndPost, FrontPre, FrontPost, ClimbPre, ClimbPost}
use Rattle.walks.specs.Steps.{StepPre, StepPost, Position, WalkPre, Walked, Adjoined}
use Rattle.walks.proofs.Spines.{end_sided}
use Rattle.walks.proofs.Rises.{rise_sided}

-- ---- step

-- the near child, as the start of a chain by the far links
child_end : (d : Side) {near far pc : List ℕ} {root C : ℕ} {c : Color} (a : Tree) {b : Tree} {x : ℕ} {w : List Frame}
    (y : ℕ)
    → Spot d near far pc root C d c a x b w → y ≡ at near x → (y ≡ 0 → ⊥) → EndPre far y
child_end d {near} {far} {pc} {root} {C} {c} a {b} {x} {w} y k e n = by_side (opp d)
    (λ a. Spot d near far pc root C d c a x b w → EndPre far y)
    (λ k. absurd (n (e ∙ spot_near k)))
    (λ q a' y' b' k. rw (e ∙ spot_near k) (record {
      side = opp d;
      other = near;
      pc = pc;
      root = root;
      size = C;
      color = q;
      near = a';
      far = b';
      way = frame d c x b ∷ w;
      spot = record { held = flip k.held };
    }))
    a k

module _ {near far pc : List ℕ} {x : ℕ} (k : StepPre near far pc x) where
  -- what its calls ask for
  pub step_get : GetPre near x
  step_get =
      record { pos = spot_low k.spot; top = spot_high k.spot; below = (spot_bounded k.spot).near_below }

  pub step_climb : ClimbPre far pc x
  step_climb =
      record {
        side = opp k.side;
        other = near;
        root = k.root;
        size = k.size;
        hand = k.side;
        color = k.color;
        near = k.near_tree;
        far = k.far_tree;
        way = k.way;
        spot = record { held = flip k.spot.held };
      }

  module _ {y : ℕ} (g : Got near x y) where
    pub step_end : (y ≡ 0 → ⊥) → EndPre far y
    step_end n = child_end k.side k.near_tree y k.spot g.is n

    -- what it promises, by either branch
    pub stepped_end : {found : ℕ} → (y ≡ 0 → ⊥) → EndPost far y found → StepPost near far pc x found
    unfolding step_to
    stepped_end n m =
        let same = (spot_bounded k.spot).same_far in
        record {
          is = λ d root. rw (
            sided_near d near far pc root x,
            ← g.is,
            ne_eqb y 0 n,
            ← sided_opp d near far pc root,
            end_sided (length near) (opp d) far near pc root y,
            ← same,
          ) m.is;
          top = omega (arith, m.top);
        }

    pub stepped_climb : {found : ℕ} → y ≡ 0 → ClimbPost far pc x found → StepPost near far pc x found
    unfolding step_to
    stepped_climb e m =
        let same = (spot_bounded k.spot).same_pc in
        record {
          is = λ d root. rw (
            sided_near d near far pc root x,
            ← g.is,
            eq-eqb y 0 e,
            ← sided_opp d near far pc root,
            rise_sided (length near) (opp d) far near pc root x,
            ← same,
          ) m.is;
          top = omega (arith, m.top);
        }

-- ---- walk

module _ {near far pc : List ℕ} {root p : ℕ} (k : WalkPre near far pc root p) where
  -- what its calls ask for
  pub walk_front : FrontPre far root
  walk_front =
      record {
        side = opp k.side;
        other = near;
        pc = pc;
        size = k.position.size;
        tree = k.position.tree;
        held = flip k.position.held;
      }

  pub walk_step : (p ≡ 0 → ⊥) → StepPre near far pc p
  walk_step n =
      let d = k.side in
      let v : Standing d p k.position.tree =
      standing d p k.position.tree (⊎_elim (λ z. absurd (n z)) (λ here. here) k.position.stands) in
      record {
        side = d;
        root = root;
        size = k.position.size;
        color = v.color;
        near_tree = v.near;
        far_tree = v.far;
        way = v.way;
        spot = record { held = rw (← v.whole) at k.position.held };
      }

  -- what it promises, by either branch
  pub walked_front : {found : ℕ} → p ≡ 0 → FrontPost far root found → Walked near far pc root p found
  unfolding walk_to front_at
  walked_front e m =
      let same = (bounded k.position.held).same_far in
      record {
        is = λ d. rw (
          eq-eqb p 0 e,
          ← sided_opp d near far pc root,
          sided_root (opp d) far near pc root,
          end_sided (length near) (opp d) far near pc root root,
          ← same,
        ) m.is;
        top = omega (arith, m.top);
      }

  pub walked_step : {found : ℕ} → (p ≡ 0 → ⊥) → StepPost near far pc p found → Walked near far pc root p found
  unfolding walk_to
  walked_step n m = record { is = λ d. rw (ne_eqb p 0 n) (m.is d root); top = m.top }

-- ---- neighbour

-- what walk_to finds on a drawing
found_next : {d : Side} {near far pc : List ℕ} {root p : ℕ} (v : Position d near far pc root p)
    → walk_to d (length near) (sided d near far pc root) p ≡ next_in p (facing d (slots v.tree))
found_next {d} {near} {p = p} v =
    ap (λ (z : Links). walk_to d (length near) z p) v.held.is
    ∙ walk_drawn d (length near) v.tree p (rw (long v.held) (sound_height v.tree v.held.sound)) v.stands
    v.held.sound

-- the same position, with the two child arrays swapped
flipped : {near far pc : List ℕ} {root p : ℕ} (d : Side) → Position d near far pc root p
    → Position (opp d) far near pc root p
flipped d v = record { size = v.size; tree = v.tree; held = flip v.held; stands = v.stands }

-- what it promises
module _ {left right pc : List ℕ} {root p : ℕ} (side : code.Side) {found : ℕ} where
  pub preceded : side ≡ Left → Walked left right pc root p found → Adjoined (side_of side) left right pc root p found
  unfolding prev_in
  preceded e m = rw e (record { is = λ v. m.is lft ∙ found_next v; top = m.top })

  pub followed : side ≡ Right → Position lft left right pc root p → Walked right left pc root p found
      → Adjoined (side_of side) left right pc root p found
  unfolding flipped
  followed e v₀ m = rw e (record {
    is = λ v. m.is rgt ∙ found_next (flipped lft v);
    top = omega (arith, m.top, (bounded v₀.held).same_far);
  })
