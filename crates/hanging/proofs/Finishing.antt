-- finish: on the tree it is the climb's last step; each call's demands, and the promise.
use Prim.Native.Nat.{ℕ, ◌≤◌}
use mathlib.Core.Bool.{Bool, true, false, true≢false}
use mathlib.Core.List.{List, [], ◌∷◌}
use mathlib.Core.Path.{◌≡◌, refl, sym, ap, ◌∙◌}
use lib.ListN.{length}
use lib.Dec.{eqb}
use native.Mathlib.Omega.{arith}
use borrow.Author.Tests.{ne_eqb}
use Rattle.model.specs.Branch.{pick}
use Rattle.model.specs.Tree.{Side, lft, rgt, Color, red, black, Tree, leaf, node, nod, top_of, is_red, Frame, frame}
use Rattle.model.specs.Tree.{plug}
use Rattle.model.specs.Lent.{at}
use Rattle.model.specs.Hanging.{climb}
use Rattle.theory.specs.Balance.{Topped}
use Rattle.theory.specs.Sound.{Sound}
use Rattle.theory.specs.Slots.{parent_at}
use Rattle.theory.specs.Links.{Links, links, drawn, red_in, side_in}
use Rattle.theory.specs.Programs.{finish, post_insert}
use Rattle.theory.specs.Places.{Spot, Made, Mirrored}
use Rattle.theory.proofs.Counts.{slot_low}
use Rattle.theory.proofs.Reading.{parent_drawn, color_drawn, top_parent, side_drawn, far_low}
use Rattle.theory.proofs.Climbing.{finish_drawn, climb_drawn}
use Rattle.theory.proofs.Sided.{sided_near, sided_parent}
use Rattle.theory.proofs.Places.{flip, spot_low, spot_high, spot_bounded, spot_parent, spot_up, spot_side}
use Rattle.theory.proofs.Depth.{spot_deep}
use Rattle.links.specs.Reads.{GetPre, Got, ParentPre, GotParent, red_at, GotRed}
use Rattle.links.proofs.Reading.{sided_red}
use Rattle.links.proofs.Colors.{red_some, spot_red}
use Rattle.turns.proofs.Mirrors.{to_left, to_right}
use Rattle.hanging.specs.Climbs.{FinishAtPre, finish_at, PostInsertPre, red_uncle, FinishPre, finish_in}

-- ---- on the tree

-- the drawing that the climb from here leads to
unfoldable pub climbed : {left right pc : List ℕ} {root x : ℕ} → PostInsertPre left right pc root x → Links
climbed {x = x} k = drawn k.size (climb (node k.color k.left_tree x k.right_tree) k.way)

pub climbed_is : {left right pc : List ℕ} {root x : ℕ} (k : PostInsertPre left right pc root x)
    → post_insert (length left) (links left right pc root) x ≡ climbed k
unfolding climbed
climbed_is {left} {x = x} k =
    ap (λ (z : Links). post_insert (length left) z x) k.spot.held.is
    ∙ climb_drawn (length left) (node k.color k.left_tree x k.right_tree) k.way
    (omega (arith, spot_deep k.spot)) (spot_low k.spot) k.topped k.spot.held.sound

module _ {C : ℕ} (x : Tree) (low : 1 ≤ top_of x) where
  finish_under : (d : Side) (p : ℕ) (s : Tree) (e : Side) (c : Color) (g : ℕ) (u : Tree) (w : List Frame)
      → is_red u ≡ false → Sound C (plug x (frame d red p s ∷ frame e c g u ∷ w))
      → finish_in (drawn C (plug x (frame d red p s ∷ frame e c g u ∷ w))) (top_of x)
      ≡ drawn C (climb x (frame d red p s ∷ frame e c g u ∷ w))
  unfolding finish_in red_in climb
  finish_under d p s e c g u w is h =
      let z = slot_low d red x p s (frame e c g u ∷ w) h in
      rw (
        top_parent x (frame d red p s ∷ frame e c g u ∷ w) low h,
        ne_eqb p 0 (λ i. omega arith),
        color_drawn d red x p s (frame e c g u ∷ w) h,
        parent_drawn d red x p s (frame e c g u ∷ w) h,
        side_drawn (nod d red x p s) e c g u w z h,
        is,
      ) (finish_drawn d e x p s c g u w low h)

  -- with no red uncle the last step is the whole climb
  finish_climbs : (w : List Frame) → Topped w → red_uncle w ≡ 0 → Sound C (plug x w)
      → finish_in (drawn C (plug x w)) (top_of x) ≡ drawn C (climb x w)
  unfolding finish_in red_in climb
  finish_climbs [] o none h = rw (top_parent x [] low h)
  finish_climbs (frame d black p s ∷ w) o none h =
      let z = slot_low d black x p s w h in
      rw (
        top_parent x (frame d black p s ∷ w) low h,
        ne_eqb p 0 (λ i. omega arith),
        color_drawn d black x p s w h,
      )
  finish_climbs (frame d red p s ∷ []) o none h = absurd o
  finish_climbs (frame d red p s ∷ frame e c g leaf ∷ w) o none h = finish_under d p s e c g leaf w refl h
  finish_climbs (frame d red p s ∷ frame e c g (node black a u b) ∷ w) o none h =
      finish_under d p s e c g (node black a u b) w refl h
  finish_climbs (frame d red p s ∷ frame e c g (node red a u b) ∷ w) o none h =
      absurd (omega (arith, far_low e c (nod d red x p s) g red a u b w h))

pub finished_is : {left right pc : List ℕ} {root x : ℕ} (k : FinishPre left right pc root x)
    → finish_in (links left right pc root) x ≡ climbed k.here
unfolding climbed
finished_is {x = x} k =
    let here = k.here in
    ap (λ (z : Links). finish_in z x) here.spot.held.is
    ∙ finish_climbs (node here.color here.left_tree x here.right_tree) (spot_low here.spot) here.way
    here.topped k.none here.spot.held.sound

-- ---- the calls

-- x hangs on the side `inner` of a red q, and that on the side `outer` of g
record Under (left right pc : List ℕ) (root x q g : ℕ) : Type 0 where
  pub size : ℕ
  pub color : Color
  pub left_tree : Tree
  pub right_tree : Tree
  pub inner : Side
  pub sibling : Tree
  pub outer : Side
  pub grand_color : Color
  pub uncle : Tree
  pub way : List Frame
  pub spot : Spot lft left right pc root size lft color left_tree x right_tree
      (frame inner red q sibling ∷ frame outer grand_color g uncle ∷ way)

under_at : {left right pc : List ℕ} {root C : ℕ} {c : Color} {a b : Tree} {x : ℕ} (w : List Frame) (q g : ℕ)
    → Spot lft left right pc root C lft c a x b w → Topped w → q ≡ parent_at pc x → red_at pc q ≡ true
    → g ≡ parent_at pc q → Under left right pc root x q g
under_at {pc = pc} [] q g k o e i f = absurd (omega (arith, red_some pc q i, spot_parent k))
under_at {pc = pc} (frame d black q' s ∷ w) q g k o e i f =
    absurd (true≢false (sym i ∙ ap (red_at pc) (e ∙ spot_parent k) ∙ spot_red (spot_up k)))
under_at (frame d red q' s ∷ []) q g k o e i f = absurd o
under_at {left} {right} {pc} {root} {C} {c} {a} {b} {x} (frame d red q' s ∷ frame d' c' g' u ∷ w) q g k o e i f =
    let parent : q ≡ q' = e ∙ spot_parent k in
    let grand : g ≡ g' = f ∙ ap (parent_at pc) parent ∙ spot_parent (spot_up k) in
    record {
      size = C;
      color = c;
      left_tree = a;
      right_tree = b;
      inner = d;
      sibling = s;
      outer = d';
      grand_color = c';
      uncle = u;
      way = w;
      spot = rw (parent, grand) k;
    }

-- what finish_at asks for
under_near : {d i : Side} {near far pc : List ℕ} {root C : ℕ} {c cg : Color} {a b s u : Tree} {x q g : ℕ}
    {w : List Frame}
    → Spot d near far pc root C d c a x b (frame i red q s ∷ frame d cg g u ∷ w) → FinishAtPre near far pc root x q
under_near {d} {i} {C = C} {c = c} {cg = cg} {a = a} {b = b} {s = s} {u = u} {g = g} {w = w} k =
    record {
      side = d;
      inner = i;
      size = C;
      color = c;
      near_tree = a;
      far_tree = b;
      sibling = s;
      grand = g;
      grand_color = cg;
      uncle = u;
      way = w;
      spot = k;
    }

-- where q hangs on the left of g, and where on the right
module _ {left right pc : List ℕ} {root C : ℕ} {i : Side} {c cg : Color} {a b s u : Tree} {x q g : ℕ}
    {w : List Frame} where
  under_left : (outer : Side) → Spot lft left right pc root C lft c a x b (frame i red q s ∷ frame outer cg g u ∷ w)
      → eqb (at left g) q ≡ true → FinishAtPre left right pc root x q
  under_left lft k is = under_near k
  under_left rgt k is = absurd (true≢false (sym is ∙ spot_side (spot_up k)))

  under_right : (outer : Side) → Spot lft left right pc root C lft c a x b (frame i red q s ∷ frame outer cg g u ∷ w)
      → eqb (at left g) q ≡ false → FinishAtPre right left pc root x q
  under_right lft k is = absurd (true≢false (sym (spot_side (spot_up k)) ∙ is))
  under_right rgt k is =
      let over : Spot rgt right left pc root C rgt c b x a (frame i red q s ∷ frame rgt cg g u ∷ w)
      = record { held = flip k.held } in
      under_near over

module _ {left right pc : List ℕ} {root x : ℕ} (k : PostInsertPre left right pc root x) where
  -- what the first call asks for
  pub finish_parent : ParentPre pc x
  finish_parent =
      let b = spot_bounded k.spot in
      record { pos = spot_low k.spot; top = omega (arith, spot_high k.spot, b.same_pc); parents = b.parents }

  module _ {q : ℕ} {b : Bool} (parent : GotParent pc x q) (test : GotRed pc q b) where
    -- the promise under a black parent
    pub finished_black : b ≡ false → Made (finish_in (links left right pc root) x) (length left) left right pc root
    unfolding finish_in
    finished_black e =
        record {
          is = rw (
            sided_parent lft left right pc root x,
            ← parent.is,
            sided_red lft left right pc root q,
            ← test.is,
            e,
          ) refl;
          bounded = spot_bounded k.spot;
          same = refl;
        }

    -- what the calls under a red one ask for
    module _ (e : b ≡ true) where
      pub finish_parent_2 : ParentPre pc q
      finish_parent_2 =
          record {
            pos = red_some pc q (sym test.is ∙ e);
            top = parent.top;
            parents = (spot_bounded k.spot).parents;
          }

      module _ {g : ℕ} (grand : GotParent pc q g) where
        under : Under left right pc root x q g
        under = under_at k.way q g k.spot k.topped parent.is (sym test.is ∙ e) grand.is

        pub finish_get_left : GetPre left g
        finish_get_left =
            let j = spot_up (spot_up under.spot) in
            record { pos = spot_low j; top = spot_high j; below = (spot_bounded j).near_below }

        module _ {y : ℕ} (first : Got left g y) {t : Bool} (same : t ≡ eqb y q) where
          t_is : eqb (at left g) q ≡ t
          t_is = rw (← first.is, ← same) refl

          pub finish_left : t ≡ true → FinishAtPre left right pc root x q
          finish_left z = under_left under.outer under.spot (t_is ∙ z)

          pub finish_right : t ≡ false → FinishAtPre right left pc root x q
          finish_right z = under_right under.outer under.spot (t_is ∙ z)

          finished_at : finish_in (links left right pc root) x ≡ finish (pick t lft rgt) (links left right pc root) x q
          unfolding finish_in side_in
          finished_at =
              rw (
                sided_parent lft left right pc root x,
                ← parent.is,
                sided_red lft left right pc root q,
                ← test.is,
                e,
                sided_parent lft left right pc root q,
                ← grand.is,
                sided_near lft left right pc root g,
                t_is,
              ) refl

          -- the promise, with q on the left and on the right
          pub finished_left : {left' right' pc' : List ℕ} {root' : ℕ} → t ≡ true
              → Mirrored (finish_at x q) left right pc root left' right' pc' root'
              → Made (finish_in (links left right pc root) x) (length left) left' right' pc' root'
          unfolding finish_at
          finished_left z m = rw (finished_at, z) (to_left m)

          pub finished_right : {left' right' pc' : List ℕ} {root' : ℕ} → t ≡ false
              → Mirrored (finish_at x q) right left pc root right' left' pc' root'
              → Made (finish_in (links left right pc root) x) (length left) left' right' pc' root'
          unfolding finish_at
          finished_right z m = rw (finished_at, z) (to_right m (sym (spot_bounded k.spot).same_far))
