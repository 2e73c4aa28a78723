-- A turn of the loop on a drawing: what pass tells there, and that the sibling turns red.
use Prim.Native.Nat.{ℕ, ◌<◌}
use mathlib.Core.Bool.{Bool, true, false, true≢false, ◌||◌}
use mathlib.Core.List.{List, [], ◌∷◌}
use mathlib.Core.Path.{◌≡◌, refl}
use lib.Dec.{eqb}
use native.Mathlib.Omega.{arith}
use borrow.Author.Tests.{ne_eqb}
use Rattle.model.specs.Branch.{pick}
use Rattle.model.specs.Tree.{Side, lft, opp, on, Color, red, black, Tree, leaf, node, nod, top_of, is_red, paint, Frame}
use Rattle.model.specs.Tree.{frame, plug}
use Rattle.model.specs.Lent.{color_code}
use Rattle.model.specs.Removal.{red_child, root_or_red}
use Rattle.theory.specs.Sound.{Sound}
use Rattle.theory.specs.Links.{drawn, red_in, set_color}
use Rattle.theory.specs.Rounds.{passes}
use Rattle.theory.specs.Places.{sibling_of, Firm, Solid}
use Rattle.theory.proofs.Counts.{slot_low}
use Rattle.theory.proofs.Reading.{near_drawn, far_drawn, parent_drawn, color_drawn, far_place, paint_far_drawn}
use Rattle.theory.proofs.Reading.{paint_far_sound, near_red_drawn, far_red_drawn}
use Rattle.theory.proofs.Removing.{sibling_drawn, sibling_low}
use Rattle.mending.specs.Passes.{red_below, pass_in}

-- the test of a red slot, at a node
red_drawn : {C : ℕ} (d : Side) (c : Color) (near : Tree) (x : ℕ) (far : Tree) (w : List Frame)
    → Sound C (plug (nod d c near x far) w)
    → red_in (drawn C (plug (nod d c near x far) w)) x ≡ eqb (color_code c) 0
unfolding red_in
red_drawn d c near x far w h =
    let low = slot_low d c near x far w h in
    rw (ne_eqb x 0 (λ i. omega arith), color_drawn d c near x far w h)

-- its tests are those of `passes`
module _ (k : Color) (a : Tree) (s : ℕ) (b : Tree) where
  pass_tests : (d : Side) (q : ℕ) (c : Color) (w : List Frame)
      → pick (eqb (color_code k) 0) 0 (pick (is_red a || is_red b) 0 (pick (eqb (color_code c) 0) 0 (sibling_of w)))
      ≡ pick (passes (frame d c q (node k a s b) ∷ w)) (sibling_of w) 0
  unfolding passes red_child
  pass_tests d q c w = go k (is_red a || is_red b) c w
    where
      go : (k : Color) (below : Bool) (c : Color) (w : List Frame)
          → pick (eqb (color_code k) 0) 0 (pick below 0 (pick (eqb (color_code c) 0) 0 (sibling_of w)))
          ≡ pick (pick (is_red (node k a s b)) false (pick below false (pick (root_or_red c w) false true)))
          (sibling_of w) 0
      go red below c w = refl
      go black true c w = refl
      go black false red w = refl
      go black false black [] = refl
      go black false black (f ∷ w) = refl

module _ {C : ℕ} (d : Side) (c : Color) (q : ℕ) (t : Tree) (w : List Frame) where
  pass_node : (k : Color) (a : Tree) (s : ℕ) (b : Tree) → Sound C (plug t (frame d c q (node k a s b) ∷ w))
      → pass_in (drawn C (plug t (frame d c q (node k a s b) ∷ w))) s
      ≡ pick (passes (frame d c q (node k a s b) ∷ w)) (sibling_of w) 0
  unfolding pass_in red_below
  pass_node k a s b h =
      let here = node k a s b in let v = frame (opp d) c q t ∷ w in
      let h' : Sound C (plug here v) = rw (far_place d c t q here w) h in
      rw (
        ← far_place d c t q here w,
        parent_drawn lft k a s b v h',
        red_drawn lft k a s b v h',
        near_drawn lft k a s b v h',
        far_drawn lft k a s b v h',
        near_red_drawn lft k a s b v h',
        far_red_drawn lft k a s b v h',
        red_drawn (opp d) c here q t w h',
        sibling_drawn c (on (opp d) here t) q (on (opp d) t here) w h',
      ) (pass_tests k a s b d q c w)

  -- pass tells the next sibling where the missing black is passed up, else 0
  pub pass_drawn : (u : Tree) → Firm d u → Sound C (plug t (frame d c q u ∷ w))
      → pass_in (drawn C (plug t (frame d c q u ∷ w))) (top_of u) ≡ pick (passes (frame d c q u ∷ w)) (sibling_of w) 0
  pass_drawn leaf none h = absurd none
  pass_drawn (node k a s b) firm h = pass_node k a s b h

  -- the sibling turns red
  pub red_sibling : (u : Tree) → Firm d u → Sound C (plug t (frame d c q u ∷ w))
      → (set_color (drawn C (plug t (frame d c q u ∷ w))) (top_of u) 0 ≡ drawn C (plug (nod d c t q (paint red u)) w))
      × Sound C (plug (nod d c t q (paint red u)) w)
  red_sibling leaf none h = absurd none
  red_sibling (node k a s b) firm h =
      (paint_far_drawn d c t q k a s b w h red, paint_far_sound d c t q k a s b w h red)

-- where the missing black is passed up, there is a next sibling
pub next_low : {C : ℕ} (t : Tree) (c : Color) (w : List Frame) → root_or_red c w ≡ false → Solid w → Sound C (plug t w)
    → 0 < sibling_of w
next_low t red w goes solid h = absurd (true≢false goes)
next_low t black [] goes solid h = absurd (true≢false goes)
next_low t black (frame d c q u ∷ w) goes solid h = sibling_low t d c q u w solid.0 h
