-- The missing black of a removal, case by case. The place t lies on the side d of q, and its sibling s has a near and a
-- far child.
use Prim.Native.Nat.{ℕ}
use mathlib.Core.Path.{◌≡◌, refl}
use mathlib.Core.Bool.{true, false, ◌||◌, or_comm, or-true, or-false}
use mathlib.Core.List.{List, ◌∷◌}
use Rattle.model.specs.Tree.{Side, lft, rgt, Color, red, black, Tree, nod, is_red, paint, Frame, frame, plug}
use Rattle.model.specs.Removal.{red_child, turn_inner, turn_last, root_or_red, below_black, below_red, refill}
use Rattle.theory.proofs.Branch.{by-test}
use Rattle.theory.proofs.Sides.{red_side, child_near, child_far}

red_child_nod : (d : Side) (k : Color) (near : Tree) (s : ℕ) (far : Tree)
    → red_child (nod d k near s far) ≡ is_red near || is_red far
unfolding red_child
red_child_nod lft k near s far = refl
red_child_nod rgt k near s far = or_comm (is_red far) (is_red near)

turn_last_nod : (d : Side) (c : Color) (t : Tree) (q : ℕ) (k : Color) (near : Tree) (s : ℕ) (far : Tree)
    → turn_last d c t q (nod d k near s far) ≡ nod d c (nod d black t q near) s (paint black far)
unfolding turn_last
turn_last_nod lft c t q k near s far = refl
turn_last_nod rgt c t q k near s far = refl

-- a red far child: nothing to do before the last rotation
turn_inner_far : (d : Side) (k : Color) (near : Tree) (s : ℕ) (far : Tree) → is_red far ≡ true
    → turn_inner d (nod d k near s far) ≡ nod d k near s far
unfolding turn_inner
turn_inner_far d k near s far is = rw (child_far d k near s far, is)

-- only the near child is red: it comes up
turn_inner_near : (d : Side) (k : Color) (a : Tree) (y : ℕ) (b : Tree) (s : ℕ) (far : Tree) → is_red far ≡ false
    → turn_inner d (nod d k (nod d red a y b) s far) ≡ nod d black a y (nod d red b s far)
unfolding turn_inner
turn_inner_near lft k a y b s far is = rw is
turn_inner_near rgt k a y b s far is = rw is

-- what holds of each of the four ends holds of a step below a black sibling
module _ (P : Tree → Type 0) (d : Side) (c : Color) (t : Tree) (q : ℕ) (s : ℕ) (far : Tree) (up : List Frame)
    (repeat : Tree → Tree) where
  pub below_by : (near : Tree)
      → (is_red far ≡ true → P (plug (nod d c (nod d black t q near) s (paint black far)) up))
      → (is_red far ≡ false → (a : Tree) (y : ℕ) (b : Tree) → near ≡ nod d red a y b
      → P (plug (nod d c (nod d black t q a) y (nod d black b s far)) up))
      → (is_red near ≡ false → is_red far ≡ false → root_or_red c up ≡ true
      → P (plug (nod d black t q (nod d red near s far)) up))
      → (is_red near ≡ false → is_red far ≡ false → root_or_red c up ≡ false
      → P (repeat (nod d c t q (nod d red near s far))))
      → P (below_black d c t q (nod d black near s far) up repeat)
  unfolding below_black
  below_by near outer inner ends goes =
      rw (red_child_nod d black near s far) (by-test (is_red far)
      (λ is. rw (
        is,
        or-true (is_red near),
        turn_inner_far d black near s far is,
        turn_last_nod d c t q black near s far,
      ) (outer is))
      (λ is. rw (is, or-false (is_red near)) (by-test (is_red near)
      (λ near-is.
      let v = red_side d near near-is in
      rw v.3 (up_near v.0 v.1 v.2 is (inner is v.0 v.1 v.2 v.3)))
      (λ near-is. rw near-is (by-test (root_or_red c up)
      (λ e. rw e (ends near-is is e))
      (λ e. rw e (goes near-is is e)))))))
    where
      up_near : (a : Tree) (y : ℕ) (b : Tree) → is_red far ≡ false
          → P (plug (nod d c (nod d black t q a) y (nod d black b s far)) up)
          → P (plug (turn_last d c t q (turn_inner d (nod d black (nod d red a y b) s far))) up)
      up_near a y b is h =
          rw (turn_inner_near d black a y b s far is, turn_last_nod d c t q black a y (nod d red b s far)) h

-- a red sibling comes up, and its near child is the sibling then
pub refill_red : (t : Tree) (d : Side) (c : Color) (q : ℕ) (near : Tree) (s : ℕ) (far : Tree) (up : List Frame)
    → refill t (frame d c q (nod d red near s far) ∷ up)
    ≡ below_black d red t q near (frame d black s far ∷ up) (λ u. u)
unfolding refill below_red
refill_red t d c q near s far up = rw (child_near d red near s far, child_far d red near s far)

pub refill_black : (t : Tree) (d : Side) (c : Color) (q : ℕ) (near : Tree) (s : ℕ) (far : Tree) (up : List Frame)
    → refill t (frame d c q (nod d black near s far) ∷ up)
    ≡ below_black d c t q (nod d black near s far) up (λ u. refill u up)
unfolding refill
refill_black t d c q near s far up = refl
