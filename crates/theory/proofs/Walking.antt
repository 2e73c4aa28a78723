-- next and prev over a drawing: the slot that follows in the in-order list, forwards and backwards.
use Prim.Native.Nat.{ℕ, zero, suc, ◌≤◌, ◌<◌}
use mathlib.Core.Path.{◌≡◌, refl, sym, ◌∙◌}
use mathlib.Core.List.{List, [], ◌∷◌, ◌++◌, append_assoc, Memᴰ}
use mathlib.Core.Logic.{◌⊎◌, inl, inr}
use native.Mathlib.Omega.{arith}
use lib.ListN.{length}
use lib.Dec.{eqb}
use borrow.Author.Tests.{ne_eqb}
use Rattle.model.specs.Branch.{pick}
use Rattle.model.specs.Tree.{Side, lft, rgt, Color, Tree, leaf, node, opp, same_side, nod, top_of, slots, Frame, frame}
use Rattle.model.specs.Tree.{plug}
use Rattle.model.specs.Order.{first_slot, next_in}
use Rattle.model.specs.Draw.{lay, draw}
use Rattle.theory.specs.Balance.{height}
use Rattle.theory.specs.Sound.{Sound}
use Rattle.theory.specs.Lists.{before, beyond, facing}
use Rattle.theory.specs.Focus.{Standing}
use Rattle.theory.specs.Links.{drawn}
use Rattle.theory.specs.Programs.{end_of, rise, step_to, walk_to}
use Rattle.theory.proofs.Sides.{opp_opp, by_side}
use Rattle.theory.proofs.Counts.{slot_low}
use Rattle.theory.proofs.Height.{height_nod, height_plug}
use Rattle.theory.proofs.Lists.{sound_zero, reverse_at}
use Rattle.theory.proofs.Focus.{standing}
use Rattle.theory.proofs.Positions.{next_at, first_facing}
use Rattle.theory.proofs.Reading.{near_drawn, top_parent, on_drawn}

-- ---- lists on the way to a side

-- a tree's list begins with that of its child away from the side
pub facing_opp : (d : Side) (c : Color) (near : Tree) (x : ℕ) (far : Tree)
    → facing (opp d) (slots (nod d c near x far)) ≡ facing (opp d) (slots near) ++ x ∷ facing (opp d) (slots far)
facing_opp lft c near x far = refl
facing_opp rgt c near x far = reverse_at (slots far) x (slots near)

-- what comes after a tree that is not empty doesn't change its first slot
pub first_nod : (e d : Side) (c : Color) (near : Tree) (x : ℕ) (far : Tree) (L : List ℕ)
    → first_slot (facing e (slots (nod d c near x far)) ++ L) ≡ first_slot (facing e (slots (nod d c near x far)))
first_nod e lft c near x far L = first_facing e c near x far L
first_nod e rgt c near x far L = first_facing e c far x near L

facing_leaf : (d : Side) → facing d (slots leaf) ≡ []
facing_leaf lft = refl
facing_leaf rgt = refl

-- ---- down to the end of a tree

module _ {C : ℕ} (d : Side) where
  -- x's child on the side is the near one
  end_at : (n : ℕ) (c : Color) (near : Tree) (x : ℕ) (far : Tree) (w : List Frame)
      → Sound C (plug (nod d c near x far) w)
      → (1 ≤ top_of near
      → end_of d n (drawn C (plug (nod d c near x far) w)) (top_of near) ≡ first_slot (facing (opp d) (slots near)))
      → end_of d (suc n) (drawn C (plug (nod d c near x far) w)) x
      ≡ first_slot (facing (opp d) (slots (nod d c near x far)))
  unfolding end_of
  end_at n c leaf x far w h go =
      rw (near_drawn d c leaf x far w h, facing_opp d c leaf x far, facing_leaf (opp d))
  end_at n c (node k l y r) x far w h go =
      let low = slot_low lft k l y r (frame d c x far ∷ w) h in
      rw (near_drawn d c (node k l y r) x far w h, ne_eqb y 0 (λ e. omega arith), facing_opp d c (node k l y r) x far)
      (go low ∙ sym (first_facing (opp d) k l y r (x ∷ facing (opp d) (slots far))))

  -- first_child (the side lft) and last_child
  pub end_drawn : (n : ℕ) (t : Tree) (w : List Frame) → 1 ≤ top_of t → height t ≤ n → Sound C (plug t w)
      → end_of d n (drawn C (plug t w)) (top_of t) ≡ first_slot (facing (opp d) (slots t))
  end_drawn zero leaf w low le h = absurd (omega arith)
  end_drawn zero (node c l x r) w low le h = absurd (omega arith)
  end_drawn (suc n) t w low le h = by_side d
      (λ t. 1 ≤ top_of t → height t ≤ suc n → Sound C (plug t w)
      → end_of d (suc n) (drawn C (plug t w)) (top_of t) ≡ first_slot (facing (opp d) (slots t)))
      (λ low. absurd (omega arith))
      (λ c near x far _ le h. end_at n c near x far w h
      (λ low. end_drawn n near (frame d c x far ∷ w) low (omega (arith, height_nod d c near x far)) h))
      t low le h

-- ---- up to the first slot beyond a place

-- one step up
rise_at_lem : {C : ℕ} (d : Side) (n : ℕ) (t : Tree) (e : Side) (c : Color) (p : ℕ) (s : Tree) (w : List Frame)
    → 1 ≤ top_of t
    → Sound C (plug t (frame e c p s ∷ w))
    → rise d (suc n) (drawn C (plug t (frame e c p s ∷ w))) (top_of t)
    ≡ pick (same_side e d) p (rise d n (drawn C (plug t (frame e c p s ∷ w))) p)
unfolding rise
rise_at_lem d n t e c p s w low h =
    let z = slot_low e c t p s w h in
    rw (top_parent t (frame e c p s ∷ w) low h, ne_eqb p 0 (λ i. omega arith), on_drawn t d e c p s w low h)

-- beyond a place comes its parent, where it hangs on the other side of it, and what is beyond the parent's place
first_beyond : (d e : Side) (c : Color) (p : ℕ) (s : Tree) (w : List Frame) (r : ℕ)
    → r ≡ first_slot (facing d (beyond d w))
    → pick (same_side e (opp d)) p r ≡ first_slot (facing d (beyond d (frame e c p s ∷ w)))
first_beyond lft lft c p s w r is = is
first_beyond lft rgt c p s w r is =
    rw (← append_assoc (before w) (slots s) (p ∷ []), reverse_at (before w ++ slots s) p [])
first_beyond rgt lft c p s w r is = refl
first_beyond rgt rgt c p s w r is = is

first_none : (d : Side) → first_slot (facing d (beyond d [])) ≡ 0
first_none lft = refl
first_none rgt = refl

pub rise_drawn : {C : ℕ} (d : Side) (n : ℕ) (t : Tree) (w : List Frame) → 1 ≤ top_of t → length w < n
    → Sound C (plug t w) → rise (opp d) n (drawn C (plug t w)) (top_of t) ≡ first_slot (facing d (beyond d w))
unfolding rise
rise_drawn d zero t w low le h = absurd (omega arith)
rise_drawn d (suc n) t [] low le h = rw (top_parent t [] low h, first_none d)
rise_drawn {C} d (suc n) t (frame e c p s ∷ w) low le h =
    rise_at_lem (opp d) n t e c p s w low h
    ∙ first_beyond d e c p s w (rise (opp d) n (drawn C (plug (nod e c t p s) w)) p)
    (rise_drawn d n (nod e c t p s) w (slot_low e c t p s w h) (omega arith) h)

-- ---- the slot that follows

step_first : {C : ℕ} (d : Side) (n : ℕ) (c : Color) (near : Tree) (x : ℕ) (far : Tree) (w : List Frame)
    → height near ≤ n → length w < n → Sound C (plug (nod d c near x far) w)
    → step_to d n (drawn C (plug (nod d c near x far) w)) x
    ≡ first_slot (facing d (slots near) ++ facing d (beyond d w))
unfolding step_to
step_first d n c leaf x far w up down h =
    rw (near_drawn d c leaf x far w h, facing_leaf d)
    (rise_drawn d n (nod d c leaf x far) w (slot_low d c leaf x far w h) down h)
step_first d n c (node k l y r) x far w up down h =
    let low = slot_low lft k l y r (frame d c x far ∷ w) h in
    rw (near_drawn d c (node k l y r) x far w h, ne_eqb y 0 (λ e. omega arith))
    (end_drawn (opp d) n (node k l y r) (frame d c x far ∷ w) low up h
    ∙ rw (opp_opp d) (sym (first_facing d k l y r (facing d (beyond d w)))))

-- x's child on the side is the near one
pub step_drawn : {C : ℕ} (d : Side) (n : ℕ) (c : Color) (near : Tree) (x : ℕ) (far : Tree) (w : List Frame)
    → height near ≤ n → length w < n → Sound C (plug (nod d c near x far) w)
    → step_to d n (drawn C (plug (nod d c near x far) w)) x
    ≡ next_in x (facing d (slots (plug (nod d c near x far) w)))
step_drawn d n c near x far w up down h =
    step_first d n c near x far w up down h ∙ sym (next_at d c near x far w h)

from_zero : {C : ℕ} (d : Side) (n : ℕ) (t : Tree) → height t ≤ n → Sound C t
    → pick (eqb (top_of t) 0) 0 (end_of (opp d) n (drawn C t) (top_of t)) ≡ next_in 0 (facing d (slots t))
unfolding next_in
from_zero d n leaf le h = rw (facing_leaf d)
from_zero d n (node c l x r) le h =
    let low = slot_low lft c l x r [] h in
    rw (ne_eqb x 0 (λ e. omega arith), end_drawn (opp d) n (node c l x r) [] low le h, opp_opp d)

from_place : {C : ℕ} (d : Side) (n : ℕ) (t : Tree) (p : ℕ) → height t ≤ n → Standing d p t → Sound C t
    → step_to d n (drawn C t) p ≡ next_in p (facing d (slots t))
from_place d n t p le v h =
    let here = nod d v.color v.near p v.far in
    let fits : height (plug here v.way) ≤ n = rw v.whole le in
    let deep = height_plug here v.way in let child = height_nod d v.color v.near p v.far in
    rw (← v.whole)
    (step_drawn d n v.color v.near p v.far v.way (omega arith) (omega arith) (rw (← v.whole) at h))

-- next (the side rgt) and prev, from any position: 0 is before the first
pub walk_drawn : {C : ℕ} (d : Side) (n : ℕ) (t : Tree) (p : ℕ) → height t ≤ n → (p ≡ 0) ⊎ Memᴰ p (slots t)
    → Sound C t → walk_to d n (drawn C t) p ≡ next_in p (facing d (slots t))
unfolding walk_to drawn draw lay
walk_drawn d n t p le (inl e) h = rw e (from_zero d n t le h)
walk_drawn d n t p le (inr m) h =
    rw (ne_eqb p 0 (λ e. sound_zero h (rw e at m))) (from_place d n t p le (standing d p t m) h)
