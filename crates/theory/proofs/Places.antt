-- What follows from a drawing: all numbers are in bounds, and the arrays hold at a place what the tree has there.
use Prim.Native.Nat.{ℕ, zero, suc, ◌-◌, ◌/◌, ◌≤◌, ◌<◌}
use mathlib.Core.Path.{◌≡◌, ap, sym, ◌∙◌}
use mathlib.Core.List.{List, [], ◌∷◌}
use native.Mathlib.Omega.{arith}
use lib.ListN.{get_or, length}
use lib.Dec.{eqb}
use Rattle.model.specs.Limits.{capacity_limit}
use Rattle.model.specs.Tree.{Side, lft, rgt, Color, Tree, leaf, node, opp, same_side, nod, top_of, Frame, frame, plug}
use Rattle.model.specs.Tree.{above}
use Rattle.model.specs.Lent.{at, color_code}
use Rattle.model.specs.Draw.{child_cell, pc_cell, written, listed, lay, draw}
use Rattle.theory.specs.Sound.{Sound}
use Rattle.theory.specs.Slots.{parent_at, color_at, Below, Parents}
use Rattle.theory.specs.Links.{Links, links, drawn, children, child_in, parent_in, color_in}
use Rattle.theory.specs.Sided.{sided}
use Rattle.theory.specs.Places.{Bounded, Drawn, Spot}
use Rattle.theory.proofs.Sides.{opp_opp}
use Rattle.theory.proofs.Counts.{by_count, slot_low, slot_high}
use Rattle.theory.proofs.Lists.{count_member}
use Rattle.theory.proofs.Focus.{standing}
use Rattle.theory.proofs.Cells.{read_near, read_pc}
use Rattle.theory.proofs.DrawingCells.{written_none}
use Rattle.theory.proofs.DrawingLists.{length_listed}
use Rattle.theory.proofs.Stores.{parent_part}
use Rattle.theory.proofs.Reading.{near_drawn, far_drawn, parent_drawn, color_drawn, on_drawn}
use Rattle.theory.proofs.Sided.{sided_opp, sided_near, sided_far, sided_parent, sided_color}

-- ---- bounds of a drawing

-- what holds of every value, and of 0, holds of every entry of the list
listed_by : (P : ℕ → Type 0) → P 0 → (C s : ℕ) (f : ℕ → ℕ) → ((x : ℕ) → P (f x)) → (i : ℕ)
    → P (get_or (listed C s f) i 0)
listed_by P none zero s f each i = none
listed_by P none (suc C) s f each zero = each s
listed_by P none (suc C) s f each (suc i) = listed_by P none C (suc s) f each i

top_high : {C : ℕ} (t : Tree) (w : List Frame) → Sound C (plug t w) → top_of t ≤ C
top_high leaf w h = omega arith
top_high (node c l x r) w h = slot_high lft c l x r w h

pub above_high : {C : ℕ} (t : Tree) (w : List Frame) → Sound C (plug t w) → above w ≤ C
above_high t [] h = omega arith
above_high t (frame d c p s ∷ w) h = slot_high d c t p s w h

child_high : {C : ℕ} (t : Tree) → Sound C t → (d : Side) (s : ℕ) → written 0 t (child_cell d s) ≤ C
child_high {C} t h d s = by_count t s
    (λ none. omega (arith, written_none 0 t (child_cell d s) none))
    (λ some.
    let v = standing d s t (count_member t s some) in
    let h' : Sound C (plug (nod d v.color v.near s v.far) v.way) = rw (← v.whole) at h in
    rw (← v.whole, read_near d v.color v.near s v.far v.way h')
    (top_high v.near (frame d v.color s v.far ∷ v.way) h'))

parent_high : {C : ℕ} (t : Tree) → Sound C t → (s : ℕ) → written 0 t (pc_cell s) / 2 ≤ C
parent_high {C} t h s = by_count t s
    (λ none. rw (written_none 0 t (pc_cell s) none) (omega arith))
    (λ some.
    let v = standing lft s t (count_member t s some) in
    let here = node v.color v.near s v.far in
    let h' : Sound C (plug here v.way) = rw (← v.whole) at h in
    rw (← v.whole, read_pc lft v.color v.near s v.far v.way h', parent_part (above v.way) v.color)
    (above_high here v.way h'))

below_listed : (C : ℕ) (f : ℕ → ℕ) → ((s : ℕ) → f s ≤ C) → Below (listed C 1 f)
unfolding at
below_listed C f each =
    record { each = λ s. rw (length_listed C 1 f) (listed_by (λ v. v ≤ C) (omega arith) C 1 f each (s - 1)) }

parents_listed : (C : ℕ) (f : ℕ → ℕ) → ((s : ℕ) → f s / 2 ≤ C) → Parents (listed C 1 f)
unfolding at parent_at
parents_listed C f each =
    record { each = λ s. rw (length_listed C 1 f) (listed_by (λ v. v / 2 ≤ C) (omega arith) C 1 f each (s - 1)) }

module _ {C : ℕ} (t : Tree) (h : Sound C t) where
  pub length_drawn : length (drawn C t).left ≡ C
  unfolding drawn draw lay
  length_drawn = length_listed C 1 (λ s. written 0 t (child_cell lft s))

  pub bounded_drawn : C ≤ capacity_limit → Bounded (drawn C t).left (drawn C t).right (drawn C t).pc (drawn C t).root
  unfolding drawn draw lay
  bounded_drawn small = record {
    near_below = below_listed C (λ s. written 0 t (child_cell lft s)) (child_high t h lft);
    far_below = below_listed C (λ s. written 0 t (child_cell rgt s)) (child_high t h rgt);
    parents = parents_listed C (λ s. written 0 t (pc_cell s)) (parent_high t h);
    top = rw length_drawn (top_high t [] h);
    same_far = length_listed C 1 (λ s. written 0 t (child_cell rgt s)) ∙ sym length_drawn;
    same_pc = length_listed C 1 (λ s. written 0 t (pc_cell s)) ∙ sym length_drawn;
    small = rw length_drawn small;
  }

-- ---- a drawing in hand

-- near and far swapped
pub swap : {near far pc : List ℕ} {root : ℕ} → Bounded near far pc root → Bounded far near pc root
swap b = record {
  near_below = b.far_below;
  far_below = b.near_below;
  parents = b.parents;
  top = omega (arith, b.top, b.same_far);
  same_far = sym b.same_far;
  same_pc = b.same_pc ∙ sym b.same_far;
  small = omega (arith, b.small, b.same_far);
}

-- with the two child arrays swapped it is the drawing for the other side
pub flip : {d : Side} {near far pc : List ℕ} {root C : ℕ} {t : Tree} → Drawn d near far pc root C t
    → Drawn (opp d) far near pc root C t
flip {d} {near} {far} {pc} {root} k =
    record { is = sided_opp d near far pc root ∙ k.is; sound = k.sound; small = k.small }

-- seen from a side, its near array is the one of that side
pub drawn_sided : (d : Side) {left right pc : List ℕ} {root C : ℕ} {t : Tree} → Drawn lft left right pc root C t
    → let all = links left right pc root in Drawn d (children d all) (children (opp d) all) pc root C t
drawn_sided lft k = k
drawn_sided rgt k = flip k

bounded_links : {C : ℕ} (k : Links) (t : Tree) → Sound C t → C ≤ capacity_limit → k ≡ drawn C t
    → Bounded k.left k.right k.pc k.root × (length k.left ≡ C)
bounded_links {C} k t h small is = rw is (bounded_drawn t h small, length_drawn t h)

bounded_long : (d : Side) (near far pc : List ℕ) (root C : ℕ) (t : Tree) → Drawn d near far pc root C t
    → Bounded near far pc root × (length near ≡ C)
bounded_long lft near far pc root C t k = bounded_links (links near far pc root) t k.sound k.small k.is
bounded_long rgt near far pc root C t k =
    let b = bounded_links (links far near pc root) t k.sound k.small k.is in
    (swap b.0, b.0.same_far ∙ b.1)

module _ {d : Side} {near far pc : List ℕ} {root C : ℕ} {t : Tree} (k : Drawn d near far pc root C t) where
  pub bounded : Bounded near far pc root
  bounded = (bounded_long d near far pc root C t k).0

  pub long : length near ≡ C
  long = (bounded_long d near far pc root C t k).1

-- ---- a place in hand

module _ {d : Side} {near far pc : List ℕ} {root C : ℕ} {e : Side} {c : Color} {a b : Tree} {x : ℕ} {w : List Frame}
    (k : Spot d near far pc root C e c a x b w) where
  held : Sound C (plug (nod e c a x b) w)
  held = k.held.sound

  pub spot_low : 0 < x
  spot_low = slot_low e c a x b w held

  pub spot_bounded : Bounded near far pc root
  spot_bounded = bounded k.held

  pub spot_high : x ≤ length near
  spot_high = rw (long k.held) (slot_high e c a x b w held)

  pub spot_parent : parent_at pc x ≡ above w
  spot_parent =
      sym (sided_parent d near far pc root x) ∙ ap (λ (z : Links). parent_in z x) k.held.is
      ∙ parent_drawn e c a x b w held

  pub spot_color : color_at pc x ≡ color_code c
  spot_color =
      sym (sided_color d near far pc root x) ∙ ap (λ (z : Links). color_in z x) k.held.is
      ∙ color_drawn e c a x b w held

  spot_child : child_in e (sided d near far pc root) x ≡ top_of a
  spot_child = ap (λ (z : Links). child_in e z x) k.held.is ∙ near_drawn e c a x b w held

  spot_other : child_in (opp e) (sided d near far pc root) x ≡ top_of b
  spot_other = ap (λ (z : Links). child_in (opp e) z x) k.held.is ∙ far_drawn e c a x b w held

module _ {d : Side} {near far pc : List ℕ} {root C : ℕ} {c : Color} {a b : Tree} {x : ℕ} {w : List Frame} where
  -- the near child and the far one, where the place is seen from the side of `near`
  pub spot_near : Spot d near far pc root C d c a x b w → at near x ≡ top_of a
  spot_near k = sym (sided_near d near far pc root x) ∙ spot_child k

  pub spot_far : Spot d near far pc root C d c a x b w → at far x ≡ top_of b
  spot_far k = sym (sided_far d near far pc root x) ∙ spot_other k

  -- and where it is seen from the other side
  pub spot_over : Spot d near far pc root C (opp d) c a x b w → at far x ≡ top_of a
  spot_over k = sym (sided_far d near far pc root x) ∙ spot_child k

  pub spot_under : Spot d near far pc root C (opp d) c a x b w → at near x ≡ top_of b
  spot_under k =
      sym (sided_near d near far pc root x)
      ∙ ap (λ (e : Side). child_in e (sided d near far pc root) x) (sym (opp_opp d)) ∙ spot_other k

  module _ {e e' : Side} {k' : Color} {q : ℕ} {s : Tree} where
    -- the parent's place
    pub spot_up : Spot d near far pc root C e c a x b (frame e' k' q s ∷ w)
        → Spot d near far pc root C e' k' (nod e c a x b) q s w
    spot_up k = record { held = k.held }

    -- the test of the side on which x hangs
    pub spot_side : Spot d near far pc root C e c a x b (frame e' k' q s ∷ w) → eqb (at near q) x ≡ same_side e' d
    spot_side k =
        rw (← sided_near d near far pc root q, k.held.is)
        (on_drawn (nod e c a x b) d e' k' q s w (spot_low k) k.held.sound)
