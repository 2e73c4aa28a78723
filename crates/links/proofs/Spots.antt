-- A slot of arrays in bounds: where it comes from, what may be read and written at it, and that this lasts.
use Prim.Native.Nat.{ℕ, ◌≤◌, ◌<◌}
use mathlib.Core.List.{List, ◌∷◌}
use mathlib.Core.Path.{◌∙◌}
use lib.ListN.{length}
use native.Mathlib.Omega.{arith}
use Rattle.model.specs.Tree.{Side, lft, rgt, opp, Color, Tree, nod, Frame, frame, plug}
use Rattle.theory.specs.Places.{Bounded, Drawn, Spot}
use Rattle.theory.proofs.Places.{spot_low, spot_high, spot_bounded}
use Rattle.links.specs.Reads.{SlotOf, SlotIn, GetPre, ParentPre}
use Rattle.links.specs.Writes.{SetColorPre, SetColor}

pub slot_in : {near far pc : List ℕ} {root x : ℕ} → Bounded near far pc root → 0 < x → x ≤ length near
    → SlotIn near far pc x
slot_in b low high = record {
  left = b.near_below;
  right = b.far_below;
  pc = b.parents;
  lr = b.same_far;
  lp = b.same_pc;
  small = b.small;
  pos = low;
  top = high;
}

-- a slot of the tree that the arrays draw
pub spot_in : {d : Side} {near far pc : List ℕ} {root C : ℕ} {e : Side} {c : Color} {a b : Tree} {x : ℕ}
    {w : List Frame} → Spot d near far pc root C e c a x b w → SlotIn near far pc x
spot_in k = slot_in (spot_bounded k) (spot_low k) (spot_high k)

-- the sibling of a place in that tree
pub spot_beside : (e : Side) {d e' : Side} {near far pc : List ℕ} {root C : ℕ} {c k : Color} {t a b : Tree} {q s : ℕ}
    {w : List Frame} → Drawn d near far pc root C (plug t (frame e c q (nod e' k a s b) ∷ w))
    → Spot d near far pc root C e' k a s b (frame (opp e) c q t ∷ w)
spot_beside lft held = record { held = held }
spot_beside rgt held = record { held = held }

module _ {near far pc : List ℕ} {x : ℕ} (k : SlotIn near far pc x) where
  -- ---- what may be done at it

  pub in_get : GetPre near x
  in_get = record { pos = k.pos; top = k.top; below = k.left }

  pub in_get_far : GetPre far x
  in_get_far = record { pos = k.pos; top = omega (arith, k.top, k.lr); below = k.right }

  pub in_color : SlotOf pc x
  in_color = record { pos = k.pos; top = omega (arith, k.top, k.lp) }

  pub in_parent : ParentPre pc x
  in_parent = record { pos = k.pos; top = omega (arith, k.top, k.lp); parents = k.pc }

  pub in_set_color : SetColorPre pc x
  in_set_color = record {
    pos = k.pos;
    top = omega (arith, k.top, k.lp);
    parents = k.pc;
    small = omega (arith, k.small, k.lp);
  }

  -- ---- after a colour is stored somewhere

  pub in_painted : {s v : ℕ} {pc₁ : List ℕ} → SetColor pc s v pc₁ → SlotIn near far pc₁ x
  in_painted m = record {
    left = k.left;
    right = k.right;
    pc = m.parents;
    lr = k.lr;
    lp = m.same ∙ k.lp;
    small = k.small;
    pos = k.pos;
    top = k.top;
  }

pub bounded_painted : {near far pc pc₁ : List ℕ} {root s v : ℕ} → Bounded near far pc root → SetColor pc s v pc₁
    → Bounded near far pc₁ root
bounded_painted b m = record {
  near_below = b.near_below;
  far_below = b.far_below;
  parents = m.parents;
  top = b.top;
  same_far = b.same_far;
  same_pc = m.same ∙ b.same_pc;
  small = b.small;
}
