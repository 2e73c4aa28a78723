-- What a tree writes into the cells of the lent arrays, part by part: a node and its children, a place and what hangs
-- there. A store is a balance: it adds the new number in its cell and takes the old one away.
use Prim.Native.Nat.{ℕ, ◌+◌}
use mathlib.Core.Path.{◌≡◌, refl, ap}
use mathlib.Core.Bool.{true, false≢true}
use mathlib.Core.List.{List, [], ◌∷◌}
use native.Mathlib.Omega.{arith}
use borrow.Author.Tests.{eqb-true, eq-eqb}
use Rattle.model.specs.Branch.{pick}
use Rattle.model.specs.Tree.{Side, lft, rgt, Color, Tree, opp, nod, top_of, Frame, frame, plug, above}
use Rattle.model.specs.Lent.{parent_color}
use Rattle.model.specs.Draw.{Cell, child_cell, pc_cell, same_cell, only, written}
use Rattle.theory.specs.Sound.{one, count, count_up, Sound}
use Rattle.theory.specs.Cells.{slot_of}
use Rattle.theory.proofs.Branch.{by-test}
use Rattle.theory.proofs.Counts.{slot_once}
use Rattle.theory.proofs.DrawingCells.{only_none, written_none}

-- ---- cells

same_refl : (a : Cell) → same_cell a a ≡ true
unfolding same_cell
same_refl (child_cell lft s) = eq-eqb s s refl
same_refl (child_cell rgt s) = eq-eqb s s refl
same_refl (pc_cell s) = eq-eqb s s refl

same_eq : (a b : Cell) → same_cell a b ≡ true → a ≡ b
unfolding same_cell
same_eq (child_cell lft s) (child_cell lft t) e = ap (child_cell lft) (eqb-true s t e)
same_eq (child_cell lft s) (child_cell rgt t) e = absurd (false≢true e)
same_eq (child_cell rgt s) (child_cell lft t) e = absurd (false≢true e)
same_eq (child_cell rgt s) (child_cell rgt t) e = ap (child_cell rgt) (eqb-true s t e)
same_eq (child_cell d s) (pc_cell t) e = absurd (false≢true e)
same_eq (pc_cell s) (child_cell d t) e = absurd (false≢true e)
same_eq (pc_cell s) (pc_cell t) e = ap pc_cell (eqb-true s t e)

pub only_same : (a : Cell) (v : ℕ) → only a a v ≡ v
unfolding only
only_same a v = rw (same_refl a)

pub only_zero : (a b : Cell) → only a b 0 ≡ 0
unfolding only
only_zero a b = by-test (same_cell a b) (λ is. rw is) (λ is. rw is)

pub only_near : (d : Side) (x y v : ℕ) → only (child_cell (opp d) x) (child_cell d y) v ≡ 0
unfolding only same_cell
only_near lft x y v = refl
only_near rgt x y v = refl

pub only_far : (d : Side) (x y v : ℕ) → only (child_cell d x) (child_cell (opp d) y) v ≡ 0
unfolding only same_cell
only_far lft x y v = refl
only_far rgt x y v = refl

pub only_pc : (d : Side) (x y v : ℕ) → only (child_cell d x) (pc_cell y) v ≡ 0
unfolding only same_cell
only_pc d x y v = refl

pub only_child : (d : Side) (x y v : ℕ) → only (pc_cell x) (child_cell d y) v ≡ 0
unfolding only same_cell
only_child d x y v = refl

-- ---- a store

unfoldable pub update : (Cell → ℕ) → (cell : Cell) → (value : ℕ) → Cell → ℕ
update f a v b = pick (same_cell a b) v (f b)

pub update_bal : (f : Cell → ℕ) (a b : Cell) (v w : ℕ) → f a ≡ v → update f a w b + only a b v ≡ f b + only a b w
unfolding update only
update_bal f a b v w h = by-test (same_cell a b) (λ is. rw is (omega (arith, ap f (same_eq a b is)))) (λ is. rw is)

-- ---- what a tree writes

-- what the frames of a place write, where the slot q hangs there
abbrev pub written_up : List Frame → (q : ℕ) → Cell → ℕ
written_up [] q b = 0
written_up (frame d c p s ∷ w) q b =
    only (child_cell d p) b q
    + (only (child_cell (opp d) p) b (top_of s)
    + (only (pc_cell p) b (parent_color (above w) c)
    + (written p s b + written_up w p b)))

-- the root, where the slot q hangs at the place
abbrev pub root_up : List Frame → (q : ℕ) → ℕ
root_up [] q = q
root_up (frame d c p s ∷ w) q = root_up w p

-- they write nothing for a slot that doesn't stand in them
pub written_up_none : (w : List Frame) (q : ℕ) (b : Cell) → count_up w (slot_of b) ≡ 0 → written_up w q b ≡ 0
written_up_none [] q b h = refl
written_up_none (frame d c p s ∷ w) q b h =
    let o : one p (slot_of b) ≡ 0 = omega arith in
    omega (
      arith,
      only_none (child_cell d p) b q o,
      only_none (child_cell (opp d) p) b (top_of s) o,
      only_none (pc_cell p) b (parent_color (above w) c) o,
      written_none p s b (omega arith),
      written_up_none w p b (omega arith),
    )

-- the slot that hangs at a place is no one's parent_color
pub written_up_pc : (w : List Frame) (q q' z : ℕ) → written_up w q (pc_cell z) ≡ written_up w q' (pc_cell z)
written_up_pc [] q q' z = refl
written_up_pc (frame d c p s ∷ w) q q' z = omega (arith, only_pc d p z q, only_pc d p z q')

pub written_nod : (d : Side) (c : Color) (near : Tree) (x : ℕ) (far : Tree) (p : ℕ) (b : Cell)
    → written p (nod d c near x far) b
    ≡ only (child_cell d x) b (top_of near)
    + (only (child_cell (opp d) x) b (top_of far)
    + (only (pc_cell x) b (parent_color p c)
    + (written x near b + written x far b)))
written_nod lft c near x far p b = refl
written_nod rgt c near x far p b = omega arith

pub written_plug : (t : Tree) (w : List Frame) (b : Cell)
    → written 0 (plug t w) b ≡ written (above w) t b + written_up w (top_of t) b
written_plug t [] b = omega arith
written_plug t (frame d c p s ∷ w) b =
    omega (arith, written_plug (nod d c t p s) w b, written_nod d c t p s (above w) b)

pub top_plug : (t : Tree) (w : List Frame) → top_of (plug t w) ≡ root_up w (top_of t)
top_plug t [] = refl
top_plug t (frame d c p s ∷ w) = top_plug (nod d c t p s) w

-- ---- what stands in the three cells of a slot

module _ {C : ℕ} (d : Side) (c : Color) (near : Tree) (x : ℕ) (far : Tree) (w : List Frame)
    (h : Sound C (plug (nod d c near x far) w)) where
  -- nothing else writes there
  others : (b : Cell) → slot_of b ≡ x → written x near b + written x far b + written_up w x b ≡ 0
  others b is =
      let o : count near (slot_of b) + count far (slot_of b) + count_up w (slot_of b) ≡ 0
      = rw is (slot_once d c near x far w h) in
      omega (
        arith,
        written_none x near b (omega arith),
        written_none x far b (omega arith),
        written_up_none w x b (omega arith),
      )

  all : (b : Cell) → written 0 (plug (nod d c near x far) w) b
      ≡ only (child_cell d x) b (top_of near)
      + (only (child_cell (opp d) x) b (top_of far)
      + (only (pc_cell x) b (parent_color (above w) c)
      + (written x near b + written x far b)))
      + written_up w x b
  all b = omega (arith, written_plug (nod d c near x far) w b, written_nod d c near x far (above w) b)

  pub read_near : written 0 (plug (nod d c near x far) w) (child_cell d x) ≡ top_of near
  read_near = omega (
    arith,
    all (child_cell d x),
    others (child_cell d x) refl,
    only_same (child_cell d x) (top_of near),
    only_near d x x (top_of far),
    only_child d x x (parent_color (above w) c),
  )

  pub read_far : written 0 (plug (nod d c near x far) w) (child_cell (opp d) x) ≡ top_of far
  read_far = omega (
    arith,
    all (child_cell (opp d) x),
    others (child_cell (opp d) x) refl,
    only_far d x x (top_of near),
    only_same (child_cell (opp d) x) (top_of far),
    only_child (opp d) x x (parent_color (above w) c),
  )

  pub read_pc : written 0 (plug (nod d c near x far) w) (pc_cell x) ≡ parent_color (above w) c
  read_pc = omega (
    arith,
    all (pc_cell x),
    others (pc_cell x) refl,
    only_pc d x x (top_of near),
    only_pc (opp d) x x (top_of far),
    only_same (pc_cell x) (parent_color (above w) c),
  )
