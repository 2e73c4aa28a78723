-- What a tree writes into a cell: one node's number at a slot of the tree, 0 elsewhere.
use Prim.Native.Nat.{ℕ, ◌+◌, ◌≤◌}
use native.Mathlib.Omega.{arith}
use mathlib.Core.Bool.{Bool, true, false}
use mathlib.Core.Path.{◌≡◌, refl, ap, sym, ◌∙◌}
use lib.Dec.{eqb}
use borrow.Author.Tests.{eq-eqb}
use Rattle.model.specs.Branch.{pick}
use Rattle.model.specs.Tree.{Side, lft, rgt, Color, Tree, leaf, node, on, top_of}
use Rattle.model.specs.Lent.{parent_color}
use Rattle.model.specs.Draw.{Cell, child_cell, pc_cell, same_cell, only, written}
use Rattle.theory.specs.Sound.{one, count}
use Rattle.theory.specs.Cells.{slot_of, own_number}
use Rattle.theory.proofs.Counts.{one_same}

no_pick : (t : Bool) (v : ℕ) → pick {A = ℕ} t 1 0 ≡ 0 → pick t v 0 ≡ 0
no_pick true v e = absurd (omega arith)
no_pick false v e = refl

-- a node writes 0 into the cells of other slots
pub only_none : (cell b : Cell) (v : ℕ) → one (slot_of cell) (slot_of b) ≡ 0 → only cell b v ≡ 0
unfolding only one same_cell
only_none (child_cell lft x) (child_cell lft s) v e = no_pick (eqb x s) v e
only_none (child_cell lft x) (child_cell rgt s) v e = refl
only_none (child_cell rgt x) (child_cell lft s) v e = refl
only_none (child_cell rgt x) (child_cell rgt s) v e = no_pick (eqb x s) v e
only_none (child_cell d x) (pc_cell s) v e = refl
only_none (pc_cell x) (child_cell d s) v e = refl
only_none (pc_cell x) (pc_cell s) v e = no_pick (eqb x s) v e

-- a tree writes 0 into the cells of slots that don't stand in it
pub written_none : (above : ℕ) (t : Tree) (b : Cell) → count t (slot_of b) ≡ 0 → written above t b ≡ 0
written_none above leaf b e = refl
written_none above (node c l x r) b e =
    let other : one x (slot_of b) ≡ 0 = omega arith in
    omega (
      arith,
      only_none (child_cell lft x) b (top_of l) other,
      only_none (child_cell rgt x) b (top_of r) other,
      only_none (pc_cell x) b (parent_color above c) other,
      written_none x l b (omega arith),
      written_none x r b (omega arith),
    )

own_only : (above : ℕ) (c : Color) (l : Tree) (x : ℕ) (r : Tree) (b : Cell) → x ≡ slot_of b →
    only (child_cell lft x) b (top_of l)
    + (only (child_cell rgt x) b (top_of r) + only (pc_cell x) b (parent_color above c))
    ≡ own_number above c l r b
unfolding only same_cell
own_only above c l x r (child_cell lft s) e = rw (eq-eqb x s e) (omega arith)
own_only above c l x r (child_cell rgt s) e = rw (eq-eqb x s e) (omega arith)
own_only above c l x r (pc_cell s) e = rw (eq-eqb x s e) (omega arith)

module _ (above : ℕ) (c : Color) (l : Tree) (x : ℕ) (r : Tree) (b : Cell) where
  -- at its own slot
  pub written_top : x ≡ slot_of b → count (node c l x r) (slot_of b) ≤ 1 →
      written above (node c l x r) b ≡ own_number above c l r b
  written_top e once =
      let here : one x (slot_of b) ≡ 1 = ap (one x) (sym e) ∙ one_same x in
      omega (
        arith,
        own_only above c l x r b e,
        written_none x l b (omega arith),
        written_none x r b (omega arith),
      )

  -- at a slot that stands on one side below
  pub written_side : (d : Side) → 1 ≤ count (on d l r) (slot_of b) → count (node c l x r) (slot_of b) ≤ 1 →
      written above (node c l x r) b ≡ written x (on d l r) b
  written_side d here once = go d here
    where
      other : one x (slot_of b) ≡ 0 → written above (node c l x r) b ≡ written x l b + written x r b
      other e =
          omega (
            arith,
            only_none (child_cell lft x) b (top_of l) e,
            only_none (child_cell rgt x) b (top_of r) e,
            only_none (pc_cell x) b (parent_color above c) e,
          )

      go : (d : Side) → 1 ≤ count (on d l r) (slot_of b) → written above (node c l x r) b ≡ written x (on d l r) b
      go lft here = omega (arith, other (omega arith), written_none x r b (omega arith))
      go rgt here = omega (arith, other (omega arith), written_none x l b (omega arith))
