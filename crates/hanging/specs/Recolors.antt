-- red_or_none, red_uncle, paint_top and recolor: what each requires, tells or leaves.
use Rattle.std.specs.Prelude.{ℕ, ◌≤◌, ◌<◌, true, Option, List, ◌≡◌, length, eqb}
use Rattle.model.specs.Limits.{capacity_limit}
use Rattle.model.specs.Branch.{pick}
use Rattle.model.specs.Lent.{at}
use Rattle.theory.specs.Slots.{parent_at, put_color, Below, Parents}
use Rattle.links.specs.declared.types.Slot.{Slot}
use Rattle.links.specs.Reads.{red_at, SlotOrNone}

-- ---- red_or_none

unfoldable pub red_or : (pc : List ℕ) → (slot : ℕ) → ℕ
red_or pc s = pick (red_at pc s) s 0

pub record RedOrNone (pc : List ℕ) (s : ℕ) (found : Option Slot) : Type 0 where
  pub is : SlotOrNone found (red_or pc s)
  pub top : red_or pc s ≤ length pc

-- ---- red_uncle

unfoldable pub grand_at : (pc : List ℕ) → (slot : ℕ) → ℕ
grand_at pc x = parent_at pc (parent_at pc x)

-- the other child of the grandparent, where it and the parent are red; or 0
unfoldable pub uncle_at : (left right pc : List ℕ) → (slot : ℕ) → ℕ
uncle_at left right pc x =
    let p = parent_at pc x in
    let g = grand_at pc x in
    pick (red_at pc p) (red_or pc (pick (eqb (at left g) p) (at right g) (at left g))) 0

-- a red parent isn't the root
pub record UnclePre (left right pc : List ℕ) (x : ℕ) : Type 0 where
  pub left_below : Below left
  pub right_below : Below right
  pub parents : Parents pc
  pub same_right : length right ≡ length left
  pub same_pc : length pc ≡ length left
  pub low : 0 < x
  pub high : x ≤ length left
  pub grand : red_at pc (parent_at pc x) ≡ true → 0 < grand_at pc x

pub record RedUncle (left right pc : List ℕ) (x : ℕ) (found : Option Slot) : Type 0 where
  pub is : SlotOrNone found (uncle_at left right pc x)
  pub top : uncle_at left right pc x ≤ length left

-- ---- paint_top: red, but black where the slot has no parent

unfoldable pub crown_at : (pc : List ℕ) → (slot : ℕ) → List ℕ
crown_at pc g = put_color pc g (pick (eqb (parent_at pc g) 0) 1 0)

pub record PaintPre (pc : List ℕ) (g : ℕ) : Type 0 where
  pub low : 0 < g
  pub high : g ≤ length pc
  pub parents : Parents pc
  pub small : length pc ≤ capacity_limit

pub record Painted (pc : List ℕ) (g : ℕ) (pc' : List ℕ) : Type 0 where
  pub is : pc' ≡ crown_at pc g
  pub parents : Parents pc'
  pub same : length pc' ≡ length pc

-- ---- recolor: the slot x has a grandparent, and the uncle is a slot

unfoldable pub recolor_at : (pc : List ℕ) → (slot uncle : ℕ) → List ℕ
recolor_at pc x uncle = put_color (crown_at (put_color pc (parent_at pc x) 1) (grand_at pc x)) uncle 1

pub record RecolorPre (pc : List ℕ) (x uncle : ℕ) : Type 0 where
  pub low : 0 < x
  pub high : x ≤ length pc
  pub parents : Parents pc
  pub small : length pc ≤ capacity_limit
  pub parent : 0 < parent_at pc x
  pub grand : 0 < grand_at pc x
  pub uncle_low : 0 < uncle
  pub uncle_high : uncle ≤ length pc

pub record Recolored (pc : List ℕ) (x uncle : ℕ) (pc' : List ℕ) (g : ℕ) : Type 0 where
  pub is : pc' ≡ recolor_at pc x uncle
  pub grand : g ≡ grand_at pc x
  pub parents : Parents pc'
  pub same : length pc' ≡ length pc
