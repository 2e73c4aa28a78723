-- Well-formed arrays are the drawing of one tree, the one that their child numbers draw.
use Prim.Native.Nat.{ℕ, zero, suc, ◌≤◌}
use native.Mathlib.Omega.{arith}
use mathlib.Core.List.{List}
use mathlib.Core.Path.{◌≡◌, refl, ap, sym, subst}
use lib.ListN.{length}
use borrow.Author.Tests.{eq-eqb, ne_eqb}
use Rattle.model.specs.Limits.{capacity_limit, depth_limit}
use Rattle.model.specs.Tree.{lft, rgt, Tree, leaf, node, slots}
use Rattle.model.specs.Lent.{Arrays, Lent, at, capacity, child_of, key_of, grow, tree_of}
use Rattle.model.specs.WellFormed.{Rising, WellFormed}
use Rattle.model.specs.Draw.{lay, draw}
use Rattle.theory.specs.Balance.{Balanced, height}
use Rattle.theory.specs.Sound.{Sound}
use Rattle.theory.specs.Holds.{Holds}
use Rattle.theory.specs.Hangs.{Hangs}
use Rattle.theory.proofs.Totals.{sound_size}
use Rattle.theory.proofs.Marks.{marked_color}
use Rattle.theory.proofs.Height.{size_slots, height_limit}
use Rattle.theory.proofs.DrawingLists.{draw_capacity}
use Rattle.theory.proofs.Hung.{hung_holds, holds_hung}
use Rattle.theory.proofs.Well.{hung_well}
use Rattle.theory.proofs.Grown.{well_hung}

-- the child numbers draw the tree that hangs there, given depth enough
grow_is : (a : Arrays) (depth p s : ℕ) (t : Tree) → Hangs a p s t → height t ≤ depth → grow depth a s ≡ t
unfolding grow
grow_is a zero p s leaf h deep = refl
grow_is a (suc depth) p s leaf h deep = rw (eq-eqb s 0 h)
grow_is a zero p s (node c l x r) h deep = absurd (omega arith)
grow_is a (suc depth) p s (node c l x r) h deep =
    rw (
      h.0.same,
      ne_eqb x 0 (omega (arith, h.0.linked.positive)),
      marked_color a x p c h.0.marked,
      grow_is a depth x (child_of lft a x) l h.1 (omega arith),
      grow_is a depth x (child_of rgt a x) r h.2 (omega arith),
    )

-- a tree that is held is no deeper than the limit
pub holds_height : {m : Lent} {t : Tree} → Holds m t → height t ≤ depth_limit
holds_height {m} {t} h =
    height_limit t h.balanced (omega (arith, size_slots t, sound_size h.sound, h.small))

-- the tree that is held is the one that is read, so there is no other
pub holds_tree : {m : Lent} {t : Tree} → Holds m t → tree_of m ≡ t
unfolding tree_of
holds_tree {m} {t} h = grow_is m.arrays depth_limit 0 m.root t (holds_hung h).hangs (holds_height h)

-- well-formed arrays hold the tree that is read from them
pub well_holds : (m : Lent) → WellFormed m → Holds m (tree_of m)
well_holds m w = let h = hung_holds (well_hung w) in subst (λ (t : Tree). Holds m t) (sym (holds_tree h)) h

-- and arrays that hold a tree are well formed
pub holds_well : {m : Lent} {t : Tree} → Holds m t → WellFormed m
holds_well h = hung_well (holds_hung h)

-- a drawing holds its tree
pub draw_holds : (C : ℕ) (t : Tree) (keys : List ℕ) → Sound C t → Balanced t → length keys ≡ C → C ≤ capacity_limit →
    Rising (at keys) 0 (slots t) → Holds (draw C t keys) t
unfolding draw lay key_of
draw_holds C t keys sound balanced long small rising = record {
  is = ap (λ (n : ℕ). draw n t keys) (sym e);
  sound = rw e sound;
  balanced = balanced;
  rising = rising;
  keys = rw e long;
  small = rw e small;
}
  where
    e : capacity (draw C t keys).arrays ≡ C
    e = draw_capacity C t keys
