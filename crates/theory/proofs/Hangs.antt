-- What a tree that hangs in lent arrays tells of their numbers, at its top and at every place in it.
use Prim.Native.Nat.{ℕ, ◌≤◌, ◌<◌}
use native.Mathlib.Omega.{arith}
use mathlib.Core.List.{List, [], ◌∷◌}
use mathlib.Core.Logic.{◌≢◌, inl, inr}
use mathlib.Core.Path.{◌≡◌, sym}
use Rattle.model.specs.Tree.{Side, lft, rgt, Color, Tree, leaf, node, on, nod, top_of, Frame, frame, plug, above}
use Rattle.model.specs.Lent.{Arrays, child_of, pc_of, color_of}
use Rattle.model.specs.WellFormed.{ChildOf, Differ, Reached, at_root, by_child}
use Rattle.theory.specs.Balance.{tint}
use Rattle.theory.specs.Sound.{count}
use Rattle.theory.specs.Hangs.{Hangs, Clear}
use Rattle.theory.proofs.Counts.{one_same}
use Rattle.theory.proofs.Marks.{marked_parent, marked_color}

-- equal children are missing
pub differ_none : {l r : ℕ} → Differ l r → l ≡ r → l ≡ 0
differ_none (inl apart) e = absurd (apart e)
differ_none (inr none) e = none.0

-- a slot without mark or children
pub clear_of : (a : Arrays) (s : ℕ) → (child_of lft a s ≡ 0) × (child_of rgt a s ≡ 0) → pc_of a s ≡ 0 → Clear a s
clear_of a s none e = record { child = child; pc = e }
  where
    child : (d : Side) → child_of d a s ≡ 0
    child lft = none.0
    child rgt = none.1

module _ (a : Arrays) where
  -- the child number is the top
  pub hangs_top : (p s : ℕ) (t : Tree) → Hangs a p s t → s ≡ top_of t
  hangs_top p s leaf h = h
  hangs_top p s (node c l x r) h = h.0.same

  -- the tree below the top on a side
  pub hangs_below : (d : Side) (p s : ℕ) (c : Color) (l : Tree) (x : ℕ) (r : Tree) →
      Hangs a p s (node c l x r) → Hangs a x (child_of d a x) (on d l r)
  hangs_below lft p s c l x r h = h.1
  hangs_below rgt p s c l x r h = h.2

  -- the same, with the side named first
  pub hangs_near : (d : Side) (p s : ℕ) (c : Color) (near : Tree) (x : ℕ) (far : Tree) →
      Hangs a p s (nod d c near x far) → Hangs a x (child_of d a x) near
  hangs_near lft p s c near x far h = h.1
  hangs_near rgt p s c near x far h = h.2

  -- the child number names a linked slot with this parent, or none
  pub hangs_child : (p s : ℕ) (t : Tree) → Hangs a p s t → ChildOf a p s
  hangs_child p s leaf h some = absurd (some h)
  hangs_child p s (node c l x r) h some = rw h.0.same (h.0.linked, marked_parent a x p c h.0.marked)

  -- its colour is the top's
  pub hangs_color : (p s : ℕ) (t : Tree) → Hangs a p s t → s ≢ 0 → color_of a s ≡ tint t
  hangs_color p s leaf h some = absurd (some h)
  hangs_color p s (node c l x r) h some = rw h.0.same (marked_color a x p c h.0.marked)

  -- it stands in the tree
  pub top_count : (p s : ℕ) (t : Tree) → Hangs a p s t → 0 < s → 1 ≤ count t s
  top_count p s leaf h some = absurd (omega arith)
  top_count p s (node c l x r) h some = rw h.0.same (omega (arith, one_same x))

  -- at every place of a tree that hangs from the root, the rest of it hangs
  pub hangs_place : (root : ℕ) (t : Tree) (w : List Frame) → Hangs a 0 root (plug t w) → Hangs a (above w) (top_of t) t
  hangs_place root t [] h = rw (hangs_top 0 root t h) at h
  hangs_place root t (frame d c p s ∷ w) h =
      let below = hangs_near d (above w) p c t p s (hangs_place root (nod d c t p s) w h) in
      rw (hangs_top p (child_of d a p) t below) at below

  -- every place of the tree is reached from the root
  pub reached_place : (root : ℕ) (t : Tree) (w : List Frame) → Hangs a 0 root (plug t w) →
      0 < top_of t → Reached a root (top_of t)
  reached_place root t [] h some = at_root some (sym (hangs_top 0 root t h))
  reached_place root t (frame d c p s ∷ w) h some =
      let here = hangs_place root (nod d c t p s) w h in
      by_child d p (reached_place root (nod d c t p s) w h (omega (arith, here.0.linked)))
      some (sym (hangs_top p (child_of d a p) t (hangs_near d (above w) p c t p s here)))
