-- How often a slot stands in a node and below it, on either side.
use Prim.Native.Nat.{ℕ, zero, suc, ◌≤◌}
use native.Mathlib.Omega.{arith}
use mathlib.Core.Logic.{inl, inr}
use mathlib.Core.Path.{◌≡◌, refl, ap, sym}
use Rattle.model.specs.Tree.{Side, lft, rgt, Color, Tree, leaf, node, on, top_of}
use Rattle.model.specs.WellFormed.{Differ}
use Rattle.theory.specs.Sound.{one, count, Sound}
use Rattle.theory.proofs.Counts.{one_same, by-slot, sound_less}

-- a side of a node has no slot more often than the node
pub count_side : (d : Side) (c : Color) (l : Tree) (x : ℕ) (r : Tree) (s : ℕ) →
    count (on d l r) s ≤ count (node c l x r) s
count_side lft c l x r s = omega arith
count_side rgt c l x r s = omega arith

-- a slot of a tree is its top, or stands below it on one side
pub count_cases : {P : Type 0} (c : Color) (l : Tree) (x : ℕ) (r : Tree) (s : ℕ) → 1 ≤ count (node c l x r) s →
    (x ≡ s → P) → (1 ≤ count l s → P) → (1 ≤ count r s → P) → P
count_cases {P} c l x r s h top left right = by-slot x s top (λ e. below e (count l s) refl)
  where
    below : one x s ≡ 0 → (n : ℕ) → count l s ≡ n → P
    below e zero f = right (omega arith)
    below e (suc n) f = left (omega arith)

-- a subtree fits where the tree does
pub sound_side : {C : ℕ} (d : Side) (c : Color) (l : Tree) (x : ℕ) (r : Tree) →
    Sound C (node c l x r) → Sound C (on d l r)
sound_side d c l x r = sound_less (node c l x r) (on d l r) (count_side d c l x r)

-- two children of a node have different tops, or both are missing
pub tops_differ : {C : ℕ} (c : Color) (l : Tree) (x : ℕ) (r : Tree) →
    Sound C (node c l x r) → Differ (top_of l) (top_of r)
tops_differ c leaf x leaf h = inr (refl, refl)
tops_differ c leaf x (node k m z n) h = inl (λ e. omega (arith, h.low z (omega (arith, one_same z))))
tops_differ c (node k m y n) x leaf h = inl (λ e. omega (arith, h.low y (omega (arith, one_same y))))
tops_differ c (node k m y n) x (node j u z v) h =
    inl (λ e. omega (arith, h.once y, one_same y, ap (λ (w : ℕ). one w y) (sym e)))
