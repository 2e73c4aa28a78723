-- Lists that are written slot by slot, and how a drawing is read.
use Prim.Native.Nat.{ℕ, zero, suc, ◌+◌, ◌-◌, ◌≤◌, ◌<◌}
use native.Mathlib.Omega.{arith}
use native.Mathlib.Nat.{le_of_suc-le-suc, not-suc-le-zero}
use mathlib.Core.List.{List}
use mathlib.Core.Path.{◌≡◌, refl, ap, sym, ◌∙◌}
use lib.ListN.{length, get_or}
use lib.Seq.{ext_get_or}
use Rattle.model.specs.Tree.{lft, rgt, Tree}
use Rattle.model.specs.Lent.{at, capacity, child_of, pc_of}
use Rattle.model.specs.Draw.{Cell, child_cell, pc_cell, written, listed, lay, draw}
use Rattle.theory.specs.Cells.{slot_of, number_at}

-- how long such a list is
pub length_listed : (C s : ℕ) (f : ℕ → ℕ) → length (listed C s f) ≡ C
length_listed zero s f = refl
length_listed (suc C) s f = ap suc (length_listed C (suc s) f)

get_d_listed : (C s : ℕ) (f : ℕ → ℕ) (i : ℕ) → i < C → get_or (listed C s f) i 0 ≡ f (s + i)
get_d_listed zero s f i h = absurd (not-suc-le-zero h)
get_d_listed (suc C) s f zero h = ap f (omega arith)
get_d_listed (suc C) s f (suc i) h = get_d_listed C (suc s) f i (le_of_suc-le-suc h) ∙ ap f (omega arith)

-- what stands at a slot
pub at_listed : (C : ℕ) (f : ℕ → ℕ) (s : ℕ) → 0 < s → s ≤ C → at (listed C 1 f) s ≡ f s
unfolding at
at_listed C f s low high = get_d_listed C 1 f (s - 1) (omega arith) ∙ ap f (omega arith)

-- a list is what stands at its slots
pub is_listed : (C : ℕ) (l : List ℕ) (f : ℕ → ℕ) → length l ≡ C → ((s : ℕ) → 0 < s → s ≤ C → at l s ≡ f s) →
    l ≡ listed C 1 f
unfolding at
is_listed C l f e each =
    ext_get_or 0 l (listed C 1 f) (e ∙ sym (length_listed C 1 f))
    (λ i h. ap (λ (j : ℕ). get_or l j 0) (omega arith) ∙ each (suc i) (omega arith) (omega arith)
    ∙ ap f (omega arith) ∙ sym (get_d_listed C 1 f i (omega arith)))

module _ (C : ℕ) (t : Tree) (keys : List ℕ) where
  -- a drawing of C slots has C slots
  pub draw_capacity : capacity (draw C t keys).arrays ≡ C
  unfolding draw lay capacity
  draw_capacity = length_listed C 1 (λ s. written 0 t (pc_cell s))

  -- each number of a drawing is what the tree writes there
  pub draw_number : (b : Cell) → 0 < slot_of b → slot_of b ≤ C → number_at (draw C t keys).arrays b ≡ written 0 t b
  unfolding draw lay child_of pc_of
  draw_number (child_cell lft s) low high = at_listed C (λ s. written 0 t (child_cell lft s)) s low high
  draw_number (child_cell rgt s) low high = at_listed C (λ s. written 0 t (child_cell rgt s)) s low high
  draw_number (pc_cell s) low high = at_listed C (λ s. written 0 t (pc_cell s)) s low high
