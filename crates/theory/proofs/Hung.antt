-- Lent arrays hold a tree exactly when it hangs in them and nothing else does.
use Prim.Native.Nat.{ℕ, zero, suc, ◌≤◌, ◌<◌}
use native.Mathlib.Omega.{arith}
use mathlib.Core.Path.{◌≡◌, refl, ap, sym, ◌∙◌}
use lib.ListN.{length}
use Rattle.model.specs.Tree.{lft, rgt, Tree}
use Rattle.model.specs.Lent.{Lent, capacity, child_of, pc_of}
use Rattle.model.specs.WellFormed.{Lengths}
use Rattle.model.specs.Draw.{Cell, child_cell, pc_cell, written, listed, lay, draw}
use Rattle.theory.specs.Sound.{count, Sound}
use Rattle.theory.specs.Holds.{Holds}
use Rattle.theory.specs.Cells.{slot_of, number_at}
use Rattle.theory.specs.Hangs.{Hangs, Clear, Hung}
use Rattle.theory.proofs.Hangs.{hangs_top}
use Rattle.theory.proofs.Levels.{hangs_sound}
use Rattle.theory.proofs.DrawingLists.{length_listed, is_listed, draw_number}
use Rattle.theory.proofs.DrawingCells.{written_none}
use Rattle.theory.proofs.DrawingTrees.{hangs_written, written_hangs}

module _ (m : Lent) (t : Tree) (h : Hung m t) where
  sound : Sound (capacity m.arrays) t
  sound = hangs_sound m.arrays m.root t h.hangs

  clear_number : (b : Cell) → Clear m.arrays (slot_of b) → number_at m.arrays b ≡ 0
  clear_number (child_cell d s) k = k.child d
  clear_number (pc_cell s) k = k.pc

  hung_number : (b : Cell) → 0 < slot_of b → slot_of b ≤ capacity m.arrays → number_at m.arrays b ≡ written 0 t b
  hung_number b low high = go (count t (slot_of b)) refl
    where
      go : (n : ℕ) → count t (slot_of b) ≡ n → number_at m.arrays b ≡ written 0 t b
      go zero e = clear_number b (h.rest (slot_of b) low high e) ∙ sym (written_none 0 t b e)
      go (suc n) e = hangs_written m.arrays 0 m.root t h.hangs sound.once b (omega arith)

  hung_draw : m ≡ draw (capacity m.arrays) t m.arrays.key
  unfolding draw lay child_of pc_of capacity
  hung_draw = λ i. record {
    arrays = record { left = left i; right = right i; pc = pc i; key = m.arrays.key };
    root = hangs_top m.arrays 0 m.root t h.hangs i;
  }
    where
      left : m.arrays.left ≡ listed (capacity m.arrays) 1 (λ s. written 0 t (child_cell lft s))
      left = is_listed _ _ _ h.lengths.left (λ s. hung_number (child_cell lft s))

      right : m.arrays.right ≡ listed (capacity m.arrays) 1 (λ s. written 0 t (child_cell rgt s))
      right = is_listed _ _ _ h.lengths.right (λ s. hung_number (child_cell rgt s))

      pc : m.arrays.pc ≡ listed (capacity m.arrays) 1 (λ s. written 0 t (pc_cell s))
      pc = is_listed _ _ _ refl (λ s. hung_number (pc_cell s))

-- arrays in which a tree hangs are its drawing
pub hung_holds : {m : Lent} {t : Tree} → Hung m t → Holds m t
hung_holds {m} {t} h = record {
  is = hung_draw m t h;
  sound = sound m t h;
  balanced = h.balanced;
  rising = h.rising;
  keys = h.lengths.key;
  small = h.lengths.small;
}

module _ (m : Lent) (t : Tree) (h : Holds m t) where
  -- each number is what the tree writes there
  holds_number : (b : Cell) → 0 < slot_of b → slot_of b ≤ capacity m.arrays → number_at m.arrays b ≡ written 0 t b
  holds_number b low high =
      ap (λ (n : Lent). number_at n.arrays b) h.is
      ∙ draw_number (capacity m.arrays) t m.arrays.key b low high

  rest_clear : (s : ℕ) → 0 < s → s ≤ capacity m.arrays → count t s ≡ 0 → Clear m.arrays s
  rest_clear s low high none = record {
    child = λ d. holds_number (child_cell d s) low high ∙ written_none 0 t (child_cell d s) none;
    pc = holds_number (pc_cell s) low high ∙ written_none 0 t (pc_cell s) none;
  }

  root_hangs : Hangs m.arrays 0 m.root t
  unfolding draw lay
  root_hangs =
      rw (ap (λ (n : Lent). n.root) h.is)
      (written_hangs m.arrays 0 t (rw h.balanced.top (omega arith)) h.sound λ b k.
      holds_number b (h.sound.low (slot_of b) k) (h.sound.high (slot_of b) k))

  same_lengths_lem : Lengths m.arrays
  unfolding draw lay
  same_lengths_lem = record {
    left = ap (λ (n : Lent). length n.arrays.left) h.is ∙ length_listed (capacity m.arrays) 1 _;
    right = ap (λ (n : Lent). length n.arrays.right) h.is ∙ length_listed (capacity m.arrays) 1 _;
    key = h.keys;
    small = h.small;
  }

-- and in a drawing its tree hangs
pub holds_hung : {m : Lent} {t : Tree} → Holds m t → Hung m t
holds_hung {m} {t} h = record {
  lengths = same_lengths_lem m t h;
  hangs = root_hangs m t h;
  rest = rest_clear m t h;
  balanced = h.balanced;
  rising = h.rising;
}
