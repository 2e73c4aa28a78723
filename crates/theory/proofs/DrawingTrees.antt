-- A tree hangs in lent arrays exactly when they hold what it writes.
use Prim.Native.Nat.{ℕ, ◌≤◌, ◌<◌}
use native.Mathlib.Omega.{arith}
use mathlib.Core.Path.{◌≡◌, refl, ap, sym, ◌∙◌}
use Rattle.model.specs.Tree.{Side, lft, rgt, Color, Tree, leaf, node, on, top_of}
use Rattle.model.specs.Lent.{Arrays, capacity, child_of, pc_of, parent_color}
use Rattle.model.specs.Draw.{Cell, child_cell, pc_cell, written}
use Rattle.theory.specs.Balance.{tint}
use Rattle.theory.specs.Sound.{count, Sound}
use Rattle.theory.specs.Cells.{slot_of, number_at, own_number}
use Rattle.theory.specs.Hangs.{Hangs}
use Rattle.theory.proofs.Counts.{one_same}
use Rattle.theory.proofs.Nodes.{count_side, count_cases, sound_side, tops_differ}
use Rattle.theory.proofs.Hangs.{hangs_top}
use Rattle.theory.proofs.DrawingCells.{written_top, written_side}

module _ (a : Arrays) where
  own_number_lem : (p s : ℕ) (c : Color) (l : Tree) (x : ℕ) (r : Tree) (b : Cell) → x ≡ slot_of b →
      Hangs a p s (node c l x r) → number_at a b ≡ own_number p c l r b
  own_number_lem p s c l x r (child_cell lft y) e h = ap (child_of lft a) (sym e)
      ∙ hangs_top a x (child_of lft a x) l h.1
  own_number_lem p s c l x r (child_cell rgt y) e h = ap (child_of rgt a) (sym e)
      ∙ hangs_top a x (child_of rgt a x) r h.2
  own_number_lem p s c l x r (pc_cell y) e h = ap (pc_of a) (sym e) ∙ h.0.marked

  -- where a tree hangs, the cells of its slots hold what it writes
  pub hangs_written : (p s : ℕ) (t : Tree) → Hangs a p s t → ((x : ℕ) → count t x ≤ 1) →
      (b : Cell) → 1 ≤ count t (slot_of b) → number_at a b ≡ written p t b
  hangs_written p s leaf h once b k = absurd (omega arith)
  hangs_written p s (node c l x r) h once b k =
      count_cases c l x r (slot_of b) k
      (λ e. own_number_lem p s c l x r b e h ∙ sym (written_top p c l x r b e (once (slot_of b))))
      (λ k. hangs_written x (child_of lft a x) l h.1 (λ y. omega (arith, once y)) b k
      ∙ sym (written_side p c l x r b lft k (once (slot_of b))))
      (λ k. hangs_written x (child_of rgt a x) r h.2 (λ y. omega (arith, once y)) b k
      ∙ sym (written_side p c l x r b rgt k (once (slot_of b))))

  -- where the cells of its slots hold what it writes, a tree hangs
  pub written_hangs : (p : ℕ) (t : Tree) → 0 < parent_color p (tint t) → Sound (capacity a) t →
      ((b : Cell) → 1 ≤ count t (slot_of b) → number_at a b ≡ written p t b) → Hangs a p (top_of t) t
  written_hangs p leaf some sound each = refl
  written_hangs p (node c l x r) some sound each = (
    record {
      same = refl;
      linked = record { positive = positive; fits = sound.high x here; marked = rw marked some };
      marked = marked;
      differ = rw (child lft, child rgt) (tops_differ c l x r sound);
    },
    rw (child lft) (written_hangs x l (omega (arith, positive)) (sound_side lft c l x r sound) (below lft)),
    rw (child rgt) (written_hangs x r (omega (arith, positive)) (sound_side rgt c l x r sound) (below rgt)),
  )
    where
      here : 1 ≤ count (node c l x r) x
      here = omega (arith, one_same x)

      positive : 0 < x
      positive = sound.low x here

      own : (b : Cell) → x ≡ slot_of b → number_at a b ≡ own_number p c l r b
      own b e = each b (rw (← e) here) ∙ written_top p c l x r b e (sound.once (slot_of b))

      marked : pc_of a x ≡ parent_color p c
      marked = own (pc_cell x) refl

      child : (d : Side) → child_of d a x ≡ top_of (on d l r)
      child d = own (child_cell d x) refl

      below : (d : Side) (b : Cell) → 1 ≤ count (on d l r) (slot_of b) → number_at a b ≡ written x (on d l r) b
      below d b k =
          each b (omega (arith, count_side d c l x r (slot_of b)))
          ∙ written_side p c l x r b d k (sound.once (slot_of b))
