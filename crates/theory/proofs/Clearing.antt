-- Clearing a drawing: every slot of the tree becomes unlinked, and the links of the empty tree are left.
use Prim.Native.Nat.{ℕ, zero, suc, ◌+◌, ◌≤◌}
use mathlib.Core.Path.{◌≡◌, refl, ap, sym, ◌∙◌, fun_ext}
use mathlib.Core.List.{List, [], ◌∷◌}
use native.Mathlib.Omega.{arith}
use lib.Dec.{eqb}
use borrow.Author.Tests.{eq-eqb, ne_eqb}
use Rattle.model.specs.Branch.{pick}
use Rattle.model.specs.Tree.{lft, rgt, Color, Tree, leaf, node, top_of, Frame, frame, plug}
use Rattle.model.specs.Draw.{Cell, child_cell, pc_cell, same_cell, written, lay, draw}
use Rattle.theory.specs.Balance.{height}
use Rattle.theory.specs.Cells.{slot_of}
use Rattle.theory.specs.Sound.{one, count, Sound}
use Rattle.theory.specs.Links.{laid, drawn}
use Rattle.theory.specs.Programs.{release_at, clear_from, clear_all}
use Rattle.theory.proofs.Counts.{one_same, by-slot, by_count, sound_less, slot_once, slot_low, slot_high}
use Rattle.theory.proofs.Cells.{update, read_near, read_far}
use Rattle.theory.proofs.DrawingCells.{written_none}
use Rattle.theory.proofs.Stores.{laid_child, laid_set_root}
use Rattle.theory.proofs.Linking.{stored, laid_store}

-- 0 in the cells of the tree's slots
unfoldable cleared : (Cell → ℕ) → Tree → Cell → ℕ
cleared f t s = pick (eqb (count t (slot_of s)) 0) (f s) 0

cleared_leaf : (f : Cell → ℕ) → cleared f leaf ≡ f
unfolding cleared
cleared_leaf f = refl

cleared_none : (f : Cell → ℕ) (t : Tree) (s : Cell) → count t (slot_of s) ≡ 0 → cleared f t s ≡ f s
unfolding cleared
cleared_none f t s none = rw (eq-eqb (count t (slot_of s)) 0 none)

cleared_some : (f : Cell → ℕ) (t : Tree) (s : Cell) → 1 ≤ count t (slot_of s) → cleared f t s ≡ 0
unfolding cleared
cleared_some f t s some = rw (ne_eqb (count t (slot_of s)) 0 (λ e. omega arith))

-- the children of the tree's slots are as in the tree
abbrev Reads : (Cell → ℕ) → Tree → Type 0
Reads f leaf = Unit {0}
Reads f (node c l x r) = (f (child_cell lft x) ≡ top_of l) × (f (child_cell rgt x) ≡ top_of r) × Reads f l × Reads f r

reads_drawn : {C : ℕ} (t : Tree) (w : List Frame) → Sound C (plug t w) → Reads (written 0 (plug t w)) t
reads_drawn leaf w h = tt
reads_drawn (node c l x r) w h = (
  read_near lft c l x r w h,
  read_far lft c l x r w h,
  reads_drawn l (frame lft c x r ∷ w) h,
  reads_drawn r (frame rgt c x l ∷ w) h,
)

-- another tree's slots may be cleared
reads_cleared : (f : Cell → ℕ) (t u : Tree) → ((s : ℕ) → count t s + count u s ≤ 1) → Reads f u → Reads (cleared f t) u
reads_cleared f t leaf apart h = tt
reads_cleared f t (node c l x r) apart h =
    let free : count t x ≡ 0 = omega (arith, apart x, one_same x) in (
      cleared_none f t (child_cell lft x) free ∙ h.0,
      cleared_none f t (child_cell rgt x) free ∙ h.1,
      reads_cleared f t l (λ s. omega (arith, apart s)) h.2,
      reads_cleared f t r (λ s. omega (arith, apart s)) h.3,
    )

stored_zero : (f : Cell → ℕ) (x : ℕ) (s : Cell) → stored f x 0 0 0 s ≡ pick (eqb x (slot_of s)) 0 (f s)
unfolding stored update same_cell
stored_zero f x (child_cell lft y) = refl
stored_zero f x (child_cell rgt y) = refl
stored_zero f x (pc_cell y) = refl

-- a node is cleared with its children
cleared_node : (f : Cell → ℕ) (c : Color) (l : Tree) (x : ℕ) (r : Tree) (s : Cell)
    → stored (cleared (cleared f l) r) x 0 0 0 s ≡ cleared f (node c l x r) s
cleared_node f c l x r s =
    let i = slot_of s in let whole = node c l x r in
    rw (stored_zero (cleared (cleared f l) r) x s) (by-slot x i
    (λ same. rw (eq-eqb x i same)
    (sym (cleared_some f whole s (omega (arith, one_same i, ap (λ (y : ℕ). one y i) same)))))
    (λ other. rw (ne_eqb x i (λ same. omega (arith, one_same i, ap (λ (y : ℕ). one y i) same)))
    (by_count r i
    (λ none-r. cleared_none (cleared f l) r s none-r ∙ by_count l i
    (λ none-l. cleared_none f l s none-l ∙ sym (cleared_none f whole s (omega arith)))
    (λ some-l. cleared_some f l s some-l ∙ sym (cleared_some f whole s (omega arith))))
    (λ some-r. cleared_some (cleared f l) r s some-r ∙ sym (cleared_some f whole s (omega arith))))))

clear_laid : {C : ℕ} (n : ℕ) (f : Cell → ℕ) (root : ℕ) (t : Tree) → height t ≤ n → Sound C t → Reads f t
    → clear_from n (laid C f root) (top_of t) ≡ laid C (cleared f t) root
unfolding clear_from release_at
clear_laid zero f root leaf le h reads = rw (cleared_leaf f)
clear_laid (suc n) f root leaf le h reads = rw (cleared_leaf f)
clear_laid zero f root (node c l x r) le h reads = absurd (omega arith)
clear_laid {C} (suc n) f root (node c l x r) le h reads =
    let low = slot_low lft c l x r [] h in let high = slot_high lft c l x r [] h in
    let once = slot_once lft c l x r [] h in
    let fₗ = cleared f l in
    let l-sound = sound_less (node c l x r) l (λ s. omega arith) h in
    let r-sound = sound_less (node c l x r) r (λ s. omega arith) h in
    let right : fₗ (child_cell rgt x) ≡ top_of r = cleared_none f l (child_cell rgt x) (omega arith) ∙ reads.1 in
    rw (
      ne_eqb x 0 (λ e. omega arith),
      laid_child C f root x low lft high,
      reads.0,
      clear_laid n f root l (omega arith) l-sound reads.2,
      laid_child C fₗ root x low rgt high,
      right,
      clear_laid n fₗ root r (omega arith) r-sound (reads_cleared f l r (λ s. omega (arith, h.once s)) reads.3),
    )
    (laid_store C (cleared fₗ r) root x 0 0 0 low
    ∙ ap (λ (g : Cell → ℕ). laid C g root) (fun_ext (cleared_node f c l x r)))

-- a tree's own cells, cleared, are empty
cleared_whole : (t : Tree) (s : Cell) → cleared (written 0 t) t s ≡ 0
cleared_whole t s = by_count t (slot_of s)
    (λ none. cleared_none (written 0 t) t s none ∙ written_none 0 t s none) (cleared_some (written 0 t) t s)

-- 01, clear: from any drawing to that of the empty tree
pub clear_drawn : {C : ℕ} (n : ℕ) (t : Tree) → height t ≤ n → Sound C t → clear_all n (drawn C t) ≡ drawn C leaf
unfolding clear_all drawn draw laid lay
clear_drawn {C} n t le h =
    rw (
      clear_laid n (written 0 t) (top_of t) t le h (reads_drawn t [] h),
      laid_set_root C (cleared (written 0 t) t) (top_of t) 0,
    )
    (ap (λ (f : Cell → ℕ). laid C f 0) (fun_ext (cleared_whole t)))
