-- How often a slot stands in a tree and at a place of it, and when a tree fits into C slots.
use Prim.Native.Nat.{ℕ, zero, suc, ◌+◌, ◌≤◌}
use mathlib.Core.Path.{◌≡◌, refl}
use mathlib.Core.List.{List, [], ◌∷◌}
use native.Mathlib.Omega.{arith}
use lib.Dec.{eqb, leb}
use borrow.Author.Tests.{eqb-true, eq-eqb, leb-true, leb-false}
use Rattle.model.specs.Tree.{Side, lft, rgt, Color, Tree, leaf, node, nod, top_of, Frame, frame, plug, above}
use Rattle.theory.specs.Sound.{one, count, count_up, Sound}
use Rattle.theory.proofs.Branch.{by-test}

-- ---- one slot

pub one_same : (x : ℕ) → one x x ≡ 1
unfolding one
one_same x = rw (eq-eqb x x refl)

pub by-slot {ℓ} : {P : Type ℓ} (x s : ℕ) → (x ≡ s → P) → (one x s ≡ 0 → P) → P
unfolding one
by-slot x s same other = by-test (eqb x s) (λ is. same (eqb-true x s is)) (λ is. other (rw is))

pub one_sym : (x s : ℕ) → one x s ≡ 0 → one s x ≡ 0
one_sym x s h = by-slot s x (λ e. absurd (omega (arith, one_same x, rw e at h))) (λ e. e)

-- ---- trees and places

pub count_nod : (d : Side) (c : Color) (near : Tree) (x : ℕ) (far : Tree) (s : ℕ)
    → count (nod d c near x far) s ≡ one x s + (count near s + count far s)
count_nod lft c near x far s = refl
count_nod rgt c near x far s = omega arith

pub count_plug : (t : Tree) (w : List Frame) (s : ℕ) → count (plug t w) s ≡ count t s + count_up w s
count_plug t [] s = omega arith
count_plug t (frame d c p u ∷ w) s = omega (arith, count_plug (nod d c t p u) w s, count_nod d c t p u s)

-- the slot on top stands in the tree
pub count_top : (t : Tree) → 1 ≤ top_of t → 1 ≤ count t (top_of t)
count_top leaf h = absurd (omega arith)
count_top (node c l x r) h = omega (arith, one_same x)

-- a slot stands in the tree or not
pub by_count {ℓ} : {P : Type ℓ} (t : Tree) (s : ℕ) → (count t s ≡ 0 → P) → (1 ≤ count t s → P) → P
by_count t s none some = by-test (leb 1 (count t s))
    (λ is. some (leb-true 1 (count t s) is)) (λ is. none (omega (arith, leb-false 1 (count t s) is)))

-- ---- trees that fit

pub sound_less : {C : ℕ} (t u : Tree) → ((s : ℕ) → count u s ≤ count t s) → Sound C t → Sound C u
sound_less t u le h = record {
  once = λ s. omega (arith, le s, h.once s);
  low = λ s k. h.low s (omega (arith, le s));
  high = λ s k. h.high s (omega (arith, le s));
}

-- one slot more, which isn't in the tree yet
pub sound_more : {C : ℕ} (t u : Tree) (x : ℕ) → ((s : ℕ) → count u s ≤ one x s + count t s)
    → count t x ≡ 0 → 1 ≤ x → x ≤ C → Sound C t → Sound C u
sound_more t u x le fresh low high h = record {
  once = λ s. by-slot x s (λ e. rw (← e) (omega (arith, le x, one_same x))) (λ e. omega (arith, le s, h.once s));
  low = λ s k. by-slot x s (λ e. rw (← e) low) (λ e. h.low s (omega (arith, le s)));
  high = λ s k. by-slot x s (λ e. rw (← e) high) (λ e. h.high s (omega (arith, le s)));
}

-- 0 is no slot
pub count_zero : {C : ℕ} (t : Tree) → Sound C t → count t 0 ≡ 0
count_zero t h = none (count t 0) (λ k. omega (arith, h.low 0 k))
  where
    none : (n : ℕ) → (1 ≤ n → ⊥) → n ≡ 0
    none zero h = refl
    none (suc n) h = absurd (h (omega arith))

-- the parent of a place doesn't stand below it
pub count_above : {C : ℕ} (t : Tree) (w : List Frame) → Sound C (plug t w) → count t (above w) ≡ 0
count_above t [] h = count_zero t h
count_above t (frame d c p s ∷ w) h =
    omega (arith, h.once p, count_plug (nod d c t p s) w p, count_nod d c t p s p, one_same p)

-- a child's top doesn't stand below the other
pub count_apart : {C : ℕ} (c : Color) (l : Tree) (x : ℕ) (r : Tree) (w : List Frame)
    → Sound C (plug (node c l x r) w) → count l (top_of r) ≡ 0
count_apart c l x leaf w h =
    omega (arith, count_zero (plug (node c l x leaf) w) h, count_plug (node c l x leaf) w 0)
count_apart c l x (node k a y b) w h =
    omega (arith, h.once y, count_plug (node c l x (node k a y b)) w y, one_same y)

-- what stands at a place is a slot of 1 to C, and stands once
module _ {C : ℕ} (d : Side) (c : Color) (near : Tree) (x : ℕ) (far : Tree) (w : List Frame)
    (h : Sound C (plug (nod d c near x far) w)) where
  pub slot_once : count near x + count far x + count_up w x ≡ 0
  slot_once = omega (arith, h.once x, count_plug (nod d c near x far) w x, count_nod d c near x far x, one_same x)

  slot_count : 1 ≤ count (plug (nod d c near x far) w) x
  slot_count = omega (arith, count_plug (nod d c near x far) w x, count_nod d c near x far x, one_same x)

  pub slot_low : 1 ≤ x
  slot_low = h.low x slot_count

  pub slot_high : x ≤ C
  slot_high = h.high x slot_count
