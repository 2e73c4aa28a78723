-- The children of the last black node of a way.
use Prim.Native.Nat.{ℕ, ◌+◌, ◌≤◌, ◌<◌}
use native.Mathlib.Omega.{arith}
use native.Mathlib.Decide.{ℕ_discrete}
use mathlib.Core.Bool.{Bool}
use mathlib.Core.List.{List}
use mathlib.Core.Path.{◌≡◌, ◌∙◌}
use lib.Dec.{eqb}
use lib.ListN.{length}
use borrow.Author.Tests.{eq-eqb, ne_eqb, lt-ltb, le-ltb}
use Rattle.model.specs.Branch.{pick}
use Rattle.model.specs.Lent.{Arrays, arrays_of, capacity}
use Rattle.theory.specs.Quick.{is_tip, tip_ends}
use Rattle.theory.proofs.QuickBounds.{tip_small}
use Rattle.wellformed.specs.Checks.{Ready}

module _ {l r p k : List ℕ} {above at : ℕ} (s : ℕ) (h : Ready l r p k above) (e : at ≡ pick (eqb s 0) above s) where
  -- which slot is looked at
  at_cases : {R : Type 0} → (s ≡ 0 → at ≡ above → R) → ((s ≡ 0 → ⊥) → at ≡ s → R) → R
  at_cases {R} none some = go (ℕ_discrete s 0)
    where
      go : Dec (s ≡ 0) → R
      go (yes q) = none q (rw (eq-eqb s 0 q) at e)
      go (no q) = some q (rw (ne_eqb s 0 q) at e)

  pub tip_past : (low high : ℕ) → length p < at → 0 ≡ tip_ends (arrays_of l r p k) above s low high
  unfolding tip_ends capacity
  tip_past low high past =
      at_cases (λ q f. absurd (omega (arith, h.top)))
      (λ q f. rw (ne_eqb s 0 q, lt-ltb (length p) s (omega arith)))

  pub tip_count : (low high : ℕ) {count : ℕ} {good : Bool} → at ≤ length p →
      good ≡ is_tip (arrays_of l r p k) above at low high →
      count ≡ pick (eqb s 0) 1 (pick good 2 0) → count ≡ tip_ends (arrays_of l r p k) above s low high
  unfolding tip_ends capacity
  tip_count low high {count} {good} fits is count_is =
      at_cases (λ q f. count_is ∙ rw (eq-eqb s 0 q))
      (λ q f. count_is ∙ rw (ne_eqb s 0 q, le-ltb (length p) s (omega arith), is, f))

-- the sum of both counts fits
pub tips_fit : (a : Arrays) (s left right low k high : ℕ) {x y : ℕ} → x ≡ tip_ends a s left low k →
    y ≡ tip_ends a s right k high → x + y < 4294967296
tips_fit a s left right low k high e f = omega (arith, tip_small a s left low k, tip_small a s right k high)
