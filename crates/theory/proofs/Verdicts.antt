-- The tests of the check, each as the fact that it decides.
use Prim.Native.Nat.{ℕ, ◌≤◌, ◌<◌}
use native.Mathlib.Omega.{arith}
use native.Mathlib.Decide.{ℕ_discrete}
use mathlib.Core.Bool.{Bool, true, false, ◌&&◌}
use mathlib.Core.Logic.{inl, inr}
use mathlib.Core.Path.{◌≡◌, refl, sym, ◌∙◌}
use lib.Dec.{leb, ltb}
use borrow.Author.Tests.{eqb-true, eq-eqb, ne_eqb, ltb-true, lt-ltb, leb-true, le-leb}
use Rattle.model.specs.Branch.{both}
use Rattle.model.specs.Lent.{Arrays, capacity}
use Rattle.model.specs.WellFormed.{Differ}
use Rattle.model.specs.Check.{Verdict, bad, good, guard, and_then, differ, is_slot}

-- ---- verdicts: what a good one has passed, and what makes one good

pub bad_good : {R : Type 0} {b n k : ℕ} → bad ≡ good b n k → R
bad_good {R} {b} {n} {k} e = let z : ◌≡◌ {A = ℕ} 0 1 = cc in absurd (omega arith)

pub guard_good : {R : Type 0} (t : Bool) (more : Unit {0} → Verdict) {b n k : ℕ} → guard t more ≡ good b n k →
    (t ≡ true → more tt ≡ good b n k → R) → R
unfolding guard
guard_good true more e f = f refl e
guard_good false more e f = bad_good e

pub then_good : {R : Type 0} (v : Verdict) (more : ℕ → ℕ → ℕ → Verdict) {b n k : ℕ} → and_then v more ≡ good b n k →
    ((h i j : ℕ) → v ≡ good h i j → more h i j ≡ good b n k → R) → R
unfolding and_then
then_good bad more e f = bad_good e
then_good (good h i j) more e f = f h i j refl e

pub guard_pass : (t : Bool) (more : Unit {0} → Verdict) (v : Verdict) → t ≡ true → more tt ≡ v → guard t more ≡ v
unfolding guard
guard_pass t more v e f = rw e f

pub then_pass : (u : Verdict) (more : ℕ → ℕ → ℕ → Verdict) (v : Verdict) (b n k : ℕ) → u ≡ good b n k → more b n k ≡ v →
    and_then u more ≡ v
unfolding and_then
then_pass u more v b n k e f = rw e f

-- ---- the tests, and what they decide

pub both_true : {R : Type 0} (t : Bool) (more : Unit {0} → Bool) → both t more ≡ true →
    (t ≡ true → more tt ≡ true → R) → R
unfolding both
both_true true more e f = f refl e
both_true false more e f = let z : ◌≡◌ {A = ℕ} 0 1 = cc in absurd (omega arith)

pub both_pass : (t : Bool) (more : Unit {0} → Bool) → t ≡ true → more tt ≡ true → both t more ≡ true
unfolding both
both_pass t more e f = rw e f

pub and_true : {R : Type 0} (t u : Bool) → (t && u) ≡ true → (t ≡ true → u ≡ true → R) → R
and_true true u e f = f refl e
and_true false u e f = let z : ◌≡◌ {A = ℕ} 0 1 = cc in absurd (omega arith)

-- two children
pub differ_true : (l r : ℕ) → differ l r ≡ true → Differ l r
unfolding differ
differ_true l r e = go (ℕ_discrete l r)
  where
    go : Dec (l ≡ r) → Differ l r
    go (yes q) = let z : l ≡ 0 = eqb-true l 0 (rw (eq-eqb l r q) at e) in inr (z, sym q ∙ z)
    go (no q) = inl q

pub true_differ : (l r : ℕ) → Differ l r → differ l r ≡ true
unfolding differ
true_differ l r (inl q) = rw (ne_eqb l r q)
true_differ l r (inr q) = rw (q.0, q.1)

-- a slot number
pub slot_true : (a : Arrays) (s : ℕ) → is_slot a s ≡ true → (0 < s) × (s ≤ capacity a)
unfolding is_slot
slot_true a s e = and_true (ltb 0 s) (leb s (capacity a)) e λ f g. (ltb-true 0 s f, leb-true s (capacity a) g)

pub no_slot : (a : Arrays) → is_slot a 0 ≡ false
unfolding is_slot
no_slot a = refl

pub true_slot : (a : Arrays) (s : ℕ) → 0 < s → s ≤ capacity a → is_slot a s ≡ true
unfolding is_slot
true_slot a s low high = rw (lt-ltb 0 s low, le-leb s (capacity a) high)
