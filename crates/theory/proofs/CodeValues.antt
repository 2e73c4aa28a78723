-- Character values: which bytes have one, how large it is, and that it tells a character up to the case of a letter.
-- Only this file opens `value_of` and `lowered`.
use Prim.Native.Nat.{ℕ, ◌+◌, ◌-◌, ◌≤◌, ◌<◌}
use mathlib.Core.Path.{◌≡◌, sym, ap, ◌∙◌}
use mathlib.Core.Bool.{true, false, false≢true}
use mathlib.Core.Logic.Dec
use mathlib.Core.Logic.{inl, inr, ⊎_elim, ◌↔◌, by_cases}
use mathlib.Core.Option.{none, some, none-ne-some}
use native.Mathlib.Omega.{arith}
use native.Mathlib.Decide.{dec_le}
use lib.Dec.{leb}
use borrow.Author.Tests.{le-leb, lt-leb}
use Rattle.model.specs.Branch.{choose}
use Rattle.model.specs.Codes.{ranged, value_of, is_some, lowered}
use Rattle.theory.specs.Spelling.{Within, Character}

module _ (lo hi b : ℕ) where
  within? : Dec (Within lo hi b)
  within? = Dec.and (dec_le lo b) (dec_le b hi)

  ranged_true : Within lo hi b → ranged lo hi b ≡ true
  ranged_true w = rw (le-leb lo b w.0, le-leb b hi w.1)

  ranged_false : (Within lo hi b → ⊥) → ranged lo hi b ≡ false
  ranged_false f =
      by_cases (dec_le lo b) (λ h. rw (le-leb lo b h, lt-leb b hi (above h))) (λ h. rw (lt-leb lo b (omega arith)))
    where
      above : lo ≤ b → hi < b
      above h = by_cases (dec_le b hi) (λ k. absurd (f (h, k))) (λ k. omega arith)

-- The value by where the byte lies, and none elsewhere.
module _ (b : ℕ) where
  pub value_digit : Within 48 57 b → value_of b ≡ some (b - 48 + 1)
  unfolding value_of
  value_digit w = rw (ranged_true 48 57 b w)

  pub value_upper : Within 65 90 b → value_of b ≡ some (b - 65 + 11)
  unfolding value_of
  value_upper w = rw (ranged_false 48 57 b (λ k. omega arith), ranged_true 65 90 b w)

  pub value_lower : Within 97 122 b → value_of b ≡ some (b - 97 + 11)
  unfolding value_of
  value_lower w =
      rw (ranged_false 48 57 b (λ k. omega arith), ranged_false 65 90 b (λ k. omega arith), ranged_true 97 122 b w)

  pub value_none : (Within 48 57 b → ⊥) → (Within 65 90 b → ⊥) → (Within 97 122 b → ⊥) → value_of b ≡ none
  unfolding value_of
  value_none f g h = rw (ranged_false 48 57 b f, ranged_false 65 90 b g, ranged_false 97 122 b h)

  lowered_upper : Within 65 90 b → lowered b ≡ b + 32
  unfolding lowered
  lowered_upper w = rw (ranged_true 65 90 b w)

  lowered_other : (Within 65 90 b → ⊥) → lowered b ≡ b
  unfolding lowered
  lowered_other f = rw (ranged_false 65 90 b f)

-- What a byte is, with its value and its lower case.
data Kind (b : ℕ) : Type 0 where
  digit : Within 48 57 b → value_of b ≡ some (b - 48 + 1) → lowered b ≡ b → Kind b
  upper : Within 65 90 b → value_of b ≡ some (b - 65 + 11) → lowered b ≡ b + 32 → Kind b
  lower : Within 97 122 b → value_of b ≡ some (b - 97 + 11) → lowered b ≡ b → Kind b
  other : (Character b → ⊥) → value_of b ≡ none → lowered b ≡ b → Kind b

kind : (b : ℕ) → Kind b
kind b =
    by_cases (within? 48 57 b) (λ w. digit w (value_digit b w) (lowered_other b (λ k. omega arith))) λ f.
    by_cases (within? 65 90 b) (λ w. upper w (value_upper b w) (lowered_upper b w)) λ g.
    by_cases (within? 97 122 b) (λ w. lower w (value_lower b w) (lowered_other b (λ k. omega arith))) λ h.
    other (⊎_elim f (⊎_elim g h)) (value_none b f g h) (lowered_other b g)

-- A byte has a value exactly when it is a digit or a letter.
pub value_character : (b : ℕ) → (is_some (value_of b) ≡ true) ↔ Character b
value_character b = of (kind b)
  where
    of : Kind b → (is_some (value_of b) ≡ true) ↔ Character b
    of (digit w e q) = (λ _. inl w, λ _. rw e)
    of (upper w e q) = (λ _. inr (inl w), λ _. rw e)
    of (lower w e q) = (λ _. inr (inr w), λ _. rw e)
    of (other f e q) = (λ t. absurd (false≢true (rw e at t)), λ c. absurd (f c))

-- 0 stands for no character.
pub value_range : (b v : ℕ) → value_of b ≡ some v → (1 ≤ v) × (v ≤ 36)
value_range b v k = of (kind b)
  where
    of : Kind b → (1 ≤ v) × (v ≤ 36)
    of (digit w e q) = let z : b - 48 + 1 ≡ v = cc in omega arith
    of (upper w e q) = let z : b - 65 + 11 ≡ v = cc in omega arith
    of (lower w e q) = let z : b - 97 + 11 ≡ v = cc in omega arith
    of (other f e q) = absurd (none-ne-some v (sym e ∙ k))

-- Both cases of a letter have one value.
pub value_lowered : (b : ℕ) → value_of (lowered b) ≡ value_of b
value_lowered b = of (kind b)
  where
    of : Kind b → value_of (lowered b) ≡ value_of b
    of (digit w e q) = rw q
    of (upper w e q) = rw (q, e, value_lower (b + 32) (omega arith)) (ap some (omega arith))
    of (lower w e q) = rw q
    of (other f e q) = rw q

-- the character of a value, in lower case
character_of : (value : ℕ) → ℕ
character_of v = choose (leb v 10) (λ _. v + 47) (λ _. v + 86)

character_of_lem : (b v : ℕ) → value_of b ≡ some v → lowered b ≡ character_of v
unfolding character_of
character_of_lem b v k = of (kind b)
  where
    of : Kind b → lowered b ≡ character_of v
    of (digit w e q) = let z : b - 48 + 1 ≡ v = cc in rw (le-leb v 10 (omega arith), q) (omega arith)
    of (upper w e q) = let z : b - 65 + 11 ≡ v = cc in rw (lt-leb v 10 (omega arith), q) (omega arith)
    of (lower w e q) = let z : b - 97 + 11 ≡ v = cc in rw (lt-leb v 10 (omega arith), q) (omega arith)
    of (other f e q) = absurd (none-ne-some v (sym e ∙ k))

-- One value, one character up to case.
pub value_one : (a b v : ℕ) → value_of a ≡ some v → value_of b ≡ some v → lowered a ≡ lowered b
value_one a b v h k = character_of_lem a v h ∙ sym (character_of_lem b v k)
