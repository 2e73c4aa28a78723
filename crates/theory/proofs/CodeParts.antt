-- Parts of a line: the value of each place, the key that the places make, and how a part is read.
use Prim.Native.Nat.{ℕ, zero, suc, ◌^◌, ◌≤◌, ◌<◌}
use mathlib.Core.Path.{◌≡◌, refl, sym, ◌∙◌}
use mathlib.Core.Bool.{Bool, true, false, false≢true}
use mathlib.Core.List.{List, [], ◌∷◌, map}
use mathlib.Core.Logic.{◌⊎◌, inl, inr, ⊎_elim, by_cases}
use mathlib.Core.Option.{Option, none, some}
use native.Mathlib.Nat.{pow-suc, eq-or-lt_of_le, le_of_suc-le-suc}
use native.Mathlib.Omega.{arith}
use native.Mathlib.Decide.{dec_le, dec_lt}
use lib.ListN.{length, get_or, length-map}
use borrow.Author.Tests.{lt-ltb, le-ltb, le-leb, lt-leb}
use Rattle.model.specs.Limits.{code_limit}
use Rattle.model.specs.Answers.{done, bad_code}
use Rattle.model.specs.Codes.{value_of, is_some, some_or0, all_values, place_value, key_up_to, lowered, is_code}
use Rattle.model.specs.Codes.{Reading}
use Rattle.model.specs.Codes.{read_part}
use Rattle.theory.specs.Spelling.{Character, Spelled, Stray, Good, Bad}
use Rattle.theory.proofs.CodeValues.{value_character, value_range, value_lowered}

-- ---- places

-- A place of the part has the value of its character, any other 0.
module _ (s : List ℕ) (i : ℕ) where
  pub place_within : i < length s → place_value s i ≡ some_or0 (value_of (get_or s i 0))
  unfolding place_value
  place_within h = rw (lt-ltb i (length s) h)

  pub place_past : length s ≤ i → place_value s i ≡ 0
  unfolding place_value
  place_past h = rw (le-ltb i (length s) h)

value_small : (b : ℕ) (o : Option ℕ) → value_of b ≡ o → some_or0 o ≤ 36
value_small b none e = omega arith
value_small b (some v) e = (value_range b v e).1

place_small : (s : List ℕ) (i : ℕ) → place_value s i ≤ 36
place_small s i =
    by_cases (dec_lt i (length s))
    (λ h. rw (place_within s i h) (value_small (get_or s i 0) (value_of (get_or s i 0)) refl))
    (λ h. rw (place_past s i (omega arith)) (omega arith))

-- The first n places make a number of n digits.
pub key_small : (s : List ℕ) (n : ℕ) → key_up_to s n < 37 ^ n
unfolding key_up_to
key_small s zero = omega arith
key_small s (suc n) = rw pow-suc (omega (arith, key_small s n, place_small s n))

-- It is not 0 where the first place isn't.
pub key_filled : (s : List ℕ) → 0 < place_value s 0 → (n : ℕ) → 0 < n → 0 < key_up_to s n
unfolding key_up_to
key_filled s h zero k = k
key_filled s h (suc zero) k = omega arith
key_filled s h (suc (suc n)) k = omega (arith, key_filled s h (suc n) (omega arith))

-- It tells each of its places.
pub key_places :
    (s t : List ℕ) (n : ℕ) → key_up_to s n ≡ key_up_to t n → (i : ℕ) → i < n → place_value s i ≡ place_value t i
unfolding key_up_to
key_places s t zero e i h = absurd (omega arith)
key_places s t (suc n) e i h =
    let high : key_up_to s n ≡ key_up_to t n = omega (arith, place_small s n, place_small t n) in
    let low : place_value s n ≡ place_value t n = omega (arith, place_small s n, place_small t n) in
    ⊎_elim (λ q. rw q low) (λ k. key_places s t n high i k) (eq-or-lt_of_le (le_of_suc-le-suc h))

-- ---- the case of letters

-- A part in lower case has each of its bytes in lower case.
pub lowered_at : (s : List ℕ) (i : ℕ) → i < length s → get_or (map lowered s) i 0 ≡ lowered (get_or s i 0)
lowered_at [] i h = absurd (omega arith)
lowered_at (b ∷ s) zero h = refl
lowered_at (b ∷ s) (suc i) h = lowered_at s i (le_of_suc-le-suc h)

place_lowered : (s : List ℕ) (i : ℕ) → place_value (map lowered s) i ≡ place_value s i
place_lowered s i = by_cases (dec_lt i (length s)) inside outside
  where
    inside : i < length s → place_value (map lowered s) i ≡ place_value s i
    inside h =
        rw (place_within (map lowered s) i (rw length-map h), place_within s i h, lowered_at s i h, value_lowered)

    outside : (i < length s → ⊥) → place_value (map lowered s) i ≡ place_value s i
    outside h = rw (place_past (map lowered s) i (rw length-map (omega arith)), place_past s i (omega arith))

-- Upper and lower case make one key.
pub key_lowered : (s : List ℕ) (n : ℕ) → key_up_to (map lowered s) n ≡ key_up_to s n
unfolding key_up_to
key_lowered s zero = refl
key_lowered s (suc n) = rw (key_lowered s n, place_lowered)

-- ---- what a part is

-- No part is a code with something against it.
pub never_both : (s : List ℕ) → Good s → Bad s → ⊥
never_both s g (inl e) = omega (arith, g.filled)
never_both s g (inr (inl h)) = omega (arith, g.fits)
never_both s g (inr (inr r)) = r.2 (g.spelled r.0 r.1)

some_value : (o : Option ℕ) → is_some o ≡ true → o ≡ some (some_or0 o)
some_value none e = absurd (false≢true e)
some_value (some v) e = refl

-- Each character of a code has the value of its place.
pub value_at : (s : List ℕ) → Good s → (i : ℕ) → i < length s → value_of (get_or s i 0) ≡ some (place_value s i)
value_at s g i h = rw (place_within s i h)
    (some_value (value_of (get_or s i 0)) ((value_character _).1 (g.spelled i h)))

-- ---- how it is read

spelled_more : (b : ℕ) (s : List ℕ) → Character b → Spelled s → Spelled (b ∷ s)
spelled_more b s k f zero h = k
spelled_more b s k f (suc i) h = f i (le_of_suc-le-suc h)

abbrev Values : List ℕ → Type 0
Values s = ((all_values s ≡ true) × Spelled s) ⊎ ((all_values s ≡ false) × Stray s)

values_more : (b : ℕ) (s : List ℕ) (t : Bool) → is_some (value_of b) ≡ t → Values s → Values (b ∷ s)
values_more b s true e (inl r) = inl (rw e r.0, spelled_more b s ((value_character b).0 e) r.1)
values_more b s true e (inr r) = inr (rw e r.0, (suc r.1.0, omega (arith, r.1.1), r.1.2))
values_more b s false e r = inr (rw e, (0, omega arith, λ k. false≢true (sym e ∙ (value_character b).1 k)))

values : (s : List ℕ) → Values s
values [] = inl (refl, λ i h. absurd (omega arith))
values (b ∷ s) = values_more b s (is_some (value_of b)) refl (values s)

-- the two ways to read a part
abbrev pub good_reading : (part : List ℕ) → Reading
good_reading s = record { code = done; key = key_up_to s code_limit; part = s }

abbrev pub bad_reading : Reading
bad_reading = record { code = bad_code; key = 0; part = [] }

-- The part is a code or has something against it, and the reading is one or the other accordingly.
abbrev pub Read : (part : List ℕ) → Reading → Type 0
Read s r = (Good s × (r ≡ good_reading s)) ⊎ (Bad s × (r ≡ bad_reading))

module _ (s : List ℕ) where
  read_empty : length s ≡ 0 → Read s (read_part s)
  unfolding read_part is_code
  read_empty e = inr (inl e, rw (le-ltb 0 (length s) (omega arith)))

  read_long : code_limit < length s → Read s (read_part s)
  unfolding read_part is_code
  read_long h = inr (inr (inl h), rw (lt-ltb 0 (length s) (omega arith), lt-leb (length s) code_limit h))

  read_values : 0 < length s → length s ≤ code_limit → Values s → Read s (read_part s)
  unfolding read_part is_code
  read_values h k (inl r) =
      inl
      (record { filled = h; fits = k; spelled = r.1 }, rw (lt-ltb 0 (length s) h, le-leb (length s) code_limit k, r.0))
  read_values h k (inr r) =
      inr (inr (inr r.1), rw (lt-ltb 0 (length s) h, le-leb (length s) code_limit k, r.0))

  pub read : Read s (read_part s)
  read =
      by_cases (dec_lt 0 (length s))
      (λ h. by_cases (dec_le (length s) code_limit) (λ k. read_values h k (values s)) (λ k. read_long (omega arith)))
      (λ h. read_empty (omega arith))

  -- So each side alone tells the reading.
  pub read_good : Good s → read_part s ≡ good_reading s
  read_good g = ⊎_elim (λ r. r.1) (λ r. absurd (never_both s g r.0)) read

  pub read_bad : Bad s → read_part s ≡ bad_reading
  read_bad b = ⊎_elim (λ r. absurd (never_both s r.0 b)) (λ r. r.1) read
