-- Code keys: which lines are refused, how large a key is, and that accepted lines have one key exactly when they spell
-- one code.
use Prim.Native.Nat.{ℕ, ◌-◌, ◌^◌, ◌≤◌, ◌<◌}
use mathlib.Core.Path.{◌≡◌, sym, ap, ◌∙◌}
use mathlib.Core.List.{List, [], map}
use mathlib.Core.Logic.{⊎_elim, ◌↔◌, ◌≢◌, by_cases}
use native.Mathlib.Nat.{le_antisymm}
use native.Mathlib.Omega.{arith}
use native.Mathlib.Decide.{dec_le}
use lib.ListN.{length, get_or, length-map}
use lib.Seq.{ext_get_or}
use Rattle.model.specs.Limits.{code_limit}
use Rattle.model.specs.Answers.{done, bad_code}
use Rattle.model.specs.Codes.{trimmed, place_value, key_up_to, Reading, read_line, lowered, OneCode}
use Rattle.theory.specs.Spelling.{Good, Bad}
use Rattle.theory.proofs.CodeValues.{value_range, value_one}
use Rattle.theory.proofs.CodeParts.{place_past, key_small, key_filled, key_places, lowered_at, key_lowered}
use Rattle.theory.proofs.CodeParts.{never_both, value_at, good_reading, bad_reading, Read, read}

-- ---- refusals

-- A line is read as its part is.
reading : (l : List ℕ) → Read (trimmed l) (read_line l)
unfolding read_line
reading l = read (trimmed l)

never_done : {A : Type 0} (r : Reading) → r ≡ bad_reading → r.code ≡ done → A
never_done r e q = let z : ◌≡◌ {A = ℕ} 0 1 = cc in absurd (omega arith)

never_bad : {A : Type 0} (r : Reading) (s : List ℕ) → r ≡ good_reading s → r.code ≡ bad_code → A
never_bad r s e q = let z : ◌≡◌ {A = ℕ} 0 1 = cc in absurd (omega arith)

module _ (l : List ℕ) where
  -- A line is refused exactly when its part is empty, too long, or has a byte that is neither a digit nor a letter.
  pub bad_code_lem : ((read_line l).code ≡ bad_code) ↔ Bad (trimmed l)
  bad_code_lem =
      ⊎_elim
      (λ r. (never_bad _ _ r.1, λ b. absurd (never_both _ r.0 b)))
      (λ r. (λ _. r.0, λ _. ap (λ (x : Reading). x.code) r.1))
      (reading l)

  -- Any other line is accepted.
  pub good_code : ((read_line l).code ≡ done) ↔ (Bad (trimmed l) → ⊥)
  good_code =
      ⊎_elim
      (λ r. (λ _. never_both _ r.0, λ _. ap (λ (x : Reading). x.code) r.1))
      (λ r. (never_done _ r.1, λ f. absurd (f r.0)))
      (reading l)

  -- An accepted line hands its trimmed part on, with the key of its places.
  pub good_reading_lem :
      (read_line l).code ≡ done →
      read_line l ≡ record { code = done; key = key_up_to (trimmed l) code_limit; part = trimmed l }
  good_reading_lem q = ⊎_elim (λ r. r.1) (λ r. never_done _ r.1 q) (reading l)

  -- Any other has key 0 and an empty part.
  pub bad_reading_lem : (read_line l).code ≢ done → read_line l ≡ record { code = bad_code; key = 0; part = [] }
  bad_reading_lem f = ⊎_elim (λ r. absurd (f (ap (λ (x : Reading). x.code) r.1))) (λ r. r.1) (reading l)

  good_part : (read_line l).code ≡ done → Good (trimmed l)
  good_part q = ⊎_elim (λ r. r.0) (λ r. never_done _ r.1 q) (reading l)

  key_of_good : (read_line l).code ≡ done → (read_line l).key ≡ key_up_to (trimmed l) code_limit
  key_of_good q = ap (λ (x : Reading). x.key) (good_reading_lem q)

-- ---- keys

-- A character of a code has a value from 1, and it is that of its place.
filled_place : (s : List ℕ) → Good s → (i : ℕ) → i < length s → 0 < place_value s i
filled_place s g i h = (value_range _ _ (value_at s g i h)).0

-- A key is never 0, and has at most as many digits as a code has characters.
pub accepted_key :
    (l : List ℕ) → (read_line l).code ≡ done → (1 ≤ (read_line l).key) × ((read_line l).key ≤ 37 ^ code_limit - 1)
accepted_key l q =
    let s = trimmed l in
    let g = good_part l q in
    rw (key_of_good l q)
    (key_filled s (filled_place s g 0 g.filled) code_limit (omega arith), omega (arith, key_small s code_limit))

-- Codes whose places agree are as long as each other, and differ at most in case.
module _ (s t : List ℕ) (same : (i : ℕ) → i < code_limit → place_value s i ≡ place_value t i) where
  no_longer : Good s → length s ≤ length t
  no_longer g =
      by_cases (dec_le (length s) (length t)) (λ h. h) λ h.
      let i = length t in
      let k : i < length s = omega arith in
      absurd (omega (arith, filled_place s g i k, same i (omega (arith, g.fits)), place_past t i (omega arith)))

  same_spelling : Good s → Good t → length s ≡ length t → map lowered s ≡ map lowered t
  same_spelling g k e = ext_get_or 0 (map lowered s) (map lowered t) (simp length-map e) each
    where
      each : (i : ℕ) → i < length (map lowered s) → get_or (map lowered s) i 0 ≡ get_or (map lowered t) i 0
      each i m =
          let h : i < length s = rw length-map at m in
          let n : i < length t = omega arith in
          let q : place_value t i ≡ place_value s i = sym (same i (omega (arith, g.fits))) in
          rw (lowered_at s i h, lowered_at t i n)
          (value_one _ _ (place_value s i) (value_at s g i h) (rw q at (value_at t k i n)))

-- Accepted lines have one key exactly when they spell one code.
pub one_key :
    (l m : List ℕ) → (read_line l).code ≡ done → (read_line m).code ≡ done →
    ((read_line l).key ≡ (read_line m).key) ↔ OneCode l m
one_key l m p q = (forth, back)
  where
    forth : (read_line l).key ≡ (read_line m).key → OneCode l m
    forth e =
        let k = key_places _ _ code_limit (sym (key_of_good l p) ∙ e ∙ key_of_good m q) in
        let a = no_longer _ _ k (good_part l p) in
        let b = no_longer _ _ (λ i h. sym (k i h)) (good_part m q) in
        same_spelling _ _ k (good_part l p) (good_part m q) (le_antisymm a b)

    back : OneCode l m → (read_line l).key ≡ (read_line m).key
    back e =
        rw (key_of_good l p, key_of_good m q)
        (sym (key_lowered _ code_limit) ∙ ap (λ (x : List ℕ). key_up_to x code_limit) e ∙ key_lowered _ code_limit)

-- Different codes have different keys.
pub distinct_keys :
    (l m : List ℕ) → (read_line l).code ≡ done → (read_line m).code ≡ done → (OneCode l m → ⊥) →
    (read_line l).key ≢ (read_line m).key
distinct_keys l m p q f e = f ((one_key l m p q).0 e)
