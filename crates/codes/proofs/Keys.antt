-- The key of a part, a place at a time: the places passed have values, and make the number so far.
use Prim.Native.Nat.{ℕ, ◌+◌, ◌*◌, ◌^◌, ◌≤◌, ◌<◌}
use mathlib.Core.Path.{◌≡◌, refl, sym, ap, ◌∙◌}
use mathlib.Core.Bool.{Bool, true, false, false≢true}
use lib.Dec.{eqb}
use mathlib.Core.List.{List, []}
use mathlib.Core.Logic.{◌⊎◌, inl, inr, ⊎_elim, by_cases}
use mathlib.Core.Option.{Option, none, some, some-ne-none}
use native.Mathlib.Nat.{pow-le-pow_right}
use native.Mathlib.Numerals.{add-one}
use native.Mathlib.Decide.{dec_lt}
use native.Mathlib.Omega.{arith}
use lib.ListN.{length, get_or}
use mir.Syntax.{w64}
use mir.Val.{Fits}
use borrow.Author.Tests.{eqb-true, lt-ltb, le-ltb}
use borrow.Author.Count.{below_more}
use Rattle.model.specs.Limits.{code_limit}
use Rattle.model.specs.Codes.{trimmed, value_of, some_or0, place_value, key_up_to, Reading, read_part, read_line}
use Rattle.theory.specs.Spelling.{Character, Stray, Bad}
use Rattle.theory.proofs.CodeValues.{value_character}
use Rattle.theory.proofs.CodeParts.{place_within, place_past, key_small, read_good, read_bad}
use Rattle.theory.proofs.Codes.{good_reading_lem, bad_reading_lem}
use Rattle.std.specs.Prelude as std
use Rattle.std.specs.Prelude.{Some, None, Result, Ok, Err, is_ok}
use Rattle.std.specs.Option.{ok_or}
use Rattle.links.specs.declared.types.Key.{Key}
use Rattle.links.specs.declared.types.Refusal.{Refusal}
use Rattle.links.specs.declared.types.Refusal.TheVariants.{BadCode}
use Rattle.codes.specs.Reading.{digit_of, place_of, Keyed}
use Rattle.codes.proofs.Told.{passed, refused}

-- ---- a place

-- A place is judged by its byte, and has 0 past the end.
module _ (s : List ℕ) (i : ℕ) where
  pub place_of_within : i < length s → place_of s i ≡ value_of (get_or s i 0)
  unfolding place_of
  place_of_within h = rw (lt-ltb i (length s) h)

  pub place_of_past : length s ≤ i → place_of s i ≡ some 0
  unfolding place_of
  place_of_past h = rw (le-ltb i (length s) h)

  -- A place that isn't refused has the model's value,
  place_value_lem : place_value s i ≡ some_or0 (place_of s i)
  place_value_lem =
      by_cases (dec_lt i (length s))
      (λ h. rw (place_within s i h, place_of_within h))
      (λ h. rw (place_past s i (omega arith), place_of_past (omega arith)))

  -- and its byte, if there is one, is a character;
  place_character : (v : ℕ) → place_of s i ≡ some v → i < length s → Character (get_or s i 0)
  place_character v e h = (value_character (get_or s i 0)).0 (rw (sym (place_of_within h) ∙ e))

  -- one that is refused has a stray byte.
  place_stray : place_of s i ≡ none → Stray s
  place_stray e =
      by_cases (dec_lt i (length s))
      (λ h. (i, h, λ k. false≢true (rw (sym (place_of_within h) ∙ e) at ((value_character (get_or s i 0)).1 k))))
      (λ h. absurd (some-ne-none 0 (sym (place_of_past (omega arith)) ∙ e)))

-- ---- the places so far

-- The first i places have values, and make the sum.
pub record Sofar (part : List ℕ) (sum i : ℕ) : Type 0 where
  pub within : i ≤ code_limit
  pub is : sum ≡ key_up_to part i
  pub spelled : (k : ℕ) → k < i → k < length part → Character (get_or part k 0)

-- Before the first place there is nothing.
pub none_yet : (s : List ℕ) → Sofar s 0 0
unfolding key_up_to
none_yet s = record { within = omega arith; is = refl; spelled = λ k h. absurd (omega arith) }

-- What a place has instead of a refusal is its value.
had : {v : ℕ} (d : std.Option ℕ) → ok_or d BadCode ≡ Ok v → digit_of d ≡ some v
had (Some x) e = ap digit_or e
  where
    digit_or : Result ℕ Refusal → Option ℕ
    digit_or (Ok v) = some v
    digit_or (Err _) = none
had None e = absurd (false≢true (ap is_ok e))

-- One place more, with its value.
module _ {s : List ℕ} {sum i v : ℕ} (d : std.Option ℕ) {r : Result ℕ Refusal}
    (p : Sofar s sum i) (h : i < code_limit) (e : digit_of d ≡ place_of s i) (o : r ≡ ok_or d BadCode) (q : r ≡ Ok v)
  where
    has_value : place_of s i ≡ some v
    has_value = sym e ∙ had d (sym o ∙ q)

    next_key : sum * 37 + v ≡ key_up_to s (i + 1)
    unfolding key_up_to
    next_key = rw (add-one, place_value_lem s i, has_value, p.is)

    pub one_more : Sofar s (sum * 37 + v) (i + 1)
    one_more =
        record {
          within = omega arith;
          is = next_key;
          spelled =
              below_more (λ k. k < length s → Character (get_or s k 0)) i p.spelled (place_character s i v has_value);
        }

    -- All the places of a code fit into 64 bits.
    pub sum_fits : Fits w64 (sum * 37 + v)
    sum_fits =
        let most : 37 ^ (i + 1) ≤ 37 ^ code_limit = pow-le-pow_right (omega arith) one_more.within in
        record { fits = rw next_key (omega (arith, key_small s (i + 1))) }

    pub product_fits : Fits w64 (sum * 37)
    product_fits = record { fits = omega (arith, sum_fits.fits) }

-- ---- the answer

-- What the ways out of the loop and before it answer.
module _ (s : List ℕ) where
  pub keyed_bad : Bad s → Keyed (read_part s) (Err BadCode)
  keyed_bad b = rw (read_bad s b) (record { code = refl; key = refl })

  -- too short or too long
  pub keyed_length : {empty : Bool} → empty ≡ eqb (length s) 0 →
      (empty ≡ true) ⊎ ((empty ≡ false) × (code_limit < length s)) → Keyed (read_part s) (Err BadCode)
  keyed_length e h = keyed_bad (⊎_elim (λ q. inl (eqb-true (length s) 0 (sym e ∙ q))) (λ q. inr (inl q.1)) h)

  -- a place without a value
  stray : (i : ℕ) {why : Refusal} (d : std.Option ℕ) → digit_of d ≡ place_of s i → ok_or d BadCode ≡ Err why →
      Keyed (read_part s) (Err why)
  stray i (Some v) e q = absurd (false≢true (sym (ap is_ok q)))
  stray i None e q = rw (ap key_or q) at (keyed_bad (inr (inr (place_stray s i (sym e)))))
    where
      key_or : Result ℕ Refusal → Result Key Refusal
      key_or (Ok v) = Ok (record { 0 = v })
      key_or (Err why) = Err why

  pub keyed_stray : (i : ℕ) (d : std.Option ℕ) {why : Refusal} {r : Result ℕ Refusal} {a : Result Key Refusal} →
      digit_of d ≡ place_of s i → r ≡ ok_or d BadCode → r ≡ Err why → a ≡ Err why → Keyed (read_part s) a
  keyed_stray i d e o q t = rw t (stray i d e (sym o ∙ q))

-- After the last place the sum is the key.
pub keyed_done :
    {s : List ℕ} {sum i : ℕ} → Sofar s sum i → code_limit ≤ i → (length s ≡ 0 → ⊥) → length s ≤ code_limit →
    Keyed (read_part s) (Ok (record { 0 = sum }))
keyed_done {s} {sum} {i} p h f k =
    rw (read_good s (record { filled = omega arith; fits = k; spelled = λ j m. p.spelled j (omega arith) m }))
    (record { code = refl; key = rw at_end at p.is })
  where
    at_end : i ≡ code_limit
    at_end = omega (arith, p.within)

-- ---- the line

-- A line is read as its trimmed part.
module _
    (l : List ℕ) {part : List ℕ} {r : Result Key Refusal} (e : part ≡ trimmed l) (k : Keyed (read_part part) r) where
  pub keyed_line : Keyed (read_line l) r
  unfolding read_line
  keyed_line = rw e at k

  pub part_done : {ok : Bool} → ok ≡ is_ok r → ok ≡ true → part ≡ (read_line l).part
  part_done o t =
      e ∙ sym (ap (λ (x : Reading). x.part) (good_reading_lem l (sym keyed_line.code ∙ passed r (sym o ∙ t))))

  pub part_refused : {ok : Bool} → ok ≡ is_ok r → ok ≡ false → [] ≡ (read_line l).part
  part_refused o f =
      sym
      (ap (λ (x : Reading). x.part)
      (bad_reading_lem l (λ d. refused r (sym o ∙ f) (keyed_line.code ∙ d))))
