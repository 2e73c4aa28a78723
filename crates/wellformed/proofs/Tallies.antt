-- The count of all slots, slot by slot.
use Prim.Native.Nat.{ℕ, suc, ◌+◌, ◌≤◌, ◌<◌}
use native.Mathlib.Omega.{arith}
use native.Mathlib.Numerals.{add-one}
use mathlib.Core.Bool.{Bool, true, false, not, ◌&&◌, ◌||◌}
use mathlib.Core.List.{List, [], ◌∷◌}
use mathlib.Core.Path.{◌≡◌, refl}
use lib.Dec.{eqb}
use lib.ListN.{length, get_or, drop, drop_of_length-le}
use lib.Seq.{drop-cons}
use Rattle.std.specs.Int.{from_bool}
use Rattle.model.specs.Branch.{choose, pick}
use Rattle.model.specs.Check.{tidy_slot, linked_count}
use Rattle.theory.specs.Quick.{stray_count}
use Rattle.wellformed.specs.Checks.{SameLengths, Tallied, stray}

-- what has been counted and what is still to come make up the whole
pub record Tallying (l r p : List ℕ) (linked strays i : ℕ) : Type 0 where
  pub within : i ≤ length p
  pub few : linked ≤ i
  pub few_strays : strays ≤ i
  pub all : linked + linked_count (drop i p) ≡ linked_count p
  pub all_strays : strays + stray_count (drop i l) (drop i r) (drop i p) ≡ stray_count l r p

pub tally_start : (l r p : List ℕ) → Tallying l r p 0 0 0
tally_start l r p = record
    { within = omega arith; few = omega arith; few_strays = omega arith; all = omega arith; all_strays = omega arith }

one_linked : (x : ℕ) (p : List ℕ) → linked_count (x ∷ p) ≡ from_bool (not (eqb x 0)) + linked_count p
unfolding linked_count
one_linked x p = go (eqb x 0)
  where
    go : (t : Bool) → choose t (λ _. linked_count p) (λ _. suc (linked_count p)) ≡ from_bool (not t) + linked_count p
    go true = omega arith
    go false = omega arith

one_stray : (x y z : ℕ) (l r p : List ℕ) →
    stray_count (x ∷ l) (y ∷ r) (z ∷ p) ≡ from_bool (stray x y z) + stray_count l r p
unfolding stray_count
one_stray x y z l r p = go (tidy_slot x y z)
  where
    go : (t : Bool) → pick t 0 1 + stray_count l r p ≡ from_bool (not t) + stray_count l r p
    go true = refl
    go false = refl

at_most_one : (t : Bool) → from_bool t ≤ 1
at_most_one true = omega arith
at_most_one false = omega arith

-- is_stray
pub stray_both : (l r p : ℕ) → (eqb p 0 && (not (eqb l 0) || not (eqb r 0))) ≡ stray l r p
unfolding tidy_slot
stray_both l r p = go (eqb p 0) (eqb l 0)
  where
    go : (free none : Bool) →
        (free && (not none || not (eqb r 0))) ≡ not (choose free (λ _. none && eqb r 0) (λ _. true))
    go true true = refl
    go true false = refl
    go false none = refl

module _ {l r p k : List ℕ} {linked strays i : ℕ} (same : SameLengths l r p k) (h : Tallying l r p linked strays i) where
  pub tally_step : {one two : ℕ} {bad : Bool} → i < length p → one ≡ from_bool (not (eqb (get_or p i 0) 0)) →
      bad ≡ stray (get_or l i 0) (get_or r i 0) (get_or p i 0) → two ≡ from_bool bad →
      Tallying l r p (linked + one) (strays + two) (i + 1)
  tally_step {bad = bad} more e b f =
      let pc : drop i p ≡ get_or p i 0 ∷ drop (suc i) p = drop-cons p i 0 more in
      let left : drop i l ≡ get_or l i 0 ∷ drop (suc i) l = drop-cons l i 0 (omega (arith, same.left)) in
      let right : drop i r ≡ get_or r i 0 ∷ drop (suc i) r = drop-cons r i 0 (omega (arith, same.right)) in
      let all = rw pc at h.all in
      let strays = rw (left, right, pc) at h.all_strays in
      let here = one_stray (get_or l i 0) (get_or r i 0) (get_or p i 0) in
      record {
        within = omega arith;
        few = omega (arith, h.few, e, at_most_one (not (eqb (get_or p i 0) 0)));
        few_strays = omega (arith, h.few_strays, f, at_most_one bad);
        all = rw (add-one i) (omega (arith, e, one_linked (get_or p i 0) (drop (suc i) p)));
        all_strays =
            rw (add-one i)
            (omega (arith, rw b at f, here (drop (suc i) l) (drop (suc i) r) (drop (suc i) p)));
      }

  tally_linked : length p ≤ i → linked ≡ linked_count p
  unfolding linked_count
  tally_linked past =
      let all : linked + linked_count [] ≡ linked_count p = rw (drop_of_length-le p past) at h.all in
      omega arith

  tally_strays : length p ≤ i → strays ≡ stray_count l r p
  unfolding stray_count
  tally_strays past =
      let left : drop i l ≡ [] = drop_of_length-le l {i = i} (omega (arith, same.left)) in
      let all : strays + stray_count [] (drop i r) (drop i p) ≡ stray_count l r p = rw left at h.all_strays in
      omega arith

  -- where nothing is to come
  pub tally_end : length p ≤ i → Tallied l r p k (record { linked = linked; strays = strays })
  tally_end past = record {
    linked = tally_linked past;
    strays = tally_strays past;
    small = omega (arith, h.few, h.within, same.small);
  }
