-- A key placed at a position of the caller's choice keeps the order exactly when it lies between those beside it.
use Prim.Native.Nat.{ℕ}
use native.Mathlib.Omega.{arith}
use mathlib.Core.Path.{◌≡◌, refl, ap, sym, ◌∙◌}
use mathlib.Core.Bool.{Bool, true, false, ◌&&◌}
use mathlib.Core.List.{List, [], ◌∷◌, ◌++◌, reverse, reverse-cons, Memᴰ}
use lib.Dec.{leb}
use borrow.Author.Tests.{le-leb, ne_eqb}
use Rattle.model.specs.Branch.{choose}
use Rattle.model.specs.WellFormed.{Rising}
use Rattle.model.specs.Order.{first_slot, stored, rises_from}
use Rattle.theory.specs.Checked.{last_key}
use Rattle.theory.specs.Between.{up_to, from_on, between}
use Rattle.theory.proofs.Lists.{member_reverse}
use Rattle.theory.proofs.Rising.{rising_rises, rising_stored, stored_same, stored_other}

if_true : (b : Bool) → choose b (λ _. true) (λ _. false) ≡ b
if_true true = refl
if_true false = refl

-- from the key of a new slot on, keys rise along what comes after it when they do from the first slot on
rises_later : (key : ℕ → ℕ) (s k : ℕ) (B : List ℕ) → ¬ Memᴰ s B → ¬ Memᴰ 0 B → Rising key 0 B
    → rises_from k (stored s k key) B ≡ from_on key (first_slot B) k
unfolding from_on
rises_later key s k [] fresh some rising = refl
rises_later key s k (y ∷ B) fresh some rising =
    rw (
      ← stored_other s k key (y ∷ B) fresh y (Memᴰ.head refl),
      rising_rises (stored s k key) (key y) B
          (rising_stored key (key y) s k B (λ m. fresh (Memᴰ.tail m)) rising.1),
      ne_eqb y 0 (λ e. some (Memᴰ.head (sym e))),
    )
    (if_true (leb k (key y)))

-- along what comes before it they rise anyway, so only the last of it counts
rises_earlier : (key : ℕ → ℕ) (n s k : ℕ) (A B : List ℕ) → ¬ Memᴰ s A → Rising key n A
    → rises_from n (stored s k key) (A ++ s ∷ B) ≡ (leb (last_key key n A) k && rises_from k (stored s k key) B)
rises_earlier key n s k [] B fresh rising = rw (stored_same s k key)
    (and_if (leb n k) (rises_from k (stored s k key) B))
  where
    and_if : (a b : Bool) → choose a (λ _. b) (λ _. false) ≡ (a && b)
    and_if true b = refl
    and_if false b = refl
rises_earlier key n s k (x ∷ A) B fresh rising =
    rw (← stored_other s k key (x ∷ A) fresh x (Memᴰ.head refl), le-leb n (key x) rising.0)
    (rises_earlier key (key x) s k A B (λ m. fresh (Memᴰ.tail m)) rising.1)

-- ---- the last slot of a list that is not empty

reverse_filled : (x : ℕ) (A : List ℕ) → reverse (x ∷ A) ≡ [] → ⊥
reverse_filled x A e = filled (reverse A) (sym (reverse-cons x A) ∙ e)
  where
    filled : (L : List ℕ) → L ++ x ∷ [] ≡ [] → ⊥
    filled [] e = let z : ◌≡◌ {A = ℕ} 0 1 = cc in omega arith
    filled (y ∷ L) e = let z : ◌≡◌ {A = ℕ} 0 1 = cc in omega arith

last_first : (key : ℕ → ℕ) (n x : ℕ) (A : List ℕ) → last_key key n (x ∷ A) ≡ key (first_slot (reverse (x ∷ A)))
last_first key n x [] = refl
last_first key n x (y ∷ A) =
    last_first key (key x) y A
    ∙ ap key (sym (ap first_slot (reverse-cons x (y ∷ A)) ∙ more (reverse (y ∷ A)) (reverse_filled y A)))
  where
    more : (L : List ℕ) → (L ≡ [] → ⊥) → first_slot (L ++ x ∷ []) ≡ first_slot L
    more [] filled = absurd (filled refl)
    more (z ∷ L) filled = refl

up_to_last : (key : ℕ → ℕ) (k : ℕ) (A : List ℕ) → ¬ Memᴰ 0 A
    → leb (last_key key 0 A) k ≡ up_to key (first_slot (reverse A)) k
unfolding up_to
up_to_last key k [] some = le-leb 0 k (omega arith)
up_to_last key k (x ∷ A) some =
    rw (
      last_first key 0 x A,
      ne_eqb (first_slot (reverse (x ∷ A))) 0
          (λ e. some (rw e at (member_reverse _ (x ∷ A) (first_in (reverse (x ∷ A)) (reverse_filled x A))))),
    )
  where
    first_in : (L : List ℕ) → (L ≡ [] → ⊥) → Memᴰ (first_slot L) L
    first_in [] filled = absurd (filled refl)
    first_in (y ∷ L) filled = Memᴰ.head refl

-- A new slot between two lists keeps the order exactly when its key lies between the slots beside it.
pub rises_between : (key : ℕ → ℕ) (s k : ℕ) (A B : List ℕ) → ¬ Memᴰ s A → ¬ Memᴰ s B
    → ¬ Memᴰ 0 A → ¬ Memᴰ 0 B → Rising key 0 A → Rising key 0 B
    → rises_from 0 (stored s k key) (A ++ s ∷ B) ≡ between key (first_slot (reverse A)) k (first_slot B)
unfolding between
rises_between key s k A B fresh-a fresh-b some-a some-b rising-a rising-b =
    rises_earlier key 0 s k A B fresh-a rising-a
    ∙ rw (up_to_last key k A some-a, rises_later key s k B fresh-b some-b rising-b)
