-- The check's look at every slot: W2, and the number of linked slots.
use Prim.Native.Nat.{ℕ, zero, suc, ◌+◌, ◌-◌, ◌≤◌, ◌<◌}
use native.Mathlib.Omega.{arith}
use native.Mathlib.Decide.{ℕ_discrete}
use native.Mathlib.Nat.{le_of_suc-le-suc, not-suc-le-zero}
use mathlib.Core.Bool.{Bool, true, false}
use mathlib.Core.List.{List, [], ◌∷◌}
use mathlib.Core.Path.{◌≡◌, refl, ap, ◌∙◌}
use lib.Dec.{eqb}
use lib.ListN.{get_or, length}
use borrow.Author.Tests.{eqb-true, eq-eqb, ne_eqb}
use Rattle.model.specs.Branch.{choose, pick}
use Rattle.model.specs.Lent.{Arrays, at, capacity, child_of, pc_of}
use Rattle.model.specs.WellFormed.{Lengths, W2}
use Rattle.model.specs.Draw.{listed}
use Rattle.model.specs.Check.{tidy_slot, tidy, linked_count}
use Rattle.theory.specs.Totals.{total, one_if}
use Rattle.theory.proofs.DrawingLists.{is_listed}
use Rattle.theory.proofs.Verdicts.{and_true}

-- the linked slots, counted slot by slot
count_listed : (C s : ℕ) (f : ℕ → ℕ) → linked_count (listed C s f) ≡ total C s (λ i. one_if (f i))
unfolding linked_count
count_listed zero s f = refl
count_listed (suc C) s f = go (eqb (f s) 0) (count_listed C (suc s) f)
  where
    go : (t : Bool) → linked_count (listed C (suc s) f) ≡ total C (suc s) (λ i. one_if (f i)) →
        choose t (λ _. linked_count (listed C (suc s) f)) (λ _. suc (linked_count (listed C (suc s) f)))
        ≡ pick t 0 1 + total C (suc s) (λ i. one_if (f i))
    go true e = omega arith
    go false e = omega arith

pub linked_total : (a : Arrays) → linked_count a.pc ≡ total (capacity a) 1 (λ s. one_if (pc_of a s))
unfolding capacity pc_of
linked_total a =
    ap linked_count (is_listed (length a.pc) a.pc (at a.pc) refl (λ s low high. refl))
    ∙ count_listed (length a.pc) 1 (at a.pc)

-- no more than there are slots
pub linked_bound : (p : List ℕ) → linked_count p ≤ length p
unfolding linked_count
linked_bound [] = omega arith
linked_bound (x ∷ p) = go (eqb x 0) (linked_bound p)
  where
    go : (t : Bool) → linked_count p ≤ length p →
        choose t (λ _. linked_count p) (λ _. suc (linked_count p)) ≤ suc (length p)
    go true h = omega arith
    go false h = omega arith

-- ---- one slot is tidy: linked, or without children

pub tidy_linked : (l r p : ℕ) → (p ≡ 0 → ⊥) → tidy_slot l r p ≡ true
unfolding tidy_slot
tidy_linked l r p some = rw (ne_eqb p 0 some)

pub tidy_clear : (l r p : ℕ) → l ≡ 0 → r ≡ 0 → tidy_slot l r p ≡ true
unfolding tidy_slot
tidy_clear l r p left right = rw (eq-eqb l 0 left, eq-eqb r 0 right) (go (eqb p 0))
  where
    go : (t : Bool) → choose t (λ _. true) (λ _. true) ≡ true
    go true = refl
    go false = refl

tidy_slot_lem : (l r p : ℕ) → tidy_slot l r p ≡ true → p ≡ 0 → (l ≡ 0) × (r ≡ 0)
unfolding tidy_slot
tidy_slot_lem l r p e f =
    and_true (eqb l 0) (eqb r 0) (rw (eq-eqb p 0 f) at e) λ left right. (eqb-true l 0 left, eqb-true r 0 right)

-- ---- all slots are

chosen : {R : Type 0} (t u : Bool) → choose t (λ _. u) (λ _. false) ≡ true → (t ≡ true → u ≡ true → R) → R
chosen true u e f = f refl e
chosen false u e f = let z : ◌≡◌ {A = ℕ} 0 1 = cc in absurd (omega arith)

tidy_each : (l r p : List ℕ) → length l ≡ length p → length r ≡ length p → tidy l r p ≡ true →
    (i : ℕ) → i < length p → tidy_slot (get_or l i 0) (get_or r i 0) (get_or p i 0) ≡ true
unfolding tidy
tidy_each l r [] e f t i h = absurd (not-suc-le-zero h)
tidy_each [] r (z ∷ p) e f t i h = absurd (omega arith)
tidy_each (x ∷ l) [] (z ∷ p) e f t i h = absurd (omega arith)
tidy_each (x ∷ l) (y ∷ r) (z ∷ p) e f t zero h = chosen (tidy_slot x y z) (tidy l r p) t λ here rest. here
tidy_each (x ∷ l) (y ∷ r) (z ∷ p) e f t (suc i) h =
    chosen (tidy_slot x y z) (tidy l r p) t λ here rest.
    tidy_each l r p (omega arith) (omega arith) rest i (le_of_suc-le-suc h)

pub each_tidy : (l r p : List ℕ) →
    ((i : ℕ) → i < length p → tidy_slot (get_or l i 0) (get_or r i 0) (get_or p i 0) ≡ true) → tidy l r p ≡ true
unfolding tidy
each_tidy [] r p each = refl
each_tidy (x ∷ l) [] p each = refl
each_tidy (x ∷ l) (y ∷ r) [] each = refl
each_tidy (x ∷ l) (y ∷ r) (z ∷ p) each =
    rw (each 0 (omega arith)) (each_tidy l r p (λ i h. each (suc i) (omega arith)))

-- the look at all slots decides W2
pub tidy_w2 : (a : Arrays) → Lengths a → tidy a.left a.right a.pc ≡ true → W2 a
unfolding capacity child_of pc_of at
tidy_w2 a e t s low high none =
    tidy_slot_lem (at a.left s) (at a.right s) (at a.pc s)
    (tidy_each a.left a.right a.pc e.left e.right t (s - 1) (omega arith)) none

pub w2_tidy : (a : Arrays) → W2 a → tidy a.left a.right a.pc ≡ true
unfolding capacity child_of pc_of at
w2_tidy a clear = each_tidy a.left a.right a.pc (λ i h. slot i h (ℕ_discrete (get_or a.pc i 0) 0))
  where
    slot : (i : ℕ) → i < length a.pc → Dec (get_or a.pc i 0 ≡ 0) →
        tidy_slot (get_or a.left i 0) (get_or a.right i 0) (get_or a.pc i 0) ≡ true
    slot i h (yes e) =
        let z : suc i - 1 ≡ i = omega arith in
        let k = rw z at (clear (suc i) (omega arith) h) in
        tidy_clear _ _ _ (k e).0 (k e).1
    slot i h (no e) = tidy_linked _ _ _ e
