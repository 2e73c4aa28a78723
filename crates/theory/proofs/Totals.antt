-- Sums over the slots 1 to C: a tree that fits into C slots has as many nodes as slots that stand in it.
use Prim.Native.Nat.{ℕ, zero, suc, ◌+◌, ◌≤◌, ◌<◌}
use native.Mathlib.Omega.{arith}
use native.Mathlib.Decide.{ℕ_discrete}
use mathlib.Core.Path.{◌≡◌, refl}
use Rattle.model.specs.Tree.{Tree, leaf, node}
use Rattle.theory.specs.Balance.{size}
use Rattle.theory.specs.Sound.{one, count, Sound}
use Rattle.theory.specs.Totals.{total}
use Rattle.theory.proofs.Counts.{one_same, by-slot}

total_add : (C s : ℕ) (f g : ℕ → ℕ) → total C s (λ i. f i + g i) ≡ total C s f + total C s g
total_add zero s f g = refl
total_add (suc C) s f g = omega (arith, total_add C (suc s) f g)

total_none : (C s : ℕ) → total C s (λ i. 0) ≡ 0
total_none zero s = refl
total_none (suc C) s = omega (arith, total_none C (suc s))

-- a term for a term
pub total_le : (C s : ℕ) (f g : ℕ → ℕ) → ((i : ℕ) → s ≤ i → i < s + C → f i ≤ g i) → total C s f ≤ total C s g
total_le zero s f g each = omega arith
total_le (suc C) s f g each =
    omega (
      arith,
      each s (omega arith) (omega arith),
      total_le C (suc s) f g (λ i low high. each i (omega arith) (omega arith)),
    )

-- where no term is larger and the sum isn't smaller, all terms are the same
pub total_same : (C s : ℕ) (f g : ℕ → ℕ) → ((i : ℕ) → s ≤ i → i < s + C → f i ≤ g i) → total C s g ≤ total C s f →
    (i : ℕ) → s ≤ i → i < s + C → f i ≡ g i
total_same zero s f g each e i low high = absurd (omega arith)
total_same (suc C) s f g each e i low high =
    go (ℕ_discrete i s) (total_same C (suc s) f g rest)
  where
    rest : (i : ℕ) → suc s ≤ i → i < suc s + C → f i ≤ g i
    rest i low high = each i (omega arith) (omega arith)

    go : Dec (i ≡ s) →
        (total C (suc s) g ≤ total C (suc s) f → (i : ℕ) → suc s ≤ i → i < suc s + C → f i ≡ g i) → f i ≡ g i
    go (yes q) more = rw q (omega (arith, total_le C (suc s) f g rest, each s (omega arith) (omega arith)))
    go (no q) more = more (omega (arith, each s (omega arith) (omega arith))) i (omega arith) (omega arith)

total_past : (C s x : ℕ) → x < s → total C s (one x) ≡ 0
total_past zero s x h = refl
total_past (suc C) s x h =
    let here : one x s ≡ 0 = by-slot x s (λ e. absurd (omega arith)) (λ e. e) in
    omega (arith, total_past C (suc s) x (omega arith))

total_one : (C s x : ℕ) → s ≤ x → x < s + C → total C s (one x) ≡ 1
total_one zero s x low high = absurd (omega arith)
total_one (suc C) s x low high =
    by-slot x s
    (λ e. rw (← e) (omega (arith, one_same x, total_past C (suc x) x (omega arith))))
    (λ e. omega (arith, total_one C (suc s) x (omega (arith, apart e)) (omega arith)))
  where
    apart : one x s ≡ 0 → x ≡ s → ⊥
    apart e q = let z : one s s ≡ 0 = rw q at e in omega (arith, one_same s)

tally : (C : ℕ) (t : Tree) → ((s : ℕ) → 1 ≤ count t s → (1 ≤ s) × (s ≤ C)) → total C 1 (count t) ≡ size t
tally C leaf h = total_none C 1
tally C (node c l x r) h =
    let q = h x (omega (arith, one_same x)) in
    omega (
      arith,
      total_add C 1 (one x) (λ s. count l s + count r s),
      total_add C 1 (count l) (count r),
      total_one C 1 x q.0 (omega (arith, q.1)),
      tally C l (λ s k. h s (omega arith)),
      tally C r (λ s k. h s (omega arith)),
    )

-- the nodes of a tree, counted slot by slot
pub sound_total : {C : ℕ} {t : Tree} → Sound C t → total C 1 (count t) ≡ size t
sound_total {C} {t} h = tally C t (λ s k. (h.low s k, h.high s k))

total_all : (C s : ℕ) → total C s (λ i. 1) ≡ C
total_all zero s = refl
total_all (suc C) s = omega (arith, total_all C (suc s))

-- there are no more of them than slots
pub sound_size : {C : ℕ} {t : Tree} → Sound C t → size t ≤ C
sound_size {C} {t} h =
    omega (arith, sound_total h, total_le C 1 (count t) (λ s. 1) (λ s low high. h.once s), total_all C 1)
