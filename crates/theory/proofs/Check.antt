-- The check accepts exactly the well-formed arrays.
use Prim.Native.Nat.{ℕ, zero, suc, ◌≤◌, ◌<◌}
use native.Mathlib.Omega.{arith}
use mathlib.Core.Bool.{true, false}
use mathlib.Core.Path.{◌≡◌, refl, ap}
use borrow.Author.Tests.{eqb-true, eq-eqb, ne_eqb, leb-true, le-leb}
use Rattle.model.specs.Limits.{depth_limit}
use Rattle.model.specs.Tree.{black, Tree}
use Rattle.model.specs.Lent.{Arrays, Lent, capacity, pc_of}
use Rattle.model.specs.WellFormed.{Lengths, W2, WellFormed}
use Rattle.model.specs.Check.{Verdict, bad, good, black_check, linked_count, reaches_all, lengths_fit, check}
use Rattle.theory.specs.Balance.{tint, size}
use Rattle.theory.specs.Sound.{count, Sound}
use Rattle.theory.specs.Hangs.{Hangs, Hung}
use Rattle.theory.specs.Checked.{Read}
use Rattle.theory.specs.Totals.{one_if}
use Rattle.theory.proofs.Totals.{total_le, total_same, sound_total}
use Rattle.theory.proofs.Hangs.{clear_of}
use Rattle.theory.proofs.Levels.{hangs_linked, hangs_sound}
use Rattle.theory.proofs.Well.{hung_linked, hung_well}
use Rattle.theory.proofs.Grown.{well_hung}
use Rattle.theory.proofs.Hung.{hung_holds}
use Rattle.theory.proofs.Holds.{holds_height}
use Rattle.theory.proofs.Verdicts.{both_true, both_pass}
use Rattle.theory.proofs.CheckSlots.{linked_total, tidy_w2, w2_tidy}
use Rattle.theory.proofs.CheckReads.{check_read}
use Rattle.theory.proofs.CheckFinds.{check_finds}

-- the lengths of W1, as a test and as a fact
pub fit_lengths : (a : Arrays) → lengths_fit a ≡ true → Lengths a
unfolding lengths_fit
fit_lengths a e =
    both_true _ _ e λ left e₁.
    both_true _ _ e₁ λ right e₂.
    both_true _ _ e₂ λ key small.
    record {
      left = eqb-true _ _ left;
      right = eqb-true _ _ right;
      key = eqb-true _ _ key;
      small = leb-true _ _ small;
    }

pub lengths_fit_lem : (a : Arrays) → Lengths a → lengths_fit a ≡ true
unfolding lengths_fit
lengths_fit_lem a e =
    both_pass _ _ (eq-eqb _ _ e.left)
    (both_pass _ _ (eq-eqb _ _ e.right) (both_pass _ _ (eq-eqb _ _ e.key) (le-leb _ _ e.small)))

reaches : (v : Verdict) (n : ℕ) → reaches_all v n ≡ true → (b : ℕ) × (k : ℕ) × (v ≡ good b n k)
unfolding reaches_all
reaches bad n e = let z : ◌≡◌ {A = ℕ} 0 1 = cc in absurd (omega arith)
reaches (good b i k) n e = (b, k, ap (λ (j : ℕ). good b j k) (eqb-true i n e))

module _ (m : Lent) (t : Tree) (h : Hangs m.arrays 0 m.root t) where
  -- a slot of the tree is one linked slot
  count_linked : (s : ℕ) → count t s ≤ one_if (pc_of m.arrays s)
  count_linked s = go (count t s) refl
    where
      go : (n : ℕ) → count t s ≡ n → count t s ≤ one_if (pc_of m.arrays s)
      go zero e = omega arith
      go (suc n) e =
          let k = hangs_linked m.arrays 0 m.root t s h (omega arith) in
          rw (ne_eqb (pc_of m.arrays s) 0 (omega (arith, k.marked))) ((hangs_sound m.arrays m.root t h).once s)

  -- where there are as many nodes as linked slots, the others aren't linked
  outside : size t ≡ linked_count m.arrays.pc →
      (s : ℕ) → 0 < s → s ≤ capacity m.arrays → count t s ≡ 0 → pc_of m.arrays s ≡ 0
  outside e s low high none =
      let sum = sound_total (hangs_sound m.arrays m.root t h) in
      let same = total_same (capacity m.arrays) 1 (count t) (λ i. one_if (pc_of m.arrays i)) in
      unmarked (pc_of m.arrays s)
      (same (λ i low high. count_linked i) (omega (arith, sum, linked_total m.arrays)) s low (omega arith))
    where
      unmarked : (v : ℕ) → count t s ≡ one_if v → v ≡ 0
      unmarked zero e = refl
      unmarked (suc v) e =
          let z : count t s ≡ 1 = rw (ne_eqb (suc v) 0 (omega arith)) at e in
          absurd (omega arith)

-- what the check has read is the tree of the arrays
pub read_hung : {m : Lent} {t : Tree} {b k : ℕ} → Lengths m.arrays → W2 m.arrays → tint t ≡ black →
    Read m.arrays 0 m.root 0 b (linked_count m.arrays.pc) k t → Hung m t
read_hung {m} {t} lengths w2 top read = record {
  lengths = lengths;
  hangs = read.hangs;
  rest = λ s low high none.
      let e = outside m t read.hangs read.nodes s low high none in
      clear_of m.arrays s (w2 s low high e) e;
  balanced = record { calm = read.calm; even = read.even; top = top };
  rising = read.rising;
}

-- where the check accepts, a tree hangs and nothing else does
pub check_hung : (m : Lent) → check m ≡ true → (t : Tree) × Hung m t
unfolding check
check_hung m e =
    both_true _ _ e λ fit e₁.
    both_true _ _ e₁ λ tidied all.
    let lengths = fit_lengths m.arrays fit in
    let good = reaches _ _ all in
    let found = check_read m.arrays black depth_limit 0 m.root 0 _ _ _ (omega arith) good.2 in
    (found.0, read_hung lengths (tidy_w2 m.arrays lengths tidied) found.1 found.2)

module _ (m : Lent) (t : Tree) (h : Hung m t) where
  sound : Sound (capacity m.arrays) t
  sound = hangs_sound m.arrays m.root t h.hangs

  linked_count_lem : (s : ℕ) → 0 < s → s ≤ capacity m.arrays → one_if (pc_of m.arrays s) ≤ count t s
  linked_count_lem s low high = go (pc_of m.arrays s) refl
    where
      go : (v : ℕ) → pc_of m.arrays s ≡ v → one_if v ≤ count t s
      go zero e = omega arith
      go (suc v) e =
          rw (ne_eqb (suc v) 0 (omega arith))
          (hung_linked m t h s (record { positive = low; fits = high; marked = omega arith }))

  -- there are as many nodes as linked slots
  pub hung_size : size t ≡ linked_count m.arrays.pc
  hung_size =
      let C = capacity m.arrays in
      let mark : ℕ → ℕ = λ s. one_if (pc_of m.arrays s) in
      let up = total_le C 1 (count t) mark (λ s low high. count_linked m t h.hangs s) in
      let down = total_le C 1 mark (count t) (λ s low high. linked_count_lem s low (omega arith)) in
      omega (arith, sound_total sound, linked_total m.arrays)

  hung_reaches : reaches_all (black_check depth_limit m.arrays 0 m.root 0) (linked_count m.arrays.pc) ≡ true
  unfolding reaches_all
  hung_reaches =
      let finds = check_finds m.arrays depth_limit 0 m.root 0 t h.hangs in
      let found = finds h.balanced.calm h.balanced.even h.rising (holds_height (hung_holds h)) in
      rw (rw h.balanced.top at found) (eq-eqb (size t) (linked_count m.arrays.pc) hung_size)

-- and where a tree hangs and nothing else does, it accepts
pub hung_check : {m : Lent} {t : Tree} → Hung m t → check m ≡ true
unfolding check
hung_check {m} {t} h =
    both_pass _ _ (lengths_fit_lem m.arrays h.lengths)
    (both_pass _ _ (w2_tidy m.arrays (hung_well h).w2) (hung_reaches m t h))

-- W1 to W6 hold where the check accepts
pub check_sound : (m : Lent) → check m ≡ true → WellFormed m
check_sound m e = hung_well (check_hung m e).1

-- and nowhere else
pub check_complete : (m : Lent) → WellFormed m → check m ≡ true
check_complete m w = hung_check (well_hung w)

pub check_false : (m : Lent) → check m ≡ false → ¬ WellFormed m
check_false m e w = let z : ◌≡◌ {A = ℕ} 0 1 = cc (check_complete m w) in omega arith
