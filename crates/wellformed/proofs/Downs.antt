-- The way down the left links, turn by turn.
use Prim.Native.Nat.{ℕ, zero, suc, ◌+◌, ◌-◌, ◌%◌, ◌≤◌, ◌<◌}
use native.Mathlib.Omega.{arith}
use mathlib.Core.Bool.{false, ◌&&◌, and-false}
use mathlib.Core.List.{List}
use mathlib.Core.Path.{◌≡◌, refl}
use lib.Dec.{leb, ltb}
use lib.ListN.{length, get_or}
use borrow.Author.Tests.{lt-ltb, le-ltb, le-leb, lt-leb}
use Rattle.model.specs.Limits.{depth_limit}
use Rattle.model.specs.Lent.{at}
use Rattle.theory.specs.Quick.{blacks_down}
use Rattle.wellformed.specs.Checks.{Descended}

-- what has been counted and what is still to come make up the whole
pub record Descending (l p : List ℕ) (root here blacks done : ℕ) : Type 0 where
  pub turned : blacks ≤ done
  pub all : blacks + blacks_down (depth_limit - done) l p here ≡ blacks_down depth_limit l p root

-- where there is no slot, where there is no turn left, and one turn
no_slot : (l p : List ℕ) (turns s : ℕ) → (ltb 0 s && leb s (length p)) ≡ false → blacks_down turns l p s ≡ 0
unfolding blacks_down
no_slot l p zero s e = refl
no_slot l p (suc turns) s e = rw e

no_turn : (l p : List ℕ) (turns s : ℕ) → turns ≤ 0 → blacks_down turns l p s ≡ 0
unfolding blacks_down
no_turn l p zero s e = refl
no_turn l p (suc turns) s e = absurd (omega arith)

one_turn : (l p : List ℕ) (turns s : ℕ) → 0 < turns → 0 < s → s ≤ length p →
    blacks_down turns l p s ≡ get_or p (s - 1) 0 % 2 + blacks_down (turns - 1) l p (get_or l (s - 1) 0)
unfolding blacks_down at
one_turn l p zero s some low high = absurd (omega arith)
one_turn l p (suc turns) s some low high =
    let q : suc turns - 1 ≡ turns = omega arith in
    rw (lt-ltb 0 s low, le-leb s (length p) high, q)

module _ {l p : List ℕ} {root here blacks done : ℕ} (h : Descending l p root here blacks done) where
  pub down_step : {i mark : ℕ} → done < depth_limit → (here ≡ 0 → ⊥) → i ≡ here - 1 → i < length p →
      mark ≡ get_or p i 0 → Descending l p root (get_or l i 0) (blacks + mark % 2) (done + 1)
  down_step some low is high e =
      let q : depth_limit - (done + 1) ≡ depth_limit - done - 1 = omega arith in
      rw (e, is) (record {
        turned = omega (arith, h.turned);
        all = rw q (omega
            (arith, h.all, one_turn l p (depth_limit - done) here (omega arith) (omega arith) (omega arith)));
      })

  stopped : done ≤ depth_limit → blacks_down (depth_limit - done) l p here ≡ 0 → Descended l p root blacks
  stopped few e = record { is = omega (arith, h.all); small = omega (arith, h.turned) }

  pub down_spent : done ≤ depth_limit → depth_limit ≤ done → Descended l p root blacks
  down_spent few e = stopped few (no_turn l p (depth_limit - done) here (omega arith))

  pub down_none : done < depth_limit → here ≡ 0 → Descended l p root blacks
  down_none few e =
      stopped (omega arith) (no_slot l p (depth_limit - done) here (rw (le-ltb 0 here (omega arith))))

  pub down_past : {i : ℕ} → done < depth_limit → (here ≡ 0 → ⊥) → i ≡ here - 1 → length p ≤ i →
      Descended l p root blacks
  down_past few some is past =
      stopped (omega arith) (no_slot l p (depth_limit - done) here
      (rw (lt-leb here (length p) (omega arith)) (and-false (ltb 0 here))))
