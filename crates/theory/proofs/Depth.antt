-- A tree that fits into C slots has at most C nodes, so no way in it is longer: fuel for every loop, and the measure of
-- those that go up.
use Prim.Native.Nat.{ℕ, zero, suc, ◌+◌, ◌≤◌}
use mathlib.Core.Path.{◌≡◌, refl, ap}
use mathlib.Core.List.{List, [], ◌∷◌}
use native.Mathlib.Omega.{arith}
use lib.ListN.{length}
use borrow.Author.Tests.{ne_eqb}
use Rattle.model.specs.Tree.{Side, Color, Tree, nod, Frame, frame, plug}
use Rattle.theory.specs.Balance.{height}
use Rattle.theory.specs.Sound.{Sound}
use Rattle.theory.specs.Slots.{ups}
use Rattle.theory.specs.Places.{Spot}
use Rattle.theory.proofs.Totals.{sound_size}
use Rattle.theory.proofs.Height.{height_size, height_plug}
use Rattle.theory.proofs.Places.{long, spot_low, spot_parent, spot_up}

-- a tree, and a place in it
pub sound_height : {C : ℕ} (t : Tree) → Sound C t → height t ≤ C
sound_height t h = omega (arith, height_size t, sound_size h)

pub sound_deep : {C : ℕ} (t : Tree) (w : List Frame) → Sound C (plug t w) → length w + height t ≤ C
sound_deep t w h = omega (arith, height_plug t w, sound_height (plug t w) h)

module _ {d : Side} {near far pc : List ℕ} {root C : ℕ} where
  -- the parent steps up from a place are its frames
  ups_at : (m : ℕ) (w : List Frame) {e : Side} {c : Color} {a b : Tree} {x : ℕ} → Spot d near far pc root C e c a x b w
      → length w ≤ m → ups m pc x ≡ length w
  unfolding ups
  ups_at zero [] k le = refl
  ups_at (suc m) [] k le = rw (spot_parent k)
  ups_at zero (f ∷ w) k le = absurd (omega arith)
  ups_at (suc m) (frame e c q s ∷ w) k le =
      let low = spot_low (spot_up k) in
      rw (spot_parent k, ne_eqb q 0 (λ i. omega arith)) (ap suc (ups_at m w (spot_up k) (omega arith)))

  module _ {e : Side} {c : Color} {a b : Tree} {x : ℕ} {w : List Frame}
      (k : Spot d near far pc root C e c a x b w) where
    pub spot_deep : length w + height (nod e c a x b) ≤ length near
    spot_deep = rw (long k.held) (sound_deep (nod e c a x b) w k.held.sound)

    pub spot_ups : ups (length near) pc x ≡ length w
    spot_ups = ups_at (length near) w k (omega (arith, spot_deep))
