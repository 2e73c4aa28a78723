-- The test of a red slot, also at a slot of the tree that the arrays draw; and the test of a colour.
use Prim.Native.Nat.{ℕ, zero, suc, ◌<◌}
use mathlib.Core.Bool.{true, true≢false}
use mathlib.Core.List.{List}
use mathlib.Core.Path.{◌≡◌, refl, sym}
use lib.Dec.{eqb}
use native.Mathlib.Omega.{arith}
use borrow.Author.Tests.{ne_eqb}
use Rattle.model.specs.Tree.{Side, Color, Tree, Frame}
use Rattle.model.specs.Lent.{color_code}
use Rattle.theory.specs.Slots.{color_at}
use Rattle.theory.specs.Places.{Spot}
use Rattle.theory.proofs.Places.{spot_low, spot_color}
use denote.Enum.Bare.{sameb}
use Rattle.links.specs.Reads.{red_at}
use Rattle.links.specs.Colors.{shade}
use Rattle.links.specs.contracts.types.Color.{the_type}
use Rattle.links.specs.declared.types.Color as shades
use Rattle.links.specs.declared.types.Color.TheVariants.{Red, Black}

-- a red slot is one
pub red_some : (pc : List ℕ) (s : ℕ) → red_at pc s ≡ true → 0 < s
unfolding red_at
red_some pc zero e = absurd (true≢false (sym e))
red_some pc (suc s) e = omega arith

-- of a slot the test is that of its colour
pub red_slot : (pc : List ℕ) (s : ℕ) → 0 < s → red_at pc s ≡ eqb (color_at pc s) 0
unfolding red_at
red_slot pc s low = rw (ne_eqb s 0 (λ i. omega arith))

-- of a slot in the tree, by the colour of its node
pub spot_red : {d : Side} {near far pc : List ℕ} {root C : ℕ} {e : Side} {c : Color} {a b : Tree} {x : ℕ}
    {w : List Frame} → Spot d near far pc root C e c a x b w → red_at pc x ≡ eqb (color_code c) 0
spot_red {pc = pc} {x = x} k = rw (red_slot pc x (spot_low k), spot_color k) refl

-- `==` with red, as a test of the colour's number
pub same_red : (c : shades.Color) → sameb the_type c Red ≡ eqb (shade c) 0
same_red Red = refl
same_red Black = refl
