-- parent_color as a parent and a colour, and back.
use Prim.Native.Nat.{ℕ, zero, suc, ◌+◌, ◌/◌, ◌%◌, ◌<◌}
use native.Mathlib.Omega.{arith}
use mathlib.Core.Path.{◌≡◌, refl}
use lib.Dec.{eqb}
use borrow.Author.Tests.{eq-eqb, ne_eqb}
use Rattle.model.specs.Branch.{choose}
use Rattle.model.specs.Tree.{Color, red, black}
use Rattle.model.specs.Lent.{Arrays, pc_of, parent_of, color_of, color_code, parent_color}
use Rattle.theory.specs.Balance.{dark}

-- the parent and the colour of a mark
pub marked_parent : (a : Arrays) (s above : ℕ) (c : Color) → pc_of a s ≡ parent_color above c → parent_of a s ≡ above
unfolding parent_of
marked_parent a s above red e = omega arith
marked_parent a s above black e = omega arith

pub marked_color : (a : Arrays) (s above : ℕ) (c : Color) → pc_of a s ≡ parent_color above c → color_of a s ≡ c
unfolding color_of
marked_color a s above red e = rw (eq-eqb (pc_of a s % 2) 0 (omega arith))
marked_color a s above black e = rw (ne_eqb (pc_of a s % 2) 0 (omega arith))

-- a mark is its parent and its colour
pub mark_is : (a : Arrays) (s : ℕ) → pc_of a s ≡ parent_color (parent_of a s) (color_of a s)
unfolding parent_of color_of
mark_is a s = go (pc_of a s % 2) refl (omega arith)
  where
    go : (n : ℕ) → pc_of a s % 2 ≡ n → n < 2 →
        pc_of a s ≡ parent_color (pc_of a s / 2) (choose (eqb (pc_of a s % 2) 0) (λ _. red) (λ _. black))
    go zero e h = rw e (omega arith)
    go (suc zero) e h = rw e (omega arith)
    go (suc (suc n)) e h = absurd (omega arith)

-- one black node more
pub dark_is : (c : Color) (n : ℕ) → dark c n ≡ n + color_code c
dark_is red n = omega arith
dark_is black n = omega arith
