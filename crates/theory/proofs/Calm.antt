-- W5 at a node: the colour of a child under the colour of its parent.
use Prim.Native.Nat.{ℕ}
use native.Mathlib.Omega.{arith}
use mathlib.Core.Path.{◌≡◌, refl}
use Rattle.model.specs.Tree.{Side, lft, rgt, Color, red, black, Tree, node, on}
use Rattle.theory.specs.Balance.{tint, Allowed, Calm}

-- what hangs below a red node is black, and below a black one anything
pub allowed_red : (c k : Color) → c ≡ red → Allowed c k → k ≡ black
allowed_red red black e h = refl
allowed_red red red e h = absurd h
allowed_red black k e h = let z : ◌≡◌ {A = ℕ} 0 1 = cc in absurd (omega arith)

pub allowed : (c k : Color) → (c ≡ red → k ≡ black) → Allowed c k
allowed black k h = tt
allowed red black h = tt
allowed red red h = let z : ◌≡◌ {A = ℕ} 0 1 = cc (h refl) in absurd (omega arith)

-- a tree that keeps W5 keeps it at its top, on either side
pub calm_side : (d : Side) (c : Color) (l : Tree) (x : ℕ) (r : Tree) → Calm (node c l x r) → Allowed c (tint (on d l r))
calm_side lft c l x r h = h.0
calm_side rgt c l x r h = h.1
