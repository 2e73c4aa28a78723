-- A proof by what a test says, and by a test that says both.
use Prim.Native.Nat.{ℕ}
use native.Mathlib.Omega.{arith}
use mathlib.Core.Path.{◌≡◌, refl}
use mathlib.Core.Bool.{Bool, true, false}

pub by-test {ℓ} : {P : Type ℓ} (test : Bool) → (test ≡ true → P) → (test ≡ false → P) → P
by-test true f g = f refl
by-test false f g = g refl

pub clash : {P : Type 0} → false ≡ true → P
clash e = let z : ◌≡◌ {A = ℕ} 0 1 = cc in absurd (omega arith)
