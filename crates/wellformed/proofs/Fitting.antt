-- W1, as the code tests it.
use Prim.Native.Nat.{ℕ}
use mathlib.Core.Bool.{Bool, true, false, ◌&&◌}
use mathlib.Core.List.{List}
use mathlib.Core.Path.{◌≡◌, refl}
use lib.Dec.{eqb, leb}
use lib.ListN.{length}
use Rattle.model.specs.Branch.{both}
use Rattle.model.specs.Limits.{capacity_limit}
use Rattle.model.specs.Lent.{lent, capacity}
use Rattle.model.specs.Check.{lengths_fit}
use Rattle.theory.specs.Quick.{fits}

pub fits_are : (l r p k : List ℕ) (root : ℕ) {keys : Bool} → keys ≡ eqb (length k) (length p) →
    ((((eqb (length l) (length p) && eqb (length r) (length p)) && keys) && leb (length p) capacity_limit)
    && leb root (length p))
    ≡ fits (lent l r p k root)
unfolding fits lengths_fit both capacity
fits_are l r p k root e =
    rw e
    (go (eqb (length l) (length p)) (eqb (length r) (length p)) (eqb (length k) (length p))
    (leb (length p) capacity_limit))
  where
    go : (left right key small : Bool) →
        ((((left && right) && key) && small) && leb root (length p))
        ≡ both (both left (λ _. both right (λ _. both key (λ _. small)))) (λ _. leb root (length p))
    go false right key small = refl
    go true false key small = refl
    go true true false small = refl
    go true true true false = refl
    go true true true true = refl
