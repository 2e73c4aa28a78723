-- Keys that never fall, along two lists one after the other.
use Prim.Native.Nat.{ℕ}
use mathlib.Core.List.{List, [], ◌∷◌, ◌++◌}
use mathlib.Core.Path.{◌≡◌, refl}
use Rattle.model.specs.WellFormed.{Rising}
use Rattle.theory.specs.Checked.{last_key}

module _ (key : ℕ → ℕ) where
  -- the second list goes on from the last key of the first
  pub rising_append : (k : ℕ) (L M : List ℕ) → Rising key k L → Rising key (last_key key k L) M → Rising key k (L ++ M)
  rising_append k [] M p q = q
  rising_append k (x ∷ L) M p q = (p.0, rising_append (key x) L M p.1 q)

  pub rising_split : (k : ℕ) (L M : List ℕ) → Rising key k (L ++ M) → Rising key k L × Rising key (last_key key k L) M
  rising_split k [] M p = (tt, p)
  rising_split k (x ∷ L) M p = let q = rising_split (key x) L M p.1 in ((p.0, q.0), q.1)

  -- and ends with the last key of both
  pub last_append : (k : ℕ) (L M : List ℕ) → last_key key k (L ++ M) ≡ last_key key (last_key key k L) M
  last_append k [] M = refl
  last_append k (x ∷ L) M = last_append (key x) L M
