-- Keys that never fall along a list: what follows for its members, and which changes of the list keep it so.
use Prim.Native.Nat.{ℕ, ◌≤◌}
use mathlib.Core.Bool.{Bool, true, false, false≢true}
use mathlib.Core.List.Memᴰ
use mathlib.Core.List.{List, [], ◌∷◌, ◌++◌, Memᴰ}
use mathlib.Core.Logic.{⊎_elim}
use mathlib.Core.Path.{◌≡◌, refl, ap, sym}
use native.Mathlib.Omega.{arith}
use lib.Dec.{eqb, leb, ltb}
use borrow.Author.Tests.{ltb-true, ltb-false, leb-true, le-leb, eq-eqb, ne_eqb}
use Rattle.model.specs.WellFormed.{Rising}
use Rattle.model.specs.Order.{insert_in, exchange, stored, rises_from}

-- ---- the members of a rising list

-- the least key may be lowered
pub rising_lower : (key : ℕ → ℕ) (j k : ℕ) (L : List ℕ) → j ≤ k → Rising key k L → Rising key j L
rising_lower key j k [] h r = tt
rising_lower key j k (x ∷ L) h r = (omega arith, r.1)

-- a front part, and what comes after a member
pub rising_front : (key : ℕ → ℕ) (k : ℕ) (K L : List ℕ) → Rising key k (K ++ L) → Rising key k K
rising_front key k [] L r = tt
rising_front key k (x ∷ K) L r = (r.0, rising_front key (key x) K L r.1)

pub rising_rest : (key : ℕ → ℕ) (k : ℕ) (K : List ℕ) (x : ℕ) (L : List ℕ) → Rising key k (K ++ x ∷ L)
    → Rising key (key x) L
rising_rest key k [] x L r = r.1
rising_rest key k (y ∷ K) x L r = rising_rest key (key y) K x L r.1

-- no member has a key below the least one, nor below that of one before it
pub rising_least : (key : ℕ → ℕ) (k : ℕ) (L : List ℕ) → Rising key k L → (y : ℕ) → Memᴰ y L → k ≤ key y
rising_least key k [] r y m = absurd (Memᴰ.not-nil m)
rising_least key k (x ∷ L) r y m =
    ⊎_elim (λ e. omega (arith, ap key e)) (λ n. omega (arith, rising_least key (key x) L r.1 y n))
    (Memᴰ.cases_cons m)

pub rising_before : (key : ℕ → ℕ) (k : ℕ) (K : List ℕ) (x : ℕ) (L : List ℕ) → Rising key k (K ++ x ∷ L)
    → (y : ℕ) → Memᴰ y K → key y ≤ key x
rising_before key k [] x L r y m = absurd (Memᴰ.not-nil m)
rising_before key k (z ∷ K) x L r y m =
    ⊎_elim
    (λ e. let least = rising_least key (key z) (K ++ x ∷ L) r.1 x (Memᴰ.append_right K (Memᴰ.head refl)) in
    omega (arith, ap key e))
    (rising_before key (key z) K x L r.1 y)
    (Memᴰ.cases_cons m)

pub rising_after : (key : ℕ → ℕ) (k : ℕ) (K : List ℕ) (x : ℕ) (L : List ℕ) → Rising key k (K ++ x ∷ L)
    → (y : ℕ) → Memᴰ y L → key x ≤ key y
rising_after key k K x L r = rising_least key (key x) L (rising_rest key k K x L r)

-- ---- the test for it

-- it passes exactly where the keys rise
pub rising_rises : (key : ℕ → ℕ) (k : ℕ) (L : List ℕ) → Rising key k L → rises_from k key L ≡ true
rising_rises key k [] r = refl
rising_rises key k (x ∷ L) r = rw (le-leb k (key x) r.0) (rising_rises key (key x) L r.1)

pub rises_rising : (key : ℕ → ℕ) (k : ℕ) (L : List ℕ) → rises_from k key L ≡ true → Rising key k L
rises_rising key k [] e = tt
rises_rising key k (x ∷ L) e = go (leb k (key x)) refl (rises_rising key (key x) L)
  where
    go : (b : Bool) → leb k (key x) ≡ b → (rises_from (key x) key L ≡ true → Rising key (key x) L)
        → Rising key k (x ∷ L)
    go true q below = (leb-true k (key x) q, below (rw q at e))
    go false q below = absurd (false≢true (rw q at e))

-- ---- what keeps it

-- only the members' keys count
pub rising_cong : (key other : ℕ → ℕ) (k : ℕ) (L : List ℕ) → ((y : ℕ) → Memᴰ y L → key y ≡ other y)
    → Rising key k L → Rising other k L
rising_cong key other k [] same r = tt
rising_cong key other k (x ∷ L) same r =
    let e = same x (Memᴰ.head refl) in
    (omega arith, rw (← e) (rising_cong key other (key x) L (λ y m. same y (Memᴰ.tail m)) r.1))

-- a key that is stored for a slot outside the list changes no member's key
pub stored_same : (s k : ℕ) (key : ℕ → ℕ) → stored s k key s ≡ k
stored_same s k key = rw (eq-eqb s s refl)

pub stored_other : (s k : ℕ) (key : ℕ → ℕ) (L : List ℕ) → ¬ Memᴰ s L
    → (y : ℕ) → Memᴰ y L → key y ≡ stored s k key y
stored_other s k key L a y m = rw (ne_eqb y s (λ e. a (Memᴰ.cast (sym e) m)))

pub rising_stored : (key : ℕ → ℕ) (n s k : ℕ) (L : List ℕ) → ¬ Memᴰ s L → Rising key n L
    → Rising (stored s k key) n L
rising_stored key n s k L a r = rising_cong key (stored s k key) n L (stored_other s k key L a) r

-- a slot inserted behind every key that isn't greater
pub rising_insert : (key : ℕ → ℕ) (n s k : ℕ) (L : List ℕ) → ¬ Memᴰ s L → n ≤ k → Rising key n L
    → Rising (stored s k key) n (insert_in key s k L)
rising_insert key n s k [] a h r = (rw (stored_same s k key) h, tt)
rising_insert key n s k (x ∷ L) a h r =
    go (ltb k (key x)) refl (λ le. rising_insert key (key x) s k L (λ m. a (Memᴰ.tail m)) le r.1)
  where
    same : stored s k key x ≡ key x
    same = sym (stored_other s k key (x ∷ L) a x (Memᴰ.head refl))

    go : (b : Bool) → ltb k (key x) ≡ b → (key x ≤ k → Rising (stored s k key) (key x) (insert_in key s k L))
        → Rising (stored s k key) n (insert_in key s k (x ∷ L))
    go true e below =
        rw e (
          omega (arith, stored_same s k key),
          (omega (arith, stored_same s k key, same, ltb-true k (key x) e), (rising_stored key n s k (x ∷ L) a r).1),
        )
    go false e below = rw e (omega (arith, same), rw same (below (ltb-false k (key x) e)))

-- a slot taken out
pub rising_out : (key : ℕ → ℕ) (n p : ℕ) (L : List ℕ) → Rising key n L → Rising key n (exchange p [] L)
rising_out key n p [] r = tt
rising_out key n p (x ∷ L) r = go (eqb p x) refl (rising_out key (key x) p L r.1)
  where
    go : (b : Bool) → eqb p x ≡ b → Rising key (key x) (exchange p [] L) → Rising key n (exchange p [] (x ∷ L))
    go true e below = rw e (rising_lower key n (key x) L r.0 r.1)
    go false e below = rw e (r.0, below)
