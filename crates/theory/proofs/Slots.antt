-- One lent array: what a store leaves in it, and that its entries stay in bounds.
use Prim.Native.Nat.{ℕ, ◌-◌, ◌/◌, ◌≤◌, ◌<◌}
use mathlib.Core.Path.{◌≡◌}
use mathlib.Core.Logic.{◌≢◌}
use mathlib.Core.List.{List}
use native.Mathlib.Omega.{arith}
use lib.ListN.{length, length-set}
use lib.Dec.{eqb}
use lib.Seq.{get_or-set_same, get_or-set_other}
use borrow.Author.Tests.{eqb-true, eqb-false}
use Rattle.model.specs.Lent.{at}
use Rattle.theory.specs.Slots.{put, parent_at, put_color, Below, Parents}
use Rattle.theory.proofs.Branch.{by-test}

-- the length, and the entries
pub length_put : (l : List ℕ) (s v : ℕ) → length (put l s v) ≡ length l
unfolding put
length_put l s v = length-set l (s - 1) v

pub at_put_same : (l : List ℕ) (s v : ℕ) → 0 < s → s ≤ length l → at (put l s v) s ≡ v
unfolding at put
at_put_same l s v low high = get_or-set_same l (s - 1) v 0 (omega arith)

pub at_put_other : (l : List ℕ) (s t v : ℕ) → 0 < s → 0 < t → t ≢ s → at (put l s v) t ≡ at l t
unfolding at put
at_put_other l s t v low low' apart = get_or-set_other l (s - 1) (t - 1) v 0 (λ e. apart (omega arith))

-- what holds of the value and of every entry holds of every entry after the store
put_by : (P : ℕ → Type 0) (l : List ℕ) (s v : ℕ) → 0 < s → s ≤ length l → P v → ((t : ℕ) → P (at l t)) → (t : ℕ)
    → P (at (put l s v) t)
unfolding at put
put_by P l s v low high new old t = by-test (eqb (t - 1) (s - 1))
    (λ is. rw (eqb-true (t - 1) (s - 1) is, get_or-set_same l (s - 1) v 0 (omega arith)) new)
    (λ is. rw (get_or-set_other l (s - 1) (t - 1) v 0 (eqb-false (t - 1) (s - 1) is)) (old t))

-- children and parents in bounds stay so
pub below_put : (l : List ℕ) (s v : ℕ) → Below l → 0 < s → s ≤ length l → v ≤ length l → Below (put l s v)
below_put l s v b low high le =
    record { each = λ t. rw (length_put l s v) (put_by (λ x. x ≤ length l) l s v low high le b.each t) }

pub parents_put : (l : List ℕ) (s v : ℕ) → Parents l → 0 < s → s ≤ length l → v / 2 ≤ length l → Parents (put l s v)
unfolding parent_at
parents_put l s v b low high le =
    record { each = λ t. rw (length_put l s v) (put_by (λ x. x / 2 ≤ length l) l s v low high le b.each t) }

-- a stored colour keeps every parent
pub parent_put_color : (pc : List ℕ) (s v t : ℕ) → 0 < s → s ≤ length pc → v ≤ 1
    → parent_at (put_color pc s v) t ≡ parent_at pc t
unfolding at put parent_at put_color
parent_put_color pc s v t low high bit = by-test (eqb (t - 1) (s - 1))
    (λ is. rw (eqb-true (t - 1) (s - 1) is, get_or-set_same pc (s - 1) _ 0 (omega arith)) (omega arith))
    (λ is. rw (get_or-set_other pc (s - 1) (t - 1) _ 0 (eqb-false (t - 1) (s - 1) is)))
