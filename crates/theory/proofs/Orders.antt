-- The order of keys after a command: it can only be broken where a key is put at a position of the caller's choice.
use Prim.Native.Nat.{ℕ}
use mathlib.Core.Bool.{Bool, true, false}
use mathlib.Core.List.{List}
use mathlib.Core.Path.{◌≡◌, refl, sym, ◌∙◌}
use native.Mathlib.Omega.{arith}
use Rattle.model.specs.Tree.{slots}
use Rattle.model.specs.Lent.{Lent, key_of, tree_of}
use Rattle.model.specs.WellFormed.{Rising}
use Rattle.model.specs.Commands.{Command, insert, or_insert, find, lower_bound, upper_bound, remove, next, prev}
use Rattle.model.specs.Commands.{insert_after, insert_before, replace_with, clear}
use Rattle.model.specs.Order.{holds, list_after, key_after, keeps_order}
use Rattle.model.specs.Answers.{done, out_of_order, placed_test, order_test}
use Rattle.theory.specs.Orders.{Fresh, Fitting}
use Rattle.theory.proofs.Rising.{rising_rises, rises_rising, rising_insert, rising_out}

-- the keys along the list after the command still rise
pub rising_command : (key : ℕ → ℕ) (c : Command) (L : List ℕ) → Fitting c → Fresh c L → Rising key 0 L
    → Rising (key_after key c L) 0 (list_after key c L)
unfolding key_after list_after
rising_command key (insert s k) L fitting fresh r = rising_insert key 0 s k L (fresh s refl) (omega arith) r
rising_command key (or_insert s k) L fitting fresh r = go (holds key k L) refl
  where
    go : (b : Bool) → holds key k L ≡ b → Rising (key_after key (or_insert s k) L) 0 (list_after key (or_insert s k) L)
    go true e = rw e r
    go false e = rw e (rising_insert key 0 s k L (fresh s refl) (omega arith) r)
rising_command key (find k) L fitting fresh r = r
rising_command key (lower_bound b k) L fitting fresh r = r
rising_command key (upper_bound b k) L fitting fresh r = r
rising_command key (remove p) L fitting fresh r = rising_out key 0 p L r
rising_command key (next p) L fitting fresh r = r
rising_command key (prev p) L fitting fresh r = r
rising_command key (insert_after p s k) L fitting fresh r = absurd fitting
rising_command key (insert_before p s k) L fitting fresh r = absurd fitting
rising_command key (replace_with p s k) L fitting fresh r = absurd fitting
rising_command key clear L fitting fresh r = tt

-- so the test passes
pub keeps_order_fitting : (key : ℕ → ℕ) (c : Command) (L : List ℕ) → Fitting c → Fresh c L → Rising key 0 L
    → keeps_order key c L ≡ true
unfolding keeps_order
keeps_order_fitting key c L fitting fresh r =
    rising_rises (key_after key c L) 0 (list_after key c L) (rising_command key c L fitting fresh r)

-- ---- the refusal that rests on it

placed_test_fitting : (c : Command) (m : Lent) → Fitting c → Fresh c (slots (tree_of m))
    → Rising (key_of m.arrays) 0 (slots (tree_of m)) → done ≡ placed_test c m
unfolding placed_test
placed_test_fitting c m fitting fresh r =
    rw (keeps_order_fitting (key_of m.arrays) c (slots (tree_of m)) fitting fresh r)

-- OutOfOrder is, for every command, the test of the list after it
pub order_test_placed : (c : Command) (m : Lent) → Fresh c (slots (tree_of m))
    → Rising (key_of m.arrays) 0 (slots (tree_of m)) → order_test c m ≡ placed_test c m
unfolding order_test
order_test_placed (insert s k) m fresh r = placed_test_fitting (insert s k) m tt fresh r
order_test_placed (or_insert s k) m fresh r = placed_test_fitting (or_insert s k) m tt fresh r
order_test_placed (find k) m fresh r = placed_test_fitting (find k) m tt fresh r
order_test_placed (lower_bound b k) m fresh r = placed_test_fitting (lower_bound b k) m tt fresh r
order_test_placed (upper_bound b k) m fresh r = placed_test_fitting (upper_bound b k) m tt fresh r
order_test_placed (remove p) m fresh r = placed_test_fitting (remove p) m tt fresh r
order_test_placed (next p) m fresh r = placed_test_fitting (next p) m tt fresh r
order_test_placed (prev p) m fresh r = placed_test_fitting (prev p) m tt fresh r
order_test_placed (insert_after p s k) m fresh r = refl
order_test_placed (insert_before p s k) m fresh r = refl
order_test_placed (replace_with p s k) m fresh r = refl
order_test_placed clear m fresh r = placed_test_fitting clear m tt fresh r

-- a command passes it exactly when the keys along the list after it rise
pub order_test_rising : (c : Command) (m : Lent) → Fresh c (slots (tree_of m))
    → Rising (key_of m.arrays) 0 (slots (tree_of m)) → order_test c m ≡ done
    → Rising (key_after (key_of m.arrays) c (slots (tree_of m))) 0 (list_after (key_of m.arrays) c (slots (tree_of m)))
unfolding placed_test keeps_order
order_test_rising c m fresh r e = rises_rising (key_after key c L) 0 (list_after key c L)
    (go (keeps_order key c L) refl)
  where
    key : ℕ → ℕ
    key = key_of m.arrays

    L : List ℕ
    L = slots (tree_of m)

    passed : placed_test c m ≡ done
    passed = sym (order_test_placed c m fresh r) ∙ e

    go : (b : Bool) → keeps_order key c L ≡ b → keeps_order key c L ≡ true
    go true q = q
    go false q = let z : out_of_order ≡ done = rw q at passed in cc

pub rising_order_test : (c : Command) (m : Lent) → Fresh c (slots (tree_of m))
    → Rising (key_of m.arrays) 0 (slots (tree_of m))
    → Rising (key_after (key_of m.arrays) c (slots (tree_of m))) 0 (list_after (key_of m.arrays) c (slots (tree_of m)))
    → order_test c m ≡ done
unfolding placed_test keeps_order
rising_order_test c m fresh r after =
    order_test_placed c m fresh r
    ∙ rw (rising_rises (key_after (key_of m.arrays) c (slots (tree_of m))) 0
    (list_after (key_of m.arrays) c (slots (tree_of m))) after)
