-- `operate` by its tests, for each command: what a call on well-formed arrays gives once its tests are known.
use Prim.Native.Nat.{ℕ, ◌≤◌, ◌<◌}
use mathlib.Core.Path.{◌≡◌, refl, ap, ◌∙◌}
use mathlib.Core.Logic.{◌⊎◌, inl, inr, ⊎_elim}
use mathlib.Core.Bool.{Bool, true, false}
use mathlib.Core.Option.{some}
use mathlib.Core.List.{Memᴰ}
use Rattle.model.specs.Branch.{choose}
use Rattle.model.specs.Tree.{Tree, slots}
use Rattle.model.specs.Lent.{Lent, capacity, key_of}
use Rattle.model.specs.Commands.{Command, insert, or_insert, find, lower_bound, upper_bound, remove, next, prev}
use Rattle.model.specs.Commands.{insert_after, insert_before, replace_with, clear}
use Rattle.model.specs.Order.{next_in, prev_in, keeps_order}
use Rattle.model.specs.Answers.{Code, done, out_of_order, refused, is_done, kind_test, position_test, slot_test}
use Rattle.model.specs.Answers.{placed_test}
use Rattle.model.specs.Answers.{order_test, then_test, refusal, unless_refused}
use Rattle.model.specs.Operations.{accept, accepted, operate}
use Rattle.theory.specs.Holds.{Holds}
use Rattle.theory.specs.Between.{both_test, between}
use Rattle.theory.proofs.Holds.{holds_tree}
use Rattle.theory.proofs.Tests.{code_cases, then_done, position_done, slot_done}
use Rattle.theory.proofs.HoldsReads.{linked_in, in_linked}
use Rattle.theory.proofs.Orderly.{after_orderly, before_orderly, replace_orderly}

-- a call whose tests give a code is refused with it, and one that passes them is the accepted command
pub operate_refused : (c : Command) (m : Lent) (r : Code) → refusal c m ≡ r → is_done r ≡ false
    → operate c m ≡ refused r m
unfolding operate unless_refused
operate_refused c m r e f = rw (e, f)

pub operate_accepted : {m : Lent} {t : Tree} → Holds m t → (c : Command) → refusal c m ≡ done
    → operate c m ≡ accept c (key_of m.arrays) t m
unfolding operate unless_refused accepted
operate_accepted {m} {t} h c e = rw (e, holds_tree h)

-- ---- the tests of each command

-- nothing comes after
then_last : (r : Code) → then_test r (λ _. done) ≡ r
unfolding then_test
then_last r = ⊎_elim (λ e. rw e) (λ e. rw e) (code_cases r)

then_first : (r : Code) → then_test done (λ _. r) ≡ r
unfolding then_test
then_first r = refl

module _ (m : Lent) where
  pub tests_insert : (s k : ℕ) → refusal (insert s k) m ≡ slot_test (some s) m.arrays
  unfolding refusal kind_test position_test order_test
  tests_insert s k = then_first _ ∙ then_first _ ∙ then_last (slot_test (some s) m.arrays)

  pub tests_or_insert : (s k : ℕ) → refusal (or_insert s k) m ≡ slot_test (some s) m.arrays
  unfolding refusal kind_test position_test order_test
  tests_or_insert s k = then_first _ ∙ then_first _ ∙ then_last (slot_test (some s) m.arrays)

  pub tests_find : (k : ℕ) → refusal (find k) m ≡ done
  unfolding refusal kind_test position_test slot_test order_test then_test
  tests_find k = refl

  pub tests_lower : (b k : ℕ) → refusal (lower_bound b k) m ≡ kind_test (some b)
  unfolding refusal position_test slot_test order_test
  tests_lower b k =
      ap (λ (r : Code). then_test (kind_test (some b)) (λ _. r)) (then_first _ ∙ then_first _)
      ∙ then_last (kind_test (some b))

  pub tests_upper : (b k : ℕ) → refusal (upper_bound b k) m ≡ kind_test (some b)
  unfolding refusal position_test slot_test order_test
  tests_upper b k =
      ap (λ (r : Code). then_test (kind_test (some b)) (λ _. r)) (then_first _ ∙ then_first _)
      ∙ then_last (kind_test (some b))

  pub tests_remove : (p : ℕ) → refusal (remove p) m ≡ position_test true (some p) m.arrays
  unfolding refusal kind_test slot_test order_test
  tests_remove p =
      then_first _ ∙ ap (λ (r : Code). then_test (position_test true (some p) m.arrays) (λ _. r)) (then_first _)
      ∙ then_last (position_test true (some p) m.arrays)

  pub tests_next : (p : ℕ) → refusal (next p) m ≡ position_test false (some p) m.arrays
  unfolding refusal kind_test slot_test order_test
  tests_next p =
      then_first _ ∙ ap (λ (r : Code). then_test (position_test false (some p) m.arrays) (λ _. r)) (then_first _)
      ∙ then_last (position_test false (some p) m.arrays)

  pub tests_prev : (p : ℕ) → refusal (prev p) m ≡ position_test false (some p) m.arrays
  unfolding refusal kind_test slot_test order_test
  tests_prev p =
      then_first _ ∙ ap (λ (r : Code). then_test (position_test false (some p) m.arrays) (λ _. r)) (then_first _)
      ∙ then_last (position_test false (some p) m.arrays)

  pub tests_clear : refusal clear m ≡ done
  unfolding refusal kind_test position_test slot_test order_test then_test
  tests_clear = refl

-- ---- the commands that place a key at a position

then_then : (a b r : Code) → then_test a (λ _. then_test b (λ _. r)) ≡ then_test (then_test a (λ _. b)) (λ _. r)
unfolding then_test
then_then a b r = ⊎_elim (λ (e : a ≡ done). rw e) (λ (e : is_done a ≡ false). rw (e, e)) (code_cases a)

module _ (m : Lent) (p s k : ℕ) where
  pub tests_after : refusal (insert_after p s k) m
      ≡ then_test (both_test false p s m.arrays) (λ _. placed_test (insert_after p s k) m)
  unfolding refusal kind_test order_test both_test
  tests_after = then_first _ ∙ then_then _ _ _

  pub tests_before : refusal (insert_before p s k) m
      ≡ then_test (both_test false p s m.arrays) (λ _. placed_test (insert_before p s k) m)
  unfolding refusal kind_test order_test both_test
  tests_before = then_first _ ∙ then_then _ _ _

  pub tests_replace : refusal (replace_with p s k) m
      ≡ then_test (both_test true p s m.arrays) (λ _. placed_test (replace_with p s k) m)
  unfolding refusal kind_test order_test both_test
  tests_replace = then_first _ ∙ then_then _ _ _

-- what passes both tests
pub both_done : {m : Lent} {t : Tree} → Holds m t → (needed : Bool) (p s : ℕ) → both_test needed p s m.arrays ≡ done
    → (((p ≡ 0) × (needed ≡ false)) ⊎ Memᴰ p (slots t))
    × (0 < s) × (s ≤ capacity m.arrays) × (¬ Memᴰ s (slots t))
unfolding both_test
both_done {m} {t} h needed p s e =
    let passed = then_done (position_test needed (some p) m.arrays) (slot_test (some s) m.arrays) e in
    let free = slot_done (some s) m.arrays passed.1 s refl in (
      ⊎_elim inl (λ here. inr (linked_in h p here)) (position_done needed (some p) m.arrays passed.0 p refl),
      free.0,
      free.1,
      λ here. free.2 (in_linked h s here),
    )

-- OutOfOrder by the slots beside the place
module _ {m : Lent} {t : Tree} (h : Holds m t) (p s k : ℕ) (fresh : ¬ Memᴰ s (slots t)) where
  placed_if : (c : Command) (b : Bool) → keeps_order (key_of m.arrays) c (slots t) ≡ b
      → placed_test c m ≡ choose b (λ _. done) (λ _. out_of_order)
  unfolding placed_test
  placed_if c b e = rw (holds_tree h, e)

  pub placed_after : (p ≡ 0) ⊎ Memᴰ p (slots t) → placed_test (insert_after p s k) m
      ≡ choose (between (key_of m.arrays) p k (next_in p (slots t))) (λ _. done) (λ _. out_of_order)
  placed_after here =
      placed_if (insert_after p s k) _ (after_orderly (key_of m.arrays) s k t h.sound fresh h.rising p here)

  pub placed_before : (p ≡ 0) ⊎ Memᴰ p (slots t) → placed_test (insert_before p s k) m
      ≡ choose (between (key_of m.arrays) (prev_in p (slots t)) k p) (λ _. done) (λ _. out_of_order)
  placed_before here =
      placed_if (insert_before p s k) _ (before_orderly (key_of m.arrays) s k t h.sound fresh h.rising p here)

  pub placed_replace : Memᴰ p (slots t) → placed_test (replace_with p s k) m
      ≡ choose (between (key_of m.arrays) (prev_in p (slots t)) k (next_in p (slots t))) (λ _. done) (λ _. out_of_order)
  placed_replace here =
      placed_if (replace_with p s k) _ (replace_orderly (key_of m.arrays) s k t h.sound fresh h.rising p here)
