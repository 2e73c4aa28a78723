-- The tests of a call, all together, give each code exactly when its row of the refusal table says so.
use Prim.Native.Nat.{ℕ}
use native.Mathlib.Omega.{arith}
use mathlib.Core.Path.{◌≡◌, refl, ap, sym, ◌∙◌}
use mathlib.Core.Logic.{◌≢◌, ◌⊎◌, inl, inr, ⊎_elim}
use mathlib.Core.Bool.{Bool, true, false}
use mathlib.Core.List.{List, [], ◌∷◌, Memᴰ}
use mathlib.Core.Option.{Option, none, some}
use Rattle.model.specs.Branch.{choose}
use Rattle.model.specs.Tree.{slots}
use Rattle.model.specs.Lent.{Lent, capacity, key_of, tree_of}
use Rattle.model.specs.WellFormed.{Rising, W4}
use Rattle.model.specs.Descent.{Entry, entry_for}
use Rattle.model.specs.Commands.{Command, insert, or_insert, find, lower_bound, upper_bound, remove, next, prev}
use Rattle.model.specs.Commands.{insert_after, insert_before, replace_with, clear, fields_of}
use Rattle.model.specs.Order.{list_after, key_after, keeps_order}
use Rattle.model.specs.Answers.{Code, done, out_of_order, stale, kind_test, position_test, slot_test, same_entry}
use Rattle.model.specs.Answers.{stale_test}
use Rattle.model.specs.Answers.{placed_test, order_test, then_test, refusal, entry_refusal}
use Rattle.model.specs.Operations.{accepted}
use Rattle.model.specs.Refusals.{Row, row, Gives, position_rows, slot_rows, order_row, record_rows}
use Rattle.theory.specs.Holds.{Holds}
use Rattle.theory.specs.After.{Admitted, Result, tree_after}
use Rattle.theory.proofs.Branch.{clash}
use Rattle.theory.proofs.HoldsReads.{linked_in, in_linked}
use Rattle.theory.proofs.Orders.{order_test_placed, order_test_rising, rising_order_test}
use Rattle.theory.proofs.Finds.{same_entry_same, same_entry_refl}
use Rattle.theory.proofs.Results.{result}
use Rattle.theory.proofs.After.{result_w4, w4_result}
use Rattle.theory.proofs.Tests.{then_gives, kind_decides, PositionFits, position_decides, SlotFits, slot_decides}
use Rattle.theory.proofs.Tests.{then_done, position_done, slot_done}

-- only one code satisfies the rows
pub gives_one : (rows : List Row) (c d : Code) → Gives rows c → Gives rows d → c ≡ d
gives_one [] c d p q = p ∙ sym q
gives_one (r ∷ rows) c d (inl p) (inl q) = p.1 ∙ sym q.1
gives_one (r ∷ rows) c d (inl p) (inr q) = absurd (q.0 p.0)
gives_one (r ∷ rows) c d (inr p) (inl q) = absurd (p.0 q.0)
gives_one (r ∷ rows) c d (inr p) (inr q) = gives_one rows c d p.1 q.1

-- ---- the order of keys

-- a command without a new slot never breaks it
order_none : (c : Command) (m : Lent) → (fields_of c).slot ≡ none → order_test c m ≡ done
unfolding order_test
order_none (insert s k) m e = refl
order_none (or_insert s k) m e = refl
order_none (find k) m e = refl
order_none (lower_bound b k) m e = refl
order_none (upper_bound b k) m e = refl
order_none (remove p) m e = refl
order_none (next p) m e = refl
order_none (prev p) m e = refl
order_none (insert_after p s k) m e = cc
order_none (insert_before p s k) m e = cc
order_none (replace_with p s k) m e = cc
order_none clear m e = refl

placed_cases : (c : Command) (m : Lent) → (placed_test c m ≡ done) ⊎ (placed_test c m ≡ out_of_order)
unfolding placed_test
placed_cases c m = go (keeps_order (key_of m.arrays) c (slots (tree_of m)))
  where
    go : (b : Bool) → (choose b (λ _. done) (λ _. out_of_order) ≡ done)
        ⊎ (choose b (λ _. done) (λ _. out_of_order) ≡ out_of_order)
    go true = inl refl
    go false = inr refl

module _ {m : Lent} (h : Holds m (tree_of m)) where
  -- what passes the tests of position and slot is admitted
  pub admitted : (c : Command) → PositionFits (fields_of c).needs_node (fields_of c).position m.arrays
      → SlotFits (fields_of c).slot m.arrays → Admitted c (capacity m.arrays) (slots (tree_of m))
  admitted c position slot = record {
    position = λ p e. ⊎_elim (λ z. inl z.0) (λ here. inr (linked_in h p here)) (position p e);
    node = λ p e needed. ⊎_elim
        (λ z. clash (sym z.1 ∙ needed))
        (λ here. linked_in h p here) (position p e);
    slot = λ s e. let free = slot s e in (free.0, free.1, λ here. free.2 (in_linked h s here));
  }

  module _ (c : Command) (ok : Admitted c (capacity m.arrays) (slots (tree_of m))) where
    fresh : (s : ℕ) → (fields_of c).slot ≡ some s → ¬ Memᴰ s (slots (tree_of m))
    fresh s e = (ok.slot s e).2

    outcome_is : Result c m (tree_of m) (tree_after c (key_of m.arrays) (tree_of m)) (accepted c m)
    unfolding accepted
    outcome_is = result h c ok

    pub order_gives : Gives (order_row c m ∷ []) (order_test c m)
    order_gives = go (fields_of c).slot refl (placed_cases c m)
      where
        test : order_test c m ≡ placed_test c m
        test = order_test_placed c m fresh h.rising

        kept : order_test c m ≡ done → W4 (accepted c m).after
        kept e = result_w4 outcome_is (order_test_rising c m fresh h.rising e)

        broken : order_test c m ≡ out_of_order → ¬ W4 (accepted c m).after
        broken e w4 =
            let f : order_test c m ≡ done = rising_order_test c m fresh h.rising (w4_result outcome_is w4) in
            let z : ◌≡◌ {A = ℕ} 0 1 = let w : out_of_order ≡ done = sym e ∙ f in cc in omega arith

        go : (slot : Option ℕ) → (fields_of c).slot ≡ slot → (placed_test c m ≡ done) ⊎ (placed_test c m ≡ out_of_order)
            → Gives (order_row c m ∷ []) (order_test c m)
        go none e placed = rw e (inr ((λ z. z), order_none c m e))
        go (some s) e (inl fits) = rw e (inr ((λ breaks. breaks (kept (test ∙ fits))), test ∙ fits))
        go (some s) e (inr out) = rw e (inl (broken (test ∙ out), test ∙ out))

  -- ---- one command on well-formed arrays
  module _ (c : Command) where
    slot_gives : PositionFits (fields_of c).needs_node (fields_of c).position m.arrays
        → Gives (slot_rows (fields_of c).slot m.arrays (order_row c m ∷ []))
        (then_test (slot_test (fields_of c).slot m.arrays) λ _. order_test c m)
    slot_gives position =
        then_gives (slot_rows (fields_of c).slot m.arrays (order_row c m ∷ []))
        (slot_test (fields_of c).slot m.arrays) (order_test c m)
        (slot_decides (fields_of c).slot m.arrays (order_row c m ∷ []) (order_test c m)
        (λ slot. order_gives c (admitted c position slot)))

    position_gives : Gives
        (position_rows (fields_of c).needs_node (fields_of c).position m.arrays
        (slot_rows (fields_of c).slot m.arrays (order_row c m ∷ [])))
        (then_test (position_test (fields_of c).needs_node (fields_of c).position m.arrays) λ _.
        then_test (slot_test (fields_of c).slot m.arrays) λ _. order_test c m)
    position_gives =
        then_gives
        (position_rows (fields_of c).needs_node (fields_of c).position m.arrays
        (slot_rows (fields_of c).slot m.arrays (order_row c m ∷ [])))
        (position_test (fields_of c).needs_node (fields_of c).position m.arrays)
        (then_test (slot_test (fields_of c).slot m.arrays) λ _. order_test c m)
        (position_decides (fields_of c).needs_node (fields_of c).position m.arrays
        (slot_rows (fields_of c).slot m.arrays (order_row c m ∷ []))
        (then_test (slot_test (fields_of c).slot m.arrays) λ _. order_test c m) slot_gives)

    pub refusal_gives : Gives (record_rows c m) (refusal c m)
    unfolding refusal
    refusal_gives =
        then_gives (record_rows c m) (kind_test (fields_of c).kind)
        (then_test (position_test (fields_of c).needs_node (fields_of c).position m.arrays) λ _.
        then_test (slot_test (fields_of c).slot m.arrays) λ _. order_test c m)
        (kind_decides (fields_of c).kind
        (position_rows (fields_of c).needs_node (fields_of c).position m.arrays
        (slot_rows (fields_of c).slot m.arrays (order_row c m ∷ [])))
        (then_test (position_test (fields_of c).needs_node (fields_of c).position m.arrays) λ _.
        then_test (slot_test (fields_of c).slot m.arrays) λ _. order_test c m) position_gives)

  -- ---- or_insert with an entry of its own
  module _ (e : Entry) (s k : ℕ) where
    stale_gives : SlotFits (some s) m.arrays
        → Gives (row stale (e ≢ entry_for (key_of m.arrays) k (tree_of m)) ∷ order_row (or_insert s k) m ∷ [])
        (stale_test e k m)
    unfolding stale_test order_test
    stale_gives slot = go (same_entry e (entry_for (key_of m.arrays) k (tree_of m))) refl
      where
        ok : Admitted (or_insert s k) (capacity m.arrays) (slots (tree_of m))
        ok = admitted (or_insert s k) (λ p z. let w : ◌≡◌ {A = ℕ} 0 1 = cc in absurd (omega arith)) slot

        go : (b : Bool) → same_entry e (entry_for (key_of m.arrays) k (tree_of m)) ≡ b
            → Gives (row stale (e ≢ entry_for (key_of m.arrays) k (tree_of m)) ∷ order_row (or_insert s k) m ∷ [])
            (stale_test e k m)
        go true z = rw z (inr ((λ differ. differ (same_entry_same e _ z)), order_gives (or_insert s k) ok))
        go false z =
            rw z (inl ((λ same. clash (sym z ∙ ap (same_entry e) (sym same) ∙ same_entry_refl e)), refl))

    pub entry_gives : Gives
        (slot_rows (some s) m.arrays
        (row stale (e ≢ entry_for (key_of m.arrays) k (tree_of m)) ∷ order_row (or_insert s k) m ∷ []))
        (entry_refusal e s k m)
    unfolding entry_refusal
    entry_gives =
        then_gives
        (slot_rows (some s) m.arrays
        (row stale (e ≢ entry_for (key_of m.arrays) k (tree_of m)) ∷ order_row (or_insert s k) m ∷ []))
        (slot_test (some s) m.arrays) (stale_test e k m)
        (slot_decides (some s) m.arrays
        (row stale (e ≢ entry_for (key_of m.arrays) k (tree_of m)) ∷ order_row (or_insert s k) m ∷ [])
        (stale_test e k m)
        stale_gives)

  -- ---- what a command that is not refused has shown
  pub refusal_done : (c : Command) → refusal c m ≡ done
      → Admitted c (capacity m.arrays) (slots (tree_of m)) × (order_test c m ≡ done)
  unfolding refusal
  refusal_done c e =
      let kind = then_done (kind_test (fields_of c).kind) _ e in
      let position = then_done (position_test (fields_of c).needs_node (fields_of c).position m.arrays) _ kind.1 in
      let slot = then_done (slot_test (fields_of c).slot m.arrays) _ position.1 in (
        admitted c
            (position_done (fields_of c).needs_node (fields_of c).position m.arrays position.0)
            (slot_done (fields_of c).slot m.arrays slot.0),
        slot.1,
      )

  -- it leaves rising keys
  pub done_rising : (c : Command) → Admitted c (capacity m.arrays) (slots (tree_of m)) → order_test c m ≡ done
      → Rising (key_after (key_of m.arrays) c (slots (tree_of m))) 0
      (list_after (key_of m.arrays) c (slots (tree_of m)))
  done_rising c ok e = order_test_rising c m (fresh c ok) h.rising e
