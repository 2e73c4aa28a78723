-- What each of the twelve commands comes down to on a tree that is held, once its position and its new slot are right.
use Prim.Native.Nat.{ℕ, ◌≤◌, ◌<◌}
use native.Mathlib.Omega.{arith}
use mathlib.Core.Path.{◌≡◌, refl, ap, sym, ◌∙◌, subst}
use mathlib.Core.Logic.{◌⊎◌, inl, inr}
use mathlib.Core.List.{List, Memᴰ}
use lib.ListN.{length}
use Rattle.model.specs.Tree.{lft, rgt, Tree, leaf, slots, Frame, plug}
use Rattle.model.specs.Lent.{Lent, at, capacity, key_of, keyed}
use Rattle.model.specs.Draw.{draw}
use Rattle.model.specs.Hanging.{hang, hung_tree}
use Rattle.model.specs.Removal.{replaced}
use Rattle.model.specs.Descent.{Entry, occupied, vacant, Landing, insert_landing, entry_for, find_landing}
use Rattle.model.specs.Commands.{Command, insert, or_insert, find, lower_bound, upper_bound, remove, next, prev}
use Rattle.model.specs.Commands.{insert_after, insert_before, replace_with, clear}
use Rattle.model.specs.Order.{key_after, stored}
use Rattle.model.specs.Answers.{done}
use Rattle.model.specs.Operations.{with_tree, with_placed, place_after, place_before, hang_at, enter, tell, accept}
use Rattle.model.specs.Shape.{TurnedAtMost, entered_tree, unmended, rotation_limit}
use Rattle.theory.specs.Balance.{Balanced}
use Rattle.theory.specs.Sound.{Sound}
use Rattle.theory.specs.Focus.{Standing}
use Rattle.theory.specs.Descents.{Met, Unmet}
use Rattle.theory.specs.Holds.{Holds}
use Rattle.theory.specs.After.{entered, tree_after, Admitted, Result}
use Rattle.theory.proofs.Height.{height_fits}
use Rattle.theory.proofs.Turned.{turned_none, turned_more, turned_slots}
use Rattle.theory.proofs.Hanging.{hang_turned}
use Rattle.theory.proofs.Focus.{standing}
use Rattle.theory.proofs.Bounds.{insert_plug}
use Rattle.theory.proofs.Finds.{entry_cases}
use Rattle.theory.proofs.Positions.{place_next_plug, place_after_next, place_before_next}
use Rattle.theory.proofs.Meaning.{unmended_slots, accept_told, accept_probes}
use Rattle.theory.proofs.Changes.{leaf_sound, leaf_balanced, keyed_length, keyed_at, hung_sound, hung_balanced}
use Rattle.theory.proofs.Changes.{removed_sound, removed_balanced, removed_turned, replaced_sound}
use Rattle.theory.proofs.Changes.{replaced_balanced}

-- what is not refused is Done
pub accept_done : (c : Command) (key : ℕ → ℕ) (t : Tree) (m : Lent) → (accept c key t m).answer.code ≡ done
unfolding accept hang_at tell enter
accept_done (insert s k) key t m = refl
accept_done (or_insert s k) key t m = go (entry_for key k t) (find_landing key k t)
  where
    go : (e : Entry) (d : Landing) → (enter e d s k m).answer.code ≡ done
    go (occupied x) d = refl
    go (vacant p side) d = refl
accept_done (find k) key t m = refl
accept_done (lower_bound b k) key t m = refl
accept_done (upper_bound b k) key t m = refl
accept_done (remove p) key t m = refl
accept_done (next p) key t m = refl
accept_done (prev p) key t m = refl
accept_done (insert_after p s k) key t m = refl
accept_done (insert_before p s k) key t m = refl
accept_done (replace_with p s k) key t m = refl
accept_done clear key t m = refl

module _ {m : Lent} {t : Tree} (h : Holds m t) where
  -- ---- from a drawing of the tree after the command, with its keys, the rest follows from what the command means
  module _ (c : Command) (ok : Admitted c (capacity m.arrays) (slots t)) (t' : Tree) where
    drawn : (keys : List ℕ) → (accept c (key_of m.arrays) t m).after ≡ draw (capacity m.arrays) t' keys
        → length keys ≡ capacity m.arrays
        → ((x : ℕ) → 0 < x → at keys x ≡ key_after (key_of m.arrays) c (slots t) x)
        → Sound (capacity m.arrays) t' → Balanced t'
        → TurnedAtMost (rotation_limit c) (unmended c (key_of m.arrays) t) t'
        → Result c m t t' (accept c (key_of m.arrays) t m)
    drawn keys after long key sound balanced turned = record {
      keys = keys;
      after = after;
      long = long;
      key = key;
      sound = sound;
      balanced = balanced;
      list = turned_slots (unmended c (key_of m.arrays) t) t' turned
          ∙ unmended_slots (key_of m.arrays) c t h.sound h.rising ok.position;
      turned = turned;
      code = accept_done c (key_of m.arrays) t m;
      told = accept_told (key_of m.arrays) c t m h.rising;
      probes = height_fits t _ h.balanced (accept_probes (key_of m.arrays) c t m);
    }

    -- the keys stay
    with_keys : (accept c (key_of m.arrays) t m).after ≡ draw (capacity m.arrays) t' m.arrays.key
        → key_after (key_of m.arrays) c (slots t) ≡ key_of m.arrays
        → Sound (capacity m.arrays) t' → Balanced t'
        → TurnedAtMost (rotation_limit c) (unmended c (key_of m.arrays) t) t'
        → Result c m t t' (accept c (key_of m.arrays) t m)
    unfolding key_of
    with_keys after same = drawn m.arrays.key after h.keys (λ x some. sym (ap (λ (f : ℕ → ℕ). f x) same))

    -- a slot has a new key
    with_key : (s k : ℕ) → (0 < s) × (s ≤ capacity m.arrays) × (¬ Memᴰ s (slots t))
        → (accept c (key_of m.arrays) t m).after ≡ with_placed t' s k m
        → key_after (key_of m.arrays) c (slots t) ≡ stored s k (key_of m.arrays)
        → Sound (capacity m.arrays) t' → Balanced t'
        → TurnedAtMost (rotation_limit c) (unmended c (key_of m.arrays) t) t'
        → Result c m t t' (accept c (key_of m.arrays) t m)
    unfolding with_placed
    with_key s k free after same =
        drawn (keyed s k m.arrays) after (keyed_length s k m.arrays ∙ h.keys)
        (λ x some. keyed_at s k m.arrays x free.0 (omega (arith, free.1, h.keys)) some
        ∙ sym (ap (λ (f : ℕ → ℕ). f x) same))

  -- ---- the changes

  -- nothing changes
  quiet : (c : Command) → Admitted c (capacity m.arrays) (slots t)
      → (accept c (key_of m.arrays) t m).after ≡ m → key_after (key_of m.arrays) c (slots t) ≡ key_of m.arrays
      → unmended c (key_of m.arrays) t ≡ t → Result c m t t (accept c (key_of m.arrays) t m)
  quiet c ok after same unchanged =
      with_keys c ok t (after ∙ h.is) same h.sound h.balanced
      (rw unchanged (turned_more t t (omega arith) (turned_none t t refl)))

  -- a slot is hung at an empty place
  hung : (c : Command) → Admitted c (capacity m.arrays) (slots t) → (s k : ℕ) (w : List Frame)
      → (0 < s) × (s ≤ capacity m.arrays) × (¬ Memᴰ s (slots t)) → plug leaf w ≡ t
      → (accept c (key_of m.arrays) t m).after ≡ with_placed (hang s w) s k m
      → key_after (key_of m.arrays) c (slots t) ≡ stored s k (key_of m.arrays)
      → unmended c (key_of m.arrays) t ≡ hung_tree s w → 2 ≤ rotation_limit c
      → Result c m t (hang s w) (accept c (key_of m.arrays) t m)
  hung c ok s k w free whole after same started limit =
      with_key c ok (hang s w) s k free after same
      (hung_sound s w whole free.0 free.1 free.2 h.sound) (hung_balanced s w whole h.balanced)
      (rw started (turned_more (hung_tree s w) (hang s w) limit (hang_turned s w)))

  -- or_insert, by what its descent meets
  entering : (s k : ℕ) → Admitted (or_insert s k) (capacity m.arrays) (slots t)
      → ((x : ℕ) × Met (key_of m.arrays) k t x) ⊎ Unmet (key_of m.arrays) k t
      → Result (or_insert s k) m t (tree_after (or_insert s k) (key_of m.arrays) t)
      (accept (or_insert s k) (key_of m.arrays) t m)
  unfolding tree_after entered accept enter hang_at key_after unmended entered_tree
  entering s k ok (inl met) =
      subst (λ (u : Tree). Result (or_insert s k) m t u (accept (or_insert s k) (key_of m.arrays) t m))
      (sym (rw met.1.entry))
      (quiet (or_insert s k) ok (rw met.1.entry) (rw met.1.held) (rw met.1.entry))
  entering s k ok (inr unmet) =
      subst (λ (u : Tree). Result (or_insert s k) m t u (accept (or_insert s k) (key_of m.arrays) t m))
      (sym (rw (unmet.entry, unmet.same)))
      (hung (or_insert s k) ok s k (insert_landing (key_of m.arrays) k t).way (ok.slot s refl)
      (insert_plug (key_of m.arrays) k t) (rw (unmet.entry, unmet.same)) (rw unmet.held)
      (rw (unmet.entry, unmet.same)) (omega arith))

  pub result : (c : Command) → Admitted c (capacity m.arrays) (slots t)
      → Result c m t (tree_after c (key_of m.arrays) t) (accept c (key_of m.arrays) t m)
  unfolding tree_after accept hang_at tell key_after unmended with_tree
  result (insert s k) ok =
      hung (insert s k) ok s k (insert_landing (key_of m.arrays) k t).way (ok.slot s refl)
      (insert_plug (key_of m.arrays) k t) refl refl refl (omega arith)
  result (or_insert s k) ok = entering s k ok (entry_cases (key_of m.arrays) k t h.rising)
  result (find k) ok = quiet (find k) ok refl refl refl
  result (lower_bound b k) ok = quiet (lower_bound b k) ok refl refl refl
  result (upper_bound b k) ok = quiet (upper_bound b k) ok refl refl refl
  result (remove p) ok =
      let v : Standing lft p t = standing lft p t (ok.node p refl refl) in
      with_keys (remove p) ok _ refl refl (removed_sound h.sound v) (removed_balanced h.sound v h.balanced)
      (removed_turned h.sound v (key_of m.arrays))
  result (next p) ok = quiet (next p) ok refl refl refl
  result (prev p) ok = quiet (prev p) ok refl refl refl
  result (insert_after p s k) ok =
      hung (insert_after p s k) ok s k (place_after p t) (ok.slot s refl)
      (rw (place_after_next p t) (place_next_plug rgt p t h.sound (ok.position p refl))) refl refl refl (omega arith)
  result (insert_before p s k) ok =
      hung (insert_before p s k) ok s k (place_before p t) (ok.slot s refl)
      (rw (place_before_next p t) (place_next_plug lft p t h.sound (ok.position p refl))) refl refl refl (omega arith)
  result (replace_with p s k) ok =
      let v : Standing lft p t = standing lft p t (ok.node p refl refl) in
      let free = ok.slot s refl in
      with_key (replace_with p s k) ok _ s k free refl refl
      (replaced_sound h.sound v s free.0 free.1 free.2) (replaced_balanced h.sound v s h.balanced)
      (turned_none (replaced p s t) (replaced p s t) refl)
  result clear ok =
      with_keys clear ok leaf refl refl (leaf_sound (capacity m.arrays)) leaf_balanced (turned_none leaf leaf refl)
