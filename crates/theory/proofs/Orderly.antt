-- OutOfOrder as the code tests it: each operation that places a key at a position compares it with the keys of the two
-- slots beside the place.
use Prim.Native.Nat.{ℕ}
use mathlib.Core.Path.{◌≡◌, refl, ap, sym, ◌∙◌}
use mathlib.Core.Logic.{◌≢◌, ◌⊎◌, inl, inr}
use native.Mathlib.Omega.{arith}
use mathlib.Core.List.Memᴰ
use mathlib.Core.List.{List, [], ◌∷◌, ◌++◌, reverse, append_assoc, append-nil, Memᴰ}
use borrow.Author.Tests.{ne_eqb}
use Rattle.model.specs.Tree.{lft, Tree, slots}
use Rattle.model.specs.WellFormed.{Rising}
use Rattle.model.specs.Commands.{insert_after, insert_before, replace_with}
use Rattle.model.specs.Order.{first_slot, next_in, prev_in, exchange, after_in, before_in, list_after, stored}
use Rattle.model.specs.Order.{key_after}
use Rattle.model.specs.Order.{rises_from, keeps_order}
use Rattle.theory.specs.Checked.{last_key}
use Rattle.theory.specs.Sound.{Sound}
use Rattle.theory.specs.Lists.{before, after}
use Rattle.theory.specs.Focus.{Standing}
use Rattle.theory.specs.Between.{between}
use Rattle.theory.proofs.Lists.{slots_at, sound_alone, sound_zero, reverse_at, following_at, member_reverse}
use Rattle.theory.proofs.Lists.{exchange_at}
use Rattle.theory.proofs.Focus.{standing}
use Rattle.theory.proofs.Rising.{rising_lower, rising_front, rising_rest}
use Rattle.theory.proofs.LastKey.{rising_split}
use Rattle.theory.proofs.Placing.{rises_between}

-- a slot p of a list, with what stands before and after it
record Split (p : ℕ) (L : List ℕ) : Type 0 where
  early : List ℕ
  late : List ℕ
  whole : L ≡ early ++ p ∷ late
  alone : (¬ Memᴰ p early) × (¬ Memᴰ p late)

split : {C : ℕ} (p : ℕ) (t : Tree) → Sound C t → Memᴰ p (slots t) → Split p (slots t)
split {C} p t sound here = go (standing lft p t here)
  where
    go : Standing lft p t → Split p (slots t)
    go v = record {
      early = before v.way ++ slots v.near;
      late = slots v.far ++ after v.way;
      whole = ap slots (sym v.whole) ∙ slots_at v.color v.near p v.far v.way;
      alone = sound_alone {C = C} v.color v.near p v.far v.way (rw v.whole sound);
    }

-- what does not stand in a list stands in no part of it
absent_early : (x : ℕ) (A B : List ℕ) → ¬ Memᴰ x (A ++ B) → ¬ Memᴰ x A
absent_early x A B absent m = absent (Memᴰ.append_left B m)

absent_late : (x : ℕ) (A B : List ℕ) → ¬ Memᴰ x (A ++ B) → ¬ Memᴰ x B
absent_late x A B absent m = absent (Memᴰ.append_right A m)

module _ (key : ℕ → ℕ) (s k : ℕ) (L : List ℕ) (fresh : ¬ Memᴰ s L) (some : ¬ Memᴰ 0 L)
    (rising : Rising key 0 L) where
  -- a slot put into the list where it is cut in two
  cut : (A B : List ℕ) → L ≡ A ++ B
      → rises_from 0 (stored s k key) (A ++ s ∷ B) ≡ between key (first_slot (reverse A)) k (first_slot B)
  cut A B whole =
      let parts = rising_split key 0 A B (rw whole at rising) in
      rises_between key s k A B
      (absent_early s A B (rw whole at fresh)) (absent_late s A B (rw whole at fresh))
      (absent_early 0 A B (rw whole at some)) (absent_late 0 A B (rw whole at some))
      parts.0 (rising_lower key 0 (last_key key 0 A) B (omega arith) parts.1)

  module _ (p : ℕ) where
    module _ (v : Split p L) where
      -- the slots beside p
      next_is : p ≢ 0 → next_in p L ≡ first_slot v.late
      unfolding next_in
      next_is there =
          rw (ne_eqb p 0 there, v.whole) (following_at v.early p v.late v.alone.0)

      prev_is : p ≢ 0 → prev_in p L ≡ first_slot (reverse v.early)
      unfolding prev_in next_in
      prev_is there =
          rw (ne_eqb p 0 there, v.whole, reverse_at v.early p v.late)
          (following_at (reverse v.late) p (reverse v.early) (λ m. v.alone.1 (member_reverse p v.late m)))

      after_split : p ≢ 0 → keeps_order key (insert_after p s k) L ≡ between key p k (next_in p L)
      unfolding keeps_order key_after list_after after_in
      after_split there =
          rw (
            ne_eqb p 0 there,
            next_is there,
            ap (exchange p (p ∷ s ∷ [])) v.whole ∙ exchange_at v.early p (p ∷ s ∷ []) v.late v.alone.0
                ∙ sym (append_assoc v.early (p ∷ []) (s ∷ v.late)),
          )
          (cut (v.early ++ p ∷ []) v.late (v.whole ∙ sym (append_assoc v.early (p ∷ []) v.late))
          ∙ ap (λ (z : ℕ). between key z k (first_slot v.late)) (ap first_slot (reverse_at v.early p [])))

      before_split : p ≢ 0 → keeps_order key (insert_before p s k) L ≡ between key (prev_in p L) k p
      unfolding keeps_order key_after list_after before_in
      before_split there =
          rw (
            ne_eqb p 0 there,
            prev_is there,
            ap (exchange p (s ∷ p ∷ [])) v.whole ∙ exchange_at v.early p (s ∷ p ∷ []) v.late v.alone.0,
          )
          (cut v.early (p ∷ v.late) v.whole)

      replace_split : p ≢ 0 → keeps_order key (replace_with p s k) L ≡ between key (prev_in p L) k (next_in p L)
      unfolding keeps_order key_after list_after
      replace_split there =
          let front = rw v.whole at rising in
          rw (
            prev_is there,
            next_is there,
            ap (exchange p (s ∷ [])) v.whole ∙ exchange_at v.early p (s ∷ []) v.late v.alone.0,
          )
          (rises_between key s k v.early v.late
          (absent_early s v.early (p ∷ v.late) (rw v.whole at fresh))
          (λ m. absent_late s v.early (p ∷ v.late) (rw v.whole at fresh) (Memᴰ.tail m))
          (absent_early 0 v.early (p ∷ v.late) (rw v.whole at some))
          (λ m. absent_late 0 v.early (p ∷ v.late) (rw v.whole at some) (Memᴰ.tail m))
          (rising_front key 0 v.early (p ∷ v.late) front)
          (rising_lower key 0 (key p) v.late (omega arith) (rising_rest key 0 v.early p v.late front)))

  after_zero : keeps_order key (insert_after 0 s k) L ≡ between key 0 k (next_in 0 L)
  unfolding keeps_order key_after list_after after_in next_in
  after_zero = cut [] L refl

  before_zero : keeps_order key (insert_before 0 s k) L ≡ between key (prev_in 0 L) k 0
  unfolding keeps_order key_after list_after before_in prev_in next_in
  before_zero = cut L [] (sym (append-nil L))

-- ---- on a tree whose keys rise

module _ {C : ℕ} (key : ℕ → ℕ) (s k : ℕ) (t : Tree) (sound : Sound C t) (fresh : ¬ Memᴰ s (slots t))
    (rising : Rising key 0 (slots t)) (p : ℕ) where
  apart : Memᴰ p (slots t) → p ≢ 0
  apart here e = sound_zero sound (rw e at here)

  pub after_orderly : (p ≡ 0) ⊎ Memᴰ p (slots t)
      → keeps_order key (insert_after p s k) (slots t) ≡ between key p k (next_in p (slots t))
  after_orderly (inl e) = rw e (after_zero key s k (slots t) fresh (sound_zero sound) rising)
  after_orderly (inr here) =
      after_split key s k (slots t) fresh (sound_zero sound) rising p (split p t sound here) (apart here)

  pub before_orderly : (p ≡ 0) ⊎ Memᴰ p (slots t)
      → keeps_order key (insert_before p s k) (slots t) ≡ between key (prev_in p (slots t)) k p
  before_orderly (inl e) = rw e (before_zero key s k (slots t) fresh (sound_zero sound) rising)
  before_orderly (inr here) =
      before_split key s k (slots t) fresh (sound_zero sound) rising p (split p t sound here) (apart here)

  pub replace_orderly : Memᴰ p (slots t)
      → keeps_order key (replace_with p s k) (slots t) ≡ between key (prev_in p (slots t)) k (next_in p (slots t))
  replace_orderly here =
      replace_split key s k (slots t) fresh (sound_zero sound) rising p (split p t sound here) (apart here)
