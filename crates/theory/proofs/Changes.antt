-- The kinds of change that commands make to a tree that is held: none, a slot hung, one taken out, one replaced, all
-- cleared. Each keeps the drawing's rules.
use Prim.Native.Nat.{ℕ, zero, suc, ◌+◌, ◌-◌, ◌≤◌, ◌<◌}
use native.Mathlib.Omega.{arith}
use mathlib.Core.Path.{◌≡◌, refl, ap, sym, ◌∙◌, subst}
use mathlib.Core.Bool.{Bool, true, false}
use mathlib.Core.List.{List, Memᴰ}
use lib.ListN.{length, set, get_or, length-set}
use lib.Seq.{get_or-set_same, get_or-set_other}
use lib.Dec.{eqb}
use borrow.Author.Tests.{eqb-true, eqb-false}
use Rattle.model.specs.Tree.{lft, Tree, leaf, node, slots, Frame, plug}
use Rattle.model.specs.Lent.{Arrays, at, key_of, keyed}
use Rattle.model.specs.Hanging.{hang}
use Rattle.model.specs.Removal.{replaced, removed, take_out, focus_on}
use Rattle.model.specs.Order.{stored}
use Rattle.theory.specs.Balance.{Balanced}
use Rattle.theory.specs.Sound.{one, count, Sound}
use Rattle.theory.specs.Focus.{Standing}
use Rattle.theory.proofs.Counts.{count_plug, sound_more}
use Rattle.theory.proofs.Lists.{count_member}
use Rattle.model.specs.Commands.{remove}
use Rattle.model.specs.Shape.{TurnedAtMost, unmended}
use Rattle.theory.proofs.Focus.{focus_at, removed_at, replaced_at}
use Rattle.theory.proofs.Hanging.{hang_sound, hang_balanced}
use Rattle.theory.proofs.Removal.{take_out_sound, take_out_turned}
use Rattle.theory.proofs.RemovalBalance.{renamed_balanced, take_out_balanced}

-- a slot that is not in the list is not counted
pub absent_count : (t : Tree) (s : ℕ) → ¬ Memᴰ s (slots t) → count t s ≡ 0
absent_count t s absent = go (count t s) refl
  where
    go : (n : ℕ) → count t s ≡ n → count t s ≡ 0
    go zero e = e
    go (suc n) e = absurd (absent (count_member t s (omega arith)))

-- ---- nothing is left

pub leaf_sound : (C : ℕ) → Sound C leaf
leaf_sound C = record { once = λ s. omega arith; low = λ s h. absurd (omega arith); high = λ s h. absurd (omega arith) }

pub leaf_balanced : Balanced leaf
leaf_balanced = record { calm = tt; even = tt; top = refl }

-- ---- the keys once a slot has a new one

pub keyed_length : (s k : ℕ) (a : Arrays) → length (keyed s k a) ≡ length a.key
unfolding keyed
keyed_length s k a = simp length-set

pub keyed_at : (s k : ℕ) (a : Arrays) (x : ℕ) → 0 < s → s ≤ length a.key → 0 < x
    → at (keyed s k a) x ≡ stored s k (key_of a) x
unfolding keyed key_of at
keyed_at s k a x low high some = go (eqb x s) refl
  where
    go : (b : Bool) → eqb x s ≡ b → get_or (set a.key (s - 1) k) (x - 1) 0 ≡ stored s k (key_of a) x
    go true e = rw (e, eqb-true x s e) (get_or-set_same a.key (s - 1) k 0 (omega arith))
    go false e =
        let apart : x ≡ s → ⊥ = eqb-false x s e in
        rw e (get_or-set_other a.key (s - 1) (x - 1) k 0 (λ same. apart (omega arith)))

-- ---- a slot is hung at an empty place

module _ (s : ℕ) {t : Tree} (w : List Frame) (whole : plug leaf w ≡ t) where
  pub hung_sound : {C : ℕ} → 0 < s → s ≤ C → ¬ Memᴰ s (slots t) → Sound C t → Sound C (hang s w)
  hung_sound low high absent sound =
      hang_sound s w (rw whole (absent_count t s absent)) low high (rw whole sound)

  pub hung_balanced : Balanced t → Balanced (hang s w)
  hung_balanced balanced = hang_balanced s w (rw whole balanced)

-- ---- a slot of the tree, seen in its place, is taken out or replaced

module _ {C p : ℕ} {t : Tree} (sound : Sound C t) (v : Standing lft p t) where
  in_place : Sound C (plug (node v.color v.near p v.far) v.way)
  in_place = rw v.whole sound

  pub removed_is : removed p t ≡ take_out (focus_on v.color v.near p v.far v.way)
  removed_is =
      ap (removed p) (sym v.whole) ∙ removed_at v.color v.near p v.far v.way in_place

  pub removed_sound : Sound C (removed p t)
  removed_sound = rw removed_is (take_out_sound v.color v.near p v.far v.way in_place)

  pub removed_balanced : Balanced t → Balanced (removed p t)
  removed_balanced balanced =
      rw removed_is (take_out_balanced v.color v.near p v.far v.way (rw v.whole balanced))

  -- from the spliced tree
  pub removed_turned : (key : ℕ → ℕ) → TurnedAtMost 3 (unmended (remove p) key t) (removed p t)
  unfolding unmended
  removed_turned key =
      subst (λ (u : Tree). TurnedAtMost 3 (unmended (remove p) key u) (removed p u)) v.whole
      (rw (
        focus_at v.color v.near p v.far v.way in_place,
        removed_at v.color v.near p v.far v.way in_place,
      )
      (take_out_turned v.color v.near p v.far v.way))

  module _ (s : ℕ) where
    replaced_is : replaced p s t ≡ plug (node v.color v.near s v.far) v.way
    replaced_is =
        ap (replaced p s) (sym v.whole) ∙ replaced_at v.color v.near p v.far v.way s in_place

    pub replaced_sound : 0 < s → s ≤ C → ¬ Memᴰ s (slots t) → Sound C (replaced p s t)
    replaced_sound low high absent =
        rw replaced_is (sound_more t _ s each (absent_count t s absent) low high sound)
      where
        each : (x : ℕ) → count (plug (node v.color v.near s v.far) v.way) x ≤ one s x + count t x
        each x =
            omega (
              arith,
              count_plug (node v.color v.near s v.far) v.way x,
              count_plug (node v.color v.near p v.far) v.way x,
              ap (λ (u : Tree). count u x) v.whole,
            )

    pub replaced_balanced : Balanced t → Balanced (replaced p s t)
    replaced_balanced balanced =
        rw replaced_is (renamed_balanced v.color v.near p s v.far v.way (rw v.whole balanced))
