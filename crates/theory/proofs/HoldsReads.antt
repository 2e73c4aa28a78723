-- What arrays that hold a tree say of each slot: whether it is linked.
use Prim.Native.Nat.{ℕ, ◌≤◌, ◌<◌}
use native.Mathlib.Omega.{arith}
use native.Mathlib.Decide.{dec_le}
use mathlib.Core.Bool.{true}
use mathlib.Core.List.{Memᴰ}
use mathlib.Core.Path.{◌≡◌}
use lib.Dec.{eqb}
use lib.ListN.{get_or-eq_default}
use borrow.Author.Tests.{eqb-false, ne_eqb, not-true}
use Rattle.model.specs.Tree.{Tree, slots}
use Rattle.model.specs.Lent.{Arrays, Lent, Linked, at, capacity, pc_of}
use Rattle.model.specs.Lent.{is_linked}
use Rattle.theory.specs.Sound.{count}
use Rattle.theory.specs.Holds.{Holds}
use Rattle.theory.proofs.Lists.{count_member, member_count}
use Rattle.theory.proofs.Levels.{hangs_linked}
use Rattle.theory.proofs.Hung.{holds_hung}
use Rattle.theory.proofs.Well.{hung_linked}

-- ---- linked, as a test and as a fact: slot 0 shares its numbers with slot 1, so a test of it says nothing

pub linked_true : {a : Arrays} {s : ℕ} → Linked a s → is_linked a s ≡ true
unfolding is_linked
linked_true {a} {s} k = rw (ne_eqb (pc_of a s) 0 (omega (arith, k.marked)))

-- past the end no slot is linked
past_end : (a : Arrays) (s : ℕ) → capacity a < s → pc_of a s ≡ 0
unfolding pc_of at capacity
past_end a s high = get_or-eq_default a.pc 0 (omega arith)

pub true_linked : {a : Arrays} {s : ℕ} → 0 < s → is_linked a s ≡ true → Linked a s
unfolding is_linked
true_linked {a} {s} low e = record {
  positive = low;
  fits = fits (dec_le s (capacity a));
  marked = omega (arith, marked);
}
  where
    marked : pc_of a s ≡ 0 → ⊥
    marked = eqb-false (pc_of a s) 0 (not-true (eqb (pc_of a s) 0) e)

    fits : Dec (s ≤ capacity a) → s ≤ capacity a
    fits (yes k) = k
    fits (no k) = absurd (marked (past_end a s (omega arith)))

-- ---- the linked slots are those of the tree

module _ {m : Lent} {t : Tree} (h : Holds m t) where
  pub linked_count_lem : (s : ℕ) → Linked m.arrays s → count t s ≡ 1
  linked_count_lem s k = omega (arith, h.sound.once s, hung_linked m t (holds_hung h) s k)

  pub count_linked : (s : ℕ) → count t s ≡ 1 → Linked m.arrays s
  count_linked s e = hangs_linked m.arrays 0 m.root t s (holds_hung h).hangs (omega arith)

  pub linked_in : (s : ℕ) → Linked m.arrays s → Memᴰ s (slots t)
  linked_in s k = count_member t s (omega (arith, linked_count_lem s k))

  pub in_linked : (s : ℕ) → Memᴰ s (slots t) → Linked m.arrays s
  in_linked s k = count_linked s (omega (arith, h.sound.once s, member_count t s k))
