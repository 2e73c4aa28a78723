-- The tests keep their promises: a law for each way that a test ends.
use Prim.Native.Nat.{ℕ, ◌≤◌, ◌<◌}
use native.Mathlib.Omega.{arith}
use mathlib.Core.Path.{◌≡◌, ◌∙◌}
use mathlib.Core.Bool.{Bool, true, false}
use mathlib.Core.List.{List}
use lib.Dec.{leb, eqb}
use lib.ListN.{length}
use borrow.Author.Tests.{eq-eqb, ne_eqb, lt-ltb, le-ltb}
use Rattle.model.specs.Branch.{choose}
use Rattle.model.specs.Lent.{Arrays, capacity, pc_of, is_linked}
use Rattle.model.specs.Answers.{Code, done, bad_slot, already_linked, not_linked, null_cursor}
use Rattle.model.specs.Answers.{position_test, slot_test}
use Rattle.theory.specs.Between.{up_to, from_on, between}
use Rattle.links.specs.Reads.{linked_at, GotLinked}
use Rattle.refusals.specs.Tested.{PositionTested, SlotTested}

-- what is_linked tells of pc, the model tells of the arrays
linked_is : (a : Arrays) {pc : List ℕ} {s : ℕ} {linked : Bool} → a.pc ≡ pc → GotLinked pc s linked
    → is_linked a s ≡ linked
unfolding is_linked pc_of linked_at
linked_is a same g = rw (same, g.is)

-- ---- the position: 0, past the last slot, linked, not linked

module _ {needed : Bool} {pc : List ℕ} {p : ℕ} where
  pub position_null : p ≡ 0 → PositionTested needed pc p (choose needed (λ _. null_cursor) (λ _. done))
  unfolding position_test
  position_null e = record { is = λ a _. rw (le-ltb (capacity a) p (omega arith), eq-eqb p 0 e) }

  pub position_past : length pc < p → PositionTested needed pc p bad_slot
  unfolding position_test capacity
  position_past over = record { is = λ a same. rw (same, lt-ltb (length pc) p over) }

  position_at : {linked : Bool} → (p ≡ 0 → ⊥) → p ≤ length pc → GotLinked pc p linked
      → PositionTested needed pc p (choose linked (λ _. done) (λ _. not_linked))
  unfolding position_test capacity
  position_at apart top g =
      record { is = λ a same. rw (linked_is a same g, same, le-ltb (length pc) p top, ne_eqb p 0 apart) }

  pub position_linked : {linked : Bool} → (p ≡ 0 → ⊥) → p ≤ length pc → GotLinked pc p linked → linked ≡ true
      → PositionTested needed pc p done
  position_linked apart top g e = rw e at (position_at apart top g)

  pub position_free : {linked : Bool} → (p ≡ 0 → ⊥) → p ≤ length pc → GotLinked pc p linked → linked ≡ false
      → PositionTested needed pc p not_linked
  position_free apart top g e = rw e at (position_at apart top g)

-- Only at 0 does it matter whether a node is needed.
pub position_node : {needed : Bool} {pc : List ℕ} {p : ℕ} {code : Code} → (p ≡ 0 → ⊥)
    → PositionTested false pc p code → PositionTested needed pc p code
unfolding position_test
position_node {p = p} apart t = record { is = λ a same. t.is a same ∙ rw (ne_eqb p 0 apart) }

-- ---- the new slot: linked, free

module _ {pc : List ℕ} {s : ℕ} where
  slot_at : {linked : Bool} → (s ≡ 0 → ⊥) → s ≤ length pc → GotLinked pc s linked
      → SlotTested pc s (choose linked (λ _. already_linked) (λ _. done))
  unfolding slot_test capacity
  slot_at apart top g =
      record { is = λ a same. rw (linked_is a same g, same, le-ltb (length pc) s top, ne_eqb s 0 apart) }

  pub slot_linked : {linked : Bool} → (s ≡ 0 → ⊥) → s ≤ length pc → GotLinked pc s linked → linked ≡ true
      → SlotTested pc s already_linked
  slot_linked apart top g e = rw e at (slot_at apart top g)

  pub slot_free : {linked : Bool} → (s ≡ 0 → ⊥) → s ≤ length pc → GotLinked pc s linked → linked ≡ false
      → SlotTested pc s done
  slot_free apart top g e = rw e at (slot_at apart top g)

-- ---- the keys beside a place: there is no slot, or its key is compared

module _ (key : ℕ → ℕ) (s k : ℕ) where
  pub up_to_none : s ≡ 0 → eqb s 0 ≡ up_to key s k
  unfolding up_to
  up_to_none e = rw (eq-eqb s 0 e)

  pub up_to_key : {found : ℕ} {told : Bool} → (s ≡ 0 → ⊥) → found ≡ key s → told ≡ leb found k → told ≡ up_to key s k
  unfolding up_to
  up_to_key apart e is = is ∙ rw (ne_eqb s 0 apart, e)

  pub from_on_none : s ≡ 0 → eqb s 0 ≡ from_on key s k
  unfolding from_on
  from_on_none e = rw (eq-eqb s 0 e)

  pub from_on_key : {found : ℕ} {told : Bool} → (s ≡ 0 → ⊥) → found ≡ key s → told ≡ leb k found
      → told ≡ from_on key s k
  unfolding from_on
  from_on_key apart e is = is ∙ rw (ne_eqb s 0 apart, e)

-- Where the earlier key is too large the later one is not asked, else it decides.
module _ (key : ℕ → ℕ) (earlier k later : ℕ) {low : Bool} where
  pub between_refused : low ≡ up_to key earlier k → low ≡ false → low ≡ between key earlier k later
  unfolding between
  between_refused e f = rw (← e, f)

  pub between_passed : {high : Bool} → low ≡ up_to key earlier k → low ≡ true → high ≡ from_on key later k
      → high ≡ between key earlier k later
  unfolding between
  between_passed e f g = rw (← e, f) g
