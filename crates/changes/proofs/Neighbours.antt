-- insert_beside: what its calls ask for, and the promise.
use Prim.Native.Nat.{ℕ, ◌≤◌}
use mathlib.Core.Bool.{false}
use Rattle.std.proofs.Common.{Err}
use mathlib.Core.List.{Memᴰ}
use mathlib.Core.Logic.{◌⊎◌}
use mathlib.Core.Path.{◌≡◌, ◌∙◌}
use native.Mathlib.Omega.{arith}
use lib.ListN.{length}
use Rattle.model.specs.Branch.{choose}
use Rattle.model.specs.Tree.{Side, lft, rgt, Tree, opp, slots}
use Rattle.model.specs.Lent.{Lent, key_of, tree_of}
use Rattle.model.specs.WellFormed.{WellFormed}
use Rattle.model.specs.Order.{next_in, prev_in}
use Rattle.model.specs.Hanging.{hang}
use Rattle.model.specs.Answers.{Outcome, outcome, done, out_of_order, placed_test, then_test}
use Rattle.model.specs.Answers.{refusal}
use Rattle.model.specs.Operations.{with_placed, accept, operate}
use Rattle.theory.specs.Between.{both_test, between}
use Rattle.theory.specs.Lists.{facing, place_next}
use Rattle.theory.proofs.Holds.{well_holds}
use Rattle.theory.proofs.Positions.{place_next_plug, place_after_next, place_before_next}
use Rattle.theory.proofs.Operate.{tests_after, tests_before, placed_after, placed_before}
use Rattle.refusals.specs.Tested.{PositionTested, SlotTested, Beside}
use Rattle.placing.specs.declared.types.Gap.{Gap}
use Rattle.placing.specs.Positions.{Stands, Free}
use Rattle.placing.specs.Places.{earlier_of, GapAt, InsertPre, InsertedIn}
use Rattle.placing.proofs.Positions.{slot_high}
use Rattle.placing.proofs.Besides.{next_slot}
use Rattle.changes.proofs.Positions.{position_refused, slot_refused, position_stands, position_free}
use Rattle.changes.proofs.Positions.{position_decided}
use Rattle.links.specs.declared.types.Refusal.{Refusal}
use Rattle.links.specs.Outcomes.{refusal_code, outcome_of}
use Rattle.changes.specs.Changes.{insert_next}

tests_next : (d : Side) (m : Lent) (p s k : ℕ) → refusal (insert_next d p s k) m
    ≡ then_test (both_test false p s m.arrays) (λ _. placed_test (insert_next d p s k) m)
tests_next lft m p s k = tests_before m p s k
tests_next rgt m p s k = tests_after m p s k

accepts_next : (d : Side) (p s k : ℕ) (key : ℕ → ℕ) (t : Tree) (m : Lent)
    → accept (insert_next d p s k) key t m ≡ outcome done 0 s (with_placed (hang s (place_next d p t)) s k m)
unfolding accept
accepts_next lft p s k key t m = rw (place_before_next p t)
accepts_next rgt p s k key t m = rw (place_after_next p t)

-- a bound of both slots bounds the one that stands earlier
earlier_below : (d : Side) {p n bound : ℕ} → p ≤ bound → n ≤ bound → earlier_of d p n ≤ bound
earlier_below lft first second = second
earlier_below rgt first second = first

-- the position or the slot is refused
module _ {m : Lent} {p : ℕ} (s : ℕ) (d : Side) (k : ℕ) (why : Refusal) where
  pub next_refused : PositionTested false m.arrays.pc p (refusal_code why)
      → outcome_of (Err why) m ≡ operate (insert_next d p s k) m
  next_refused = position_refused (insert_next d p s k) m s (tests_next d m p s k) why

  pub next_slot_refused : PositionTested false m.arrays.pc p done → SlotTested m.arrays.pc s (refusal_code why)
      → outcome_of (Err why) m ≡ operate (insert_next d p s k) m
  next_slot_refused = slot_refused (insert_next d p s k) m s (tests_next d m p s k) why

module _ {m : Lent} {p s : ℕ} (well : WellFormed m) (position : PositionTested false m.arrays.pc p done)
    (slot : SlotTested m.arrays.pc s done) where
  pub next_stands : Stands m p
  next_stands = position_stands well position slot

  free : Free m s
  free = position_free well position slot

  placed_next : (d : Side) (k : ℕ) → let n = next_in p (facing d (slots (tree_of m))) in
      placed_test (insert_next d p s k) m
      ≡ choose (between (key_of m.arrays) (earlier_of d p n) k (earlier_of (opp d) p n))
      (λ _. done) (λ _. out_of_order)
  unfolding prev_in
  placed_next lft k = placed_before (well_holds m well) p s k free.absent next_stands.here
  placed_next rgt k = placed_after (well_holds m well) p s k free.absent next_stands.here

  slot_key : (x : ℕ) → (x ≡ 0) ⊎ Memᴰ x (slots (tree_of m)) → x ≤ length m.arrays.key
  slot_key x here = omega (arith, slot_high x well here, well.w1.lengths.key)

  next_beside : (d : Side) → let n = next_in p (facing d (slots (tree_of m))) in
      Beside m.arrays.key (earlier_of d p n) (earlier_of (opp d) p n)
  next_beside d =
      let first = slot_key p next_stands.here in
      let second = slot_key _ (next_slot d p (tree_of m)) in
      record { earlier_top = earlier_below d first second; later_top = earlier_below (opp d) first second }

  module _ {d : Side} {g : Gap} (gap : GapAt d m p g) where
    pub next_pre : InsertPre m g s
    next_pre =
        record {
          place = record {
            well = well;
            way = place_next d p (tree_of m);
            whole = place_next_plug d p (tree_of m) (well_holds m well).sound next_stands.here;
            there = gap.there;
            free = free;
          };
          beside = rw (gap.earlier_is, gap.later_is) (next_beside d);
        }

    pub next_inserted : {k : ℕ} {o : Outcome} → InsertedIn m g s k o → o ≡ operate (insert_next d p s k) m
    unfolding next_pre
    next_inserted {k} into =
        let n = next_in p (facing d (slots (tree_of m))) in
        into.is next_pre.place
        ∙ rw (
          gap.earlier_is,
          gap.later_is,
          ← accepts_next d p s k (key_of m.arrays) (tree_of m) m,
        )
        (position_decided (insert_next d p s k) m s (tests_next d m p s k) position slot well
        (between (key_of m.arrays) (earlier_of d p n) k (earlier_of (opp d) p n)) (placed_next d k))
