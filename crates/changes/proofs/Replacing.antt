-- replace_with: what its calls ask for, and the promise.
use Prim.Native.Nat.{ℕ}
use mathlib.Core.Bool.{Bool, true, false}
use mathlib.Core.List.{List, Memᴰ}
use mathlib.Core.Path.{◌≡◌, refl, ap, ◌∙◌}
use native.Mathlib.Omega.{arith}
use Rattle.model.specs.Branch.{choose}
use Rattle.model.specs.Tree.{slots}
use Rattle.model.specs.Lent.{Lent, lent, key_of, tree_of}
use Rattle.model.specs.WellFormed.{WellFormed}
use Rattle.model.specs.Commands.{replace_with}
use Rattle.model.specs.Answers.{outcome, done, out_of_order, refused}
use Rattle.model.specs.Removal.{replaced}
use Rattle.model.specs.Operations.{accept, operate}
use Rattle.theory.specs.Links.{Links, links_of}
use Rattle.theory.specs.Places.{Made}
use Rattle.theory.specs.Programs.{replace_in}
use Rattle.theory.proofs.Drawings.{replace_drawing}
use Rattle.theory.proofs.Lists.{member_count}
use Rattle.theory.proofs.Holds.{well_holds}
use Rattle.theory.proofs.HoldsDrawn.{holds_drawn, holds_bounded}
use Rattle.theory.proofs.Operate.{tests_replace, placed_replace}
use Rattle.links.specs.Reads.{SlotOf}
use Rattle.links.specs.Writes.{SetKey}
use Rattle.turns.specs.Turns.{ReplaceWithPre}
use Rattle.refusals.specs.Tested.{PositionTested, SlotTested}
use Rattle.placing.specs.Positions.{Stands, Free, Fits}
use Rattle.placing.proofs.Positions.{free_count, free_key}
use Rattle.placing.proofs.Hanging.{placed_lent}
use Rattle.changes.proofs.Positions.{position_refused, slot_refused, position_stands, position_node}
use Rattle.changes.proofs.Positions.{position_free, position_decided}
use Rattle.std.proofs.Common.{Err}
use Rattle.links.specs.declared.types.Refusal.{Refusal}
use Rattle.links.specs.Outcomes.{refusal_code, outcome_of}

-- the position or the slot is refused
module _ {m : Lent} {p : ℕ} (s k : ℕ) (why : Refusal) where
  pub replace_refused : PositionTested true m.arrays.pc p (refusal_code why)
      → outcome_of (Err why) m ≡ operate (replace_with p s k) m
  replace_refused = position_refused (replace_with p s k) m s (tests_replace m p s k) why

  pub replace_slot_refused : PositionTested true m.arrays.pc p done → SlotTested m.arrays.pc s (refusal_code why)
      → outcome_of (Err why) m ≡ operate (replace_with p s k) m
  replace_slot_refused = slot_refused (replace_with p s k) m s (tests_replace m p s k) why

module _ {m : Lent} {p s : ℕ} (well : WellFormed m) (position : PositionTested true m.arrays.pc p done)
    (slot : SlotTested m.arrays.pc s done) where
  -- what its calls ask for
  pub replace_stands : Stands m p
  replace_stands = position_stands well position slot

  here : Memᴰ p (slots (tree_of m))
  here = position_node well position slot refl

  free : Free m s
  free = position_free well position slot

  pub replace_pre : ReplaceWithPre m.arrays.left m.arrays.right m.arrays.pc m.root p s
  replace_pre =
      let sound = (well_holds m well).sound in
      let some = member_count (tree_of m) p here in
      record {
        bounded = holds_bounded (well_holds m well);
        old_low = sound.low p some;
        old_high = omega (arith, sound.high p some, well.w1.lengths.left);
        new_low = free.low;
        new_high = omega (arith, free.high, well.w1.lengths.left);
      }

  pub replace_key : SlotOf m.arrays.key s
  replace_key = free_key free well

  module _ {k : ℕ} {fits : Bool} (test : Fits m p k fits) where
    decided : {b : Bool} → fits ≡ b
        → choose b
        (λ _. accept (replace_with p s k) (key_of m.arrays) (tree_of m) m)
        (λ _. refused out_of_order m) ≡ operate (replace_with p s k) m
    decided {b} e =
        position_decided (replace_with p s k) m s (tests_replace m p s k) position slot well b
        (placed_replace (well_holds m well) p s k free.absent here ∙ rw (← test.is, e))

    -- the key is refused
    pub replace_out_of_order : fits ≡ false → refused out_of_order m ≡ operate (replace_with p s k) m
    replace_out_of_order f = decided f

    -- done
    pub replaced_done : {size : ℕ} {left' right' pc' key' : List ℕ} {root' : ℕ} → fits ≡ true
        → Made (replace_in (links_of m) p s) size left' right' pc' root' → SetKey m.arrays.key s k key'
        → outcome done 0 s (lent left' right' pc' key' root') ≡ operate (replace_with p s k) m
    unfolding accept
    replaced_done f made stored =
        let h = well_holds m well in
        rw (placed_lent m (replaced p s (tree_of m))
        (made.is ∙ ap (λ (z : Links). replace_in z p s) (holds_drawn h).is
        ∙ replace_drawing (tree_of m) h.sound p s here free.low (free_count free))
        stored) (decided f)
