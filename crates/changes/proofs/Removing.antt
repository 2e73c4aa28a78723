-- remove: what its calls ask for, and the promise.
use Prim.Native.Nat.{ℕ}
use mathlib.Core.Bool.{true}
use Rattle.std.proofs.Common.{Err}
use mathlib.Core.List.{List, Memᴰ}
use mathlib.Core.Logic.{inr, ⊎_elim}
use mathlib.Core.Option.{some}
use mathlib.Core.Path.{◌≡◌, refl, sym, ◌∙◌}
use lib.ListN.{length}
use Rattle.model.specs.Tree.{rgt, slots}
use Rattle.model.specs.Lent.{Lent, lent, tree_of}
use Rattle.model.specs.WellFormed.{WellFormed}
use Rattle.model.specs.Commands.{remove}
use Rattle.model.specs.Answers.{outcome, done, position_test}
use Rattle.model.specs.Operations.{accept, operate}
use Rattle.theory.specs.Links.{links_of}
use Rattle.theory.specs.Places.{Made}
use Rattle.theory.specs.Programs.{remove_at}
use Rattle.theory.proofs.Branch.{clash}
use Rattle.theory.proofs.Tests.{position_done}
use Rattle.theory.proofs.Holds.{well_holds}
use Rattle.theory.proofs.HoldsReads.{linked_in}
use Rattle.theory.proofs.Operate.{tests_remove}
use Rattle.removal.specs.Removals.{Removable}
use Rattle.removal.proofs.Trees.{remove_asked, remove_lent}
use Rattle.refusals.specs.Tested.{PositionTested}
use Rattle.refusals.proofs.Callers.{answer_refused}
use Rattle.placing.specs.Positions.{Stands}
use Rattle.placing.proofs.Positions.{Stepped, step_found}
use Rattle.links.specs.declared.types.Refusal.{Refusal}
use Rattle.links.specs.Outcomes.{refusal_code, outcome_of}
use Rattle.changes.proofs.Calls.{answer_done}

-- the position is refused
pub remove_refused : {m : Lent} {p : ℕ} (why : Refusal) → PositionTested true m.arrays.pc p (refusal_code why)
    → outcome_of (Err why) m ≡ operate (remove p) m
remove_refused {m} {p} why test = answer_refused (remove p) m why (test.is m.arrays refl ∙ sym (tests_remove m p))

module _ {m : Lent} {p : ℕ} (well : WellFormed m) (test : PositionTested true m.arrays.pc p done) where
  tested : done ≡ position_test true (some p) m.arrays
  tested = test.is m.arrays refl

  here : Memᴰ p (slots (tree_of m))
  here =
      ⊎_elim (λ n. clash (sym n.1)) (λ linked. linked_in (well_holds m well) p linked)
      (position_done true (some p) m.arrays (sym tested) p refl)

  -- what its calls ask for
  pub remove_stands : Stands m p
  remove_stands = record { well = well; here = inr here }

  pub remove_pre : Removable m.arrays.left m.arrays.right m.arrays.pc m.root p
  remove_pre = remove_asked (well_holds m well) here

  -- done
  pub removed_done : {n size : ℕ} {left' right' pc' : List ℕ} {root' : ℕ} → Stepped rgt m p n
      → Made (remove_at (length m.arrays.left) (links_of m) p) size left' right' pc' root'
      → outcome done 0 n (lent left' right' pc' m.arrays.key root') ≡ operate (remove p) m
  unfolding accept
  removed_done next made =
      answer_done well (remove p) (tests_remove m p ∙ sym tested)
      (rw (remove_lent (well_holds m well) here made, step_found rgt remove_stands next))
