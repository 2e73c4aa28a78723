-- find, both bounds and entry: on well-formed arrays what a descent meets is the model's answer.
use Prim.Native.Nat.{ℕ, ◌≤◌, ◌<◌}
use borrow.Author.Tests.{le-leb, lt-leb}
use mathlib.Core.Option.{some}
use mathlib.Core.Path.{◌≡◌, refl, sym, ◌∙◌}
use Rattle.model.specs.Tree.{Side, lft, rgt, Tree}
use Rattle.model.specs.Lent.{Lent, key_of, tree_of}
use Rattle.model.specs.WellFormed.{WellFormed}
use Rattle.model.specs.Descent.{Landing, entry_for}
use Rattle.model.specs.Commands.{find}
use Rattle.model.specs.Answers.{outcome, done, kind_test, refusal}
use Rattle.model.specs.Operations.{tell, accept, operate}
use Rattle.theory.proofs.Holds.{well_holds}
use Rattle.theory.proofs.Operate.{operate_accepted, tests_find, tests_lower, tests_upper}
use Rattle.descent.specs.declared.types.Met.{Met}
use Rattle.descent.specs.declared.types.Sought.{Sought}
use Rattle.descent.specs.Entries.{entry_told}
use Rattle.descent.specs.Searches.{Searchable, bound_landing, bound_slot, MetAt, FoundKey, FoundBound, FoundEntry}
use Rattle.descent.proofs.Trees.{holds_searchable, find_holds, bound_holds, entry_holds}
use Rattle.refusals.proofs.Callers.{answer_refused}
use native.Mathlib.Omega.{arith}
use Rattle.std.proofs.Common.{Ok, Err}
use Rattle.std.specs.declared.ops.Bound.{Bound}
use Rattle.links.specs.declared.types.Key.{Key}
use Rattle.links.specs.declared.types.Refusal.{Refusal}
use Rattle.links.specs.Outcomes.{refusal_code, outcome_of}
use Rattle.descent.specs.Bounds.{kind_of, key_in, bound_of}
use Rattle.descent.proofs.Bounding.{bound_numbers}
use Rattle.links.specs.declared.types.Refusal.TheVariants.{BadRecord}
use Rattle.queries.specs.Queries.{BoundTested, bound_command}

-- what a descent tells of the place where it ends, as an answer
met_told : {e : Landing} {slot : ℕ} {met : Met} → MetAt e slot met → (m : Lent)
    → outcome done met.probes met.slot.0 m ≡ tell (λ _. slot) e m
unfolding tell
met_told found m = rw (found.slot_is, found.probes_is)

-- ---- the kinds

-- there is such a kind, and its bound is answered; or there is none
pub bound_known : (kind n k : ℕ) → kind ≡ n → n ≤ 2 → BoundTested kind k (Ok (bound_of n k))
unfolding kind_test
bound_known kind n k e top = record { is = rw (le-leb kind 2 (omega (arith, e, top))); bound_is = rw e refl }

pub kind_unknown : (kind k : ℕ) → 2 < kind → BoundTested kind k (Err BadRecord)
unfolding kind_test
kind_unknown kind k over = record { is = rw (lt-leb kind 2 over); bound_is = tt }

-- ---- the bounds in the model: the kind is tested, and the descent of the side is told

tests_bound : (d : Side) (m : Lent) (kind k : ℕ) → refusal (bound_command d kind k) m ≡ kind_test (some kind)
tests_bound lft m kind k = tests_lower m kind k
tests_bound rgt m kind k = tests_upper m kind k

accept_bound : (d : Side) (key : ℕ → ℕ) (t : Tree) (m : Lent) (kind k : ℕ)
    → accept (bound_command d kind k) key t m ≡ tell (bound_slot d) (bound_landing d key kind k t) m
unfolding accept
accept_bound lft key t m kind k = refl
accept_bound rgt key t m kind k = refl

-- ---- what each operation asks for and promises

module _ {m : Lent} (well : WellFormed m) where
  -- what every descent asks for
  pub searchable : Searchable m.arrays.left m.arrays.right m.arrays.key m.root
  searchable = holds_searchable (well_holds m well)

  -- what find and entry promise
  pub find_answered : {k : ℕ} {met : Met} → FoundKey m.arrays.left m.arrays.right m.arrays.key m.root k met
      → outcome done met.probes met.slot.0 m ≡ operate (find k) m
  unfolding accept tell
  find_answered {k} found =
      let h = well_holds m well in
      rw (operate_accepted h (find k) (tests_find m k)) (met_told (find_holds h found) m)

  pub entry_found : {k : ℕ} {sought : Sought}
      → FoundEntry m.arrays.left m.arrays.right m.arrays.key m.root k sought
      → entry_told sought.entry ≡ entry_for (key_of m.arrays) k (tree_of m)
  entry_found found = entry_holds (well_holds m well) found

  -- what either bound promises where its kind is one
  pub bound_answered : (d : Side) (kind k : ℕ) {bound : Bound Key} {met : Met} → done ≡ kind_test (some kind)
      → bound ≡ bound_of kind k
      → FoundBound m.arrays.left m.arrays.right m.arrays.key m.root d (kind_of bound) (key_in bound) met
      → outcome done met.probes met.slot.0 m ≡ operate (bound_command d kind k) m
  unfolding tell
  bound_answered d kind k tested is found =
      let h = well_holds m well in
      rw (operate_accepted h (bound_command d kind k) (tests_bound d m kind k ∙ sym tested), accept_bound)
      (met_told (bound_holds h d (bound_numbers d kind k (rw is at found))) m)

-- and where it is none
pub bound_refused : (d : Side) (m : Lent) (kind k : ℕ) (why : Refusal) → refusal_code why ≡ kind_test (some kind)
    → outcome_of (Err why) m ≡ operate (bound_command d kind k) m
bound_refused d m kind k why tested =
    answer_refused (bound_command d kind k) m why (tested ∙ sym (tests_bound d m kind k))
