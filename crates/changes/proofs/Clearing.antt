-- clear: the promise.
use Prim.Native.Nat.{ℕ}
use mathlib.Core.List.{List}
use mathlib.Core.Path.{◌≡◌, refl}
use Rattle.model.specs.Limits.{depth_limit}
use Rattle.model.specs.Lent.{Lent, lent}
use Rattle.model.specs.WellFormed.{WellFormed}
use Rattle.model.specs.Commands.{clear}
use Rattle.model.specs.Answers.{outcome, done}
use Rattle.model.specs.Operations.{accept, operate}
use Rattle.theory.specs.Links.{links_of}
use Rattle.theory.specs.Places.{Made}
use Rattle.theory.specs.Programs.{clear_all}
use Rattle.theory.proofs.Holds.{well_holds}
use Rattle.theory.proofs.Operate.{tests_clear}
use Rattle.clearing.proofs.Trees.{clear_lent}
use Rattle.changes.proofs.Calls.{answer_done}

pub cleared : {m : Lent} → WellFormed m → {size : ℕ} {left' right' pc' : List ℕ} {root' : ℕ}
    → Made (clear_all depth_limit (links_of m)) size left' right' pc' root'
    → outcome done 0 0 (lent left' right' pc' m.arrays.key root') ≡ operate clear m
unfolding accept
cleared {m} well made =
    answer_done well clear (tests_clear m) (rw (clear_lent (well_holds m well) made) refl)
