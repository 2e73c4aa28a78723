-- Demand 2 for batches: on well-formed arrays a batch is its records run one after another as single calls, and it
-- leaves well-formed arrays.
use Prim.Native.Nat.{ℕ, zero, suc}
use mathlib.Core.Path.{◌≡◌, refl, ap, ap₂, sym, ◌∙◌}
use mathlib.Core.Bool.{false}
use mathlib.Core.List.{List}
use mathlib.Core.Option.{Option, none, some}
use lib.ListN.{take, drop}
use Rattle.model.specs.Limits.{record_size}
use Rattle.model.specs.Lent.{Lent}
use Rattle.model.specs.WellFormed.{WellFormed}
use Rattle.model.specs.Commands.{Command}
use Rattle.model.specs.Answers.{Outcome}
use Rattle.model.specs.Operations.{operate, perform}
use Rattle.model.specs.Batch.{record_of, command_of, obey, Run, join_run, add_answer, run_records, filled, records}
use Rattle.model.specs.Batch.{answer_bytes, bad_length_of, is_short, batch}
use Rattle.theory.proofs.Check.{check_complete}
use Rattle.theory.proofs.Demands.{perform_well}

module _ {m : Lent} (well : WellFormed m) where
  -- past the check a single call is the operation
  pub perform_operate : (c : Command) → perform c m ≡ operate c m
  unfolding perform
  perform_operate c = rw (check_complete m well)

  -- one record
  pub obey_single : (o : Option Command) → obey operate o m ≡ obey perform o m
  unfolding obey
  obey_single none = refl
  obey_single (some c) = sym (perform_operate c)

  pub obey_well : (o : Option Command) → WellFormed (obey operate o m).after
  unfolding obey
  obey_well none = well
  obey_well (some c) = rw (← perform_operate c) (perform_well well c)

-- any number of records
pub run_single : (n : ℕ) (input : List ℕ) {m : Lent} → WellFormed m
    → run_records operate n input m ≡ run_records perform n input m
unfolding run_records add_answer
run_single zero input well = refl
run_single (suc n) input {m} well =
    let o = command_of (record_of (take record_size input)) in
    ap₂ (λ (p : Outcome) (rest : Run). join_run (answer_bytes p.answer) rest) (obey_single well o)
    (run_single n (drop record_size input) (obey_well well o)
    ∙ ap (λ (p : Outcome). run_records perform n (drop record_size input) p.after) (obey_single well o))

-- the batch call, where it is not refused as a whole
pub batch_single : (input buffer : List ℕ) {m : Lent} → WellFormed m
    → bad_length_of input ≡ false → is_short input buffer ≡ false
    → batch input buffer m ≡ filled (records input) (run_records perform (records input) input m) buffer
unfolding batch
batch_single input buffer {m} well fits room =
    rw (fits, room, check_complete m well, run_single (records input) input well)

pub run_well : (n : ℕ) (input : List ℕ) {m : Lent} → WellFormed m → WellFormed (run_records operate n input m).after
unfolding run_records add_answer join_run
run_well zero input well = well
run_well (suc n) input well =
    run_well n (drop record_size input) (obey_well well (command_of (record_of (take record_size input))))
