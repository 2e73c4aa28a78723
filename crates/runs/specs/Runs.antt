-- What the functions over the records of a batch require, and what they leave, in the model's terms.
use Rattle.std.specs.Prelude.{ℕ, ◌+◌, ◌*◌, ◌≤◌, ◌≡◌, List, ◌++◌, length, take, drop}
use Rattle.model.specs.Limits.{record_size, answer_size, batch_limit}
use Rattle.model.specs.Lent.{Lent}
use Rattle.model.specs.WellFormed.{WellFormed}
use Rattle.model.specs.Answers.{Outcome}
use Rattle.model.specs.Operations.{operate}
use Rattle.model.specs.Batch.{record_of, command_of, obey, answer_bytes, run_records}
use Rattle.records.specs.Records.{Lays}

-- the outcome of the record at an index
unfoldable pub record_at : (index : ℕ) → (input : List ℕ) → Lent → Outcome
record_at index input m = obey operate (command_of (record_of (take record_size (drop (record_size * index) input)))) m

-- answer_at: the arrays are well formed, and both the record and its answer lie within
pub record AtPre (index : ℕ) (input buffer : List ℕ) (m : Lent) : Type 0 where
  pub well : WellFormed m
  pub small : record_size * index ≤ batch_limit
  pub inside : record_size * index + record_size ≤ length input
  pub room : answer_size * index + answer_size ≤ length buffer

pub record AnsweredAt (index : ℕ) (input buffer buffer' : List ℕ) (m m' : Lent) : Type 0 where
  pub after : m' ≡ (record_at index input m).after
  pub laid : Lays (answer_size * index) answer_size (answer_bytes (record_at index input m).answer) buffer buffer'

-- answer_all
pub record AllPre (count : ℕ) (input buffer : List ℕ) (m : Lent) : Type 0 where
  pub well : WellFormed m
  pub small : record_size * count ≤ batch_limit
  pub inside : record_size * count ≤ length input
  pub room : answer_size * count ≤ length buffer

pub record Ran (count : ℕ) (input buffer buffer' : List ℕ) (m m' : Lent) : Type 0 where
  pub after : m' ≡ (run_records operate count input m).after
  pub laid : buffer' ≡ (run_records operate count input m).bytes ++ drop (answer_size * count) buffer
