-- The answer of a batch call as the model has it.
use Rattle.std.specs.Prelude.{ℕ, List, Result}
use Rattle.std.specs.Result.{result_unwrap_or}
use Rattle.model.specs.Lent.{Lent}
use Rattle.model.specs.Batch.{BatchOutcome}
use Rattle.links.specs.Outcomes.{verdict}
use Rattle.links.specs.declared.types.Refusal.{Refusal}

-- its code and how many answers there are, none where it is refused whole; the buffer and the lent numbers after it
abbrev pub batch_told : Result ℕ Refusal → (buffer : List ℕ) → Lent → BatchOutcome
batch_told r buffer m = record { code = verdict r; count = result_unwrap_or r 0; buffer = buffer; after = m }
