-- What the code's answers mean in the model: each refusal has its code there, and so its number.
use Rattle.std.specs.Prelude.{Result, Ok, Err}
use Rattle.model.specs.Answers as model
use Rattle.model.specs.Lent.{Lent}
use Rattle.links.specs.declared.types.Done.{Done}
use Rattle.links.specs.declared.types.Refusal.{Refusal}
use Rattle.links.specs.declared.types.Refusal.TheVariants.{Damaged, BadSlot, AlreadyLinked, NotLinked, OutOfOrder}
use Rattle.links.specs.declared.types.Refusal.TheVariants.{NullCursor, Stale, BadRecord, BadLength, Short, BadCode}

-- the number of r is `code_number (refusal_code r)`
abbrev pub refusal_code : Refusal → model.Code
refusal_code Damaged = model.damaged
refusal_code BadSlot = model.bad_slot
refusal_code AlreadyLinked = model.already_linked
refusal_code NotLinked = model.not_linked
refusal_code OutOfOrder = model.out_of_order
refusal_code NullCursor = model.null_cursor
refusal_code Stale = model.stale
refusal_code BadRecord = model.bad_record
refusal_code BadLength = model.bad_length
refusal_code Short = model.short
refusal_code BadCode = model.bad_code

-- what a test says: the first code, or why not
abbrev pub verdict : {A : Type 0} → Result A Refusal → model.Code
verdict (Ok _) = model.done
verdict (Err r) = refusal_code r

-- an answer as the model has it: a refusal has two zeros beside its code
abbrev pub told : Result Done Refusal → model.Answer
told (Ok d) = record { code = model.done; probes = d.probes; slot = d.slot.0 }
told (Err r) = record { code = refusal_code r; probes = 0; slot = 0 }

-- an answer, with the lent numbers after the call
abbrev pub outcome_of : Result Done Refusal → Lent → model.Outcome
outcome_of r m = record { answer = told r; after = m }
