-- What the numbers of an answer say, in the model's terms.
use Rattle.std.specs.Prelude.{ℕ, ◌+◌, ◌≤◌, ◌≡◌, Bool, true, false, Result, List, length, take, drop}
use Rattle.std.specs.Result.{result_unwrap_or}
use Rattle.model.specs.Lent.{Lent}
use Rattle.model.specs.Answers.{code_number, done, damaged, Outcome}
use Rattle.model.specs.Batch.{BatchOutcome}
use Rattle.model.specs.Codes.{Reading, drop_spaces, read_line}
use Rattle.links.specs.Outcomes.{told, verdict}
use Rattle.links.specs.declared.types.Done.{Done}
use Rattle.links.specs.declared.types.Key.{Key}
use Rattle.links.specs.declared.types.Refusal.{Refusal}
use Rattle.codes.specs.Reading.{code_of, key_of}
use Rattle.exports.specs.declared.types.Reply.{Reply}
use Rattle.exports.specs.declared.types.BatchReply.{BatchReply}
use Rattle.exports.specs.declared.types.LineKey.{LineKey}
use Rattle.exports.specs.declared.types.LinePart.{LinePart}

-- r has the numbers of an answer.
pub record Says (a : Result Done Refusal) (r : Reply) : Type 0 where
  pub code : r.code ≡ code_number (told a).code
  pub probes : r.probes ≡ (told a).probes
  pub slot : r.slot ≡ (told a).slot

-- r has the numbers of what a batch answers: a refused one has no answers.
pub record Counts (a : Result ℕ Refusal) (r : BatchReply) : Type 0 where
  pub code : r.code ≡ code_number (verdict a)
  pub count : r.count ≡ result_unwrap_or a 0

-- r has the numbers of what a line is read as.
pub record Keys (a : Result Key Refusal) (r : LineKey) : Type 0 where
  pub code : r.code ≡ code_number (code_of a)
  pub key : r.key ≡ key_of a

-- The answer and the lent numbers after the call are those of an outcome.
pub record Told (r : Reply) (m : Lent) (o : Outcome) : Type 0 where
  pub code : r.code ≡ code_number o.answer.code
  pub probes : r.probes ≡ o.answer.probes
  pub slot : r.slot ≡ o.answer.slot
  pub after : m ≡ o.after

-- The answer of a batch, the bytes of the answers' buffer and the lent numbers after it are those of an outcome.
pub record BatchTold (r : BatchReply) (buffer : List ℕ) (m : Lent) (o : BatchOutcome) : Type 0 where
  pub code : r.code ≡ code_number o.code
  pub count : r.count ≡ o.count
  pub bytes : buffer ≡ o.buffer
  pub after : m ≡ o.after

-- what the check alone answers: Done or Damaged
abbrev pub check_number : Bool → ℕ
check_number true = code_number done
check_number false = code_number damaged

-- The code and the key are those of a reading.
pub record LineTold (r : LineKey) (reading : Reading) : Type 0 where
  pub code : r.code ≡ code_number reading.code
  pub key : r.key ≡ reading.key

-- The part lies in the line, behind the spaces at its start, and its bytes are those that the line is read as.
pub record PartTold (r : LinePart) (line : List ℕ) : Type 0 where
  pub within : r.start + r.length ≤ length line
  pub starts : drop r.start line ≡ drop_spaces line
  pub is : take r.length (drop r.start line) ≡ (read_line line).part
