-- What the readers and writers of records promise, in the model's terms.
use Rattle.std.specs.Prelude.{ℕ, ◌+◌, ◌^◌, ◌/◌, ◌%◌, ◌<◌, ◌≡◌, List, [], ◌∷◌, ◌++◌, length, take, drop}
use Rattle.model.specs.Batch as model
use Rattle.model.specs.Limits.{record_size}
use Rattle.records.specs.declared.types.Record.{Record}

-- The model's record of the same fields.
unfoldable pub record_in : Record → model.Record
record_in r = record {
  mark = r.mark;
  operation = r.operation;
  kind = r.kind;
  position = r.position.0;
  slot = r.slot.0;
  key = r.key.0;
}

-- r is the number of `size` bytes from an offset on, so it is below what they can say.
pub record ReadsField (at size : ℕ) (bytes : List ℕ) (r : ℕ) : Type 0 where
  pub is : r ≡ model.field at size bytes
  pub below : r < 256 ^ size

-- r is the command record that starts at an offset, and each field is below what its bytes can say.
pub record ReadsRecord (at : ℕ) (bytes : List ℕ) (r : Record) : Type 0 where
  pub is : record_in r ≡ model.record_of (take record_size (drop at bytes))
  pub mark : r.mark < 256 ^ 2
  pub operation : r.operation < 256
  pub kind : r.kind < 256
  pub position : r.position.0 < 256 ^ 2
  pub slot : r.slot.0 < 256 ^ 2
  pub key : r.key.0 < 256 ^ 8

-- The bytes of an answer whose code has a number.
abbrev pub answer_in : (code probes slot : ℕ) → List ℕ
answer_in code probes slot = 0x41 ∷ 0x4E ∷ code ∷ probes % 256 ∷ slot % 256 ∷ slot / 256 % 256 ∷ []

-- A list with `size` of its elements from an offset on replaced by values.
abbrev pub laid : (at size : ℕ) → (values before : List ℕ) → List ℕ
laid at size values before = take at before ++ (values ++ drop (at + size) before)

-- From `before` to `after` the values were laid into a list, which is as long as it was.
pub record Lays (at size : ℕ) (values before after : List ℕ) : Type 0 where
  pub is : after ≡ laid at size values before
  pub same : length after ≡ length before
