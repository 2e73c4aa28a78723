-- 01, the table of "When the index says no", row by row, as conditions in plain words of logic: `perform`, `batch` and
-- `or_insert_call` give each code exactly so.
use Rattle.std.specs.Prelude.{ℕ, ◌*◌, ◌%◌, ◌≤◌, ◌<◌, ◌≡◌, ◌≢◌, ◌⊎◌, Bool, List, [], ◌∷◌, length, T}
use Rattle.std.proofs.Math.Option.{Option, none, some}
use Rattle.model.specs.Limits.{record_size, answer_size, batch_limit}
use Rattle.model.specs.Lent.{Arrays, Lent, Linked, capacity, key_of, tree_of}
use Rattle.model.specs.WellFormed.{WellFormed, W4}
use Rattle.model.specs.Descent.{Entry, entry_for}
use Rattle.model.specs.Commands.{Command, or_insert, fields_of}
use Rattle.model.specs.Answers.{Code, done, damaged, bad_slot, already_linked, not_linked, out_of_order, null_cursor}
use Rattle.model.specs.Answers.{stale, bad_record, bad_length, short}
use Rattle.model.specs.Operations.{accepted}
use Rattle.model.specs.Batch.{records}

-- a code, and when it is given
pub record Row : Type 1 where
  pub code : Code
  pub when : Type 0

abbrev pub row : Code → Type 0 → Row
row c P = record { code = c; when = P }

-- The first row that applies gives the code, and Done is left where none does.
abbrev pub Gives : List Row → Code → Type 0
Gives [] c = c ≡ done
Gives (r ∷ rows) c = (r.when × (c ≡ r.code)) ⊎ ((¬ r.when) × Gives rows c)

-- of a field that the operation names
abbrev pub Named : Option ℕ → (ℕ → Type 0) → Type 0
Named none P = ⊥
Named (some n) P = P n

-- Code 1.
abbrev pub damaged_row : Lent → Row
damaged_row m = row damaged (¬ WellFormed m)

-- Codes 2, 6 and 4, for the position.
abbrev pub position_rows : (needs_node : Bool) → (position : Option ℕ) → Arrays → List Row → List Row
position_rows needed position a rest =
    row bad_slot (Named position λ p. capacity a < p)
    ∷ row null_cursor (Named position λ p. (p ≡ 0) × T needed)
    ∷ row not_linked (Named position λ p. (0 < p) × (p ≤ capacity a) × (¬ Linked a p))
    ∷ rest

-- Codes 2 and 3, for the new slot.
abbrev pub slot_rows : (slot : Option ℕ) → Arrays → List Row → List Row
slot_rows slot a rest =
    row bad_slot (Named slot λ s. (s ≡ 0) ⊎ (capacity a < s))
    ∷ row already_linked (Named slot λ s. Linked a s)
    ∷ rest

-- Code 5.
abbrev pub order_row : Command → Lent → Row
order_row c m = row out_of_order (Named (fields_of c).slot λ s. ¬ W4 (accepted c m).after)

-- The rows of a command, in the order in which they are tried.
abbrev pub record_rows : Command → Lent → List Row
record_rows c m =
    row bad_record (Named (fields_of c).kind λ kind. 2 < kind)
    ∷ position_rows (fields_of c).needs_node (fields_of c).position m.arrays
    (slot_rows (fields_of c).slot m.arrays (order_row c m ∷ []))

-- A single call: first whether the arrays are well formed.
abbrev pub single_rows : Command → Lent → List Row
single_rows c m = damaged_row m ∷ record_rows c m

-- or_insert with an entry, which may be stale: code 7.
abbrev pub entry_rows : Entry → (slot key : ℕ) → Lent → List Row
entry_rows e s k m =
    damaged_row m
    ∷ slot_rows (some s) m.arrays
    (row stale (e ≢ entry_for (key_of m.arrays) k (tree_of m)) ∷ order_row (or_insert s k) m ∷ [])

-- A batch as a whole: codes 9, 10 and 1.
abbrev pub batch_rows : (input buffer : List ℕ) → Lent → List Row
batch_rows input buffer m =
    row bad_length ((length input % record_size ≢ 0) ⊎ (batch_limit < length input))
    ∷ row short (length buffer < answer_size * records input)
    ∷ damaged_row m
    ∷ []
