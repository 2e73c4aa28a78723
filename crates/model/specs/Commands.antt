-- 01, "Operations": the twelve commands, and the fields that each one tests and uses.
use Rattle.std.specs.Prelude.{ℕ, Bool, true, false}
use Rattle.std.proofs.Math.Option.{Option, none, some}

-- the operations in the order of their numbers, 1 to 12
pub data Command : Type 0 where
  insert : (slot key : ℕ) → Command
  or_insert : (slot key : ℕ) → Command
  find : (key : ℕ) → Command
  lower_bound : (kind key : ℕ) → Command
  upper_bound : (kind key : ℕ) → Command
  remove : (position : ℕ) → Command
  next : (position : ℕ) → Command
  prev : (position : ℕ) → Command
  insert_after : (position slot key : ℕ) → Command
  insert_before : (position slot key : ℕ) → Command
  replace_with : (position slot key : ℕ) → Command
  clear : Command

-- a bound's kind, a position, whether position 0 is refused, and a new slot; `none` where the operation names none
pub record Fields : Type 0 where
  pub kind : Option ℕ
  pub position : Option ℕ
  pub needs_node : Bool
  pub slot : Option ℕ

abbrev pub fields : Option ℕ → Option ℕ → Bool → Option ℕ → Fields
fields kind position needs_node slot = record { kind = kind; position = position; needs_node = needs_node; slot = slot }

-- the fields of each operation that a refusal can rest on
abbrev pub fields_of : Command → Fields
fields_of (insert s k) = fields none none false (some s)
fields_of (or_insert s k) = fields none none false (some s)
fields_of (find k) = fields none none false none
fields_of (lower_bound b k) = fields (some b) none false none
fields_of (upper_bound b k) = fields (some b) none false none
fields_of (remove p) = fields none (some p) true none
fields_of (next p) = fields none (some p) false none
fields_of (prev p) = fields none (some p) false none
fields_of (insert_after p s k) = fields none (some p) false (some s)
fields_of (insert_before p s k) = fields none (some p) false (some s)
fields_of (replace_with p s k) = fields none (some p) true (some s)
fields_of clear = fields none none false none
