-- What the functions on characters, parts and lines promise, in terms of the model.
use Rattle.std.specs.Prelude.{ℕ, ◌≤◌, ◌≡◌, List, length, get_or, take, drop, ltb}
use Rattle.std.specs.Prelude as std
use Rattle.std.specs.Prelude.{Some, None, Result, Ok, Err}
use Rattle.std.proofs.Math.Option.{Option, none, some}
use Rattle.model.specs.Branch.{choose}
use Rattle.model.specs.Answers.{Code, done}
use Rattle.model.specs.Codes.{drop_spaces, strip_end, value_of, Reading}
use Rattle.links.specs.Outcomes.{refusal_code}
use Rattle.links.specs.declared.types.Key.{Key}
use Rattle.links.specs.declared.types.Refusal.{Refusal}

-- the value, none where the character is refused
abbrev pub digit_of : std.Option ℕ → Option ℕ
digit_of (Some v) = some v
digit_of None = none

-- the value of a place of the part: none where its character has none, 0 past the end
unfoldable pub place_of : (part : List ℕ) → (place : ℕ) → Option ℕ
place_of s i = choose (ltb i (length s)) (λ _. value_of (get_or s i 0)) (λ _. some 0)

-- The code of an answer, and its key: a refusal has key 0.
abbrev pub code_of : Result Key Refusal → Code
code_of (Ok k) = done
code_of (Err r) = refusal_code r

abbrev pub key_of : Result Key Refusal → ℕ
key_of (Ok k) = k.0
key_of (Err r) = 0

-- The code and the key are those of the reading: a refusal is a bad code.
pub record Keyed (reading : Reading) (r : Result Key Refusal) : Type 0 where
  pub code : code_of r ≡ reading.code
  pub key : key_of r ≡ reading.key

-- The line begins with r spaces.
pub record Start (line : List ℕ) (r : ℕ) : Type 0 where
  pub within : r ≤ length line
  pub is : drop r line ≡ drop_spaces line

-- Without the spaces at its end its first r bytes are left.
pub record End (line : List ℕ) (r : ℕ) : Type 0 where
  pub within : r ≤ length line
  pub is : take r line ≡ strip_end line
