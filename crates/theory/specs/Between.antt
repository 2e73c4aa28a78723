-- What a call that places a key at a position tests, as the code does it: the position and the new slot, then the keys
-- of the two slots beside the place.
use Rattle.std.specs.Prelude.{ℕ, Bool, ◌&&◌, ◌||◌, eqb, leb}
use Rattle.std.proofs.Math.Option.{some}
use Rattle.model.specs.Lent.{Arrays}
use Rattle.model.specs.Answers.{Code, position_test, slot_test, then_test}

-- the position, and where it passes the new slot
unfoldable pub both_test : (needs_node : Bool) → (position slot : ℕ) → Arrays → Code
both_test needed p s a = then_test (position_test needed (some p) a) (λ _. slot_test (some s) a)

-- the key of a slot is at most k; 0 stands for no slot
unfoldable pub up_to : (key : ℕ → ℕ) → (slot k : ℕ) → Bool
up_to key s k = eqb s 0 || leb (key s) k

-- the key of a slot is at least k
unfoldable pub from_on : (key : ℕ → ℕ) → (slot k : ℕ) → Bool
from_on key s k = eqb s 0 || leb k (key s)

-- k may stand between the two slots
unfoldable pub between : (key : ℕ → ℕ) → (earlier k later : ℕ) → Bool
between key earlier k later = up_to key earlier k && from_on key later k
