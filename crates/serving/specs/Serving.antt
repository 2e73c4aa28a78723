-- What is answered to the bytes of one read.
use Rattle.std.specs.Prelude.{ℕ, ◌*◌, ◌/◌, ◌≤◌, ◌≡◌, List, [], ◌∷◌, ◌++◌, length, take}
use Rattle.model.specs.Limits.{record_size, answer_size, batch_limit}
use Rattle.model.specs.Lent.{Lent}
use Rattle.model.specs.Batch.{BatchOutcome, batch, records, tail_answer}

-- No more than a batch was read, and there is room for the answers of a batch.
pub record RespondPre (input buffer : List ℕ) : Type 0 where
  pub top : length input ≤ batch_limit
  pub room : answer_size * (batch_limit / record_size) ≤ length buffer

-- the batch of the whole records
unfoldable pub whole_batch : (input buffer : List ℕ) → Lent → BatchOutcome
whole_batch input buffer m = batch (take (record_size * records input) input) buffer m

-- its answers
unfoldable pub answered : BatchOutcome → List ℕ
answered o = take (answer_size * o.count) o.buffer

-- Those stand at the start of the buffer, and one for what is left behind them.
pub record Responded (input buffer buffer' : List ℕ) (m m' : Lent) (size : ℕ) : Type 0 where
  pub bytes : take size buffer' ≡ answered (whole_batch input buffer m) ++ tail_answer input
  pub after : m' ≡ (whole_batch input buffer m).after
  pub top : size ≤ length buffer'

-- ---- the input in pieces, as the program reads it

-- the answers to pieces one after another, each in a buffer of its own
abbrev pub replies : (buffer : List ℕ) → (pieces : List (List ℕ)) → Lent → List ℕ
replies buffer [] m = []
replies buffer (p ∷ ps) m =
    (answered (whole_batch p buffer m) ++ tail_answer p) ++ replies buffer ps (whole_batch p buffer m).after

-- pieces and a last one, joined
abbrev pub joined : (pieces : List (List ℕ)) → (last : List ℕ) → List ℕ
joined [] last = last
joined (p ∷ ps) last = p ++ joined ps last

-- each piece fills a batch
abbrev pub Full : (pieces : List (List ℕ)) → Type 0
Full [] = Unit {0}
Full (p ∷ ps) = (length p ≡ batch_limit) × Full ps
