-- `records::long` meets its contract: eight bytes are joined.
use native.Mathlib.Omega.{arith}
use Rattle.records.proofs.Reading.{long_read}
use Rattle.records.proofs.long.Goals as goal

pub returns : goal.returns
returns c =
    long_read _ _ c.requires (omega (arith, c.from_le_bytes.type_inv)) c.from_le_bytes.ensures
