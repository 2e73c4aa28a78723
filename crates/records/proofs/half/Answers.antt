-- `records::half` meets its contract: two bytes are joined.
use native.Mathlib.Omega.{arith}
use Rattle.std.proofs.Common.{◌∙◌}
use Rattle.records.proofs.Reading.{half_read}
use Rattle.records.proofs.half.Goals as goal

pub returns : goal.returns
returns c =
    half_read _ _ c.requires (omega (arith, c.from.ensures, c.from_le_bytes.type_inv)) (c.from.ensures ∙ c.from_le_bytes.ensures)
