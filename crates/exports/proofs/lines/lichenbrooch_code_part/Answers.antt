use Rattle.std.proofs.Common.{rules}
use Rattle.exports.proofs.Parts.{part_told}
use Rattle.exports.proofs.lines.lichenbrooch_code_part.Goals as goal

pub returns : goal.returns
returns c =
    search (rules, part_told)
