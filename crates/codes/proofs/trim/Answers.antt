-- `codes::trim` cuts the spaces at both ends: what `end_of` leaves of what `start_of` leaves.
use Rattle.std.proofs.Common.{rules}
use Rattle.codes.proofs.Cutting.{cut_both}
use Rattle.codes.proofs.trim.Goals as goal

pub returns : goal.returns
returns c =
    search (rules, cut_both)
