use Rattle.std.proofs.Common.{rules}
use Rattle.theory.proofs.Holds.{well_holds}
use Rattle.theory.proofs.HoldsDrawn.{holds_bounded}
use Rattle.changes.proofs.Clearing.{cleared}
use Rattle.changes.proofs.clear.Goals as goal

pub clear-requires : goal.clear-requires
clear-requires c =
    search (rules, holds_bounded, well_holds)

pub returns : goal.returns
returns c =
    cleared c.requires c.clear.ensures
