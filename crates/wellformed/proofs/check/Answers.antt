use Rattle.std.proofs.Common.{rules}
use Rattle.wellformed.proofs.Whole.{fit_rooted, fit_same, check_unfit, check_stray, check_ends}
use Rattle.wellformed.proofs.check.Goals as goal

pub returns-then-not-fits : goal.returns-then-not-fits
returns-then-not-fits c =
    check_unfit _ _ _ _ _ c.fits.ensures.is c.fits.ensures.low c.if-not-fits.true

pub tally-tally-requires : goal.tally-tally-requires
tally-tally-requires c =
    fit_same _ _ _ _ _ c.fits.ensures.is c.if-not-fits.false

pub returns-then-tally-ne0 : goal.returns-then-tally-ne0
returns-then-tally-ne0 c =
    check_stray _ _ _ _ _ c.fits.ensures.is c.fits.ensures.low c.if-not-fits.false
    c.tally-tally.ensures (search rules)

pub tree_check-requires : goal.tree_check-requires
tree_check-requires c =
    fit_rooted _ _ _ _ _ c.fits.ensures.is c.if-not-fits.false

pub returns : goal.returns
returns c =
    check_ends _ _ _ _ _ c.fits.ensures.is c.fits.ensures.low c.if-not-fits.false
    c.tally-tally.ensures (search rules) c.tree_check.ensures
