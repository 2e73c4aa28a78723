use Rattle.std.proofs.Common.{rules}
use Rattle.theory.specs.Quick.{is_between}
use Rattle.wellformed.proofs.slots.between.Goals as goal

pub returns : goal.returns
unfolding is_between
returns c = search rules
