use Rattle.std.proofs.Common.{rules, ◌≡◌, Err}
use Rattle.links.specs.Sides.{side_of}
use Rattle.links.proofs.Shapes.{sound_well}
use Rattle.queries.proofs.Searching.{searchable, bound_answered, bound_refused}
use Rattle.queries.proofs.bound.Goals as goal

pub returns-in_err-bound : goal.returns-in_err-bound
returns-in_err-bound c =
    let told : c.from_residual.result ≡ Err c.in_err-bound.field-0.0 = search rules in
    rw told (bound_refused (side_of c.args.side) _ _ _ _ c.in_err-bound.ensures.is)

pub bound-met-requires : goal.bound-met-requires
bound-met-requires c =
    searchable (sound_well c.args.tree)

pub returns : goal.returns
returns c =
    bound_answered (sound_well c.args.tree) (side_of c.args.side) _ _ c.in_ok-bound.ensures.is
    c.in_ok-bound.ensures.bound_is c.bound-met.ensures
