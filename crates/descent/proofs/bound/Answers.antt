use Rattle.std.proofs.Common.{rules}
use lib.Dec.{leb, ltb}
use Rattle.descent.proofs.Bounding.{slope_right, bound_first, bound_last, lower_included, lower_excluded}
use Rattle.descent.proofs.Bounding.{upper_included, upper_excluded}
use Rattle.descent.proofs.bound.Goals as goal

pub edge-requires-in-Unbounded-Right : goal.edge-requires-in-Unbounded-Right
edge-requires-in-Unbounded-Right c = search (rules, slope_right)

pub returns-in-Unbounded-Left : goal.returns-in-Unbounded-Left
returns-in-Unbounded-Left c = search (rules, bound_first)

pub returns-in-Unbounded-Right : goal.returns-in-Unbounded-Right
returns-in-Unbounded-Right c = search (rules, bound_last)

pub returns-in-Included-Left : goal.returns-in-Included-Left
returns-in-Included-Left c =
    let w = c.in-Included-Left in
    lower_included _ _ w.k (rw w.is-1 c.turned.ensures) w.is-1 w.is-0
    (c.path.ensures.is (λ held. leb w.k.0 held) (λ held told e. search rules))

pub returns-in-Excluded-Left : goal.returns-in-Excluded-Left
returns-in-Excluded-Left c =
    let w = c.in-Excluded-Left in
    lower_excluded _ _ w.k (rw w.is-1 c.turned-in-Excluded-Left.ensures) w.is-1 w.is-0
    (c.path-in-Excluded-Left.ensures.is (λ held. ltb w.k.0 held) (λ held told e. search rules))

pub returns-in-Included-Right : goal.returns-in-Included-Right
returns-in-Included-Right c =
    let w = c.in-Included-Right in
    upper_included _ _ w.k (rw w.is-1 c.turned-in-Included-Right.ensures) w.is-1 w.is-0
    (c.path-in-Included-Right.ensures.is (λ held. ltb w.k.0 held) (λ held told e. search rules))

pub returns-in-Excluded-Right : goal.returns-in-Excluded-Right
returns-in-Excluded-Right c =
    let w = c.in-Excluded-Right in
    upper_excluded _ _ w.k (rw w.is-1 c.turned-in-Excluded-Right.ensures) w.is-1 w.is-0
    (c.path-in-Excluded-Right.ensures.is (λ held. leb w.k.0 held) (λ held told e. search rules))
