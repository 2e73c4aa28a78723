-- `codes::place_at` gives the value of a place: its character's, or 0 past the end.
use mathlib.Core.Path.{sym}
use Rattle.std.proofs.Common.{rules, get_or, length, ◌<◌, ◌≡◌}
use Rattle.codes.proofs.Keys.{place_of_within, place_of_past}
use Rattle.codes.proofs.place_at.Goals as goal

pub returns-in-Some : goal.returns-in-Some
returns-in-Some c =
    let within : c.args.i < length c.args.part.now = search rules in
    let found : c.in-Some.b.now ≡ get_or c.args.part.now c.args.i 0 = search rules in
    rw (place_of_within _ _ within, ← found) c.value_of.ensures

pub returns-in-None : goal.returns-in-None
returns-in-None c =
    sym (place_of_past _ _ (search rules))
