-- The check of what is lent to be changed: it passes, or the call is refused.
use Rattle.std.specs.Prelude.{true, false, ◌≡◌, Result, Ok, Err}
use Rattle.model.specs.Lent.{Lent}
use Rattle.model.specs.Check.{check}
use Rattle.links.specs.declared.types.Refusal.{Refusal}
use Rattle.links.specs.declared.types.Refusal.TheVariants.{Damaged}

abbrev pub Tested : Lent → Result (Unit {0}) Refusal → Type 0
Tested m (Ok _) = check m ≡ true
Tested m (Err why) = (why ≡ Damaged) × (check m ≡ false)
