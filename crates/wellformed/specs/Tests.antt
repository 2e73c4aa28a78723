-- What the check tells, as a test that a call may stop at.
use Rattle.std.specs.Prelude.{false, ◌≡◌, Result, Ok, Err}
use Rattle.model.specs.Check.{check}
use Rattle.links.specs.Bundles.{viewed}
use Rattle.links.specs.declared.types.Refusal.{Refusal}
use Rattle.links.specs.declared.types.Refusal.TheVariants.{Damaged}
use Rattle.links.specs.declared.types.Sound.{Sound}
use Rattle.links.specs.declared.types.View.{View}

-- checked: what was lent has passed, and is handed on; or it is damaged
abbrev pub Checked : View → Result Sound Refusal → Type 0
Checked v (Ok s) = viewed s.view ≡ viewed v
Checked v (Err why) = (why ≡ Damaged) × (check (viewed v) ≡ false)
