-- The number of each colour, as it stands in pc beside the parent.
use Rattle.std.specs.Prelude.{ℕ}
use Rattle.links.specs.declared.types.Color.{Color}
use Rattle.links.specs.declared.types.Color.TheVariants.{Red, Black}

abbrev pub shade : Color → ℕ
shade Red = 0
shade Black = 1
