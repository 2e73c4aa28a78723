-- The sides of the code as those of the model.
use Rattle.model.specs.Tree as model
use Rattle.model.specs.Tree.{lft, rgt}
use Rattle.links.specs.declared.types.Side.{Side}
use Rattle.links.specs.declared.types.Side.TheVariants.{Left, Right}

abbrev pub side_of : Side → model.Side
side_of Left = lft
side_of Right = rgt
