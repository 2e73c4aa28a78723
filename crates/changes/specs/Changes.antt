-- insert_after and insert_before, as one command of a side.
use Rattle.std.specs.Prelude.{ℕ}
use Rattle.model.specs.Tree.{Side, lft, rgt}
use Rattle.model.specs.Commands.{Command, insert_after, insert_before}

-- the command that puts a slot on the side d of a position
abbrev pub insert_next : Side → (position slot key : ℕ) → Command
insert_next lft p s k = insert_before p s k
insert_next rgt p s k = insert_after p s k
