-- What the check says where there is no node.
use Rattle.std.specs.Prelude.{ℕ}
use Rattle.model.specs.Tree.{Color, red, black}
use Rattle.model.specs.Check.{Verdict, bad, good}

-- what the check says of a missing child
abbrev pub missing : Color → (least : ℕ) → Verdict
missing red least = bad
missing black least = good 0 0 least
