-- `codes::code_part` gives the part of a line: the trimmed one where it has a key, else nothing.
use Rattle.codes.proofs.Keys.{part_done, part_refused}
use Rattle.codes.proofs.code_part.Goals as goal

pub returns-then-is_ok : goal.returns-then-is_ok
returns-then-is_ok c =
    part_done _ c.trim-part.ensures c.key_of_part.ensures c.is_ok.ensures.value c.if-is_ok.true

pub returns-else-is_ok : goal.returns-else-is_ok
returns-else-is_ok c =
    part_refused _ c.trim-part.ensures c.key_of_part.ensures c.is_ok.ensures.value c.if-is_ok.false
