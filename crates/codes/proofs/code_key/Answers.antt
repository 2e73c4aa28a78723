-- `codes::code_key` gives the key of a line: that of its trimmed part.
use Rattle.std.proofs.Common.{rules}
use Rattle.codes.proofs.Keys.{keyed_line}
use Rattle.codes.proofs.code_key.Goals as goal

pub returns : goal.returns
returns c =
    search (rules, keyed_line)
