-- `records::put_bytes` meets its contract: six stores side by side.
use Rattle.std.proofs.Common.{rules}
use Rattle.records.proofs.Writing.{six_laid}
use Rattle.records.proofs.put_bytes.Goals as goal

pub returns : goal.returns
returns c =
    search (rules, six_laid)
