-- `records::record_at` meets its contract: its six fields are those of the record.
use Rattle.std.proofs.Common.{rules}
use Rattle.records.proofs.Reading.{byte_read, record_read}
use Rattle.records.proofs.record_at.Goals as goal

pub returns : goal.returns
returns c =
    search (rules, record_read, byte_read)
