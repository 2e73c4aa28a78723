-- `records::put_answer` meets its contract: what was written are the bytes of the answer.
use Rattle.records.proofs.Writing.{done_bytes, refused_bytes}
use Rattle.records.proofs.put_answer.Goals as goal

pub returns-in-Ok : goal.returns-in-Ok
returns-in-Ok c =
    rw (← done_bytes c.args.answer c.in-Ok.is) c.put_bytes.ensures

pub returns-in-Err : goal.returns-in-Err
returns-in-Err c =
    rw (← refused_bytes c.args.answer c.in-Err.is c.from.ensures) c.put_bytes-in-Err.ensures
