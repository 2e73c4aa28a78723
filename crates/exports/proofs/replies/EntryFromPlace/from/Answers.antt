use Rattle.std.proofs.Common.{rules}
use Rattle.exports.proofs.Places.{reads_occupied, reads_left, reads_right}
use Rattle.exports.proofs.replies.EntryFromPlace.from.Goals as goal

pub returns-then-place-ne0 : goal.returns-then-place-ne0
returns-then-place-ne0 c =
    search (rules, reads_occupied)

pub returns-then-place-ne0-2 : goal.returns-then-place-ne0-2
returns-then-place-ne0-2 c =
    search (rules, reads_left)

pub returns-else-place-ne0-2 : goal.returns-else-place-ne0-2
returns-else-place-ne0-2 c =
    search (rules, reads_right)
