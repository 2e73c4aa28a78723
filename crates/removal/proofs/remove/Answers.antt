use Rattle.removal.proofs.Removing.{remove_get, remove_get_2, remove_right, removed_right, remove_left}
use Rattle.removal.proofs.Removing.{removed_left, remove_end, remove_two_lem, removed_two}
use Rattle.removal.proofs.remove.Goals as goal

pub get-first-requires : goal.get-first-requires
get-first-requires c =
    remove_get c.requires

pub get-second-requires : goal.get-second-requires
get-second-requires c =
    remove_get_2 c.requires

pub remove_one-requires : goal.remove_one-requires
remove_one-requires c =
    remove_right c.requires c.get-first.ensures c.get-second.ensures c.if-first-eq0.true

pub returns-then-first-eq0 : goal.returns-then-first-eq0
returns-then-first-eq0 c =
    removed_right c.requires c.get-first.ensures c.get-second.ensures c.if-first-eq0.true c.remove_one.ensures

pub remove_one-requires-then-second-eq0 : goal.remove_one-requires-then-second-eq0
remove_one-requires-then-second-eq0 c =
    remove_left c.requires c.get-first.ensures c.get-second.ensures c.if-first-eq0.false c.if-second-eq0.true

pub returns-then-second-eq0 : goal.returns-then-second-eq0
returns-then-second-eq0 c =
    removed_left c.requires c.get-first.ensures c.get-second.ensures c.if-first-eq0.false c.if-second-eq0.true
    c.remove_one-then-second-eq0.ensures

pub end_of-next-requires : goal.end_of-next-requires
end_of-next-requires c =
    remove_end c.requires c.get-first.ensures c.get-second.ensures c.if-first-eq0.false c.if-second-eq0.false

pub remove_two-requires : goal.remove_two-requires
remove_two-requires c =
    remove_two_lem c.requires c.get-first.ensures c.get-second.ensures c.if-first-eq0.false c.if-second-eq0.false
    c.end_of-next.ensures

pub returns : goal.returns
returns c =
    removed_two c.requires c.get-first.ensures c.get-second.ensures c.if-first-eq0.false c.if-second-eq0.false
    c.end_of-next.ensures c.remove_two.ensures
