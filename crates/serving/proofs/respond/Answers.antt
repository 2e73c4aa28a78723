use mathlib.Core.Path.{◌≡◌}
use mathlib.Core.Logic.{◌≢◌}
use Prim.Native.Nat.{◌%◌}
use lib.ListN.{length}
use Rattle.std.proofs.Common.{rules}
use Rattle.model.specs.Limits.{record_size}
use Rattle.serving.proofs.Answering.{responded_whole, room_for_tail, responded_cut}
use Rattle.serving.proofs.respond.Goals as goal

pub returns-then-is_empty : goal.returns-then-is_empty
returns-then-is_empty c =
    let none_left : length c.args.input.now % record_size ≡ 0 = search rules in
    responded_whole _ _ c.requires (search rules) c.split_at.ensures.front c.unwrap_or-count.ensures c.batch.ensures
    none_left

pub put_answer-requires : goal.put_answer-requires
put_answer-requires c =
    let cut : length c.args.input.now % record_size ≢ 0 = search rules in
    room_for_tail _ _ c.requires (search rules) c.split_at.ensures.front c.unwrap_or-count.ensures c.batch.ensures cut

pub returns : goal.returns
returns c =
    let cut : length c.args.input.now % record_size ≢ 0 = search rules in
    responded_cut _ _ c.requires (search rules) c.split_at.ensures.front c.unwrap_or-count.ensures c.batch.ensures cut
    c.put_answer.ensures
