-- The lent numbers that a result leaves: W4 holds of them exactly when keys rise along the list that the command means.
use Prim.Native.Nat.{ℕ, ◌≤◌}
use native.Mathlib.Omega.{arith}
use mathlib.Core.Path.{◌≡◌, sym}
use mathlib.Core.List.{List}
use Rattle.model.specs.Limits.{capacity_limit}
use Rattle.model.specs.Tree.{Tree, slots}
use Rattle.model.specs.Lent.{Lent, at, capacity, key_of}
use Rattle.model.specs.WellFormed.{Rising, W4}
use Rattle.model.specs.Draw.{lay, draw}
use Rattle.model.specs.Commands.{Command}
use Rattle.model.specs.Order.{list_after, key_after}
use Rattle.model.specs.Answers.{Outcome}
use Rattle.theory.specs.Balance.{Balanced}
use Rattle.theory.specs.Sound.{Sound}
use Rattle.theory.specs.Cells.{slot_of}
use Rattle.theory.specs.Hangs.{Hangs}
use Rattle.theory.specs.Holds.{Holds}
use Rattle.theory.specs.After.{Result}
use Rattle.theory.proofs.Lists.{member_count}
use Rattle.theory.proofs.DrawingLists.{draw_capacity, draw_number}
use Rattle.theory.proofs.DrawingTrees.{written_hangs}
use Rattle.theory.proofs.Walks.{walk_of, walk_is}
use Rattle.theory.proofs.Rising.{rising_cong}
use Rattle.theory.proofs.Holds.{draw_holds}

-- a drawing's root leads to its tree
pub draw_hangs : (C : ℕ) (t : Tree) (keys : List ℕ) → Sound C t → Balanced t
    → Hangs (draw C t keys).arrays 0 (draw C t keys).root t
unfolding draw lay
draw_hangs C t keys sound balanced =
    written_hangs (draw C t keys).arrays 0 t (rw balanced.top (omega arith))
    (rw (draw_capacity C t keys) sound)
    (λ b here. draw_number C t keys b (sound.low (slot_of b) here) (sound.high (slot_of b) here))

module _ {c : Command} {m : Lent} {t t' : Tree} {o : Outcome} (r : Result c m t t' o) where
  -- the keys along the new list, read from the arrays or as the command means them
  pub result_rising : Rising (key_after (key_of m.arrays) c (slots t)) 0 (list_after (key_of m.arrays) c (slots t))
      → Rising (at r.keys) 0 (slots t')
  result_rising rising =
      rising_cong (key_after (key_of m.arrays) c (slots t)) (at r.keys) 0 (slots t')
      (λ x here. sym (r.key x (r.sound.low x (member_count t' x here)))) (rw r.list rising)

  pub rising_result : Rising (at r.keys) 0 (slots t')
      → Rising (key_after (key_of m.arrays) c (slots t)) 0 (list_after (key_of m.arrays) c (slots t))
  rising_result rising =
      rw r.list at
      (rising_cong (at r.keys) (key_after (key_of m.arrays) c (slots t)) 0 (slots t')
      (λ x here. r.key x (r.sound.low x (member_count t' x here))) rising)

  pub result_holds : capacity m.arrays ≤ capacity_limit
      → Rising (key_after (key_of m.arrays) c (slots t)) 0 (list_after (key_of m.arrays) c (slots t))
      → Holds o.after t'
  result_holds small rising =
      rw r.after
      (draw_holds (capacity m.arrays) t' r.keys r.sound r.balanced r.long small (result_rising rising))

  hangs_after : Hangs o.after.arrays 0 o.after.root t'
  hangs_after = rw r.after (draw_hangs (capacity m.arrays) t' r.keys r.sound r.balanced)

  keys_after : key_of o.after.arrays ≡ at r.keys
  unfolding key_of draw lay
  keys_after = rw r.after

  pub result_w4 : Rising (key_after (key_of m.arrays) c (slots t)) 0 (list_after (key_of m.arrays) c (slots t))
      → W4 o.after
  result_w4 rising L walk =
      rw (walk_is o.after.arrays 0 o.after.root L t' hangs_after walk, keys_after) (result_rising rising)

  pub w4_result : W4 o.after
      → Rising (key_after (key_of m.arrays) c (slots t)) 0 (list_after (key_of m.arrays) c (slots t))
  w4_result w4 =
      rising_result (rw keys_after at (w4 (slots t') (walk_of o.after.arrays 0 o.after.root t' hangs_after)))
