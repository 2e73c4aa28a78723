-- The measure is twice the depth left, and one more where a node is checked: a node asks for its children at the same
-- depth, and each child falls.
use Prim.Native.Nat.{◌+◌, ◌*◌}
use Rattle.wellformed.proofs.+black_check_red_check.Given as goal

abbrev pub decreases-black_check : goal.decreases-black_check
decreases-black_check l = 2 * l.depth + 1

abbrev pub decreases-child_of_black : goal.decreases-child_of_black
decreases-child_of_black l = 2 * l.depth

abbrev pub decreases-child_of_red : goal.decreases-child_of_red
decreases-child_of_red l = 2 * l.depth

abbrev pub decreases-red_check : goal.decreases-red_check
decreases-red_check l = 2 * l.depth + 1
