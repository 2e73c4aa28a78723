-- `codes::key_of_part` reads a part. The loop's invariant: the places passed have values, and make the sum.
use Rattle.codes.proofs.Keys.{Sofar}
use Rattle.codes.proofs.key_of_part.Given as goal

abbrev pub invariant-loop-i : goal.invariant-loop-i
invariant-loop-i l =
    Sofar l.part l.sum l.i
