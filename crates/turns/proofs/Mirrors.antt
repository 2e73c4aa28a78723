-- From a promise for both sides to the promise for (left, right).
use Prim.Native.Nat.{ℕ}
use mathlib.Core.List.{List}
use mathlib.Core.Path.{◌≡◌, sym, ap, ◌∙◌}
use lib.ListN.{length}
use Rattle.model.specs.Tree.{Side, lft, rgt, opp}
use Rattle.theory.specs.Links.{Links, links}
use Rattle.theory.specs.Programs.{rotate_in}
use Rattle.theory.specs.Sided.{sided}
use Rattle.theory.specs.Places.{Made, Mirrored}
use Rattle.theory.proofs.Sided.{sided_opp}
use Rattle.theory.proofs.Places.{swap}
use Rattle.turns.specs.Turns.{RotateToPre, rotate_at}

-- near is left, or near is right
module _ {op : Side → Links → Links} {near far pc near' far' pc' : List ℕ} {root root' : ℕ}
    (m : Mirrored op near far pc root near' far' pc' root') where
  pub to_left : Made (op lft (links near far pc root)) (length near) near' far' pc' root'
  to_left = record { is = m.is lft; bounded = m.bounded; same = m.same }

  pub to_right : length far ≡ length near → Made (op rgt (links far near pc root)) (length far) far' near' pc' root'
  to_right e =
      record { is = m.is rgt; bounded = swap m.bounded; same = m.bounded.same_far ∙ m.same ∙ sym e }

-- rotate_to
module _ (x : ℕ) {left right pc left' right' pc' : List ℕ} {root root' : ℕ} where
  pub left_rotated : {side : Side} → side ≡ lft → Mirrored (rotate_at x) left right pc root left' right' pc' root'
      → Made (rotate_in side (links left right pc root) x) (length left) left' right' pc' root'
  unfolding rotate_at
  left_rotated e m = rw e (to_left m)

  pub right_rotated : {side : Side} → side ≡ rgt → RotateToPre side left right pc root x
      → Mirrored (rotate_at x) right left pc root right' left' pc' root'
      → Made (rotate_in side (links left right pc root) x) (length left) left' right' pc' root'
  unfolding rotate_at
  right_rotated e k m = rw e (to_right m (rw e at k).bounded.same_far)

-- a rotation with near and far swapped is the one to the other side
pub rotated_over : (x : ℕ) {near far pc near' far' pc' : List ℕ} {root root' : ℕ}
    → Mirrored (rotate_at x) far near pc root far' near' pc' root'
    → (d : Side) → sided d near' far' pc' root' ≡ rotate_in (opp d) (sided d near far pc root) x
unfolding rotate_at
rotated_over x {near} {far} {pc} {near'} {far'} {pc'} {root} {root'} m d =
    sym (sided_opp d near' far' pc' root') ∙ m.is (opp d)
    ∙ ap (λ (z : Links). rotate_in (opp d) z x) (sided_opp d near far pc root)
