-- The child away from a side: the test whether it is red, and its place; and which side a slot is on.
use Prim.Native.Nat.{ℕ}
use mathlib.Core.Bool.{false, true≢false}
use mathlib.Core.List.{List, ◌∷◌}
use mathlib.Core.Path.{◌≡◌, refl, sym, ap, ◌∙◌}
use Rattle.model.specs.Tree.{Side, lft, rgt, Color, Tree, node, opp, same_side, top_of, is_red, Frame, frame}
use Rattle.theory.specs.Links.{Links, red_in}
use Rattle.theory.specs.Places.{Spot}
use Rattle.theory.proofs.Reading.{far_red_drawn}
use Rattle.links.specs.Reads.{red_at}
use Rattle.links.proofs.Reading.{sided_red}
use Rattle.links.proofs.Spots.{spot_beside}

-- the test of a red slot, at the child away from the side e
pub child_red : {d : Side} {near far pc : List ℕ} {root C : ℕ} {e : Side} {c : Color} {a : Tree} {x : ℕ}
    {w : List Frame} (b : Tree) → Spot d near far pc root C e c a x b w → red_at pc (top_of b) ≡ is_red b
child_red {d} {near} {far} {pc} {root} {e = e} {c} {a} {x} {w} b k =
    sym (sided_red d near far pc root (top_of b)) ∙ ap (λ (z : Links). red_in z (top_of b)) k.held.is
    ∙ far_red_drawn e c a x b w k.held.sound

-- that child, in focus itself
pub spot_down : (e : Side) {d : Side} {near far pc : List ℕ} {root C : ℕ} {c k : Color} {t a b : Tree} {g u : ℕ}
    {w : List Frame}
    → Spot d near far pc root C e c t g (node k a u b) w
    → Spot d near far pc root C lft k a u b (frame (opp e) c g t ∷ w)
spot_down e z = spot_beside e z.held

-- a side that isn't this one is the other
pub same_no : (e d : Side) → same_side e d ≡ false → e ≡ opp d
same_no lft lft z = absurd (true≢false z)
same_no rgt rgt z = absurd (true≢false z)
same_no lft rgt z = refl
same_no rgt lft z = refl
