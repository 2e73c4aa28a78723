-- The last round of the climb after a removal, as a program over the links: what is done at a sibling s, on the side
-- away from d, of a place below p, where the missing black isn't passed further up. And when it is passed.
use Rattle.std.specs.Prelude.{ℕ, Bool, true, false, List, [], ◌∷◌, eqb}
use Rattle.model.specs.Branch.{pick}
use Rattle.model.specs.Tree.{Side, opp, is_red, Frame, frame}
use Rattle.model.specs.Removal.{red_child, root_or_red}
use Rattle.theory.specs.Links.{Links, child_in, parent_in, color_in, red_in, side_in, set_color}
use Rattle.theory.specs.Programs.{far_turn, near_turn, red_turn}

-- at a black sibling
unfoldable pub lower_end : Side → Links → (s p : ℕ) → Links
lower_end d k s p =
    let f = child_in (opp d) k s in
    let n = child_in d k s in
    pick (red_in k f) (far_turn d k s p) (pick (red_in k n) (near_turn d k s n) (set_color (set_color k s 0) p 1))

-- at a red one: its near child is the sibling after one rotation
unfoldable pub red_end : Side → Links → (s p : ℕ) → Links
red_end d k s p =
    let k₁ = red_turn d k s p in
    let s₁ = child_in (opp d) k₁ (child_in d k₁ s) in
    lower_end d k₁ s₁ (parent_in k₁ s₁)

unfoldable pub sink_at : Side → Links → (s p : ℕ) → Links
sink_at d k s p = pick (eqb (color_in k s) 0) (red_end d k s p) (lower_end d k s p)

unfoldable pub sink_end : Links → (s : ℕ) → Links
sink_end k s = let p = parent_in k s in sink_at (opp (side_in k s p)) k s p

-- the missing black is passed up from the place: the sibling is black and has no red child, and q is neither the root
-- nor red
unfoldable pub passes : List Frame → Bool
passes [] = false
passes (frame d c q s ∷ w) = pick (is_red s) false (pick (red_child s) false (pick (root_or_red c w) false true))
