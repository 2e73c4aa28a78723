-- 01, "Hanging": a new slot at an empty place, and the climb that restores W5.
use Rattle.std.specs.Prelude.{ℕ, List, [], ◌∷◌}
use Rattle.model.specs.Branch.{choose}
use Rattle.model.specs.Tree.{Side, Color, red, black, Tree, leaf, node, opp, same_side, nod, is_red, paint, rotate}
use Rattle.model.specs.Tree.{Frame, frame, plug}

-- The colour of a node that would turn red: the root stays black.
abbrev pub crown : (way : List Frame) → Color
crown [] = black
crown (f ∷ w) = red

-- p has x on its side d and hangs on the side e of g: an inner x is turned up over p first, and then stands above it.
unfoldable pub straighten : (d e : Side) → (p : Tree) → Tree
straighten d e p = choose (same_side d e) (λ _. p) (λ _. rotate e p)

-- The last step: the upper of the two turns black, g red, and g is turned down, away from them.
unfoldable pub turn_over : (e : Side) → (upper : Tree) → (g : ℕ) → (other : Tree) → Tree
turn_over e upper g other = rotate (opp e) (nod e red (paint black upper) g other)

-- From x upwards while its parent is red. Under a red uncle only colours change, and the climb goes on two levels up;
-- otherwise one or two rotations end it.
unfoldable pub climb : (x : Tree) → (way : List Frame) → Tree
climb x [] = x
climb x (frame d black p s ∷ w) = plug x (frame d black p s ∷ w)
climb x (frame d red p s ∷ []) = plug x (frame d red p s ∷ [])
climb x (frame d red p s ∷ frame e c g other ∷ w) =
    choose (is_red other)
    (λ _. climb (nod e (crown w) (nod d black x p s) g (paint black other)) w)
    (λ _. plug (turn_over e (straighten d e (nod d red x p s)) g other) w)

-- The first slot of a tree is its black root. Any other starts red, without children, at its place.
unfoldable pub hang : (slot : ℕ) → (place : List Frame) → Tree
hang s [] = node black leaf s leaf
hang s (f ∷ w) = climb (node red leaf s leaf) (f ∷ w)

-- The tree right after the slot is hung, before anything is mended.
unfoldable pub hung_tree : (slot : ℕ) → (place : List Frame) → Tree
hung_tree s [] = node black leaf s leaf
hung_tree s (f ∷ w) = plug (node red leaf s leaf) (f ∷ w)
