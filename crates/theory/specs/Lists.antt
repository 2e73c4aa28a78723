-- The in-order list round a place of a tree, and how a list reads towards a side.
use Rattle.std.specs.Prelude.{ℕ, ◌+◌, List, [], ◌∷◌, ◌++◌, reverse}
use Rattle.model.specs.Branch.{choose}
use Rattle.model.specs.Tree.{Side, lft, rgt, Tree, leaf, node, opp, slots, Frame, frame}
use Rattle.model.specs.Order.{next_in, after_in, before_in}
use Rattle.model.specs.Operations.{place_beside, lacks_child}
use Rattle.theory.specs.Sound.{one}

-- the slots that stand before a place
abbrev pub before : List Frame → List ℕ
before [] = []
before (frame lft c p s ∷ w) = before w
before (frame rgt c p s ∷ w) = before w ++ (slots s ++ p ∷ [])

-- the slots that stand after it
abbrev pub after : List Frame → List ℕ
after [] = []
after (frame lft c p s ∷ w) = p ∷ (slots s ++ after w)
after (frame rgt c p s ∷ w) = after w

-- the slots that stand beyond it on a side
abbrev pub beyond : Side → List Frame → List ℕ
beyond lft w = before w
beyond rgt w = after w

-- a list as it is read on the way to a side
abbrev pub facing : Side → List ℕ → List ℕ
facing lft L = reverse L
facing rgt L = L

-- how often a slot stands in a list
unfoldable pub times : ℕ → List ℕ → ℕ
times s [] = 0
times s (x ∷ L) = one x s + times s L

-- the way up from the empty place at a side's end of a tree that hangs at a place
abbrev pub end_place : Side → Tree → List Frame → List Frame
end_place d leaf w = w
end_place lft (node c l x r) w = end_place lft l (frame lft c x r ∷ w)
end_place rgt (node c l x r) w = end_place rgt r (frame rgt c x l ∷ w)

-- the cursor rule for both sides: the empty place next to a position on the side d; at 0 it is the one at the other end
unfoldable pub place_next : Side → (position : ℕ) → Tree → List Frame
place_next d p t =
    choose (lacks_child d p t) (λ _. place_beside d p t) (λ _. place_beside (opp d) (next_in p (facing d (slots t))) t)

-- the list with a slot put next to a position on the side d
abbrev pub beside_in : Side → (position s : ℕ) → List ℕ → List ℕ
beside_in lft p s L = before_in p s L
beside_in rgt p s L = after_in p s L
