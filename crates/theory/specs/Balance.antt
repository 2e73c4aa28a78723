-- W5 and W6 of 01 as rules on a tree: what hanging and removal keep.
use Rattle.std.specs.Prelude.{ℕ, suc, ◌+◌, max, List, [], ◌∷◌, ◌≡◌}
use Rattle.model.specs.Tree.{Color, red, black, Tree, leaf, node, Frame, frame}

-- the colour at the top; a missing child counts as black
abbrev pub tint : Tree → Color
tint leaf = black
tint (node c l x r) = c

-- the colour of a child under the colour of its parent
abbrev pub Allowed : (parent child : Color) → Type 0
Allowed black c = Unit {0}
Allowed red black = Unit {0}
Allowed red red = ⊥

-- W5
abbrev pub Calm : Tree → Type 0
Calm leaf = Unit {0}
Calm (node c l x r) = Allowed c (tint l) × Allowed c (tint r) × Calm l × Calm r

-- a number of black nodes, with one of this colour above them
abbrev pub dark : Color → ℕ → ℕ
dark red n = n
dark black n = suc n

-- the black nodes on the leftmost way down
abbrev pub blacks : Tree → ℕ
blacks leaf = 0
blacks (node c l x r) = dark c (blacks l)

-- W6
abbrev pub Even : Tree → Type 0
Even leaf = Unit {0}
Even (node c l x r) = Even l × Even r × (blacks l ≡ blacks r)

-- W5, W6, and the black root of W3
pub record Balanced (t : Tree) : Type 0 where
  pub calm : Calm t
  pub even : Even t
  pub top : tint t ≡ black

abbrev pub size : Tree → ℕ
size leaf = 0
size (node c l x r) = suc (size l + size r)

-- the nodes on the longest way down
abbrev pub height : Tree → ℕ
height leaf = 0
height (node c l x r) = suc (max (height l) (height r))

-- ---- of the frames above a place

-- the topmost frame is black
abbrev pub Topped : List Frame → Type 0
Topped [] = Unit {0}
Topped (frame d red p s ∷ []) = ⊥
Topped (frame d black p s ∷ []) = Unit {0}
Topped (f ∷ g ∷ w) = Topped (g ∷ w)
