-- When a tree fits into C slots: each of its slots is one of 1 to C and stands in it once.
use Rattle.std.specs.Prelude.{ℕ, ◌+◌, ◌≤◌, List, [], ◌∷◌, eqb}
use Rattle.model.specs.Branch.{pick}
use Rattle.model.specs.Tree.{Tree, leaf, node, Frame, frame}

-- 1 if the two slots are the same
unfoldable pub one : ℕ → ℕ → ℕ
one x s = pick (eqb x s) 1 0

-- how often a slot stands in a tree
abbrev pub count : Tree → ℕ → ℕ
count leaf s = 0
count (node c l x r) s = one x s + (count l s + count r s)

-- how often it stands in the frames of a place
abbrev pub count_up : List Frame → ℕ → ℕ
count_up [] s = 0
count_up (frame d c p t ∷ w) s = one p s + (count t s + count_up w s)

pub record Sound (C : ℕ) (t : Tree) : Type 0 where
  pub once : (s : ℕ) → count t s ≤ 1
  pub low : (s : ℕ) → 1 ≤ count t s → 1 ≤ s
  pub high : (s : ℕ) → 1 ≤ count t s → s ≤ C
