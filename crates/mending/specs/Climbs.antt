-- sink_at, sink_end and post_remove: what each requires.
use Rattle.std.specs.Prelude.{ℕ, false, List, ◌∷◌, ◌≡◌}
use Rattle.model.specs.Tree.{Side, lft, Color, Tree, top_of, Frame, frame, plug}
use Rattle.theory.specs.Places.{Drawn, Firm, Solid}
use Rattle.theory.specs.Rounds.{passes}

-- sink_at: the place hangs on the near side of q and lacks a black node, and s, its sibling, is as the rules ask for
pub record SinkAtPre (near far pc : List ℕ) (root s q : ℕ) : Type 0 where
  pub side : Side
  pub size : ℕ
  pub place : Tree
  pub color : Color
  pub sibling : Tree
  pub way : List Frame
  pub held : Drawn side near far pc root size (plug place (frame side color q sibling ∷ way))
  pub firm : Firm side sibling
  pub is : s ≡ top_of sibling

-- post_remove: the place lacks a black node, s is its sibling, and all siblings on the way up are as the rules ask for
pub record Lacking (left right pc : List ℕ) (root s : ℕ) : Type 0 where
  pub size : ℕ
  pub place : Tree
  pub side : Side
  pub color : Color
  pub parent : ℕ
  pub sibling : Tree
  pub way : List Frame
  pub held : Drawn lft left right pc root size (plug place (frame side color parent sibling ∷ way))
  pub solid : Solid (frame side color parent sibling ∷ way)
  pub is : s ≡ top_of sibling

-- the way up from that place
abbrev pub path : {left right pc : List ℕ} {root s : ℕ} → Lacking left right pc root s → List Frame
path k = frame k.side k.color k.parent k.sibling ∷ k.way

-- sink_end: the missing black isn't passed further up
pub record SinkEndPre (left right pc : List ℕ) (root s : ℕ) : Type 0 where
  pub lacking : Lacking left right pc root s
  pub last : passes (path lacking) ≡ false
