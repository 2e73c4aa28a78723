-- far_turn, near_turn, lower_end and red_turn: what each requires, and what the last one leaves.
use Rattle.std.specs.Prelude.{ℕ, ◌≤◌, ◌<◌, List, ◌∷◌, ◌≡◌, length}
use Rattle.model.specs.Tree.{Side, opp, Color, red, black, Tree, nod, Frame, frame}
use Rattle.model.specs.Lent.{at}
use Rattle.theory.specs.Slots.{parent_at}
use Rattle.theory.specs.Programs.{red_turn}
use Rattle.theory.specs.Places.{Bounded, Spot, Mirrored}
use Rattle.links.specs.declared.types.Links.{Links}
use Rattle.links.specs.Bundles.{LinksLeft}

-- far_turn: the sibling is the far child of the parent, and has a far child itself
pub record FarTurnPre (near far pc : List ℕ) (root sibling parent : ℕ) : Type 0 where
  pub bounded : Bounded near far pc root
  pub low : 0 < sibling
  pub high : sibling ≤ length near
  pub parent_low : 0 < parent
  pub parent_high : parent ≤ length near
  pub outer : 0 < at far sibling
  pub child : 0 < at far parent

-- near_turn: the inner slot, which is the sibling's near child, is red, and the sibling is its parent's far child
pub record NearTurnPre (near far pc : List ℕ) (root sibling inner : ℕ) : Type 0 where
  pub side : Side
  pub size : ℕ
  pub inner_near : Tree
  pub inner_far : Tree
  pub color : Color
  pub outer : Tree
  pub parent_color : Color
  pub parent : ℕ
  pub place : Tree
  pub way : List Frame
  pub spot : Spot side near far pc root size side red inner_near inner inner_far
      (frame side color sibling outer ∷ frame (opp side) parent_color parent place ∷ way)

-- lower_end: the sibling is black, and the far child of the parent
pub record LowerEndPre (near far pc : List ℕ) (root sibling parent : ℕ) : Type 0 where
  pub side : Side
  pub size : ℕ
  pub inner : Tree
  pub outer : Tree
  pub parent_color : Color
  pub place : Tree
  pub way : List Frame
  pub spot : Spot side near far pc root size side black inner sibling outer
      (frame (opp side) parent_color parent place ∷ way)

-- red_turn: the sibling is red, the far child of the parent, and has a black near child, the inner slot
pub record RedTurnPre (near far pc : List ℕ) (root sibling parent : ℕ) : Type 0 where
  pub side : Side
  pub size : ℕ
  pub inner_near : Tree
  pub inner : ℕ
  pub inner_far : Tree
  pub outer : Tree
  pub parent_color : Color
  pub place : Tree
  pub way : List Frame
  pub spot : Spot side near far pc root size side red (nod side black inner_near inner inner_far) sibling outer
      (frame (opp side) parent_color parent place ∷ way)

-- the new sibling is black, so that lower_end may follow
pub record RedTurned (near far pc : List ℕ) (root sibling parent : ℕ) (near' far' pc' : List ℕ) (root' new : ℕ)
    : Type 0 where
  pub made : Mirrored (λ d k. red_turn d k sibling parent) near far pc root near' far' pc' root'
  pub is : new ≡ at far' (at near' sibling)
  pub lower : LowerEndPre near' far' pc' root' new (parent_at pc' new)

-- the same of a bundle, from the entry to the exit
abbrev pub RedTurnedIn : Links → (sibling parent : ℕ) → LinksLeft → (new : ℕ) → Type 0
RedTurnedIn k sibling parent e new =
    RedTurned k.0.now k.1.now k.2.now k.3.now sibling parent e.0.now e.1.0.now e.1.1.0.now e.1.1.1.0.now new
