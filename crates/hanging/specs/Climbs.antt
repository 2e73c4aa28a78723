-- settle, finish_at, finish and post_insert: what each requires, and the programs that they are.
use Rattle.std.specs.Prelude.{ℕ, ◌≤◌, ◌<◌, List, [], ◌∷◌, ◌≡◌, length}
use Rattle.model.specs.Branch.{pick}
use Rattle.model.specs.Tree.{Side, lft, Color, red, black, Tree, top_of, is_red, Frame, frame}
use Rattle.model.specs.Lent.{at}
use Rattle.theory.specs.Balance.{Topped}
use Rattle.theory.specs.Slots.{parent_at}
use Rattle.theory.specs.Links.{Links, parent_in, side_in, red_in}
use Rattle.theory.specs.Programs.{settle, finish}
use Rattle.theory.specs.Places.{Bounded, Spot}
use Rattle.hanging.specs.Recolors.{grand_at}

-- ---- settle: the slot x has a parent, which is the near child of its own

pub record SettlePre (near far pc : List ℕ) (root x : ℕ) : Type 0 where
  pub bounded : Bounded near far pc root
  pub low : 0 < x
  pub high : x ≤ length near
  pub parent : 0 < parent_at pc x
  pub grand : 0 < grand_at pc x
  pub child : 0 < at near (grand_at pc x)

unfoldable pub settle_at : (x : ℕ) → Side → Links → Links
settle_at x d k = settle d k x

-- ---- finish_at: x hangs on the side `inner` of q, which is red and the near child of its own parent

pub record FinishAtPre (near far pc : List ℕ) (root x q : ℕ) : Type 0 where
  pub side : Side
  pub inner : Side
  pub size : ℕ
  pub color : Color
  pub near_tree : Tree
  pub far_tree : Tree
  pub sibling : Tree
  pub grand : ℕ
  pub grand_color : Color
  pub uncle : Tree
  pub way : List Frame
  pub spot : Spot side near far pc root size side color near_tree x far_tree
      (frame inner red q sibling ∷ frame side grand_color grand uncle ∷ way)

unfoldable pub finish_at : (x q : ℕ) → Side → Links → Links
finish_at x q d k = finish d k x q

-- ---- post_insert and finish

-- the arrays draw a tree in which x stands, and whose root is black, save where that is x
pub record PostInsertPre (left right pc : List ℕ) (root x : ℕ) : Type 0 where
  pub size : ℕ
  pub color : Color
  pub left_tree : Tree
  pub right_tree : Tree
  pub way : List Frame
  pub spot : Spot lft left right pc root size lft color left_tree x right_tree way
  pub topped : Topped way

-- the slot of the place's uncle where it and the parent are red, else 0
abbrev pub red_uncle : List Frame → ℕ
red_uncle [] = 0
red_uncle (frame d black p s ∷ w) = 0
red_uncle (frame d red p s ∷ []) = 0
red_uncle (frame d red p s ∷ frame e c g u ∷ w) = pick (is_red u) (top_of u) 0

-- beside that, there is no red uncle
pub record FinishPre (left right pc : List ℕ) (root x : ℕ) : Type 0 where
  pub here : PostInsertPre left right pc root x
  pub none : red_uncle here.way ≡ 0

-- the last step below a red parent
unfoldable pub finish_in : Links → (x : ℕ) → Links
finish_in k x =
    let p = parent_in k x in
    pick (red_in k p) (finish (side_in k p (parent_in k p)) k x p) k
