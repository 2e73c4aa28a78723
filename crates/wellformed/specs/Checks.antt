-- What the functions of the check require, and what they tell.
use Rattle.std.specs.Prelude.{ℕ, ◌%◌, ◌≤◌, ◌<◌, Bool, true, false, not, List, ◌≡◌, eqb, get_or, length}
use Rattle.std.specs.Prelude.{Option, Some, None}
use Rattle.model.specs.Limits.{capacity_limit, depth_limit}
use Rattle.model.specs.Tree.{red, black}
use Rattle.model.specs.Lent.{at}
use Rattle.model.specs.Check.{tidy_slot, linked_count}
use Rattle.theory.specs.Quick.{is_child, is_node, blacks_down, stray_count, fits}
use Rattle.links.specs.Bundles.{viewed}
use Rattle.links.specs.Reads.{SlotOf}
use Rattle.links.specs.declared.types.Color as code
use Rattle.links.specs.declared.types.Color.TheVariants.{Red, Black}
use Rattle.links.specs.declared.types.View.{View}
use Rattle.wellformed.specs.declared.types.Node.{Node}
use Rattle.wellformed.specs.declared.types.Tally.{Tally}

-- the highest key
abbrev pub highest : ℕ
highest = 18446744073709551615

-- ---- one slot

-- a child of a colour, or none
abbrev pub Kin : Type 0
Kin = Option code.Color

abbrev pub is_red : Kin → Bool
is_red (Some Red) = true
is_red (Some Black) = false
is_red None = false

abbrev pub is_black : Kin → Bool
is_black (Some Red) = false
is_black (Some Black) = true
is_black None = false

-- what the child number s of p names
pub record Kinship (kin : Kin) (pc : List ℕ) (p s : ℕ) : Type 0 where
  pub red : is_child red pc p s ≡ is_red kin
  pub black : is_child black pc p s ≡ is_black kin

pub record NodePre (l r p k : List ℕ) (s : ℕ) : Type 0 where
  pub left : SlotOf l s
  pub right : SlotOf r s
  pub key : SlotOf k s

-- what any slot holds
pub record NodeIn (l r p k : List ℕ) (s : ℕ) (node : Node) : Type 0 where
  pub left : node.left.0 ≡ at l s
  pub right : node.right.0 ≡ at r s
  pub key : node.key.0 ≡ at k s

-- what a slot that passes holds
pub record Holds (l r p k : List ℕ) (s low high : ℕ) (node : Node) : Type 0 where
  pub left : node.left.0 ≡ at l s
  pub right : node.right.0 ≡ at r s
  pub key : node.key.0 ≡ at k s
  pub good : is_node (at l s) (at r s) (at k s) low high ≡ true

-- a node where the slot passes, else none
abbrev pub Found : (l r p k : List ℕ) (s low high : ℕ) → Option Node → Type 0
Found l r p k s low high (Some node) = Holds l r p k s low high node
Found l r p k s low high None = is_node (at l s) (at r s) (at k s) low high ≡ false

pub record NodeAt (l r p k : List ℕ) (s low high : ℕ) (found : Option Node) : Type 0 where
  pub is : Found l r p k s low high found

-- ---- the walk

-- the arrays are equally long and not too long, and s is a slot
pub record Ready (l r p k : List ℕ) (s : ℕ) : Type 0 where
  pub left : length l ≡ length p
  pub right : length r ≡ length p
  pub key : length k ≡ length p
  pub small : length p ≤ capacity_limit
  pub pos : 0 < s
  pub top : s ≤ length p

pub record TipPre (l r p k : List ℕ) (parent s : ℕ) : Type 0 where
  pub ready : Ready l r p k s
  pub above : parent ≤ capacity_limit

-- under a red slot the depth left is odd, under a black one even
pub record RedPre (l r p k : List ℕ) (depth s : ℕ) : Type 0 where
  pub ready : Ready l r p k s
  pub deep : depth ≤ depth_limit
  pub odd : depth % 2 ≡ 1

pub record BlackPre (l r p k : List ℕ) (depth s : ℕ) : Type 0 where
  pub ready : Ready l r p k s
  pub deep : depth ≤ depth_limit
  pub even : depth % 2 ≡ 0

-- a black slot that isn't the last one of a way
pub record DeepPre (l r p k : List ℕ) (depth s : ℕ) : Type 0 where
  pub pre : BlackPre l r p k depth s
  pub deep : 2 < depth

-- the black nodes on the leftmost way
pub record Descended (l p : List ℕ) (root blacks : ℕ) : Type 0 where
  pub is : blacks ≡ blacks_down depth_limit l p root
  pub small : blacks ≤ depth_limit

-- ---- all slots

-- a slot breaks W2
abbrev pub stray : (left right pc : ℕ) → Bool
stray l r p = not (tidy_slot l r p)

pub record SameLengths (l r p k : List ℕ) : Type 0 where
  pub left : length l ≡ length p
  pub right : length r ≡ length p
  pub small : length p ≤ capacity_limit

pub record Tallied (l r p k : List ℕ) (tally : Tally) : Type 0 where
  pub linked : tally.linked ≡ linked_count p
  pub strays : tally.strays ≡ stray_count l r p
  pub small : tally.linked ≤ capacity_limit

-- ---- W1

-- each key is at most the highest
abbrev pub Low : (k : List ℕ) → Type 0
Low k = (i : ℕ) → get_or k i 0 ≤ highest

pub record HasKeys (k : List ℕ) (slots : ℕ) (yes : Bool) : Type 0 where
  pub is : yes ≡ eqb (length k) slots
  pub low : Low k

pub record Fits (v : View) (yes : Bool) : Type 0 where
  pub is : yes ≡ fits (viewed v)
  pub low : Low v.key.now

pub record Rooted (l r p k : List ℕ) (root : ℕ) : Type 0 where
  pub left : length l ≡ length p
  pub right : length r ≡ length p
  pub key : length k ≡ length p
  pub small : length p ≤ capacity_limit
  pub within : root ≤ length p
