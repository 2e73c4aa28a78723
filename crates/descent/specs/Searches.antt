-- What the descents require, and where they end: their promises hold of every tree that the arrays draw.
use Rattle.std.specs.Prelude.{ℕ, ◌≤◌, Bool, false, List, [], ◌≡◌, eqb, ltb, length}
use Rattle.model.specs.Branch.{pick}
use Rattle.model.specs.Tree.{Side, lft, rgt, Tree}
use Rattle.model.specs.Lent.{at}
use Rattle.model.specs.Order.{first_slot}
use Rattle.model.specs.Descent.{Step, leftward, rightward, left_if, Landing, descend, path, probes, last_turn}
use Rattle.model.specs.Descent.{lower_landing, lower_slot, upper_landing, upper_slot, find_landing, find_slot}
use Rattle.model.specs.Descent.{entry_for}
use Rattle.theory.specs.Places.{Drawn}
use Rattle.links.specs.declared.types.Key.{Key}
use Rattle.links.specs.declared.types.View.{View}
use Rattle.links.specs.Sides.{side_of}
use Rattle.descent.specs.declared.types.Path.{Path}
use Rattle.descent.specs.declared.types.Met.{Met}
use Rattle.descent.specs.declared.types.InsertCursor.{InsertCursor}
use Rattle.descent.specs.declared.types.Sought.{Sought}
use Rattle.descent.specs.Entries.{entry_told}

-- ---- what a descent requires

-- a demand on the numbers that a descent reads, or a promise about them
abbrev pub Seen : {A : Type 1} → (List ℕ → List ℕ → List ℕ → ℕ → A) → View → A
Seen f v = f v.left.now v.right.now v.key.now v.root.0

-- The links draw a tree, and each slot has a key.
pub record Searchable (left right key : List ℕ) (root : ℕ) : Type 0 where
  pub pc : List ℕ
  pub size : ℕ
  pub tree : Tree
  pub drawing : Drawn lft left right pc root size tree
  pub keys : length key ≡ size

-- edge: near has the links of one side of a tree.
pub record Sloping (near : List ℕ) (root : ℕ) : Type 0 where
  pub side : Side
  pub far : List ℕ
  pub pc : List ℕ
  pub size : ℕ
  pub tree : Tree
  pub drawing : Drawn side near far pc root size tree

-- ---- its tests

-- path: over is what each call of its test tells of the key held
abbrev pub Tells : (post : Key → Bool → Type 0) → (over : ℕ → Bool) → Type 0
Tells post over = (held : Key) (told : Bool) → post held told → told ≡ over held.0

-- is_leaf: both children are missing
abbrev pub childless : (first second : ℕ) → Bool
childless a b = pick (eqb a 0) (eqb b 0) false

-- place: there is a slot, and the key k belongs on its left
unfoldable pub left_of : (key : List ℕ) → (slot k : ℕ) → Bool
left_of key s k = pick (eqb s 0) false (ltb k (at key s))

-- the comparison of path: to the left where the test of the key says so
unfoldable pub over_step : (ℕ → ℕ) → (over : ℕ → Bool) → ℕ → Step
over_step key over x = left_if (over (key x))

-- that of edge: always to the side
abbrev pub toward : Side → Step
toward lft = leftward
toward rgt = rightward

-- ---- the two bounds: the lower one for the left side, the upper one for the right side

abbrev pub bound_landing : Side → (ℕ → ℕ) → (kind k : ℕ) → Tree → Landing
bound_landing lft key kind k t = lower_landing key kind k t
bound_landing rgt key kind k t = upper_landing key kind k t

abbrev pub bound_slot : Side → Landing → ℕ
bound_slot lft e = lower_slot e
bound_slot rgt e = upper_slot e

-- ---- what the code tells of a descent that ends at e

-- the last node on the path, or 0
unfoldable pub last_node : Landing → ℕ
last_node e = first_slot (path e)

-- the last turn of a path to the side
abbrev pub turn_of : Side → Path → ℕ
turn_of lft p = p.over.0
turn_of rgt p = p.under.0

-- its last node, the last turns to either side, and the probes
pub record PathTo (e : Landing) (p : Path) : Type 0 where
  pub last_is : p.last.0 ≡ last_node e
  pub under_is : p.under.0 ≡ last_turn rgt e.way
  pub over_is : p.over.0 ≡ last_turn lft e.way
  pub probes_is : p.probes ≡ probes e

-- the slot that it looks for, its last node, and the probes
pub record MetAt (e : Landing) (slot : ℕ) (m : Met) : Type 0 where
  pub slot_is : m.slot.0 ≡ slot
  pub last_is : m.last.0 ≡ last_node e
  pub probes_is : m.probes ≡ probes e

-- the same numbers as the code has them
abbrev pub met_of : (slot last n : ℕ) → Met
met_of slot last n = record { slot = record { 0 = slot }; last = record { 0 = last }; probes = n }

-- ---- the promises

-- edge: the last turn to the side
pub record FoundEdge (near : List ℕ) (root : ℕ) (m : Met) : Type 0 where
  pub is : (v : Sloping near root) → let e = descend (λ _. toward v.side) v.tree [] in
      MetAt e (last_turn v.side e.way) m

-- place: under the slot last, on the side where the key k belongs
pub record FoundPlace (key : List ℕ) (last k : ℕ) (place : InsertCursor) : Type 0 where
  pub parent_is : place.parent.0 ≡ last
  pub side_is : side_of place.side ≡ pick (left_of key last k) lft rgt

module _ (left right key : List ℕ) (root : ℕ) where
  -- path, to the left of the keys that pass the test
  pub record FoundPath (over : ℕ → Bool) (p : Path) : Type 0 where
    pub is : (v : Searchable left right key root) → PathTo (descend (over_step (at key) over) v.tree []) p
    pub top : p.last.0 ≤ length key

  pub record FoundPathBy (post : Key → Bool → Type 0) (p : Path) : Type 0 where
    pub is : (over : ℕ → Bool) → Tells post over → FoundPath over p
    pub top : p.last.0 ≤ length key

  -- find
  pub record FoundKey (k : ℕ) (m : Met) : Type 0 where
    pub is : (v : Searchable left right key root)
        → MetAt (find_landing (at key) k v.tree) (find_slot (at key) k v.tree) m
    pub top : m.last.0 ≤ length key

  -- bound
  pub record FoundBound (d : Side) (kind k : ℕ) (m : Met) : Type 0 where
    pub is : (v : Searchable left right key root) → let e = bound_landing d (at key) kind k v.tree in
        MetAt e (bound_slot d e) m

  -- entry
  pub record FoundEntry (k : ℕ) (s : Sought) : Type 0 where
    pub is : (v : Searchable left right key root) → entry_told s.entry ≡ entry_for (at key) k v.tree
    pub probes_is : (v : Searchable left right key root) → s.probes ≡ probes (find_landing (at key) k v.tree)
