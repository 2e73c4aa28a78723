-- What the functions that hang a slot require, and what they tell or leave.
use Rattle.std.specs.Prelude.{ℕ, ◌≤◌, ◌<◌, List, ◌≡◌, eqb, length}
use Rattle.model.specs.Branch.{choose, pick}
use Rattle.model.specs.Tree.{Side, lft, rgt, opp, leaf, slots, Frame, plug, above, side_of}
use Rattle.model.specs.Lent.{Lent, at, key_of, tree_of}
use Rattle.model.specs.WellFormed.{WellFormed}
use Rattle.model.specs.Order.{next_in}
use Rattle.model.specs.Hanging.{hang}
use Rattle.model.specs.Descent.{Entry, vacant, probes, find_landing, entry_for}
use Rattle.model.specs.Answers.{Outcome, outcome, done, out_of_order, refused}
use Rattle.model.specs.Operations.{with_placed}
use Rattle.theory.specs.Slots.{Below}
use Rattle.theory.specs.Lists.{facing, place_next}
use Rattle.theory.specs.Between.{between}
use Rattle.descent.specs.declared.types.InsertCursor.{InsertCursor}
use Rattle.links.specs.Sides as sides
use Rattle.descent.specs.Entries.{place_told}
use Rattle.refusals.specs.Tested.{Beside}
use Rattle.placing.specs.declared.types.Gap.{Gap}
use Rattle.placing.specs.Positions.{Free}

-- ---- hang_at

-- the code's place is the one at the end of the way w; in an empty tree it has no side
pub record At (place : InsertCursor) (w : List Frame) : Type 0 where
  pub parent_is : place.parent.0 ≡ above w
  pub side_is : 0 < above w → sides.side_of place.side ≡ side_of w

-- the lent numbers are well formed, the place is an empty one of their tree, and s is free
pub record HangPre (m : Lent) (place : InsertCursor) (s : ℕ) : Type 0 where
  pub well : WellFormed m
  pub way : List Frame
  pub whole : plug leaf way ≡ tree_of m
  pub there : At place way
  pub free : Free m s

-- s hangs there, with the key k
pub record HungAt (m : Lent) (place : InsertCursor) (s k : ℕ) (m' : Lent) : Type 0 where
  pub is : (v : HangPre m place s) → m' ≡ with_placed (hang s v.way) s k m

-- ---- fill: the entry is the one that the key has now, and so are the probes

pub record FillPre (m : Lent) (entry : Entry) (n s k : ℕ) : Type 0 where
  pub well : WellFormed m
  pub free : Free m s
  pub entry_is : entry ≡ entry_for (key_of m.arrays) k (tree_of m)
  pub probes_is : n ≡ probes (find_landing (key_of m.arrays) k (tree_of m))

-- ---- beside: the place next to a position, by the child numbers on the one side

-- at the position where it has no child, else on the side d of its neighbour
unfoldable pub beside_at : List ℕ → (position neighbour : ℕ) → Side → Entry
beside_at links p n d = pick (eqb p 0) (vacant n d) (pick (eqb (at links p) 0) (vacant p (opp d)) (vacant n d))

pub record BesidePre (links : List ℕ) (p : ℕ) : Type 0 where
  pub top : p ≤ length links
  pub below : Below links

pub record FoundBeside (links : List ℕ) (p n : ℕ) (d : Side) (place : InsertCursor) : Type 0 where
  pub is : place_told place ≡ beside_at links p n d

-- ---- gap

-- of two slots the one that stands earlier, where the second is next to the first on the side d
abbrev pub earlier_of : Side → ℕ → ℕ → ℕ
earlier_of lft p n = n
earlier_of rgt p n = p

pub record GapAt (d : Side) (m : Lent) (p : ℕ) (g : Gap) : Type 0 where
  pub earlier_is : g.earlier.0 ≡ earlier_of d p (next_in p (facing d (slots (tree_of m))))
  pub later_is : g.later.0 ≡ earlier_of (opp d) p (next_in p (facing d (slots (tree_of m))))
  pub there : At g.place (place_next d p (tree_of m))

-- ---- insert_in: s goes into the gap where the key k fits, or is refused

pub record InsertPre (m : Lent) (g : Gap) (s : ℕ) : Type 0 where
  pub place : HangPre m g.place s
  pub beside : Beside m.arrays.key g.earlier.0 g.later.0

pub record InsertedIn (m : Lent) (g : Gap) (s k : ℕ) (o : Outcome) : Type 0 where
  pub is : (v : HangPre m g.place s)
      → o ≡ choose (between (key_of m.arrays) g.earlier.0 k g.later.0)
      (λ _. outcome done 0 s (with_placed (hang s v.way) s k m))
      (λ _. refused out_of_order m)
