-- 01, "Removal": a node is spliced out, and a black node that is then missing on a way is made up for.
use Rattle.std.specs.Prelude.{ℕ, Bool, true, false, ◌||◌, List, [], ◌∷◌, ◌++◌, eqb}
use Rattle.std.proofs.Math.Option.{Option, none, some}
use Rattle.model.specs.Branch.{choose}
use Rattle.model.specs.Tree.{Side, lft, rgt, Color, red, black, Tree, leaf, node, opp, nod, top_of, child_tree}
use Rattle.model.specs.Tree.{is_red, paint, paint_child, rotate, Frame, frame, plug}

-- ---- a node in its place
pub record Focus : Type 0 where
  pub color : Color
  pub left : Tree
  pub slot : ℕ
  pub right : Tree
  pub way : List Frame

abbrev pub focus_on : Color → Tree → ℕ → Tree → List Frame → Focus
focus_on c l x r w = record { color = c; left = l; slot = x; right = r; way = w }

abbrev pub or_else : Option Focus → (Unit {0} → Option Focus) → Option Focus
or_else none more = more tt
or_else (some f) more = some f

-- the node with this slot
abbrev pub focus : (slot : ℕ) → Tree → List Frame → Option Focus
focus s leaf w = none
focus s (node c l x r) w =
    choose (eqb s x) (λ _. some (focus_on c l x r w)) λ _.
    or_else (focus s l (frame lft c x r ∷ w)) λ _. focus s r (frame rgt c x l ∷ w)

abbrev pub at_focus : {A : Type 0} → Option Focus → (missing : A) → (Focus → A) → A
at_focus none missing there = missing
at_focus (some f) missing there = there f

-- ---- the spliced tree
-- y's colour, the child that takes y's place, and the way up from there
pub record Splice : Type 0 where
  pub lost : Color
  pub child : Tree
  pub way : List Frame

abbrev pub splice : Color → Tree → List Frame → Splice
splice c t w = record { lost = c; child = t; way = w }

-- the first node of a tree: the next of the node that has the tree on its right
abbrev pub first_of : Color → Tree → ℕ → Tree → List Frame → Focus
first_of c leaf x r w = focus_on c leaf x r w
first_of c (node k a y b) x r w = first_of k a y b (frame lft c x r ∷ w)

-- A node with two children: y, the first node of its right child, takes its place, children and colour. What is lost is
-- y's own colour, and y's right child moves up where y was.
abbrev pub move_up : Focus → Color → (left : Tree) → List Frame → Splice
move_up y c l w = splice y.color y.right (y.way ++ frame rgt c y.slot l ∷ w)

-- y is the node itself where a child is missing. Its other child, if there is one, moves up into its place.
abbrev pub spliced : Color → Tree → ℕ → Tree → List Frame → Splice
spliced c leaf x r w = splice c r w
spliced c (node k a y b) x leaf w = splice c (node k a y b) w
spliced c (node k a y b) x (node q d z e) w = move_up (first_of q d z e []) c (node k a y b) w

-- The tree after the splice, before anything is mended.
unfoldable pub spliced_tree : Splice → Tree
spliced_tree s = plug s.child s.way

-- ---- the missing black. The place lies on the side d of q, which has the colour c; w, its sibling, on the other
unfoldable pub red_child : (w : Tree) → Bool
red_child w = is_red (child_tree lft w) || is_red (child_tree rgt w)

-- Where the outer child of w is not red, its red inner child is turned up in its place.
unfoldable pub turn_inner : (d : Side) → (w : Tree) → Tree
turn_inner d w =
    choose (is_red (child_tree (opp d) w)) (λ _. w) (λ _. rotate (opp d) (paint red (paint_child d black w)))

-- w gets the colour of q, q and the outer child turn black, and q is turned down: every way has its black node back.
unfoldable pub turn_last : (d : Side) → Color → (place : Tree) → (q : ℕ) → (w : Tree) → Tree
turn_last d c t q w = rotate d (nod d black t q (paint c (paint_child (opp d) black w)))

-- q can take up the missing black by turning black itself, or the missing black falls away at the root.
abbrev pub root_or_red : Color → (above : List Frame) → Bool
root_or_red red up = true
root_or_red black [] = true
root_or_red black (f ∷ up) = false

-- A black sibling. With a red child it ends by rotations; else w turns red, and q takes the black or passes it on up.
unfoldable pub below_black : (d : Side) → Color → (place : Tree) → (q : ℕ) → (w : Tree) → List Frame
    → (repeat : Tree → Tree) → Tree
below_black d c t q w up repeat =
    choose (red_child w) (λ _. plug (turn_last d c t q (turn_inner d w)) up) λ _.
    choose (root_or_red c up) (λ _. plug (nod d black t q (paint red w)) up) λ _.
    repeat (nod d c t q (paint red w))

-- A red sibling is turned up over q, which turns red. Above the place are then q, red, with the inner child of w as its
-- new sibling, and above q the old w, black. As q is red, nothing is passed on.
unfoldable pub below_red : (d : Side) → (place : Tree) → (q : ℕ) → (w : Tree) → List Frame → Tree
below_red d t q w up =
    below_black d red t q (child_tree d w) (frame d black (top_of w) (child_tree (opp d) w) ∷ up) (λ t. t)

unfoldable pub refill : (place : Tree) → List Frame → Tree
refill t [] = t
refill t (frame d c q w ∷ up) =
    choose (is_red w) (λ _. below_red d t q w up) (λ _. below_black d c t q w up (λ t. refill t up))

-- A lost red node costs no way a black one. A child that moved up makes up for a black one by turning black itself.
unfoldable pub mend : Color → (child : Tree) → List Frame → Tree
mend red t w = plug t w
mend black leaf w = refill leaf w
mend black (node c l x r) w = plug (node black l x r) w

unfoldable pub mend_splice : Splice → Tree
mend_splice s = mend s.lost s.child s.way

unfoldable pub take_out : Focus → Tree
take_out f = mend_splice (spliced f.color f.left f.slot f.right f.way)

-- the tree without the slot
unfoldable pub removed : (slot : ℕ) → Tree → Tree
removed s t = at_focus (focus s t []) t take_out

-- The new slot in the place of another, with its children and colour.
unfoldable pub replaced : (position slot : ℕ) → Tree → Tree
replaced p s t = at_focus (focus p t []) t λ f. plug (node f.color f.left s f.right) f.way
