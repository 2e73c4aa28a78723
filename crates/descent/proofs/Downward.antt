-- A descent on its way down a drawing: where it stands in the tree, what the arrays hold there, and one step more.
use Prim.Native.Nat.{ℕ, ◌+◌, ◌<◌}
use mathlib.Core.Bool.{Bool, true, false}
use mathlib.Core.List.{List, [], ◌∷◌, map}
use mathlib.Core.Path.{◌≡◌, refl, ap, sym, ◌∙◌}
use native.Mathlib.Omega.{arith}
use lib.Dec.{eqb}
use lib.ListN.{length}
use borrow.Author.Tests.{eqb-true}
use Rattle.model.specs.Branch.{pick}
use Rattle.model.specs.Tree.{Side, lft, rgt, Color, Tree, leaf, node, nod, top_of, Frame, frame, framed, plug, above}
use Rattle.model.specs.Lent.{at}
use Rattle.model.specs.Draw.{lay, draw}
use Rattle.model.specs.Order.{first_slot}
use Rattle.model.specs.Descent.{Step, left_if, Landing, landing, descend, path}
use Rattle.theory.specs.Links.{Links, drawn}
use Rattle.theory.specs.Places.{Drawn, Spot}
use Rattle.theory.proofs.Branch.{by-test}
use Rattle.theory.proofs.Sides.{by_side}
use Rattle.theory.proofs.Places.{spot_low, spot_near, spot_over}
use Rattle.theory.proofs.Depth.{spot_deep}
use Rattle.theory.proofs.Height.{height_nod}
use Rattle.descent.specs.Searches.{childless, toward, last_node}

-- from a tree below the way it goes on as the descent from the root does
pub record By (step : ℕ → Step) (t below : Tree) (w : List Frame) : Type 0 where
  pub is : descend step below w ≡ descend step t []

pub by_start : {step : ℕ → Step} (t : Tree) → By step t t []
by_start t = record { is = refl }

-- whatever way it goes
abbrev pub Anyhow : (t below : Tree) → List Frame → Type 0
Anyhow t u w = Unit {0}

-- It has come by the way w, over n nodes, the last of them `last`, to the slot here, or where that is 0 to a missing
-- child; S says how it goes on from there.
pub record Downward (S : Tree → Tree → List Frame → Type 0) (t : Tree) (here last n : ℕ) (w : List Frame)
    : Type 0 where
  pub place : Tree
  pub whole : plug place w ≡ t
  pub here_is : here ≡ top_of place
  pub last_is : last ≡ above w
  pub count_is : n ≡ length w
  pub same : S t place w

-- where it stands there is the slot x
abbrev pub Reached : (here x : ℕ) → Type 0
Reached here x = (0 < x) × (x ≡ here)

-- It has come to the node x, seen from the side d.
pub record Meeting (d : Side) (S : Tree → Tree → List Frame → Type 0) (t : Tree) (x n : ℕ) (w : List Frame)
    : Type 0 where
  pub color : Color
  pub near : Tree
  pub far : Tree
  pub whole : plug (nod d color near x far) w ≡ t
  pub count_is : n ≡ length w
  pub same : S t (nod d color near x far) w

root_is : (d : Side) {near far pc : List ℕ} {root C : ℕ} {t : Tree} → Drawn d near far pc root C t → root ≡ top_of t
unfolding drawn draw lay
root_is lft k = ap (λ (z : Links). z.root) k.is
root_is rgt k = ap (λ (z : Links). z.root) k.is

-- from x it goes on at the child on the side
abbrev pub Leads : (S : Tree → Tree → List Frame → Type 0) → (x : ℕ) → Side → Type 0
Leads S x d =
    (t : Tree) (c : Color) (near far : Tree) (w : List Frame)
    → S t (nod d c near x far) w → S t near (frame d c x far ∷ w)

-- a comparison that sends to the side leads there
turn : (step : ℕ → Step) (d : Side) (c : Color) (near : Tree) (x : ℕ) (far : Tree) (w : List Frame) → step x ≡ toward d
    → descend step (nod d c near x far) w ≡ descend step near (frame d c x far ∷ w)
turn step lft c near x far w e = rw e
turn step rgt c near x far w e = rw e

pub sends : {step : ℕ → Step} {x : ℕ} (d : Side) → step x ≡ toward d → Leads (By step) x d
sends {step} {x} d e t c near far w same = record { is = sym (turn step d c near x far w e) ∙ same.is }

module _ {S : Tree → Tree → List Frame → Type 0} {t : Tree} where
  -- at a slot
  pub meeting : {here x last n : ℕ} {w : List Frame} (d : Side) → Downward S t here last n w → Reached here x
      → Meeting d S t x n w
  meeting {here} {x} {last} {n} {w} d s some =
      by_side d
      (λ u. plug u w ≡ t → x ≡ top_of u → S t u w → Meeting d S t x n w)
      (λ whole is same. let none : x ≡ 0 = is in absurd (omega (arith, some.0, none)))
      (λ c near y far whole is same. rw is (record {
        color = c;
        near = near;
        far = far;
        whole = whole;
        count_is = s.count_is;
        same = same;
      }))
      s.place s.whole (some.1 ∙ s.here_is) s.same

  -- one step down to the side
  pub moved : {x n next : ℕ} {w : List Frame} (d : Side) (s : Meeting d S t x n w) → Leads S x d
      → next ≡ top_of s.near → Downward S t next x (n + 1) (frame d s.color x s.far ∷ w)
  moved {x} {w = w} d s e is = record {
    place = s.near;
    whole = s.whole;
    here_is = is;
    last_is = refl;
    count_is = omega (arith, s.count_is);
    same = e t s.color s.near s.far w s.same;
  }

  module _ {d : Side} {near far pc : List ℕ} {root C : ℕ} (k : Drawn d near far pc root C t) where
    -- at the root
    pub start : S t t [] → Downward S t root 0 0 []
    start same = record {
      place = t;
      whole = refl;
      here_is = root_is d k;
      last_is = refl;
      count_is = refl;
      same = same;
    }

    module _ {x n : ℕ} {w : List Frame} {e : Side} (s : Meeting e S t x n w) where
      -- the node's place in the drawing
      pub met_spot : Spot d near far pc root C e s.color s.near x s.far w
      met_spot = record { held = rw s.whole k }

      -- fewer nodes are above it than there are slots
      pub met_deep : n < length near
      met_deep = omega (arith, spot_deep met_spot, s.count_is, height_nod e s.color s.near x s.far)

-- where a child is missing, it has ended
pub ended : {d : Side} {near far pc : List ℕ} {root C : ℕ} {step : ℕ → Step} {t : Tree} → Drawn d near far pc root C t
    → {here last n : ℕ} {w : List Frame} → Downward (By step) t here last n w → here ≡ 0
    → descend step t [] ≡ landing leaf w
ended {d} {near} {far} {pc} {root} {C} {step} {t} k {here} {last} {n} {w} s none =
    go s.place s.whole (sym none ∙ s.here_is) s.same
  where
    go : (u : Tree) → plug u w ≡ t → 0 ≡ top_of u → By step t u w → descend step t [] ≡ landing leaf w
    go leaf whole is same = sym same.is
    go (node c l x r) whole is same =
        let z : Spot d near far pc root C lft c l x r w = record { held = rw whole k } in
        absurd (omega (arith, spot_low z))

-- the last node of a descent that ends at an empty place
pub last_node_empty : (e : Landing) → e.place ≡ leaf → last_node e ≡ above e.way
unfolding last_node path
last_node_empty e empty = rw empty (go e.way)
  where
    go : (w : List Frame) → first_slot (map framed w) ≡ above w
    go [] = refl
    go (frame d c p s ∷ w) = refl

-- ---- over both arrays of children

-- the left side, if the test passes
abbrev pub side_if : Bool → Side
side_if b = pick b lft rgt

pub turn_if : {step : ℕ → Step} {x : ℕ} (goes_left : Bool) → step x ≡ left_if goes_left
    → Leads (By step) x (side_if goes_left)
turn_if true e = sends lft e
turn_if false e = sends rgt e

-- it has gone left from here if the test passes, else right
pub record Stepped (S : Tree → Tree → List Frame → Type 0) (t : Tree) (goes_left : Bool) (next here n : ℕ)
    (w : List Frame) : Type 0 where
  pub color : Color
  pub sibling : Tree
  pub stands : Downward S t next here n (frame (side_if goes_left) color here sibling ∷ w)

module _ {left right pc : List ℕ} {root C : ℕ} {t : Tree} (k : Drawn lft left right pc root C t)
    {S : Tree → Tree → List Frame → Type 0} where
  pub stepped : {here x last n next : ℕ} {w : List Frame} (goes_left : Bool) → Downward S t here last n w
      → Reached here x → Leads S x (side_if goes_left) → next ≡ pick goes_left (at left x) (at right x)
      → Stepped S t goes_left next x (n + 1) w
  stepped true s some goes is =
      let m = meeting lft s some in
      record { color = m.color; sibling = m.far; stands = moved lft m goes (is ∙ spot_near (met_spot k m)) }
  stepped false s some goes is =
      let m = meeting rgt s some in
      record { color = m.color; sibling = m.far; stands = moved rgt m goes (is ∙ spot_over (met_spot k m)) }

-- below a leaf it finds nothing
pub none_picked : (goes_left : Bool) (a b : ℕ) {next : ℕ} → childless a b ≡ true → next ≡ pick goes_left a b → next ≡ 0
none_picked goes_left a b {next} none is = by-test (eqb a 0)
    (λ e. let f : eqb b 0 ≡ true = rw e at none in go goes_left (eqb-true a 0 e) (eqb-true b 0 f) is)
    (λ e. let f : false ≡ true = rw e at none in cc)
  where
    go : (g : Bool) → a ≡ 0 → b ≡ 0 → next ≡ pick g a b → next ≡ 0
    go true p q is = is ∙ p
    go false p q is = is ∙ q
