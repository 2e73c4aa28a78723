-- What the loops of path and find keep: a descent on its way down, in every tree that the arrays draw.
use Prim.Native.Nat.{ℕ, ◌+◌, ◌-◌, ◌≤◌, ◌<◌}
use mathlib.Core.Bool.{Bool}
use mathlib.Core.List.{List, [], ◌∷◌}
use mathlib.Core.Path.{◌≡◌}
use native.Mathlib.Omega.{arith}
use lib.ListN.{length}
use Rattle.model.specs.Branch.{pick}
use Rattle.model.specs.Limits.{capacity_limit}
use Rattle.model.specs.Tree.{lft, Tree, Frame, frame}
use Rattle.theory.specs.Places.{Spot, Bounded}
use Rattle.theory.proofs.Places.{bounded, long, spot_low, spot_high}
use Rattle.links.specs.Reads.{SlotOf, GetPre, Got}
use Rattle.descent.specs.Searches.{Searchable}
use Rattle.descent.proofs.Downward.{Downward, Reached, Meeting, Leads, start, meeting, met_spot, met_deep}
use Rattle.descent.proofs.Downward.{side_if, stepped}

-- It has come down, by whatever way.
pub record Coming (S : Tree → Tree → List Frame → Type 0) (t : Tree) (here last n : ℕ) : Type 0 where
  pub way : List Frame
  pub stands : Downward S t here last n way

module _ (left right key : List ℕ) (root : ℕ) where
  -- It has, in each such tree; the last node has a key, and the nodes are few.
  pub record Keeping (S : Tree → Tree → List Frame → Type 0) (here last n : ℕ) : Type 0 where
    pub each : (v : Searchable left right key root) → Coming S v.tree here last n
    pub top : last ≤ length key
    pub few : n ≤ capacity_limit

-- at the root
unfoldable pub keep_start : {left right key : List ℕ} {root : ℕ} {S : Tree → Tree → List Frame → Type 0}
    → ((t : Tree) → S t t []) → Keeping left right key root S root 0 0
keep_start same = record {
  each = λ v. record { way = []; stands = start v.drawing (same v.tree) };
  top = omega arith;
  few = omega arith;
}

module _ {left right key : List ℕ} {root : ℕ} {S : Tree → Tree → List Frame → Type 0} {here x last n : ℕ}
    (v : Searchable left right key root) (s : Keeping left right key root S here last n) (some : Reached here x) where
  met : Meeting lft S v.tree x n (s.each v).way
  met = meeting lft (s.each v).stands some

  spot : Spot lft left right v.pc root v.size lft met.color met.near x met.far (s.each v).way
  spot = met_spot v.drawing met

  bounds : Bounded left right v.pc root
  bounds = bounded v.drawing

  -- at a slot both its children and its key may be read
  pub keep_left : GetPre left x
  keep_left = record { pos = spot_low spot; top = spot_high spot; below = bounds.near_below }

  pub keep_right : GetPre right x
  keep_right = record {
    pos = spot_low spot;
    top = omega (arith, spot_high spot, bounds.same_far);
    below = bounds.far_below;
  }

  pub keep_key : SlotOf key x
  keep_key = record { pos = spot_low spot; top = omega (arith, spot_high spot, v.keys, long v.drawing) }

  -- it has looked at fewer nodes than there are slots
  pub keep_less : length left - (n + 1) < length left - n
  keep_less = omega (arith, met_deep v.drawing met)

  pub keep_few : n + 1 ≤ capacity_limit
  keep_few = omega (arith, met_deep v.drawing met, bounds.small)

  -- one step down, to the left if the test passes
  module _ {a b next : ℕ} (goes_left : Bool) (goes : Leads S x (side_if goes_left)) (got-left : Got left x a)
      (got-right : Got right x b) (next_is : next ≡ pick goes_left a b) where
    unfoldable pub keep_on : Keeping left right key root S next x (n + 1)
    keep_on = record {
      each = λ u. let z = stepped u.drawing {next = next} goes_left (s.each u).stands some goes
          (rw (← got-left.is, ← got-right.is) next_is) in
          record { way = frame (side_if goes_left) z.color x z.sibling ∷ (s.each u).way; stands = z.stands };
      top = keep_key.top;
      few = keep_few;
    }
