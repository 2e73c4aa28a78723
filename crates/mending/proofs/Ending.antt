-- sink_end: each call's demands, from what the calls before it left, and the promise.
use Prim.Native.Nat.{ℕ}
use mathlib.Core.Bool.{Bool, true, false}
use mathlib.Core.List.{List}
use mathlib.Core.Path.{◌≡◌, sym, ◌∙◌}
use lib.ListN.{length}
use lib.Dec.{eqb}
use Rattle.model.specs.Branch.{pick}
use Rattle.model.specs.Tree.{Side, lft, rgt, opp, same_side}
use Rattle.theory.specs.Links.{links, children, side_in}
use Rattle.theory.specs.Rounds.{sink_at, sink_end}
use Rattle.theory.specs.Places.{Mirrored, Made}
use Rattle.theory.proofs.Sided.{sided_near, sided_parent}
use Rattle.theory.proofs.Places.{drawn_sided, spot_bounded, spot_parent, spot_up, spot_side}
use Rattle.links.specs.Reads.{GetPre, Got, ParentPre, GotParent}
use Rattle.links.proofs.Spots.{spot_in, in_get, in_parent}
use Rattle.turns.proofs.Mirrors.{to_left, to_right}
use Rattle.mending.specs.Climbs.{SinkAtPre, Lacking}
use Rattle.mending.proofs.Rounding.{Beside, beside}

-- the sibling in focus
pub lack_beside : {left right pc : List ℕ} {root slot : ℕ} (pre : Lacking left right pc root slot)
    → Beside lft left right pc root pre.size pre.side pre.color pre.parent pre.place pre.way slot
lack_beside pre =
    beside pre.side pre.color pre.parent pre.place pre.way pre.sibling pre.held pre.solid.0
    pre.is

-- the side of a place, by the test whether its sibling is a left child
side_by : (d : Side) (test : Bool) → test ≡ same_side (opp d) lft → d ≡ opp (pick test lft rgt)
side_by lft test tested = rw tested
side_by rgt test tested = rw tested

module _ {left right pc : List ℕ} {root slot : ℕ} (pre : Lacking left right pc root slot) where
  pub end_parent : ParentPre pc slot
  end_parent = in_parent (spot_in (lack_beside pre).spot)

  module _ {parent : ℕ} (up : GotParent pc slot parent) where
    parent_is : parent ≡ pre.parent
    parent_is = up.is ∙ spot_parent (lack_beside pre).spot

    pub end_get : GetPre left parent
    end_get = rw parent_is (in_get (spot_in (spot_up (lack_beside pre).spot)))

    -- the near side is the one on which the place hangs
    end_sink : (d : Side) → pre.side ≡ d → let all = links left right pc root in
        SinkAtPre (children d all) (children (opp d) all) pc root slot parent
    end_sink d side_is = rw parent_is (record {
      side = d;
      size = pre.size;
      place = pre.place;
      color = pre.color;
      sibling = pre.sibling;
      way = pre.way;
      held = drawn_sided d (rw side_is at pre.held);
      firm = rw side_is at pre.solid.0;
      is = pre.is;
    })

    module _ {child : ℕ} (first : Got left parent child) {test : Bool} (tested : test ≡ eqb child slot) where
      side_is : pre.side ≡ opp (pick test lft rgt)
      side_is = side_by pre.side test (rw (tested, first.is, parent_is) (spot_side (lack_beside pre).spot))

      pub end_left : test ≡ false → SinkAtPre left right pc root slot parent
      end_left apart = end_sink lft (side_is ∙ rw apart)

      pub end_right : test ≡ true → SinkAtPre right left pc root slot parent
      end_right same = end_sink rgt (side_is ∙ rw same)

      end_by : sink_end (links left right pc root) slot
          ≡ sink_at (opp (pick test lft rgt)) (links left right pc root) slot parent
      unfolding sink_end side_in
      end_by =
          rw (
            sided_parent lft left right pc root slot,
            ← up.is,
            sided_near lft left right pc root parent,
            ← first.is,
            ← tested,
          )

      pub ended_left : {left' right' pc' : List ℕ} {root' : ℕ} → test ≡ false
          → Mirrored (λ d k. sink_at d k slot parent) left right pc root left' right' pc' root'
          → Made (sink_end (links left right pc root) slot) (length left) left' right' pc' root'
      ended_left apart made = rw (end_by, apart) (to_left made)

      pub ended_right : {left' right' pc' : List ℕ} {root' : ℕ} → test ≡ true
          → Mirrored (λ d k. sink_at d k slot parent) right left pc root right' left' pc' root'
          → Made (sink_end (links left right pc root) slot) (length left) left' right' pc' root'
      ended_right same made =
          rw (end_by, same) (to_right made (sym (spot_bounded (lack_beside pre).spot).same_far))
