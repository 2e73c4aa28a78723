-- The loop of edge: it goes down one side of the tree, to the end.
use Prim.Native.Nat.{ℕ, ◌+◌, ◌-◌, ◌≤◌, ◌<◌}
use mathlib.Core.List.{List, [], ◌∷◌}
use mathlib.Core.Path.{◌≡◌, refl, ap, sym, ◌∙◌}
use native.Mathlib.Omega.{arith}
use lib.ListN.{length}
use Rattle.model.specs.Limits.{capacity_limit}
use Rattle.model.specs.Tree.{Side, lft, rgt, Tree, leaf, node, Frame, frame, above}
use Rattle.model.specs.Descent.{Landing, landing, descend, last_turn}
use Rattle.theory.proofs.Places.{bounded, spot_low, spot_high, spot_near}
use Rattle.theory.proofs.Descents.{probes_way}
use Rattle.links.specs.Reads.{GetPre, Got}
use Rattle.descent.specs.Searches.{Sloping, toward, met_of, FoundEdge}
use Rattle.descent.proofs.Downward.{By, by_start, Meeting, Reached, sends, start, meeting, moved, met_spot, met_deep}
use Rattle.descent.proofs.Downward.{ended, last_node_empty}
use Rattle.descent.proofs.Keeping.{Coming}

-- It has come down, on whatever side of whatever tree the links are; and the nodes are few.
pub record Sliding (near : List ℕ) (root here last n : ℕ) : Type 0 where
  pub each : (v : Sloping near root) → Coming (By (λ _. toward v.side)) v.tree here last n
  pub few : n ≤ capacity_limit

-- at the root
pub slide_start : {near : List ℕ} {root : ℕ} → Sliding near root root 0 0
slide_start = record { each = λ v. record { way = []; stands = start v.drawing (by_start v.tree) }; few = omega arith }

-- a way to one side has its last turn there at its last node
slope_turn : (d : Side) (t : Tree) (w : List Frame) → last_turn d w ≡ above w
    → last_turn d (descend (λ _. toward d) t w).way ≡ above (descend (λ _. toward d) t w).way
slope_turn d leaf w e = e
slope_turn lft (node c l x r) w e = slope_turn lft l (frame lft c x r ∷ w) refl
slope_turn rgt (node c l x r) w e = slope_turn rgt r (frame rgt c x l ∷ w) refl

-- it ends where the child is missing
pub slid : {near : List ℕ} {root here last n : ℕ} → Sliding near root here last n → here ≡ 0
    → FoundEdge near root (met_of last last n)
slid s none = record {
  is = λ v.
      let z = s.each v in
      let e = ended v.drawing z.stands none in
      record {
        slot_is = z.stands.last_is ∙ sym (ap (λ (a : Landing). above a.way) e)
            ∙ sym (slope_turn v.side v.tree [] refl);
        last_is = rw e (z.stands.last_is ∙ sym (last_node_empty (landing leaf z.way) refl));
        probes_is = rw e (omega (arith, z.stands.count_is, probes_way (landing leaf z.way)));
      };
}

module _ {near : List ℕ} {root here x last n : ℕ} (v : Sloping near root) (s : Sliding near root here last n)
    (some : Reached here x) where
  met : (u : Sloping near root) → Meeting u.side (By (λ _. toward u.side)) u.tree x n (s.each u).way
  met u = meeting u.side (s.each u).stands some

  -- at a slot its child may be read
  pub slide_get : GetPre near x
  slide_get = let z = met_spot v.drawing (met v) in
      record { pos = spot_low z; top = spot_high z; below = (bounded v.drawing).near_below }

  -- it has looked at fewer nodes than there are slots
  pub slide_less : length near - (n + 1) < length near - n
  slide_less = omega (arith, met_deep v.drawing (met v))

  -- one step down
  pub slide_on : {next : ℕ} → Got near x next → Sliding near root next x (n + 1)
  slide_on got = record {
    each = λ u.
        let m = met u in
        record {
          way = frame u.side m.color x m.far ∷ (s.each u).way;
          stands = moved u.side m (sends u.side refl) (got.is ∙ spot_near (met_spot u.drawing m));
        };
    few = omega (arith, met_deep v.drawing (met v), (bounded v.drawing).small);
  }
