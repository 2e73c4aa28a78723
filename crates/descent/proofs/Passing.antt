-- The loop of path: on its way down it keeps the last turn to either side, and it ends at an empty place.
use Prim.Native.Nat.{ℕ, ◌+◌}
use mathlib.Core.Bool.{Bool, true, false}
use mathlib.Core.List.{List}
use mathlib.Core.Path.{◌≡◌, refl, sym, ◌∙◌}
use native.Mathlib.Omega.{arith}
use Rattle.model.specs.Branch.{choose, pick}
use Rattle.model.specs.Tree.{lft, rgt, leaf, same_side}
use Rattle.model.specs.Lent.{at}
use Rattle.model.specs.Descent.{landing, last_turn}
use Rattle.theory.proofs.Descents.{probes_way}
use Rattle.links.specs.Reads.{Got}
use Rattle.descent.specs.declared.types.Path.{Path}
use Rattle.descent.specs.Searches.{Searchable, childless, over_step, FoundPath}
use Rattle.descent.proofs.Downward.{By, Reached, by_start, ended, last_node_empty, side_if, turn_if, none_picked}
use Rattle.descent.proofs.Keeping.{Keeping, keep_start, keep_on}

module _ (left right key : List ℕ) (root : ℕ) (over : ℕ → Bool) where
  -- Beside the way down it keeps, in each tree, the last turns.
  pub record Passing (here last under above n : ℕ) : Type 0 where
    pub keeping : Keeping left right key root (By (over_step (at key) over)) here last n
    pub under_is : (v : Searchable left right key root) → under ≡ last_turn rgt (keeping.each v).way
    pub over_is : (v : Searchable left right key root) → above ≡ last_turn lft (keeping.each v).way

-- the last turns after a step from x, where they were y
turn_under : (goes_left : Bool) (x y : ℕ)
    → pick goes_left y x ≡ choose (same_side rgt (side_if goes_left)) (λ _. x) (λ _. y)
turn_under true x y = refl
turn_under false x y = refl

turn_over_lem : (goes_left : Bool) (x y : ℕ)
    → pick goes_left x y ≡ choose (same_side lft (side_if goes_left)) (λ _. x) (λ _. y)
turn_over_lem true x y = refl
turn_over_lem false x y = refl

module _ {left right key : List ℕ} {root : ℕ} {over : ℕ → Bool} where
  -- at the root
  pub pass_start : Passing left right key root over root 0 0 0 0
  unfolding keep_start
  pass_start = record { keeping = keep_start by_start; under_is = λ v. refl; over_is = λ v. refl }

  -- it ends where a child is missing
  pub passed : {here : ℕ} {p : Path}
      → Passing left right key root over here p.last.0 p.under.0 p.over.0 p.probes → here ≡ 0
      → FoundPath left right key root over p
  passed s none = record {
    is = λ v.
        let z = s.keeping.each v in
        rw (ended v.drawing z.stands none)
        (record {
          last_is = z.stands.last_is ∙ sym (last_node_empty (landing leaf z.way) refl);
          under_is = s.under_is v;
          over_is = s.over_is v;
          probes_is = omega (arith, z.stands.count_is, probes_way (landing leaf z.way));
        });
    top = s.keeping.top;
  }

  module _ {here x last under above n : ℕ} (v : Searchable left right key root)
      (s : Passing left right key root over here last under above n) (some : Reached here x)
      {held a b next under' above' : ℕ} {goes_left : Bool} (held-is : held ≡ at key x)
      (got-left : Got left x a) (got-right : Got right x b) (goes : goes_left ≡ over held)
      (over_is : above' ≡ pick goes_left x above) (under_is : under' ≡ pick goes_left under x)
      (next_is : next ≡ pick goes_left a b) where
    -- one step down
    pub pass_on : Passing left right key root over next x under' above' (n + 1)
    unfolding over_step keep_on
    pass_on = record {
      keeping = keep_on v s.keeping some goes_left (turn_if goes_left (rw (goes, held-is))) got-left got-right next_is;
      under_is = λ u. under_is ∙ rw (s.under_is u) (turn_under goes_left x _);
      over_is = λ u. over_is ∙ rw (s.over_is u) (turn_over_lem goes_left x _);
    }

    -- below a leaf it ends at once
    pub passed_leaf : {none : Bool} → none ≡ childless a b → none ≡ true
        → FoundPath left right key root over (record {
          last = record { 0 = x };
          under = record { 0 = under' };
          over = record { 0 = above' };
          probes = n + 1;
        })
    passed_leaf is taken = passed pass_on (none_picked goes_left a b (sym is ∙ taken) next_is)
