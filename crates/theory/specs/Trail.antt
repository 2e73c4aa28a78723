-- A descent over the links, as the code makes it: where it stands, and what it keeps of the way.
use Rattle.std.specs.Prelude.{ℕ, zero, suc, List, eqb, length}
use Rattle.model.specs.Branch.{pick}
use Rattle.model.specs.Tree.{Side, lft, rgt, Tree, top_of, Frame, above, side_of}
use Rattle.model.specs.Descent.{Step, follow, last_turn, Landing, probes}
use Rattle.theory.specs.Links.{Links, child_in}

-- the slot where it stands, or 0; that place's parent and side; the last nodes at which it turned left and right; and
-- how many nodes it has looked at
pub record Trail : Type 0 where
  pub here : ℕ
  pub parent : ℕ
  pub side : Side
  pub left_turn : ℕ
  pub right_turn : ℕ
  pub looks : ℕ

-- one step down to the side
unfoldable pub step_down : Side → Links → Trail → Trail
step_down lft k z = record {
  here = child_in lft k z.here;
  parent = z.here;
  side = lft;
  left_turn = z.here;
  right_turn = z.right_turn;
  looks = suc z.looks;
}
step_down rgt k z = record {
  here = child_in rgt k z.here;
  parent = z.here;
  side = rgt;
  left_turn = z.left_turn;
  right_turn = z.here;
  looks = suc z.looks;
}

-- it stays where it is
unfoldable pub stay_here : Trail → Trail
stay_here z = record {
  here = z.here;
  parent = z.parent;
  side = z.side;
  left_turn = z.left_turn;
  right_turn = z.right_turn;
  looks = suc z.looks;
}

-- n steps at most
unfoldable pub descend_in : (ℕ → Step) → (n : ℕ) → Links → Trail → Trail
descend_in step zero k z = z
descend_in step (suc n) k z =
    pick (eqb z.here 0) z
    (follow (step z.here)
    (λ _. descend_in step n k (step_down lft k z))
    (λ _. descend_in step n k (step_down rgt k z))
    (λ _. stay_here z))

-- the trail of a descent that has come to t by the way w
unfoldable pub trail_at : Tree → List Frame → Trail
trail_at t w = record {
  here = top_of t;
  parent = above w;
  side = side_of w;
  left_turn = last_turn lft w;
  right_turn = last_turn rgt w;
  looks = length w;
}

-- and of one that has ended
unfoldable pub trail_of : Landing → Trail
trail_of e = record {
  here = top_of e.place;
  parent = above e.way;
  side = side_of e.way;
  left_turn = last_turn lft e.way;
  right_turn = last_turn rgt e.way;
  looks = probes e;
}

-- ---- from the root

unfoldable pub search_in : (ℕ → Step) → (n : ℕ) → Links → Trail
search_in step n k = descend_in step n k (record {
  here = k.root;
  parent = 0;
  side = rgt;
  left_turn = 0;
  right_turn = 0;
  looks = 0;
})
