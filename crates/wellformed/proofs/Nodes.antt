-- One look at a slot, and the count under it.
use Prim.Native.Nat.{ℕ, ◌+◌, ◌*◌}
use native.Mathlib.Omega.{arith}
use mathlib.Core.Bool.{Bool, true, false, not, ◌&&◌, ◌||◌, true≢false, false≢true}
use mathlib.Core.List.{List}
use mathlib.Core.Path.{◌≡◌, refl}
use lib.Dec.{eqb}
use Rattle.std.specs.Prelude.{Option, Some, None}
use Rattle.model.specs.Branch.{choose, pick}
use Rattle.model.specs.Tree.{lft, rgt, red}
use Rattle.model.specs.Lent.{at, Arrays, arrays_of, child_of, pc_of, key_of, parent_color}
use Rattle.model.specs.Check.{differ}
use Rattle.theory.specs.Quick.{is_between, is_node, sum_of, under, is_tip}
use Rattle.wellformed.specs.Checks.{NodeAt}
use Rattle.wellformed.specs.declared.types.Node.{Node}

-- differ
pub differ_either : (x y : ℕ) {ne none : Bool} → ne ≡ not (eqb x y) → none ≡ eqb x 0 → (ne || none) ≡ differ x y
unfolding differ
differ_either x y {none = none} e f = rw e (go (eqb x y))
  where
    go : (same : Bool) → (not same || none) ≡ choose same (λ _. eqb x 0) (λ _. true)
    go true = f
    go false = refl

-- the code's sum_of
pub sum_none : (x y : ℕ) → (eqb x 0 || eqb y 0) ≡ true → 0 ≡ sum_of x y
unfolding sum_of
sum_none x y = go (eqb x 0) (eqb y 0)
  where
    go : (first second : Bool) → (first || second) ≡ true → 0 ≡ pick first 0 (pick second 0 (x + y))
    go true second e = refl
    go false true e = refl
    go false false e = absurd (false≢true e)

pub sum_some : (x y : ℕ) → (eqb x 0 || eqb y 0) ≡ false → x + y ≡ sum_of x y
unfolding sum_of
sum_some x y = go (eqb x 0) (eqb y 0)
  where
    go : (first second : Bool) → (first || second) ≡ false → x + y ≡ pick first 0 (pick second 0 (x + y))
    go true second e = absurd (true≢false e)
    go false true e = absurd (true≢false e)
    go false false e = refl

-- node_at
pub node_good : (low high : ℕ) {x y z l r k : ℕ} {apart fits : Bool} → x ≡ l → y ≡ r → z ≡ k →
    apart ≡ differ x y → fits ≡ is_between low z high → {good : Bool} → (apart && fits) ≡ good →
    is_node l r k low high ≡ good
unfolding is_node
node_good low high left right key e f is = rw (← left, ← right, ← key, ← e, ← f) is

-- is_red_end
pub tip_good : (a : Arrays) (p s low high : ℕ) {mark x y z : ℕ} {fits : Bool} →
    mark ≡ pc_of a s → x ≡ child_of lft a s → y ≡ child_of rgt a s → z ≡ key_of a s → fits ≡ is_between low z high →
    (eqb mark (2 * p) && ((eqb x 0 && eqb y 0) && fits)) ≡ is_tip a p s low high
unfolding is_tip
tip_good a p s low high i left right key e =
    let z : parent_color p red ≡ 2 * p = omega arith in
    rw (z, ← i, ← left, ← right, ← key, e)

module _ {l r p k : List ℕ} {s low high : ℕ} {found : Option Node} (h : NodeAt l r p k s low high found) where
  -- a slot that doesn't pass
  pub under_bad : (ask : (child low high : ℕ) → ℕ) → found ≡ None → 0 ≡ under (arrays_of l r p k) s low high ask
  unfolding under child_of key_of
  under_bad ask e = rw (none (rw e at h))
    where
      none : NodeAt l r p k s low high None → is_node (at l s) (at r s) (at k s) low high ≡ false
      none q = q.is

  -- both sides of one that does
  pub under_good : {node : Node} {x y sum : ℕ} (ask : (child low high : ℕ) → ℕ) → found ≡ Some node →
      x ≡ ask node.left.0 low node.key.0 → y ≡ ask node.right.0 node.key.0 high → sum ≡ sum_of x y →
      sum ≡ under (arrays_of l r p k) s low high ask
  unfolding under child_of key_of
  under_good {node} ask e left right sum =
      let found : NodeAt l r p k s low high (Some node) = rw e at h in
      let is = found.is in
      rw (is.good, ← is.left, ← is.right, ← is.key, sum, left, right)
