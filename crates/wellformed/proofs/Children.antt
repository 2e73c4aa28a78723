-- The children of a slot: what their checks are asked, and what the counts of both come to.
use Prim.Native.Nat.{ℕ, suc, ◌+◌, ◌-◌, ◌/◌, ◌≤◌, ◌<◌}
use native.Mathlib.Omega.{arith}
use mathlib.Core.Bool.{true}
use mathlib.Core.List.{List}
use mathlib.Core.Path.{◌≡◌, ◌∙◌}
use Rattle.std.specs.Prelude.{Option, Some, None}
use Rattle.model.specs.Limits.{depth_limit}
use Rattle.model.specs.Tree.{Color, red, black}
use Rattle.model.specs.Lent.{arrays_of, capacity}
use Rattle.theory.specs.Quick.{is_child, sum_of, black_child, red_ends, any_child, black_ends}
use Rattle.theory.proofs.QuickTests.{child_true}
use Rattle.theory.proofs.QuickBounds.{black_child_fits, any_child_fits}
use Rattle.links.specs.declared.types.Color.TheVariants.{Red, Black}
use Rattle.wellformed.specs.Checks.{Kin, Kinship, NodeAt, Ready, RedPre, BlackPre, DeepPre}
use Rattle.wellformed.specs.declared.types.Node.{Node}
use Rattle.wellformed.proofs.Nodes.{under_bad, under_good}

-- a child of either colour is a slot
child_ready : {l r p k : List ℕ} {s : ℕ} (c : Color) (child : ℕ) → Ready l r p k s → is_child c p s child ≡ true →
    Ready l r p k child
unfolding capacity
child_ready {l} {r} {p} {k} {s} c child h e =
    let q = (child_true (arrays_of l r p k) c s child (omega (arith, h.pos)) e).0 in
    record { left = h.left; right = h.right; key = h.key; small = h.small; pos = q.positive; top = q.fits }

-- ---- under a red slot

module _ {l r p k : List ℕ} {depth s : ℕ} (h : RedPre l r p k depth s) where
  -- the count under a child of it
  abbrev pub RedChild : (child low high count : ℕ) → Type 0
  RedChild child low high count =
      count ≡ black_child (arrays_of l r p k) (black_ends (depth / 2 - 1) (arrays_of l r p k)) s child low high

  module _ {child : ℕ} {kin : Kin} (kind : Kinship kin p s child) where
    pub only_asked : kin ≡ Some Black → BlackPre l r p k (depth - 1) child
    only_asked e = record {
      ready = child_ready black child h.ready (kind.black ∙ rw e);
      deep = omega (arith, h.deep);
      even = omega (arith, h.odd);
    }

    pub only_came : (lo hi : ℕ) {x : ℕ} → kin ≡ Some Black →
        x ≡ black_ends ((depth - 1) / 2 - 1) (arrays_of l r p k) child lo hi → RedChild child lo hi x
    unfolding black_child
    only_came lo hi e is =
        let q : depth / 2 - 1 ≡ (depth - 1) / 2 - 1 = omega (arith, h.odd) in
        rw (q, kind.black, e) is

    pub no_red : (lo hi : ℕ) → kin ≡ Some Red → RedChild child lo hi 0
    unfolding black_child
    no_red lo hi e = rw (kind.black, e)

    pub none_came : (lo hi : ℕ) → kin ≡ None → RedChild child lo hi 0
    unfolding black_child
    none_came lo hi e = rw (kind.black, e)

  pub red_fits : (one other low key high : ℕ) {x y : ℕ} → RedChild one low key x → RedChild other key high y →
      x + y < 4294967296
  red_fits one other low key high left right =
      let few : depth / 2 - 1 ≤ depth_limit / 2 - 1 = omega (arith, h.deep) in
      let small = black_child_fits (arrays_of l r p k) (depth / 2 - 1) few s in
      omega (arith, left, right, small one low key, small other key high)

  module _ {low high : ℕ} {found : Option Node} (is : NodeAt l r p k s low high found) where
    pub red_bad : found ≡ None →
        0 ≡ red_ends (arrays_of l r p k) (black_ends (depth / 2 - 1) (arrays_of l r p k)) s low high
    unfolding red_ends
    red_bad bad = under_bad is _ bad

    pub red_sum : {node : Node} {x y sum : ℕ} → found ≡ Some node → RedChild node.left.0 low node.key.0 x →
        RedChild node.right.0 node.key.0 high y → sum ≡ sum_of x y →
        sum ≡ red_ends (arrays_of l r p k) (black_ends (depth / 2 - 1) (arrays_of l r p k)) s low high
    unfolding red_ends
    red_sum good left right sum = under_good is _ good left right sum

-- ---- under a black slot that isn't the last one of a way

-- one level less
black_level : {l r p k : List ℕ} {depth s : ℕ} → DeepPre l r p k depth s → depth / 2 - 1 ≡ suc ((depth - 2) / 2 - 1)
black_level h = omega (arith, h.deep, h.pre.even)

module _ {l r p k : List ℕ} {depth s : ℕ} (h : DeepPre l r p k depth s) where
  abbrev pub BlackChild : (child low high count : ℕ) → Type 0
  BlackChild child low high count =
      count ≡ any_child (arrays_of l r p k) (black_ends ((depth - 2) / 2 - 1) (arrays_of l r p k)) s child low high

  module _ {child : ℕ} {kin : Kin} (kind : Kinship kin p s child) where
    pub red_asked : kin ≡ Some Red → RedPre l r p k (depth - 1) child
    red_asked e = record {
      ready = child_ready red child h.pre.ready (kind.red ∙ rw e);
      deep = omega (arith, h.pre.deep);
      odd = omega (arith, h.pre.even, h.deep);
    }

    pub black_asked : kin ≡ Some Black → BlackPre l r p k (depth - 2) child
    black_asked e = record {
      ready = child_ready black child h.pre.ready (kind.black ∙ rw e);
      deep = omega (arith, h.pre.deep);
      even = omega (arith, h.pre.even, h.deep);
    }

    pub red_came : (lo hi : ℕ) {x : ℕ} → kin ≡ Some Red →
        x ≡ red_ends (arrays_of l r p k) (black_ends ((depth - 1) / 2 - 1) (arrays_of l r p k)) child lo hi →
        BlackChild child lo hi x
    unfolding any_child
    red_came lo hi e is =
        let q : (depth - 2) / 2 - 1 ≡ (depth - 1) / 2 - 1 = omega (arith, h.pre.even, h.deep) in
        rw (q, kind.red, e) is

    pub black_came : (lo hi : ℕ) {x : ℕ} → kin ≡ Some Black →
        x ≡ black_ends ((depth - 2) / 2 - 1) (arrays_of l r p k) child lo hi → BlackChild child lo hi x
    unfolding any_child black_child
    black_came lo hi e is = rw (kind.red, kind.black, e) is

    pub other_came : (lo hi : ℕ) → kin ≡ None → BlackChild child lo hi 0
    unfolding any_child black_child
    other_came lo hi e = rw (kind.red, kind.black, e)

  pub black_fits : (one other low key high : ℕ) {x y : ℕ} → BlackChild one low key x → BlackChild other key high y →
      x + y < 4294967296
  black_fits one other low key high left right =
      let few : (depth - 2) / 2 - 1 ≤ depth_limit / 2 - 1 = omega (arith, h.pre.deep) in
      let small = any_child_fits (arrays_of l r p k) ((depth - 2) / 2 - 1) few s in
      omega (arith, left, right, small one low key, small other key high)

  module _ {low high : ℕ} {found : Option Node} (is : NodeAt l r p k s low high found) where
    pub black_bad : found ≡ None → 0 ≡ black_ends (depth / 2 - 1) (arrays_of l r p k) s low high
    unfolding black_ends
    black_bad bad = rw (black_level h) (under_bad is _ bad)

    pub black_sum : {node : Node} {x y sum : ℕ} → found ≡ Some node → BlackChild node.left.0 low node.key.0 x →
        BlackChild node.right.0 node.key.0 high y → sum ≡ sum_of x y →
        sum ≡ black_ends (depth / 2 - 1) (arrays_of l r p k) s low high
    unfolding black_ends
    black_sum good left right sum = rw (black_level h) (under_good is _ good left right sum)
