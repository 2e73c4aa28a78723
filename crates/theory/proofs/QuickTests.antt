-- The tests of the quick check, each as the fact that it decides.
use Prim.Native.Nat.{ℕ, zero, suc, ◌+◌, ◌≤◌, ◌<◌}
use native.Mathlib.Omega.{arith}
use mathlib.Core.Bool.{Bool, true, false, ◌&&◌, and-false}
use mathlib.Core.Path.{◌≡◌, refl}
use lib.Dec.{eqb, leb, ltb}
use lib.ListN.{length}
use borrow.Author.Tests.{eqb-true, eq-eqb, ne_eqb, ltb-true, lt-ltb, leb-true, le-leb}
use Rattle.model.specs.Branch.{pick}
use Rattle.model.specs.Tree.{lft, rgt, Color, red, black}
use Rattle.model.specs.Lent.{Arrays, Linked, at, capacity, child_of, pc_of, key_of, parent_color}
use Rattle.model.specs.WellFormed.{Differ}
use Rattle.theory.specs.Hangs.{Here}
use Rattle.theory.specs.Quick.{is_child, is_between, is_node, is_node_at, sum_of, under, is_tip}
use Rattle.theory.proofs.Verdicts.{and_true, differ_true, true_differ}

-- a number that isn't 0 is not picked in vain
pub picked : {R : Type 0} (t : Bool) (x : ℕ) → 0 < pick t x 0 → (t ≡ true → 0 < x → R) → R
picked true x h f = f refl h
picked false x h f = absurd (omega arith)

-- a key by its bounds
between_true : (low k high : ℕ) → is_between low k high ≡ true → (low ≤ k) × (k ≤ high)
unfolding is_between
between_true low k high e =
    and_true (leb low k) (leb k high) e λ f g. (leb-true low k f, leb-true k high g)

true_between : (low k high : ℕ) → low ≤ k → k ≤ high → is_between low k high ≡ true
unfolding is_between
true_between low k high f g = rw (le-leb low k f, le-leb k high g)

-- the sum of two sides isn't 0 where neither is
sum_some : (x y : ℕ) → 0 < sum_of x y → (0 < x) × (0 < y)
unfolding sum_of
sum_some zero y h = absurd (omega arith)
sum_some (suc x) zero h = let z : 0 < 0 = rw (ne_eqb (suc x) 0 (omega arith)) at h in absurd (omega arith)
sum_some (suc x) (suc y) h = (omega arith, omega arith)

some_sum : (x y : ℕ) → 0 < x → 0 < y → sum_of x y ≡ x + y
unfolding sum_of
some_sum x y f g = rw (ne_eqb x 0 (omega arith), ne_eqb y 0 (omega arith))

module _ (a : Arrays) where
  -- a child of either colour is linked and has its mark
  pub child_true : (c : Color) (p s : ℕ) → 0 < parent_color p c → is_child c a.pc p s ≡ true →
      Linked a s × (pc_of a s ≡ parent_color p c)
  unfolding is_child capacity pc_of
  child_true c p s some e =
      and_true (ltb 0 s && leb s (length a.pc)) (eqb (at a.pc s) (parent_color p c)) e λ f g.
      and_true (ltb 0 s) (leb s (length a.pc)) f λ i j.
      let mark : at a.pc s ≡ parent_color p c = eqb-true _ _ g in
      (record { positive = ltb-true 0 s i; fits = leb-true s (length a.pc) j; marked = omega arith }, mark)

  pub true_child : {p s x : ℕ} {c : Color} → Here a p s c x → is_child c a.pc p s ≡ true
  unfolding is_child capacity pc_of
  true_child {p} {s} {x} {c} h =
      rw
      (h.same, lt-ltb 0 x h.linked.positive, le-leb x (length a.pc) h.linked.fits, eq-eqb _ _ h.marked)

  -- a black child isn't a red one
  pub black_child_lem : {p s x : ℕ} → Here a p s black x → is_child red a.pc p s ≡ false
  unfolding is_child pc_of
  black_child_lem {p} {s} {x} h =
      rw (h.same, ne_eqb (at a.pc x) (parent_color p red) (omega (arith, h.marked)))
      (and-false (ltb 0 x && leb x (length a.pc)))

  module _ (s low high : ℕ) where
    -- a slot whose children and key pass
    pub node_true : is_node_at a s low high ≡ true →
        Differ (child_of lft a s) (child_of rgt a s) × (low ≤ key_of a s) × (key_of a s ≤ high)
    unfolding is_node
    node_true e =
        and_true _ _ e λ f g.
        let k = between_true low (key_of a s) high g in
        (differ_true _ _ f, k.0, k.1)

    pub true_node : Differ (child_of lft a s) (child_of rgt a s) → low ≤ key_of a s → key_of a s ≤ high →
        is_node_at a s low high ≡ true
    unfolding is_node
    true_node d f g = rw (true_differ _ _ d, true_between low (key_of a s) high f g)

    -- a red child without children
    pub tip_true : {R : Type 0} (p : ℕ) → is_tip a p s low high ≡ true →
        (pc_of a s ≡ parent_color p red → child_of lft a s ≡ 0 → child_of rgt a s ≡ 0 → low ≤ key_of a s →
        key_of a s ≤ high → R) → R
    unfolding is_tip
    tip_true p e f =
        and_true _ _ e λ mark e₁.
        and_true _ _ e₁ λ bare key.
        and_true _ _ bare λ left right.
        let k = between_true low (key_of a s) high key in
        f (eqb-true _ _ mark) (eqb-true _ _ left) (eqb-true _ _ right) k.0 k.1

    pub true_tip : (p : ℕ) → pc_of a s ≡ parent_color p red → child_of lft a s ≡ 0 → child_of rgt a s ≡ 0 →
        is_node_at a s low high ≡ true → is_tip a p s low high ≡ true
    unfolding is_tip
    true_tip p mark left right fine =
        let k = node_true fine in
        rw (eq-eqb _ _ mark, left, right, true_between low (key_of a s) high k.1 k.2)

    -- a slot under which something has been counted, and one under which both sides have
    pub under_some : {R : Type 0} (ask : (child low high : ℕ) → ℕ) → 0 < under a s low high ask →
        (is_node_at a s low high ≡ true → 0 < ask (child_of lft a s) low (key_of a s) →
        0 < ask (child_of rgt a s) (key_of a s) high → R) → R
    unfolding under
    under_some ask h f =
        picked _ _ h λ e sum.
        let k = sum_some _ _ sum in
        f e k.0 k.1

    pub some_under : (ask : (child low high : ℕ) → ℕ) (x y : ℕ) →
        is_node_at a s low high ≡ true →
        ask (child_of lft a s) low (key_of a s) ≡ x + 1 → ask (child_of rgt a s) (key_of a s) high ≡ y + 1 →
        under a s low high ask ≡ suc (x + y) + 1
    unfolding under
    some_under ask x y e f g = rw (e, f, g, some_sum (x + 1) (y + 1) (omega arith) (omega arith)) (omega arith)
