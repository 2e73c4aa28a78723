-- The quick check counts no more than fits: four times as much for each black node to come.
use Prim.Native.Nat.{ℕ, zero, suc, ◌*◌, ◌-◌, ◌/◌, ◌^◌, ◌≤◌}
use native.Mathlib.Omega.{arith}
use native.Mathlib.Nat.{pow-le-pow_right}
use mathlib.Core.Bool.{Bool, true, false}
use lib.Dec.{eqb, ltb}
use Rattle.model.specs.Branch.{pick}
use Rattle.model.specs.Limits.{depth_limit}
use Rattle.model.specs.Tree.{lft, rgt, red, black}
use Rattle.model.specs.Lent.{Arrays, capacity, child_of, key_of}
use Rattle.theory.specs.Quick.{is_child, is_node_at, sum_of, under, is_tip, tip_ends, black_child, red_ends, any_child}
use Rattle.theory.specs.Quick.{black_ends}

pick_small : (t : Bool) (x y b : ℕ) → x ≤ b → y ≤ b → pick t x y ≤ b
pick_small true x y b h k = h
pick_small false x y b h k = k

module _ (a : Arrays) where
  pub tip_small : (p s low high : ℕ) → tip_ends a p s low high ≤ 2
  unfolding tip_ends
  tip_small p s low high =
      pick_small (eqb s 0) 1 _ 2 (omega arith)
      (pick_small (ltb (capacity a) s) 0 _ 2 (omega arith)
      (pick_small (is_tip a p s low high) 2 0 2 (omega arith) (omega arith)))

  under_small : (s low high b : ℕ) (ask : (child low high : ℕ) → ℕ) → ((child lo hi : ℕ) → ask child lo hi ≤ b) →
      under a s low high ask ≤ 2 * b
  unfolding under sum_of
  under_small s low high b ask h =
      let left = ask (child_of lft a s) low (key_of a s) in
      let right = ask (child_of rgt a s) (key_of a s) high in
      pick_small (is_node_at a s low high) _ 0 (2 * b)
      (pick_small (eqb left 0) 0 _ (2 * b) (omega arith)
      (pick_small (eqb right 0) 0 _ (2 * b) (omega arith)
      (omega (arith, h (child_of lft a s) low (key_of a s), h (child_of rgt a s) (key_of a s) high))))
      (omega arith)

  module _ (b : ℕ) (ask : (s low high : ℕ) → ℕ) (h : (s low high : ℕ) → ask s low high ≤ b) where
    black_child_small : (p child low high : ℕ) → black_child a ask p child low high ≤ b
    unfolding black_child
    black_child_small p child low high =
        pick_small (is_child black a.pc p child) (ask child low high) 0 b (h child low high) (omega arith)

    any_child_small : (p child low high : ℕ) → any_child a ask p child low high ≤ 2 * b
    unfolding any_child red_ends
    any_child_small p child low high =
        pick_small (is_child red a.pc p child) _ _ (2 * b)
        (under_small child low high b (black_child a ask child) (black_child_small child))
        (omega (arith, black_child_small p child low high))

  black_small : (n s low high : ℕ) → black_ends n a s low high ≤ 4 * 4 ^ n
  unfolding black_ends
  black_small zero s low high = under_small s low high 2 (tip_ends a s) (tip_small s)
  black_small (suc n) s low high =
      let below = any_child_small (4 * 4 ^ n) (black_ends n a) (black_small n) s in
      omega (arith, under_small s low high (2 * (4 * 4 ^ n)) (any_child a (black_ends n a) s) below)

  -- with as many black nodes to come as the depth allows
  module _ (n : ℕ) (few : n ≤ depth_limit / 2 - 1) where
    few_small : (s low high : ℕ) → black_ends n a s low high ≤ 4 ^ (depth_limit / 2)
    few_small s low high =
        let small : 4 ^ n ≤ 4 ^ (depth_limit / 2 - 1) = pow-le-pow_right (omega arith) few in
        omega (arith, black_small n s low high)

    pub black_child_fits : (p child low high : ℕ)
        → black_child a (black_ends n a) p child low high ≤ 4 ^ (depth_limit / 2)
    black_child_fits = black_child_small (4 ^ (depth_limit / 2)) (black_ends n a) few_small

    pub any_child_fits : (p child low high : ℕ) →
        any_child a (black_ends n a) p child low high ≤ 2 * 4 ^ (depth_limit / 2)
    any_child_fits = any_child_small (4 ^ (depth_limit / 2)) (black_ends n a) few_small
