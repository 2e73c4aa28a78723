-- How long a way down a balanced tree is: 2^p ≤ (n + 1)^2 for a way of p nodes in a tree of n.
use Prim.Native.Nat.{ℕ, suc, ◌+◌, ◌*◌, ◌^◌, ◌≤◌}
use mathlib.Core.Path.{◌≡◌, refl, ap, sym}
use mathlib.Core.List.{List, [], ◌∷◌}
use native.Mathlib.Omega.{arith}
use native.Mathlib.Nat.{le_trans, one-mul, mul-le-mul, pow-zero, pow-suc, two-pow-succ, pow-le-pow_left}
use lib.ListN.{length, length-append}
use lib.Dec.{leb}
use lib.Pow.{pow-add, pow_mono}
use borrow.Author.Tests.{leb-true, leb-false}
use Rattle.model.specs.Limits.{capacity_limit, depth_limit}
use Rattle.model.specs.Tree.{Side, lft, rgt, Color, red, black, Tree, leaf, node, nod, slots, Frame, frame, plug}
use Rattle.model.specs.Lent.{color_code}
use Rattle.model.specs.Shape.{PathFits}
use Rattle.theory.specs.Balance.{tint, Allowed, Calm, blacks, Even, Balanced, size, height}
use Rattle.theory.proofs.Branch.{by-test}

-- as many nodes as slots in order
pub size_slots : (t : Tree) → size t ≡ length (slots t)
size_slots leaf = refl
size_slots (node c l x r) = omega (arith, size_slots l, size_slots r, length-append (slots l) (x ∷ slots r))

pub height_size : (t : Tree) → height t ≤ size t
height_size leaf = omega arith
height_size (node c l x r) = omega (arith, height_size l, height_size r)

pub height_nod : (d : Side) (c : Color) (near : Tree) (x : ℕ) (far : Tree)
    → suc (height near) ≤ height (nod d c near x far)
height_nod lft c near x far = omega arith
height_nod rgt c near x far = omega arith

-- a way down to t and on through it is no longer than the longest of the whole tree
pub height_plug : (t : Tree) (w : List Frame) → length w + height t ≤ height (plug t w)
height_plug t [] = omega arith
height_plug t (frame d c p s ∷ w) = omega (arith, height_plug (nod d c t p s) w, height_nod d c t p s)

under_red : (c : Color) → Allowed red c → color_code c ≡ 1
under_red black o = refl
under_red red o = absurd o

-- at least every other node of a way is black
height_blacks : (t : Tree) → Calm t → Even t → height t + color_code (tint t) ≤ 2 * blacks t + 1
height_blacks leaf q e = omega arith
height_blacks (node red l x r) q e = omega (
  arith,
  height_blacks l q.2 e.0,
  height_blacks r q.3 e.1,
  under_red (tint l) q.0,
  under_red (tint r) q.1,
)
height_blacks (node black l x r) q e = omega (arith, height_blacks l q.2 e.0, height_blacks r q.3 e.1)

-- the black nodes alone make a full tree
pub blacks_size : (t : Tree) → Even t → 2 ^ blacks t ≤ size t + 1
blacks_size leaf e = omega arith
blacks_size (node red l x r) e = omega (arith, blacks_size l e.0)
blacks_size (node black l x r) e =
    let same : 2 ^ blacks r ≡ 2 ^ blacks l = ap (λ (n : ℕ). 2 ^ n) (sym e.2) in
    omega (arith, blacks_size l e.0, blacks_size r e.1, two-pow-succ (blacks l))

square : (n : ℕ) → n ^ 2 ≡ n * n
square n = rw (pow-suc n 1, pow-suc n 0, pow-zero n, one-mul n)

-- 01, demand 3: a way down a balanced tree is no longer than its size allows
pub height_fits : (t : Tree) (p : ℕ) → Balanced t → p ≤ height t → PathFits p t
height_fits t p b le =
    let i = height_blacks t b.calm b.even in
    let j : color_code (tint t) ≡ 1 = ap color_code b.top in
    let q : p ≤ blacks t + blacks t = omega arith in
    let f : 2 ^ blacks t ≤ length (slots t) + 1 = omega (arith, blacks_size t b.even, size_slots t) in
    rw (square (length (slots t) + 1)) (le_trans (pow_mono q) (rw (pow-add 2 (blacks t) (blacks t)) (mul-le-mul f f)))

-- the same of the way to a place and on below it
pub path_fits : (t : Tree) (w : List Frame) → Balanced (plug t w) → PathFits (length w + height t) (plug t w)
path_fits t w b = height_fits (plug t w) (length w + height t) b (height_plug t w)

-- so the limit of the depth holds up to the limit of the capacity
pub height_limit : (t : Tree) → Balanced t → length (slots t) ≤ capacity_limit → height t ≤ depth_limit
height_limit t b le =
    by-test (leb (height t) depth_limit) (leb-true (height t) depth_limit)
    (λ is. absurd (too_long (leb-false (height t) depth_limit is)))
  where
    too_long : suc depth_limit ≤ height t → ⊥
    too_long k =
        let n : length (slots t) + 1 ≤ capacity_limit + 1 = omega arith in
        omega (arith, height_fits t (suc depth_limit) b k, pow-le-pow_left n 2)
