-- Where the quick check counts a missing child, it has read a tree that keeps the rules.
use Prim.Native.Nat.{ℕ, zero, suc, ◌≤◌, ◌<◌}
use native.Mathlib.Omega.{arith}
use native.Mathlib.Decide.{ℕ_discrete}
use mathlib.Core.Bool.{Bool, true, false}
use mathlib.Core.List.{◌∷◌}
use mathlib.Core.Logic.{◌≢◌, inr}
use mathlib.Core.Path.{◌≡◌, refl, ap, sym, ◌∙◌}
use lib.Dec.{ltb}
use borrow.Author.Tests.{ne_eqb, ltb-false}
use Rattle.model.specs.Branch.{pick}
use Rattle.model.specs.Tree.{lft, rgt, Color, red, black, Tree, leaf, node, slots}
use Rattle.model.specs.Lent.{Arrays, Linked, capacity, child_of, pc_of, key_of, parent_color}
use Rattle.theory.specs.Balance.{tint, Allowed, dark}
use Rattle.theory.specs.Quick.{is_child, is_node_at, under, is_tip, tip_ends, black_child, red_ends, any_child}
use Rattle.theory.specs.Quick.{black_ends, Regular}
use Rattle.theory.proofs.LastKey.{rising_append, last_append}
use Rattle.theory.proofs.Calm.{allowed}
use Rattle.theory.proofs.QuickTests.{picked, child_true, node_true, true_node, tip_true, under_some}

module _ (a : Arrays) where
  -- there is such a tree, and P holds of it
  abbrev Met : (P : Tree → Type 0) (above s low high n : ℕ) → Type 0
  Met P above s low high n = (t : Tree) × P t × Regular a above s low high n t

  node_regular : (c : Color) (above s low high n : ℕ) (l r : Tree) → Linked a s → pc_of a s ≡ parent_color above c →
      is_node_at a s low high ≡ true → Allowed c (tint l) → Allowed c (tint r) →
      Regular a s (child_of lft a s) low (key_of a s) n l → Regular a s (child_of rgt a s) (key_of a s) high n r →
      Regular a above s low high (dark c n) (node c l s r)
  node_regular c above s low high n l r linked marked fine left right x y = record {
    hangs = (
      record { same = refl; linked = linked; marked = marked; differ = (node_true a s low high fine).0 },
      x.hangs,
      y.hangs,
    );
    calm = (left, right, x.calm, y.calm);
    even = (x.even, y.even, x.level ∙ sym y.level);
    level = ap (dark c) x.level;
    rising = rising_append (key_of a) low (slots l) (s ∷ slots r) x.rising (x.last, y.rising);
    last = rw (last_append (key_of a) low (slots l) (s ∷ slots r)) y.last;
  }

  missing_regular : (above s low high : ℕ) → s ≡ 0 → low ≤ high → Regular a above s low high 0 leaf
  missing_regular above s low high e h = record
      { hangs = e; calm = tt; even = tt; level = refl; rising = tt; last = h }

  under_read : (c : Color) (above s low high n : ℕ) (ask : (child low high : ℕ) → ℕ) →
      Linked a s → pc_of a s ≡ parent_color above c →
      ((child lo hi : ℕ) → lo ≤ hi → 0 < ask child lo hi → Met (λ t. Allowed c (tint t)) s child lo hi n) →
      0 < under a s low high ask → Met (λ t. tint t ≡ c) above s low high (dark c n)
  under_read c above s low high n ask linked marked below some =
      under_some a s low high ask some λ fine left right.
      let k = node_true a s low high fine in
      let x = below (child_of lft a s) low (key_of a s) k.1 left in
      let y = below (child_of rgt a s) (key_of a s) high k.2 right in (
        node c x.0 s y.0,
        refl,
        node_regular c above s low high n x.0 y.0 linked marked fine x.1 y.1 x.2 y.2,
      )

  -- nothing, or a red node without children
  tip_node : (p s low high : ℕ) → 0 < p → 0 < s → s ≤ capacity a → is_tip a p s low high ≡ true →
      Regular a p s low high 0 (node red leaf s leaf)
  tip_node p s low high some here fits e =
      tip_true a s low high p e λ marked left right k j.
      node_regular red p s low high 0 leaf leaf
      (record { positive = here; fits = fits; marked = omega arith }) marked
      (true_node a s low high (inr (left, right)) k j) tt tt
      (missing_regular s (child_of lft a s) low (key_of a s) left k)
      (missing_regular s (child_of rgt a s) (key_of a s) high right j)

  tip_read : (p s low high : ℕ) → 0 < p → low ≤ high → 0 < tip_ends a p s low high →
      Met (λ t. Allowed black (tint t)) p s low high 0
  unfolding tip_ends
  tip_read p s low high some order h = go (ℕ_discrete s 0)
    where
      inside : s ≢ 0 → (t : Bool) → ltb (capacity a) s ≡ t → 0 < pick t 0 (pick (is_tip a p s low high) 2 0) →
          Met (λ t. Allowed black (tint t)) p s low high 0
      inside q true e k = absurd (omega arith)
      inside q false e k =
          picked _ 2 k λ tip _.
          (node red leaf s leaf, tt, tip_node p s low high some (omega arith) (ltb-false (capacity a) s e) tip)

      go : Dec (s ≡ 0) → Met (λ t. Allowed black (tint t)) p s low high 0
      go (yes q) = (leaf, tt, missing_regular p s low high q order)
      go (no q) = inside q (ltb (capacity a) s) refl (rw (ne_eqb s 0 q) at h)

  -- where `ask` counts under a black slot, it has read a tree
  abbrev Asks : (ask : (s low high : ℕ) → ℕ) (n : ℕ) → Type 0
  Asks ask n = (above s low high : ℕ) → Linked a s → pc_of a s ≡ parent_color above black → 0 < ask s low high →
      Met (λ t. tint t ≡ black) above s low high n

  -- a child that has to be black, whatever the colour of its parent
  black_below : (c : Color) (p s low high n : ℕ) (ask : (s low high : ℕ) → ℕ) → 0 < p → Asks ask n →
      0 < black_child a ask p s low high → Met (λ t. Allowed c (tint t)) p s low high n
  unfolding black_child
  black_below c p s low high n ask some below h =
      picked _ _ h λ child k.
      let q = child_true a black p s (omega arith) child in
      let x = below p s low high q.0 q.1 k in
      (x.0, allowed c (tint x.0) (λ _. x.1), x.2)

  red_read : (above s low high n : ℕ) (ask : (s low high : ℕ) → ℕ) → Linked a s → pc_of a s ≡ parent_color above red →
      Asks ask n → 0 < red_ends a ask s low high → Met (λ t. tint t ≡ red) above s low high n
  unfolding red_ends
  red_read above s low high n ask linked marked below h =
      under_read red above s low high n (black_child a ask s) linked marked
      (λ child lo hi order k. black_below red s child lo hi n ask linked.positive below k) h

  -- a child that may be red, too
  any_below : (p s low high n : ℕ) (ask : (s low high : ℕ) → ℕ) → 0 < p → Asks ask n →
      0 < any_child a ask p s low high → Met (λ t. Allowed black (tint t)) p s low high n
  unfolding any_child
  any_below p s low high n ask some below h = go (is_child red a.pc p s) refl h
    where
      go : (t : Bool) → is_child red a.pc p s ≡ t →
          0 < pick t (red_ends a ask s low high) (black_child a ask p s low high) →
          Met (λ t. Allowed black (tint t)) p s low high n
      go true e k =
          let q = child_true a red p s (omega arith) e in
          let x = red_read p s low high n ask q.0 q.1 below k in
          (x.0, tt, x.2)
      go false e k = black_below black p s low high n ask some below k

  -- under a black slot, with n black nodes more on each way
  pub black_read : (n above s low high : ℕ) → Linked a s → pc_of a s ≡ parent_color above black →
      0 < black_ends n a s low high → (t : Tree) × (tint t ≡ black) × Regular a above s low high (suc n) t
  unfolding black_ends
  black_read zero above s low high linked marked h =
      under_read black above s low high 0 (tip_ends a s) linked marked
      (λ child lo hi order k. tip_read s child lo hi linked.positive order k) h
  black_read (suc n) above s low high linked marked h =
      under_read black above s low high (suc n) (any_child a (black_ends n a) s) linked marked
      (λ child lo hi order k. any_below s child lo hi (suc n) (black_ends n a) linked.positive (black_read n) k) h
