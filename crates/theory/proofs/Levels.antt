-- A tree that hangs in lent arrays has each slot once: the parent numbers lead from a slot to its one place.
use Prim.Native.Nat.{ℕ, zero, suc, ◌+◌, ◌≤◌}
use native.Mathlib.Omega.{arith}
use mathlib.Core.Path.{◌≡◌, refl, ap, sym, ◌∙◌}
use Rattle.model.specs.Tree.{lft, rgt, Color, Tree, leaf, node}
use Rattle.model.specs.Lent.{Arrays, Linked, capacity, child_of, parent_of}
use Rattle.theory.specs.Sound.{one, count, Sound}
use Rattle.theory.specs.Hangs.{Here, Hangs, Level}
use Rattle.theory.proofs.Counts.{one_same, by-slot}
use Rattle.theory.proofs.Nodes.{count_cases}
use Rattle.theory.proofs.Marks.{marked_parent}
use Rattle.theory.proofs.Hangs.{differ_none}

none : (n : ℕ) → (1 ≤ n → ⊥) → n ≡ 0
none zero h = refl
none (suc n) h = absurd (h (omega arith))

-- two counts of which one is 0
either : (m n : ℕ) → m ≤ 1 → n ≤ 1 → (1 ≤ m → 1 ≤ n → ⊥) → m + n ≤ 1
either zero n h k apart = omega arith
either (suc m) zero h k apart = omega arith
either (suc m) (suc n) h k apart = absurd (apart (omega arith) (omega arith))

module _ (a : Arrays) where
  -- a slot is on one level
  pub level_one : (m n s : ℕ) → Level a m s → Level a n s → m ≡ n
  level_one zero zero s u v = refl
  level_one zero (suc n) s u v = absurd (omega (arith, v.0))
  level_one (suc m) zero s u v = absurd (omega (arith, u.0))
  level_one (suc m) (suc n) s u v = ap suc (level_one m n (parent_of a s) u.1 v.1)

  -- so many parent steps up
  abbrev up : (steps s : ℕ) → ℕ
  up zero s = s
  up (suc j) s = parent_of a (up j s)

  here_level : {p s x : ℕ} {c : Color} (n : ℕ) → Here a p s c x → Level a n p → Level a (suc n) x
  here_level {p} {s} {x} {c} n h v = (h.linked.positive, rw (marked_parent a x p c h.marked) v)

  -- from x, so many steps lead up to s, which hangs below p on level n
  record Below (n p s x : ℕ) : Type 0 where
    steps : ℕ
    rank : ℕ
    level : Level a rank x
    deep : rank ≡ suc (n + steps)
    meets : up steps x ≡ s
    parent : parent_of a s ≡ p

  deeper : {n p s y z x : ℕ} {c : Color} → Here a p s c y → Below (suc n) y z x → Below n p s x
  deeper {n} {p} {s} {y} {z} {x} {c} h b = record {
    steps = suc b.steps;
    rank = b.rank;
    level = b.level;
    deep = omega (arith, b.deep);
    meets = ap (parent_of a) b.meets ∙ b.parent ∙ sym h.same;
    parent = rw h.same (marked_parent a y p c h.marked);
  }

  below : (n p s : ℕ) (t : Tree) (x : ℕ) → Hangs a p s t → Level a n p → 1 ≤ count t x → Below n p s x
  below n p s leaf x h v k = absurd (omega arith)
  below n p s (node c l y r) x h v k =
      let level = here_level n h.0 v in
      count_cases c l y r x k
      (λ e. record {
        steps = 0;
        rank = suc n;
        level = rw (← e) level;
        deep = omega arith;
        meets = sym (h.0.same ∙ e);
        parent = rw h.0.same (marked_parent a y p c h.0.marked);
      })
      (λ k. deeper h.0 (below (suc n) y (child_of lft a y) l x h.1 level k))
      (λ k. deeper h.0 (below (suc n) y (child_of rgt a y) r x h.2 level k))

  -- two subtrees of a node with a slot in common have the same top
  meet : {n p s u x : ℕ} → Below n p s x → Below n p u x → s ≡ u
  meet {n} {p} {s} {u} {x} b k =
      let e : b.rank ≡ k.rank = level_one b.rank k.rank x b.level k.level in
      let f : b.steps ≡ k.steps = omega (arith, b.deep, k.deep) in
      sym b.meets ∙ ap (λ (j : ℕ). up j x) f ∙ k.meets

  no_count : (p s : ℕ) (t : Tree) (x : ℕ) → Hangs a p s t → s ≡ 0 → count t x ≡ 0
  no_count p s leaf x h e = refl
  no_count p s (node c l y r) x h e = absurd (omega (arith, h.0.same, h.0.linked.positive))

  module _ (n p s : ℕ) (c : Color) (l : Tree) (y : ℕ) (r : Tree)
      (h : Hangs a p s (node c l y r)) (v : Level a (suc n) y) (x : ℕ) where
    left : 1 ≤ count l x → Below (suc n) y (child_of lft a y) x
    left k = below (suc n) y (child_of lft a y) l x h.1 v k

    right : 1 ≤ count r x → Below (suc n) y (child_of rgt a y) x
    right k = below (suc n) y (child_of rgt a y) r x h.2 v k

    shared : 1 ≤ count l x → 1 ≤ count r x → ⊥
    shared i j =
        omega (arith, no_count y (child_of lft a y) l x h.1 (differ_none h.0.differ (meet (left i) (right j))))

    own : {z : ℕ} → y ≡ x → Below (suc n) y z x → ⊥
    own e b = omega (arith, b.deep, level_one (suc n) b.rank x (rw e at v) b.level)

    -- a slot stands at the top, or on one side
    once_node : count l x ≤ 1 → count r x ≤ 1 → count (node c l y r) x ≤ 1
    once_node i j =
        by-slot y x
        (λ e. omega (
          arith,
          ap (one y) (sym e) ∙ one_same y,
          none (count l x) (λ k. own e (left k)),
          none (count r x) (λ k. own e (right k)),
        ))
        (λ e. omega (arith, either (count l x) (count r x) i j shared))

  once : (n p s : ℕ) (t : Tree) → Hangs a p s t → Level a n p → (x : ℕ) → count t x ≤ 1
  once n p s leaf h v x = omega arith
  once n p s (node c l y r) h v x =
      let level = here_level n h.0 v in
      once_node n p s c l y r h level x (once (suc n) y (child_of lft a y) l h.1 level x)
      (once (suc n) y (child_of rgt a y) r h.2 level x)

  -- the slots of the tree are linked
  pub hangs_linked : (p s : ℕ) (t : Tree) (x : ℕ) → Hangs a p s t → 1 ≤ count t x → Linked a x
  hangs_linked p s leaf x h k = absurd (omega arith)
  hangs_linked p s (node c l y r) x h k =
      count_cases c l y r x k
      (λ e. rw (← e) h.0.linked)
      (λ k. hangs_linked y (child_of lft a y) l x h.1 k)
      (λ k. hangs_linked y (child_of rgt a y) r x h.2 k)

  -- the tree below the root fits into the arrays
  pub hangs_sound : (root : ℕ) (t : Tree) → Hangs a 0 root t → Sound (capacity a) t
  hangs_sound root t h = record {
    once = once 0 0 root t h refl;
    low = λ x k. (hangs_linked 0 root t x h k).positive;
    high = λ x k. (hangs_linked 0 root t x h k).fits;
  }
