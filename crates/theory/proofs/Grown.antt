-- Where W1 to W6 hold, the tree that the child numbers draw hangs in the arrays, and nothing else does.
use Prim.Native.Nat.{ℕ, zero, suc, ◌+◌, ◌≤◌, ◌<◌}
use native.Mathlib.Omega.{arith}
use native.Mathlib.Decide.{ℕ_discrete}
use mathlib.Core.Logic.{◌≢◌}
use mathlib.Core.Path.{◌≡◌, refl, sym, ◌∙◌}
use borrow.Author.Tests.{eq-eqb, ne_eqb}
use Rattle.model.specs.Tree.{Side, lft, rgt, black, Tree, leaf, node, nod, slots, above}
use Rattle.model.specs.Lent.{Arrays, Lent, Linked, capacity, child_of, pc_of, parent_of, color_of, parent_color, grow}
use Rattle.model.specs.WellFormed.{ChildOf, Reached, at_root, by_child, WellFormed}
use Rattle.theory.specs.Balance.{tint, Calm, size}
use Rattle.theory.specs.Sound.{count, Sound}
use Rattle.theory.specs.Hangs.{Here, Hangs, Clear, Level, Hung}
use Rattle.theory.proofs.Counts.{one_same, by-slot, count_nod, count_plug}
use Rattle.theory.proofs.Lists.{count_member}
use Rattle.theory.proofs.Focus.{standing}
use Rattle.theory.proofs.Nodes.{count_cases}
use Rattle.theory.proofs.Totals.{sound_size}
use Rattle.theory.proofs.Calm.{allowed}
use Rattle.theory.proofs.Marks.{marked_color, mark_is}
use Rattle.theory.proofs.Hangs.{clear_of, hangs_near, hangs_color, hangs_place, top_count}
use Rattle.theory.proofs.Levels.{level_one}
use Rattle.theory.proofs.Walks.{walk_of, ways_even}

black_marked : (a : Arrays) (s : ℕ) → color_of a s ≡ black → 0 < pc_of a s
black_marked a s e = let z : pc_of a s ≡ parent_color (parent_of a s) black = rw e at (mark_is a s) in omega arith

module _ (m : Lent) (w : WellFormed m) where
  -- the root, as a child number of 0
  root_child : ChildOf m.arrays 0 m.root
  root_child some =
      let root = w.w3.root some in
      let marked = black_marked m.arrays m.root root.0 in
      (record { positive = omega arith; fits = w.w1.root; marked = marked }, root.1)

  -- The parent steps from a slot meet so many different linked slots: `above` has them, one below the other.
  record Chain (s : ℕ) : Type 0 where
    rank : ℕ
    level : Level m.arrays rank s
    above : Tree
    many : size above ≡ rank
    each : (x : ℕ) → 1 ≤ count above x → Linked m.arrays x × ((k : ℕ) × (k ≤ rank) × Level m.arrays k x)
    once : (x : ℕ) → count above x ≤ 1

  -- one for every slot that is reached
  chain_start : Chain 0
  chain_start = record
      { rank = 0; level = refl; above = leaf; many = refl; each = λ x k. absurd (omega arith); once = λ x. omega arith }

  chain_step : (p s : ℕ) → Chain p → Linked m.arrays s → parent_of m.arrays s ≡ p → Chain s
  chain_step p s c k e = record {
    rank = suc c.rank;
    level = level;
    above = node black leaf s c.above;
    many = omega (arith, c.many);
    each = λ x i.
        count_cases black leaf s c.above x i
        (λ z. rw (← z) (k, (suc c.rank, omega arith, level)))
        (λ j. absurd (omega arith))
        (λ j. let q = c.each x j in (q.0, (q.1.0, omega (arith, q.1.1), q.1.2)));
    once = λ x.
        by-slot s x
        (λ z. rw (← z) (omega (arith, one_same s, fresh (count c.above s) refl)))
        (λ z. omega (arith, c.once x));
  }
    where
      level : Level m.arrays (suc c.rank) s
      level = (k.positive, rw e c.level)

      fresh : (n : ℕ) → count c.above s ≡ n → count c.above s ≡ 0
      fresh zero z = z
      fresh (suc n) z =
          let q = (c.each s (omega arith)).1 in
          absurd (omega (arith, q.1, level_one m.arrays (suc c.rank) q.0 s level q.2))

  chain_child : (p z s : ℕ) → ChildOf m.arrays p z → Chain p → 0 < s → s ≡ z → Linked m.arrays s × Chain s
  chain_child p z s child c some e =
      let k = child (omega arith) in
      rw e (k.0, chain_step p z c k.0 k.1)

  chain : {s : ℕ} → Reached m.arrays m.root s → Linked m.arrays s × Chain s
  chain {s} (at_root some e) = chain_child 0 m.root s root_child chain_start some e
  chain {s} (by_child d p r some e) =
      let c = chain r in
      chain_child p (child_of d m.arrays p) s (w.w3.child d p c.0) c.1 some e

  -- it is no longer than there are slots
  chain_fits : {s : ℕ} (c : Chain s) → c.rank ≤ capacity m.arrays
  chain_fits c =
      let sound : Sound (capacity m.arrays) c.above = record {
        once = c.once;
        low = λ x k. (c.each x k).0.positive;
        high = λ x k. (c.each x k).0.fits;
      } in
      omega (arith, sound_size sound, c.many)

  here_is : (p s : ℕ) → Linked m.arrays s → parent_of m.arrays s ≡ p →
      Here m.arrays p s (color_of m.arrays s) s
  here_is p s k e = record {
    same = refl;
    linked = k;
    differ = w.w3.differ s k;
    marked = rw e at (mark_is m.arrays s);
  }

  -- the child numbers come to an end within the depth left
  grown : (depth n p s : ℕ) → Level m.arrays n p → ChildOf m.arrays p s →
      (s ≢ 0 → Reached m.arrays m.root s) → capacity m.arrays ≤ n + depth →
      Hangs m.arrays p s (grow depth m.arrays s)
  unfolding grow
  grown zero n p s v child reach deep = go (ℕ_discrete s 0)
    where
      go : Dec (s ≡ 0) → s ≡ 0
      go (yes e) = e
      go (no e) =
          let c = (chain (reach e)).1 in
          let level : Level m.arrays (suc n) s = (omega arith, rw (child e).1 v) in
          absurd (omega (arith, chain_fits c, level_one m.arrays (suc n) c.rank s level c.level))
  grown (suc depth) n p s v child reach deep =
      go (ℕ_discrete s 0) λ d k level r.
      grown depth (suc n) s (child_of d m.arrays s) level (w.w3.child d s k)
      (λ some. by_child d s r (omega arith) refl) (omega arith)
    where
      go : Dec (s ≡ 0) →
          ((d : Side) → Linked m.arrays s → Level m.arrays (suc n) s → Reached m.arrays m.root s →
          Hangs m.arrays s (child_of d m.arrays s) (grow depth m.arrays (child_of d m.arrays s))) →
          Hangs m.arrays p s (grow (suc depth) m.arrays s)
      go (yes e) below = rw (eq-eqb s 0 e) e
      go (no e) below =
          let k = child e in
          let level : Level m.arrays (suc n) s = (omega arith, rw k.1 v) in
          let left = below lft k.0 level (reach e) in
          let right = below rgt k.0 level (reach e) in
          rw (ne_eqb s 0 e) (here_is p s k.0 k.1, left, right)

  -- W5 and the black root, on the tree
  black_top : (p s : ℕ) (t : Tree) → Hangs m.arrays p s t → (s ≢ 0 → color_of m.arrays s ≡ black) → tint t ≡ black
  black_top p s leaf h f = refl
  black_top p s (node c l x r) h f =
      let some : s ≢ 0 = omega (arith, h.0.same, h.0.linked.positive) in
      sym (hangs_color m.arrays p s (node c l x r) h some) ∙ f some

  calm_of : (p s : ℕ) (t : Tree) → Hangs m.arrays p s t → Calm t
  calm_of p s leaf h = tt
  calm_of p s (node c l x r) h = (
    allowed c (tint l) (λ e. black_top x (child_of lft m.arrays x) l h.1 (w.w5 lft x h.0.linked (top ∙ e))),
    allowed c (tint r) (λ e. black_top x (child_of rgt m.arrays x) r h.2 (w.w5 rgt x h.0.linked (top ∙ e))),
    calm_of x (child_of lft m.arrays x) l h.1,
    calm_of x (child_of rgt m.arrays x) r h.2,
  )
    where
      top : color_of m.arrays x ≡ c
      top = marked_color m.arrays x p c h.0.marked

  module _ (t : Tree) (h : Hangs m.arrays 0 m.root t) where
    -- what is reached stands in the tree, and what isn't is clear
    counted : {s : ℕ} → Reached m.arrays m.root s → 1 ≤ count t s
    counted {s} (at_root some e) = top_count m.arrays 0 s t (rw e h) some
    counted {s} (by_child d p r some e) =
        let q = standing d p t (count_member t p (counted r)) in
        let u = nod d q.color q.near p q.far in
        let hangs = hangs_place m.arrays m.root u q.way (rw q.whole h) in
        let below = hangs_near m.arrays d (above q.way) p q.color q.near p q.far hangs in
        let here = top_count m.arrays p s q.near (rw e below) some in
        let up = count_nod d q.color q.near p q.far s in
        rw (← q.whole) (omega (arith, here, count_plug u q.way s))

    rest : (s : ℕ) → 0 < s → s ≤ capacity m.arrays → count t s ≡ 0 → Clear m.arrays s
    rest s low high e = go (pc_of m.arrays s) refl
      where
        go : (n : ℕ) → pc_of m.arrays s ≡ n → Clear m.arrays s
        go zero f = clear_of m.arrays s (w.w2 s low high f) f
        go (suc n) f =
            let k : Linked m.arrays s = record { positive = low; fits = high; marked = omega arith } in
            absurd (omega (arith, counted (w.w3.reached s k)))

-- the tree that the child numbers draw, however deep
pub well_hung : {m : Lent} → WellFormed m → Hung m (grow (capacity m.arrays) m.arrays m.root)
well_hung {m} w = record {
  lengths = w.w1.lengths;
  hangs = hangs;
  rest = rest m w t hangs;
  balanced = record {
    calm = calm_of m w 0 m.root t hangs;
    even = ways_even m.arrays 0 m.root t hangs w.w6;
    top = black_top m w 0 m.root t hangs (λ some. (w.w3.root some).0);
  };
  rising = w.w4 (slots t) (walk_of m.arrays 0 m.root t hangs);
}
  where
    t : Tree
    t = grow (capacity m.arrays) m.arrays m.root

    hangs : Hangs m.arrays 0 m.root t
    hangs =
        grown m w (capacity m.arrays) 0 0 m.root refl (root_child m w)
        (λ some. at_root (omega arith) refl) (omega arith)
