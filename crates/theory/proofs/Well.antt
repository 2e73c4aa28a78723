-- Where a tree hangs in lent arrays and nothing else does, W1 to W6 hold.
use Prim.Native.Nat.{ℕ, zero, suc, ◌≤◌, ◌<◌}
use native.Mathlib.Omega.{arith}
use mathlib.Core.Path.{◌≡◌, refl, sym, ◌∙◌}
use Rattle.model.specs.Tree.{Side, lft, rgt, Color, Tree, leaf, node, on, plug, above}
use Rattle.model.specs.Lent.{Lent, Linked, capacity, child_of, pc_of}
use Rattle.model.specs.WellFormed.{Reached, W3, W5, WellFormed}
use Rattle.theory.specs.Balance.{tint, Allowed}
use Rattle.theory.specs.Sound.{count}
use Rattle.theory.specs.Hangs.{Here, Hangs, Hung}
use Rattle.theory.proofs.Lists.{count_member}
use Rattle.theory.proofs.Focus.{standing}
use Rattle.theory.proofs.Balance.{unplug}
use Rattle.theory.proofs.Calm.{allowed_red, calm_side}
use Rattle.theory.proofs.Marks.{marked_color}
use Rattle.theory.proofs.Hangs.{hangs_below, hangs_child, hangs_color, hangs_place, reached_place}
use Rattle.theory.proofs.Levels.{hangs_linked}
use Rattle.theory.proofs.Walks.{walk_is, way_is}

module _ (m : Lent) (t : Tree) (h : Hung m t) where
  -- a linked slot stands in the tree
  pub hung_linked : (s : ℕ) → Linked m.arrays s → 1 ≤ count t s
  hung_linked s k = go (count t s) refl
    where
      go : (n : ℕ) → count t s ≡ n → 1 ≤ count t s
      go zero e = absurd (omega (arith, k.marked, (h.rest s k.positive k.fits e).pc))
      go (suc n) e = omega arith

  -- what stands at a linked slot, and below it on each side
  record Node (s : ℕ) : Type 0 where
    color : Color
    left : Tree
    right : Tree
    parent : ℕ
    here : Here m.arrays parent s color s
    below : (d : Side) → Hangs m.arrays s (child_of d m.arrays s) (on d left right)
    colors : (d : Side) → Allowed color (tint (on d left right))
    reached : Reached m.arrays m.root s

  node_of : (s : ℕ) → Linked m.arrays s → Node s
  node_of s k =
      let p = standing lft s t (count_member t s (hung_linked s k)) in
      let u = node p.color p.near s p.far in
      let root : Hangs m.arrays 0 m.root (plug u p.way) = rw p.whole h.hangs in
      let hangs = hangs_place m.arrays m.root u p.way root in
      let calm = (unplug u p.way (rw p.whole h.balanced)).ranked.calm in
      record {
        color = p.color;
        left = p.near;
        right = p.far;
        parent = above p.way;
        here = hangs.0;
        below = λ d. hangs_below m.arrays d (above p.way) s p.color p.near s p.far hangs;
        colors = λ d. calm_side d p.color p.near s p.far calm;
        reached = reached_place m.arrays m.root u p.way root k.positive;
      }

  w3 : W3 m
  w3 = record {
    child = λ d s k.
        let n = node_of s k in
        hangs_child m.arrays s (child_of d m.arrays s) (on d n.left n.right) (n.below d);
    differ = λ s k. (node_of s k).here.differ;
    root = λ some. (
      hangs_color m.arrays 0 m.root t h.hangs some ∙ h.balanced.top,
      (hangs_child m.arrays 0 m.root t h.hangs some).1,
    );
    empty = λ e s k. bare s t e h.hangs (hung_linked s k);
    reached = λ s k. (node_of s k).reached;
  }
    where
      bare : (s : ℕ) (t : Tree) → m.root ≡ 0 → Hangs m.arrays 0 m.root t → 1 ≤ count t s → ⊥
      bare s leaf e h k = omega arith
      bare s (node c l x r) e h k = omega (arith, h.0.same, h.0.linked.positive)

  w5 : W5 m.arrays
  w5 d s k e some =
      let n = node_of s k in
      let u = on d n.left n.right in
      let is-red = sym (marked_color m.arrays s n.parent n.color n.here.marked) ∙ e in
      hangs_color m.arrays s (child_of d m.arrays s) u (n.below d) some
      ∙ allowed_red n.color (tint u) is-red (n.colors d)

  root_fits : m.root ≤ capacity m.arrays
  root_fits = go t h.hangs
    where
      go : (t : Tree) → Hangs m.arrays 0 m.root t → m.root ≤ capacity m.arrays
      go leaf h = omega arith
      go (node c l x r) h = omega (arith, h.0.same, h.0.linked.fits)

  clear_rest : (s : ℕ) → 0 < s → s ≤ capacity m.arrays → pc_of m.arrays s ≡ 0 →
      (child_of lft m.arrays s ≡ 0) × (child_of rgt m.arrays s ≡ 0)
  clear_rest s low high e = go (count t s) refl
    where
      go : (n : ℕ) → count t s ≡ n → (child_of lft m.arrays s ≡ 0) × (child_of rgt m.arrays s ≡ 0)
      go zero f = let k = h.rest s low high f in (k.child lft, k.child rgt)
      go (suc n) f = absurd (omega (arith, (hangs_linked m.arrays 0 m.root t s h.hangs (omega arith)).marked))

-- W1 to W6
pub hung_well : {m : Lent} {t : Tree} → Hung m t → WellFormed m
hung_well {m} {t} h = record {
  w1 = record { lengths = h.lengths; root = root_fits m t h };
  w2 = clear_rest m t h;
  w3 = w3 m t h;
  w4 = λ L walk. rw (walk_is m.arrays 0 m.root L t h.hangs walk) h.rising;
  w5 = w5 m t h;
  w6 = λ n k v w.
      way_is m.arrays 0 m.root n t h.hangs h.balanced.even v
      ∙ sym (way_is m.arrays 0 m.root k t h.hangs h.balanced.even w);
}
