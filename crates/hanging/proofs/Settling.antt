-- settle and finish_at: each call's demands, from what the calls before it left, and the promises.
use Prim.Native.Nat.{ℕ}
use mathlib.Core.Bool.{Bool, true, false}
use mathlib.Core.List.{List, ◌∷◌}
use mathlib.Core.Path.{◌≡◌, sym, ap, subst, ◌∙◌}
use lib.Dec.{eqb}
use native.Mathlib.Omega.{arith}
use Rattle.model.specs.Tree.{Side, Color, red, Tree, opp, Frame, frame}
use Rattle.theory.specs.Links.{Links}
use Rattle.theory.specs.Programs.{rotate_in, settle, finish}
use Rattle.theory.specs.Places.{Bounded, Spot, Mirrored}
use Rattle.theory.proofs.Rotating.{rotate_drawn, rotate_sound}
use Rattle.theory.proofs.Sided.{sided_near, sided_parent, sided_set_color}
use Rattle.theory.proofs.Places.{swap, spot_low, spot_high, spot_bounded, spot_parent, spot_near, spot_over, spot_up}
use Rattle.theory.proofs.Places.{spot_side}
use Rattle.links.specs.Reads.{GetPre, Got, GotParent}
use Rattle.links.specs.Writes.{SetColorPre, SetColor}
use Rattle.turns.specs.Turns.{RotatePre, rotate_at}
use Rattle.turns.proofs.Mirrors.{rotated_over}
use Rattle.hanging.specs.Recolors.{grand_at}
use Rattle.hanging.specs.Climbs.{SettlePre, settle_at, FinishAtPre, finish_at}
use Rattle.hanging.proofs.Colors.{same_no}
use Rattle.hanging.proofs.Uncles.{grand_is}

-- ---- settle: the parent p of x, and the grandparent g

module _ {near far pc pc₁ : List ℕ} {root x p g : ℕ} (k : SettlePre near far pc root x) (parent : GotParent pc x p)
    (blackened : SetColor pc p 1 pc₁) (grand : GotParent pc₁ p g) where
  all : Bounded near far pc root
  all = k.bounded

  g_grand : g ≡ grand_at pc x
  g_grand = grand_is k.parent parent blackened grand

  -- what the calls ask for
  pub settle_color : SetColorPre pc₁ g
  settle_color =
      record {
        pos = rw g_grand k.grand;
        top = grand.top;
        parents = blackened.parents;
        small = omega (arith, all.small, all.same_pc, blackened.same);
      }

  module _ {pc₂ : List ℕ} (reddened : SetColor pc₁ g 0 pc₂) where
    pub settle_rotate : RotatePre far near pc₂ root g
    settle_rotate =
        record {
          bounded = swap (record {
            near_below = all.near_below;
            far_below = all.far_below;
            parents = reddened.parents;
            top = all.top;
            same_far = all.same_far;
            same_pc = reddened.same ∙ blackened.same ∙ all.same_pc;
            small = all.small;
          });
          low = rw g_grand k.grand;
          high = omega (arith, grand.top, blackened.same, all.same_pc, all.same_far);
          child = rw g_grand k.child;
        }

    -- the promise
    pub settled : {near' far' pc' : List ℕ} {root' : ℕ}
        → Mirrored (rotate_at g) far near pc₂ root far' near' pc' root'
        → Mirrored (settle_at x) near far pc root near' far' pc' root'
    unfolding settle_at settle
    settled m =
        record {
          is = λ d. rw (
            sided_parent d near far pc root x,
            ← parent.is,
            sided_set_color d near far pc root p 1,
            ← blackened.is,
            sided_parent d near far pc₁ root p,
            ← grand.is,
            sided_set_color d near far pc₁ root g 0,
            ← reddened.is,
          ) (rotated_over g m d);
          bounded = swap m.bounded;
          same = m.bounded.same_far ∙ m.same ∙ all.same_far;
        }

-- ---- finish_at

-- what settle asks for, of a slot x whose parent q is the near child of g
settling : {d : Side} {near far pc : List ℕ} {root C : ℕ} {e i : Side} {c cq cg : Color} {a b s u : Tree} {x q g : ℕ}
    {w : List Frame}
    → Spot d near far pc root C e c a x b (frame i cq q s ∷ frame d cg g u ∷ w) → SettlePre near far pc root x
unfolding grand_at
settling k =
    let parent = spot_up k in
    let grand = spot_up parent in
    record {
      bounded = spot_bounded k;
      low = spot_low k;
      high = spot_high k;
      parent = rw (spot_parent k) (spot_low parent);
      grand = rw (spot_parent k, spot_parent parent) (spot_low grand);
      child = rw (spot_parent k, spot_parent parent, spot_near grand) (spot_low parent);
    }

module _ {near far pc : List ℕ} {root x q : ℕ} (k : FinishAtPre near far pc root x q) where
  -- what the first call asks for, and settle at an outer x
  pub finish_get : GetPre near q
  finish_get =
      let parent = spot_up k.spot in
      record { pos = spot_low parent; top = spot_high parent; below = (spot_bounded parent).near_below }

  pub finish_settle : SettlePre near far pc root x
  finish_settle = settling k.spot

  module _ {y : ℕ} (outer : Got near q y) {t : Bool} (same : t ≡ eqb y x) where
    -- an inner x
    module _ (e : t ≡ false) where
      inner_spot : Spot k.side near far pc root k.size k.side k.color k.near_tree x k.far_tree
          (frame (opp k.side) red q k.sibling ∷ frame k.side k.grand_color k.grand k.uncle ∷ k.way)
      inner_spot =
          subst
          (λ (i : Side). Spot k.side near far pc root k.size k.side k.color k.near_tree x k.far_tree
          (frame i red q k.sibling ∷ frame k.side k.grand_color k.grand k.uncle ∷ k.way))
          (same_no k.inner k.side (sym (spot_side k.spot) ∙ rw (← outer.is, ← same) e))
          k.spot

      -- what the rotation asks for, and settle after it
      pub finish_rotate : RotatePre near far pc root q
      finish_rotate =
          let parent = spot_up inner_spot in
          record {
            bounded = spot_bounded parent;
            low = spot_low parent;
            high = spot_high parent;
            child = rw (spot_over parent) (spot_low k.spot);
          }

      module _ {near₁ far₁ pc₁ : List ℕ} {root₁ : ℕ}
          (m : Mirrored (rotate_at q) near far pc root near₁ far₁ pc₁ root₁) where
        rotated_spot : Spot k.side near₁ far₁ pc₁ root₁ k.size (opp k.side) red k.near_tree q k.sibling
            (frame k.side k.color x k.far_tree
            ∷ frame k.side k.grand_color k.grand k.uncle ∷ k.way)
        unfolding rotate_at
        rotated_spot =
            let d = k.side in
            let w = frame d k.grand_color k.grand k.uncle ∷ k.way in
            let h = inner_spot.held.sound in
            record {
              held = record {
                is = m.is d ∙ ap (λ (z : Links). rotate_in d z q) inner_spot.held.is
                    ∙ rotate_drawn d red k.sibling q k.color k.near_tree x k.far_tree w h;
                sound = rotate_sound d red k.sibling q k.color k.near_tree x k.far_tree w h;
                small = inner_spot.held.small;
              };
            }

        pub finish_settle_2 : SettlePre near₁ far₁ pc₁ root₁ q
        finish_settle_2 = settling rotated_spot

        -- the promise
        pub finished_inner : {near' far' pc' : List ℕ} {root' : ℕ}
            → Mirrored (settle_at q) near₁ far₁ pc₁ root₁ near' far' pc' root'
            → Mirrored (finish_at x q) near far pc root near' far' pc' root'
        unfolding finish_at settle_at finish rotate_at
        finished_inner m₁ =
            record {
              is = λ d. rw (sided_near d near far pc root q, ← outer.is, ← same, e, ← m.is d) (m₁.is d);
              bounded = m₁.bounded;
              same = m₁.same ∙ m.same;
            }

    -- the promise at an outer x
    pub finished_outer : {near' far' pc' : List ℕ} {root' : ℕ} → t ≡ true
        → Mirrored (settle_at x) near far pc root near' far' pc' root'
        → Mirrored (finish_at x q) near far pc root near' far' pc' root'
    unfolding finish_at settle_at finish
    finished_outer e m =
        record {
          is = λ d. rw (sided_near d near far pc root q, ← outer.is, ← same, e) (m.is d);
          bounded = m.bounded;
          same = m.same;
        }
