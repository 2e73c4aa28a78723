-- post_insert: a turn of its loop recolours and goes up two levels, and the drawing to be reached stays the same.
use Prim.Native.Nat.{ℕ, ◌<◌}
use mathlib.Core.Bool.{true, true≢false}
use mathlib.Core.List.{List, [], ◌∷◌}
use mathlib.Core.Path.{◌≡◌, refl, sym, ap, ◌∙◌}
use lib.ListN.{length}
use lib.Dec.{eqb}
use native.Mathlib.Omega.{arith}
use Rattle.model.specs.Branch.{pick}
use Rattle.model.specs.Tree.{Side, lft, rgt, Color, red, black, Tree, leaf, node, on, nod, top_of, is_red, Frame, frame}
use Rattle.model.specs.Tree.{plug}
use Rattle.model.specs.Lent.{at}
use Rattle.model.specs.Hanging.{crown, climb}
use Rattle.theory.specs.Balance.{Topped}
use Rattle.theory.specs.Slots.{parent_at, put_color, ups}
use Rattle.theory.specs.Links.{links, drawn, parent_in}
use Rattle.theory.specs.Programs.{recolor, post_insert}
use Rattle.theory.specs.Sided.{sided}
use Rattle.theory.specs.Places.{Spot, Made}
use Rattle.theory.proofs.Climbing.{recolor_drawn, recolor_sound, topped_tail}
use Rattle.theory.proofs.Sided.{sided_parent, sided_set_color}
use Rattle.theory.proofs.Places.{spot_low, spot_high, spot_bounded, spot_parent, spot_far, spot_under, spot_up}
use Rattle.theory.proofs.Places.{spot_side}
use Rattle.theory.proofs.Depth.{spot_ups}
use Rattle.std.specs.Prelude.{Some, None}
use Rattle.links.specs.declared.types.Slot.{Slot}
use Rattle.links.specs.Reads.{red_at}
use Rattle.links.proofs.Colors.{spot_red}
use Rattle.hanging.specs.Recolors.{red_or, grand_at, uncle_at, UnclePre, RedUncle, crown_at, recolor_at, RecolorPre}
use Rattle.hanging.specs.Recolors.{Recolored}
use Rattle.hanging.specs.Climbs.{PostInsertPre, red_uncle, FinishPre, finish_in}
use Rattle.hanging.proofs.Colors.{child_red, spot_down}
use Rattle.hanging.proofs.Finishing.{climbed, climbed_is, finished_is}

-- ---- what red_uncle tells of the tree

module _ {left right pc : List ℕ} {root C : ℕ} {c : Color} {a b : Tree} {x : ℕ} where
  across : (e : Side) {d : Side} {k : Color} {q g : ℕ} {s : Tree} (u : Tree) {w : List Frame}
      → Spot lft left right pc root C lft c a x b (frame d red q s ∷ frame e k g u ∷ w)
      → red_or pc (pick (eqb (at left g) q) (at right g) (at left g)) ≡ pick (is_red u) (top_of u) 0
  unfolding red_or
  across lft u k =
      let grand = spot_up (spot_up k) in
      rw (spot_side (spot_up k), spot_far grand, child_red u grand) refl
  across rgt u k =
      let grand = spot_up (spot_up k) in
      rw (spot_side (spot_up k), spot_under grand, child_red u grand) refl

  uncle_at_lem : (w : List Frame) → Spot lft left right pc root C lft c a x b w → Topped w
      → uncle_at left right pc x ≡ red_uncle w
  unfolding uncle_at grand_at red_at
  uncle_at_lem [] k o = rw (spot_parent k) refl
  uncle_at_lem (frame d black q s ∷ w) k o = rw (spot_parent k, spot_red (spot_up k)) refl
  uncle_at_lem (frame d red q s ∷ []) k o = absurd o
  uncle_at_lem (frame d red q s ∷ frame e k' g u ∷ w) k o =
      rw (spot_parent k, spot_red (spot_up k), spot_parent (spot_up k)) (across e u k)

  -- a red parent has one itself
  grand_at_lem : (w : List Frame) → Spot lft left right pc root C lft c a x b w → Topped w
      → red_at pc (parent_at pc x) ≡ true → 0 < grand_at pc x
  unfolding grand_at red_at
  grand_at_lem [] k o e = absurd (true≢false (sym e ∙ ap (red_at pc) (spot_parent k)))
  grand_at_lem (frame d black q s ∷ w) k o e =
      absurd (true≢false (sym e ∙ ap (red_at pc) (spot_parent k) ∙ spot_red (spot_up k)))
  grand_at_lem (frame d red q s ∷ []) k o e = absurd o
  grand_at_lem (frame d red q s ∷ frame e' k' g u ∷ w) k o e =
      rw (spot_parent k, spot_parent (spot_up k)) (spot_low (spot_up (spot_up k)))

-- a red uncle stands above a red parent
by_uncle : (P : List Frame → Type 0) (w : List Frame) (u : ℕ) → u ≡ red_uncle w → (u ≡ 0 → ⊥)
    → ((d : Side) (q : ℕ) (s : Tree) (e : Side) (k : Color) (g : ℕ) (a : Tree) (v : ℕ) (b : Tree) (w : List Frame)
    → u ≡ v → P (frame d red q s ∷ frame e k g (node red a v b) ∷ w))
    → P w
by_uncle P [] u i n more = absurd (n i)
by_uncle P (frame d black q s ∷ w) u i n more = absurd (n i)
by_uncle P (frame d red q s ∷ []) u i n more = absurd (n i)
by_uncle P (frame d red q s ∷ frame e k g leaf ∷ w) u i n more = absurd (n i)
by_uncle P (frame d red q s ∷ frame e k g (node black a v b) ∷ w) u i n more = absurd (n i)
by_uncle P (frame d red q s ∷ frame e k g (node red a v b) ∷ w) u i n more = more d q s e k g a v b w i

-- ---- a turn of the loop

recolor_sided : (d : Side) (near far pc : List ℕ) (root x u : ℕ)
    → sided d near far (recolor_at pc x u) root
    ≡ recolor (sided d near far pc root) (parent_at pc x) (grand_at pc x) u
unfolding recolor recolor_at crown_at
recolor_sided d near far pc root x u =
    let pc₁ = put_color pc (parent_at pc x) 1 in
    let g = grand_at pc x in
    rw (
      sided_set_color d near far pc root (parent_at pc x) 1,
      sided_set_color d near far pc₁ root g (pick (eqb (parent_in (sided d near far pc₁ root) g) 0) 1 0),
      sided_parent d near far pc₁ root g,
      sided_set_color d near far (put_color pc₁ g (pick (eqb (parent_at pc₁ g) 0) 1 0)) root u 1,
    ) refl

-- the slot y is the next, with fewer frames above it, and the climb from there leads to the drawing of t
record Next (left right pc : List ℕ) (root C : ℕ) (t : Tree) (w : List Frame) (y : ℕ) : Type 0 where
  pub here : PostInsertPre left right pc root y
  pub same : climbed here ≡ drawn C t
  pub less : length here.way < length w

module _ {left right pc : List ℕ} {root C : ℕ} {c : Color} {a b : Tree} {x : ℕ} where
  grand_slot : {d : Side} {k : Color} {q : ℕ} {s : Tree} {e : Side} {k' : Color} {g : ℕ} {u : Tree} {w : List Frame}
      → Spot lft left right pc root C lft c a x b (frame d k q s ∷ frame e k' g u ∷ w) → grand_at pc x ≡ g
  unfolding grand_at
  grand_slot k = rw (spot_parent k) (spot_parent (spot_up k))

  recolor_at_lem : (w : List Frame) (u : ℕ) → Spot lft left right pc root C lft c a x b w → u ≡ red_uncle w
      → (u ≡ 0 → ⊥)
      → RecolorPre pc x u
  recolor_at_lem w u k i n =
      by_uncle (λ w. Spot lft left right pc root C lft c a x b w → RecolorPre pc x u) w u i n
      (λ d q s e k' g a' v b' w i k.
      let all = spot_bounded k in
      let parent = spot_up k in
      let grand = spot_up parent in
      let uncle = spot_down e grand in
      record {
        low = spot_low k;
        high = omega (arith, spot_high k, all.same_pc);
        parents = all.parents;
        small = omega (arith, all.small, all.same_pc);
        parent = rw (spot_parent k) (spot_low parent);
        grand = rw (grand_slot k) (spot_low grand);
        uncle_low = rw i (spot_low uncle);
        uncle_high = rw i (omega (arith, spot_high uncle, all.same_pc));
      })
      k

  next_at : (w : List Frame) (u y : ℕ) (pc' : List ℕ) → Spot lft left right pc root C lft c a x b w → Topped w
      → u ≡ red_uncle w → (u ≡ 0 → ⊥) → Recolored pc x u pc' y
      → Next left right pc' root C (climb (node c a x b) w) w y
  unfolding climbed climb
  next_at w u y pc' k o i n m =
      by_uncle
      (λ w. Spot lft left right pc root C lft c a x b w → Topped w
      → Next left right pc' root C (climb (node c a x b) w) w y)
      w u i n
      (λ d q s e k' g a' v b' w i k o.
      let t = node c a x b in
      let h = k.held.sound in
      let first = nod d black t q s in
      let second = node black a' v b' in
      let is : links left right pc' root ≡ drawn C (plug (nod e (crown w) first g second) w)
      = ap (λ (z : List ℕ). links left right z root) m.is ∙ recolor_sided lft left right pc root x u
      ∙ (λ j. recolor (k.held.is j) (spot_parent k j) (grand_slot k j) (i j))
      ∙ recolor_drawn d e red t q s k' g a' v b' w h in
      rw (m.grand ∙ grand_slot k) (record {
        here = record {
          size = C;
          color = crown w;
          left_tree = on e first second;
          right_tree = on e second first;
          way = w;
          spot = record {
            held = record {
              is = is;
              sound = recolor_sound d e red t q s k' g a' v b' w h;
              small = k.held.small;
            };
          };
          topped = topped_tail (frame e k' g (node red a' v b')) w o;
        };
        same = refl;
        less = omega arith;
      }))
      k o

-- ---- the loop

-- the climb from y leads where that from x does
pub record Ongoing (left right pc : List ℕ) (root x : ℕ) (pc' : List ℕ) (y : ℕ) : Type 0 where
  pub here : PostInsertPre left right pc' root y
  pub same : climbed here ≡ post_insert (length left) (links left right pc root) x
  pub long : length pc' ≡ length pc

-- the measure: how many frames stand above
abbrev pub steps_left : (left pc : List ℕ) → (slot : ℕ) → ℕ
steps_left left pc x = ups (length left) pc x

-- it holds at the start
pub post_start : {left right pc : List ℕ} {root x : ℕ} → PostInsertPre left right pc root x
    → Ongoing left right pc root x pc x
post_start k = record { here = k; same = sym (climbed_is k); long = refl }

module _ {left right pc pc' : List ℕ} {root x y : ℕ} (k : Ongoing left right pc root x pc' y) where
  now : PostInsertPre left right pc' root y
  now = k.here

  -- what the calls ask for
  pub post_uncle : UnclePre left right pc' y
  post_uncle =
      let all = spot_bounded now.spot in
      record {
        left_below = all.near_below;
        right_below = all.far_below;
        parents = all.parents;
        same_right = all.same_far;
        same_pc = all.same_pc;
        low = spot_low now.spot;
        high = spot_high now.spot;
        grand = grand_at_lem now.way now.spot now.topped;
      }

  -- no red uncle
  module _ (uncle : RedUncle left right pc' y None) where
    pub post_finish : FinishPre left right pc' root y
    post_finish = record { here = now; none = sym (uncle_at_lem now.way now.spot now.topped) ∙ uncle.is }

    -- the promise
    pub post_done : {left₂ right₂ pc₂ : List ℕ} {root₂ : ℕ}
        → Made (finish_in (links left right pc' root) y) (length left) left₂ right₂ pc₂ root₂
        → Made (post_insert (length left) (links left right pc root) x) (length left) left₂ right₂ pc₂ root₂
    unfolding now post_finish
    post_done m = record { is = m.is ∙ finished_is post_finish ∙ k.same; bounded = m.bounded; same = m.same }

  -- a red uncle
  module _ {u : Slot} (uncle : RedUncle left right pc' y (Some u)) where
    u_is : u.0 ≡ red_uncle now.way
    u_is = uncle.is.1 ∙ uncle_at_lem now.way now.spot now.topped

    u_some : u.0 ≡ 0 → ⊥
    u_some e = omega (arith, uncle.is.0)

    pub post_recolor : RecolorPre pc' y u.0
    post_recolor = recolor_at_lem now.way u.0 now.spot u_is u_some

    module _ {pc₂ : List ℕ} {z : ℕ} (m : Recolored pc' y u.0 pc₂ z) where
      next : Next left right pc₂ root now.size
          (climb (node now.color now.left_tree y now.right_tree) now.way) now.way z
      next = next_at now.way u.0 z pc₂ now.spot now.topped u_is u_some m

      -- after a turn it still holds, with less left
      pub post_on : Ongoing left right pc root x pc₂ z
      unfolding now climbed
      post_on = record { here = next.here; same = next.same ∙ k.same; long = m.same ∙ k.long }

      pub post_less : steps_left left pc₂ z < steps_left left pc' y
      post_less = omega (arith, next.less, spot_ups next.here.spot, spot_ups now.spot)
