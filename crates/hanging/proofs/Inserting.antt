-- hang, insert_below, insert_root and insert_at: each call's demands, and the promises.
use Prim.Native.Nat.{ℕ, ◌+◌, ◌*◌, ◌≤◌, ◌<◌}
use mathlib.Core.List.{List, [], ◌∷◌}
use mathlib.Core.Path.{◌≡◌, refl, sym, ap, ◌∙◌}
use lib.ListN.{length}
use native.Mathlib.Omega.{arith}
use Rattle.model.specs.Tree.{Side, lft, rgt, Color, red, Tree, leaf, Frame, frame, plug, above, side_of}
use Rattle.model.specs.Hanging.{hang}
use Rattle.theory.specs.Balance.{Topped}
use Rattle.theory.specs.Sound.{count, Sound}
use Rattle.theory.specs.Links.{Links, links, drawn, set_child, set_pc}
use Rattle.theory.specs.Programs.{store, hang_in, plant_in, post_insert}
use Rattle.theory.specs.Sided.{sided}
use Rattle.theory.specs.Places.{Bounded, Drawn, Made}
use Rattle.theory.proofs.Balance.{balanced_topped}
use Rattle.theory.proofs.Counts.{slot_low}
use Rattle.theory.proofs.Linking.{plant_drawn, hang_drawn, hung_sound, insert_drawn}
use Rattle.theory.proofs.Sided.{sided_set_near, sided_set_root}
use Rattle.theory.proofs.Places.{above_high, swap, bounded, long}
use Rattle.theory.proofs.Depth.{sound_deep}
use Rattle.links.specs.Reads.{SlotIn}
use Rattle.links.specs.Writes.{Set, SetLinksPre, SetLinks}
use Rattle.hanging.specs.Climbs.{PostInsertPre}
use Rattle.hanging.specs.Inserts.{HangPre, HangPost, Vacant, VacantBelow, Inserted}

-- ---- hang

module _ {near far pc near₁ far₁ pc₁ : List ℕ} {p x : ℕ} (s : SetLinks near far pc x 0 0 p 0 near₁ far₁ pc₁) where
  stored : (d : Side) (root : ℕ) → sided d near₁ far₁ pc₁ root ≡ store (sided d near far pc root) x 0 0 (2 * p + 0)
  unfolding store set_child set_pc
  stored lft root = s.is root
  stored rgt root = ap (λ (z : Links). links z.right z.left z.pc z.root) (s.is root)

  -- the promise
  pub hang_done : {near₂ : List ℕ} → Set near₁ p x near₂ → HangPost near far pc p x near₂ far₁ pc₁
  unfolding hang_in
  hang_done g =
      record {
        is = λ d root. rw (← stored d root, sided_set_near d near₁ far₁ pc₁ root p x, ← g.is) refl;
        same_near = g.same ∙ s.same_left;
        same_far = s.same_right;
        same_pc = s.same_pc;
      }

-- ---- an empty place

-- a slot may be stored
storable : {near far pc : List ℕ} {root x : ℕ} → Bounded near far pc root → 1 ≤ x → x ≤ length near
    → SlotIn near far pc x
storable b low high =
    record {
      left = b.near_below;
      right = b.far_below;
      pc = b.parents;
      lr = b.same_far;
      lp = b.same_pc;
      small = b.small;
      pos = low;
      top = high;
    }

-- its way is empty without a parent, and begins at the parent otherwise
by_parent : (P : List Frame → Type 0) (w : List Frame) {C : ℕ} (p : ℕ) (d : Side) → Sound C (plug leaf w)
    → above w ≡ p → (0 < p → side_of w ≡ d)
    → (p ≡ 0 → P []) → (0 < p → (c : Color) (s : Tree) (v : List Frame) → P (frame d c p s ∷ v)) → P w
by_parent P [] p d h over side none some = none (sym over)
by_parent P (frame e c q s ∷ w) p d h over side none some =
    let low : 0 < p = rw over at (slot_low e c leaf q s w h) in
    rw (over, side low) (some low c s w)

module _ {left right pc : List ℕ} {root p : ℕ} {d : Side} {x : ℕ} (v : Vacant left right pc root p d x) where
  all : Bounded left right pc root
  all = bounded v.held

  x_high : x ≤ length left
  x_high = rw (long v.held) v.high

  p_high : p ≤ length left
  p_high = rw (long v.held, ← v.over) (above_high leaf v.way v.held.sound)

  topped : Topped v.way
  topped = balanced_topped leaf v.way v.balanced

-- ---- insert_below

-- what hang leaves, with near as left or as right
pub record Hung (left right pc : List ℕ) (d : Side) (p x : ℕ) (left₁ right₁ pc₁ : List ℕ) : Type 0 where
  pub is : (root : ℕ) → links left₁ right₁ pc₁ root ≡ hang_in d (links left right pc root) p x
  pub same : length left₁ ≡ length left

module _ {left right pc left₁ right₁ pc₁ : List ℕ} {p x : ℕ} {d : Side} where
  pub hung_left : d ≡ lft → HangPost left right pc p x left₁ right₁ pc₁
      → Hung left right pc d p x left₁ right₁ pc₁
  hung_left e m = record { is = λ root. rw e (m.is lft root); same = m.same_near }

  pub hung_right : d ≡ rgt → HangPost right left pc p x right₁ left₁ pc₁
      → Hung left right pc d p x left₁ right₁ pc₁
  hung_right e m = record { is = λ root. rw e (m.is rgt root); same = m.same_far }

module _ {left right pc : List ℕ} {root p : ℕ} {d : Side} {x : ℕ} (k : VacantBelow left right pc root p d x) where
  -- what hang asks for, on either side
  pub hang_left : HangPre left right pc p x
  hang_left =
      let v = k.vacant in
      record { slot = storable (all v) v.low (x_high v); low = k.some; high = p_high v }

  pub hang_right : HangPre right left pc p x
  hang_right =
      let v = k.vacant in let b = swap (all v) in
      record {
        slot = storable b v.low (omega (arith, x_high v, (all v).same_far));
        low = k.some;
        high = omega (arith, p_high v, (all v).same_far);
      }

  module _ {left₁ right₁ pc₁ : List ℕ} (m : Hung left right pc d p x left₁ right₁ pc₁) where
    hung : links left₁ right₁ pc₁ root ≡ hang_in d (links left right pc root) p x
    hung = m.is root

    -- what post_insert asks for
    pub post_ready : PostInsertPre left₁ right₁ pc₁ root x
    post_ready =
        let v = k.vacant in
        by_parent
        (λ w. Drawn lft left right pc root v.size (plug leaf w) → count (plug leaf w) x ≡ 0 → Topped w
        → PostInsertPre left₁ right₁ pc₁ root x)
        v.way p d v.held.sound v.over v.side
        (λ e held fresh o. absurd (omega (arith, k.some)))
        (λ low c s w held fresh o.
        record {
          size = v.size;
          color = red;
          left_tree = leaf;
          right_tree = leaf;
          way = frame d c p s ∷ w;
          spot = record {
            held = record {
              is = hung ∙ ap (λ (z : Links). hang_in d z p x) held.is
                  ∙ hang_drawn d c p s w x v.low held.sound fresh;
              sound = hung_sound d c p s w x v.low held.sound fresh v.high;
              small = held.small;
            };
          };
          topped = o;
        })
        v.held v.fresh (topped v)

    -- the promise
    pub inserted : {left' right' pc' : List ℕ} {root' : ℕ}
        → Made (post_insert (length left₁) (links left₁ right₁ pc₁ root) x) (length left₁) left' right' pc' root'
        → Inserted left right pc root p d x left' right' pc' root'
    inserted done =
        record {
          is = λ v. done.is ∙ ap (λ (z : Links). post_insert (length left₁) z x) hung ∙ by_parent
              (λ w. Drawn lft left right pc root v.size (plug leaf w) → count (plug leaf w) x ≡ 0 → Topped w
              → post_insert (length left₁) (hang_in d (links left right pc root) p x) x ≡ drawn v.size (hang x w))
              v.way p d v.held.sound v.over v.side
              (λ e held fresh o. absurd (omega (arith, k.some)))
              (λ low c s w held fresh o.
              ap (λ (z : Links). post_insert (length left₁) (hang_in d z p x) x) held.is
              ∙ insert_drawn d c p s w x v.low held.sound fresh (length left₁)
              (omega (arith, m.same, long held, sound_deep leaf (frame d c p s ∷ w) held.sound)) v.high o)
              v.held v.fresh (topped v);
          bounded = done.bounded;
          same = done.same ∙ m.same;
        }

-- ---- insert_root

module _ {left right pc : List ℕ} {root x : ℕ} (k : Vacant left right pc root 0 rgt x) where
  -- what the call asks for
  pub root_links : SetLinksPre left right pc x 0 0 0
  root_links =
      record {
        slot = storable (all k) k.low (x_high k);
        first = omega arith;
        second = omega arith;
        parent = omega arith;
      }

  -- the promise
  pub planted : {left' right' pc' : List ℕ} → SetLinks left right pc x 0 0 0 1 left' right' pc'
      → Inserted left right pc root 0 rgt x left' right' pc' x
  unfolding plant_in
  planted {left'} {right'} {pc'} s =
      let b = all k in
      let is : links left' right' pc' x ≡ plant_in (links left right pc root) x
      = rw (← s.is root) (sym (sided_set_root lft left' right' pc' root x)) in
      record {
        is = λ v. is ∙ by_parent
            (λ w. Drawn lft left right pc root v.size (plug leaf w)
            → plant_in (links left right pc root) x ≡ drawn v.size (hang x w))
            v.way 0 rgt v.held.sound v.over v.side
            (λ e held. ap (λ (z : Links). plant_in z x) held.is ∙ plant_drawn v.size x v.low)
            (λ low c s w held. absurd (omega arith))
            v.held;
        bounded = record {
          near_below = s.left;
          far_below = s.right;
          parents = s.pc;
          top = omega (arith, x_high k, s.same_left);
          same_far = omega (arith, s.same_right, s.same_left, b.same_far);
          same_pc = omega (arith, s.same_pc, s.same_left, b.same_pc);
          small = omega (arith, s.same_left, b.small);
        };
        same = s.same_left;
      }

-- ---- insert_at

module _ {left right pc : List ℕ} {root p x : ℕ} {d : Side} where
  -- without a parent the side says nothing
  pub at_root : p ≡ 0 → Vacant left right pc root p d x → Vacant left right pc root 0 rgt x
  at_root e v =
      record {
        size = v.size;
        way = v.way;
        over = v.over ∙ e;
        side = λ low. absurd (omega arith);
        held = v.held;
        balanced = v.balanced;
        fresh = v.fresh;
        low = v.low;
        high = v.high;
      }

  pub rooted : {left' right' pc' : List ℕ} {root' : ℕ} → p ≡ 0
      → Inserted left right pc root 0 rgt x left' right' pc' root'
      → Inserted left right pc root p d x left' right' pc' root'
  unfolding at_root
  rooted e m = record { is = λ v. m.is (at_root e v); bounded = m.bounded; same = m.same }
