-- What the programs read of a drawing at a node, and that painting a node of a drawing draws the painted tree.
use Prim.Native.Nat.{ℕ, ◌≤◌}
use mathlib.Core.Path.{◌≡◌, refl, ap, ◌∙◌, fun_ext}
use mathlib.Core.List.{List, ◌∷◌}
use native.Mathlib.Omega.{arith}
use lib.Dec.{eqb}
use borrow.Author.Tests.{eq-eqb, ne_eqb}
use Rattle.model.specs.Tree.{Side, lft, rgt, Color, red, black, Tree, leaf, node, opp, same_side, nod, top_of, is_red}
use Rattle.model.specs.Tree.{Frame, frame, plug, above}
use Rattle.model.specs.Lent.{color_code, parent_color}
use Rattle.model.specs.Draw.{Cell, pc_cell, written, lay, draw}
use Rattle.theory.specs.Sound.{Sound}
use Rattle.theory.specs.Links.{links_of, with_keys, laid, drawn, child_in, pc_in, parent_in, color_in, red_in, side_in}
use Rattle.theory.specs.Links.{set_pc, set_color}
use Rattle.theory.proofs.Counts.{count_plug, sound_less, slot_low, slot_high}
use Rattle.theory.proofs.Cells.{update_bal, root_up, written_nod, written_plug, top_plug, read_near, read_far}
use Rattle.theory.proofs.Cells.{read_pc}
use Rattle.theory.proofs.Stores.{laid_child, laid_pc, laid_set_pc, parent_part, color_part, leads}

-- the lent numbers that a tree draws are its links, with the keys beside them
pub links_draw : (C : ℕ) (t : Tree) (keys : List ℕ) → links_of (draw C t keys) ≡ drawn C t
unfolding drawn draw lay
links_draw C t keys = refl

pub draw_with : (C : ℕ) (t : Tree) (keys : List ℕ) → draw C t keys ≡ with_keys keys (drawn C t)
unfolding drawn draw lay
draw_with C t keys = refl

-- ---- at a node

module _ {C : ℕ} (d : Side) (c : Color) (near : Tree) (x : ℕ) (far : Tree) (w : List Frame)
    (h : Sound C (plug (nod d c near x far) w)) where
  abbrev here : Tree
  here = plug (nod d c near x far) w

  pub near_drawn : child_in d (drawn C (plug (nod d c near x far) w)) x ≡ top_of near
  unfolding drawn draw laid
  near_drawn =
      laid_child C (written 0 here) (top_of here) x (slot_low d c near x far w h) d (slot_high d c near x far w h)
      ∙ read_near d c near x far w h

  pub far_drawn : child_in (opp d) (drawn C (plug (nod d c near x far) w)) x ≡ top_of far
  unfolding drawn draw laid
  far_drawn =
      laid_child C (written 0 here) (top_of here) x (slot_low d c near x far w h) (opp d) (slot_high d c near x far w h)
      ∙ read_far d c near x far w h

  pub pc_drawn : pc_in (drawn C (plug (nod d c near x far) w)) x ≡ parent_color (above w) c
  unfolding drawn draw laid
  pc_drawn =
      laid_pc C (written 0 here) (top_of here) x (slot_low d c near x far w h) (slot_high d c near x far w h)
      ∙ read_pc d c near x far w h

  pub parent_drawn : parent_in (drawn C (plug (nod d c near x far) w)) x ≡ above w
  parent_drawn = rw pc_drawn (parent_part (above w) c)

  pub color_drawn : color_in (drawn C (plug (nod d c near x far) w)) x ≡ color_code c
  color_drawn = rw pc_drawn (color_part (above w) c)

  -- the node gets another colour
  module _ (k : Color) where
    pub set_pc_drawn : set_pc (drawn C (plug (nod d c near x far) w)) x (parent_color (above w) k)
        ≡ drawn C (plug (nod d k near x far) w)
    unfolding drawn draw laid
    set_pc_drawn =
        rw (top_plug (nod d c near x far) w, top_plug (nod d k near x far) w)
        (laid_set_pc C (written 0 here) (root_up w x) x (slot_low d c near x far w h) (parent_color (above w) k)
        ∙ ap (λ (f : Cell → ℕ). laid C f (root_up w x)) (fun_ext (λ s. omega (
          arith,
          update_bal (written 0 here) (pc_cell x) s (parent_color (above w) c) (parent_color (above w) k)
              (read_pc d c near x far w h),
          written_plug (nod d c near x far) w s,
          written_plug (nod d k near x far) w s,
          written_nod d c near x far (above w) s,
          written_nod d k near x far (above w) s,
        ))))

    pub paint_drawn : set_color (drawn C (plug (nod d c near x far) w)) x (color_code k)
        ≡ drawn C (plug (nod d k near x far) w)
    paint_drawn = rw parent_drawn set_pc_drawn

    pub paint_sound : Sound C (plug (nod d k near x far) w)
    paint_sound = sound_less here (plug (nod d k near x far) w)
        (λ s. omega (arith, count_plug (nod d c near x far) w s, count_plug (nod d k near x far) w s)) h

pub top_parent : {C : ℕ} (t : Tree) (w : List Frame) → 1 ≤ top_of t → Sound C (plug t w)
    → parent_in (drawn C (plug t w)) (top_of t) ≡ above w
top_parent leaf w z h = absurd (omega arith)
top_parent (node c l x r) w z h = parent_drawn lft c l x r w h

-- ---- at the far child of a node

-- its place, seen from itself
pub far_place : (d : Side) (c : Color) (t : Tree) (g : ℕ) (u : Tree) (w : List Frame)
    → plug u (frame (opp d) c g t ∷ w) ≡ plug (nod d c t g u) w
far_place lft c t g u w = refl
far_place rgt c t g u w = refl

module _ {C : ℕ} (d : Side) (c : Color) (t : Tree) (g : ℕ) (k : Color) (l : Tree) (u : ℕ) (r : Tree) (w : List Frame)
    (h : Sound C (plug (nod d c t g (node k l u r)) w)) where
  seen : Sound C (plug (node k l u r) (frame (opp d) c g t ∷ w))
  seen = rw (far_place d c t g (node k l u r) w) h

  pub far_low : 1 ≤ u
  far_low = slot_low lft k l u r (frame (opp d) c g t ∷ w) seen

  pub far_parent : parent_in (drawn C (plug (nod d c t g (node k l u r)) w)) u ≡ g
  far_parent = rw (← far_place d c t g (node k l u r) w) (parent_drawn lft k l u r (frame (opp d) c g t ∷ w) seen)

  far_color : color_in (drawn C (plug (nod d c t g (node k l u r)) w)) u ≡ color_code k
  far_color = rw (← far_place d c t g (node k l u r) w) (color_drawn lft k l u r (frame (opp d) c g t ∷ w) seen)

  module _ (k' : Color) where
    pub paint_far_drawn : set_color (drawn C (plug (nod d c t g (node k l u r)) w)) u (color_code k')
        ≡ drawn C (plug (nod d c t g (node k' l u r)) w)
    paint_far_drawn =
        rw (← far_place d c t g (node k l u r) w, ← far_place d c t g (node k' l u r) w)
        (paint_drawn lft k l u r (frame (opp d) c g t ∷ w) seen k')

    pub paint_far_sound : Sound C (plug (nod d c t g (node k' l u r)) w)
    paint_far_sound =
        rw (← far_place d c t g (node k' l u r) w) (paint_sound lft k l u r (frame (opp d) c g t ∷ w) seen k')

-- ---- tests

pub far_red_drawn : {C : ℕ} (d : Side) (c : Color) (t : Tree) (g : ℕ) (u : Tree) (w : List Frame)
    → Sound C (plug (nod d c t g u) w) → red_in (drawn C (plug (nod d c t g u) w)) (top_of u) ≡ is_red u
unfolding red_in
far_red_drawn d c t g leaf w h = refl
far_red_drawn d c t g (node red l u r) w h =
    let low = far_low d c t g red l u r w h in rw (ne_eqb u 0 (λ e. omega arith), far_color d c t g red l u r w h)
far_red_drawn d c t g (node black l u r) w h =
    let low = far_low d c t g black l u r w h in rw (ne_eqb u 0 (λ e. omega arith), far_color d c t g black l u r w h)

pub near_red_drawn : {C : ℕ} (d : Side) (c : Color) (near : Tree) (s : ℕ) (far : Tree) (w : List Frame)
    → Sound C (plug (nod d c near s far) w) → red_in (drawn C (plug (nod d c near s far) w)) (top_of near) ≡ is_red near
near_red_drawn lft c near s far w h = far_red_drawn rgt c far s near w h
near_red_drawn rgt c near s far w h = far_red_drawn lft c far s near w h

-- which child of p leads to the top of t
pub on_drawn : {C : ℕ} (t : Tree) (d e : Side) (c : Color) (p : ℕ) (s : Tree) (w : List Frame) → 1 ≤ top_of t
    → (h : Sound C (plug t (frame e c p s ∷ w)))
    → eqb (child_in d (drawn C (plug t (frame e c p s ∷ w))) p) (top_of t) ≡ same_side e d
on_drawn t lft lft c p s w z h = rw (near_drawn lft c t p s w h) (eq-eqb (top_of t) (top_of t) refl)
on_drawn t rgt rgt c p s w z h = rw (near_drawn rgt c t p s w h) (eq-eqb (top_of t) (top_of t) refl)
on_drawn t lft rgt c p s w z h =
    rw (far_drawn rgt c t p s w h)
    (ne_eqb (top_of s) (top_of t) (λ e. (leads t (frame rgt c p s ∷ w) z h).3 (read_far rgt c t p s w h ∙ e)))
on_drawn t rgt lft c p s w z h =
    rw (far_drawn lft c t p s w h)
    (ne_eqb (top_of s) (top_of t) (λ e. (leads t (frame lft c p s ∷ w) z h).3 (read_far lft c t p s w h ∙ e)))

pub side_drawn : {C : ℕ} (t : Tree) (e : Side) (c : Color) (p : ℕ) (s : Tree) (w : List Frame) → 1 ≤ top_of t
    → Sound C (plug t (frame e c p s ∷ w)) → side_in (drawn C (plug t (frame e c p s ∷ w))) (top_of t) p ≡ e
unfolding side_in
side_drawn t lft c p s w z h = rw (on_drawn t lft lft c p s w z h)
side_drawn t rgt c p s w z h = rw (on_drawn t lft rgt c p s w z h)
