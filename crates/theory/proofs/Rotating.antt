-- A rotation of a drawing is the drawing of the rotated tree: x, whose child away from the side d is y, goes down to
-- the side, and y comes up in its place.
use Prim.Native.Nat.{ℕ, ◌+◌, ◌≤◌}
use mathlib.Core.Path.{◌≡◌, ap, ◌∙◌, fun_ext}
use mathlib.Core.List.{List, ◌∷◌}
use native.Mathlib.Omega.{arith}
use Rattle.model.specs.Tree.{Side, Color, Tree, opp, nod, top_of, Frame, frame, plug, above}
use Rattle.model.specs.Lent.{parent_color}
use Rattle.model.specs.Draw.{Cell, child_cell, pc_cell, only, written, draw}
use Rattle.theory.specs.Sound.{one, count, count_up, Sound}
use Rattle.theory.specs.Links.{laid, drawn}
use Rattle.theory.specs.Programs.{rotate_in}
use Rattle.theory.proofs.Counts.{one_same, count_plug, count_nod, count_above, sound_less, slot_low, slot_high}
use Rattle.theory.proofs.Cells.{only_near, only_pc, only_child, update, update_bal, written_up, root_up}
use Rattle.theory.proofs.Cells.{written_up_none, written_nod, written_plug, top_plug, read_near, read_pc}
use Rattle.theory.proofs.DrawingCells.{only_none, written_none}
use Rattle.theory.proofs.Stores.{laid_child, laid_pc, laid_set_child, laid_set_pc, parent_part, color_part}
use Rattle.theory.proofs.Stores.{Owned, adopted, adopted_bal, laid_adopt, owned, owned_kept, Leads, redirected}
use Rattle.theory.proofs.Stores.{redirected_bal, laid_redirect, leads, leads_kept}

module _ {C : ℕ} (d : Side) (cx : Color) (a : Tree) (x : ℕ) (cy : Color) (b : Tree) (y : ℕ) (c : Tree) (w : List Frame)
    (h : Sound C (plug (nod (opp d) cx (nod d cy b y c) x a) w)) where
  abbrev before : Tree
  before = nod (opp d) cx (nod d cy b y c) x a

  abbrev after : Tree
  after = nod d cy (nod (opp d) cx b x a) y c

  -- how often a slot stands in the whole tree
  parts : (s : ℕ) → one x s + one y s + count a s + count b s + count c s + count_up w s ≤ 1
  parts s = omega (
    arith,
    h.once s,
    count_plug before w s,
    count_nod (opp d) cx (nod d cy b y c) x a s,
    count_nod d cy b y c s,
  )

  -- ---- the cells after each store, and what the store has changed

  abbrev f₀ : Cell → ℕ
  f₀ = written 0 (plug before w)

  abbrev f₁ : Cell → ℕ
  f₁ = update f₀ (child_cell (opp d) x) (top_of b)

  abbrev f₂ : Cell → ℕ
  f₂ = adopted f₁ b x

  abbrev f₃ : Cell → ℕ
  f₃ = update f₂ (pc_cell y) (parent_color (above w) cy)

  abbrev f₄ : Cell → ℕ
  f₄ = redirected f₃ w y

  abbrev f₅ : Cell → ℕ
  f₅ = update f₄ (child_cell d y) x

  abbrev f₆ : Cell → ℕ
  f₆ = update f₅ (pc_cell x) (parent_color y cx)

  abbrev to_y : List Frame
  to_y = frame (opp d) cx x a ∷ w

  bal₁ : (s : Cell) → f₁ s + only (child_cell (opp d) x) s y ≡ f₀ s + only (child_cell (opp d) x) s (top_of b)
  bal₁ s = update_bal f₀ (child_cell (opp d) x) s y (top_of b) (read_near (opp d) cx (nod d cy b y c) x a w h)

  own : Owned C f₁ b y
  own = owned_kept C f₀ f₁ b y
      (omega (
        arith,
        bal₁ (pc_cell (top_of b)),
        only_pc (opp d) x (top_of b) y,
        only_pc (opp d) x (top_of b) (top_of b),
      ))
      (owned b (frame d cy y c ∷ to_y) h)

  bal₂ : (s : Cell) → f₂ s + written y b s ≡ f₁ s + written x b s
  bal₂ s = adopted_bal C f₁ b x y own s

  old_y : f₂ (pc_cell y) ≡ parent_color x cy
  old_y =
      let k = pc_cell y in let q = parts y in let o = one_same y in
      omega (
        arith,
        bal₁ k,
        bal₂ k,
        only_pc (opp d) x y y,
        only_pc (opp d) x y (top_of b),
        written_none y b k (omega arith),
        written_none x b k (omega arith),
        read_pc d cy b y c to_y h,
      )

  bal₃ : (s : Cell) → f₃ s + only (pc_cell y) s (parent_color x cy)
      ≡ f₂ s + only (pc_cell y) s (parent_color (above w) cy)
  bal₃ s = update_bal f₂ (pc_cell y) s (parent_color x cy) (parent_color (above w) cy) old_y

  -- nothing has changed at the parent of the place yet
  at_parent : (e : Side) → f₃ (child_cell e (above w)) ≡ f₀ (child_cell e (above w))
  at_parent e =
      let p = above w in let k = child_cell e p in
      let q : one x p + (one y p + (count b p + count c p) + count a p) ≡ 0
      = omega (arith, count_above before w h, count_nod (opp d) cx (nod d cy b y c) x a p, count_nod d cy b y c p) in
      let o : one x p ≡ 0 = omega arith in
      omega (
        arith,
        bal₁ k,
        bal₂ k,
        bal₃ k,
        only_none (child_cell (opp d) x) k y o,
        only_none (child_cell (opp d) x) k (top_of b) o,
        written_none y b k (omega arith),
        written_none x b k (omega arith),
        only_child e y p (parent_color x cy),
        only_child e y p (parent_color (above w) cy),
      )

  lead : Leads C f₃ w x
  lead = leads_kept C f₀ f₃ w x at_parent (leads before w (slot_low (opp d) cx (nod d cy b y c) x a w h) h)

  bal₄ : (s : Cell) → f₄ s + written_up w x s ≡ f₃ s + written_up w y s
  bal₄ s = redirected_bal C f₃ w x y lead s

  old_middle : f₄ (child_cell d y) ≡ top_of b
  old_middle =
      let q = parts y in let o = one_same y in let k = child_cell d y in
      omega (
        arith,
        bal₁ k,
        bal₂ k,
        bal₃ k,
        bal₄ k,
        only_near d x y y,
        only_near d x y (top_of b),
        written_none y b k (omega arith),
        written_none x b k (omega arith),
        only_child d y y (parent_color x cy),
        only_child d y y (parent_color (above w) cy),
        written_up_none w x k (omega arith),
        written_up_none w y k (omega arith),
        read_near d cy b y c to_y h,
      )

  bal₅ : (s : Cell) → f₅ s + only (child_cell d y) s (top_of b) ≡ f₄ s + only (child_cell d y) s x
  bal₅ s = update_bal f₄ (child_cell d y) s (top_of b) x old_middle

  pc_x : f₂ (pc_cell x) ≡ parent_color (above w) cx
  pc_x =
      let q = parts x in let o = one_same x in let k = pc_cell x in
      omega (
        arith,
        bal₁ k,
        bal₂ k,
        only_pc (opp d) x x y,
        only_pc (opp d) x x (top_of b),
        written_none y b k (omega arith),
        written_none x b k (omega arith),
        read_pc (opp d) cx (nod d cy b y c) x a w h,
      )

  old_x : f₅ (pc_cell x) ≡ parent_color (above w) cx
  old_x =
      let q = parts x in let o = one_same x in let k = pc_cell x in let n : one y x ≡ 0 = omega arith in
      omega (
        arith,
        pc_x,
        bal₃ k,
        bal₄ k,
        bal₅ k,
        only_none (pc_cell y) k (parent_color x cy) n,
        only_none (pc_cell y) k (parent_color (above w) cy) n,
        written_up_none w x k (omega arith),
        written_up_none w y k (omega arith),
        only_pc d y x (top_of b),
        only_pc d y x x,
      )

  bal₆ : (s : Cell) → f₆ s + only (pc_cell x) s (parent_color (above w) cx)
      ≡ f₅ s + only (pc_cell x) s (parent_color y cx)
  bal₆ s = update_bal f₅ (pc_cell x) s (parent_color (above w) cx) (parent_color y cx) old_x

  total : (s : Cell) → f₆ s ≡ written 0 (plug after w) s
  total s = omega (
    arith,
    bal₁ s,
    bal₂ s,
    bal₃ s,
    bal₄ s,
    bal₅ s,
    bal₆ s,
    written_plug before w s,
    written_nod (opp d) cx (nod d cy b y c) x a (above w) s,
    written_nod d cy b y c x s,
    written_plug after w s,
    written_nod d cy (nod (opp d) cx b x a) y c (above w) s,
    written_nod (opp d) cx b x a y s,
  )

  -- ---- the program, read by read and store by store

  steps : rotate_in d (laid C f₀ (root_up w x)) x ≡ laid C f₆ (root_up w y)
  unfolding rotate_in
  steps =
      let r = root_up w x in let r' = root_up w y in
      let xl = slot_low (opp d) cx (nod d cy b y c) x a w h in let xh = slot_high (opp d) cx (nod d cy b y c) x a w h in
      let yl = slot_low d cy b y c to_y h in let yh = slot_high d cy b y c to_y h in
      rw (
        laid_child C f₀ r x xl (opp d) xh,
        read_near (opp d) cx (nod d cy b y c) x a w h,
        laid_child C f₀ r y yl d yh,
        read_near d cy b y c to_y h,
        laid_set_child C f₀ r x xl (opp d) (top_of b),
        laid_adopt C f₁ r b x y own,
        laid_pc C f₂ r x xl xh,
        pc_x,
        parent_part (above w) cx,
        laid_pc C f₂ r y yl yh,
        old_y,
        color_part x cy,
        laid_set_pc C f₂ r y yl (parent_color (above w) cy),
        laid_redirect d C f₃ w x y lead,
        laid_set_child C f₄ r' y yl d x,
        laid_pc C f₅ r' x xl xh,
        old_x,
        color_part (above w) cx,
      ) (laid_set_pc C f₅ r' x xl (parent_color y cx))

  -- rotate_left (the side lft) and rotate_right
  pub rotate_drawn : rotate_in d (drawn C (plug (nod (opp d) cx (nod d cy b y c) x a) w)) x
      ≡ drawn C (plug (nod d cy (nod (opp d) cx b x a) y c) w)
  unfolding drawn draw laid
  rotate_drawn =
      rw (top_plug before w, top_plug after w)
      (steps ∙ ap (λ (f : Cell → ℕ). laid C f (root_up w y)) (fun_ext total))

  pub rotate_sound : Sound C (plug (nod d cy (nod (opp d) cx b x a) y c) w)
  rotate_sound = sound_less (plug before w) (plug after w)
      (λ s. omega (
        arith,
        count_plug before w s,
        count_nod (opp d) cx (nod d cy b y c) x a s,
        count_nod d cy b y c s,
        count_plug after w s,
        count_nod d cy (nod (opp d) cx b x a) y c s,
        count_nod (opp d) cx b x a s,
      )) h
