-- Two changes of a drawing: the only child of a node takes its place, and a slot that isn't in the tree takes the place
-- of one that is. The slot that leaves becomes unlinked.
use Prim.Native.Nat.{ℕ, ◌+◌, ◌≤◌}
use mathlib.Core.Path.{◌≡◌, refl, ap, ◌∙◌, fun_ext}
use mathlib.Core.List.{List, ◌∷◌}
use native.Mathlib.Omega.{arith}
use Rattle.model.specs.Tree.{Side, lft, rgt, Color, Tree, leaf, node, opp, nod, top_of, Frame, frame, plug, above}
use Rattle.model.specs.Lent.{parent_color}
use Rattle.model.specs.Draw.{Cell, child_cell, pc_cell, only, written, draw}
use Rattle.theory.specs.Cells.{slot_of}
use Rattle.theory.specs.Sound.{one, count, count_up, Sound}
use Rattle.theory.specs.Links.{laid, drawn}
use Rattle.theory.specs.Programs.{release_at, detach, replace_in}
use Rattle.theory.proofs.Counts.{one_sym, count_plug, count_nod, count_above, count_apart, sound_less}
use Rattle.theory.proofs.Counts.{sound_more, slot_once, slot_low, slot_high}
use Rattle.theory.proofs.Cells.{only_zero, written_up, root_up, written_up_none, written_up_pc, written_nod}
use Rattle.theory.proofs.Cells.{written_plug, top_plug, read_near, read_far, read_pc}
use Rattle.theory.proofs.DrawingCells.{written_none}
use Rattle.theory.proofs.Stores.{laid_child, laid_pc, parent_part, color_part, Owned, adopted, adopted_bal}
use Rattle.theory.proofs.Stores.{laid_adopt, owned, owned_kept, Leads, redirected, redirected_bal, laid_redirect}
use Rattle.theory.proofs.Stores.{leads, leads_kept}
use Rattle.theory.proofs.Linking.{stored, trio, laid_store, stored_bal, trio_zero, trio_none}

-- the three cells of x, by its near and its far child
trio_side : (d : Side) (f : Cell → ℕ) (x near far v : ℕ) (s : Cell)
    → f (child_cell d x) ≡ near → f (child_cell (opp d) x) ≡ far → f (pc_cell x) ≡ v
    → trio x (f (child_cell lft x)) (f (child_cell rgt x)) (f (pc_cell x)) s
    ≡ only (child_cell d x) s near + only (child_cell (opp d) x) s far + only (pc_cell x) s v
trio_side lft f x near far v s i j k = rw (i, j, k)
trio_side rgt f x near far v s i j k = rw (i, j, k) (omega arith)

-- ---- y's only child n, near the side d, takes y's place

module _ {C : ℕ} (d : Side) (c : Color) (n : Tree) (y : ℕ) (w : List Frame)
    (h : Sound C (plug (nod d c n y leaf) w)) where
  abbrev f₀ : Cell → ℕ
  f₀ = written 0 (plug (nod d c n y leaf) w)

  abbrev f₁ : Cell → ℕ
  f₁ = adopted f₀ n (above w)

  abbrev f₂ : Cell → ℕ
  f₂ = redirected f₁ w (top_of n)

  own : Owned C f₀ n y
  own = owned n (frame d c y leaf ∷ w) h

  bal₁ : (s : Cell) → f₁ s + written y n s ≡ f₀ s + written (above w) n s
  bal₁ s = adopted_bal C f₀ n (above w) y own s

  lead : Leads C f₁ w y
  lead = leads_kept C f₀ f₁ w y at_parent (leads (nod d c n y leaf) w (slot_low d c n y leaf w h) h)
    where
      at_parent : (e : Side) → f₁ (child_cell e (above w)) ≡ f₀ (child_cell e (above w))
      at_parent e =
          let k = child_cell e (above w) in
          let q : count n (above w) ≡ 0
          = omega (arith, count_above (nod d c n y leaf) w h, count_nod d c n y leaf (above w)) in
          omega (arith, bal₁ k, written_none y n k q, written_none (above w) n k q)

  bal₂ : (s : Cell) → f₂ s + written_up w y s ≡ f₁ s + written_up w (top_of n) s
  bal₂ s = redirected_bal C f₁ w y (top_of n) lead s

  -- y's own cells haven't changed yet
  kept : (s : Cell) → slot_of s ≡ y → f₂ s ≡ f₀ s
  kept s is =
      let q : count n (slot_of s) + count_up w (slot_of s) ≡ 0 = rw is (omega (arith, slot_once d c n y leaf w h)) in
      omega (
        arith,
        bal₁ s,
        bal₂ s,
        written_none y n s (omega arith),
        written_none (above w) n s (omega arith),
        written_up_none w y s (omega arith),
        written_up_none w (top_of n) s (omega arith),
      )

  total : (s : Cell) → stored f₂ y 0 0 0 s ≡ written 0 (plug n w) s
  total s = omega (
    arith,
    bal₁ s,
    bal₂ s,
    stored_bal f₂ y 0 0 0 (f₀ (child_cell lft y)) (f₀ (child_cell rgt y)) (f₀ (pc_cell y))
        (kept (child_cell lft y) refl) (kept (child_cell rgt y) refl) (kept (pc_cell y) refl) s,
    trio_side d f₀ y (top_of n) 0 (parent_color (above w) c) s
        (read_near d c n y leaf w h) (read_far d c n y leaf w h) (read_pc d c n y leaf w h),
    trio_zero y s,
    only_zero (child_cell (opp d) y) s,
    written_plug (nod d c n y leaf) w s,
    written_nod d c n y leaf (above w) s,
    written_plug n w s,
  )

  pub detach_drawn : detach (drawn C (plug (nod d c n y leaf) w)) y (top_of n) ≡ drawn C (plug n w)
  unfolding detach release_at drawn draw laid
  detach_drawn =
      let root = root_up w y in let low = slot_low d c n y leaf w h in
      rw (
        top_plug (nod d c n y leaf) w,
        top_plug n w,
        laid_pc C f₀ root y low (slot_high d c n y leaf w h),
        read_pc d c n y leaf w h,
        parent_part (above w) c,
        laid_adopt C f₀ root n (above w) y own,
        laid_redirect lft C f₁ w y (top_of n) lead,
        laid_store C f₂ (root_up w (top_of n)) y 0 0 0 low,
      )
      (ap (λ (f : Cell → ℕ). laid C f (root_up w (top_of n))) (fun_ext total))

  pub detach_sound : Sound C (plug n w)
  detach_sound = sound_less (plug (nod d c n y leaf) w) (plug n w)
      (λ s. omega (arith, count_plug (nod d c n y leaf) w s, count_nod d c n y leaf s, count_plug n w s)) h

-- ---- z, which isn't in the tree, takes x's place

module _ {C : ℕ} (c : Color) (l : Tree) (x : ℕ) (r : Tree) (w : List Frame) (z : ℕ) (low : 1 ≤ z)
    (h : Sound C (plug (node c l x r) w)) (fresh : count (plug (node c l x r) w) z ≡ 0) where
  abbrev v : ℕ
  v = parent_color (above w) c

  abbrev g₀ : Cell → ℕ
  g₀ = written 0 (plug (node c l x r) w)

  abbrev g₁ : Cell → ℕ
  g₁ = redirected g₀ w z

  abbrev g₂ : Cell → ℕ
  g₂ = adopted g₁ l z

  abbrev g₃ : Cell → ℕ
  g₃ = adopted g₂ r z

  abbrev g₄ : Cell → ℕ
  g₄ = stored g₃ z (top_of l) (top_of r) v

  parts : (s : ℕ) → one x s + count l s + count r s + count_up w s ≡ count (plug (node c l x r) w) s
  parts s = omega (arith, count_plug (node c l x r) w s)

  lead_x : Leads C g₀ w x
  lead_x = leads (node c l x r) w (slot_low lft c l x r w h) h

  step₁ : (s : Cell) → g₁ s + written_up w x s ≡ g₀ s + written_up w z s
  step₁ s = redirected_bal C g₀ w x z lead_x s

  own_l : Owned C g₁ l x
  own_l = owned_kept C g₀ g₁ l x
      (omega (arith, step₁ (pc_cell (top_of l)), written_up_pc w x z (top_of l))) (owned l (frame lft c x r ∷ w) h)

  step₂ : (s : Cell) → g₂ s + written x l s ≡ g₁ s + written z l s
  step₂ s = adopted_bal C g₁ l z x own_l s

  own_r : Owned C g₂ r x
  own_r =
      let k = pc_cell (top_of r) in let q = count_apart c l x r w h in
      owned_kept C g₀ g₂ r x
      (omega (arith, step₁ k, step₂ k, written_up_pc w x z (top_of r), written_none x l k q, written_none z l k q))
      (owned r (frame rgt c x l ∷ w) h)

  step₃ : (s : Cell) → g₃ s + written x r s ≡ g₂ s + written z r s
  step₃ s = adopted_bal C g₂ r z x own_r s

  -- the cells of x and z haven't changed yet
  still : (s : Cell) → count l (slot_of s) + count r (slot_of s) + count_up w (slot_of s) ≡ 0 → g₃ s ≡ g₀ s
  still s q = omega (
    arith,
    step₁ s,
    step₂ s,
    step₃ s,
    written_up_none w x s (omega arith),
    written_up_none w z s (omega arith),
    written_none x l s (omega arith),
    written_none z l s (omega arith),
    written_none x r s (omega arith),
    written_none z r s (omega arith),
  )

  free : (s : Cell) → slot_of s ≡ z → g₃ s ≡ 0
  free s is = still s (rw is (omega (arith, parts z))) ∙ written_none 0 (plug (node c l x r) w) s (rw is fresh)

  step₄ : (s : Cell) → g₄ s ≡ g₃ s + trio z (top_of l) (top_of r) v s
  step₄ s = omega (
    arith,
    trio_zero z s,
    stored_bal g₃ z (top_of l) (top_of r) v 0 0 0
        (free (child_cell lft z) refl) (free (child_cell rgt z) refl) (free (pc_cell z) refl) s,
  )

  old : (s : Cell) → slot_of s ≡ x → g₄ s ≡ g₀ s
  old s is =
      let apart : one z (slot_of s) ≡ 0 = rw is (one_sym x z (omega (arith, parts z))) in
      let q : count l (slot_of s) + count r (slot_of s) + count_up w (slot_of s) ≡ 0
      = rw is (omega (arith, slot_once lft c l x r w h)) in
      omega (arith, step₄ s, still s q, trio_none z (top_of l) (top_of r) v s apart)

  exchanged : (s : Cell) → stored g₄ x 0 0 0 s ≡ written 0 (plug (node c l z r) w) s
  exchanged s = omega (
    arith,
    step₁ s,
    step₂ s,
    step₃ s,
    step₄ s,
    stored_bal g₄ x 0 0 0 (top_of l) (top_of r) v
        (old (child_cell lft x) refl ∙ read_near lft c l x r w h)
        (old (child_cell rgt x) refl ∙ read_far lft c l x r w h)
        (old (pc_cell x) refl ∙ read_pc lft c l x r w h) s,
    trio_zero x s,
    written_plug (node c l x r) w s,
    written_plug (node c l z r) w s,
  )

  pub replace_drawn : replace_in (drawn C (plug (node c l x r) w)) x z ≡ drawn C (plug (node c l z r) w)
  unfolding replace_in release_at drawn draw laid
  replace_drawn =
      let root = root_up w x in let root' = root_up w z in
      let xl = slot_low lft c l x r w h in let xh = slot_high lft c l x r w h in
      rw (
        top_plug (node c l x r) w,
        top_plug (node c l z r) w,
        laid_pc C g₀ root x xl xh,
        read_pc lft c l x r w h,
        parent_part (above w) c,
        color_part (above w) c,
        laid_child C g₀ root x xl lft xh,
        read_near lft c l x r w h,
        laid_child C g₀ root x xl rgt xh,
        read_far lft c l x r w h,
        laid_redirect lft C g₀ w x z lead_x,
        laid_adopt C g₁ root' l z x own_l,
        laid_adopt C g₂ root' r z x own_r,
        laid_store C g₃ root' z (top_of l) (top_of r) v low,
        laid_store C g₄ root' x 0 0 0 xl,
      )
      (ap (λ (f : Cell → ℕ). laid C f root') (fun_ext exchanged))

  pub replace_sound : z ≤ C → Sound C (plug (node c l z r) w)
  replace_sound high = sound_more (plug (node c l x r) w) (plug (node c l z r) w) z
      (λ s. omega (arith, parts s, count_plug (node c l z r) w s)) fresh low high h
