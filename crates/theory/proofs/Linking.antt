-- All three numbers of a slot stored at once, and hanging a slot at an empty place of a drawing.
use Prim.Native.Nat.{ℕ, ◌+◌, ◌≤◌}
use mathlib.Core.Path.{◌≡◌, refl, ap, fun_ext}
use mathlib.Core.List.{List, [], ◌∷◌}
use native.Mathlib.Omega.{arith}
use lib.ListN.{length}
use Rattle.model.specs.Tree.{Side, lft, rgt, Color, red, Tree, leaf, node, Frame, frame, plug}
use Rattle.model.specs.Lent.{parent_color}
use Rattle.model.specs.Draw.{Cell, child_cell, pc_cell, only, written, draw}
use Rattle.model.specs.Hanging.{hang}
use Rattle.theory.specs.Cells.{slot_of}
use Rattle.theory.specs.Sound.{one, count, Sound}
use Rattle.theory.specs.Balance.{Topped}
use Rattle.theory.specs.Links.{laid, drawn}
use Rattle.theory.specs.Programs.{store, hang_in, plant_in, post_insert}
use Rattle.theory.proofs.Counts.{count_plug, sound_more, slot_low}
use Rattle.theory.proofs.DrawingCells.{only_none, written_none}
use Rattle.theory.proofs.Cells.{only_zero, only_far, only_pc, only_child, update, update_bal, root_up}
use Rattle.theory.proofs.Cells.{written_plug, top_plug, read_near}
use Rattle.theory.proofs.Stores.{laid_set_child, laid_set_pc, laid_set_root}
use Rattle.theory.proofs.Climbing.{climb_drawn}

-- ---- the three cells of a slot

unfoldable pub stored : (Cell → ℕ) → (x l r pc : ℕ) → Cell → ℕ
stored f x l r v = update (update (update f (child_cell lft x) l) (child_cell rgt x) r) (pc_cell x) v

-- what they hold
abbrev pub trio : (x l r pc : ℕ) → Cell → ℕ
trio x l r v s = only (child_cell lft x) s l + only (child_cell rgt x) s r + only (pc_cell x) s v

pub laid_store : (C : ℕ) (f : Cell → ℕ) (root x l r v : ℕ) → 1 ≤ x
    → store (laid C f root) x l r v ≡ laid C (stored f x l r v) root
unfolding store stored
laid_store C f root x l r v low =
    let f₁ = update f (child_cell lft x) l in let f₂ = update f₁ (child_cell rgt x) r in
    rw (laid_set_child C f root x low lft l, laid_set_child C f₁ root x low rgt r) (laid_set_pc C f₂ root x low v)

pub stored_bal : (f : Cell → ℕ) (x l r v l' r' v' : ℕ) → f (child_cell lft x) ≡ l' → f (child_cell rgt x) ≡ r'
    → f (pc_cell x) ≡ v'
    → (s : Cell) → stored f x l r v s + trio x l' r' v' s ≡ f s + trio x l r v s
unfolding stored
stored_bal f x l r v l' r' v' i j k s =
    let f₁ = update f (child_cell lft x) l in let f₂ = update f₁ (child_cell rgt x) r in
    let b₁ : (s : Cell) → f₁ s + only (child_cell lft x) s l' ≡ f s + only (child_cell lft x) s l
    = λ s. update_bal f (child_cell lft x) s l' l i in
    let old_r : f₁ (child_cell rgt x) ≡ r'
    = omega (arith, b₁ (child_cell rgt x), only_far lft x x l, only_far lft x x l') in
    let b₂ : (s : Cell) → f₂ s + only (child_cell rgt x) s r' ≡ f₁ s + only (child_cell rgt x) s r
    = λ s. update_bal f₁ (child_cell rgt x) s r' r old_r in
    let old_v : f₂ (pc_cell x) ≡ v'
    = omega (
      arith,
      b₁ (pc_cell x),
      b₂ (pc_cell x),
      only_pc lft x x l,
      only_pc lft x x l',
      only_pc rgt x x r,
      only_pc rgt x x r',
    ) in
    omega (arith, b₁ s, b₂ s, update_bal f₂ (pc_cell x) s v' v old_v)

pub trio_zero : (x : ℕ) (s : Cell) → trio x 0 0 0 s ≡ 0
trio_zero x s = omega (arith, only_zero (child_cell lft x) s, only_zero (child_cell rgt x) s, only_zero (pc_cell x) s)

pub trio_none : (x l r v : ℕ) (s : Cell) → one x (slot_of s) ≡ 0 → trio x l r v s ≡ 0
trio_none x l r v s h =
    omega (arith, only_none (child_cell lft x) s l h, only_none (child_cell rgt x) s r h, only_none (pc_cell x) s v h)

-- where a tree doesn't have the slot, its cells are free
pub stored_fresh : (t : Tree) (x l r v : ℕ) → count t x ≡ 0 → (s : Cell)
    → stored (written 0 t) x l r v s ≡ written 0 t s + trio x l r v s
stored_fresh t x l r v fresh s = omega (
  arith,
  trio_zero x s,
  stored_bal (written 0 t) x l r v 0 0 0
      (written_none 0 t (child_cell lft x) fresh)
      (written_none 0 t (child_cell rgt x) fresh)
      (written_none 0 t (pc_cell x) fresh) s,
)

-- ---- hanging

-- the first node
pub plant_drawn : (C x : ℕ) → 1 ≤ x → plant_in (drawn C leaf) x ≡ drawn C (hang x [])
unfolding plant_in drawn draw laid hang
plant_drawn C x low =
    rw (laid_store C (written 0 leaf) 0 x 0 0 1 low, laid_set_root C (stored (written 0 leaf) x 0 0 1) 0 x)
    (ap (λ (f : Cell → ℕ). laid C f x) (fun_ext (λ s. omega (arith, stored_fresh leaf x 0 0 1 refl s))))

module _ {C : ℕ} (d : Side) (c : Color) (p : ℕ) (u : Tree) (w : List Frame) (x : ℕ) (low : 1 ≤ x)
    (h : Sound C (plug leaf (frame d c p u ∷ w))) (fresh : count (plug leaf (frame d c p u ∷ w)) x ≡ 0) where
  abbrev place : List Frame
  place = frame d c p u ∷ w

  -- a red slot without children, at the place
  pub hang_drawn : hang_in d (drawn C (plug leaf (frame d c p u ∷ w))) p x
      ≡ drawn C (plug (node red leaf x leaf) (frame d c p u ∷ w))
  unfolding hang_in drawn draw laid
  hang_drawn =
      let root = root_up w p in let cell = child_cell d p in
      let f₀ = written 0 (plug leaf place) in let f₁ = stored f₀ x 0 0 (parent_color p red) in
      let b₁ : (s : Cell) → f₁ s ≡ f₀ s + trio x 0 0 (parent_color p red) s
      = stored_fresh (plug leaf place) x 0 0 (parent_color p red) fresh in
      let free : f₁ cell ≡ 0
      = omega (
        arith,
        b₁ cell,
        only_zero (child_cell lft x) cell,
        only_zero (child_cell rgt x) cell,
        only_child d x p (parent_color p red),
        read_near d c leaf p u w h,
      ) in
      rw (
        top_plug leaf place,
        top_plug (node red leaf x leaf) place,
        laid_store C f₀ root x 0 0 (parent_color p red) low,
        laid_set_child C f₁ root p (slot_low d c leaf p u w h) d x,
      )
      (ap (λ (f : Cell → ℕ). laid C f root) (fun_ext (λ s. omega (
        arith,
        b₁ s,
        update_bal f₁ cell s 0 x free,
        only_zero cell s,
        written_plug leaf place s,
        written_plug (node red leaf x leaf) place s,
      ))))

  pub hung_sound : x ≤ C → Sound C (plug (node red leaf x leaf) (frame d c p u ∷ w))
  hung_sound high = sound_more (plug leaf place) (plug (node red leaf x leaf) place) x
      (λ s. omega (arith, count_plug leaf place s, count_plug (node red leaf x leaf) place s)) fresh low high h

  -- insert_left and insert_right
  pub insert_drawn : (n : ℕ) → length (frame d c p u ∷ w) ≤ n → x ≤ C → Topped (frame d c p u ∷ w)
      → post_insert n (hang_in d (drawn C (plug leaf (frame d c p u ∷ w))) p x) x ≡ drawn C (hang x (frame d c p u ∷ w))
  unfolding hang
  insert_drawn n le high topped =
      rw hang_drawn (climb_drawn n (node red leaf x leaf) place le low topped (hung_sound high))
