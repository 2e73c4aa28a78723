-- Reads and stores of links that a function of cells gives, and the two stores that follow a change of place: the new
-- parent of a child, and the new child of a parent.
use Prim.Native.Nat.{ℕ, ◌+◌, ◌/◌, ◌%◌, ◌≤◌}
use mathlib.Core.Path.{◌≡◌, refl, sym, ◌∙◌}
use mathlib.Core.List.{List, [], ◌∷◌}
use native.Mathlib.Omega.{arith}
use lib.Dec.{eqb}
use borrow.Author.Tests.{eqb-true, eqb-false, eq-eqb, ne_eqb}
use Rattle.model.specs.Branch.{pick}
use Rattle.model.specs.Tree.{Side, lft, rgt, Color, red, black, Tree, leaf, node, opp, nod, top_of, Frame, frame, plug}
use Rattle.model.specs.Tree.{above}
use Rattle.model.specs.Lent.{color_code, parent_color}
use Rattle.model.specs.Draw.{Cell, child_cell, pc_cell, same_cell, written, listed, lay}
use Rattle.theory.specs.Sound.{count, Sound}
use Rattle.theory.specs.Slots.{put}
use Rattle.theory.specs.Links.{laid, child_in, pc_in, set_child, set_pc, set_root}
use Rattle.theory.specs.Programs.{adopt, replace_child}
use Rattle.theory.proofs.Branch.{by-test}
use Rattle.theory.proofs.Slots.{length_put, at_put_same, at_put_other}
use Rattle.theory.proofs.DrawingLists.{length_listed, at_listed, is_listed}
use Rattle.theory.proofs.Counts.{count_plug, count_nod, count_top, slot_low, slot_high}
use Rattle.theory.proofs.Cells.{update, update_bal, written_up, root_up, read_near, read_far, read_pc}

-- ---- lists of values

-- a store into a list of values
put_listed : (C : ℕ) (f : ℕ → ℕ) (x v : ℕ) → 1 ≤ x → put (listed C 1 f) x v ≡ listed C 1 (λ s. pick (eqb x s) v (f s))
put_listed C f x v low =
    let long = length_listed C 1 f in
    is_listed C (put (listed C 1 f) x v) (λ s. pick (eqb x s) v (f s)) (length_put (listed C 1 f) x v ∙ long)
    (λ s s-low high. by-test (eqb x s)
    (λ is. rw (is, ← eqb-true x s is) (at_put_same (listed C 1 f) x v low (omega (arith, eqb-true x s is))))
    (λ is. rw is
    (at_put_other (listed C 1 f) x s v low s-low (λ e. eqb-false x s is (sym e)) ∙ at_listed C f s s-low high)))

-- ---- links that a function of cells gives

module _ (C : ℕ) (f : Cell → ℕ) (root x : ℕ) (low : 1 ≤ x) where
  pub laid_child : (d : Side) → x ≤ C → child_in d (laid C f root) x ≡ f (child_cell d x)
  unfolding child_in laid lay
  laid_child lft = at_listed C (λ s. f (child_cell lft s)) x low
  laid_child rgt = at_listed C (λ s. f (child_cell rgt s)) x low

  pub laid_pc : x ≤ C → pc_in (laid C f root) x ≡ f (pc_cell x)
  unfolding pc_in laid lay
  laid_pc = at_listed C (λ s. f (pc_cell s)) x low

  pub laid_set_child : (d : Side) (v : ℕ) → set_child d (laid C f root) x v ≡ laid C (update f (child_cell d x) v) root
  unfolding set_child laid lay update same_cell
  laid_set_child lft v = rw (put_listed C (λ s. f (child_cell lft s)) x v low)
  laid_set_child rgt v = rw (put_listed C (λ s. f (child_cell rgt s)) x v low)

  pub laid_set_pc : (v : ℕ) → set_pc (laid C f root) x v ≡ laid C (update f (pc_cell x) v) root
  unfolding set_pc laid lay update same_cell
  laid_set_pc v = rw (put_listed C (λ s. f (pc_cell s)) x v low)

pub laid_set_root : (C : ℕ) (f : Cell → ℕ) (root v : ℕ) → set_root (laid C f root) v ≡ laid C f v
unfolding set_root laid lay
laid_set_root C f root v = refl

-- ---- parent_color and its parts

pub parent_part : (p : ℕ) (c : Color) → parent_color p c / 2 ≡ p
parent_part p red = omega arith
parent_part p black = omega arith

pub color_part : (p : ℕ) (c : Color) → parent_color p c % 2 ≡ color_code c
color_part p red = omega arith
color_part p black = omega arith

-- ---- a tree gets another parent

-- its top is a slot, and has the parent p
abbrev pub Owned : (C : ℕ) → (Cell → ℕ) → Tree → (p : ℕ) → Type 0
Owned C f leaf p = Unit {0}
Owned C f (node c l z r) p = (1 ≤ z) × (z ≤ C) × (f (pc_cell z) ≡ parent_color p c)

unfoldable pub adopted : (Cell → ℕ) → Tree → (p : ℕ) → Cell → ℕ
adopted f leaf p s = f s
adopted f (node c l z r) p s = update f (pc_cell z) (parent_color p c) s

pub adopted_bal : (C : ℕ) (f : Cell → ℕ) (t : Tree) (p old : ℕ) → Owned C f t old → (s : Cell)
    → adopted f t p s + written old t s ≡ f s + written p t s
unfolding adopted
adopted_bal C f leaf p old o s = refl
adopted_bal C f (node c l z r) p old o s =
    omega (arith, update_bal f (pc_cell z) s (parent_color old c) (parent_color p c) o.2)

pub laid_adopt : (C : ℕ) (f : Cell → ℕ) (root : ℕ) (t : Tree) (p old : ℕ) → Owned C f t old
    → adopt (laid C f root) (top_of t) p ≡ laid C (adopted f t p) root
unfolding adopt adopted
laid_adopt C f root leaf p old o = refl
laid_adopt C f root (node c l z r) p old o =
    rw (ne_eqb z 0 (λ e. omega (arith, o.0)), laid_pc C f root z o.0 o.1, o.2, color_part old c)
    (laid_set_pc C f root z o.0 (parent_color p c))

pub owned : {C : ℕ} (t : Tree) (w : List Frame) → Sound C (plug t w) → Owned C (written 0 (plug t w)) t (above w)
owned leaf w h = tt
owned (node c l z r) w h = (slot_low lft c l z r w h, slot_high lft c l z r w h, read_pc lft c l z r w h)

pub owned_kept : (C : ℕ) (f g : Cell → ℕ) (t : Tree) (p : ℕ) → g (pc_cell (top_of t)) ≡ f (pc_cell (top_of t))
    → Owned C f t p → Owned C g t p
owned_kept C f g leaf p e o = tt
owned_kept C f g (node c l z r) p e o = (o.0, o.1, e ∙ o.2)

-- ---- a place gets another slot

-- the place's parent has x for its child there, and not on the other side
abbrev pub Leads : (C : ℕ) → (Cell → ℕ) → List Frame → (x : ℕ) → Type 0
Leads C f [] x = Unit {0}
Leads C f (frame d c p s ∷ w) x =
    (1 ≤ p) × (p ≤ C) × (f (child_cell d p) ≡ x) × (f (child_cell (opp d) p) ≡ x → ⊥)

unfoldable pub redirected : (Cell → ℕ) → List Frame → (x : ℕ) → Cell → ℕ
redirected f [] x s = f s
redirected f (frame d c p t ∷ w) x s = update f (child_cell d p) x s

pub redirected_bal : (C : ℕ) (f : Cell → ℕ) (w : List Frame) (old x : ℕ) → Leads C f w old → (s : Cell)
    → redirected f w x s + written_up w old s ≡ f s + written_up w x s
unfolding redirected
redirected_bal C f [] old x o s = refl
redirected_bal C f (frame d c p t ∷ w) old x o s = omega (arith, update_bal f (child_cell d p) s old x o.2)

-- whichever side is tested first
replace_at : (e : Side) (C : ℕ) (f : Cell → ℕ) (root : ℕ) (d : Side) (p old x : ℕ) → 1 ≤ p → p ≤ C
    → f (child_cell d p) ≡ old → (f (child_cell (opp d) p) ≡ old → ⊥)
    → replace_child e (laid C f root) p old x ≡ laid C (update f (child_cell d p) x) root
unfolding replace_child
replace_at lft C f root lft p old x lo hi is not =
    rw (ne_eqb p 0 (λ e. omega arith), laid_child C f root p lo lft hi, eq-eqb (f (child_cell lft p)) old is)
    (laid_set_child C f root p lo lft x)
replace_at lft C f root rgt p old x lo hi is not =
    rw (ne_eqb p 0 (λ e. omega arith), laid_child C f root p lo lft hi, ne_eqb (f (child_cell lft p)) old not)
    (laid_set_child C f root p lo rgt x)
replace_at rgt C f root rgt p old x lo hi is not =
    rw (ne_eqb p 0 (λ e. omega arith), laid_child C f root p lo rgt hi, eq-eqb (f (child_cell rgt p)) old is)
    (laid_set_child C f root p lo rgt x)
replace_at rgt C f root lft p old x lo hi is not =
    rw (ne_eqb p 0 (λ e. omega arith), laid_child C f root p lo rgt hi, ne_eqb (f (child_cell rgt p)) old not)
    (laid_set_child C f root p lo lft x)

pub laid_redirect : (e : Side) (C : ℕ) (f : Cell → ℕ) (w : List Frame) (old x : ℕ) → Leads C f w old
    → replace_child e (laid C f (root_up w old)) (above w) old x ≡ laid C (redirected f w x) (root_up w x)
unfolding redirected replace_child
laid_redirect e C f [] old x o = laid_set_root C f old x
laid_redirect e C f (frame d c p t ∷ w) old x o =
    replace_at e C f (root_up w p) d p old x o.0 o.1 o.2 o.3

pub leads : {C : ℕ} (t : Tree) (w : List Frame) → 1 ≤ top_of t → Sound C (plug t w)
    → Leads C (written 0 (plug t w)) w (top_of t)
leads t [] z h = tt
leads t (frame d c p s ∷ w) z h = (
  slot_low d c t p s w h,
  slot_high d c t p s w h,
  read_near d c t p s w h,
  λ same.
      let e : top_of s ≡ top_of t = cc (read_far d c t p s w h) in
      let twice : 1 ≤ count s (top_of t) = rw e at (count_top s (omega arith)) in
      omega (
        arith,
        h.once (top_of t),
        count_plug (nod d c t p s) w (top_of t),
        count_nod d c t p s (top_of t),
        count_top t z,
      ),
)

pub leads_kept : (C : ℕ) (f g : Cell → ℕ) (w : List Frame) (x : ℕ)
    → ((d : Side) → g (child_cell d (above w)) ≡ f (child_cell d (above w))) → Leads C f w x → Leads C g w x
leads_kept C f g [] x e o = tt
leads_kept C f g (frame d c p s ∷ w) x e o = (o.0, o.1, e d ∙ o.2, λ same. o.3 (sym (e (opp d)) ∙ same))
