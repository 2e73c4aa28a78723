-- Rotations, counted. Painting keeps the shape of a tree, and the trees that rotations lead to have its in-order list.
use Prim.Native.Nat.{ℕ, suc, ◌≤◌}
use mathlib.Core.Path.{◌≡◌, refl, ap, sym, ◌∙◌}
use mathlib.Core.List.{List, [], ◌∷◌, append_assoc}
use native.Mathlib.Omega.{arith}
use Rattle.model.specs.Tree.{Side, lft, rgt, Color, red, Tree, leaf, node, nod, paint, paint_child, rotate, slots}
use Rattle.model.specs.Tree.{Frame}
use Rattle.model.specs.Tree.{frame, plug}
use Rattle.model.specs.Shape.{shape, Turned, still, turn, TurnedAtMost}
use Rattle.theory.proofs.Lists.{slots_around}

-- ---- shapes

-- the frames of a place, all of one colour
abbrev pub shape_up : List Frame → List Frame
shape_up [] = []
shape_up (frame d c p s ∷ w) = frame d red p (shape s) ∷ shape_up w

shape_nod : (d : Side) (c : Color) (near : Tree) (x : ℕ) (far : Tree)
    → shape (nod d c near x far) ≡ nod d red (shape near) x (shape far)
shape_nod lft c near x far = refl
shape_nod rgt c near x far = refl

-- the children's shapes are the node's
pub shape_children : (d : Side) (c k : Color) (near near' : Tree) (x : ℕ) (far far' : Tree)
    → shape near ≡ shape near' → shape far ≡ shape far' → shape (nod d c near x far) ≡ shape (nod d k near' x far')
shape_children lft c k near near' x far far' e f = rw (e, f)
shape_children rgt c k near near' x far far' e f = rw (e, f)

shape_plug : (t : Tree) (w : List Frame) → shape (plug t w) ≡ plug (shape t) (shape_up w)
shape_plug t [] = refl
shape_plug t (frame d c p s ∷ w) =
    shape_plug (nod d c t p s) w ∙ ap (λ (u : Tree). plug u (shape_up w)) (shape_nod d c t p s)

pub shape_paint : (k : Color) (t : Tree) → shape (paint k t) ≡ shape t
shape_paint k leaf = refl
shape_paint k (node c l x r) = refl

pub shape_paint_child : (d : Side) (k : Color) (t : Tree) → shape (paint_child d k t) ≡ shape t
shape_paint_child d k leaf = refl
shape_paint_child lft k (node c l x r) = rw (shape_paint k l)
shape_paint_child rgt k (node c l x r) = rw (shape_paint k r)

shape_rotate : (d : Side) (t : Tree) → shape (rotate d t) ≡ rotate d (shape t)
shape_rotate d leaf = refl
shape_rotate lft (node c a x leaf) = refl
shape_rotate lft (node c a x (node k b y e)) = refl
shape_rotate rgt (node c leaf y e) = refl
shape_rotate rgt (node c (node k a x b) y e) = refl

-- ---- in-order lists

slots_plug : (t u : Tree) (w : List Frame) → slots t ≡ slots u → slots (plug t w) ≡ slots (plug u w)
slots_plug t u w e = rw (slots_around t w, slots_around u w, e)

slots_shape : (t : Tree) → slots (shape t) ≡ slots t
slots_shape leaf = refl
slots_shape (node c l x r) = rw (slots_shape l, slots_shape r)

slots_rotate : (d : Side) (t : Tree) → slots (rotate d t) ≡ slots t
slots_rotate d leaf = refl
slots_rotate lft (node c a x leaf) = refl
slots_rotate lft (node c a x (node k b y e)) = simp append_assoc
slots_rotate rgt (node c leaf y e) = refl
slots_rotate rgt (node c (node k a x b) y e) = simp append_assoc

rotations_slots : {n : ℕ} {t u : Tree} → Turned n t u → slots u ≡ slots t
rotations_slots (still e same) = ap slots same
rotations_slots (turn before d v way t e same) =
    ap slots same ∙ slots_plug (rotate d v) v way (slots_rotate d v) ∙ rotations_slots t

pub turned_slots : {n : ℕ} (t u : Tree) → TurnedAtMost n t u → slots u ≡ slots t
turned_slots t u h = sym (slots_shape u) ∙ rotations_slots h.2 ∙ slots_shape t

-- ---- the rotations from one tree to another

-- none leads to a tree of the same shape
pub turned_none : (t u : Tree) → shape u ≡ shape t → TurnedAtMost 0 t u
turned_none t u e = (0, omega arith, still refl e)

pub turned_shape : {n : ℕ} (t u v : Tree) → shape v ≡ shape u → TurnedAtMost n t u → TurnedAtMost n t v
turned_shape t u v e h = rw e h

pub turned_from : {n : ℕ} (t u v : Tree) → shape u ≡ shape t → TurnedAtMost n t v → TurnedAtMost n u v
turned_from t u v e h = rw e h

pub turned_more : {n m : ℕ} (t u : Tree) → n ≤ m → TurnedAtMost n t u → TurnedAtMost m t u
turned_more t u le h = (h.0, omega (arith, h.1), h.2)

-- one more, at any place
pub turned_rotate : {n : ℕ} (t : Tree) (d : Side) (v : Tree) (w : List Frame)
    → TurnedAtMost n t (plug v w) → TurnedAtMost (suc n) t (plug (rotate d v) w)
turned_rotate t d v w h = (
  suc h.0,
  omega (arith, h.1),
  turn h.0 d (shape v) (shape_up w) (rw (shape_plug v w) at h.2) refl
      (shape_plug (rotate d v) w ∙ ap (λ (u : Tree). plug u (shape_up w)) (shape_rotate d v)),
)

-- what hangs at a place may be painted
pub shape_place : (t u : Tree) (w : List Frame) → shape u ≡ shape t → shape (plug u w) ≡ shape (plug t w)
shape_place t u w e = rw (shape_plug t w, shape_plug u w, e)

pub turned_paint : {n : ℕ} (t v u : Tree) (w : List Frame) → shape u ≡ shape v
    → TurnedAtMost n t (plug v w) → TurnedAtMost n t (plug u w)
turned_paint t v u w e = turned_shape t (plug v w) (plug u w) (shape_place v u w e)
