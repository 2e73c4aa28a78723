-- The in-order walk and the ways down, over a tree that hangs in lent arrays: they are the tree's own.
use Prim.Native.Nat.{ℕ, ◌+◌}
use native.Mathlib.Omega.{arith}
use mathlib.Core.List.{List}
use mathlib.Core.Path.{◌≡◌, refl, ap, sym, ◌∙◌}
use Rattle.model.specs.Tree.{Side, lft, rgt, Color, Tree, leaf, node, slots}
use Rattle.model.specs.Lent.{Arrays, child_of, color_of, color_code}
use Rattle.model.specs.WellFormed.{Walk, nothing, around, Way, missing, through}
use Rattle.theory.specs.Balance.{blacks, dark, Even}
use Rattle.theory.specs.Hangs.{Here, Hangs}
use Rattle.theory.proofs.Marks.{marked_color, dark_is}

module _ (a : Arrays) where
  -- the walk meets the in-order list
  pub walk_of : (p s : ℕ) (t : Tree) → Hangs a p s t → Walk a s (slots t)
  walk_of p s leaf h = nothing h refl
  walk_of p s (node c l x r) h =
      let before = walk_of x (child_of lft a x) l h.1 in
      let after = walk_of x (child_of rgt a x) r h.2 in
      rw h.0.same (around (slots l) (slots r) h.0.linked.positive before after refl)

  -- and no other
  pub walk_is : (p s : ℕ) (L : List ℕ) (t : Tree) → Hangs a p s t → Walk a s L → L ≡ slots t
  walk_is p s L leaf h (nothing e f) = f
  walk_is p s L leaf h (around before after low u v e) = absurd (omega arith)
  walk_is p s L (node c l x r) h (nothing e f) = absurd (omega (arith, h.0.same, h.0.linked.positive))
  walk_is p s L (node c l x r) h (around before after low u v e) =
      let i : before ≡ slots l = walk_is x (child_of lft a x) before l h.1 (rw h.0.same at u) in
      let j : after ≡ slots r = walk_is x (child_of rgt a x) after r h.2 (rw h.0.same at v) in
      cc h.0.same

  -- one black node more with a black top
  node_blacks : {p s x : ℕ} {c : Color} (n : ℕ) → Here a p s c x → n + color_code (color_of a x) ≡ dark c n
  node_blacks {p} {s} {x} {c} n h = rw (marked_color a x p c h.marked, dark_is c n)

  way_of : (p s : ℕ) (t : Tree) → Hangs a p s t → Way a s (blacks t)
  way_of p s leaf h = missing h refl
  way_of p s (node c l x r) h =
      let below = way_of x (child_of lft a x) l h.1 in
      rw h.0.same (through lft (blacks l) h.0.linked.positive below (sym (node_blacks (blacks l) h.0)))

  -- in an even tree every way meets as many black nodes as the leftmost
  pub way_is : (p s n : ℕ) (t : Tree) → Hangs a p s t → Even t → Way a s n → n ≡ blacks t
  way_is p s n leaf h even (missing e f) = f
  way_is p s n leaf h even (through d below low w e) = absurd (omega arith)
  way_is p s n (node c l x r) h even (missing e f) = absurd (omega (arith, h.0.same, h.0.linked.positive))
  way_is p s n (node c l x r) h even (through d below low w e) =
      (rw h.0.same at e)
      ∙ node_blacks below h.0
      ∙ ap (dark c)
      (side
      (λ w. way_is x (child_of lft a x) below l h.1 even.0 w)
      (λ w. way_is x (child_of rgt a x) below r h.2 even.1 w ∙ sym even.2)
      d
      (rw h.0.same at w))
    where
      side : (Way a (child_of lft a x) below → below ≡ blacks l) → (Way a (child_of rgt a x) below → below ≡ blacks l) →
          (d : Side) → Way a (child_of d a x) below → below ≡ blacks l
      side left right lft w = left w
      side left right rgt w = right w

  -- and where no two ways differ, the tree is even
  pub ways_even : (p s : ℕ) (t : Tree) → Hangs a p s t → ((n k : ℕ) → Way a s n → Way a s k → n ≡ k) → Even t
  ways_even p s leaf h same = tt
  ways_even p s (node c l x r) h same = (
    ways_even x (child_of lft a x) l h.1 (λ n k v w. below n k (over lft n v) (over lft k w)),
    ways_even x (child_of rgt a x) r h.2 (λ n k v w. below n k (over rgt n v) (over rgt k w)),
    below (blacks l) (blacks r)
        (over lft (blacks l) (way_of x (child_of lft a x) l h.1))
        (over rgt (blacks r) (way_of x (child_of rgt a x) r h.2)),
  )
    where
      over : (d : Side) (n : ℕ) → Way a (child_of d a x) n → Way a s (n + color_code (color_of a x))
      over d n w = rw h.0.same (through d n h.0.linked.positive w refl)

      below : (n k : ℕ) → Way a s (n + color_code (color_of a x)) → Way a s (k + color_code (color_of a x)) → n ≡ k
      below n k v w =
          let e = same (n + color_code (color_of a x)) (k + color_code (color_of a x)) v w in
          omega arith
