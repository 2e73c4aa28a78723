-- Where a balanced tree hangs in lent arrays, its keys in order, the check accepts it and counts it right.
use Prim.Native.Nat.{ℕ, zero, suc, ◌+◌, ◌≤◌}
use native.Mathlib.Omega.{arith}
use mathlib.Core.List.{◌∷◌, ◌++◌}
use mathlib.Core.Path.{◌≡◌, refl, sym, ◌∙◌}
use lib.Dec.{eqb}
use borrow.Author.Tests.{eq-eqb, le-leb}
use Rattle.model.specs.Branch.{choose}
use Rattle.model.specs.Tree.{lft, rgt, Color, red, black, Tree, leaf, node, slots}
use Rattle.model.specs.Lent.{Arrays, child_of, key_of, color_code}
use Rattle.model.specs.WellFormed.{Rising}
use Rattle.model.specs.Check.{Verdict, good, names_red, inspect}
use Rattle.theory.specs.Balance.{tint, Allowed, Calm, Even, blacks, size, height}
use Rattle.theory.specs.Hangs.{Here, Hangs}
use Rattle.theory.specs.Checked.{last_key, check_of, asked_for}
use Rattle.theory.proofs.Marks.{marked_color, dark_is}
use Rattle.theory.proofs.LastKey.{rising_split, last_append}
use Rattle.theory.proofs.Verdicts.{guard_pass, then_pass, no_slot, true_slot, true_differ}
use Rattle.theory.proofs.Calm.{allowed_red}
use Rattle.theory.proofs.CheckSteps.{check_missing, check_node}

module _ (a : Arrays) where
  red_named : (p s : ℕ) (t : Tree) → Hangs a p s t → choose (names_red a s) (λ _. red) (λ _. black) ≡ tint t
  unfolding names_red
  red_named p s leaf h = rw (h, no_slot a)
  red_named p s (node c l x r) h =
      rw (h.0.same, true_slot a x h.0.linked.positive h.0.linked.fits, marked_color a x p c h.0.marked)
      (code c)
    where
      code : (c : Color) → choose (eqb (color_code c) 0) (λ _. red) (λ _. black) ≡ c
      code red = refl
      code black = refl

  -- a node asks the check that is right for the child
  asked_tint : (c : Color) (p s : ℕ) (t : Tree) → Hangs a p s t → Allowed c (tint t) → asked_for c a s ≡ tint t
  asked_tint red p s t h colors = sym (allowed_red red (tint t) refl colors)
  asked_tint black p s t h colors = red_named p s t h

  inspect_finds : (c : Color) (above s least : ℕ) (l r : Tree) (ask : ℕ → ℕ → Verdict) → Here a above s c s →
      blacks l ≡ blacks r → Rising (key_of a) least (slots l ++ s ∷ slots r) →
      ask (child_of lft a s) least ≡ good (blacks l) (size l) (last_key (key_of a) least (slots l)) →
      ask (child_of rgt a s) (key_of a s) ≡ good (blacks r) (size r) (last_key (key_of a) (key_of a s) (slots r)) →
      inspect c a above s least ask
      ≡ good (blacks (node c l s r)) (size (node c l s r)) (last_key (key_of a) least (slots (node c l s r)))
  unfolding inspect
  inspect_finds c above s least l r ask h even rising left right =
      let nodes : size l + size r + 1 ≡ suc (size l + size r) = omega arith in
      guard_pass _ _ _ (true_slot a s h.linked.positive h.linked.fits)
      (guard_pass _ _ _ (eq-eqb _ _ h.marked)
      (guard_pass _ _ _ (true_differ _ _ h.differ)
      (then_pass _ _ _ _ _ _ left
      (guard_pass _ _ _ (le-leb _ _ (rising_split (key_of a) least (slots l) (s ∷ slots r) rising).1.0)
      (then_pass _ _ _ _ _ _ right
      (guard_pass _ _ _ (eq-eqb _ _ even)
      (rw (last_append (key_of a) least (slots l) (s ∷ slots r), dark_is c (blacks l), nodes))))))))

  -- the check, given depth enough: it counts the black nodes and the nodes, and ends with the last key
  pub check_finds : (depth above s least : ℕ) (t : Tree) → Hangs a above s t → Calm t → Even t →
      Rising (key_of a) least (slots t) → height t ≤ depth →
      check_of (tint t) depth a above s least ≡ good (blacks t) (size t) (last_key (key_of a) least (slots t))
  check_finds depth above s least leaf h calm even rising deep = check_missing black depth a above s least h
  check_finds zero above s least (node c l x r) h calm even rising deep = absurd (omega arith)
  check_finds (suc depth) above s least (node c l x r) h calm even rising deep =
      let parts = rising_split (key_of a) least (slots l) (x ∷ slots r) rising in
      let left = check_finds depth x (child_of lft a x) least l h.1 calm.2 even.0 parts.0 (omega arith) in
      let more = check_finds depth x (child_of rgt a x) (key_of a x) r h.2 in
      let right = more calm.3 even.1 parts.1.1 (omega arith) in
      rw h.0.same
      (check_node c depth a above x least (omega (arith, h.0.linked.positive))
      ∙ inspect_finds c above x least l r _ (rw h.0.same at h.0) even.2 rising
      (rw (asked_tint c x (child_of lft a x) l h.1 calm.0) left)
      (rw (asked_tint c x (child_of rgt a x) r h.2 calm.1) right))
