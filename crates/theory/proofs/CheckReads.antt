-- Where the check accepts, it has read a tree.
use Prim.Native.Nat.{ℕ, zero, suc, ◌+◌, ◌≤◌, ◌<◌}
use native.Mathlib.Omega.{arith}
use native.Mathlib.Decide.{ℕ_discrete}
use mathlib.Core.Bool.{true}
use mathlib.Core.List.{◌∷◌}
use mathlib.Core.Path.{◌≡◌, refl, sym, ◌∙◌}
use lib.Dec.{eqb}
use borrow.Author.Tests.{eqb-true, leb-true}
use Rattle.model.specs.Tree.{lft, rgt, Color, red, black, Tree, leaf, node, slots}
use Rattle.model.specs.Lent.{Arrays, child_of, pc_of, key_of, color_code, parent_color}
use Rattle.model.specs.Check.{Verdict, good, differ, is_slot, inspect}
use Rattle.theory.specs.Balance.{tint, Allowed}
use Rattle.theory.specs.Hangs.{Here}
use Rattle.theory.specs.Checked.{check_of, asked_for, Read, Found}
use Rattle.theory.specs.Verdicts.{missing}
use Rattle.theory.proofs.Marks.{dark_is}
use Rattle.theory.proofs.LastKey.{rising_append, last_append}
use Rattle.theory.proofs.CheckSteps.{check_missing, check_deep, check_node}
use Rattle.theory.proofs.Verdicts.{bad_good, guard_good, then_good, slot_true, differ_true}

module _ (a : Arrays) where
  node_read : {c : Color} {above s least h i j h' i' j' : ℕ} {l r : Tree} → Here a above s c s →
      Allowed c (tint l) → Allowed c (tint r) →
      Read a s (child_of lft a s) least h i j l → j ≤ key_of a s → Read a s (child_of rgt a s) (key_of a s) h' i' j' r →
      h ≡ h' → Read a above s least (h + color_code c) (i + i' + 1) j' (node c l s r)
  node_read {c} {above} {s} {least} {h} {l = l} {r = r} here left right x key y even = record {
    hangs = (here, x.hangs, y.hangs);
    calm = (left, right, x.calm, y.calm);
    even = (x.even, y.even, x.black ∙ even ∙ sym y.black);
    black = rw x.black (dark_is c h);
    nodes = omega (arith, x.nodes, y.nodes);
    rising = rising_append (key_of a) least (slots l) (s ∷ slots r) x.rising (rw x.last key, y.rising);
    last = last_append (key_of a) least (slots l) (s ∷ slots r) ∙ y.last;
  }

  here_read : (c : Color) (above s : ℕ) → 0 < parent_color above c → is_slot a s ≡ true →
      eqb (pc_of a s) (parent_color above c) ≡ true → differ (child_of lft a s) (child_of rgt a s) ≡ true →
      Here a above s c s
  here_read c above s some slot mark apart = record {
    same = refl;
    linked = record { positive = (slot_true a s slot).0; fits = (slot_true a s slot).1; marked = rw marked some };
    marked = marked;
    differ = differ_true (child_of lft a s) (child_of rgt a s) apart;
  }
    where
      marked : pc_of a s ≡ parent_color above c
      marked = eqb-true (pc_of a s) (parent_color above c) mark

  same_read : {above s least h i j b n k : ℕ} {t : Tree} → good h i j ≡ good b n k → Read a above s least h i j t →
      Read a above s least b n k t
  same_read {h = h} {i = i} {j = j} {b = b} {n = n} {k = k} e r =
      let p : h ≡ b = cc in
      let q : i ≡ n = cc in
      let u : j ≡ k = cc in
      rw (p, q, u) at r

  inspect_read : (c : Color) (above s least b n k : ℕ) (ask : ℕ → ℕ → Verdict) → 0 < parent_color above c →
      (0 < s → (child key h i j : ℕ) → ask child key ≡ good h i j →
      Found a (λ t. Allowed c (tint t)) s child key h i j) →
      inspect c a above s least ask ≡ good b n k → Found a (λ t. tint t ≡ c) above s least b n k
  unfolding inspect
  inspect_read c above s least b n k ask some below e =
      guard_good _ _ e λ slot e₁.
      guard_good _ _ e₁ λ mark e₂.
      guard_good _ _ e₂ λ apart e₃.
      then_good _ _ e₃ λ h i j left e₄.
      guard_good _ _ e₄ λ key e₅.
      then_good _ _ e₅ λ h' i' j' right e₆.
      guard_good _ _ e₆ λ even e₇.
      let here = here_read c above s some slot mark apart in
      let x = below here.linked.positive (child_of lft a s) least h i j left in
      let y = below here.linked.positive (child_of rgt a s) (key_of a s) h' i' j' right in
      let read = node_read here x.1 y.1 x.2 (leb-true _ _ key) y.2 (eqb-true _ _ even) in
      (node c x.0 s y.0, refl, same_read e₇ read)

  missing_read : (c : Color) (above s least b n k : ℕ) → s ≡ 0 → missing c least ≡ good b n k →
      Found a (λ t. tint t ≡ c) above s least b n k
  missing_read red above s least b n k e f = bad_good f
  missing_read black above s least b n k e f =
      let read : Read a above s least 0 0 least leaf = record {
        hangs = e;
        calm = tt;
        even = tt;
        black = refl;
        nodes = refl;
        rising = tt;
        last = refl;
      } in
      (leaf, refl, same_read f read)

  allowed_asked : (c : Color) (child : ℕ) (t : Tree) → tint t ≡ asked_for c a child → Allowed c (tint t)
  allowed_asked red child t e = rw e tt
  allowed_asked black child t e = tt

  -- a good verdict on a child number names a tree of the colour asked for, with these counts
  pub check_read : (c : Color) (depth above s least b n k : ℕ) → 0 < parent_color above c →
      check_of c depth a above s least ≡ good b n k → Found a (λ t. tint t ≡ c) above s least b n k
  check_read c zero above s least b n k some e = go (ℕ_discrete s 0)
    where
      go : Dec (s ≡ 0) → Found a (λ t. tint t ≡ c) above s least b n k
      go (yes q) = missing_read c above s least b n k q (sym (check_missing c 0 a above s least q) ∙ e)
      go (no q) = bad_good (sym (check_deep c a above s least q) ∙ e)
  check_read c (suc depth) above s least b n k some e =
      go (ℕ_discrete s 0) λ low child key h i j f.
      let x = check_read (asked_for c a child) depth s child key h i j (omega arith) f in
      (x.0, allowed_asked c child x.0 x.1, x.2)
    where
      go : Dec (s ≡ 0) →
          (0 < s → (child key h i j : ℕ) → check_of (asked_for c a child) depth a s child key ≡ good h i j →
          Found a (λ t. Allowed c (tint t)) s child key h i j) →
          Found a (λ t. tint t ≡ c) above s least b n k
      go (yes q) below = missing_read c above s least b n k q (sym (check_missing c (suc depth) a above s least q) ∙ e)
      go (no q) below =
          inspect_read c above s least b n k _ some below (sym (check_node c depth a above s least q) ∙ e)
