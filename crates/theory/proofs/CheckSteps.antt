-- The check, step by step: at a missing child, with no depth left, and at a node.
use Prim.Native.Nat.{ℕ, zero, suc}
use mathlib.Core.Bool.{Bool, true, false}
use mathlib.Core.Path.{◌≡◌, refl, ap, fun_ext}
use borrow.Author.Tests.{ne_eqb}
use Rattle.model.specs.Branch.{choose}
use Rattle.model.specs.Tree.{Color, red, black}
use Rattle.model.specs.Lent.{Arrays}
use Rattle.model.specs.Check.{bad, guard, is_slot, names_red, inspect, red_check}
use Rattle.model.specs.Check.{black_check}
use Rattle.theory.specs.Checked.{check_of, asked_for}
use Rattle.theory.specs.Verdicts.{missing}

-- a missing child
pub check_missing : (c : Color) (depth : ℕ) (a : Arrays) (above s least : ℕ) → s ≡ 0 →
    check_of c depth a above s least ≡ missing c least
unfolding red_check black_check inspect is_slot guard
check_missing red zero a above s least e = refl
check_missing red (suc depth) a above s least e = rw e
check_missing black zero a above s least e = rw e
check_missing black (suc depth) a above s least e = rw e

-- a node, with no depth left
pub check_deep : (c : Color) (a : Arrays) (above s least : ℕ) → (s ≡ 0 → ⊥) → check_of c 0 a above s least ≡ bad
unfolding red_check black_check
check_deep red a above s least some = refl
check_deep black a above s least some = rw (ne_eqb s 0 some)

-- a node, with some
pub check_node : (c : Color) (depth : ℕ) (a : Arrays) (above s least : ℕ) → (s ≡ 0 → ⊥) →
    check_of c (suc depth) a above s least
    ≡ inspect c a above s least (λ child k. check_of (asked_for c a child) depth a s child k)
unfolding red_check black_check
check_node red depth a above s least some = refl
check_node black depth a above s least some =
    rw (ne_eqb s 0 some)
    (ap (inspect black a above s least) (fun_ext λ child. fun_ext λ k. asked child k (names_red a child)))
  where
    asked : (child k : ℕ) (t : Bool) →
        choose t (λ _. red_check depth a s child k) (λ _. black_check depth a s child k)
        ≡ check_of (choose t (λ _. red) (λ _. black)) depth a s child k
    asked child k true = refl
    asked child k false = refl
