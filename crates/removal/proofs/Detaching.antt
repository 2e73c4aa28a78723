-- detach: each call's demands, from what the calls before it left, and the promise.
use Prim.Native.Nat.{ℕ}
use mathlib.Core.List.{List}
use mathlib.Core.Path.{sym, ◌∙◌}
use lib.ListN.{length}
use native.Mathlib.Omega.{arith}
use Rattle.model.specs.Tree.{lft}
use Rattle.theory.specs.Links.{links}
use Rattle.theory.specs.Programs.{detach}
use Rattle.theory.specs.Places.{Bounded, Made}
use Rattle.theory.proofs.Sided.{sided_parent, sided_adopt}
use Rattle.links.specs.Reads.{SlotIn, GotParent}
use Rattle.links.specs.Writes.{Released}
use Rattle.turns.specs.Turns.{Adopted, ReplacedChild}
use Rattle.removal.specs.Removals.{DetachPre}

module _ {left right pc pc₁ left₂ right₂ : List ℕ} {root slot child parent root₂ : ℕ}
    (pre : DetachPre left right pc root slot child) (up : GotParent pc slot parent)
    (adopted : Adopted pc child parent pc₁)
    (replaced : ReplacedChild left right root parent slot child left₂ right₂ root₂)
  where
    all : Bounded left right pc root
    all = pre.bounded

    detach_release : SlotIn left₂ right₂ pc₁ slot
    detach_release = record {
      left = replaced.near_below;
      right = replaced.far_below;
      pc = adopted.parents;
      lr = replaced.same_far ∙ all.same_far ∙ sym replaced.same_near;
      lp = adopted.same ∙ all.same_pc ∙ sym replaced.same_near;
      small = omega (arith, replaced.same_near, all.small);
      pos = pre.low;
      top = omega (arith, pre.high, replaced.same_near);
    }

    pub detached : {left₃ right₃ pc₃ : List ℕ} → Released left₂ right₂ pc₁ slot left₃ right₃ pc₃
        → Made (detach (links left right pc root) slot child) (length left) left₃ right₃ pc₃ root₂
    unfolding detach
    detached released =
        let before = detach_release in
        record {
          is = rw (
            sided_parent lft left right pc root slot,
            ← up.is,
            sided_adopt lft left right pc root child parent,
            ← adopted.is,
            ← replaced.is lft pc₁,
          ) (released.is root₂);
          bounded = record {
            near_below = released.left;
            far_below = released.right;
            parents = released.pc;
            top = omega (arith, replaced.top, released.same_left);
            same_far = released.same_right ∙ before.lr ∙ sym released.same_left;
            same_pc = released.same_pc ∙ before.lp ∙ sym released.same_left;
            small = omega (arith, before.small, released.same_left);
          };
          same = released.same_left ∙ replaced.same_near;
        }
