-- replace_with: each call's demands, from what the calls before it left, and the promise.
use Prim.Native.Nat.{ℕ}
use mathlib.Core.List.{List}
use mathlib.Core.Path.{sym, ◌∙◌}
use lib.ListN.{length}
use native.Mathlib.Omega.{arith}
use Rattle.model.specs.Tree.{lft}
use Rattle.theory.specs.Links.{links}
use Rattle.theory.specs.Programs.{replace_in}
use Rattle.theory.specs.Places.{Bounded, Made}
use Rattle.theory.proofs.Sided.{sided_near, sided_far, sided_parent, sided_color, sided_adopt}
use Rattle.links.specs.Reads.{SlotIn, Got, GotParent, GotColor}
use Rattle.links.specs.Writes.{SetLinksPre, SetLinks, Released}
use Rattle.turns.specs.Turns.{Adopted, ReplacedChild, ReplaceWithPre}

module _ {left right pc : List ℕ} {root old new p : ℕ} (k : ReplaceWithPre left right pc root old new)
    (up : GotParent pc old p) where
  all : Bounded left right pc root
  all = k.bounded

  module _ {c a b : ℕ} (shade : GotColor pc old c) (first : Got left old a) (second : Got right old b)
      {left₁ right₁ pc₁ : List ℕ} {root₁ : ℕ}
      (replaced : ReplacedChild left right root p old new left₁ right₁ root₁) (adopted : Adopted pc a new pc₁) where
    module _ {pc₂ : List ℕ} (adopted₂ : Adopted pc₁ b new pc₂) where
      with_links : SetLinksPre left₁ right₁ pc₂ new a b p
      with_links =
          record {
            slot = record {
              left = replaced.near_below;
              right = replaced.far_below;
              pc = adopted₂.parents;
              lr = omega (arith, replaced.same_near, replaced.same_far, all.same_far);
              lp = omega (arith, replaced.same_near, adopted.same, adopted₂.same, all.same_pc);
              small = omega (arith, replaced.same_near, all.small);
              pos = k.new_low;
              top = omega (arith, k.new_high, replaced.same_near);
            };
            first = omega (arith, first.top, replaced.same_near);
            second = omega (arith, second.top, replaced.same_near, all.same_far);
            parent = omega (arith, up.top, all.same_pc, replaced.same_near);
          }

      module _ {left₃ right₃ pc₃ : List ℕ} (s : SetLinks left₁ right₁ pc₂ new a b p c left₃ right₃ pc₃) where
        with_release : SlotIn left₃ right₃ pc₃ old
        with_release =
            let before = with_links.slot in
            record {
              left = s.left;
              right = s.right;
              pc = s.pc;
              lr = s.same_right ∙ before.lr ∙ sym s.same_left;
              lp = s.same_pc ∙ before.lp ∙ sym s.same_left;
              small = omega (arith, before.small, s.same_left);
              pos = k.old_low;
              top = omega (arith, k.old_high, replaced.same_near, s.same_left);
            }

        pub replaced_with : {left₄ right₄ pc₄ : List ℕ} → Released left₃ right₃ pc₃ old left₄ right₄ pc₄
            → Made (replace_in (links left right pc root) old new) (length left) left₄ right₄ pc₄ root₁
        unfolding replace_in
        replaced_with z =
            let before = with_release in
            record {
              is = rw (
                sided_parent lft left right pc root old,
                ← up.is,
                sided_color lft left right pc root old,
                ← shade.is,
                sided_near lft left right pc root old,
                ← first.is,
                sided_far lft left right pc root old,
                ← second.is,
                ← replaced.is lft pc,
                sided_adopt lft left₁ right₁ pc root₁ a new,
                ← adopted.is,
                sided_adopt lft left₁ right₁ pc₁ root₁ b new,
                ← adopted₂.is,
                ← s.is root₁,
              ) (z.is root₁);
              bounded = record {
                near_below = z.left;
                far_below = z.right;
                parents = z.pc;
                top = omega (arith, replaced.top, s.same_left, z.same_left);
                same_far = z.same_right ∙ before.lr ∙ sym z.same_left;
                same_pc = z.same_pc ∙ before.lp ∙ sym z.same_left;
                small = omega (arith, before.small, z.same_left);
              };
              same = z.same_left ∙ s.same_left ∙ replaced.same_near;
            }
