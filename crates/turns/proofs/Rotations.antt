-- adopt, replace_child and rotate: each call's demands, from what the calls before it left, and the promises.
use Prim.Native.Nat.{ℕ, ◌≤◌}
use mathlib.Core.Bool.{Bool, true, false}
use mathlib.Core.List.{List}
use mathlib.Core.Path.{◌≡◌, refl, sym}
use lib.Dec.{eqb}
use lib.ListN.{length}
use native.Mathlib.Omega.{arith}
use borrow.Author.Tests.{eq-eqb, ne_eqb}
use Rattle.model.specs.Tree.{Side}
use Rattle.model.specs.Lent.{at}
use Rattle.theory.specs.Slots.{adopt_at, Below, Parents}
use Rattle.theory.specs.Programs.{replace_child, rotate_in}
use Rattle.theory.specs.Sided.{sided}
use Rattle.theory.specs.Places.{Mirrored}
use Rattle.theory.proofs.Sided.{sided_near, sided_far, sided_parent, sided_set_near, sided_set_far, sided_set_parent}
use Rattle.theory.proofs.Sided.{sided_set_root, sided_adopt}
use Rattle.links.specs.Reads.{Got, GotParent}
use Rattle.links.specs.Writes.{Set, SetParent}
use Rattle.turns.specs.Turns.{Adopted, ReplacedChild, RotatePre, rotate_at}

-- ---- adopt, by either branch

pub adopted_none : (pc : List ℕ) (child parent : ℕ) → child ≡ 0 → Parents pc → Adopted pc child parent pc
unfolding adopt_at
adopted_none pc child parent e b = record { is = rw (eq-eqb child 0 e); parents = b; same = refl }

pub adopted_some : (pc : List ℕ) (child parent : ℕ) (pc' : List ℕ) → (child ≡ 0 → ⊥) → SetParent pc child parent pc'
    → Adopted pc child parent pc'
unfolding adopt_at
adopted_some pc child parent pc' n s =
    record { is = rw (ne_eqb child 0 n) s.is; parents = s.parents; same = s.same }

-- ---- replace_child, by each of its three branches

module _ (near far : List ℕ) (root parent old new : ℕ) (near_below : Below near) (far_below : Below far) where
  pub replaced_root : parent ≡ 0 → new ≤ length near → ReplacedChild near far root parent old new near far new
  unfolding replace_child
  replaced_root e high =
      record {
        is = λ d pc. rw (eq-eqb parent 0 e) (sym (sided_set_root d near far pc root new));
        near_below = near_below;
        far_below = far_below;
        top = high;
        same_near = refl;
        same_far = refl;
      }

  module _ (child : ℕ) (n : parent ≡ 0 → ⊥) (top : root ≤ length near) (g : child ≡ at near parent) (test : Bool)
      (same : test ≡ eqb child old) where
    pub replaced_near : (near' : List ℕ) → test ≡ true → Set near parent new near'
        → ReplacedChild near far root parent old new near' far root
    unfolding replace_child
    replaced_near near' e s =
        record {
          is = λ d pc. rw (
            ne_eqb parent 0 n,
            sided_near d near far pc root parent,
            ← g,
            ← same,
            e,
            s.is,
          ) (sym (sided_set_near d near far pc root parent new));
          near_below = s.below;
          far_below = far_below;
          top = omega (arith, s.same);
          same_near = s.same;
          same_far = refl;
        }

    pub replaced_far : (far' : List ℕ) → test ≡ false → Set far parent new far'
        → ReplacedChild near far root parent old new near far' root
    unfolding replace_child
    replaced_far far' e s =
        record {
          is = λ d pc. rw (
            ne_eqb parent 0 n,
            sided_near d near far pc root parent,
            ← g,
            ← same,
            e,
            s.is,
          ) (sym (sided_set_far d near far pc root parent new));
          near_below = near_below;
          far_below = s.below;
          top = top;
          same_near = refl;
          same_far = s.same;
        }

-- ---- rotate: the slot x, its far child y, the near child m of y, and the parent p of x

module _ {near far pc far₁ pc₁ pc₂ near₂ far₂ near₃ pc₃ : List ℕ} {root x y m p root₂ : ℕ}
    (k : RotatePre near far pc root x) (up : Got far x y) (middle : Got near y m) (down : Set far x m far₁)
    (adopted : Adopted pc m x pc₁) (over : GotParent pc₁ x p) (raised : SetParent pc₁ y p pc₂)
    (replaced : ReplacedChild near far₁ root p x y near₂ far₂ root₂) (lowered : Set near₂ y x near₃)
    (under : SetParent pc₂ x y pc₃)
  where
    rotated_is : (d : Side) → sided d near₃ far₂ pc₃ root₂ ≡ rotate_in d (sided d near far pc root) x
    unfolding rotate_in
    rotated_is d =
        rw (
          sided_far d near far pc root x,
          ← up.is,
          sided_near d near far pc root y,
          ← middle.is,
          sided_set_far d near far pc root x m,
          ← down.is,
          sided_adopt d near far₁ pc root m x,
          ← adopted.is,
          sided_parent d near far₁ pc₁ root x,
          ← over.is,
          sided_set_parent d near far₁ pc₁ root y p,
          ← raised.is,
          ← replaced.is d pc₂,
          sided_set_near d near₂ far₂ pc₂ root₂ y x,
          ← lowered.is,
          sided_set_parent d near₃ far₂ pc₂ root₂ x y,
          ← under.is,
        ) refl

    pub rotated : Mirrored (rotate_at x) near far pc root near₃ far₂ pc₃ root₂
    unfolding rotate_at
    rotated =
        record {
          is = rotated_is;
          bounded = record {
            near_below = lowered.below;
            far_below = replaced.far_below;
            parents = under.parents;
            top = omega arith;
            same_far = omega arith;
            same_pc = omega arith;
            small = omega arith;
          };
          same = omega arith;
        }
