-- sibling, has_red_child and pass keep their promises.
use Prim.Native.Nat.{ℕ}
use mathlib.Core.Bool.{Bool, true, false, ◌||◌}
use mathlib.Core.List.{List}
use mathlib.Core.Path.{◌≡◌, refl, sym}
use lib.Dec.{eqb}
use native.Mathlib.Omega.{arith}
use borrow.Author.Tests.{eq-eqb, ne_eqb}
use Rattle.std.specs.Prelude.{Option, None}
use Rattle.model.specs.Branch.{pick}
use Rattle.model.specs.Tree.{lft, rgt, opp}
use Rattle.theory.specs.Links.{links, child_in, side_in, red_in}
use Rattle.theory.specs.Programs.{sibling_in}
use Rattle.theory.proofs.Sided.{sided_near, sided_far, sided_parent}
use Rattle.links.specs.declared.types.Slot.{Slot}
use Rattle.links.specs.Reads.{SlotIn, Got, GotParent, GotRed, SlotOrNone}
use Rattle.links.proofs.Reading.{sided_red}
use Rattle.mending.specs.Passes.{Sibling, red_below, RedChild, pass_in, PassPre, Passed}

-- ---- sibling: `child` is the left child of the parent

module _ {left right pc : List ℕ} {slot parent : ℕ} (pre : SlotIn left right pc slot) (up : GotParent pc slot parent)
  where
    no_sibling : parent ≡ 0 → (root : ℕ) → sibling_in (links left right pc root) slot ≡ 0
    unfolding sibling_in
    no_sibling none root = rw (sided_parent lft left right pc root slot, ← up.is, eq-eqb parent 0 none) refl

    pub sibling_none : parent ≡ 0 → Sibling left right pc slot None
    sibling_none none = record {
      is = no_sibling none;
      top = λ root. rw (no_sibling none root) (omega arith);
    }

    module _ (some : parent ≡ 0 → ⊥) {child : ℕ} (first : Got left parent child) {test : Bool}
        (tested : test ≡ eqb child slot) where
      -- the model's choice, by what was read
      sibling_by : (root : ℕ) → sibling_in (links left right pc root) slot
          ≡ child_in (opp (pick test lft rgt)) (links left right pc root) parent
      unfolding sibling_in side_in
      sibling_by root = rw (
        sided_parent lft left right pc root slot,
        ← up.is,
        ne_eqb parent 0 some,
        sided_near lft left right pc root parent,
        ← first.is,
        ← tested,
      )

      pub sibling_right : {other : ℕ} {found : Option Slot} → test ≡ true → Got right parent other
          → SlotOrNone found other → Sibling left right pc slot found
      sibling_right {other} same second told =
          let is : (root : ℕ) → sibling_in (links left right pc root) slot ≡ other
          = λ root. rw (sibling_by root, same, sided_far lft left right pc root parent) (sym second.is) in
          record { is = λ root. rw (is root) told; top = λ root. rw (is root) (omega (arith, second.top, pre.lr)) }

      pub sibling_left : {found : Option Slot} → test ≡ false → SlotOrNone found child
          → Sibling left right pc slot found
      sibling_left apart told =
          let is : (root : ℕ) → sibling_in (links left right pc root) slot ≡ child
          = λ root. rw (sibling_by root, apart, sided_near lft left right pc root parent) (sym first.is) in
          record { is = λ root. rw (is root) told; top = λ root. rw (is root) first.top }

-- ---- has_red_child: `child` is the left child

module _ {left pc : List ℕ} {slot child : ℕ} {red : Bool} (first : Got left slot child) (tested : GotRed pc child red)
  where
    child_by : (right : List ℕ) (root : ℕ) → let all = links left right pc root in
        red_below all slot ≡ red || red_in all (child_in rgt all slot)
    unfolding red_below
    child_by right root =
        rw (sided_near lft left right pc root slot, ← first.is, sided_red lft left right pc root child, ← tested.is)

    pub child_left : {right : List ℕ} → red ≡ true → RedChild left right pc slot red
    child_left {right} is-red = record { is = λ root. rw (child_by right root, is-red) refl }

    pub child_right : {right : List ℕ} {other : ℕ} {red₂ : Bool} → red ≡ false → Got right slot other
        → GotRed pc other red₂ → RedChild left right pc slot red₂
    child_right {right} {other} none second tested₂ = record {
      is = λ root. rw (
        child_by right root,
        none,
        sided_far lft left right pc root slot,
        ← second.is,
        sided_red lft left right pc root other,
      ) tested₂.is;
    }

-- ---- pass

pass_none : {left right pc : List ℕ} {slot : ℕ} → ((root : ℕ) → pass_in (links left right pc root) slot ≡ 0)
    → Passed left right pc slot None
pass_none is = record { is = is; top = λ root. rw (is root) (omega arith) }

module _ {left right pc : List ℕ} {slot : ℕ} {red : Bool} (pre : PassPre left right pc slot)
    (tested : GotRed pc slot red) where
  red_by : red ≡ true → (root : ℕ) → pass_in (links left right pc root) slot ≡ 0
  unfolding pass_in
  red_by is-red root = rw (sided_red lft left right pc root slot, ← tested.is, is-red) refl

  pub pass_red : red ≡ true → Passed left right pc slot None
  pass_red is-red = pass_none (red_by is-red)

  module _ (none : red ≡ false) {below : Bool} (child : RedChild left right pc slot below) where
    child_by_red : below ≡ true → (root : ℕ) → pass_in (links left right pc root) slot ≡ 0
    unfolding pass_in
    child_by_red is-red root =
        rw (sided_red lft left right pc root slot, ← tested.is, none, ← child.is root, is-red) refl

    pub pass_child : below ≡ true → Passed left right pc slot None
    pass_child is-red = pass_none (child_by_red is-red)

    module _ (none_below : below ≡ false) {parent : ℕ} (up : GotParent pc slot parent) {above : Bool}
        (tested₂ : GotRed pc parent above) where
      pass_by : (root : ℕ) → let all = links left right pc root in
          pass_in all slot ≡ pick above 0 (sibling_in all parent)
      unfolding pass_in
      pass_by root = rw (
        sided_red lft left right pc root slot,
        ← tested.is,
        none,
        ← child.is root,
        none_below,
        sided_parent lft left right pc root slot,
        ← up.is,
        sided_red lft left right pc root parent,
        ← tested₂.is,
      )

      pub pass_parent : above ≡ true → Passed left right pc slot None
      pass_parent is-red = pass_none (λ root. rw (pass_by root, is-red) refl)

      pub passed : {next : Option Slot} → above ≡ false → Sibling left right pc parent next
          → Passed left right pc slot next
      passed none_above sibling = record {
        is = λ root. rw (pass_by root, none_above) (sibling.is root);
        top = λ root. rw (pass_by root, none_above) (sibling.top root);
      }
