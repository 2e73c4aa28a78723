-- finish_remove and remove_one: each call's demands, from what the calls before it left, and the promises.
use Prim.Native.Nat.{ℕ, ◌≤◌, ◌<◌}
use mathlib.Core.Bool.{Bool, true, false}
use mathlib.Core.List.{List}
use mathlib.Core.Path.{◌≡◌, refl, sym, ap, subst, ◌∙◌}
use lib.Dec.{eqb}
use lib.ListN.{length}
use native.Mathlib.Omega.{arith}
use borrow.Author.Tests.{ne_eqb}
use Rattle.std.specs.Prelude.{Option, None, Some}
use Rattle.model.specs.Tree.{Side, lft, rgt, on, Color, Tree, leaf, node, top_of, Frame, plug}
use Rattle.theory.specs.Links.{Links, links}
use Rattle.theory.specs.Programs.{post_remove, sibling_in, detach, finish_remove, remove_one}
use Rattle.theory.specs.Places.{Drawn, Spot, sibling_of, Made}
use Rattle.theory.proofs.Sided.{sided_color, sided_set_color}
use Rattle.theory.proofs.Replacing.{detach_drawn, detach_sound}
use Rattle.theory.proofs.Removing.{sibling_drawn, mendable}
use Rattle.theory.proofs.Places.{bounded, spot_low, spot_high, spot_bounded, spot_color, spot_near, spot_over}
use denote.Enum.Bare.{sameb}
use Rattle.links.specs.declared.types.Slot.{Slot}
use Rattle.links.specs.Reads.{SlotOf, SlotIn, GotColor, SlotOrNone}
use Rattle.links.specs.Colors.{shade}
use Rattle.links.specs.contracts.types.Color.{the_type}
use Rattle.links.specs.declared.types.Color as shades
use Rattle.links.specs.declared.types.Color.TheVariants.{Red}
use Rattle.links.proofs.Colors.{same_red}
use Rattle.links.specs.Writes.{SetColorPre, SetColor}
use Rattle.links.proofs.Spots.{spot_in, in_color, in_set_color, bounded_painted}
use Rattle.mending.specs.Passes.{Sibling}
use Rattle.removal.specs.Removals.{DetachPre, FinishPre, number, OnePre}

-- ---- the number of a slot, or of none

pub number_told : (found : Option Slot) {n : ℕ} → SlotOrNone found n → number found ≡ n
number_told None told = sym told
number_told (Some slot) told = told.1

-- ---- finish_remove, at each of its four ends

top_in : {left right pc : List ℕ} {root size : ℕ} (tree : Tree) (way : List Frame) (child : ℕ)
    → Drawn lft left right pc root size (plug tree way) → child ≡ top_of tree → 0 < child
    → SlotIn left right pc child
top_in leaf way child held is some = absurd (omega (arith, is, some))
top_in {left} {right} {pc} {root} {size} (node c l x r) way child held is some =
    let spot : Spot lft left right pc root size lft c l x r way = record { held = held } in
    rw is (spot_in spot)

module _ {left right pc : List ℕ} {root : ℕ} {child sibling : Option Slot} (color : shades.Color)
    (pre : FinishPre left right pc root (shade color) child sibling) {test : Bool}
    (same : test ≡ sameb the_type color Red) where
  tested : test ≡ eqb (shade color) 0
  tested = same ∙ same_red color

  pub finish_red : test ≡ true
      → Made (finish_remove (length left) (links left right pc root) (shade color) (number child) (number sibling))
      (length left) left right pc root
  unfolding finish_remove
  finish_red e = record { is = rw (← tested, e); bounded = bounded pre.held; same = refl }

  module _ (dark : test ≡ false) where
    top_told : {slot : Slot} → child ≡ Some slot → SlotOrNone (Some slot) (top_of pre.tree)
    top_told some = subst (λ (found : Option Slot). SlotOrNone found (top_of pre.tree)) some pre.child

    pub finish_color : {slot : Slot} → child ≡ Some slot → SetColorPre pc slot.0
    finish_color {slot} some =
        let told = top_told some in in_set_color (top_in pre.tree pre.way slot.0 pre.held told.1 told.0)

    pub finish_child : {slot : Slot} {pc' : List ℕ} → child ≡ Some slot → SetColor pc slot.0 1 pc'
        → Made (finish_remove (length left) (links left right pc root) (shade color) (number child) (number sibling))
        (length left) left right pc' root
    unfolding finish_remove
    finish_child {slot} some painted = record {
      is = rw (
        ← tested,
        dark,
        ap number some,
        ne_eqb slot.0 0 (omega (arith, (top_told some).0)),
        sided_set_color lft left right pc root slot.0 1,
        ← painted.is,
      ) refl;
      bounded = bounded_painted (bounded pre.held) painted;
      same = refl;
    }

    module _ (none : child ≡ None) where
      pub finish_root : sibling ≡ None
          → Made (finish_remove (length left) (links left right pc root) (shade color) (number child) (number sibling))
          (length left) left right pc root
      unfolding finish_remove
      finish_root e = record {
        is = rw (← tested, dark, ap number none, ap number e);
        bounded = bounded pre.held;
        same = refl;
      }

      module _ {beside : Slot} (there : sibling ≡ Some beside) where
        beside_low : 0 < beside.0
        beside_low = (subst (λ (found : Option Slot). SlotOrNone found (sibling_of pre.way)) there pre.sibling).0

        pub finish_climb : {left' right' pc' : List ℕ} {root' : ℕ}
            → Made (post_remove (length left) (links left right pc root) beside.0) (length left) left' right' pc' root'
            → Made
            (finish_remove (length left) (links left right pc root) (shade color) (number child) (number sibling))
            (length left) left' right' pc' root'
        unfolding finish_remove
        finish_climb made = record {
          is = rw (
            ← tested,
            dark,
            ap number none,
            ap number there,
            ne_eqb beside.0 0 (omega (arith, beside_low)),
          ) made.is;
          bounded = made.bounded;
          same = made.same;
        }

-- ---- remove_one

child_high : (d : Side) {left right pc : List ℕ} {root C : ℕ} {c : Color} {a b : Tree} {x : ℕ} {w : List Frame}
    → Spot lft left right pc root C d c a x b w → top_of a ≤ length left
child_high lft {x = x} spot = rw (← spot_near spot) ((spot_bounded spot).near_below.each x)
child_high rgt {x = x} spot =
    rw (← spot_over spot) (omega (arith, (spot_bounded spot).far_below.each x, (spot_bounded spot).same_far))

module _ {left right pc : List ℕ} {root slot child : ℕ} (pre : OnePre left right pc root slot child) where
  pub one_color : SlotOf pc slot
  one_color = in_color (spot_in pre.spot)

  pub one_sibling : SlotIn left right pc slot
  one_sibling = spot_in pre.spot

  pub one_detach : DetachPre left right pc root slot child
  one_detach = record {
    bounded = spot_bounded pre.spot;
    low = spot_low pre.spot;
    high = spot_high pre.spot;
    child = rw pre.child (child_high pre.side pre.spot);
  }

  module _ {color : ℕ} {sibling : Option Slot} (shade : GotColor pc slot color)
      (found : Sibling left right pc slot sibling) (below : Option Slot) (told : SlotOrNone below child)
      {left₁ right₁ pc₁ : List ℕ} {root₁ : ℕ}
      (cut : Made (detach (links left right pc root) slot child) (length left) left₁ right₁ pc₁ root₁) where
    pub one_finish : FinishPre left₁ right₁ pc₁ root₁ color below sibling
    one_finish =
        let sound = pre.spot.held.sound in let e = pre.side in let t = pre.tree in
        let after = detach_sound e pre.color t slot pre.way sound in
        record {
          size = pre.size;
          lost = pre.color;
          tree = t;
          way = pre.way;
          held = record {
            is = cut.is ∙ (λ i. detach (pre.spot.held.is i) slot (pre.child i))
                ∙ detach_drawn e pre.color t slot pre.way sound;
            sound = after;
            small = pre.spot.held.small;
          };
          solid = (mendable e pre.color t slot pre.way pre.balanced after).solid;
          color = shade.is ∙ spot_color pre.spot;
          child = subst (SlotOrNone below) pre.child told;
          sibling = subst (SlotOrNone sibling) (ap (λ (z : Links). sibling_in z slot) pre.spot.held.is
              ∙ sibling_drawn pre.color (on e t leaf) slot (on e leaf t) pre.way sound) (found.is root);
        }

    pub one_done : {left' right' pc' : List ℕ} {root' : ℕ}
        → Made (finish_remove (length left₁) (links left₁ right₁ pc₁ root₁) color (number below) (number sibling))
        (length left₁) left' right' pc' root'
        → Made (remove_one (length left) (links left right pc root) slot child) (length left) left' right' pc' root'
    unfolding remove_one
    one_done made = record {
      is = rw (
        sided_color lft left right pc root slot,
        ← shade.is,
        ← number_told sibling (found.is root),
        ← cut.is,
        ← cut.same,
        ← number_told below told,
      ) made.is;
      bounded = made.bounded;
      same = made.same ∙ cut.same;
    }
