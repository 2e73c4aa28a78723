-- remove_two: each call's demands, from what the calls before it left, and the promise.
use Prim.Native.Nat.{ℕ}
use mathlib.Core.List.{List, ◌∷◌, ◌++◌}
use mathlib.Core.Path.{◌≡◌, ap, subst, ◌∙◌}
use lib.ListN.{length}
use native.Mathlib.Omega.{arith}
use Rattle.std.specs.Prelude.{Option}
use Rattle.model.specs.Tree.{lft, rgt, leaf, top_of, Frame, frame, plug}
use Rattle.theory.specs.Links.{Links, links, drawn}
use Rattle.theory.specs.Programs.{sibling_in, detach, replace_in, finish_remove, remove_two}
use Rattle.theory.specs.Places.{Made}
use Rattle.theory.proofs.Sided.{sided_far, sided_color}
use Rattle.theory.proofs.Counts.{slot_low, slot_high}
use Rattle.theory.proofs.Replacing.{detach_drawn}
use Rattle.theory.proofs.Removing.{sibling_drawn, sibling_same, Mendable, left_sound, moved_drawn, moved_mendable}
use Rattle.theory.proofs.Places.{long, spot_low, spot_high, spot_bounded, spot_color, spot_far}
use Rattle.links.specs.declared.types.Slot.{Slot}
use Rattle.links.specs.Reads.{SlotOf, SlotIn, GetPre, Got, GotColor, SlotOrNone}
use Rattle.links.proofs.Spots.{spot_in, in_get_far, in_color}
use Rattle.turns.specs.Turns.{ReplaceWithPre}
use Rattle.mending.specs.Passes.{Sibling}
use Rattle.removal.specs.Removals.{DetachPre, FinishPre, number, TwoPre}
use Rattle.removal.proofs.Finishing.{number_told}

module _ {left right pc : List ℕ} {root slot next : ℕ} (pre : TwoPre left right pc root slot next) where
  -- the way up from `next`, with the slot on it, and with `next` in its place
  abbrev before : List Frame
  before = pre.inner ++ frame rgt pre.color slot pre.other ∷ pre.way

  abbrev after : List Frame
  after = pre.inner ++ frame rgt pre.color next pre.other ∷ pre.way

  pub two_get : GetPre right next
  two_get = in_get_far (spot_in pre.spot)

  pub two_color : SlotOf pc next
  two_color = in_color (spot_in pre.spot)

  pub two_sibling : SlotIn left right pc next
  two_sibling = spot_in pre.spot

  module _ {child : ℕ} (got-child : Got right next child) where
    child_is : child ≡ top_of pre.tree
    child_is = got-child.is ∙ spot_far pre.spot

    pub two_detach : DetachPre left right pc root next child
    two_detach = record {
      bounded = spot_bounded pre.spot;
      low = spot_low pre.spot;
      high = spot_high pre.spot;
      child = omega (arith, got-child.top, (spot_bounded pre.spot).same_far);
    }

    module _ {left₁ right₁ pc₁ : List ℕ} {root₁ : ℕ}
        (cut : Made (detach (links left right pc root) next child) (length left) left₁ right₁ pc₁ root₁) where
      cut_is : links left₁ right₁ pc₁ root₁ ≡ drawn pre.size (plug pre.tree before)
      cut_is =
          cut.is ∙ (λ i. detach (pre.spot.held.is i) next (child_is i))
          ∙ detach_drawn rgt pre.next_color pre.tree next before pre.spot.held.sound

      pub two_replace : ReplaceWithPre left₁ right₁ pc₁ root₁ slot next
      two_replace =
          let h = left_sound pre.next_color next pre.tree pre.inner pre.color pre.other slot pre.way
          pre.spot.held.sound in
          let inner = plug pre.tree pre.inner in
          record {
            bounded = cut.bounded;
            old_low = slot_low lft pre.color pre.other slot inner pre.way h;
            old_high = omega (
              arith,
              slot_high lft pre.color pre.other slot inner pre.way h,
              long pre.spot.held,
              cut.same,
            );
            new_low = spot_low pre.spot;
            new_high = omega (arith, spot_high pre.spot, cut.same);
          }

      module _ {color : ℕ} {sibling : Option Slot} (shade : GotColor pc next color)
          (found : Sibling left right pc next sibling) (below : Option Slot) (told : SlotOrNone below child)
          {left₂ right₂ pc₂ : List ℕ} {root₂ : ℕ}
          (moved : Made (replace_in (links left₁ right₁ pc₁ root₁) slot next) (length left₁) left₂ right₂ pc₂ root₂)
        where
          pub two_finish : FinishPre left₂ right₂ pc₂ root₂ color below sibling
          two_finish =
              let h = pre.spot.held.sound in
              let mend : Mendable pre.size pre.next_color pre.tree after
              = moved_mendable pre.next_color next pre.tree pre.inner pre.color pre.other slot
              pre.way h pre.balanced in
              record {
                size = pre.size;
                lost = pre.next_color;
                tree = pre.tree;
                way = after;
                held = record {
                  is = moved.is ∙ ap (λ (z : Links). replace_in z slot next) cut_is
                      ∙ moved_drawn pre.next_color next pre.tree pre.inner pre.color pre.other slot
                      pre.way h;
                  sound = mend.sound;
                  small = pre.spot.held.small;
                };
                solid = mend.solid;
                color = shade.is ∙ spot_color pre.spot;
                child = subst (SlotOrNone below) child_is told;
                sibling = subst (SlotOrNone sibling) (ap (λ (z : Links). sibling_in z next) pre.spot.held.is
                    ∙ sibling_drawn pre.next_color leaf next pre.tree before h
                    ∙ sibling_same pre.inner pre.color slot next pre.other pre.way) (found.is root);
              }

          pub two_done : {left' right' pc' : List ℕ} {root' : ℕ}
              → Made (finish_remove (length left₂) (links left₂ right₂ pc₂ root₂) color (number below) (number sibling))
              (length left₂) left' right' pc' root'
              → Made (remove_two (length left) (links left right pc root) slot next)
              (length left) left' right' pc' root'
          unfolding remove_two
          two_done made = record {
            is = rw (
              sided_far lft left right pc root next,
              ← got-child.is,
              sided_color lft left right pc root next,
              ← shade.is,
              ← number_told sibling (found.is root),
              ← cut.is,
              ← moved.is,
              ← cut.same,
              ← moved.same,
              ← number_told below told,
            ) made.is;
            bounded = made.bounded;
            same = made.same ∙ moved.same ∙ cut.same;
          }
