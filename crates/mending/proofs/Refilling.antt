-- post_remove: a turn of its loop paints the sibling red and goes up, and the drawing to be reached stays the same.
use Prim.Native.Nat.{ℕ, ◌<◌}
use mathlib.Core.Bool.{true, false}
use mathlib.Core.List.{List, [], ◌∷◌}
use mathlib.Core.Path.{◌≡◌, refl, sym, ap, ◌∙◌}
use lib.ListN.{length}
use native.Mathlib.Omega.{arith}
use Rattle.std.specs.Prelude.{Some, None}
use Rattle.model.specs.Branch.{pick}
use Rattle.model.specs.Tree.{lft, red, Tree, nod, top_of, paint, Frame, frame, plug}
use Rattle.model.specs.Removal.{refill}
use Rattle.theory.specs.Slots.{ups}
use Rattle.theory.specs.Links.{Links, links, drawn, set_color}
use Rattle.theory.specs.Programs.{post_remove}
use Rattle.theory.specs.Rounds.{sink_end, passes}
use Rattle.theory.specs.Places.{sibling_of, Drawn, Solid, Made}
use Rattle.theory.proofs.Branch.{by-test}
use Rattle.theory.proofs.Sided.{sided_set_color}
use Rattle.theory.proofs.Refilling.{sink_drawn}
use Rattle.theory.proofs.Rounds.{passes_tests, refill_pass, sink_end_drawn}
use Rattle.theory.proofs.Depth.{sound_deep, spot_ups}
use Rattle.theory.proofs.Places.{long, spot_low, spot_parent, spot_up}
use Rattle.links.specs.declared.types.Slot.{Slot}
use Rattle.links.specs.Writes.{SetColorPre, SetColor}
use Rattle.links.proofs.Spots.{spot_in, in_set_color}
use Rattle.mending.specs.Passes.{pass_in, PassPre, Passed}
use Rattle.mending.specs.Climbs.{Lacking, path, SinkEndPre}
use Rattle.mending.proofs.Ending.{lack_beside}
use Rattle.mending.proofs.Passes.{pass_drawn, red_sibling, next_low}

-- ---- where the climb stands

-- the arrays after it
abbrev refilled : {left right pc : List ℕ} {root slot : ℕ} → Lacking left right pc root slot → Links
refilled lack = drawn lack.size (refill lack.place (path lack))

refilled_is : {left right pc : List ℕ} {root slot : ℕ} (lack : Lacking left right pc root slot)
    → post_remove (length left) (links left right pc root) slot ≡ refilled lack
refilled_is {left} {right} {pc} {root} lack =
    rw lack.is (ap (λ (z : Links). post_remove (length left) z (top_of lack.sibling)) lack.held.is
    ∙ sink_drawn (length left) lack.place (path lack) refl
    (omega (arith, sound_deep lack.place (path lack) lack.held.sound, long lack.held)) lack.solid
    lack.held.sound)

-- the place at the end of the way lacks a black node, and the slot is its sibling
pub record Onward (left right pc : List ℕ) (root size : ℕ) (place : Tree) (way : List Frame) (slot : ℕ) : Type 0 where
  pub lacking : Lacking left right pc root slot
  pub same : refilled lacking ≡ drawn size (refill place way)
  pub steps : length (path lacking) ≡ length way

pub onward : {left right pc : List ℕ} {root size : ℕ} (place : Tree) (way : List Frame) (slot : ℕ)
    → Drawn lft left right pc root size (plug place way) → Solid way → slot ≡ sibling_of way → (slot ≡ 0 → ⊥)
    → Onward left right pc root size place way slot
onward place [] slot held solid is some = absurd (some is)
onward {size = size} place (frame side color parent sibling ∷ way) slot held solid is some = record {
  lacking = record {
    size = size;
    place = place;
    side = side;
    color = color;
    parent = parent;
    sibling = sibling;
    way = way;
    held = held;
    solid = solid;
    is = is;
  };
  same = refl;
  steps = refl;
}

-- ---- post_remove

-- the loop's invariant, and its measure: the steps from the sibling up to the root
pub record Refilling (left right pc : List ℕ) (root slot : ℕ) (pc' : List ℕ) (here : ℕ) : Type 0 where
  pub lacking : Lacking left right pc' root here
  pub same : refilled lacking ≡ post_remove (length left) (links left right pc root) slot
  pub long : length pc' ≡ length pc

abbrev pub steps_left : (left pc : List ℕ) → (here : ℕ) → ℕ
steps_left left pc here = ups (length left) pc here

pub refill_start : {left right pc : List ℕ} {root slot : ℕ} → Lacking left right pc root slot
    → Refilling left right pc root slot pc slot
refill_start lack = record { lacking = lack; same = sym (refilled_is lack); long = refl }

module _ {left right pc pc₁ : List ℕ} {root slot here : ℕ} (inv : Refilling left right pc root slot pc₁ here) where
  lack : Lacking left right pc₁ root here
  lack = inv.lacking

  pub refill_asked : PassPre left right pc₁ here
  refill_asked =
      let spot = (lack_beside lack).spot in
      record { slot = spot_in spot; parent = rw (spot_parent spot) (spot_low (spot_up spot)) }

  pub refill_color : SetColorPre pc₁ here
  refill_color = in_set_color (spot_in (lack_beside lack).spot)

  pass_is : pass_in (links left right pc₁ root) here ≡ pick (passes (path lack)) (sibling_of lack.way) 0
  pass_is = (λ i. pass_in (lack.held.is i) (lack.is i))
      ∙ pass_drawn lack.side lack.color lack.parent lack.place lack.way lack.sibling lack.solid.0 lack.held.sound

  -- the climb ends here
  module _ (told : Passed left right pc₁ here None) where
    last : passes (path lack) ≡ false
    last = by-test (passes (path lack))
        (λ is.
        let low = next_low (nod lack.side lack.color lack.place lack.parent lack.sibling) lack.color
        lack.way (passes_tests lack.side lack.color lack.parent lack.sibling lack.way is).2
        lack.solid.1 lack.held.sound in
        let same : 0 ≡ sibling_of lack.way = sym (told.is root) ∙ pass_is ∙ rw is refl in
        absurd (omega arith))
        (λ is. is)

    pub refill_last : SinkEndPre left right pc₁ root here
    refill_last = record { lacking = lack; last = last }

    pub refill_done : {left' right' pc' : List ℕ} {root' : ℕ}
        → Made (sink_end (links left right pc₁ root) here) (length left) left' right' pc' root'
        → Made (post_remove (length left) (links left right pc root) slot) (length left) left' right' pc' root'
    unfolding lack
    refill_done made =
        let ended : sink_end (links left right pc₁ root) here ≡ refilled lack
        = (λ i. sink_end (lack.held.is i) (lack.is i))
        ∙ sink_end_drawn lack.side lack.color lack.parent lack.sibling lack.place lack.way last
        lack.solid.0 lack.held.sound in
        record { is = made.is ∙ ended ∙ inv.same; bounded = made.bounded; same = made.same }

  -- it goes on at the next sibling
  module _ {next : Slot} (told : Passed left right pc₁ here (Some next)) where
    next_is : next.0 ≡ pick (passes (path lack)) (sibling_of lack.way) 0
    next_is = (told.is root).1 ∙ pass_is

    some : next.0 ≡ 0 → ⊥
    some e = omega (arith, (told.is root).0)

    module _ {pc₂ : List ℕ} (painted : SetColor pc₁ here 0 pc₂) where
      goes : passes (path lack) ≡ true
      goes = by-test (passes (path lack)) (λ is. is) (λ is. absurd (some (next_is ∙ rw is refl)))

      raised : Tree
      raised = nod lack.side lack.color lack.place lack.parent (paint red lack.sibling)

      gone : Onward left right pc₂ root lack.size raised lack.way next.0
      unfolding raised
      gone =
          let red = red_sibling lack.side lack.color lack.parent lack.place lack.way lack.sibling
          lack.solid.0 lack.held.sound in
          onward raised lack.way next.0
          (record {
            is = ap (λ (p : List ℕ). links left right p root) painted.is
                ∙ sym (sided_set_color lft left right pc₁ root here 0)
                ∙ (λ i. set_color (lack.held.is i) (lack.is i) 0) ∙ red.0;
            sound = red.1;
            small = lack.held.small;
          })
          lack.solid.1 (next_is ∙ rw goes refl) some

      pub refill_on : Refilling left right pc root slot pc₂ next.0
      unfolding lack raised
      refill_on = record {
        lacking = gone.lacking;
        same = gone.same
            ∙ ap (drawn lack.size)
            (sym (refill_pass lack.side lack.color lack.parent lack.sibling lack.way lack.place goes))
            ∙ inv.same;
        long = painted.same ∙ inv.long;
      }

      pub refill_less : steps_left left pc₂ next.0 < steps_left left pc₁ here
      refill_less =
          omega (arith, gone.steps, spot_ups (lack_beside gone.lacking).spot, spot_ups (lack_beside lack).spot)
