-- beside: the code finds the place next to a position where the model has it.
use Prim.Native.Nat.{ℕ, ◌<◌}
use mathlib.Core.List.{List, [], ◌∷◌, reverse, Memᴰ}
use mathlib.Core.Logic.{◌⊎◌, inl, inr, ⊎_elim, ⊎_map}
use mathlib.Core.Path.{◌≡◌, refl, sym, ◌∙◌}
use native.Mathlib.Omega.{arith}
use lib.Dec.{eqb}
use borrow.Author.Tests.{eq-eqb, ne_eqb}
use Rattle.model.specs.Tree.{Side, lft, rgt, Tree, leaf, node, opp, is_leaf, top_of, slots, Frame, frame, plug}
use Rattle.model.specs.Tree.{above, side_of}
use Rattle.model.specs.Lent.{Lent, at, capacity, tree_of}
use Rattle.model.specs.Order.{first_slot, following, next_in}
use Rattle.model.specs.Descent.{vacant}
use Rattle.model.specs.Operations.{place_beside, lacks_child}
use Rattle.theory.specs.Sound.{Sound}
use Rattle.theory.specs.Lists.{facing, place_next}
use Rattle.theory.specs.Focus.{Standing}
use Rattle.theory.specs.Holds.{Holds}
use Rattle.theory.specs.Links.{links_of, children}
use Rattle.theory.specs.Places.{Drawn, Spot}
use Rattle.theory.proofs.Branch.{by-test}
use Rattle.theory.proofs.Lists.{member_reverse, sound_zero}
use Rattle.theory.proofs.Focus.{standing, place_beside_at, place_beside_none, lacks_child_at, lacks_child_none}
use Rattle.theory.proofs.Counts.{slot_low}
use Rattle.theory.proofs.Sides.{opp_opp}
use Rattle.theory.proofs.Places.{drawn_sided, bounded, long, spot_near}
use Rattle.theory.proofs.Holds.{well_holds}
use Rattle.theory.proofs.HoldsDrawn.{holds_drawn}
use Rattle.links.specs.Reads.{Got}
use Rattle.descent.specs.declared.types.InsertCursor.{InsertCursor}
use Rattle.links.specs.Sides as sides
use Rattle.links.specs.declared.types.Side as code
use Rattle.descent.specs.Entries.{place_told}
use Rattle.placing.specs.Positions.{Stands}
use Rattle.placing.specs.Places.{At, beside_at, BesidePre, FoundBeside}
use Rattle.placing.proofs.Positions.{slot_high}

-- ---- beside: there is no position, it has no child on that side, or it has one

-- the place on a side of a slot
abbrev place_on : ℕ → code.Side → InsertCursor
place_on s side = record { parent = record { 0 = s }; side = side }

module _ {links : List ℕ} {p n : ℕ} (side : code.Side) where
  pub beside_front : p ≡ 0 → FoundBeside links p n (sides.side_of side) (place_on n side)
  unfolding beside_at
  beside_front e = record { is = rw (eq-eqb p 0 e) }

  module _ {child : ℕ} (some : p ≡ 0 → ⊥) (got : Got links p child) where
    pub beside_lacking : {other : code.Side} → child ≡ 0 → sides.side_of other ≡ opp (sides.side_of side)
        → FoundBeside links p n (sides.side_of side) (place_on p other)
    unfolding beside_at
    beside_lacking e o = record { is = rw (ne_eqb p 0 some, ← got.is, eq-eqb child 0 e, o) }

    pub beside_child : (child ≡ 0 → ⊥) → FoundBeside links p n (sides.side_of side) (place_on n side)
    unfolding beside_at
    beside_child apart = record { is = rw (ne_eqb p 0 some, ← got.is, ne_eqb child 0 apart) }

-- ---- the place beside a slot

-- a list has what stands first in it, follows a slot, or is next to a position; or there is none
first_in : (L : List ℕ) → (first_slot L ≡ 0) ⊎ Memᴰ (first_slot L) L
first_in [] = inl refl
first_in (x ∷ L) = inr (Memᴰ.head refl)

following_in : (p : ℕ) (L : List ℕ) → (following p L ≡ 0) ⊎ Memᴰ (following p L) L
following_in p [] = inl refl
following_in p (x ∷ L) =
    by-test (eqb p x)
    (λ e. rw e (⊎_map (λ none. none) (λ here. Memᴰ.tail here) (first_in L)))
    (λ e. rw e (⊎_map (λ none. none) (λ here. Memᴰ.tail here) (following_in p L)))

next_in_lem : (p : ℕ) (L : List ℕ) → (next_in p L ≡ 0) ⊎ Memᴰ (next_in p L) L
unfolding next_in
next_in_lem p L = by-test (eqb p 0) (λ e. rw e (first_in L)) (λ e. rw e (following_in p L))

pub next_slot : (d : Side) (p : ℕ) (t : Tree)
    → (next_in p (facing d (slots t)) ≡ 0) ⊎ Memᴰ (next_in p (facing d (slots t))) (slots t)
next_slot lft p t =
    ⊎_map (λ none. none) (λ here. member_reverse (next_in p (reverse (slots t))) (slots t) here)
    (next_in_lem p (reverse (slots t)))
next_slot rgt p t = next_in_lem p (slots t)

-- below a slot, on the side; and where there is no slot, at the root
beside_there : {C : ℕ} (d : Side) (s : ℕ) (t : Tree) → Sound C t → (s ≡ 0) ⊎ Memᴰ s (slots t)
    → (above (place_beside d s t) ≡ s) × (0 < s → side_of (place_beside d s t) ≡ d)
beside_there d s t sound (inl e) =
    rw (e, place_beside_none d 0 t (sound_zero sound)) (refl, λ low. absurd (omega arith))
beside_there d s t sound (inr here) = go (standing d s t here)
  where
    go : Standing d s t → (above (place_beside d s t) ≡ s) × (0 < s → side_of (place_beside d s t) ≡ d)
    go v =
        rw (← v.whole, place_beside_at d v.color v.near s v.far v.way (rw (← v.whole) at sound))
        (refl, λ _. refl)

at_beside : {C : ℕ} {place : InsertCursor} (d : Side) (s : ℕ) (t : Tree) → Sound C t
    → (s ≡ 0) ⊎ Memᴰ s (slots t) → place_told place ≡ vacant s d → At place (place_beside d s t)
at_beside {place = place} d s t sound here e =
    let there = beside_there d s t sound here in
    let parent : place.parent.0 ≡ s = cc in
    let side : sides.side_of place.side ≡ d = cc in
    record {
      parent_is = parent ∙ sym there.0;
      side_is = λ low. side ∙ sym (there.1 (rw there.0 at low));
    }

-- ---- the place next to a position

-- a missing child has the number 0
leaf_top : {C : ℕ} (near : Tree) (w : List Frame) → Sound C (plug near w) → is_leaf near ≡ eqb (top_of near) 0
leaf_top leaf w sound = refl
leaf_top (node c l x r) w sound = sym (ne_eqb x 0 (λ e. omega (arith, slot_low lft c l x r w sound)))

module _ {m : Lent} {t : Tree} (h : Holds m t) where
  -- lent numbers that hold a tree, seen from a side
  holds_sided : (d : Side) → Drawn d (children d (links_of m)) (children (opp d) (links_of m)) m.arrays.pc m.root
      (capacity m.arrays) t
  holds_sided d = drawn_sided d (holds_drawn h)

  lacks : (d : Side) (p : ℕ) → Memᴰ p (slots t)
      → lacks_child d p t ≡ eqb (at (children d (links_of m)) p) 0
  lacks d p here = go (standing d p t here)
    where
      go : Standing d p t → lacks_child d p t ≡ eqb (at (children d (links_of m)) p) 0
      go v =
          let spot : Spot d (children d (links_of m)) (children (opp d) (links_of m)) m.arrays.pc m.root
          (capacity m.arrays) d v.color v.near p v.far v.way
          = record { held = rw (← v.whole) at (holds_sided d) } in
          let sound = spot.held.sound in
          rw (spot_near spot, ← v.whole, lacks_child_at d v.color v.near p v.far v.way sound)
          (leaf_top v.near (frame d v.color p v.far ∷ v.way) sound)

-- what a call of beside asks for
pub beside_pre : (d : Side) {m : Lent} {p : ℕ} → Stands m p → BesidePre (children d (links_of m)) p
beside_pre d {m} {p} v =
    let held = holds_sided (well_holds m v.well) d in
    record { top = omega (arith, slot_high p v.well v.here, long held); below = (bounded held).near_below }

-- the place that it tells is the one next to the position
pub beside_at_lem : (d : Side) {m : Lent} {p n : ℕ} {place : InsertCursor} → Stands m p
    → n ≡ next_in p (facing d (slots (tree_of m))) → place_told place ≡ beside_at (children d (links_of m)) p n (opp d)
    → At place (place_next d p (tree_of m))
unfolding place_next beside_at
beside_at_lem d {m} {p} {n} {place} v next e =
    let t = tree_of m in
    let h = well_holds m v.well in
    let far : place_told place ≡ vacant n (opp d) → At place (place_beside (opp d) (next_in p (facing d (slots t))) t)
    = λ told. at_beside (opp d) _ t h.sound (next_slot d p t) (rw (← next) told) in
    ⊎_elim
    (λ zero.
    rw (lacks_child_none d p t (λ here. sound_zero h.sound (rw zero at here)))
    (far (e ∙ rw (eq-eqb p 0 zero))))
    (λ here.
    let some : p ≡ 0 → ⊥ = λ zero. sound_zero h.sound (rw zero at here) in
    by-test (eqb (at (children d (links_of m)) p) 0)
    (λ none. rw (lacks h d p here, none)
    (at_beside d p t h.sound (inr here) (e ∙ rw (ne_eqb p 0 some, none, opp_opp d))))
    (λ child. rw (lacks h d p here, child) (far (e ∙ rw (ne_eqb p 0 some, child)))))
    v.here
