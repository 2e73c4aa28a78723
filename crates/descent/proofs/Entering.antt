-- place and entry: the empty place under the last node of a descent is the one where it ends.
use Prim.Native.Nat.{ℕ}
use mathlib.Core.Bool.{Bool, true, false}
use mathlib.Core.List.{List, [], ◌∷◌}
use mathlib.Core.Logic.{◌≢◌}
use mathlib.Core.Path.{◌≡◌, refl, ap, sym, ◌∙◌}
use native.Mathlib.Omega.{arith}
use lib.Dec.{ltb}
use borrow.Author.Tests.{eq-eqb, ne_eqb}
use Rattle.model.specs.Tree.{Side, lft, rgt, Tree, leaf, node, top_of, Frame, frame, plug, above, side_of}
use Rattle.model.specs.Lent.{at}
use Rattle.model.specs.Descent.{Step, left_if, Landing, descend, insert_step, insert_landing, occupied, vacant}
use Rattle.model.specs.Descent.{find_step}
use Rattle.model.specs.Descent.{find_landing, entry_at, entry_of, entry_for, find_slot}
use Rattle.theory.specs.Sound.{Sound}
use Rattle.theory.proofs.Counts.{slot_low}
use Rattle.theory.proofs.Descents.{follow_cases, descend_plug}
use Rattle.theory.proofs.Bounds.{insert_plug}
use Rattle.theory.proofs.Finds.{find_insert}
use Rattle.links.specs.declared.types.Slot.{Slot}
use Rattle.links.specs.declared.types.Side.TheVariants.{Left, Right}
use Rattle.links.specs.Sides as code
use Rattle.descent.specs.declared.types.InsertCursor.{InsertCursor}
use Rattle.descent.specs.declared.types.Met.{Met}
use Rattle.descent.specs.declared.types.Entry.TheVariants.{Occupied, Vacant}
use Rattle.descent.specs.Entries.{place_told}
use Rattle.descent.specs.Searches.{left_of, toward, FoundPlace, FoundKey, FoundEntry}
use Rattle.descent.proofs.Downward.{last_node_empty, side_if}
use Rattle.descent.proofs.Finding.{found_top}

-- ---- place

module _ (key : List ℕ) (last : Slot) (k : ℕ) where
  -- in an empty tree
  pub placed_none : last.0 ≡ 0 → FoundPlace key last.0 k (record { parent = last; side = Right })
  unfolding left_of
  placed_none none = record { parent_is = refl; side_is = rw (eq-eqb last.0 0 none) }

  -- under a node, on either side
  module _ (some : last.0 ≢ 0) {held : ℕ} (is : held ≡ at key last.0) where
    pub placed_left : ltb k held ≡ true → FoundPlace key last.0 k (record { parent = last; side = Left })
    unfolding left_of
    placed_left less = record { parent_is = refl; side_is = rw (ne_eqb last.0 0 some, ← is, less) }

    pub placed_right : ltb k held ≡ false → FoundPlace key last.0 k (record { parent = last; side = Right })
    unfolding left_of
    placed_right less = record { parent_is = refl; side_is = rw (ne_eqb last.0 0 some, ← is, less) }

-- ---- the side on which a descent ends

-- the lowest step of the way is as the comparison sends
abbrev Sent : (ℕ → Step) → List Frame → Type 0
Sent step [] = Unit {0}
Sent step (frame d c p s ∷ w) = step p ≡ toward d

sent_way : (step : ℕ → Step) (t : Tree) (w : List Frame) → Sent step w → Sent step (descend step t w).way
sent_way step leaf w e = e
sent_way step (node c l x r) w e =
    follow_cases (λ a. Sent step a.way) (step x) _ _ _
    (λ is. sent_way step l (frame lft c x r ∷ w) is) (λ is. sent_way step r (frame rgt c x l ∷ w) is) (λ is. e)

sent_side : (b : Bool) (d : Side) → left_if b ≡ toward d → side_if b ≡ d
sent_side true lft e = refl
sent_side true rgt e = cc
sent_side false lft e = cc
sent_side false rgt e = refl

module _ {C : ℕ} (key : List ℕ) (k : ℕ) where
  side_at : (w : List Frame) → Sound C (plug leaf w) → Sent (insert_step (at key) k) w
      → side_if (left_of key (above w) k) ≡ side_of w
  unfolding left_of insert_step
  side_at [] sound sent = refl
  side_at (frame d c p s ∷ w) sound sent =
      let low = slot_low d c leaf p s w sound in
      rw (ne_eqb p 0 (λ e. omega arith)) (sent_side (ltb k (at key p)) d sent)

  -- under the last node on insert's path it is insert's
  pub placed_insert : (t : Tree) {last : ℕ} {place : InsertCursor} → Sound C t
      → last ≡ above (insert_landing (at key) k t).way → FoundPlace key last k place
      → let w = (insert_landing (at key) k t).way in place_told place ≡ vacant (above w) (side_of w)
  unfolding insert_landing
  placed_insert t {last} {place} sound is q =
      let w = (insert_landing (at key) k t).way in
      let whole : Sound C (plug leaf w) = rw (insert_plug (at key) k t) sound in
      let side : code.side_of place.side ≡ side_of w
      = rw (q.side_is, is) (side_at w whole (sent_way (insert_step (at key) k) t [] tt)) in
      rw (q.parent_is, is, side)

-- ---- entry

entry_top : (u : Tree) (w : List Frame) → top_of u ≢ 0 → entry_at u w ≡ occupied (top_of u)
unfolding entry_at
entry_top leaf w some = absurd (some refl)
entry_top (node c l x r) w some = refl

-- where no slot is found the place is empty
empty_place : {C : ℕ} (key : ℕ → ℕ) (k : ℕ) (t : Tree) → Sound C t → find_slot key k t ≡ 0
    → (find_landing key k t).place ≡ leaf
unfolding find_landing
empty_place {C} key k t sound none = go (find_landing key k t).place refl
  where
    go : (u : Tree) → (find_landing key k t).place ≡ u → u ≡ leaf
    go leaf e = refl
    go (node c l x r) e =
        let w = (find_landing key k t).way in
        let h : Sound C (plug (node c l x r) w) = rw (← e, descend_plug (find_step key k) t []) sound in
        absurd (omega (arith, slot_low lft c l x r w h, none, found_top key k t, ap top_of e))

module _ {left right key : List ℕ} {root k : ℕ} {m : Met} (f : FoundKey left right key root k m) where
  -- it halts at a slot
  pub entered_occupied : m.slot.0 ≢ 0 → FoundEntry left right key root k (record {
    entry = Occupied (record { slot = m.slot });
    probes = m.probes;
  })
  unfolding entry_for entry_of
  entered_occupied some = record {
    is = λ v.
        let e = find_landing (at key) k v.tree in
        let top : m.slot.0 ≡ top_of e.place = (f.is v).slot_is ∙ found_top (at key) k v.tree in
        ap occupied top ∙ sym (entry_top e.place e.way (λ z. some (top ∙ z)));
    probes_is = λ v. (f.is v).probes_is;
  }

  -- it ends at an empty place
  pub entered_vacant : {place : InsertCursor} → m.slot.0 ≡ 0 → FoundPlace key m.last.0 k place
      → FoundEntry left right key root k (record { entry = Vacant place; probes = m.probes })
  unfolding entry_for entry_of entry_at
  entered_vacant {place} none q = record {
    is = λ v.
        let t = v.tree in
        let empty = empty_place (at key) k t v.drawing.sound (sym (f.is v).slot_is ∙ none) in
        let same = find_insert (at key) k t empty in
        let last : m.last.0 ≡ above (insert_landing (at key) k t).way
        = (f.is v).last_is ∙ last_node_empty (find_landing (at key) k t) empty
        ∙ ap (λ (e : Landing). above e.way) same in
        placed_insert key k t v.drawing.sound last q ∙ rw (empty, same);
    probes_is = λ v. (f.is v).probes_is;
  }
