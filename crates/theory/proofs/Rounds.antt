-- The climb after a removal, round by round: where the missing black is passed up the tree to be reached stays the
-- same, and where it isn't the last round draws that tree.
use Prim.Native.Nat.{ℕ}
use mathlib.Core.Path.{◌≡◌, refl, ap, sym, ◌∙◌}
use mathlib.Core.Bool.{Bool, true, false, true≢false}
use mathlib.Core.List.{List, ◌∷◌}
use lib.Dec.{eqb}
use Rattle.model.specs.Branch.{pick}
use Rattle.model.specs.Tree.{Side, Color, red, black, Tree, opp, nod, top_of, is_red, paint, Frame, frame, plug}
use Rattle.model.specs.Lent.{color_code}
use Rattle.model.specs.Removal.{red_child, root_or_red, below_black, refill}
use Rattle.theory.specs.Sound.{Sound}
use Rattle.theory.specs.Links.{drawn, set_color}
use Rattle.theory.specs.Places.{BlackNode, Firm}
use Rattle.theory.specs.Rounds.{lower_end, red_end, sink_at, sink_end, passes}
use Rattle.theory.proofs.Branch.{by-test}
use Rattle.theory.proofs.Sides.{opp_opp, nod_opp, by_side}
use Rattle.theory.proofs.Counts.{slot_low}
use Rattle.theory.proofs.Refill.{refill_red, refill_black}
use Rattle.theory.proofs.Reading.{near_drawn, parent_drawn, color_drawn, paint_drawn, paint_sound, side_drawn}
use Rattle.theory.proofs.Sinking.{beside, arms_drawn, red_sound, red_turn_drawn, black_by, firm_near}

-- ---- passing up

module _ (d : Side) (c : Color) (q : ℕ) (s : Tree) (w : List Frame) where
  -- what the test tells
  pub passes_tests : passes (frame d c q s ∷ w) ≡ true
      → (is_red s ≡ false) × (red_child s ≡ false) × (root_or_red c w ≡ false)
  unfolding passes
  passes_tests = go (is_red s) (red_child s) (root_or_red c w)
    where
      go : (i j k : Bool) → pick i false (pick j false (pick k false true)) ≡ true
          → (i ≡ false) × (j ≡ false) × (k ≡ false)
      go true j k e = absurd (true≢false (sym e))
      go false true k e = absurd (true≢false (sym e))
      go false false true e = absurd (true≢false (sym e))
      go false false false e = (refl, refl, refl)

  -- the sibling becomes red, and q's place is next
  pub refill_pass : (t : Tree) → passes (frame d c q s ∷ w) ≡ true
      → refill t (frame d c q s ∷ w) ≡ refill (nod d c t q (paint red s)) w
  unfolding refill below_black
  refill_pass t e = let h = passes_tests e in rw (h.0, h.1, h.2)

  -- where it fails at a black sibling, a child of that is red or q makes up for the black
  passes_not : is_red s ≡ false → passes (frame d c q s ∷ w) ≡ false → red_child s ≡ false → root_or_red c w ≡ true
  unfolding passes
  passes_not is e none =
      by-test (root_or_red c w) (λ ends. ends) (λ goes. absurd (true≢false (rw (is, none, goes) at e)))

  -- then it doesn't matter what a further round would do
  below_last : (t : Tree) (f g : Tree → Tree) → (red_child s ≡ false → root_or_red c w ≡ true)
      → below_black d c t q s w f ≡ below_black d c t q s w g
  unfolding below_black
  below_last t f g last = by-test (red_child s) (λ is. rw is) (λ is. rw (is, last is))

-- ---- the last round

module _ {C : ℕ} (d : Side) (c : Color) (s q : ℕ) (t : Tree) (w : List Frame) where
  none_end : (near far : Tree) → Sound C (plug (beside d c black near s far q t) w)
      → set_color (set_color (drawn C (plug (beside d c black near s far q t) w)) s 0) q 1
      ≡ drawn C (plug (nod d black t q (nod d red near s far)) w)
  none_end near far h =
      rw (
        paint_drawn d black near s far (frame (opp d) c q t ∷ w) h red,
        ← nod_opp d black t q (nod d red near s far),
      )
      (paint_drawn (opp d) c (nod d red near s far) q t w
      (paint_sound d black near s far (frame (opp d) c q t ∷ w) h red) black)

  -- at a black sibling: as if q made up for the black in any case
  pub lower_end_drawn : (near far : Tree) → Sound C (plug (beside d c black near s far q t) w)
      → lower_end d (drawn C (plug (beside d c black near s far q t) w)) s q
      ≡ drawn C (below_black d c t q (nod d black near s far) w (λ u. plug (paint black u) w))
  unfolding lower_end
  lower_end_drawn near far h =
      arms_drawn d c s q t w near far (λ u. plug (paint black u) w)
      (set_color (set_color (drawn C (plug (beside d c black near s far q t) w)) s 0) q 1) h
      (λ _. none_end near far h) (λ _. none_end near far h)

-- at a red one
pub red_end_drawn : {C : ℕ} (d : Side) (c : Color) (a : Tree) (y : ℕ) (b : Tree) (s : ℕ) (far : Tree) (q : ℕ) (t : Tree)
    (w : List Frame) → Sound C (plug (beside d c red (nod d black a y b) s far q t) w)
    → red_end d (drawn C (plug (beside d c red (nod d black a y b) s far q t) w)) s q
    ≡ drawn C (refill t (frame d c q (nod d red (nod d black a y b) s far) ∷ w))
unfolding red_end
red_end_drawn {C} d c a y b s far q t w h =
    let near = nod d black a y b in
    let h₁ = red_sound d c near s far q t w h in
    rw (
      red_turn_drawn d c near s far q t w h,
      near_drawn d black (nod (opp d) red near q t) s far w h₁,
      near_drawn (opp d) red near q t (frame d black s far ∷ w) h₁,
      parent_drawn d black a y b (frame (opp d) red q t ∷ frame d black s far ∷ w) h₁,
      refill_red t d c q near s far w,
    )
    (lower_end_drawn d red y q t (frame d black s far ∷ w) a b h₁
    ∙ ap (drawn C) (below_last d red q near (frame d black s far ∷ w) t _ _ (λ _. refl)))

-- the round at the sibling of a place, whichever it is
module _ {C : ℕ} (d : Side) (c : Color) (q : ℕ) (t : Tree) (w : List Frame) where
  round_end : (k : Color) (near : Tree) (s : ℕ) (far : Tree) → Sound C (plug (beside d c k near s far q t) w)
      → let m = drawn C (plug (beside d c k near s far q t) w) in
      sink_end m s ≡ pick (eqb (color_code k) 0) (red_end d m s q) (lower_end d m s q)
  unfolding sink_end sink_at
  round_end k near s far h =
      let v = frame (opp d) c q t ∷ w in let low = slot_low d k near s far v h in
      rw (
        parent_drawn d k near s far v h,
        side_drawn (nod d k near s far) (opp d) c q t w low h,
        opp_opp d,
        color_drawn d k near s far v h,
      )

  end_black : (near : Tree) (s : ℕ) (far : Tree) → passes (frame d c q (nod d black near s far) ∷ w) ≡ false
      → Sound C (plug (beside d c black near s far q t) w)
      → sink_end (drawn C (plug (beside d c black near s far q t) w)) s
      ≡ drawn C (refill t (frame d c q (nod d black near s far) ∷ w))
  end_black near s far last h =
      round_end black near s far h ∙ lower_end_drawn d c s q t w near far h
      ∙ ap (drawn C) (below_last d c q (nod d black near s far) w t _ _
      (passes_not d c q (nod d black near s far) w refl last) ∙ sym (refill_black t d c q near s far w))

  end_red : (near : Tree) (s : ℕ) (far : Tree) → BlackNode near → Sound C (plug (beside d c red near s far q t) w)
      → sink_end (drawn C (plug (beside d c red near s far q t) w)) s
      ≡ drawn C (refill t (frame d c q (nod d red near s far) ∷ w))
  end_red near s far o h = round_end red near s far h ∙ black_by d
      (λ near. Sound C (plug (beside d c red near s far q t) w)
      → red_end d (drawn C (plug (beside d c red near s far q t) w)) s q
      ≡ drawn C (refill t (frame d c q (nod d red near s far) ∷ w)))
      (λ a y b. red_end_drawn d c a y b s far q t w) near o h

  end_sibling : (k : Color) (near : Tree) (s : ℕ) (far : Tree) → passes (frame d c q (nod d k near s far) ∷ w) ≡ false
      → Firm d (nod d k near s far) → Sound C (plug (beside d c k near s far q t) w)
      → sink_end (drawn C (plug (beside d c k near s far q t) w)) s
      ≡ drawn C (refill t (frame d c q (nod d k near s far) ∷ w))
  end_sibling black near s far last o h = end_black near s far last h
  end_sibling red near s far last o h = end_red near s far (firm_near d near s far o) h

-- the last round draws the tree that the climb is to reach
pub sink_end_drawn : {C : ℕ} (d : Side) (c : Color) (q : ℕ) (s t : Tree) (w : List Frame)
    → passes (frame d c q s ∷ w) ≡ false → Firm d s → Sound C (plug t (frame d c q s ∷ w))
    → sink_end (drawn C (plug t (frame d c q s ∷ w))) (top_of s) ≡ drawn C (refill t (frame d c q s ∷ w))
sink_end_drawn {C} d c q s t w = by_side d
    (λ s. passes (frame d c q s ∷ w) ≡ false → Firm d s → Sound C (plug t (frame d c q s ∷ w))
    → sink_end (drawn C (plug t (frame d c q s ∷ w))) (top_of s) ≡ drawn C (refill t (frame d c q s ∷ w)))
    (λ last none. absurd none)
    (λ k near x far last firm h. rw (← nod_opp d c t q (nod d k near x far))
    (end_sibling d c q t w k near x far last firm (rw (nod_opp d c t q (nod d k near x far)) h))) s
