-- The climb after a removal, whole: the loop on a drawing draws what `refill` gives.
use Prim.Native.Nat.{ℕ, zero, suc, ◌≤◌}
use mathlib.Core.Path.{◌≡◌, ◌∙◌}
use mathlib.Core.Bool.{false, true≢false}
use mathlib.Core.List.{List, [], ◌∷◌}
use native.Mathlib.Omega.{arith}
use lib.Dec.{eqb}
use lib.ListN.{length}
use Rattle.model.specs.Branch.{pick}
use Rattle.model.specs.Tree.{Side, Color, red, black, Tree, opp, nod, top_of, Frame, frame, plug}
use Rattle.model.specs.Lent.{color_code}
use Rattle.model.specs.Removal.{root_or_red, refill}
use Rattle.theory.specs.Sound.{Sound}
use Rattle.theory.specs.Links.{Links, drawn}
use Rattle.theory.specs.Places.{sibling_of, Firm, Solid}
use Rattle.theory.specs.Programs.{lower_at, red_above, post_remove}
use Rattle.theory.proofs.Sides.{opp_opp, nod_opp, by_side}
use Rattle.theory.proofs.Counts.{slot_low}
use Rattle.theory.proofs.Refill.{refill_red, refill_black}
use Rattle.theory.proofs.Reading.{parent_drawn, color_drawn, paint_sound, side_drawn}
use Rattle.theory.proofs.Sinking.{beside, lower_drawn, red_sound, red_drawn, black_by, firm_near}

abbrev again : (n : ℕ) → Links → ℕ → Links
again n k s = post_remove n k s

-- the first test of a round
round : {C : ℕ} (n : ℕ) (d : Side) (c k : Color) (near : Tree) (s : ℕ) (far : Tree) (q : ℕ) (t : Tree) (w : List Frame)
    → Sound C (plug (beside d c k near s far q t) w)
    → let m = drawn C (plug (beside d c k near s far q t) w) in
    post_remove (suc n) m s ≡ pick (eqb (color_code k) 0) (red_above (again n) d m s q) (lower_at (again n) d m s q)
unfolding post_remove
round n d c k near s far q t w h =
    let v = frame (opp d) c q t ∷ w in let low = slot_low d k near s far v h in
    rw (
      parent_drawn d k near s far v h,
      side_drawn (nod d k near s far) (opp d) c q t w low h,
      opp_opp d,
      color_drawn d k near s far v h,
    )

-- the sibling painted red: the tree of the next round
pub none_sound : {C : ℕ} (d : Side) (c : Color) (near : Tree) (s : ℕ) (far : Tree) (q : ℕ) (t : Tree) (w : List Frame)
    → Sound C (plug (beside d c black near s far q t) w) → Sound C (plug (nod d c t q (nod d red near s far)) w)
none_sound d c near s far q t w h =
    rw (← nod_opp d c t q (nod d red near s far)) (paint_sound d black near s far (frame (opp d) c q t ∷ w) h red)

module _ {C : ℕ} (n : ℕ) (d : Side) (c : Color) (q : ℕ) (t : Tree) (w : List Frame) where
  sink_black : (near : Tree) (s : ℕ) (far : Tree) → Sound C (plug t (frame d c q (nod d black near s far) ∷ w))
      → ((u : Tree) → Sound C (plug u w) → root_or_red c w ≡ false
      → post_remove n (drawn C (plug u w)) (sibling_of w) ≡ drawn C (refill u w))
      → post_remove (suc n) (drawn C (plug t (frame d c q (nod d black near s far) ∷ w))) s
      ≡ drawn C (refill t (frame d c q (nod d black near s far) ∷ w))
  sink_black near s far h go =
      let h' : Sound C (plug (beside d c black near s far q t) w) = rw (nod_opp d c t q (nod d black near s far)) h in
      rw (← nod_opp d c t q (nod d black near s far), refill_black t d c q near s far w)
      (round n d c black near s far q t w h'
      ∙ lower_drawn d c s q t w (again n) near far (λ u. refill u w) h'
      (go (nod d c t q (nod d red near s far)) (none_sound d c near s far q t w h')))

  sink_red : (a : Tree) (y : ℕ) (b : Tree) (s : ℕ) (far : Tree)
      → Sound C (plug t (frame d c q (nod d red (nod d black a y b) s far) ∷ w))
      → post_remove (suc n) (drawn C (plug t (frame d c q (nod d red (nod d black a y b) s far) ∷ w))) s
      ≡ drawn C (refill t (frame d c q (nod d red (nod d black a y b) s far) ∷ w))
  sink_red a y b s far h =
      let near = nod d black a y b in
      let h' : Sound C (plug (beside d c red near s far q t) w) = rw (nod_opp d c t q (nod d red near s far)) h in
      rw (← nod_opp d c t q (nod d red near s far), refill_red t d c q near s far w)
      (round n d c red near s far q t w h'
      ∙ red_drawn (again n) d c a y b s far q t w h'
      ∙ lower_drawn d red y q t (frame d black s far ∷ w) (again n) a b (λ u. u) (red_sound d c near s far q t w h')
      (λ goes. absurd (true≢false goes)))

  -- either sibling, as the rules ask for it
  sink_sibling : (k : Color) (near : Tree) (s : ℕ) (far : Tree) → Firm d (nod d k near s far)
      → ((u : Tree) → Sound C (plug u w) → root_or_red c w ≡ false
      → post_remove n (drawn C (plug u w)) (sibling_of w) ≡ drawn C (refill u w))
      → Sound C (plug t (frame d c q (nod d k near s far) ∷ w))
      → post_remove (suc n) (drawn C (plug t (frame d c q (nod d k near s far) ∷ w))) s
      ≡ drawn C (refill t (frame d c q (nod d k near s far) ∷ w))
  sink_sibling black near s far o go h = sink_black near s far h go
  sink_sibling red near s far o go h = black_by d
      (λ near. Sound C (plug t (frame d c q (nod d red near s far) ∷ w))
      → post_remove (suc n) (drawn C (plug t (frame d c q (nod d red near s far) ∷ w))) s
      ≡ drawn C (refill t (frame d c q (nod d red near s far) ∷ w)))
      (λ a y b. sink_red a y b s far) near (firm_near d near s far o) h

-- a way that isn't at its end under a black q goes on
goes_on : (c : Color) (w : List Frame) → root_or_red c w ≡ false → root_or_red black w ≡ false
goes_on red w goes = absurd (true≢false goes)
goes_on black w goes = goes

-- the loop draws what `refill` gives, where the siblings are as the rules ask for
pub sink_drawn : {C : ℕ} (n : ℕ) (t : Tree) (w : List Frame) → root_or_red black w ≡ false → length w ≤ n → Solid w
    → Sound C (plug t w) → post_remove n (drawn C (plug t w)) (sibling_of w) ≡ drawn C (refill t w)
sink_drawn n t [] goes le o h = absurd (true≢false goes)
sink_drawn zero t (f ∷ w) goes le o h = absurd (omega arith)
sink_drawn {C} (suc n) t (frame d c q s ∷ w) goes le o h = by_side d
    (λ s. Firm d s → Sound C (plug t (frame d c q s ∷ w))
    → post_remove (suc n) (drawn C (plug t (frame d c q s ∷ w))) (top_of s) ≡ drawn C (refill t (frame d c q s ∷ w)))
    (λ none. absurd none)
    (λ k near y far firm. sink_sibling n d c q t w k near y far firm
    (λ u u-sound up. sink_drawn n u w (goes_on c w up) (omega arith) o.1 u-sound))
    s o.0 h
