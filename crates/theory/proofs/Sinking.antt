-- The steps of the climb after a removal, on a drawing. The place t hangs on the side d of q, and its sibling s has a
-- near and a far child; seen from s, q's other child is t.
use Prim.Native.Nat.{ℕ}
use mathlib.Core.Path.{◌≡◌, ap, sym, ◌∙◌}
use mathlib.Core.Bool.{true, false, true≢false}
use mathlib.Core.List.{List, [], ◌∷◌}
use native.Mathlib.Omega.{arith}
use borrow.Author.Tests.{ne_eqb}
use Rattle.model.specs.Branch.{pick}
use Rattle.model.specs.Tree.{Side, lft, rgt, Color, red, black, Tree, leaf, node, opp, on, nod, top_of, is_red, paint}
use Rattle.model.specs.Tree.{Frame, frame, plug}
use Rattle.model.specs.Removal.{root_or_red, below_black}
use Rattle.theory.specs.Sound.{Sound}
use Rattle.theory.specs.Links.{Links, drawn, child_in, red_in, set_color}
use Rattle.theory.specs.Places.{sibling_of, BlackNode, Firm}
use Rattle.theory.specs.Programs.{far_turn, near_turn, go_up, lower_at, red_turn, red_above}
use Rattle.theory.proofs.Sides.{nod_opp}
use Rattle.theory.proofs.Counts.{slot_low}
use Rattle.theory.proofs.Refill.{below_by}
use Rattle.theory.proofs.Rotating.{rotate_drawn, rotate_sound}
use Rattle.theory.proofs.Reading.{near_drawn, far_drawn, parent_drawn, color_drawn, set_pc_drawn, paint_drawn}
use Rattle.theory.proofs.Reading.{paint_sound, far_parent, paint_far_drawn, paint_far_sound, far_red_drawn}
use Rattle.theory.proofs.Reading.{near_red_drawn, side_drawn}
use Rattle.theory.proofs.Climbing.{raise_drawn, raise_sound}

-- q, with its child s, which has the colour k, and the place t on the side d
abbrev pub beside : Side → Color → Color → (near : Tree) → (s : ℕ) → (far : Tree) → (q : ℕ) → (t : Tree) → Tree
beside d c k near s far q t = nod (opp d) c (nod d k near s far) q t

-- ---- the last rotations

-- the far child is there: it becomes black, and s comes up with q's colour
pub far_turn_drawn : {C : ℕ} (d : Side) (c k : Color) (near : Tree) (s : ℕ) (j : Color) (a : Tree) (y : ℕ) (b : Tree)
    (q : ℕ)
    (t : Tree) (w : List Frame) → Sound C (plug (beside d c k near s (node j a y b) q t) w)
    → far_turn d (drawn C (plug (beside d c k near s (node j a y b) q t) w)) s q
    ≡ drawn C (plug (nod d c (nod (opp d) black near q t) s (node black a y b)) w)
unfolding far_turn
far_turn_drawn d c k near s j a y b q t w h =
    let far = node j a y b in
    let h₁ = paint_sound d k near s far (frame (opp d) c q t ∷ w) h c in
    let h₂ = paint_sound (opp d) c (nod d c near s far) q t w h₁ black in
    let h₃ = paint_far_sound d c near s j a y b (frame (opp d) black q t ∷ w) h₂ black in
    rw (
      parent_drawn d k near s far (frame (opp d) c q t ∷ w) h,
      color_drawn (opp d) c (nod d k near s far) q t w h,
      set_pc_drawn d k near s far (frame (opp d) c q t ∷ w) h c,
      paint_drawn (opp d) c (nod d c near s far) q t w h₁ black,
      far_drawn d c near s far (frame (opp d) black q t ∷ w) h₂,
      paint_far_drawn d c near s j a y b (frame (opp d) black q t ∷ w) h₂ black,
    ) (rotate_drawn d black t q c near s (node black a y b) w h₃)

-- only the near child is red: it comes up first
pub near_turn_drawn : {C : ℕ} (d : Side) (c k : Color) (a : Tree) (y : ℕ) (b : Tree) (s : ℕ) (far : Tree) (q : ℕ)
    (t : Tree)
    (w : List Frame) → Sound C (plug (beside d c k (nod d red a y b) s far q t) w)
    → near_turn d (drawn C (plug (beside d c k (nod d red a y b) s far q t) w)) s y
    ≡ drawn C (plug (nod d c (nod (opp d) black a q t) y (nod d black b s far)) w)
unfolding near_turn
near_turn_drawn d c k a y b s far q t w h =
    let v = frame (opp d) c q t ∷ w in
    let h₁ = paint_sound d red a y b (frame d k s far ∷ v) h black in
    let h₂ = paint_sound d k (nod d black a y b) s far v h₁ red in
    let h₃ = raise_sound d black a y b red s far v h₂ in
    rw (
      paint_drawn d red a y b (frame d k s far ∷ v) h black,
      paint_drawn d k (nod d black a y b) s far v h₁ red,
      raise_drawn d black a y b red s far v h₂,
      far_parent d black a y red (on d b far) s (on d far b) v h₃,
      parent_drawn d black a y (nod d red b s far) v h₃,
    ) (far_turn_drawn d c black a y red (on d b far) s (on d far b) q t w h₃)

-- ---- no rotation: q makes up for the black, or is the place of the next round

pub up_drawn : {C : ℕ} (next : Links → ℕ → Links) (e : Side) (c : Color) (s : Tree) (q : ℕ) (t : Tree) (w : List Frame)
    → Sound C (plug (nod e c s q t) w)
    → go_up next (drawn C (plug (nod e c s q t) w)) q
    ≡ pick (root_or_red c w) (drawn C (plug (nod e black s q t) w))
    (next (drawn C (plug (nod e c s q t) w)) (sibling_of w))
unfolding go_up
up_drawn next e red s q t [] h = rw (parent_drawn e red s q t [] h, set_pc_drawn e red s q t [] h black)
up_drawn next e black s q t [] h = rw (parent_drawn e black s q t [] h, set_pc_drawn e black s q t [] h black)
up_drawn next e red s q t (frame d k g u ∷ w) h =
    let z = slot_low d k (nod e red s q t) g u w h in
    rw (
      parent_drawn e red s q t (frame d k g u ∷ w) h,
      ne_eqb g 0 (λ i. omega arith),
      color_drawn e red s q t (frame d k g u ∷ w) h,
      set_pc_drawn e red s q t (frame d k g u ∷ w) h black,
    )
up_drawn next e black s q t (frame d k g u ∷ w) h =
    let z = slot_low d k (nod e black s q t) g u w h in let y = slot_low e black s q t (frame d k g u ∷ w) h in
    rw (
      parent_drawn e black s q t (frame d k g u ∷ w) h,
      ne_eqb g 0 (λ i. omega arith),
      color_drawn e black s q t (frame d k g u ∷ w) h,
      side_drawn (nod e black s q t) d k g u w y h,
      far_drawn d k (nod e black s q t) g u w h,
    )

-- ---- below a black sibling

module _ {C : ℕ} (d : Side) (c : Color) (s q : ℕ) (t : Tree) (w : List Frame) where
  far_case : (near far : Tree) → Sound C (plug (beside d c black near s far q t) w) → is_red far ≡ true
      → far_turn d (drawn C (plug (beside d c black near s far q t) w)) s q
      ≡ drawn C (plug (nod d c (nod d black t q near) s (paint black far)) w)
  far_case near leaf h is = absurd (true≢false (sym is))
  far_case near (node k a y b) h is =
      far_turn_drawn d c black near s k a y b q t w h
      ∙ ap (λ (u : Tree). drawn C (plug (nod d c u s (node black a y b)) w)) (nod_opp d black t q near)

  near_case : (a : Tree) (y : ℕ) (b far : Tree) → Sound C (plug (beside d c black (nod d red a y b) s far q t) w)
      → near_turn d (drawn C (plug (beside d c black (nod d red a y b) s far q t) w)) s y
      ≡ drawn C (plug (nod d c (nod d black t q a) y (nod d black b s far)) w)
  near_case a y b far h =
      near_turn_drawn d c black a y b s far q t w h
      ∙ ap (λ (u : Tree). drawn C (plug (nod d c u y (nod d black b s far)) w)) (nod_opp d black t q a)

  -- the two rotations, and the rest where no child of the sibling is red
  pub arms_drawn : (near far : Tree) (repeat : Tree → Tree) (rest : Links)
      → Sound C (plug (beside d c black near s far q t) w)
      → (root_or_red c w ≡ true → rest ≡ drawn C (plug (nod d black t q (nod d red near s far)) w))
      → (root_or_red c w ≡ false → rest ≡ drawn C (repeat (nod d c t q (nod d red near s far))))
      → let k = drawn C (plug (beside d c black near s far q t) w) in
      pick (red_in k (child_in (opp d) k s)) (far_turn d k s q)
      (pick (red_in k (child_in d k s)) (near_turn d k s (child_in d k s)) rest)
      ≡ drawn C (below_black d c t q (nod d black near s far) w repeat)
  arms_drawn near far repeat rest h ends goes =
      let v = frame (opp d) c q t ∷ w in let k = drawn C (plug (beside d c black near s far q t) w) in
      rw (
        far_drawn d black near s far v h,
        near_drawn d black near s far v h,
        far_red_drawn d black near s far v h,
        near_red_drawn d black near s far v h,
      )
      (below_by
      (λ u. pick (is_red far) (far_turn d k s q) (pick (is_red near) (near_turn d k s (top_of near)) rest) ≡ drawn C u)
      d c t q s far w repeat near
      (λ is. rw is (far_case near far h is))
      (λ is a y b e. rw (is, e) (near_case a y b far (rw e at h)))
      (λ near-is far-is e. rw (far-is, near-is) (ends e))
      (λ near-is far-is e. rw (far-is, near-is) (goes e)))

  module _ (next : Links → ℕ → Links) where
    none_case : (near far : Tree) → Sound C (plug (beside d c black near s far q t) w)
        → go_up next (set_color (drawn C (plug (beside d c black near s far q t) w)) s 0) q
        ≡ pick (root_or_red c w) (drawn C (plug (nod d black t q (nod d red near s far)) w))
        (next (drawn C (plug (nod d c t q (nod d red near s far)) w)) (sibling_of w))
    none_case near far h =
        rw (
          paint_drawn d black near s far (frame (opp d) c q t ∷ w) h red,
          ← nod_opp d black t q (nod d red near s far),
          ← nod_opp d c t q (nod d red near s far),
        )
        (up_drawn next (opp d) c (nod d red near s far) q t w
        (paint_sound d black near s far (frame (opp d) c q t ∷ w) h red))

    pub lower_drawn : (near far : Tree) (repeat : Tree → Tree) → Sound C (plug (beside d c black near s far q t) w)
        → (root_or_red c w ≡ false
        → next (drawn C (plug (nod d c t q (nod d red near s far)) w)) (sibling_of w)
        ≡ drawn C (repeat (nod d c t q (nod d red near s far))))
        → lower_at next d (drawn C (plug (beside d c black near s far q t) w)) s q
        ≡ drawn C (below_black d c t q (nod d black near s far) w repeat)
    unfolding lower_at
    lower_drawn near far repeat h again =
        arms_drawn near far repeat
        (go_up next (set_color (drawn C (plug (beside d c black near s far q t) w)) s 0) q) h
        (λ e. rw e at (none_case near far h)) (λ e. (rw e at (none_case near far h)) ∙ again e)

-- ---- a red sibling comes up

pub red_sound : {C : ℕ} (d : Side) (c : Color) (near : Tree) (s : ℕ) (far : Tree) (q : ℕ) (t : Tree) (w : List Frame)
    → Sound C (plug (beside d c red near s far q t) w) → Sound C (plug (nod d black (nod (opp d) red near q t) s far) w)
red_sound d c near s far q t w h =
    rotate_sound d red t q black near s far w
    (paint_sound (opp d) c (nod d black near s far) q t w
    (paint_sound d red near s far (frame (opp d) c q t ∷ w) h black) red)

pub red_turn_drawn : {C : ℕ} (d : Side) (c : Color) (near : Tree) (s : ℕ) (far : Tree) (q : ℕ) (t : Tree)
    (w : List Frame)
    → Sound C (plug (beside d c red near s far q t) w)
    → red_turn d (drawn C (plug (beside d c red near s far q t) w)) s q
    ≡ drawn C (plug (nod d black (nod (opp d) red near q t) s far) w)
unfolding red_turn
red_turn_drawn d c near s far q t w h =
    let h₁ = paint_sound d red near s far (frame (opp d) c q t ∷ w) h black in
    let h₂ = paint_sound (opp d) c (nod d black near s far) q t w h₁ red in
    rw (
      paint_drawn d red near s far (frame (opp d) c q t ∷ w) h black,
      paint_drawn (opp d) c (nod d black near s far) q t w h₁ red,
    ) (rotate_drawn d red t q black near s far w h₂)

-- its near child is the sibling then
pub red_drawn : {C : ℕ} (next : Links → ℕ → Links) (d : Side) (c : Color) (a : Tree) (y : ℕ) (b : Tree) (s : ℕ)
    (far : Tree) (q : ℕ) (t : Tree) (w : List Frame) → Sound C (plug (beside d c red (nod d black a y b) s far q t) w)
    → red_above next d (drawn C (plug (beside d c red (nod d black a y b) s far q t) w)) s q
    ≡ lower_at next d (drawn C (plug (beside d red black a y b q t) (frame d black s far ∷ w))) y q
unfolding red_above
red_drawn next d c a y b s far q t w h =
    let near = nod d black a y b in let h₁ = red_sound d c near s far q t w h in
    rw (
      red_turn_drawn d c near s far q t w h,
      near_drawn d black (nod (opp d) red near q t) s far w h₁,
      near_drawn (opp d) red near q t (frame d black s far ∷ w) h₁,
      parent_drawn d black a y b (frame (opp d) red q t ∷ frame d black s far ∷ w) h₁,
    )

-- ---- the siblings that the rules ask for

-- a black node on top, seen from a side
pub black_by : (d : Side) (P : Tree → Type 0) → ((near : Tree) (x : ℕ) (far : Tree) → P (nod d black near x far))
    → (t : Tree) → BlackNode t → P t
black_by d P some leaf o = absurd o
black_by d P some (node red l x r) o = absurd o
black_by lft P some (node black l x r) o = some l x r
black_by rgt P some (node black l x r) o = some r x l

pub firm_near : (d : Side) (near : Tree) (s : ℕ) (far : Tree) → Firm d (nod d red near s far) → BlackNode near
firm_near lft near s far o = o
firm_near rgt near s far o = o
