-- A removal from a drawing draws the tree that `take_out` gives.
use Prim.Native.Nat.{ℕ, suc, ◌+◌, ◌≤◌}
use mathlib.Core.Path.{◌≡◌, refl, ap, sym, ◌∙◌}
use mathlib.Core.List.{List, [], ◌∷◌, ◌++◌}
use native.Mathlib.Omega.{arith}
use lib.ListN.{length, length-append}
use borrow.Author.Tests.{ne_eqb}
use Rattle.model.specs.Tree.{Side, lft, rgt, Color, red, black, Tree, leaf, node, on, nod, top_of, slots, Frame, frame}
use Rattle.model.specs.Tree.{plug}
use Rattle.model.specs.Lent.{color_code}
use Rattle.model.specs.Removal.{first_of, focus_on, refill, mend, mend_splice, take_out}
use Rattle.model.specs.Order.{first_slot}
use Rattle.theory.specs.Balance.{tint, Allowed, blacks, Balanced, height}
use Rattle.theory.specs.Sound.{count, Sound}
use Rattle.theory.specs.Links.{drawn}
use Rattle.theory.specs.Places.{sibling_of, BlackNode, Firm, Solid}
use Rattle.theory.specs.Programs.{sibling_in, replace_in, finish_remove, remove_one, remove_two, remove_at}
use Rattle.theory.proofs.Counts.{one_same, count_plug, slot_low, slot_high}
use Rattle.theory.proofs.Balance.{Ranked, Around, ranked_parts, unplug}
use Rattle.theory.proofs.Removal.{plug_append, first_plug}
use Rattle.theory.proofs.RemovalBalance.{renamed_balanced}
use Rattle.theory.proofs.Positions.{first_facing}
use Rattle.theory.proofs.Reading.{near_drawn, far_drawn, parent_drawn, color_drawn, paint_drawn, far_low}
use Rattle.theory.proofs.Reading.{side_drawn}
use Rattle.theory.proofs.Replacing.{detach_drawn, detach_sound, replace_drawn, replace_sound}
use Rattle.theory.proofs.Refilling.{sink_drawn}
use Rattle.theory.proofs.Walking.{end_drawn}

-- ---- the siblings that the rules ask for, from balance

black_ranked : {n : ℕ} (t : Tree) → Allowed red (tint t) → Ranked (suc n) t → BlackNode t
black_ranked leaf o h = absurd (omega (arith, h.rank))
black_ranked (node red l x r) o h = o
black_ranked (node black l x r) o h = tt

firm_ranked : {n : ℕ} (d : Side) (s : Tree) → Ranked (suc n) s → Firm d s
firm_ranked d leaf h = absurd (omega (arith, h.rank))
firm_ranked d (node black l s r) h = tt
firm_ranked lft (node red l s r) h = let p = ranked_parts lft red s h in black_ranked l p.near_allowed p.near
firm_ranked rgt (node red l s r) h = let p = ranked_parts rgt red s h in black_ranked r p.near_allowed p.near

pub around_solid : (n : ℕ) (w : List Frame) → Around (suc n) w → Solid w
around_solid n [] a = tt
around_solid n (frame d red q s ∷ w) a = (firm_ranked d s a.1, around_solid n w a.3)
around_solid n (frame d black q s ∷ w) a = (firm_ranked d s a.1, around_solid (suc n) w a.3)

-- ---- mending

pub sibling_drawn : {C : ℕ} (c : Color) (l : Tree) (y : ℕ) (r : Tree) (w : List Frame) → Sound C (plug (node c l y r) w)
    → sibling_in (drawn C (plug (node c l y r) w)) y ≡ sibling_of w
unfolding sibling_in
sibling_drawn c l y r [] h = rw (parent_drawn lft c l y r [] h)
sibling_drawn c l y r (frame d k p s ∷ w) h =
    let z = slot_low d k (node c l y r) p s w h in let low = slot_low lft c l y r (frame d k p s ∷ w) h in
    rw (
      parent_drawn lft c l y r (frame d k p s ∷ w) h,
      ne_eqb p 0 (λ e. omega arith),
      side_drawn (node c l y r) d k p s w low h,
    )
    (far_drawn d k (node c l y r) p s w h)

-- a node of the colour c has left its place to its only child n
pub record Mendable (C : ℕ) (c : Color) (n : Tree) (w : List Frame) : Type 0 where
  pub sound : Sound C (plug n w)
  pub solid : c ≡ black → Solid w

-- such a sibling is a slot
pub sibling_low : {C : ℕ} (t : Tree) (d : Side) (c : Color) (q : ℕ) (s : Tree) (w : List Frame) → Firm d s
    → Sound C (plug t (frame d c q s ∷ w)) → 1 ≤ top_of s
sibling_low t d c q leaf w o h = absurd o
sibling_low t d c q (node k a s b) w o h = far_low d c t q k a s b w h

pub mend_drawn : {C : ℕ} (fuel : ℕ) (c : Color) (n : Tree) (w : List Frame) → length w ≤ fuel → Mendable C c n w
    → finish_remove fuel (drawn C (plug n w)) (color_code c) (top_of n) (sibling_of w) ≡ drawn C (mend c n w)
unfolding finish_remove mend refill
mend_drawn fuel red n w le m = refl
mend_drawn fuel black leaf [] le m = refl
mend_drawn fuel black leaf (frame d c q s ∷ w) le m =
    let solid = m.solid refl in let low = sibling_low leaf d c q s w solid.0 m.sound in
    rw (ne_eqb (top_of s) 0 (λ e. omega arith)) (sink_drawn fuel leaf (frame d c q s ∷ w) refl le solid m.sound)
mend_drawn fuel black (node k a y b) w le m =
    let low = slot_low lft k a y b w m.sound in
    rw (ne_eqb y 0 (λ e. omega arith)) (paint_drawn lft k a y b w m.sound black)

pub mendable : {C : ℕ} (d : Side) (c : Color) (n : Tree) (y : ℕ) (w : List Frame) → Balanced (plug (nod d c n y leaf) w)
    → Sound C (plug n w) → Mendable C c n w
mendable d c n y w b h =
    let u = unplug n (frame d c y leaf ∷ w) b in
    record { sound = h; solid = λ is. around_solid (blacks n) w (rw is at u.around.3) }

-- ---- a node with one child at most

one_drawn : {C : ℕ} (fuel : ℕ) (d : Side) (c : Color) (n : Tree) (x : ℕ) (w : List Frame) → length w ≤ fuel
    → Balanced (plug (nod d c n x leaf) w) → Sound C (plug (nod d c n x leaf) w)
    → remove_one fuel (drawn C (plug (nod d c n x leaf) w)) x (top_of n) ≡ drawn C (mend c n w)
unfolding remove_one
one_drawn fuel d c n x w le b h =
    rw (
      detach_drawn d c n x w h,
      color_drawn d c n x leaf w h,
      sibling_drawn c (on d n leaf) x (on d leaf n) w h,
    )
    (mend_drawn fuel c n w le (mendable d c n x w b (detach_sound d c n x w h)))

-- ---- a node x with two children: y, inside the right one, comes up in its place

-- the sibling of y's place is the same whichever of the two is above
pub sibling_same : (v : List Frame) (c : Color) (x y : ℕ) (l : Tree) (w : List Frame)
    → sibling_of (v ++ frame rgt c x l ∷ w) ≡ sibling_of (v ++ frame rgt c y l ∷ w)
sibling_same [] c x y l w = refl
sibling_same (frame d k p s ∷ v) c x y l w = refl

module _ {C : ℕ} (k : Color) (y : ℕ) (n : Tree) (v : List Frame) (c : Color) (l : Tree) (x : ℕ) (w : List Frame)
    (h : Sound C (plug (node k leaf y n) (v ++ frame rgt c x l ∷ w))) where
  -- y has left its place to its child n
  pub left_sound : Sound C (plug (node c l x (plug n v)) w)
  left_sound =
      rw (plug_append n v (frame rgt c x l ∷ w)) at (detach_sound rgt k n y (v ++ frame rgt c x l ∷ w) h)

  left_count : count (plug n (v ++ frame rgt c x l ∷ w)) y ≡ 0
  left_count =
      let before = v ++ frame rgt c x l ∷ w in
      omega (arith, h.once y, count_plug (node k leaf y n) before y, count_plug n before y, one_same y)

  left_fresh : count (plug (node c l x (plug n v)) w) y ≡ 0
  left_fresh = rw (plug_append n v (frame rgt c x l ∷ w)) at left_count

  low : 1 ≤ y
  low = slot_low lft k leaf y n (v ++ frame rgt c x l ∷ w) h

  -- and comes up in the place of x
  pub moved_drawn : replace_in (drawn C (plug n (v ++ frame rgt c x l ∷ w))) x y
      ≡ drawn C (plug n (v ++ frame rgt c y l ∷ w))
  moved_drawn =
      rw (plug_append n v (frame rgt c x l ∷ w), plug_append n v (frame rgt c y l ∷ w))
      (replace_drawn c l x (plug n v) w y low left_sound left_fresh)

  moved_sound : Sound C (plug n (v ++ frame rgt c y l ∷ w))
  moved_sound =
      rw (plug_append n v (frame rgt c y l ∷ w))
      (replace_sound c l x (plug n v) w y low left_sound left_fresh
      (slot_high lft k leaf y n (v ++ frame rgt c x l ∷ w) h))

  pub moved_mendable : Balanced (plug (node k leaf y n) (v ++ frame rgt c x l ∷ w))
      → Mendable C k n (v ++ frame rgt c y l ∷ w)
  moved_mendable b =
      let b₁ : Balanced (plug (node c l x (plug (node k leaf y n) v)) w)
      = rw (plug_append (node k leaf y n) v (frame rgt c x l ∷ w)) at b in
      mendable rgt k n y (v ++ frame rgt c y l ∷ w)
      (rw (plug_append (node k leaf y n) v (frame rgt c y l ∷ w))
      (renamed_balanced c l x y (plug (node k leaf y n) v) w b₁)) moved_sound

  two_drawn : (fuel : ℕ) → length (v ++ frame rgt c x l ∷ w) ≤ fuel
      → Balanced (plug (node k leaf y n) (v ++ frame rgt c x l ∷ w))
      → remove_two fuel (drawn C (plug (node k leaf y n) (v ++ frame rgt c x l ∷ w))) x y
      ≡ drawn C (mend k n (v ++ frame rgt c y l ∷ w))
  unfolding remove_two
  two_drawn fuel le b =
      let before = v ++ frame rgt c x l ∷ w in
      rw (
        far_drawn lft k leaf y n before h,
        detach_drawn rgt k n y before h,
        moved_drawn,
        color_drawn lft k leaf y n before h,
        sibling_drawn k leaf y n before h,
        sibling_same v c x y l w,
      )
      (mend_drawn fuel k n (v ++ frame rgt c y l ∷ w)
      (omega (arith, length-append v (frame rgt c x l ∷ w), length-append v (frame rgt c y l ∷ w)))
      (moved_mendable b))

-- the first node of a tree has the first of its slots
pub first_slot_lem : (c : Color) (l : Tree) (x : ℕ) (r : Tree) (w : List Frame)
    → (first_of c l x r w).slot ≡ first_slot (slots (node c l x r))
first_slot_lem c leaf x r w = refl
first_slot_lem c (node k a y b) x r w =
    first_slot_lem k a y b (frame lft c x r ∷ w) ∙ sym (first_facing rgt k a y b (x ∷ slots r))

first_length : (c : Color) (l : Tree) (x : ℕ) (r : Tree) (w : List Frame)
    → length (first_of c l x r w).way ≤ length w + height (node c l x r)
first_length c leaf x r w = omega arith
first_length c (node k a y b) x r w = omega (arith, first_length k a y b (frame lft c x r ∷ w))

-- ---- any node

-- 01, Removal: the program on a drawing draws the tree without the slot
pub remove_drawn : {C : ℕ} (fuel : ℕ) (c : Color) (l : Tree) (x : ℕ) (r : Tree) (w : List Frame)
    → length w + height (node c l x r) ≤ fuel → Balanced (plug (node c l x r) w) → Sound C (plug (node c l x r) w)
    → remove_at fuel (drawn C (plug (node c l x r) w)) x ≡ drawn C (take_out (focus_on c l x r w))
unfolding remove_at take_out mend_splice
remove_drawn fuel c leaf x r w le b h =
    rw (near_drawn lft c leaf x r w h, far_drawn lft c leaf x r w h) (one_drawn fuel rgt c r x w (omega arith) b h)
remove_drawn fuel c (node k a y e) x leaf w le b h =
    let low = slot_low lft k a y e (frame lft c x leaf ∷ w) h in
    rw (
      near_drawn lft c (node k a y e) x leaf w h,
      far_drawn lft c (node k a y e) x leaf w h,
      ne_eqb y 0 (λ i. omega arith),
    )
    (one_drawn fuel lft c (node k a y e) x w (omega arith) b h)
remove_drawn {C} fuel c (node k a y e) x (node q d z g) w le b h =
    let l = node k a y e in let r = node q d z g in let f = first_of q d z g [] in
    let y-low = slot_low lft k a y e (frame lft c x r ∷ w) h in
    let z-low = slot_low lft q d z g (frame rgt c x l ∷ w) h in
    let first = node f.color leaf f.slot f.right in
    let there : plug first (f.way ++ frame rgt c x l ∷ w) ≡ plug (node c l x r) w
    = plug_append first f.way (frame rgt c x l ∷ w)
    ∙ ap (λ (t : Tree). plug (node c l x t) w) (first_plug q d z g []) in
    rw (
      near_drawn lft c l x r w h,
      far_drawn lft c l x r w h,
      ne_eqb y 0 (λ i. omega arith),
      ne_eqb z 0 (λ i. omega arith),
      end_drawn lft fuel r (frame rgt c x l ∷ w) z-low (omega arith) h,
      ← first_slot_lem q d z g [],
    )
    (rw (← there) (two_drawn f.color f.slot f.right f.way c l x w (rw there h) fuel
    (omega (arith, length-append f.way (frame rgt c x l ∷ w), first_length q d z g [])) (rw there b)))
