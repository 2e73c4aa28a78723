-- Making up for the missing black after a removal gives W5 and W6 again.
use Prim.Native.Nat.{ℕ, suc}
use mathlib.Core.Path.{◌≡◌, refl, sym}
use mathlib.Core.Bool.{true, false, true≢false}
use mathlib.Core.List.{List, [], ◌∷◌, ◌++◌}
use native.Mathlib.Omega.{arith}
use Rattle.model.specs.Tree.{Side, lft, rgt, Color, red, black, Tree, leaf, node, nod, paint, Frame, frame, plug}
use Rattle.model.specs.Removal.{root_or_red, below_black, refill, mend, mend_splice, take_out, focus_on, first_of}
use Rattle.theory.specs.Balance.{tint, Allowed, dark, blacks, Balanced}
use Rattle.theory.proofs.Sides.{by_side}
use Rattle.theory.proofs.Balance.{Ranked, Fits, Around, allowed_black, not_red, ranked_nod, black_nod}
use Rattle.theory.proofs.Balance.{ranked_parts, over_red, tint_paint, ranked_paint, black_side, fits_black}
use Rattle.theory.proofs.Balance.{plug_balanced, unplug}
use Rattle.theory.proofs.Refill.{below_by, refill_red}
use Rattle.theory.proofs.Removal.{plug_append, first_plug}

-- a root or red q makes up for the black; another doesn't
made_up : (n : ℕ) (c : Color) (w : List Frame) → root_or_red c w ≡ true → Around (dark c n) w → Around n w
made_up n red w e a = a
made_up n black [] e a = tt
made_up n black (f ∷ w) e a = absurd (true≢false (sym e))

still_black : (c : Color) (w : List Frame) → root_or_red c w ≡ false → c ≡ black
still_black red w e = absurd (true≢false e)
still_black black w e = refl

below_balanced : {n : ℕ} (d : Side) (c : Color) (t : Tree) (q : ℕ) (near : Tree) (s : ℕ) (far : Tree) (up : List Frame)
    (repeat : Tree → Tree)
    → Ranked n t → Ranked n near → Ranked n far → Fits up c → Around (dark c (suc n)) up
    → (root_or_red c up ≡ false → (u : Tree) → tint u ≡ black → Ranked (suc n) u → Around (suc (suc n)) up
    → Balanced (repeat u))
    → Balanced (below_black d c t q (nod d black near s far) up repeat)
below_balanced {n} d c t q near s far up repeat place-ranked near-ranked far-ranked fits around again =
    below_by Balanced d c t q s far up repeat near
    (λ is. plug_balanced (nod d c (nod d black t q near) s (paint black far)) up
    (ranked_nod d c s (allowed_black c) (rw (tint_paint far) (allowed_black c))
    (black_nod d q place-ranked near-ranked) (ranked_paint far is far-ranked)) around fits)
    (λ is a y b e.
    let h = ranked_parts d red y (rw e at near-ranked) in
    plug_balanced (nod d c (nod d black t q a) y (nod d black b s far)) up
    (ranked_nod d c y (allowed_black c) (allowed_black c)
    (black_nod d q place-ranked h.near) (black_nod d s h.far far-ranked))
    around fits)
    (λ near-is far-is ends. plug_balanced (nod d black t q (nod d red near s far)) up
    (black_nod d q place-ranked (ranked_nod d red s (not_red near near-is) (not_red far far-is) near-ranked far-ranked))
    (made_up (suc n) c up ends around) (fits_black up))
    (λ near-is far-is goes.
    let e = still_black c up goes in
    again goes (nod d c t q (nod d red near s far)) e
    (rw e (black_nod d q place-ranked
    (ranked_nod d red s (not_red near near-is) (not_red far far-is) near-ranked far-ranked)))
    (rw e at around))

-- a red sibling: its near child is black, and q, red then, makes up for the black
raised_balanced : {n : ℕ} (d : Side) (c : Color) (t : Tree) (q : ℕ) (near : Tree) (s : ℕ) (far : Tree) (up : List Frame)
    → Ranked n t → Ranked (suc n) (nod d red near s far) → Allowed c red → Around (dark c (suc n)) up
    → Balanced (below_black d red t q near (frame d black s far ∷ up) (λ u. u))
raised_balanced d c t q near s far up place-ranked ranked allowed around =
    let h = ranked_parts d red s ranked in
    let v = black_side d near h.near_allowed h.near in
    let p = ranked_parts d black v.1 (rw v.3 at h.near) in
    rw v.3 (below_balanced d red t q v.0 v.1 v.2 (frame d black s far ∷ up) (λ u. u)
    place-ranked p.near p.far tt
    (tt, h.far, fits_black up, rw (over_red c allowed) at around) (λ goes. absurd (true≢false goes)))

-- the place t has one black node less than its surroundings ask for
refill_balanced : (n : ℕ) (t : Tree) (w : List Frame) → tint t ≡ black → Ranked n t → Around (suc n) w
    → Balanced (refill t w)
unfolding refill
refill_balanced n t [] is h a = record { calm = h.calm; even = h.even; top = is }
refill_balanced n t (frame d c q s ∷ up) is h a = by_side d
    (λ s. Allowed c (tint s) → Ranked (suc n) s → Balanced (refill t (frame d c q s ∷ up)))
    (λ _ r. absurd (omega (arith, r.rank)))
    (λ k near y far allowed r. sibling k near y far allowed r (λ u u_is. refill_balanced (suc n) u up u_is))
    s a.0 a.1
  where
    sibling : (k : Color) (near : Tree) (y : ℕ) (far : Tree) → Allowed c k → Ranked (suc n) (nod d k near y far)
        → ((u : Tree) → tint u ≡ black → Ranked (suc n) u → Around (suc (suc n)) up → Balanced (refill u up))
        → Balanced (refill t (frame d c q (nod d k near y far) ∷ up))
    sibling black near y far allowed r again =
        let p = ranked_parts d black y r in
        below_balanced d c t q near y far up (λ u. refill u up) h p.near p.far a.2 a.3 (λ _. again)
    sibling red near y far allowed r again =
        rw (refill_red t d c q near y far up) (raised_balanced d c t q near y far up h r allowed a.3)

-- a node with one child at most: the child takes its place
mend_balanced : (d : Side) (c : Color) (t : Tree) (x : ℕ) (w : List Frame) → Balanced (plug (nod d c t x leaf) w)
    → Balanced (mend c t w)
unfolding mend
mend_balanced d c t x w b =
    let u = unplug t (frame d c x leaf ∷ w) b in go c t u.around.1.rank u.ranked u.fits u.around.3
  where
    go : (c : Color) (t : Tree) → 0 ≡ blacks t → Ranked (blacks t) t → Allowed c (tint t)
        → Around (dark c (blacks t)) w → Balanced (mend c t w)
    go red leaf e h o a = plug_balanced leaf w h a (fits_black w)
    go red (node red l y r) e h o a = absurd o
    go red (node black l y r) e h o a = absurd (omega arith)
    go black leaf e h o a = refill_balanced 0 leaf w refl h a
    go black (node red l y r) e h o a =
        plug_balanced (node black l y r) w (ranked_paint (node red l y r) refl h) a (fits_black w)
    go black (node black l y r) e h o a = absurd (omega arith)

-- balance doesn't look at slots
pub renamed_balanced : (c : Color) (l : Tree) (x y : ℕ) (r : Tree) (w : List Frame)
    → Balanced (plug (node c l x r) w) → Balanced (plug (node c l y r) w)
renamed_balanced c l x y r w b =
    let u = unplug (node c l x r) w b in
    plug_balanced (node c l y r) w
    (record { calm = u.ranked.calm; even = u.ranked.even; rank = u.ranked.rank }) u.around u.fits

-- 01, W5 and W6: removal keeps the balance
pub take_out_balanced : (c : Color) (l : Tree) (x : ℕ) (r : Tree) (w : List Frame)
    → Balanced (plug (node c l x r) w) → Balanced (take_out (focus_on c l x r w))
unfolding take_out mend_splice
take_out_balanced c leaf x r w b = mend_balanced rgt c r x w b
take_out_balanced c (node k a y b') x leaf w b = mend_balanced lft c (node k a y b') x w b
take_out_balanced c (node k a y b') x (node q l z r) w b =
    let l' = node k a y b' in let f = first_of q l z r [] in
    mend_balanced rgt f.color f.right f.slot (f.way ++ frame rgt c f.slot l' ∷ w)
    (rw (
      plug_append (node f.color leaf f.slot f.right) f.way (frame rgt c f.slot l' ∷ w),
      first_plug q l z r [],
    )
    (renamed_balanced c l' x f.slot (node q l z r) w b))
