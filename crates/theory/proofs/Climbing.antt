-- post_insert on a drawing: each of its steps draws what the climb makes of the tree.
use Prim.Native.Nat.{ℕ, zero, suc, ◌≤◌}
use mathlib.Core.Path.{◌≡◌, refl, ap, ◌∙◌}
use mathlib.Core.Bool.{true, false, false≢true}
use mathlib.Core.List.{List, [], ◌∷◌}
use native.Mathlib.Omega.{arith}
use lib.Dec.{eqb}
use lib.ListN.{length}
use borrow.Author.Tests.{ne_eqb}
use Rattle.model.specs.Branch.{pick}
use Rattle.model.specs.Tree.{Side, lft, rgt, Color, red, black, Tree, leaf, node, opp, nod, top_of, is_red, Frame}
use Rattle.model.specs.Tree.{frame}
use Rattle.model.specs.Tree.{plug, above}
use Rattle.model.specs.Lent.{color_code}
use Rattle.model.specs.Hanging.{crown, straighten, turn_over, climb}
use Rattle.theory.specs.Balance.{Topped}
use Rattle.theory.specs.Sound.{Sound}
use Rattle.theory.specs.Links.{Links, drawn}
use Rattle.theory.specs.Programs.{rotate_in, settle, finish, recolor, post_insert}
use Rattle.theory.proofs.Counts.{slot_low}
use Rattle.theory.proofs.Hanging.{Rests, overturned, recoloured, climb_by}
use Rattle.theory.proofs.Rotating.{rotate_drawn, rotate_sound}
use Rattle.theory.proofs.Reading.{far_drawn, parent_drawn, color_drawn, set_pc_drawn, paint_drawn, paint_sound}
use Rattle.theory.proofs.Reading.{top_parent, paint_far_drawn, paint_far_sound, far_red_drawn, on_drawn}
use Rattle.theory.proofs.Reading.{side_drawn}

-- a rotation that brings p, on the side e of g, up
pub raise_drawn : {C : ℕ} (e : Side) (cp : Color) (t : Tree) (p : ℕ) (s : Tree) (cg : Color) (g : ℕ) (u : Tree)
    (w : List Frame) → Sound C (plug (nod e cg (nod e cp t p s) g u) w)
    → rotate_in (opp e) (drawn C (plug (nod e cg (nod e cp t p s) g u) w)) g
    ≡ drawn C (plug (nod e cp t p (nod e cg s g u)) w)
raise_drawn lft cp t p s cg g u w h = rotate_drawn rgt cg u g cp s p t w h
raise_drawn rgt cp t p s cg g u w h = rotate_drawn lft cg u g cp s p t w h

pub raise_sound : {C : ℕ} (e : Side) (cp : Color) (t : Tree) (p : ℕ) (s : Tree) (cg : Color) (g : ℕ) (u : Tree)
    (w : List Frame) → Sound C (plug (nod e cg (nod e cp t p s) g u) w)
    → Sound C (plug (nod e cp t p (nod e cg s g u)) w)
raise_sound lft cp t p s cg g u w h = rotate_sound rgt cg u g cp s p t w h
raise_sound rgt cp t p s cg g u w h = rotate_sound lft cg u g cp s p t w h

-- ---- the last rotations

-- x, p and g on one side
pub settle_drawn : {C : ℕ} (e : Side) (x : Tree) (cp : Color) (p : ℕ) (s : Tree) (cg : Color) (g : ℕ) (u : Tree)
    (w : List Frame) → 1 ≤ top_of x → Sound C (plug (nod e cg (nod e cp x p s) g u) w)
    → settle e (drawn C (plug (nod e cg (nod e cp x p s) g u) w)) (top_of x)
    ≡ drawn C (plug (nod e black x p (nod e red s g u)) w)
unfolding settle
settle_drawn e x cp p s cg g u w low h =
    let h₁ = paint_sound e cp x p s (frame e cg g u ∷ w) h black in
    let h₂ = paint_sound e cg (nod e black x p s) g u w h₁ red in
    rw (
      top_parent x (frame e cp p s ∷ frame e cg g u ∷ w) low h,
      paint_drawn e cp x p s (frame e cg g u ∷ w) h black,
      parent_drawn e black x p s (frame e cg g u ∷ w) h₁,
      paint_drawn e cg (nod e black x p s) g u w h₁ red,
    ) (raise_drawn e black x p s red g u w h₂)

-- x on the inner side of p
pub inner_drawn : {C : ℕ} (e : Side) (k : Color) (near : Tree) (x : ℕ) (far : Tree) (p : ℕ) (s : Tree) (cg : Color)
    (g : ℕ)
    (u : Tree) (w : List Frame) → Sound C (plug (nod e cg (nod (opp e) red (nod e k near x far) p s) g u) w)
    → settle e (rotate_in e (drawn C (plug (nod e cg (nod (opp e) red (nod e k near x far) p s) g u) w)) p) p
    ≡ drawn C (plug (nod e black (nod (opp e) red near p s) x (nod e red far g u)) w)
inner_drawn e k near x far p s cg g u w h =
    let h₁ = rotate_sound e red s p k near x far (frame e cg g u ∷ w) h in
    let low = slot_low (opp e) red near p s (frame e k x far ∷ frame e cg g u ∷ w) h₁ in
    rw (rotate_drawn e red s p k near x far (frame e cg g u ∷ w) h)
    (settle_drawn e (nod (opp e) red near p s) k x far cg g u w low h₁)

-- either of the two, as the climb has it
pub finish_drawn : {C : ℕ} (d e : Side) (x : Tree) (p : ℕ) (s : Tree) (cg : Color) (g : ℕ) (u : Tree) (w : List Frame)
    → 1 ≤ top_of x → Sound C (plug (nod e cg (nod d red x p s) g u) w)
    → finish e (drawn C (plug (nod e cg (nod d red x p s) g u) w)) (top_of x) p
    ≡ drawn C (plug (overturned d e x p s g u) w)
unfolding finish turn_over straighten
finish_drawn d e leaf p s cg g u w low h = absurd (omega arith)
finish_drawn lft lft (node k l x r) p s cg g u w low h =
    rw (on_drawn (node k l x r) lft lft red p s (frame lft cg g u ∷ w) low h)
    (settle_drawn lft (node k l x r) red p s cg g u w low h)
finish_drawn rgt rgt (node k l x r) p s cg g u w low h =
    rw (on_drawn (node k l x r) rgt rgt red p s (frame rgt cg g u ∷ w) low h)
    (settle_drawn rgt (node k l x r) red p s cg g u w low h)
finish_drawn rgt lft (node k l x r) p s cg g u w low h =
    rw (on_drawn (node k l x r) lft rgt red p s (frame lft cg g u ∷ w) low h) (inner_drawn lft k l x r p s cg g u w h)
finish_drawn lft rgt (node k l x r) p s cg g u w low h =
    rw (on_drawn (node k l x r) rgt lft red p s (frame rgt cg g u ∷ w) low h) (inner_drawn rgt k r x l p s cg g u w h)

-- ---- recolouring

crown_code : {C : ℕ} (t : Tree) (w : List Frame) → Sound C (plug t w)
    → pick (eqb (above w) 0) 1 0 ≡ color_code (crown w)
crown_code t [] h = refl
crown_code t (frame d c p s ∷ w) h = let low = slot_low d c t p s w h in rw (ne_eqb p 0 (λ e. omega arith))

module _ {C : ℕ} (d e : Side) (k : Color) (x : Tree) (p : ℕ) (s : Tree) (cg : Color) (g : ℕ) (l : Tree) (u : ℕ)
    (r : Tree) (w : List Frame) (h : Sound C (plug (nod e cg (nod d k x p s) g (node red l u r)) w)) where
  h₁ : Sound C (plug (nod e cg (nod d black x p s) g (node red l u r)) w)
  h₁ = paint_sound d k x p s (frame e cg g (node red l u r) ∷ w) h black

  h₂ : Sound C (plug (nod e (crown w) (nod d black x p s) g (node red l u r)) w)
  h₂ = paint_sound e cg (nod d black x p s) g (node red l u r) w h₁ (crown w)

  pub recolor_drawn : recolor (drawn C (plug (nod e cg (nod d k x p s) g (node red l u r)) w)) p g u
      ≡ drawn C (plug (nod e (crown w) (nod d black x p s) g (node black l u r)) w)
  unfolding recolor
  recolor_drawn = rw (
    paint_drawn d k x p s (frame e cg g (node red l u r) ∷ w) h black,
    parent_drawn e cg (nod d black x p s) g (node red l u r) w h₁,
    crown_code (nod e cg (nod d black x p s) g (node red l u r)) w h₁,
    set_pc_drawn e cg (nod d black x p s) g (node red l u r) w h₁ (crown w),
  ) (paint_far_drawn e (crown w) (nod d black x p s) g red l u r w h₂ black)

  pub recolor_sound : Sound C (plug (nod e (crown w) (nod d black x p s) g (node black l u r)) w)
  recolor_sound = paint_far_sound e (crown w) (nod d black x p s) g red l u r w h₂ black

-- ---- the whole climb

-- one frame less leaves the top one black
pub topped_tail : (f : Frame) (w : List Frame) → Topped (f ∷ w) → Topped w
topped_tail f [] o = tt
topped_tail (frame d red p s) (f ∷ w) o = o
topped_tail (frame d black p s) (f ∷ w) o = o

-- n rounds are enough to climb from x to the tree t
Climbs : (C : ℕ) → Tree → List Frame → Tree → Type 0
Climbs C x w t = (n : ℕ) → length w ≤ n → 1 ≤ top_of x → Topped w → Sound C (plug x w)
    → post_insert n (drawn C (plug x w)) (top_of x) ≡ drawn C t

rest_climbs : (C : ℕ) (x : Tree) (w : List Frame) → Rests w → Climbs C x w (plug x w)
unfolding post_insert Climbs
rest_climbs C x [] r zero le low o h = refl
rest_climbs C x [] r (suc n) le low o h = rw (top_parent x [] low h)
rest_climbs C x (f ∷ w) r zero le low o h = absurd (omega arith)
rest_climbs C x (frame d black p s ∷ w) r (suc n) le low o h =
    let z = slot_low d black x p s w h in
    rw (top_parent x (frame d black p s ∷ w) low h, ne_eqb p 0 (λ e. omega arith), color_drawn d black x p s w h)
rest_climbs C x (frame d red p s ∷ []) r (suc n) le low o h = absurd o
rest_climbs C x (frame d red p s ∷ f ∷ w) r (suc n) le low o h = absurd r

-- one round below a red parent
round : {C : ℕ} (n : ℕ) (x : Tree) (d : Side) (p : ℕ) (s : Tree) (e : Side) (c : Color) (g : ℕ) (u : Tree)
    (w : List Frame)
    → 1 ≤ top_of x → Sound C (plug x (frame d red p s ∷ frame e c g u ∷ w))
    → let k = drawn C (plug x (frame d red p s ∷ frame e c g u ∷ w)) in
    post_insert (suc n) k (top_of x) ≡ pick (is_red u) (post_insert n (recolor k p g (top_of u)) g)
    (finish e k (top_of x) p)
unfolding post_insert
round n x d p s e c g u w low h =
    let z = slot_low d red x p s (frame e c g u ∷ w) h in
    rw (
      top_parent x (frame d red p s ∷ frame e c g u ∷ w) low h,
      ne_eqb p 0 (λ e. omega arith),
      color_drawn d red x p s (frame e c g u ∷ w) h,
      parent_drawn d red x p s (frame e c g u ∷ w) h,
      side_drawn (nod d red x p s) e c g u w z h,
      far_drawn e c (nod d red x p s) g u w h,
      far_red_drawn e c (nod d red x p s) g u w h,
    )

turn_climbs : (C : ℕ) (x : Tree) (d : Side) (p : ℕ) (s : Tree) (e : Side) (c : Color) (g : ℕ) (u : Tree)
    (w : List Frame)
    → is_red u ≡ false → Climbs C x (frame d red p s ∷ frame e c g u ∷ w) (plug (overturned d e x p s g u) w)
unfolding Climbs
turn_climbs C x d p s e c g u w is zero le low o h = absurd (omega arith)
turn_climbs C x d p s e c g u w is (suc n) le low o h =
    rw (round n x d p s e c g u w low h, is) (finish_drawn d e x p s c g u w low h)

up_climbs : (C : ℕ) (x : Tree) (d : Side) (p : ℕ) (s : Tree) (e : Side) (c : Color) (g : ℕ) (u : Tree) (w : List Frame)
    → is_red u ≡ true → (t : Tree) → Climbs C (recoloured d e x p s g u w) w t
    → Climbs C x (frame d red p s ∷ frame e c g u ∷ w) t
unfolding Climbs
up_climbs C x d p s e c g leaf w is t go n le low o h = absurd (false≢true is)
up_climbs C x d p s e c g (node black l u r) w is t go n le low o h = absurd (false≢true is)
up_climbs C x d p s e c g (node red l u r) w is t go zero le low o h = absurd (omega arith)
up_climbs C x d p s e c g (node red l u r) w is t go (suc n) le low o h =
    let h₁ = recolor_sound d e red x p s c g l u r w h in
    round n x d p s e c g (node red l u r) w low h
    ∙ ap (λ (k : Links). post_insert n k g) (recolor_drawn d e red x p s c g l u r w h)
    ∙ go n (omega arith) (slot_low e (crown w) (nod d black x p s) g (node black l u r) w h₁)
    (topped_tail (frame e c g (node red l u r)) w o) h₁

-- the loop draws the climb, where the root is black
pub climb_drawn : {C : ℕ} (n : ℕ) (x : Tree) (w : List Frame) → length w ≤ n → 1 ≤ top_of x → Topped w
    → Sound C (plug x w)
    → post_insert n (drawn C (plug x w)) (top_of x) ≡ drawn C (climb x w)
unfolding Climbs
climb_drawn {C} n x w = climb_by (Climbs C) (rest_climbs C) (turn_climbs C) (up_climbs C) x w n
