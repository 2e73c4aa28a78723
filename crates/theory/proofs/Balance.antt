-- W5 and W6 of a tree, part by part: of a node and its children, and of a place and the tree that hangs there.
use Prim.Native.Nat.{ℕ, suc}
use mathlib.Core.Path.{◌≡◌, refl, ap, sym, ◌∙◌}
use mathlib.Core.Bool.{true, false, true≢false}
use mathlib.Core.List.{List, [], ◌∷◌}
use native.Mathlib.Omega.{arith}
use Rattle.model.specs.Tree.{Side, lft, rgt, Color, red, black, Tree, leaf, node, nod, is_red, paint, Frame, frame}
use Rattle.model.specs.Tree.{plug}
use Rattle.theory.specs.Balance.{tint, Allowed, Calm, dark, blacks, Even, Balanced, Topped}

-- ---- trees

-- a tree that keeps W5 and W6, with n black nodes on each way down
pub record Ranked (n : ℕ) (t : Tree) : Type 0 where
  pub calm : Calm t
  pub even : Even t
  pub rank : blacks t ≡ n

pub allowed_black : (c : Color) → Allowed c black
allowed_black red = tt
allowed_black black = tt

pub red≢black : red ≡ black → ⊥
red≢black e = let z : ◌≡◌ {A = ℕ} 0 1 = cc in omega arith

-- a tree that isn't red may hang below a red node
pub not_red : (t : Tree) → is_red t ≡ false → Allowed red (tint t)
not_red leaf e = tt
not_red (node black l x r) e = tt
not_red (node red l x r) e = absurd (true≢false e)

pub ranked_leaf : Ranked 0 leaf
ranked_leaf = record { calm = tt; even = tt; rank = refl }

-- a node over two such trees
pub ranked_nod : {n : ℕ} (d : Side) (c : Color) {near : Tree} (x : ℕ) {far : Tree} → Allowed c (tint near)
    → Allowed c (tint far)
    → Ranked n near → Ranked n far → Ranked (dark c n) (nod d c near x far)
ranked_nod lft c x o q a b = record {
  calm = (o, q, a.calm, b.calm);
  even = (a.even, b.even, a.rank ∙ sym b.rank);
  rank = ap (dark c) a.rank;
}
ranked_nod rgt c x o q a b = record {
  calm = (q, o, b.calm, a.calm);
  even = (b.even, a.even, b.rank ∙ sym a.rank);
  rank = ap (dark c) b.rank;
}

pub black_nod : {n : ℕ} (d : Side) {near : Tree} (x : ℕ) {far : Tree} → Ranked n near → Ranked n far
    → Ranked (suc n) (nod d black near x far)
black_nod d x = ranked_nod d black x tt tt

-- and its children again: a near one and a far one under a node of the colour c
pub record Parts (n : ℕ) (c : Color) (a b : Tree) : Type 0 where
  pub near : Ranked n a
  pub far : Ranked n b
  pub near_allowed : Allowed c (tint a)
  pub far_allowed : Allowed c (tint b)

dark_cancel : (c : Color) (n m : ℕ) → dark c n ≡ dark c m → n ≡ m
dark_cancel red n m e = e
dark_cancel black n m e = omega arith

pub ranked_parts : {n : ℕ} (d : Side) (c : Color) {near : Tree} (x : ℕ) {far : Tree}
    → Ranked (dark c n) (nod d c near x far) → Parts n c near far
ranked_parts {n} lft c {near} x h =
    let e : blacks near ≡ n = dark_cancel c (blacks near) n h.rank in
    record {
      near = record { calm = h.calm.2; even = h.even.0; rank = e };
      far = record { calm = h.calm.3; even = h.even.1; rank = sym h.even.2 ∙ e };
      near_allowed = h.calm.0;
      far_allowed = h.calm.1;
    }
ranked_parts {n} rgt c {near} x {far} h =
    let e : blacks far ≡ n = dark_cancel c (blacks far) n h.rank in
    record {
      near = record { calm = h.calm.3; even = h.even.1; rank = sym h.even.2 ∙ e };
      far = record { calm = h.calm.2; even = h.even.0; rank = e };
      near_allowed = h.calm.1;
      far_allowed = h.calm.0;
    }

-- a red child hangs below a black node
pub over_red : (c : Color) → Allowed c red → c ≡ black
over_red black o = refl
over_red red o = absurd o

pub tint_paint : (t : Tree) → tint (paint black t) ≡ black
tint_paint leaf = refl
tint_paint (node c l x r) = refl

-- a red node painted black counts
pub ranked_paint : {n : ℕ} (t : Tree) → is_red t ≡ true → Ranked n t → Ranked (suc n) (paint black t)
ranked_paint leaf e h = absurd (true≢false (sym e))
ranked_paint (node black l x r) e h = absurd (true≢false (sym e))
ranked_paint (node red l x r) e h = let p = ranked_parts lft red x h in black_nod lft x p.near p.far

-- black nodes further down, and none that is red on top: a black node is on top
pub black_side : {n : ℕ} (d : Side) (t : Tree) → Allowed red (tint t) → Ranked (suc n) t
    → (near : Tree) × (x : ℕ) × (far : Tree) × (t ≡ nod d black near x far)
black_side d leaf o h = absurd (omega (arith, h.rank))
black_side d (node red l x r) o h = absurd o
black_side lft (node black l x r) o h = (l, x, r, refl)
black_side rgt (node black l x r) o h = (r, x, l, refl)

-- ---- places

-- a tree of this colour may hang at the place; at the top it is black
abbrev pub Fits : List Frame → Color → Type 0
Fits [] c = c ≡ black
Fits (frame d k p s ∷ w) c = Allowed k c

-- the frames of the place keep W5, W6 and a black root, where a tree with n black nodes on each way hangs there
abbrev pub Around : (n : ℕ) → List Frame → Type 0
Around n [] = Unit {0}
Around n (frame d c p s ∷ w) = Allowed c (tint s) × Ranked n s × Fits w c × Around (dark c n) w

pub fits_black : (w : List Frame) → Fits w black
fits_black [] = refl
fits_black (frame d c p s ∷ w) = allowed_black c

around_topped : (n : ℕ) (w : List Frame) → Around n w → Topped w
around_topped n [] a = tt
around_topped n (frame d red p s ∷ []) a = red≢black a.2
around_topped n (frame d black p s ∷ []) a = tt
around_topped n (frame d red p s ∷ f ∷ w) a = around_topped n (f ∷ w) a.3
around_topped n (frame d black p s ∷ f ∷ w) a = around_topped (suc n) (f ∷ w) a.3

-- the tree put together at a place
pub plug_balanced : {n : ℕ} (t : Tree) (w : List Frame) → Ranked n t → Around n w → Fits w (tint t)
    → Balanced (plug t w)
plug_balanced t [] h a f = record { calm = h.calm; even = h.even; top = f }
plug_balanced t (frame d c p s ∷ w) h a f =
    plug_balanced (nod d c t p s) w (ranked_nod d c p f a.0 h a.1) a.3 a.2

-- and taken apart
pub record Unplugged (t : Tree) (w : List Frame) : Type 0 where
  pub ranked : Ranked (blacks t) t
  pub around : Around (blacks t) w
  pub fits : Fits w (tint t)

rank_nod : (d : Side) (c : Color) (near : Tree) (x : ℕ) (far : Tree) → Even (nod d c near x far)
    → blacks (nod d c near x far) ≡ dark c (blacks near)
rank_nod lft c near x far e = refl
rank_nod rgt c near x far e = ap (dark c) e.2

pub unplug : (t : Tree) (w : List Frame) → Balanced (plug t w) → Unplugged t w
unplug t [] b = record { ranked = record { calm = b.calm; even = b.even; rank = refl }; around = tt; fits = b.top }
unplug t (frame d c p s ∷ w) b =
    let u = unplug (nod d c t p s) w b in
    let e = rank_nod d c t p s u.ranked.even in
    let q = ranked_parts d c p (rw e at u.ranked) in
    record { ranked = q.near; around = (q.far_allowed, q.far, u.fits, rw e at u.around); fits = q.near_allowed }

-- the frames of a balanced tree end in a black one
pub balanced_topped : (t : Tree) (w : List Frame) → Balanced (plug t w) → Topped w
balanced_topped t w b = around_topped (blacks t) w (unplug t w b).around
