-- The climb after hanging: at most two rotations, the same in-order list, and W5 and W6 again.
use Prim.Native.Nat.{ℕ, suc, ◌+◌, ◌≤◌}
use mathlib.Core.Path.{◌≡◌, refl, sym}
use mathlib.Core.Bool.{true, false}
use mathlib.Core.List.{List, [], ◌∷◌}
use native.Mathlib.Omega.{arith}
use Rattle.model.specs.Tree.{Side, lft, rgt, Color, red, black, Tree, leaf, node, opp, same_side, nod, is_red, paint}
use Rattle.model.specs.Tree.{slots, Frame, frame, plug}
use Rattle.model.specs.Hanging.{crown, straighten, turn_over, climb, hang, hung_tree}
use Rattle.model.specs.Shape.{TurnedAtMost}
use Rattle.theory.specs.Balance.{tint, Allowed, dark, Balanced}
use Rattle.theory.specs.Sound.{one, count, Sound}
use Rattle.theory.proofs.Branch.{by-test}
use Rattle.theory.proofs.Balance.{Ranked, Around, red≢black, not_red, allowed_black, ranked_leaf, ranked_nod}
use Rattle.theory.proofs.Balance.{black_nod, ranked_parts, over_red, tint_paint, ranked_paint, fits_black}
use Rattle.theory.proofs.Balance.{plug_balanced, unplug}
use Rattle.theory.proofs.Counts.{count_plug, sound_more}
use Rattle.theory.proofs.Lists.{count_same}
use Rattle.theory.proofs.Turned.{shape_paint, shape_children, turned_slots, turned_none, turned_from}
use Rattle.theory.proofs.Turned.{turned_more, turned_rotate, shape_place, turned_paint}

-- ---- the climb, case by case

-- the climb goes no further from such a place
abbrev pub Rests : List Frame → Type 0
Rests [] = Unit {0}
Rests (frame d black p s ∷ w) = Unit {0}
Rests (frame d red p s ∷ []) = Unit {0}
Rests (frame d red p s ∷ f ∷ w) = ⊥

-- the last rotations: x hangs on the side d of p, and p on the side e of g
abbrev pub overturned : (d e : Side) → (x : Tree) → (p : ℕ) → (s : Tree) → (g : ℕ) → (other : Tree) → Tree
overturned d e x p s g other = turn_over e (straighten d e (nod d red x p s)) g other

-- both children of g black: x is g then
abbrev pub recoloured : (d e : Side) → (x : Tree) → (p : ℕ) → (s : Tree) → (g : ℕ) → (other : Tree) → List Frame → Tree
recoloured d e x p s g other w = nod e (crown w) (nod d black x p s) g (paint black other)

-- what holds where the climb rests and where it turns, and comes down from g to x, holds of the climb
module _ (P : (x : Tree) → (way : List Frame) → (climbed : Tree) → Type 0)
    (rest : (x : Tree) (w : List Frame) → Rests w → P x w (plug x w))
    (turns : (x : Tree) (d : Side) (p : ℕ) (s : Tree) (e : Side) (c : Color) (g : ℕ) (u : Tree) (w : List Frame)
    → is_red u ≡ false → P x (frame d red p s ∷ frame e c g u ∷ w) (plug (overturned d e x p s g u) w))
    (up : (x : Tree) (d : Side) (p : ℕ) (s : Tree) (e : Side) (c : Color) (g : ℕ) (u : Tree) (w : List Frame)
    → is_red u ≡ true → (t : Tree) → P (recoloured d e x p s g u w) w t
    → P x (frame d red p s ∷ frame e c g u ∷ w) t) where
  pub climb_by : (x : Tree) (w : List Frame) → P x w (climb x w)
  unfolding climb
  climb_by x [] = rest x [] tt
  climb_by x (frame d black p s ∷ w) = rest x (frame d black p s ∷ w) tt
  climb_by x (frame d red p s ∷ []) = rest x (frame d red p s ∷ []) tt
  climb_by x (frame d red p s ∷ frame e c g u ∷ w) =
      by-test (is_red u)
      (λ is. rw is (up x d p s e c g u w is _ (climb_by (recoloured d e x p s g u w) w)))
      (λ is. rw is (turns x d p s e c g u w is))

-- ---- rotations

straighten_turned : (t : Tree) (d e : Side) (v : Tree) (w : List Frame)
    → TurnedAtMost 0 t (plug v w) → TurnedAtMost 1 t (plug (straighten d e v) w)
unfolding straighten
straighten_turned t d e v w h =
    by-test (same_side d e)
    (λ is. rw is (turned_more t (plug v w) (omega arith) h))
    (λ is. rw is (turned_rotate t e v w h))

turn_over_turned : (t : Tree) (e : Side) (upper : Tree) (c : Color) (g : ℕ) (u : Tree) (w : List Frame)
    → TurnedAtMost 1 t (plug upper (frame e c g u ∷ w)) → TurnedAtMost 2 t (plug (turn_over e upper g u) w)
unfolding turn_over
turn_over_turned t e upper c g u w h =
    turned_rotate t (opp e) (nod e red (paint black upper) g u) w
    (turned_paint t (nod e c upper g u) (nod e red (paint black upper) g u) w
    (shape_children e red c (paint black upper) upper g u u (shape_paint black upper) refl) h)

climb_turned : (x : Tree) (w : List Frame) → TurnedAtMost 2 (plug x w) (climb x w)
climb_turned = climb_by (λ x w t. TurnedAtMost 2 (plug x w) t)
    (λ x w _. turned_more (plug x w) (plug x w) (omega arith) (turned_none (plug x w) (plug x w) refl))
    (λ x d p s e c g u w _.
    let v = nod d red x p s in let t = plug v (frame e c g u ∷ w) in
    turn_over_turned t e (straighten d e v) c g u w
    (straighten_turned t d e v (frame e c g u ∷ w) (turned_none t t refl)))
    (λ x d p s e c g u w _ t.
    turned_from (plug (recoloured d e x p s g u w) w) (plug (nod e c (nod d red x p s) g u) w) t
    (shape_place (recoloured d e x p s g u w) (nod e c (nod d red x p s) g u) w
    (shape_children e c (crown w) (nod d red x p s) (nod d black x p s) g u (paint black u)
    (shape_children d red black x x p s s refl refl) (sym (shape_paint black u)))))

-- 01, demand 3: at most two rotations lead from the tree right after hanging to the tree after the climb
pub hang_turned : (s : ℕ) (w : List Frame) → TurnedAtMost 2 (hung_tree s w) (hang s w)
unfolding hang hung_tree
hang_turned s [] = turned_more (node black leaf s leaf) (node black leaf s leaf) (omega arith)
    (turned_none (node black leaf s leaf) (node black leaf s leaf) refl)
hang_turned s (f ∷ w) = climb_turned (node red leaf s leaf) (f ∷ w)

pub hang_slots : (s : ℕ) (w : List Frame) → slots (hang s w) ≡ slots (hung_tree s w)
hang_slots s w = turned_slots (hung_tree s w) (hang s w) (hang_turned s w)

pub hang_count : (s : ℕ) (w : List Frame) (x : ℕ) → count (hang s w) x ≡ count (hung_tree s w) x
hang_count s w = count_same (hung_tree s w) (hang s w) (hang_slots s w)

-- the new slot stands in it once more than before
pub hung_count : (s : ℕ) (w : List Frame) (x : ℕ) → count (hung_tree s w) x ≡ one s x + count (plug leaf w) x
unfolding hung_tree
hung_count s [] x = omega arith
hung_count s (f ∷ w) x = omega (arith, count_plug (node red leaf s leaf) (f ∷ w) x, count_plug leaf (f ∷ w) x)

pub hang_sound : {C : ℕ} (s : ℕ) (w : List Frame) → count (plug leaf w) s ≡ 0 → 1 ≤ s → s ≤ C
    → Sound C (plug leaf w) → Sound C (hang s w)
hang_sound s w = sound_more (plug leaf w) (hang s w) s (λ x. omega (arith, hang_count s w x, hung_count s w x))

-- ---- balance

overturned_ranked : {n : ℕ} (d e : Side) (x : Tree) (p : ℕ) (s : Tree) (g : ℕ) (u : Tree) → tint x ≡ red
    → Allowed red (tint s) → Allowed red (tint u) → Ranked n x → Ranked n s → Ranked n u
    → Ranked (suc n) (overturned d e x p s g u) × (tint (overturned d e x p s g u) ≡ black)
unfolding turn_over straighten
overturned_ranked d e leaf p s g u is os ou x-ranked s-ranked u-ranked = absurd (red≢black (sym is))
overturned_ranked d e (node black l y r) p s g u is os ou x-ranked s-ranked u-ranked = absurd (red≢black (sym is))
overturned_ranked lft lft (node red l y r) p s g u is os ou x-ranked s-ranked u-ranked =
    (black_nod lft p x-ranked (ranked_nod lft red g os ou s-ranked u-ranked), refl)
overturned_ranked rgt rgt (node red l y r) p s g u is os ou x-ranked s-ranked u-ranked =
    (black_nod rgt p x-ranked (ranked_nod rgt red g os ou s-ranked u-ranked), refl)
overturned_ranked rgt lft (node red l y r) p s g u is os ou x-ranked s-ranked u-ranked =
    let h = ranked_parts lft red y x-ranked in
    let lower = ranked_nod lft red p os h.near_allowed s-ranked h.near in
    (black_nod lft y lower (ranked_nod lft red g h.far_allowed ou h.far u-ranked), refl)
overturned_ranked lft rgt (node red l y r) p s g u is os ou x-ranked s-ranked u-ranked =
    let h = ranked_parts rgt red y x-ranked in
    let lower = ranked_nod rgt red p os h.near_allowed s-ranked h.near in
    (black_nod rgt y lower (ranked_nod rgt red g h.far_allowed ou h.far u-ranked), refl)

-- a tree as red as the way asks for, which otherwise keeps the rules, becomes one that keeps them all
Settles : Tree → List Frame → Tree → Type 0
Settles x w t = (n : ℕ) → tint x ≡ crown w → Ranked n x → Around n w → Balanced t

rest_settles : (x : Tree) (w : List Frame) → Rests w → Settles x w (plug x w)
unfolding Settles
rest_settles x [] r n is h a = plug_balanced x [] h a is
rest_settles x (frame d black p s ∷ w) r n is h a = plug_balanced x (frame d black p s ∷ w) h a tt
rest_settles x (frame d red p s ∷ []) r n is h a = absurd (red≢black a.2)
rest_settles x (frame d red p s ∷ f ∷ w) r n is h a = absurd r

around_crown : (n : ℕ) (w : List Frame) → Around n w → Around (dark (crown w) n) w
around_crown n [] a = tt
around_crown n (f ∷ w) a = a

climb_settles : (x : Tree) (w : List Frame) → Settles x w (climb x w)
unfolding Settles
climb_settles = climb_by Settles rest_settles
    (λ x d p s e c g u w not n is h a.
    let o = overturned_ranked d e x p s g u is a.0 (not_red u not) h a.1 a.3.1 in
    plug_balanced (overturned d e x p s g u) w o.0 (rw (over_red c a.2) at a.3.3) (rw o.1 (fits_black w)))
    (λ x d p s e c g u w is-red t go n is h a.
    let k = crown w in
    go (dark k (suc n)) refl
    (ranked_nod e k g (allowed_black k) (rw (tint_paint u) (allowed_black k)) (black_nod d p h a.1)
    (ranked_paint u is-red a.3.1))
    (around_crown (suc n) w (rw (over_red c a.2) at a.3.3)))

-- 01, W5 and W6: hanging keeps the balance
pub hang_balanced : (s : ℕ) (w : List Frame) → Balanced (plug leaf w) → Balanced (hang s w)
unfolding hang Settles
hang_balanced s [] b = record { calm = (tt, tt, tt, tt); even = (tt, tt, refl); top = refl }
hang_balanced s (f ∷ w) b =
    climb_settles (node red leaf s leaf) (f ∷ w) 0 refl (ranked_nod lft red s tt tt ranked_leaf ranked_leaf)
    (unplug leaf (f ∷ w) b).around
