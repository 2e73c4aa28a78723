-- A descent over a drawing, by any comparisons, ends where the descent in the tree ends, and keeps what that one keeps.
use Prim.Native.Nat.{ℕ, zero, suc, ◌≤◌}
use mathlib.Core.Path.{◌≡◌}
use mathlib.Core.List.{List, [], ◌∷◌}
use native.Mathlib.Omega.{arith}
use lib.ListN.{length-map}
use borrow.Author.Tests.{ne_eqb}
use Rattle.model.specs.Tree.{Side, lft, rgt, Color, Tree, leaf, node, nod, Frame, frame, framed, plug}
use Rattle.model.specs.Draw.{lay, draw}
use Rattle.model.specs.Descent.{Step, leftward, rightward, halt, follow, landing, descend, path, probes}
use Rattle.theory.specs.Balance.{height}
use Rattle.theory.specs.Sound.{Sound}
use Rattle.theory.specs.Links.{drawn}
use Rattle.theory.specs.Trail.{step_down, stay_here, descend_in, trail_at, trail_of, search_in}
use Rattle.theory.proofs.Counts.{slot_low}
use Rattle.theory.proofs.Reading.{near_drawn}

-- ---- one step

step_down_lem : {C : ℕ} (d : Side) (c : Color) (near : Tree) (x : ℕ) (far : Tree) (w : List Frame)
    → Sound C (plug (nod d c near x far) w)
    → step_down d (drawn C (plug (nod d c near x far) w)) (trail_at (nod d c near x far) w)
    ≡ trail_at near (frame d c x far ∷ w)
unfolding step_down trail_at
step_down_lem lft c near x far w h = rw (near_drawn lft c near x far w h)
step_down_lem rgt c near x far w h = rw (near_drawn rgt c near x far w h)

step_leaf : (w : List Frame) → trail_at leaf w ≡ trail_of (landing leaf w)
unfolding trail_at trail_of probes path
step_leaf w = rw (length-map w framed)

step_here : (c : Color) (l : Tree) (x : ℕ) (r : Tree) (w : List Frame)
    → stay_here (trail_at (node c l x r) w) ≡ trail_of (landing (node c l x r) w)
unfolding stay_here trail_at trail_of probes path
step_here c l x r w = rw (length-map w framed)

-- two descents that agree on each way agree
follow_same : {A B : Type 0} (f : B → A) (s : Step) (l r h : A) (l' r' h' : B) → l ≡ f l' → r ≡ f r' → h ≡ f h'
    → follow s (λ _. l) (λ _. r) (λ _. h) ≡ f (follow s (λ _. l') (λ _. r') (λ _. h'))
follow_same f leftward l r h l' r' h' i j k = i
follow_same f rightward l r h l' r' h' i j k = j
follow_same f halt l r h l' r' h' i j k = k

-- ---- the whole descent

module _ {C : ℕ} (step : ℕ → Step) where
  pub descend_drawn : (n : ℕ) (t : Tree) (w : List Frame) → height t ≤ n → Sound C (plug t w)
      → descend_in step n (drawn C (plug t w)) (trail_at t w) ≡ trail_of (descend step t w)
  unfolding descend_in trail_at
  descend_drawn zero leaf w le h = step_leaf w
  descend_drawn (suc n) leaf w le h = step_leaf w
  descend_drawn zero (node c l x r) w le h = absurd (omega arith)
  descend_drawn (suc n) (node c l x r) w le h =
      let low = slot_low lft c l x r w h in
      rw (ne_eqb x 0 (λ e. omega arith), step_down_lem lft c l x r w h, step_down_lem rgt c r x l w h)
      (follow_same trail_of (step x) _ _ _ _ _ _
      (descend_drawn n l (frame lft c x r ∷ w) (omega arith) h)
      (descend_drawn n r (frame rgt c x l ∷ w) (omega arith) h)
      (step_here c l x r w))

  pub search_drawn : (n : ℕ) (t : Tree) → height t ≤ n → Sound C t
      → search_in step n (drawn C t) ≡ trail_of (descend step t [])
  unfolding search_in drawn draw lay trail_at
  search_drawn n t = descend_drawn n t []
