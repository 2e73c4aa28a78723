-- Making up for the missing black after a removal: at most three rotations, and the same in-order list.
use Prim.Native.Nat.{ℕ, suc, ◌+◌, ◌≤◌}
use mathlib.Core.Path.{◌≡◌, refl, ap, sym, ◌∙◌}
use mathlib.Core.Bool.{true, false, true≢false}
use mathlib.Core.List.{List, [], ◌∷◌, ◌++◌}
use native.Mathlib.Omega.{arith}
use Rattle.model.specs.Tree.{Side, lft, rgt, Color, red, black, Tree, leaf, node, opp, nod, top_of, child_tree, is_red}
use Rattle.model.specs.Tree.{paint, paint_child, rotate, slots, Frame, frame, plug}
use Rattle.model.specs.Removal.{spliced, spliced_tree, red_child, turn_inner, turn_last, root_or_red, below_black}
use Rattle.model.specs.Removal.{below_red}
use Rattle.model.specs.Removal.{refill, mend, mend_splice, take_out, focus_on, first_of}
use Rattle.model.specs.Shape.{shape, TurnedAtMost}
use Rattle.theory.specs.Sound.{one, count, Sound}
use Rattle.theory.proofs.Branch.{by-test}
use Rattle.theory.proofs.Sides.{nod_opp}
use Rattle.theory.proofs.Counts.{count_plug, sound_less}
use Rattle.theory.proofs.Lists.{count_same}
use Rattle.theory.proofs.Turned.{shape_paint, shape_paint_child, shape_children, turned_slots, turned_none}
use Rattle.theory.proofs.Turned.{turned_more, turned_rotate, turned_paint}

turn_inner_turned : {n : ℕ} (v : Tree) (d : Side) (s : Tree) (w : List Frame)
    → TurnedAtMost n v (plug s w) → TurnedAtMost (suc n) v (plug (turn_inner d s) w)
unfolding turn_inner
turn_inner_turned v d s w h =
    by-test (is_red (child_tree (opp d) s))
    (λ is. rw is (turned_more v (plug s w) (omega arith) h))
    (λ is. rw is (turned_rotate v (opp d) (paint red (paint_child d black s)) w
    (turned_paint v s (paint red (paint_child d black s)) w
    (shape_paint red (paint_child d black s) ∙ shape_paint_child d black s) h)))

turn_last_turned : {n : ℕ} (v : Tree) (d : Side) (c : Color) (t : Tree) (q : ℕ) (s : Tree) (w : List Frame)
    → TurnedAtMost n v (plug (nod d c t q s) w) → TurnedAtMost (suc n) v (plug (turn_last d c t q s) w)
unfolding turn_last
turn_last_turned v d c t q s w h =
    let painted = paint c (paint_child (opp d) black s) in
    turned_rotate v d (nod d black t q painted) w
    (turned_paint v (nod d c t q s) (nod d black t q painted) w
    (shape_children d black c t t q painted s refl
    (shape_paint c (paint_child (opp d) black s) ∙ shape_paint_child (opp d) black s)) h)

-- below a black sibling s: at most two more
below_turned : {n m : ℕ} (v : Tree) (d : Side) (c : Color) (t : Tree) (q : ℕ) (s : Tree) (up : List Frame)
    (repeat : Tree → Tree)
    → suc (suc n) ≤ m → TurnedAtMost n v (plug (nod d c t q s) up)
    → (root_or_red c up ≡ false → TurnedAtMost m v (repeat (nod d c t q (paint red s))))
    → TurnedAtMost m v (below_black d c t q s up repeat)
unfolding below_black
below_turned {n} v d c t q s up repeat le h again =
    by-test (red_child s)
    (λ is. rw is (turned_more v (plug (turn_last d c t q (turn_inner d s)) up) le
    (turn_last_turned v d c t q (turn_inner d s) up (beside (turn_inner d s)
    (turn_inner_turned v d s (frame (opp d) c q t ∷ up) (beside' s h))))))
    (λ is. rw is (by-test (root_or_red c up)
    (λ ends. rw ends (turned_more v (plug (nod d black t q (paint red s)) up) (omega arith)
    (turned_paint v (nod d c t q s) (nod d black t q (paint red s)) up
    (shape_children d black c t t q (paint red s) s refl (shape_paint red s)) h)))
    (λ goes. rw goes (again goes))))
  where
    -- the sibling's place, seen from the other side
    beside : {k : ℕ} (s : Tree) → TurnedAtMost k v (plug s (frame (opp d) c q t ∷ up))
        → TurnedAtMost k v (plug (nod d c t q s) up)
    beside s h = rw (nod_opp d c t q s) at h

    beside' : {k : ℕ} (s : Tree) → TurnedAtMost k v (plug (nod d c t q s) up)
        → TurnedAtMost k v (plug s (frame (opp d) c q t ∷ up))
    beside' s h = rw (nod_opp d c t q s) h

-- a red sibling s comes up
raised : (d : Side) (c : Color) (t : Tree) (q : ℕ) (s : Tree) → is_red s ≡ true
    → shape (nod d black (nod d red t q (child_tree d s)) (top_of s) (child_tree (opp d) s))
    ≡ shape (rotate d (nod d c t q s))
raised d c t q leaf is = absurd (true≢false (sym is))
raised lft c t q (node k l y r) is = refl
raised rgt c t q (node k l y r) is = refl

refill_turned : (v t : Tree) (w : List Frame) → TurnedAtMost 0 v (plug t w) → TurnedAtMost 3 v (refill t w)
unfolding refill below_red
refill_turned v t [] h = turned_more v t (omega arith) h
refill_turned v t (frame d c q s ∷ up) h =
    by-test (is_red s)
    (λ is. rw is (below_turned v d red t q (child_tree d s)
    (frame d black (top_of s) (child_tree (opp d) s) ∷ up) (λ t. t) (omega arith)
    (turned_paint v (rotate d (nod d c t q s)) _ up (raised d c t q s is) (turned_rotate v d (nod d c t q s) up h))
    (λ goes. absurd (true≢false goes))))
    (λ is. rw is (below_turned v d c t q s up (λ t. refill t up) (omega arith) h
    (λ _. refill_turned v (nod d c t q (paint red s)) up
    (turned_paint v (nod d c t q s) (nod d c t q (paint red s)) up
    (shape_children d c c t t q (paint red s) s refl (shape_paint red s)) h))))

mend_turned : (c : Color) (t : Tree) (w : List Frame) → TurnedAtMost 3 (plug t w) (mend c t w)
unfolding mend
mend_turned red t w = turned_more (plug t w) (plug t w) (omega arith) (turned_none (plug t w) (plug t w) refl)
mend_turned black leaf w = refill_turned (plug leaf w) leaf w (turned_none (plug leaf w) (plug leaf w) refl)
mend_turned black (node c l x r) w =
    let v = plug (node c l x r) w in
    turned_more v (plug (node black l x r) w) (omega arith)
    (turned_paint v (node c l x r) (node black l x r) w refl (turned_none v v refl))

-- 01, demand 3: at most three rotations lead from the spliced tree to the tree after a removal
pub take_out_turned : (c : Color) (l : Tree) (x : ℕ) (r : Tree) (w : List Frame)
    → TurnedAtMost 3 (spliced_tree (spliced c l x r w)) (take_out (focus_on c l x r w))
unfolding take_out mend_splice spliced_tree
take_out_turned c l x r w = let s = spliced c l x r w in mend_turned s.lost s.child s.way

pub take_out_slots : (c : Color) (l : Tree) (x : ℕ) (r : Tree) (w : List Frame)
    → slots (take_out (focus_on c l x r w)) ≡ slots (spliced_tree (spliced c l x r w))
take_out_slots c l x r w =
    turned_slots (spliced_tree (spliced c l x r w)) (take_out (focus_on c l x r w)) (take_out_turned c l x r w)

pub take_out_count : (c : Color) (l : Tree) (x : ℕ) (r : Tree) (w : List Frame) (s : ℕ)
    → count (take_out (focus_on c l x r w)) s ≡ count (spliced_tree (spliced c l x r w)) s
take_out_count c l x r w =
    count_same (spliced_tree (spliced c l x r w)) (take_out (focus_on c l x r w)) (take_out_slots c l x r w)

-- ---- the node that comes up from inside the right child

pub plug_append : (t : Tree) (v w : List Frame) → plug t (v ++ w) ≡ plug (plug t v) w
plug_append t [] w = refl
plug_append t (frame d c p s ∷ v) w = plug_append (nod d c t p s) v w

-- the first node of a tree has no left child, and stands in the tree
pub first_left : (c : Color) (l : Tree) (x : ℕ) (r : Tree) (w : List Frame) → (first_of c l x r w).left ≡ leaf
first_left c leaf x r w = refl
first_left c (node k a y b) x r w = first_left k a y b (frame lft c x r ∷ w)

pub first_plug : (c : Color) (l : Tree) (x : ℕ) (r : Tree) (w : List Frame)
    → let y = first_of c l x r w in plug (node y.color leaf y.slot y.right) y.way ≡ plug (node c l x r) w
first_plug c leaf x r w = refl
first_plug c (node k a y b) x r w = first_plug k a y b (frame lft c x r ∷ w)

-- the spliced tree lacks the one slot
pub spliced_count : (c : Color) (l : Tree) (x : ℕ) (r : Tree) (w : List Frame) (s : ℕ)
    → one x s + count (spliced_tree (spliced c l x r w)) s ≡ count (plug (node c l x r) w) s
unfolding spliced_tree
spliced_count c leaf x r w s = omega (arith, count_plug r w s, count_plug (node c leaf x r) w s)
spliced_count c (node k a y b) x leaf w s =
    omega (arith, count_plug (node k a y b) w s, count_plug (node c (node k a y b) x leaf) w s)
spliced_count c (node k a y b) x (node q l z r) w s =
    let f = first_of q l z r [] in let n = node k a y b in let up = plug f.right f.way in
    omega (
      arith,
      ap (λ (t : Tree). count t s) (plug_append f.right f.way (frame rgt c f.slot n ∷ w)),
      count_plug (node c n f.slot up) w s,
      count_plug (node c n x (node q l z r)) w s,
      count_plug f.right f.way s,
      count_plug (node f.color leaf f.slot f.right) f.way s,
      ap (λ (t : Tree). count t s) (first_plug q l z r []),
    )

pub take_out_sound : {C : ℕ} (c : Color) (l : Tree) (x : ℕ) (r : Tree) (w : List Frame)
    → Sound C (plug (node c l x r) w) → Sound C (take_out (focus_on c l x r w))
take_out_sound c l x r w = sound_less (plug (node c l x r) w) (take_out (focus_on c l x r w))
    (λ s. omega (arith, take_out_count c l x r w s, spliced_count c l x r w s))
