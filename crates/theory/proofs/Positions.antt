-- What stands next to a slot in the in-order list, and where the cursor rule puts a new slot.
use Prim.Native.Nat.{ℕ}
use mathlib.Core.List.{List, [], ◌∷◌, ◌++◌, reverse, append_assoc, append-nil, reverse-append, Memᴰ}
use mathlib.Core.List.Memᴰ
use mathlib.Core.Logic.{◌⊎◌, inl, inr}
use mathlib.Core.Path.{◌≡◌, refl, sym, ◌∙◌}
use borrow.Author.Tests.{ne_eqb}
use Rattle.model.specs.Tree.{Side, lft, rgt, Color, Tree, leaf, node, opp, nod, slots, Frame, frame, plug}
use Rattle.model.specs.Order.{first_slot, next_in, prev_in, after_in, before_in}
use Rattle.model.specs.Operations.{place_beside, place_after, place_before}
use Rattle.theory.specs.Sound.{Sound}
use Rattle.theory.specs.Lists.{before, after, beyond, facing, end_place, place_next, beside_in}
use Rattle.theory.specs.Focus.{Standing}
use Rattle.theory.proofs.Lists.{slots_around, slots_at, sound_alone, sound_zero, sound_node, reverse_at}
use Rattle.theory.proofs.Lists.{member_reverse, following_at, exchange_at}
use Rattle.theory.proofs.Focus.{standing, place_beside_at, lacks_child_at, place_beside_none, lacks_child_none}

-- ---- next and prev

-- a step to the side d from the node x: into its child there, and otherwise beyond the place
pub next_at : {C : ℕ} (d : Side) (c : Color) (near : Tree) (x : ℕ) (far : Tree) (w : List Frame)
    → Sound C (plug (nod d c near x far) w)
    → next_in x (facing d (slots (plug (nod d c near x far) w)))
    ≡ first_slot (facing d (slots near) ++ facing d (beyond d w))
unfolding next_in
next_at rgt c near x far w sound =
    rw (ne_eqb x 0 (sound_node c far x near w sound), slots_at c far x near w)
    (following_at (before w ++ slots far) x (slots near ++ after w) (sound_alone c far x near w sound).0)
next_at lft c near x far w sound =
    rw (
      ne_eqb x 0 (sound_node c near x far w sound),
      slots_at c near x far w,
      reverse_at (before w ++ slots near) x (slots far ++ after w),
    )
    (following_at (reverse (slots far ++ after w)) x (reverse (before w ++ slots near))
    (λ m. (sound_alone c near x far w sound).1 (member_reverse x (slots far ++ after w) m))
    ∙ rw (reverse-append (before w) (slots near)))

-- ---- the place at an end of a tree

-- it is empty
pub end_place_plug : (d : Side) (t : Tree) (w : List Frame) → plug leaf (end_place d t w) ≡ plug t w
end_place_plug d leaf w = refl
end_place_plug lft (node c l x r) w = end_place_plug lft l (frame lft c x r ∷ w)
end_place_plug rgt (node c l x r) w = end_place_plug rgt r (frame rgt c x l ∷ w)

-- nothing of the tree stands beyond it on that side, and all of it on the other
pub end_place_near : (d : Side) (t : Tree) (w : List Frame) → beyond d (end_place d t w) ≡ beyond d w
end_place_near lft leaf w = refl
end_place_near rgt leaf w = refl
end_place_near lft (node c l x r) w = end_place_near lft l (frame lft c x r ∷ w)
end_place_near rgt (node c l x r) w = end_place_near rgt r (frame rgt c x l ∷ w)

pub end_place_after : (t : Tree) (w : List Frame) → after (end_place lft t w) ≡ slots t ++ after w
end_place_after leaf w = refl
end_place_after (node c l x r) w =
    end_place_after l (frame lft c x r ∷ w) ∙ sym (append_assoc (slots l) (x ∷ slots r) (after w))

pub end_place_before : (t : Tree) (w : List Frame) → before (end_place rgt t w) ≡ before w ++ slots t
end_place_before leaf w = sym (append-nil (before w))
end_place_before (node c l x r) w = end_place_before r (frame rgt c x l ∷ w) ∙ simp append_assoc

first_append : (K : List ℕ) (x : ℕ) (L M : List ℕ) → first_slot ((K ++ x ∷ L) ++ M) ≡ first_slot (K ++ x ∷ L)
first_append [] x L M = refl
first_append (y ∷ K) x L M = refl

pub first_facing : (d : Side) (c : Color) (l : Tree) (x : ℕ) (r : Tree) (L : List ℕ)
    → first_slot (facing d (slots (node c l x r)) ++ L) ≡ first_slot (facing d (slots (node c l x r)))
first_facing rgt c l x r L = first_append (slots l) x (slots r) L
first_facing lft c l x r L =
    rw (reverse_at (slots l) x (slots r)) (first_append (reverse (slots r)) x (reverse (slots l)) L)

-- it lies beside the first slot that a walk to the other side meets
place_beside_end : {C : ℕ} (d : Side) (c : Color) (l : Tree) (x : ℕ) (r : Tree) (w : List Frame)
    → Sound C (plug (node c l x r) w)
    → place_beside (opp d) (first_slot (facing d (slots (node c l x r)))) (plug (node c l x r) w)
    ≡ end_place (opp d) (node c l x r) w
place_beside_end rgt c leaf x r w sound = place_beside_at lft c leaf x r w sound
place_beside_end rgt c (node k a y b) x r w sound =
    rw (first_facing rgt k a y b (x ∷ slots r)) (place_beside_end rgt k a y b (frame lft c x r ∷ w) sound)
place_beside_end lft c l x leaf w sound =
    rw (reverse_at (slots l) x []) (place_beside_at rgt c leaf x l w sound)
place_beside_end lft c l x (node k a y b) w sound =
    rw (reverse_at (slots l) x (slots (node k a y b)), first_facing lft k a y b (x ∷ reverse (slots l)))
    (place_beside_end lft k a y b (frame rgt c x l ∷ w) sound)

-- ---- the cursor rule

-- next to a node it gives the near end of the child there
pub place_next_at : {C : ℕ} (d : Side) (c : Color) (near : Tree) (p : ℕ) (far : Tree) (w : List Frame)
    → Sound C (plug (nod d c near p far) w)
    → place_next d p (plug (nod d c near p far) w) ≡ end_place (opp d) near (frame d c p far ∷ w)
unfolding place_next
place_next_at d c leaf p far w sound = rw (lacks_child_at d c leaf p far w sound)
    (place_beside_at d c leaf p far w sound)
place_next_at d c (node k a y b) p far w sound =
    rw (
      lacks_child_at d c (node k a y b) p far w sound,
      next_at d c (node k a y b) p far w sound,
      first_facing d k a y b (facing d (beyond d w)),
    )
    (place_beside_end d k a y b (frame d c p far ∷ w) sound)

-- and at 0 that of the whole tree
pub place_next_zero : {C : ℕ} (d : Side) (t : Tree) → Sound C t → place_next d 0 t ≡ end_place (opp d) t []
unfolding place_next next_in
place_next_zero d leaf sound =
    rw (lacks_child_none d 0 leaf (sound_zero sound))
    (place_beside_none (opp d) (next_in 0 (facing d [])) leaf (λ m. Memᴰ.not-nil m))
place_next_zero d (node c l x r) sound =
    rw (lacks_child_none d 0 (node c l x r) (sound_zero sound)) (place_beside_end d c l x r [] sound)

-- the place is empty
pub place_next_plug : {C : ℕ} (d : Side) (p : ℕ) (t : Tree) → Sound C t → (p ≡ 0) ⊎ Memᴰ p (slots t)
    → plug leaf (place_next d p t) ≡ t
place_next_plug d p t sound (inl e) = rw (e, place_next_zero d t sound) (end_place_plug (opp d) t [])
place_next_plug d p t sound (inr m) = go (standing d p t m)
  where
    go : Standing d p t → plug leaf (place_next d p t) ≡ t
    go v =
        rw (← v.whole, place_next_at d v.color v.near p v.far v.way (rw (← v.whole) at sound))
        (end_place_plug (opp d) v.near (frame d v.color p v.far ∷ v.way))

-- a slot that hangs there stands next to the position
slots_next : {C : ℕ} (d : Side) (c : Color) (near : Tree) (p : ℕ) (far : Tree) (w : List Frame) (k : Color) (s : ℕ)
    → Sound C (plug (nod d c near p far) w)
    → slots (plug (node k leaf s leaf) (end_place (opp d) near (frame d c p far ∷ w)))
    ≡ beside_in d p s (slots (plug (nod d c near p far) w))
unfolding after_in before_in
slots_next rgt c near p far w k s sound =
    rw (
      slots_around (node k leaf s leaf) (end_place lft near (frame rgt c p far ∷ w)),
      end_place_near lft near (frame rgt c p far ∷ w),
      end_place_after near (frame rgt c p far ∷ w),
      ne_eqb p 0 (sound_node c far p near w sound),
      slots_at c far p near w,
      exchange_at (before w ++ slots far) p (p ∷ s ∷ []) (slots near ++ after w) (sound_alone c far p near w sound).0,
    )
    (simp append_assoc)
slots_next lft c near p far w k s sound =
    rw (
      slots_around (node k leaf s leaf) (end_place rgt near (frame lft c p far ∷ w)),
      end_place_near rgt near (frame lft c p far ∷ w),
      end_place_before near (frame lft c p far ∷ w),
      ne_eqb p 0 (sound_node c near p far w sound),
      slots_at c near p far w,
      exchange_at (before w ++ slots near) p (s ∷ p ∷ []) (slots far ++ after w) (sound_alone c near p far w sound).0,
    )

slots_end : (d : Side) (t : Tree) (k : Color) (s : ℕ)
    → slots (plug (node k leaf s leaf) (end_place (opp d) t [])) ≡ beside_in d 0 s (slots t)
unfolding after_in before_in
slots_end rgt t k s =
    rw (
      slots_around (node k leaf s leaf) (end_place lft t []),
      end_place_near lft t [],
      end_place_after t [],
      append-nil (slots t),
    )
slots_end lft t k s =
    rw (slots_around (node k leaf s leaf) (end_place rgt t []), end_place_near rgt t [], end_place_before t [])

pub place_next_slots : {C : ℕ} (d : Side) (p : ℕ) (t : Tree) (k : Color) (s : ℕ) → Sound C t
    → (p ≡ 0) ⊎ Memᴰ p (slots t) → slots (plug (node k leaf s leaf) (place_next d p t)) ≡ beside_in d p s (slots t)
place_next_slots d p t k s sound (inl e) = rw (e, place_next_zero d t sound) (slots_end d t k s)
place_next_slots {C} d p t k s sound (inr m) = go (standing d p t m)
  where
    go : Standing d p t → slots (plug (node k leaf s leaf) (place_next d p t)) ≡ beside_in d p s (slots t)
    go v =
        let there : Sound C (plug (nod d v.color v.near p v.far) v.way) = rw (← v.whole) at sound in
        rw (← v.whole, place_next_at d v.color v.near p v.far v.way there)
        (slots_next d v.color v.near p v.far v.way k s there)

-- the two operations are the rule at the two sides
pub place_after_next : (p : ℕ) (t : Tree) → place_after p t ≡ place_next rgt p t
unfolding place_after place_next
place_after_next p t = refl

pub place_before_next : (p : ℕ) (t : Tree) → place_before p t ≡ place_next lft p t
unfolding place_before place_next prev_in
place_before_next p t = refl
