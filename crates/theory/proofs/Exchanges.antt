-- What replacing a slot and splicing a node out make of the in-order list.
use Prim.Native.Nat.{ℕ}
use mathlib.Core.List.{List, [], ◌∷◌, ◌++◌, append_assoc, append-nil}
use mathlib.Core.Option.{Option, none, some}
use mathlib.Core.Path.{◌≡◌, refl, sym, ◌∙◌}
use Rattle.model.specs.Tree.{lft, rgt, Color, Tree, leaf, node, slots, Frame, frame, plug}
use Rattle.model.specs.Order.{exchange}
use Rattle.model.specs.Removal.{Focus, focus, first_of, move_up, spliced, spliced_tree, replaced}
use Rattle.theory.specs.Sound.{Sound}
use Rattle.theory.specs.Lists.{before, after, end_place}
use Rattle.theory.proofs.Lists.{slots_around, slots_at, before_append, after_append, sound_alone, exchange_at}
use Rattle.theory.proofs.Lists.{exchange_none}
use Rattle.theory.proofs.Focus.{focus_some, focus_none}
use Rattle.theory.proofs.Positions.{end_place_near, end_place_after}

-- what comes in the place of a node's slot, in a sound tree
pub exchange_node : {C : ℕ} (c : Color) (l : Tree) (x : ℕ) (r : Tree) (w : List Frame) (new : List ℕ)
    → Sound C (plug (node c l x r) w)
    → exchange x new (slots (plug (node c l x r) w)) ≡ before w ++ (slots l ++ (new ++ (slots r ++ after w)))
exchange_node c l x r w new sound =
    rw (
      slots_at c l x r w,
      exchange_at (before w ++ slots l) x new (slots r ++ after w) (sound_alone c l x r w sound).0,
    )
    (append_assoc (before w) (slots l) (new ++ (slots r ++ after w)))

-- replaced: the new slot stands where the old one stood
pub replaced_slots : {C : ℕ} (p s : ℕ) (t : Tree) → Sound C t → slots (replaced p s t) ≡ exchange p (s ∷ []) (slots t)
unfolding replaced
replaced_slots p s t sound = go (focus p t []) refl
  where
    go : (o : Option Focus) → focus p t [] ≡ o → slots (replaced p s t) ≡ exchange p (s ∷ []) (slots t)
    go none e = rw e (sym (exchange_none p (s ∷ []) (slots t) (focus_none p t [] e)))
    go (some f) e =
        let v = focus_some p t [] f e in
        rw (e, ← v.whole, exchange_node f.color f.left p f.right f.way (s ∷ []) (rw (← v.whole) at sound))
        (slots_around (node f.color f.left s f.right) f.way ∙ simp append_assoc)

-- the first node of a tree lies above the empty place at its left end
first_of_end : (c : Color) (l : Tree) (x : ℕ) (r : Tree) (w : List Frame)
    → end_place lft (node c l x r) w
    ≡ frame lft (first_of c l x r w).color (first_of c l x r w).slot (first_of c l x r w).right
    ∷ (first_of c l x r w).way
first_of_end c leaf x r w = refl
first_of_end c (node k a y b) x r w = first_of_end k a y b (frame lft c x r ∷ w)

-- the first slot of the right child moves into the node's place
move_up_slots : (f : Focus) (c : Color) (l r : Tree) (w : List Frame)
    → end_place lft r [] ≡ frame lft f.color f.slot f.right ∷ f.way
    → slots (spliced_tree (move_up f c l w)) ≡ before w ++ (slots l ++ (slots r ++ after w))
unfolding spliced_tree
move_up_slots f c l r w h =
    let front : before f.way ≡ [] = rw h at (end_place_near lft r []) in
    let rest : f.slot ∷ (slots f.right ++ after f.way) ≡ slots r ++ [] = rw h at (end_place_after r []) in
    rw (
      slots_around f.right (f.way ++ frame rgt c f.slot l ∷ w),
      before_append f.way (frame rgt c f.slot l ∷ w),
      front,
      after_append f.way (frame rgt c f.slot l ∷ w),
      ← append-nil (slots r),
      ← rest,
    )
    (simp (append_assoc, append-nil))

-- spliced: the slot is gone, all others stand as they stood
pub spliced_slots : (c : Color) (l : Tree) (x : ℕ) (r : Tree) (w : List Frame)
    → slots (spliced_tree (spliced c l x r w)) ≡ before w ++ (slots l ++ (slots r ++ after w))
unfolding spliced_tree
spliced_slots c leaf x r w = slots_around r w
spliced_slots c (node k a y b) x leaf w = slots_around (node k a y b) w
spliced_slots c (node k a y b) x (node q d z e) w =
    move_up_slots (first_of q d z e []) c (node k a y b) (node q d z e) w (first_of_end q d z e [])

-- which is what the list rule for removing says
pub spliced_exchange : {C : ℕ} (c : Color) (l : Tree) (x : ℕ) (r : Tree) (w : List Frame)
    → Sound C (plug (node c l x r) w)
    → slots (spliced_tree (spliced c l x r w)) ≡ exchange x [] (slots (plug (node c l x r) w))
spliced_exchange c l x r w sound = spliced_slots c l x r w ∙ sym (exchange_node c l x r w [] sound)
