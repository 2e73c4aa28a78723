-- What each of the twelve operations means on the in-order list: the slots of the tree after it, the slot that it
-- answers, and how many nodes its descent meets.
use Prim.Native.Nat.{ℕ, ◌≤◌}
use mathlib.Core.List.{List, [], ◌∷◌}
use mathlib.Core.Logic.{inl, inr, ⊎_elim}
use mathlib.Core.Option.{Option, none, some}
use mathlib.Core.Path.{◌≡◌, refl, sym, ◌∙◌}
use native.Mathlib.Omega.{arith}
use Rattle.model.specs.Tree.{lft, rgt, red, Tree, leaf, node, slots, Frame, plug}
use Rattle.model.specs.Lent.{Lent}
use Rattle.model.specs.WellFormed.{Rising}
use Rattle.model.specs.Hanging.{hung_tree}
use Rattle.model.specs.Removal.{Focus, focus}
use Rattle.model.specs.Shape.{entered_tree, unmended}
use Rattle.model.specs.Commands.{Command, insert, or_insert, find, lower_bound, upper_bound, remove, next, prev}
use Rattle.model.specs.Commands.{insert_after, insert_before, replace_with, clear}
use Rattle.model.specs.Order.{insert_in, exchange, list_after, Told}
use Rattle.model.specs.Descent.{Landing, probes, insert_step, insert_landing, find_step, find_landing, lower_step}
use Rattle.model.specs.Descent.{lower_landing, upper_step, upper_landing, Entry, occupied, vacant, entry_for}
use Rattle.model.specs.Operations.{place_after, place_before, accept, hang_at, enter, tell}
use Rattle.theory.specs.Balance.{height}
use Rattle.theory.specs.Sound.{Sound}
use Rattle.theory.specs.Orders.{Positioned}
use Rattle.theory.proofs.Lists.{exchange_none}
use Rattle.theory.proofs.Focus.{focus_some, focus_none}
use Rattle.theory.proofs.Positions.{place_next_slots, place_after_next, place_before_next}
use Rattle.theory.proofs.Exchanges.{spliced_exchange, replaced_slots}
use Rattle.theory.proofs.Descents.{path_height}
use Rattle.theory.proofs.Bounds.{lower_first, upper_first, insert_slots}
use Rattle.theory.proofs.Finds.{entry_cases, find_told}

-- ---- the slots of the tree before it is mended

-- the colour of a slot that was just hung does not matter
slots_hung : (s : ℕ) (w : List Frame) → slots (hung_tree s w) ≡ slots (plug (node red leaf s leaf) w)
unfolding hung_tree
slots_hung s [] = refl
slots_hung s (f ∷ w) = refl

inserted_slots : (key : ℕ → ℕ) (s k : ℕ) (t : Tree) → Rising key 0 (slots t)
    → slots (hung_tree s (insert_landing key k t).way) ≡ insert_in key s k (slots t)
inserted_slots key s k t rising = slots_hung s (insert_landing key k t).way ∙ insert_slots key s k t red rising

entered_slots : (key : ℕ → ℕ) (s k : ℕ) (t : Tree) → Rising key 0 (slots t)
    → slots (unmended (or_insert s k) key t) ≡ list_after key (or_insert s k) (slots t)
unfolding unmended entered_tree list_after
entered_slots key s k t rising = ⊎_elim
    (λ h. rw (h.1.entry, h.1.held))
    (λ h. rw (h.entry, h.held, h.same) (inserted_slots key s k t rising))
    (entry_cases key k t rising)

spliced_out : {C : ℕ} (key : ℕ → ℕ) (p : ℕ) (t : Tree) → Sound C t
    → slots (unmended (remove p) key t) ≡ exchange p [] (slots t)
unfolding unmended
spliced_out key p t sound = go (focus p t []) refl
  where
    go : (o : Option Focus) → focus p t [] ≡ o → slots (unmended (remove p) key t) ≡ exchange p [] (slots t)
    go none e = rw e (sym (exchange_none p [] (slots t) (focus_none p t [] e)))
    go (some f) e =
        let v = focus_some p t [] f e in
        rw (e, v.same, ← v.whole)
        (spliced_exchange f.color f.left p f.right f.way (rw (← v.whole) at sound))

-- The in-order list of the tree that a command leaves is the list rule's.
pub unmended_slots : {C : ℕ} (key : ℕ → ℕ) (c : Command) (t : Tree) → Sound C t → Rising key 0 (slots t)
    → Positioned c (slots t) → slots (unmended c key t) ≡ list_after key c (slots t)
unfolding unmended list_after
unmended_slots key (insert s k) t sound rising at = inserted_slots key s k t rising
unmended_slots key (or_insert s k) t sound rising at = entered_slots key s k t rising
unmended_slots key (find k) t sound rising at = refl
unmended_slots key (lower_bound b k) t sound rising at = refl
unmended_slots key (upper_bound b k) t sound rising at = refl
unmended_slots key (remove p) t sound rising at = spliced_out key p t sound
unmended_slots key (next p) t sound rising at = refl
unmended_slots key (prev p) t sound rising at = refl
unmended_slots key (insert_after p s k) t sound rising at =
    slots_hung s (place_after p t) ∙ rw (place_after_next p t) (place_next_slots rgt p t red s sound (at p refl))
unmended_slots key (insert_before p s k) t sound rising at =
    slots_hung s (place_before p t) ∙ rw (place_before_next p t) (place_next_slots lft p t red s sound (at p refl))
unmended_slots key (replace_with p s k) t sound rising at = replaced_slots p s t sound
unmended_slots key clear t sound rising at = refl

-- ---- the answer

entered_told : (key : ℕ → ℕ) (s k : ℕ) (t : Tree) (m : Lent) → Rising key 0 (slots t)
    → Told key (or_insert s k) (slots t) (accept (or_insert s k) key t m).answer.slot
unfolding accept enter hang_at
entered_told key s k t m rising = ⊎_elim
    (λ h. inl (rw h.1.entry h.1.holding)) (λ h. inr (h.lacking, rw h.entry)) (entry_cases key k t rising)

-- The slot that an accepted command answers is the one that the list rule names.
pub accept_told : (key : ℕ → ℕ) (c : Command) (t : Tree) (m : Lent) → Rising key 0 (slots t)
    → Told key c (slots t) (accept c key t m).answer.slot
unfolding accept hang_at tell
accept_told key (insert s k) t m rising = refl
accept_told key (or_insert s k) t m rising = entered_told key s k t m rising
accept_told key (find k) t m rising = find_told key k t rising
accept_told key (lower_bound b k) t m rising = lower_first key b k t rising
accept_told key (upper_bound b k) t m rising = upper_first key b k t rising
accept_told key (remove p) t m rising = refl
accept_told key (next p) t m rising = refl
accept_told key (prev p) t m rising = refl
accept_told key (insert_after p s k) t m rising = refl
accept_told key (insert_before p s k) t m rising = refl
accept_told key (replace_with p s k) t m rising = refl
accept_told key clear t m rising = refl

-- ---- the probes

entered_probes : (e : Entry) (d : Landing) (s k : ℕ) (m : Lent) → (enter e d s k m).answer.probes ≡ probes d
unfolding enter hang_at
entered_probes (occupied x) d s k m = refl
entered_probes (vacant p e) d s k m = refl

-- An accepted command counts at most as many nodes as the longest way down has.
pub accept_probes : (key : ℕ → ℕ) (c : Command) (t : Tree) (m : Lent) → (accept c key t m).answer.probes ≤ height t
unfolding accept hang_at tell probes insert_landing find_landing lower_landing upper_landing
accept_probes key (insert s k) t m = path_height (insert_step key k) t
accept_probes key (or_insert s k) t m =
    rw (entered_probes (entry_for key k t) (find_landing key k t) s k m) (path_height (find_step key k) t)
accept_probes key (find k) t m = path_height (find_step key k) t
accept_probes key (lower_bound b k) t m = path_height (lower_step key b k) t
accept_probes key (upper_bound b k) t m = path_height (upper_step key b k) t
accept_probes key (remove p) t m = omega arith
accept_probes key (next p) t m = omega arith
accept_probes key (prev p) t m = omega arith
accept_probes key (insert_after p s k) t m = omega arith
accept_probes key (insert_before p s k) t m = omega arith
accept_probes key (replace_with p s k) t m = omega arith
accept_probes key clear t m = omega arith
