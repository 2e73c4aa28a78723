-- The node with a given slot: where `focus` finds it, when it finds none, and what the operations on it come down to.
use Prim.Native.Nat.{ℕ}
use mathlib.Core.Bool.{Bool, true, false}
use mathlib.Core.List.Memᴰ
use mathlib.Core.List.{List, [], ◌∷◌, ◌++◌, Memᴰ}
use mathlib.Core.Logic.{◌⊎◌, inl, inr, ⊎_elim}
use mathlib.Core.Option.{Option, none, some}
use mathlib.Core.Path.{◌≡◌, refl, ◌∙◌}
use lib.Dec.{eqb}
use borrow.Author.Tests.{eqb-true, eqb-false, eq-eqb, ne_eqb}
use Rattle.model.specs.Branch.{choose}
use Rattle.model.specs.Tree.{Side, lft, rgt, Color, Tree, leaf, node, nod, is_leaf, slots, Frame, frame, plug}
use Rattle.model.specs.Removal.{Focus, focus_on, or_else, focus, take_out, removed, replaced}
use Rattle.model.specs.Operations.{place_beside, lacks_child}
use Rattle.theory.specs.Sound.{Sound}
use Rattle.theory.specs.Lists.{before, after}
use Rattle.theory.specs.Focus.{Focused, Standing}
use Rattle.theory.proofs.Lists.{sound_alone}

-- ---- what it finds

-- how a search came by its result that looks here, then on the left, then on the right
looked_some : (b : Bool) (here : Focus) (left right : Option Focus) (f : Focus)
    → choose b (λ _. some here) (λ _. or_else left (λ _. right)) ≡ some f
    → ((b ≡ true) × (f ≡ here)) ⊎ ((left ≡ some f) ⊎ (right ≡ some f))
looked_some true here left right f e = inl (refl, cc)
looked_some false here none right f e = inr (inr e)
looked_some false here (some g) right f e = inr (inl e)

looked_none : (b : Bool) (here : Focus) (left right : Option Focus)
    → choose b (λ _. some here) (λ _. or_else left (λ _. right)) ≡ none
    → (b ≡ false) × (left ≡ none) × (right ≡ none)
looked_none true here left right e = (cc, cc, cc)
looked_none false here none right e = (refl, refl, e)
looked_none false here (some g) right e = (refl, cc, cc)

-- a node that it finds has the slot and stands in the tree
pub focus_some : (s : ℕ) (t : Tree) (w : List Frame) (f : Focus) → focus s t w ≡ some f → Focused s (plug t w) f
focus_some s leaf w f e = record { same = cc; whole = cc }
focus_some s (node c l x r) w f e =
    ⊎_elim (λ h. here h.0 h.1) (⊎_elim
    (focus_some s l (frame lft c x r ∷ w) f)
    (focus_some s r (frame rgt c x l ∷ w) f))
    (looked_some (eqb s x) (focus_on c l x r w) (focus s l (frame lft c x r ∷ w)) (focus s r (frame rgt c x l ∷ w)) f e)
  where
    here : eqb s x ≡ true → f ≡ focus_on c l x r w → Focused s (plug (node c l x r) w) f
    here q e = rw (e, eqb-true s x q) (record { same = refl; whole = refl })

-- it finds none exactly when the slot isn't there
pub focus_none : (s : ℕ) (t : Tree) (w : List Frame) → focus s t w ≡ none → ¬ Memᴰ s (slots t)
focus_none s leaf w e m = Memᴰ.not-nil m
focus_none s (node c l x r) w e m =
    let h =
    looked_none (eqb s x) (focus_on c l x r w) (focus s l (frame lft c x r ∷ w)) (focus s r (frame rgt c x l ∷ w)) e in
    ⊎_elim (focus_none s l (frame lft c x r ∷ w) h.1)
    (λ n. ⊎_elim (eqb-false s x h.0) (focus_none s r (frame rgt c x l ∷ w) h.2) (Memᴰ.cases_cons n))
    (Memᴰ.append_cases (slots l) m)

pub none_focus : (s : ℕ) (t : Tree) (w : List Frame) → ¬ Memᴰ s (slots t) → focus s t w ≡ none
none_focus s leaf w a = refl
none_focus s (node c l x r) w a =
    rw (
      ne_eqb s x (λ e. a (Memᴰ.append_right (slots l) (Memᴰ.head e))),
      none_focus s l (frame lft c x r ∷ w) (λ m. a (Memᴰ.append_left (x ∷ slots r) m)),
    )
    (none_focus s r (frame rgt c x l ∷ w) (λ m. a (Memᴰ.append_right (slots l) (Memᴰ.tail m))))

-- a slot that stands in the tree is found
pub focus_member : (s : ℕ) (t : Tree) (w : List Frame) → Memᴰ s (slots t) → (f : Focus) × (focus s t w ≡ some f)
focus_member s t w m = go (focus s t w) refl
  where
    go : (o : Option Focus) → focus s t w ≡ o → (f : Focus) × (focus s t w ≡ some f)
    go none e = absurd (focus_none s t w e m)
    go (some f) e = (f, e)

-- so it has a place
pub standing : (d : Side) (x : ℕ) (t : Tree) → Memᴰ x (slots t) → Standing d x t
standing d x t m = go d (focus_member x t [] m)
  where
    go : (d : Side) → (f : Focus) × (focus x t [] ≡ some f) → Standing d x t
    go lft (f, e) =
        let v = focus_some x t [] f e in
        record { color = f.color; near = f.left; far = f.right; way = f.way; whole = v.whole }
    go rgt (f, e) =
        let v = focus_some x t [] f e in
        record { color = f.color; near = f.right; far = f.left; way = f.way; whole = v.whole }

-- ---- where the slot is known to stand

or_else_none : (o : Option Focus) → or_else o (λ _. none) ≡ o
or_else_none none = refl
or_else_none (some f) = refl

-- a search passes by the frames that don't hold the slot
focus_plug : (s : ℕ) (t : Tree) (w : List Frame) → ¬ Memᴰ s (before w) → ¬ Memᴰ s (after w)
    → focus s (plug t w) [] ≡ focus s t w
focus_plug s t [] a b = refl
focus_plug s t (frame lft c p u ∷ w) a b =
    focus_plug s (node c t p u) w a (λ m. b (Memᴰ.tail (Memᴰ.append_right (slots u) m)))
    ∙ rw (
      ne_eqb s p (λ e. b (Memᴰ.head e)),
      none_focus s u (frame rgt c p t ∷ w) (λ m. b (Memᴰ.tail (Memᴰ.append_left (after w) m))),
    )
    (or_else_none (focus s t (frame lft c p u ∷ w)))
focus_plug s t (frame rgt c p u ∷ w) a b =
    focus_plug s (node c u p t) w (λ m. a (Memᴰ.append_left (slots u ++ p ∷ []) m)) b
    ∙ rw (
      ne_eqb s p (λ e. a (Memᴰ.append_right (before w) (Memᴰ.append_right (slots u) (Memᴰ.head e)))),
      none_focus s u (frame lft c p t ∷ w) (λ m. a (Memᴰ.append_right (before w) (Memᴰ.append_left (p ∷ []) m))),
    )

-- the node that stands at a place of a sound tree is found there
pub focus_at : {C : ℕ} (c : Color) (l : Tree) (x : ℕ) (r : Tree) (w : List Frame) → Sound C (plug (node c l x r) w)
    → focus x (plug (node c l x r) w) [] ≡ some (focus_on c l x r w)
focus_at c l x r w sound =
    let alone = sound_alone c l x r w sound in
    focus_plug x (node c l x r) w (λ m. alone.0 (Memᴰ.append_left (slots l) m))
    (λ m. alone.1 (Memᴰ.append_right (slots r) m))
    ∙ rw (eq-eqb x x refl)

-- and is the one that is removed or replaced
pub removed_at : {C : ℕ} (c : Color) (l : Tree) (x : ℕ) (r : Tree) (w : List Frame) → Sound C (plug (node c l x r) w)
    → removed x (plug (node c l x r) w) ≡ take_out (focus_on c l x r w)
unfolding removed
removed_at c l x r w sound = rw (focus_at c l x r w sound)

pub replaced_at : {C : ℕ} (c : Color) (l : Tree) (x : ℕ) (r : Tree) (w : List Frame) (s : ℕ)
    → Sound C (plug (node c l x r) w) → replaced x s (plug (node c l x r) w) ≡ plug (node c l s r) w
unfolding replaced
replaced_at c l x r w s sound = rw (focus_at c l x r w sound)

-- the place beside a node, and whether it is empty
pub place_beside_at : {C : ℕ} (d : Side) (c : Color) (near : Tree) (x : ℕ) (far : Tree) (w : List Frame)
    → Sound C (plug (nod d c near x far) w) → place_beside d x (plug (nod d c near x far) w) ≡ frame d c x far ∷ w
unfolding place_beside
place_beside_at lft c near x far w sound = rw (focus_at c near x far w sound)
place_beside_at rgt c near x far w sound = rw (focus_at c far x near w sound)

pub lacks_child_at : {C : ℕ} (d : Side) (c : Color) (near : Tree) (x : ℕ) (far : Tree) (w : List Frame)
    → Sound C (plug (nod d c near x far) w) → lacks_child d x (plug (nod d c near x far) w) ≡ is_leaf near
unfolding lacks_child
lacks_child_at lft c near x far w sound = rw (focus_at c near x far w sound)
lacks_child_at rgt c near x far w sound = rw (focus_at c far x near w sound)

-- beside a slot that isn't there
pub place_beside_none : (d : Side) (s : ℕ) (t : Tree) → ¬ Memᴰ s (slots t) → place_beside d s t ≡ []
unfolding place_beside
place_beside_none d s t a = rw (none_focus s t [] a)

pub lacks_child_none : (d : Side) (s : ℕ) (t : Tree) → ¬ Memᴰ s (slots t) → lacks_child d s t ≡ false
unfolding lacks_child
lacks_child_none d s t a = rw (none_focus s t [] a)
