-- The in-order list of a tree: the slots before a place, those that hang there and those after it; which slots stand in
-- it, and that none stands twice; what follows a slot in a list and what comes in its place.
use Prim.Native.Nat.{ℕ, zero, suc, ◌+◌, ◌≤◌}
use mathlib.Core.Bool.{Bool, true, false}
use mathlib.Core.List.{List, [], ◌∷◌, ◌++◌, reverse, append_assoc, append-nil, reverse-append, reverse-cons, Memᴰ}
use mathlib.Core.List.Memᴰ
use mathlib.Core.Logic.{⊎_elim}
use mathlib.Core.Path.{◌≡◌, refl, ap, sym, ◌∙◌}
use native.Mathlib.Omega.{arith}
use lib.Dec.{eqb}
use borrow.Author.Tests.{eqb-true, eq-eqb, ne_eqb}
use Rattle.model.specs.Tree.{lft, rgt, Color, Tree, leaf, node, slots, Frame, frame, plug}
use Rattle.model.specs.Order.{first_slot, following, exchange}
use Rattle.theory.specs.Sound.{one, count, Sound}
use Rattle.theory.specs.Lists.{before, after, times}
use Rattle.theory.proofs.Counts.{one_same}

-- ---- round a place

-- the list of the whole tree
pub slots_around : (t : Tree) (w : List Frame) → slots (plug t w) ≡ before w ++ (slots t ++ after w)
slots_around t [] = sym (append-nil (slots t))
slots_around t (frame lft c p s ∷ w) = slots_around (node c t p s) w ∙ simp append_assoc
slots_around t (frame rgt c p s ∷ w) = slots_around (node c s p t) w ∙ simp append_assoc

-- the lists of one way on top of another
pub before_append : (v w : List Frame) → before (v ++ w) ≡ before w ++ before v
before_append [] w = sym (append-nil (before w))
before_append (frame lft c p s ∷ v) w = before_append v w
before_append (frame rgt c p s ∷ v) w = rw (before_append v w, append_assoc (before w) (before v) (slots s ++ p ∷ []))

pub after_append : (v w : List Frame) → after (v ++ w) ≡ after v ++ after w
after_append [] w = refl
after_append (frame lft c p s ∷ v) w = rw (after_append v w, append_assoc (slots s) (after v) (after w))
after_append (frame rgt c p s ∷ v) w = after_append v w

-- ---- which slots stand in a list

one_hit : (x s : ℕ) → 1 ≤ one x s → s ≡ x
unfolding one
one_hit x s h = go (eqb x s) refl
  where
    go : (b : Bool) → eqb x s ≡ b → s ≡ x
    go true e = sym (eqb-true x s e)
    go false e = let z : 1 ≤ 0 = rw e at h in absurd (omega arith)

times_append : (s : ℕ) (K L : List ℕ) → times s (K ++ L) ≡ times s K + times s L
unfolding times
times_append s [] L = omega arith
times_append s (x ∷ K) L = omega (arith, times_append s K L)

times_member : (s : ℕ) (L : List ℕ) → 1 ≤ times s L → Memᴰ s L
unfolding times
times_member s [] h = absurd (omega arith)
times_member s (x ∷ L) h = go (one x s) refl (times_member s L)
  where
    go : (n : ℕ) → one x s ≡ n → (1 ≤ times s L → Memᴰ s L) → Memᴰ s (x ∷ L)
    go zero e below = Memᴰ.tail (below (omega arith))
    go (suc n) e below = Memᴰ.head (one_hit x s (omega arith))

member_times : (s : ℕ) (L : List ℕ) → Memᴰ s L → 1 ≤ times s L
unfolding times
member_times s [] m = absurd (Memᴰ.not-nil m)
member_times s (x ∷ L) m =
    ⊎_elim (λ e. rw e (omega (arith, one_same x))) (λ m'. omega (arith, member_times s L m')) (Memᴰ.cases_cons m)

count_times : (t : Tree) (s : ℕ) → count t s ≡ times s (slots t)
unfolding times
count_times leaf s = refl
count_times (node c l x r) s = omega (arith, times_append s (slots l) (x ∷ slots r), count_times l s, count_times r s)

-- trees with one list have the same slots, equally often
pub count_same : (t u : Tree) → slots u ≡ slots t → (s : ℕ) → count u s ≡ count t s
count_same t u e s = count_times u s ∙ ap (times s) e ∙ sym (count_times t s)

-- a slot is counted in a tree exactly when it stands in its list
pub count_member : (t : Tree) (s : ℕ) → 1 ≤ count t s → Memᴰ s (slots t)
count_member t s h = times_member s (slots t) (omega (arith, count_times t s))

pub member_count : (t : Tree) (s : ℕ) → Memᴰ s (slots t) → 1 ≤ count t s
member_count t s m = omega (arith, count_times t s, member_times s (slots t) m)

-- no slot stands twice: neither before nor after where it stands
pub sound_once : {C : ℕ} {t : Tree} (K : List ℕ) (s : ℕ) (L : List ℕ) → Sound C t → slots t ≡ K ++ s ∷ L
    → (¬ Memᴰ s K) × (¬ Memᴰ s L)
unfolding times
sound_once {t} K s L sound e =
    (λ m. omega (arith, twice, member_times s K m), λ m. omega (arith, twice, member_times s L m))
  where
    twice : times s K + suc (times s L) ≤ 1
    twice = omega (arith, sound.once s, count_times t s, ap (times s) e, times_append s K (s ∷ L), one_same s)

-- ---- round a node

-- the list of a tree, split at one of its nodes
pub slots_at : (c : Color) (l : Tree) (x : ℕ) (r : Tree) (w : List Frame)
    → slots (plug (node c l x r) w) ≡ (before w ++ slots l) ++ x ∷ (slots r ++ after w)
slots_at c l x r w = slots_around (node c l x r) w ∙ simp append_assoc

-- the slot of a node stands nowhere else
pub sound_alone : {C : ℕ} (c : Color) (l : Tree) (x : ℕ) (r : Tree) (w : List Frame) → Sound C (plug (node c l x r) w)
    → (¬ Memᴰ x (before w ++ slots l)) × (¬ Memᴰ x (slots r ++ after w))
sound_alone c l x r w sound = sound_once (before w ++ slots l) x (slots r ++ after w) sound (slots_at c l x r w)

-- 0 stands in no tree
pub sound_zero : {C : ℕ} {t : Tree} → Sound C t → ¬ Memᴰ 0 (slots t)
sound_zero {t} sound m = let z : 1 ≤ 0 = sound.low 0 (member_count t 0 m) in omega arith

-- the slot of a node stands in the list, so it isn't 0
pub member_at : (c : Color) (l : Tree) (x : ℕ) (r : Tree) (w : List Frame) → Memᴰ x (slots (plug (node c l x r) w))
member_at c l x r w = rw (slots_at c l x r w) (Memᴰ.append_right (before w ++ slots l) (Memᴰ.head refl))

pub sound_node : {C : ℕ} (c : Color) (l : Tree) (x : ℕ) (r : Tree) (w : List Frame) → Sound C (plug (node c l x r) w)
    → ¬ (x ≡ 0)
sound_node c l x r w sound e =
    let z = sound.low x (member_count (plug (node c l x r) w) x (member_at c l x r w)) in omega arith

-- ---- a slot in a list

-- backwards the list has the same members, and is split at the same one
pub member_reverse : (x : ℕ) (L : List ℕ) → Memᴰ x (reverse L) → Memᴰ x L
member_reverse x [] m = m
member_reverse x (y ∷ L) m =
    ⊎_elim (λ n. Memᴰ.tail (member_reverse x L n)) (λ n. Memᴰ.head (Memᴰ.eq_of_singleton n))
    (Memᴰ.append_cases (reverse L) (rw (reverse-cons y L) at m))

pub reverse_at : (K : List ℕ) (x : ℕ) (L : List ℕ) → reverse (K ++ x ∷ L) ≡ reverse L ++ x ∷ reverse K
reverse_at K x L = reverse-append K (x ∷ L) ∙ rw (reverse-cons x L) (append_assoc (reverse L) (x ∷ []) (reverse K))

-- what follows a slot where it stands first
pub following_at : (K : List ℕ) (x : ℕ) (L : List ℕ) → ¬ Memᴰ x K → following x (K ++ x ∷ L) ≡ first_slot L
following_at [] x L a = rw (eq-eqb x x refl)
following_at (y ∷ K) x L a =
    rw (ne_eqb x y (λ e. a (Memᴰ.head e))) (following_at K x L (λ m. a (Memᴰ.tail m)))

-- what comes in its place
pub exchange_at : (K : List ℕ) (x : ℕ) (new L : List ℕ) → ¬ Memᴰ x K
    → exchange x new (K ++ x ∷ L) ≡ K ++ (new ++ L)
exchange_at [] x new L a = rw (eq-eqb x x refl)
exchange_at (y ∷ K) x new L a =
    rw (ne_eqb x y (λ e. a (Memᴰ.head e)), exchange_at K x new L (λ m. a (Memᴰ.tail m)))

-- a list without the slot stays as it is
pub exchange_none : (p : ℕ) (new L : List ℕ) → ¬ Memᴰ p L → exchange p new L ≡ L
exchange_none p new [] a = refl
exchange_none p new (x ∷ L) a =
    rw (ne_eqb p x (λ e. a (Memᴰ.head e)), exchange_none p new L (λ m. a (Memᴰ.tail m)))
