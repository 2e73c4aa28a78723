-- Descents in general: the place where one ends, the nodes on its path, and how it parts the in-order list.
use Prim.Native.Nat.{ℕ, ◌+◌, ◌≤◌}
use mathlib.Core.List.Memᴰ
use mathlib.Core.List.{List, [], ◌∷◌, ◌++◌, map, Memᴰ, reverse-append}
use mathlib.Core.Logic.{⊎_elim}
use mathlib.Core.Path.{◌≡◌, refl, ap, sym, ◌∙◌}
use native.Mathlib.Omega.{arith}
use lib.ListN.{length, length-append, length-map}
use Rattle.model.specs.Tree.{Side, lft, rgt, Color, Tree, leaf, node, opp, slots, Frame, frame, framed, plug}
use Rattle.model.specs.WellFormed.{Rising}
use Rattle.model.specs.Order.{first_slot}
use Rattle.model.specs.Descent.{Step, leftward, rightward, halt, Landing, landing, follow, descend, halted, path}
use Rattle.model.specs.Descent.{probes, last_turn}
use Rattle.theory.specs.Balance.{height}
use Rattle.theory.specs.Lists.{before, after, beyond, facing}
use Rattle.theory.specs.Descents.{Directed, Parted}
use Rattle.theory.proofs.Lists.{slots_around, reverse_at}
use Rattle.theory.proofs.Rising.{rising_front, rising_rest, rising_before, rising_after}

-- a step leads on to the left, to the right, or nowhere
pub follow_cases : (P : Landing → Type 0) (s : Step) (left right here : Unit {0} → Landing)
    → (s ≡ leftward → P (left tt)) → (s ≡ rightward → P (right tt)) → (s ≡ halt → P (here tt))
    → P (follow s left right here)
follow_cases P leftward left right here a b c = a refl
follow_cases P rightward left right here a b c = b refl
follow_cases P halt left right here a b c = c refl

-- ---- where it ends

-- at a place of the tree
pub descend_plug : (step : ℕ → Step) (t : Tree) (w : List Frame)
    → plug (descend step t w).place (descend step t w).way ≡ plug t w
descend_plug step leaf w = refl
descend_plug step (node c l x r) w =
    follow_cases (λ e. plug e.place e.way ≡ plug (node c l x r) w) (step x) _ _ _
    (λ _. descend_plug step l (frame lft c x r ∷ w)) (λ _. descend_plug step r (frame rgt c x l ∷ w)) (λ _. refl)

-- at an empty one, if the comparison never halts
pub descend_leaf : (step : ℕ → Step) (t : Tree) (w : List Frame) → ((x : ℕ) → ¬ (step x ≡ halt))
    → (descend step t w).place ≡ leaf
descend_leaf step leaf w never = refl
descend_leaf step (node c l x r) w never =
    follow_cases (λ e. e.place ≡ leaf) (step x) _ _ _
    (λ _. descend_leaf step l (frame lft c x r ∷ w) never) (λ _. descend_leaf step r (frame rgt c x l ∷ w) never)
    (λ e. absurd (never x e))

-- at a node, if the comparison halts there
pub descend_halt : (step : ℕ → Step) (t : Tree) (w : List Frame) (c : Color) (l : Tree) (x : ℕ) (r : Tree)
    → (descend step t w).place ≡ node c l x r → step x ≡ halt
descend_halt step leaf w c l x r = λ e. cc
descend_halt step (node k a y b) w c l x r =
    follow_cases (λ e. e.place ≡ node c l x r → step x ≡ halt) (step y) _ _ _
    (λ _. descend_halt step a (frame lft k y b ∷ w) c l x r) (λ _. descend_halt step b (frame rgt k y a ∷ w) c l x r)
    (λ q e. let same : y ≡ x = cc in cc)

-- a comparison that ends at an empty place is followed by every one that only halts less
pub descend_same : (step other : ℕ → Step) (t : Tree) (w : List Frame)
    → ((x : ℕ) → ¬ (step x ≡ halt) → other x ≡ step x) → (descend step t w).place ≡ leaf
    → descend other t w ≡ descend step t w
descend_same step other leaf w same = λ e. refl
descend_same step other (node c l x r) w same =
    follow_cases (λ e. e.place ≡ leaf → descend other (node c l x r) w ≡ e) (step x) _ _ _
    (λ q e. rw (same x (λ h. let z : ◌≡◌ {A = ℕ} 0 1 = cc in omega arith) ∙ q)
    (descend_same step other l (frame lft c x r ∷ w) same e))
    (λ q e. rw (same x (λ h. let z : ◌≡◌ {A = ℕ} 0 1 = cc in omega arith) ∙ q)
    (descend_same step other r (frame rgt c x l ∷ w) same e))
    (λ q e. cc)

-- ---- the nodes on its path

-- those above the place, and the one where it halts
pub probes_way : (e : Landing) → probes e ≡ length (halted e.place) + length e.way
unfolding probes path
probes_way e = rw (length-append (halted e.place) (map framed e.way), length-map e.way framed)

probes_under : (step : ℕ → Step) (t : Tree) (w : List Frame) → probes (descend step t w) ≤ length w + height t
probes_under step leaf w = omega (arith, probes_way (landing leaf w))
probes_under step (node c l x r) w =
    follow_cases (λ e. probes e ≤ length w + height (node c l x r)) (step x) _ _ _
    (λ _. omega (arith, probes_under step l (frame lft c x r ∷ w)))
    (λ _. omega (arith, probes_under step r (frame rgt c x l ∷ w)))
    (λ _. omega (arith, probes_way (landing (node c l x r) w)))

-- they are no more than the longest way down has
pub path_height : (step : ℕ → Step) (t : Tree) → length (path (descend step t [])) ≤ height t
unfolding probes
path_height step t = omega (arith, probes_under step t [])

-- ---- how it parts the list

-- from a place that parts the list it leads to another one, if the keys of the tree below rise
descend_parted : {key : ℕ → ℕ} {step : ℕ → Step} (k : ℕ) (t : Tree) (w : List Frame) → Directed key step
    → Rising key k (slots t) → Parted step w → Parted step (descend step t w).way
descend_parted k leaf w directed rising parted = parted
descend_parted {key} {step} k (node c l x r) w directed rising parted =
    follow_cases (λ e. Parted step e.way) (step x) _ _ _
    (λ e. descend_parted k l (frame lft c x r ∷ w) directed (rising_front key k (slots l) (x ∷ slots r) rising)
    (record { early = parted.early; late = late e }))
    (λ e. descend_parted (key x) r (frame rgt c x l ∷ w) directed (rising_rest key k (slots l) x (slots r) rising)
    (record { early = early e; late = parted.late }))
    (λ _. parted)
  where
    late : step x ≡ leftward → (y : ℕ) → Memᴰ y (x ∷ (slots r ++ after w)) → step y ≡ leftward
    late e y m =
        ⊎_elim (λ same. ap step same ∙ e)
        (λ n. ⊎_elim (λ o. directed.left x y (rising_after key k (slots l) x (slots r) rising y o) e) (parted.late y)
        (Memᴰ.append_cases (slots r) n)) (Memᴰ.cases_cons m)

    early : step x ≡ rightward → (y : ℕ) → Memᴰ y (before w ++ (slots l ++ x ∷ [])) → step y ≡ rightward
    early e y m =
        ⊎_elim (parted.early y)
        (λ n. ⊎_elim (λ o. directed.right x y (rising_before key k (slots l) x (slots r) rising y o) e)
        (λ o. ap step (Memᴰ.eq_of_singleton o) ∙ e) (Memᴰ.append_cases (slots l) n))
        (Memᴰ.append_cases (before w) m)

-- so a descent from the root parts the list
pub parted_landing : {key : ℕ → ℕ} {step : ℕ → Step} (t : Tree) → Directed key step → Rising key 0 (slots t)
    → Parted step (descend step t []).way
parted_landing t directed rising =
    descend_parted 0 t [] directed rising
    (record { early = λ y m. absurd (Memᴰ.not-nil m); late = λ y m. absurd (Memᴰ.not-nil m) })

-- an empty place has the whole list before and after it
pub slots_landing : (step : ℕ → Step) (t : Tree) → (descend step t []).place ≡ leaf
    → slots t ≡ before (descend step t []).way ++ after (descend step t []).way
slots_landing step t e = ap slots (sym (descend_plug step t [])) ∙ rw e (slots_around leaf (descend step t []).way)

-- the last turn to a side is at the first slot beyond the place on the other
pub last_turn_first : (d : Side) (w : List Frame) → last_turn d w ≡ first_slot (facing (opp d) (beyond (opp d) w))
last_turn_first lft [] = refl
last_turn_first rgt [] = refl
last_turn_first lft (frame lft c p s ∷ w) = refl
last_turn_first lft (frame rgt c p s ∷ w) = last_turn_first lft w
last_turn_first rgt (frame lft c p s ∷ w) = last_turn_first rgt w
last_turn_first rgt (frame rgt c p s ∷ w) =
    rw (reverse-append (before w) (slots s ++ p ∷ []), reverse_at (slots s) p [])
