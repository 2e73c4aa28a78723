-- Insert and the two bounds on the in-order list: their descents end where the list rules say.
use Prim.Native.Nat.{ℕ, zero, suc, ◌≤◌}
use mathlib.Core.Bool.{Bool, true, false, not}
use mathlib.Core.List.{List, [], ◌∷◌, ◌++◌, reverse, reverse-append, Memᴰ}
use mathlib.Core.Path.{◌≡◌, refl, ap, sym, ◌∙◌}
use native.Mathlib.Omega.{arith}
use lib.Dec.{leb, ltb, leb-suc-suc}
use borrow.Author.Tests.{leb-true, leb-false, le-leb, le-ltb, lt-ltb, not-true, not-false}
use Rattle.model.specs.Tree.{Side, lft, rgt, Color, Tree, leaf, node, opp, slots, Frame, plug}
use Rattle.model.specs.WellFormed.{Rising}
use Rattle.model.specs.Order.{first_slot, first_with, not_below, not_above, insert_in}
use Rattle.model.specs.Descent.{Step, leftward, rightward, halt, left_if, descend, last_turn, insert_step}
use Rattle.model.specs.Descent.{insert_landing}
use Rattle.model.specs.Descent.{lower_step, lower_landing, lower_slot, upper_step, upper_landing, upper_slot}
use Rattle.theory.specs.Lists.{before, after, facing}
use Rattle.theory.specs.Descents.{Directed, Parted, step_if}
use Rattle.theory.proofs.Lists.{slots_around, member_reverse}
use Rattle.theory.proofs.Descents.{descend_plug, descend_leaf, slots_landing, parted_landing, last_turn_first}

-- ---- comparisons by one test of the key

-- what the step tells of the test

left_if_left : (b : Bool) → left_if b ≡ leftward → b ≡ true
left_if_left true e = refl
left_if_left false e = cc

left_if_right : (b : Bool) → left_if b ≡ rightward → b ≡ false
left_if_right true e = cc
left_if_right false e = refl

left_if_never : (b : Bool) → ¬ (left_if b ≡ halt)
left_if_never true e = let z : ◌≡◌ {A = ℕ} 0 1 = cc in omega arith
left_if_never false e = let z : ◌≡◌ {A = ℕ} 0 1 = cc in omega arith

-- a test that passes at every key above one at which it passes
abbrev Upward : (ℕ → Bool) → Type 0
Upward test = (a b : ℕ) → a ≤ b → test a ≡ true → test b ≡ true

leb_upward : (k : ℕ) → Upward (leb k)
leb_upward k a b h e = le-leb k b (omega (arith, leb-true k a e))

-- a comparison by such a test goes by the key
directed_test : (key : ℕ → ℕ) (test : ℕ → Bool) → Upward test → Directed key (λ x. left_if (test (key x)))
directed_test key test up = record { left = left; right = right }
  where
    left : (x y : ℕ) → key x ≤ key y → left_if (test (key x)) ≡ leftward → left_if (test (key y)) ≡ leftward
    left x y h e = rw (up (key x) (key y) h (left_if_left (test (key x)) e))

    right : (x y : ℕ) → key y ≤ key x → left_if (test (key x)) ≡ rightward → left_if (test (key y)) ≡ rightward
    right x y h e = go (test (key y)) refl
      where
        go : (b : Bool) → test (key y) ≡ b → left_if (test (key y)) ≡ rightward
        go true q = let z : leftward ≡ rightward = rw (up (key y) (key x) h q) at e in cc
        go false q = rw q

directed_insert : (key : ℕ → ℕ) (k : ℕ) → Directed key (insert_step key k)
unfolding insert_step
directed_insert key k = directed_test key (ltb k) (leb_upward (suc k))

directed_lower : (key : ℕ → ℕ) (kind k : ℕ) → Directed key (lower_step key kind k)
unfolding lower_step
directed_lower key zero k = directed_test key (λ _. true) (λ a b h e. refl)
directed_lower key (suc zero) k = directed_test key (leb k) (leb_upward k)
directed_lower key (suc (suc n)) k = directed_test key (ltb k) (leb_upward (suc k))

directed_upper : (key : ℕ → ℕ) (kind k : ℕ) → Directed key (upper_step key kind k)
unfolding upper_step
directed_upper key zero k = directed_test key (λ _. false) (λ a b h e. e)
directed_upper key (suc zero) k = directed_test key (ltb k) (leb_upward (suc k))
directed_upper key (suc (suc n)) k = directed_test key (leb k) (leb_upward k)

-- the bounds' comparisons are the list rules' tests
lower_step_test : (key : ℕ → ℕ) (kind k x : ℕ) → lower_step key kind k x ≡ step_if lft (not_below key kind k x)
unfolding lower_step not_below
lower_step_test key zero k x = refl
lower_step_test key (suc zero) k x = refl
lower_step_test key (suc (suc n)) k x = refl

not_leb : (a b : ℕ) → ltb b a ≡ not (leb a b)
not_leb a b = go (leb a b) refl
  where
    go : (t : Bool) → leb a b ≡ t → ltb b a ≡ not (leb a b)
    go true e = rw e (le-ltb b a (leb-true a b e))
    go false e = rw e (lt-ltb b a (leb-false a b e))

upper_step_test : (key : ℕ → ℕ) (kind k x : ℕ) → upper_step key kind k x ≡ step_if rgt (not_above key kind k x)
unfolding upper_step not_above
upper_step_test key zero k x = refl
upper_step_test key (suc zero) k x = ap left_if (not_leb (key x) k)
upper_step_test key (suc (suc n)) k x = ap left_if (sym (leb-suc-suc k (key x)) ∙ not_leb (suc (key x)) k)

-- ---- the list where such a descent ends

-- the first slot that passes a test, where those in front fail and the others pass
first_with_parted : (test : ℕ → Bool) (K L : List ℕ) → ((y : ℕ) → Memᴰ y K → test y ≡ false)
    → ((y : ℕ) → Memᴰ y L → test y ≡ true) → first_with test (K ++ L) ≡ first_slot L
first_with_parted test [] [] fails passes = refl
first_with_parted test [] (x ∷ L) fails passes = rw (passes x (Memᴰ.head refl))
first_with_parted test (x ∷ K) L fails passes =
    rw (fails x (Memᴰ.head refl)) (first_with_parted test K L (λ y m. fails y (Memᴰ.tail m)) passes)

insert_in_parted : (key : ℕ → ℕ) (s k : ℕ) (K L : List ℕ) → ((y : ℕ) → Memᴰ y K → ltb k (key y) ≡ false)
    → ((y : ℕ) → Memᴰ y L → ltb k (key y) ≡ true) → insert_in key s k (K ++ L) ≡ K ++ s ∷ L
insert_in_parted key s k [] [] fails passes = refl
insert_in_parted key s k [] (x ∷ L) fails passes = rw (passes x (Memᴰ.head refl))
insert_in_parted key s k (x ∷ K) L fails passes =
    rw (fails x (Memᴰ.head refl), insert_in_parted key s k K L (λ y m. fails y (Memᴰ.tail m)) passes)

-- the last turn to the side d is at the first slot that passes, read from that side's end
bound_first : (d : Side) {key : ℕ → ℕ} {step : ℕ → Step} (test : ℕ → Bool) (t : Tree) → Directed key step
    → ((x : ℕ) → step x ≡ step_if d (test x)) → Rising key 0 (slots t)
    → last_turn d (descend step t []).way ≡ first_with test (facing (opp d) (slots t))
bound_first d {key} {step} test t directed same rising = go d same
  where
    w : List Frame
    w = (descend step t []).way

    parts : Parted step w
    parts = parted_landing t directed rising

    go : (d : Side) → ((x : ℕ) → step x ≡ step_if d (test x))
        → last_turn d w ≡ first_with test (facing (opp d) (slots t))
    go lft same =
        last_turn_first lft w
        ∙ sym (rw (slots_landing step t (descend_leaf step t [] (λ x e. left_if_never (test x) (sym (same x) ∙ e))))
        (first_with_parted test (before w) (after w)
        (λ y m. left_if_right (test y) (sym (same y) ∙ parts.early y m))
        (λ y m. left_if_left (test y) (sym (same y) ∙ parts.late y m))))
    go rgt same =
        last_turn_first rgt w
        ∙ sym (rw (
          slots_landing step t (descend_leaf step t [] (λ x e. left_if_never (not (test x)) (sym (same x) ∙ e))),
          reverse-append (before w) (after w),
        )
        (first_with_parted test (reverse (after w)) (reverse (before w))
        (λ y m. not-true (test y) (left_if_left (not (test y)) (sym (same y) ∙ late y m)))
        (λ y m. not-false (test y) (left_if_right (not (test y)) (sym (same y) ∙ early y m)))))
      where
        early : (y : ℕ) → Memᴰ y (reverse (before w)) → step y ≡ rightward
        early y m = parts.early y (member_reverse y (before w) m)

        late : (y : ℕ) → Memᴰ y (reverse (after w)) → step y ≡ leftward
        late y m = parts.late y (member_reverse y (after w) m)

-- ---- the operations

-- lower_bound: the first slot whose key is not below the bound
pub lower_first : (key : ℕ → ℕ) (kind k : ℕ) (t : Tree) → Rising key 0 (slots t)
    → lower_slot (lower_landing key kind k t) ≡ first_with (not_below key kind k) (slots t)
unfolding lower_slot lower_landing
lower_first key kind k t rising =
    bound_first lft (not_below key kind k) t (directed_lower key kind k) (lower_step_test key kind k) rising

-- upper_bound: the last slot whose key is not above it
pub upper_first : (key : ℕ → ℕ) (kind k : ℕ) (t : Tree) → Rising key 0 (slots t)
    → upper_slot (upper_landing key kind k t) ≡ first_with (not_above key kind k) (reverse (slots t))
unfolding upper_slot upper_landing
upper_first key kind k t rising =
    bound_first rgt (not_above key kind k) t (directed_upper key kind k) (upper_step_test key kind k) rising

-- insert: its descent ends at an empty place
pub insert_step_never : (key : ℕ → ℕ) (k x : ℕ) → ¬ (insert_step key k x ≡ halt)
unfolding insert_step
insert_step_never key k x = left_if_never (ltb k (key x))

pub insert_plug : (key : ℕ → ℕ) (k : ℕ) (t : Tree) → plug leaf (insert_landing key k t).way ≡ t
unfolding insert_landing
insert_plug key k t =
    rw (← descend_leaf (insert_step key k) t [] (insert_step_never key k)) (descend_plug (insert_step key k) t [])

-- and there the slot stands before the first greater key
pub insert_slots : (key : ℕ → ℕ) (s k : ℕ) (t : Tree) (c : Color) → Rising key 0 (slots t)
    → slots (plug (node c leaf s leaf) (insert_landing key k t).way) ≡ insert_in key s k (slots t)
unfolding insert_landing insert_step
insert_slots key s k t c rising =
    slots_around (node c leaf s leaf) w
    ∙ sym (rw (slots_landing (insert_step key k) t (descend_leaf (insert_step key k) t [] (insert_step_never key k)))
    (insert_in_parted key s k (before w) (after w)
    (λ y m. left_if_right (ltb k (key y)) (parts.early y m))
    (λ y m. left_if_left (ltb k (key y)) (parts.late y m))))
  where
    w : List Frame
    w = (insert_landing key k t).way

    parts : Parted (insert_step key k) w
    parts = parted_landing t (directed_insert key k) rising
