-- Find and entry on the in-order list: a slot with the key where there is one, otherwise the place where insert hangs.
use Prim.Native.Nat.{ℕ, ◌<◌}
use mathlib.Core.Bool.{Bool, true, false}
use mathlib.Core.List.Memᴰ
use mathlib.Core.List.{List, [], ◌∷◌, Memᴰ}
use mathlib.Core.Logic.{◌⊎◌, inl, inr, ⊎_elim}
use mathlib.Core.Path.{◌≡◌, refl, ap, sym, ◌∙◌}
use native.Mathlib.Omega.{arith}
use lib.Dec.{eqb, ltb}
use borrow.Author.Tests.{ltb-true, ltb-false, lt-ltb, le-ltb, eqb-true, eqb-false, eq-eqb, ne_eqb}
use Rattle.model.specs.Branch.{choose}
use Rattle.model.specs.Tree.{Side, lft, rgt, Color, Tree, leaf, node, same_side, slots}
use Rattle.model.specs.WellFormed.{Rising}
use Rattle.model.specs.Commands.{find}
use Rattle.model.specs.Order.{holds, Holding, Lacking, Told}
use Rattle.model.specs.Answers.{same_entry}
use Rattle.model.specs.Descent.{leftward, rightward, halt, left_if, insert_step, insert_landing, find_step}
use Rattle.model.specs.Descent.{find_landing}
use Rattle.model.specs.Descent.{find_slot, Entry, occupied, vacant, entry_at, entry_of, entry_for}
use Rattle.theory.specs.Sound.{Sound}
use Rattle.theory.specs.Lists.{before}
use Rattle.theory.specs.Descents.{Directed, Parted, Met, Unmet}
use Rattle.theory.proofs.Lists.{member_at, sound_zero}
use Rattle.theory.proofs.Descents.{descend_plug, descend_halt, descend_same, parted_landing, slots_landing}

-- ---- its comparison

-- what the step tells of the two tests
step_left : (b d : Bool) → choose b (λ _. halt) (λ _. left_if d) ≡ leftward → d ≡ true
step_left true d e = cc
step_left false true e = refl
step_left false false e = cc

step_right : (b d : Bool) → choose b (λ _. halt) (λ _. left_if d) ≡ rightward → (b ≡ false) × (d ≡ false)
step_right true d e = (cc, cc)
step_right false true e = (cc, cc)
step_right false false e = (refl, refl)

step_halt : (b d : Bool) → choose b (λ _. halt) (λ _. left_if d) ≡ halt → b ≡ true
step_halt true d e = refl
step_halt false true e = cc
step_halt false false e = cc

step_moves : (b d : Bool) → ¬ (choose b (λ _. halt) (λ _. left_if d) ≡ halt)
    → left_if d ≡ choose b (λ _. halt) (λ _. left_if d)
step_moves true d a = absurd (a refl)
step_moves false d a = refl

-- it goes left below a greater key, right below a smaller one, and halts at the key itself
find_left : (key : ℕ → ℕ) (k x : ℕ) → find_step key k x ≡ leftward → k < key x
unfolding find_step
find_left key k x e = ltb-true k (key x) (step_left (eqb k (key x)) (ltb k (key x)) e)

find_right : (key : ℕ → ℕ) (k x : ℕ) → find_step key k x ≡ rightward → key x < k
unfolding find_step
find_right key k x e =
    let h = step_right (eqb k (key x)) (ltb k (key x)) e in
    omega (arith, ltb-false k (key x) h.1, eqb-false k (key x) h.0)

find_halt : (key : ℕ → ℕ) (k x : ℕ) → find_step key k x ≡ halt → key x ≡ k
unfolding find_step
find_halt key k x e = sym (eqb-true k (key x) (step_halt (eqb k (key x)) (ltb k (key x)) e))

-- elsewhere it goes as insert's does
find_moves : (key : ℕ → ℕ) (k x : ℕ) → ¬ (find_step key k x ≡ halt) → insert_step key k x ≡ find_step key k x
unfolding find_step insert_step
find_moves key k x a = step_moves (eqb k (key x)) (ltb k (key x)) a

-- and it goes by the key
directed_find : (key : ℕ → ℕ) (k : ℕ) → Directed key (find_step key k)
unfolding find_step
directed_find key k = record {
  left = λ x y h e. let less : k < key y = omega (arith, find_left key k x e) in
      rw (ne_eqb k (key y) (λ q. omega arith), lt-ltb k (key y) less);
  right = λ x y h e. let more : key y < k = omega (arith, find_right key k x e) in
      rw (ne_eqb k (key y) (λ q. omega arith), le-ltb k (key y) (omega arith));
}

-- ---- the list's own test for a key

holding_holds : (key : ℕ → ℕ) (k : ℕ) (L : List ℕ) (x : ℕ) → Memᴰ x L → key x ≡ k → holds key k L ≡ true
holding_holds key k [] x m e = absurd (Memᴰ.not-nil m)
holding_holds key k (y ∷ L) x m e = go (eqb k (key y)) refl (holding_holds key k L x)
  where
    go : (b : Bool) → eqb k (key y) ≡ b → (Memᴰ x L → key x ≡ k → holds key k L ≡ true)
        → holds key k (y ∷ L) ≡ true
    go true q below = rw q
    go false q below =
        rw q (⊎_elim (λ h. absurd (eqb-false k (key y) q (sym e ∙ ap key h))) (λ n. below n e) (Memᴰ.cases_cons m))

lacking_holds : (key : ℕ → ℕ) (k : ℕ) (L : List ℕ) → Lacking key k L → holds key k L ≡ false
lacking_holds key k [] lacking = refl
lacking_holds key k (y ∷ L) lacking =
    rw (ne_eqb k (key y) (λ e. lacking y (Memᴰ.head refl) (sym e)))
    (lacking_holds key k L (λ x m. lacking x (Memᴰ.tail m)))

-- ---- where the descent ends

-- a node where it halts has the key
find_holding : (key : ℕ → ℕ) (k : ℕ) (t : Tree) (c : Color) (l : Tree) (x : ℕ) (r : Tree)
    → (find_landing key k t).place ≡ node c l x r → Holding key k (slots t) x
unfolding find_landing
find_holding key k t c l x r e = record {
  member = rw (descend_plug (find_step key k) t []) at (rw (← e) at (member_at c l x r (find_landing key k t).way));
  equal = find_halt key k x (descend_halt (find_step key k) t [] c l x r e);
}

-- an empty place is insert's
pub find_insert : (key : ℕ → ℕ) (k : ℕ) (t : Tree) → (find_landing key k t).place ≡ leaf
    → find_landing key k t ≡ insert_landing key k t
unfolding find_landing insert_landing
find_insert key k t e = sym (descend_same (find_step key k) (insert_step key k) t [] (find_moves key k) e)

-- and no slot has the key then
find_lacking : (key : ℕ → ℕ) (k : ℕ) (t : Tree) → Rising key 0 (slots t) → (find_landing key k t).place ≡ leaf
    → Lacking key k (slots t)
unfolding find_landing
find_lacking key k t rising e x m h =
    ⊎_elim (λ n. let z = find_right key k x (parts.early x n) in omega arith)
    (λ n. let z = find_left key k x (parts.late x n) in omega arith)
    (Memᴰ.append_cases (before (find_landing key k t).way) (rw (slots_landing (find_step key k) t e) at m))
  where
    parts : Parted (find_step key k) (find_landing key k t).way
    parts = parted_landing t (directed_find key k) rising

-- ---- what is found

-- the descent ends at a slot with the key, or where insert would hang one
pub entry_cases : (key : ℕ → ℕ) (k : ℕ) (t : Tree) → Rising key 0 (slots t) → ((x : ℕ) × Met key k t x) ⊎ Unmet key k t
unfolding entry_for entry_of entry_at
entry_cases key k t rising = go (find_landing key k t).place refl
  where
    go : (u : Tree) → (find_landing key k t).place ≡ u → ((x : ℕ) × Met key k t x) ⊎ Unmet key k t
    go leaf e =
        let lacking = find_lacking key k t rising e in
        inr
        (record {
          entry = rw (e, find_insert key k t e);
          same = find_insert key k t e;
          lacking = lacking;
          held = lacking_holds key k (slots t) lacking;
        })
    go (node c l x r) e =
        let h = find_holding key k t c l x r e in
        inl (x, record { entry = rw e; holding = h; held = holding_holds key k (slots t) x h.member h.equal })

-- find answers a slot with the key, or 0 where there is none
pub find_told : (key : ℕ → ℕ) (k : ℕ) (t : Tree) → Rising key 0 (slots t)
    → Told key (find k) (slots t) (find_slot key k t)
unfolding find_slot
find_told key k t rising = ⊎_elim
    (λ h. inl (rw h.1.entry h.1.holding)) (λ h. inr (h.lacking, rw h.entry)) (entry_cases key k t rising)

-- and 0 stands for nothing else
pub find_zero : {C : ℕ} (key : ℕ → ℕ) (k : ℕ) (t : Tree) → Sound C t → Rising key 0 (slots t)
    → find_slot key k t ≡ 0 → Lacking key k (slots t)
find_zero key k t sound rising e =
    ⊎_elim (λ h. absurd (sound_zero sound (rw e at h.member))) (λ h. h.0) (find_told key k t rising)

pub lacking_find : (key : ℕ → ℕ) (k : ℕ) (t : Tree) → Rising key 0 (slots t) → Lacking key k (slots t)
    → find_slot key k t ≡ 0
lacking_find key k t rising lacking =
    ⊎_elim (λ h. absurd (lacking (find_slot key k t) h.member h.equal)) (λ h. h.1) (find_told key k t rising)

-- ---- the comparison of entries

-- it passes exactly where the two are the same
pub same_entry_same : (e f : Entry) → same_entry e f ≡ true → e ≡ f
same_entry_same (occupied x) (occupied y) h = ap occupied (eqb-true x y h)
same_entry_same (occupied x) (vacant q e) h = cc
same_entry_same (vacant p d) (occupied y) h = cc
same_entry_same (vacant p d) (vacant q e) h = go (eqb p q) refl
  where
    side : (d e : Side) → same_side d e ≡ true → d ≡ e
    side lft lft h = refl
    side lft rgt h = cc
    side rgt lft h = cc
    side rgt rgt h = refl

    go : (b : Bool) → eqb p q ≡ b → vacant p d ≡ vacant q e
    go true i = rw (eqb-true p q i, side d e (rw i at h))
    go false i = let z : false ≡ true = rw i at h in cc

pub same_entry_refl : (e : Entry) → same_entry e e ≡ true
same_entry_refl (occupied x) = eq-eqb x x refl
same_entry_refl (vacant p lft) = rw (eq-eqb p p refl)
same_entry_refl (vacant p rgt) = rw (eq-eqb p p refl)
