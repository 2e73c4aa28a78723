-- Each test of a call against the rows of the refusal table that it stands for.
use Prim.Native.Nat.{ℕ, ◌≤◌, ◌<◌}
use native.Mathlib.Omega.{arith}
use mathlib.Core.Path.{◌≡◌, refl, ap, sym, ◌∙◌}
use mathlib.Core.Logic.{◌⊎◌, inl, inr, ⊎_elim}
use mathlib.Core.Bool.{Bool, true, false}
use mathlib.Core.List.{List, ◌∷◌}
use mathlib.Core.Option.{Option, none, some}
use lib.Dec.{T, eqb, leb, ltb}
use borrow.Author.Tests.{ltb-true, ltb-false, leb-true, leb-false, eqb-true, eqb-false}
use Rattle.model.specs.Branch.{choose}
use Rattle.model.specs.Lent.{Arrays, Linked, capacity, is_linked}
use Rattle.model.specs.Answers.{Code, done, damaged, bad_slot, already_linked, not_linked, out_of_order, null_cursor}
use Rattle.model.specs.Answers.{stale}
use Rattle.model.specs.Answers.{bad_record, bad_length, short, bad_code, is_done, kind_test, position_test, slot_test}
use Rattle.model.specs.Answers.{then_test}
use Rattle.model.specs.Refusals.{Row, row, Gives, Named, position_rows, slot_rows}
use Rattle.theory.proofs.Branch.{clash}
use Rattle.theory.proofs.HoldsReads.{linked_true, true_linked}

-- ---- codes

-- a code is Done, or tests as another
pub code_cases : (c : Code) → (c ≡ done) ⊎ (is_done c ≡ false)
code_cases done = inl refl
code_cases damaged = inr refl
code_cases bad_slot = inr refl
code_cases already_linked = inr refl
code_cases not_linked = inr refl
code_cases out_of_order = inr refl
code_cases null_cursor = inr refl
code_cases stale = inr refl
code_cases bad_record = inr refl
code_cases bad_length = inr refl
code_cases short = inr refl
code_cases bad_code = inr refl

-- A test gives its code by these rows, or says Done and leaves the code to what comes after it.
abbrev pub Decides : List Row → (test after : Code) → Type 0
Decides rows test after = ((is_done test ≡ false) × Gives rows test) ⊎ ((test ≡ done) × Gives rows after)

pub then_gives : (rows : List Row) (test after : Code) → Decides rows test after
    → Gives rows (then_test test (λ _. after))
unfolding then_test
then_gives rows test after (inl given) = rw given.0 given.1
then_gives rows test after (inr passed) = rw passed.0 passed.1

some_is : {p q : ℕ} → some p ≡ some q → q ≡ p
some_is e = cc

-- ---- the kind of a bound

pub kind_decides : (kind : Option ℕ) (rest : List Row) (after : Code) → Gives rest after
    → Decides (row bad_record (Named kind λ k. 2 < k) ∷ rest) (kind_test kind) after
unfolding kind_test
kind_decides none rest after g = inr (refl, inr ((λ z. z), g))
kind_decides (some k) rest after g = go (leb k 2) refl
  where
    go : (b : Bool) → leb k 2 ≡ b → Decides (row bad_record (2 < k) ∷ rest) (kind_test (some k)) after
    go true e = rw e (inr (refl, inr ((λ z. omega (arith, leb-true k 2 e)), g)))
    go false e = rw e (inl (refl, inl (leb-false k 2 e, refl)))

-- ---- the position

-- how the test of a position ends: past the slots, at 0 where a node is needed, at a slot that is not linked, or passed
data PositionEnd (needed : Bool) (p : ℕ) (a : Arrays) (test : Code) : Type 0 where
  past : capacity a < p → test ≡ bad_slot → PositionEnd needed p a test
  null : p ≡ 0 → T needed → test ≡ null_cursor → PositionEnd needed p a test
  free : 0 < p → p ≤ capacity a → ¬ Linked a p → test ≡ not_linked → PositionEnd needed p a test
  passed : ((p ≡ 0) × (needed ≡ false)) ⊎ Linked a p → p ≤ capacity a → test ≡ done → PositionEnd needed p a test

position_end : (needed : Bool) (p : ℕ) (a : Arrays) → PositionEnd needed p a (position_test needed (some p) a)
unfolding position_test
position_end needed p a = large (ltb (capacity a) p) refl
  where
    linked : (b : Bool) → is_linked a p ≡ b → p ≤ capacity a → 0 < p
        → PositionEnd needed p a (choose b (λ _. done) (λ _. not_linked))
    linked true e high low = passed (inr (true_linked low e)) high refl
    linked false e high low = free low high (λ here. clash (sym e ∙ linked_true here)) refl

    zero : (b : Bool) → eqb p 0 ≡ b → (n : Bool) → needed ≡ n → p ≤ capacity a
        → PositionEnd needed p a
        (choose b (λ _. choose n (λ _. null_cursor) (λ _. done))
        λ _. choose (is_linked a p) (λ _. done) (λ _. not_linked))
    zero true e true f high = null (eqb-true p 0 e) (rw f tt) refl
    zero true e false f high = passed (inl (eqb-true p 0 e, f)) high refl
    zero false e n f high =
        let some : p ≡ 0 → ⊥ = eqb-false p 0 e in linked (is_linked a p) refl high (omega arith)

    large : (b : Bool) → ltb (capacity a) p ≡ b → PositionEnd needed p a (position_test needed (some p) a)
    large true e = rw e (past (ltb-true (capacity a) p e) refl)
    large false e = rw e (zero (eqb p 0) refl needed refl (ltb-false (capacity a) p e))

-- a position that passes is linked, or 0 where no node is needed
abbrev pub PositionFits : Bool → Option ℕ → Arrays → Type 0
PositionFits needed position a = (p : ℕ) → position ≡ some p → ((p ≡ 0) × (needed ≡ false)) ⊎ Linked a p

pub position_decides : (needed : Bool) (position : Option ℕ) (a : Arrays) (rest : List Row) (after : Code)
    → (PositionFits needed position a → Gives rest after)
    → Decides (position_rows needed position a rest) (position_test needed position a) after
unfolding position_test
position_decides needed none a rest after g =
    inr (refl, inr ((λ z. z), inr ((λ z. z), inr ((λ z. z), g (λ p e. clash (cc))))))
position_decides needed (some p) a rest after g = go (position_test needed (some p) a) (position_end needed p a)
  where
    no_null : ((p ≡ 0) × (needed ≡ false)) ⊎ Linked a p → (p ≡ 0) × T needed → ⊥
    no_null fits node = ⊎_elim (λ z. rw z.1 at node.1) (λ here. omega (arith, here.positive, node.0)) fits

    no_free : ((p ≡ 0) × (needed ≡ false)) ⊎ Linked a p → (0 < p) × (p ≤ capacity a) × (¬ Linked a p) → ⊥
    no_free fits bare = ⊎_elim (λ z. omega (arith, bare.0, z.0)) (λ here. bare.2 here) fits

    go : (test : Code) → PositionEnd needed p a test → Decides (position_rows needed (some p) a rest) test after
    go test (past over e) = rw e (inl (refl, inl (over, refl)))
    go test (null zero node e) = rw e (inl (refl, inr ((λ over. omega arith), inl ((zero, node), refl))))
    go test (free low high apart e) =
        rw e
        (inl
        (refl, inr ((λ over. omega arith), inr ((λ zero. omega (arith, zero.0)), inl ((low, high, apart), refl)))))
    go test (passed fits high e) =
        rw e
        (inr
        (refl, inr ((λ over. omega arith), inr (no_null fits, inr (no_free fits, g (λ q f. rw (some_is f) fits))))))

pub position_done : (needed : Bool) (position : Option ℕ) (a : Arrays) → position_test needed position a ≡ done
    → PositionFits needed position a
position_done needed none a e p f = clash (cc)
position_done needed (some p) a e q f = rw (some_is f)
    (go (position_test needed (some p) a) e (position_end needed p a))
  where
    go : (test : Code) → test ≡ done → PositionEnd needed p a test → ((p ≡ 0) × (needed ≡ false)) ⊎ Linked a p
    go test is (past over e) = clash (cc)
    go test is (null zero node e) = clash (cc)
    go test is (free low high apart e) = clash (cc)
    go test is (passed fits high e) = fits

-- ---- the new slot

-- how the test of a new slot ends: no such slot, one that is linked, or passed
data SlotEnd (s : ℕ) (a : Arrays) (test : Code) : Type 0 where
  outside : (s ≡ 0) ⊎ (capacity a < s) → test ≡ bad_slot → SlotEnd s a test
  taken : 0 < s → s ≤ capacity a → Linked a s → test ≡ already_linked → SlotEnd s a test
  passed : 0 < s → s ≤ capacity a → ¬ Linked a s → test ≡ done → SlotEnd s a test

slot_end : (s : ℕ) (a : Arrays) → SlotEnd s a (slot_test (some s) a)
unfolding slot_test
slot_end s a = zero (eqb s 0) refl
  where
    linked : (b : Bool) → is_linked a s ≡ b → s ≤ capacity a → 0 < s
        → SlotEnd s a (choose b (λ _. already_linked) (λ _. done))
    linked true e high low = taken low high (true_linked low e) refl
    linked false e high low = passed low high (λ here. clash (sym e ∙ linked_true here)) refl

    large : (b : Bool) → ltb (capacity a) s ≡ b → 0 < s
        → SlotEnd s a (choose b (λ _. bad_slot) λ _. choose (is_linked a s) (λ _. already_linked) (λ _. done))
    large true e low = outside (inr (ltb-true (capacity a) s e)) refl
    large false e low = linked (is_linked a s) refl (ltb-false (capacity a) s e) low

    zero : (b : Bool) → eqb s 0 ≡ b → SlotEnd s a (slot_test (some s) a)
    zero true e = rw e (outside (inl (eqb-true s 0 e)) refl)
    zero false e = let some : s ≡ 0 → ⊥ = eqb-false s 0 e in rw e (large (ltb (capacity a) s) refl (omega arith))

-- a new slot that passes is one of the slots and not linked
abbrev pub SlotFits : Option ℕ → Arrays → Type 0
SlotFits slot a = (s : ℕ) → slot ≡ some s → (0 < s) × (s ≤ capacity a) × (¬ Linked a s)

pub slot_decides : (slot : Option ℕ) (a : Arrays) (rest : List Row) (after : Code)
    → (SlotFits slot a → Gives rest after) → Decides (slot_rows slot a rest) (slot_test slot a) after
unfolding slot_test
slot_decides none a rest after g = inr (refl, inr ((λ z. z), inr ((λ z. z), g (λ s e. clash (cc)))))
slot_decides (some s) a rest after g = go (slot_test (some s) a) (slot_end s a)
  where
    within : 0 < s → s ≤ capacity a → (s ≡ 0) ⊎ (capacity a < s) → ⊥
    within low high = ⊎_elim (λ z. omega arith) (λ z. omega arith)

    go : (test : Code) → SlotEnd s a test → Decides (slot_rows (some s) a rest) test after
    go test (outside out e) = rw e (inl (refl, inl (out, refl)))
    go test (taken low high here e) = rw e (inl (refl, inr (within low high, inl (here, refl))))
    go test (passed low high apart e) =
        rw e (inr (refl, inr (within low high, inr (apart, g (λ q f. rw (some_is f) (low, high, apart))))))

pub slot_done : (slot : Option ℕ) (a : Arrays) → slot_test slot a ≡ done → SlotFits slot a
slot_done none a e s f = clash (cc)
slot_done (some s) a e q f = rw (some_is f) (go (slot_test (some s) a) e (slot_end s a))
  where
    go : (test : Code) → test ≡ done → SlotEnd s a test → (0 < s) × (s ≤ capacity a) × (¬ Linked a s)
    go test is (outside out e) = clash (cc)
    go test is (taken low high here e) = clash (cc)
    go test is (passed low high apart e) = (low, high, apart)

-- ---- one test after another

pub then_done : (test after : Code) → then_test test (λ _. after) ≡ done → (test ≡ done) × (after ≡ done)
unfolding then_test
then_done test after e = ⊎_elim
    (λ passed. (passed, (rw passed at e)))
    (λ given. let same : test ≡ done = rw given at e in clash (sym given ∙ ap is_done same)) (code_cases test)
