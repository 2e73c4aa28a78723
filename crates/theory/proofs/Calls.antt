-- Demand 1: a call gives each code exactly when the first row of the refusal table that applies says so, and a call
-- that is refused changes nothing and answers two zeros beside its code.
use Prim.Native.Nat.{ℕ, ◌*◌, ◌%◌, ◌<◌}
use native.Mathlib.Omega.{arith}
use mathlib.Core.Path.{◌≡◌, refl, ap, sym, ◌∙◌}
use mathlib.Core.Logic.{◌≢◌, ◌⊎◌, inl, inr, ⊎_elim}
use mathlib.Core.Bool.{Bool, true, false}
use mathlib.Core.List.{List}
use lib.ListN.{length}
use lib.Dec.{eqb, ltb}
use borrow.Author.Tests.{ltb-true, ltb-false, eqb-true, eqb-false}
use Rattle.model.specs.Limits.{record_size, answer_size, batch_limit}
use Rattle.model.specs.Lent.{Lent, key_of, tree_of}
use Rattle.model.specs.Check.{check}
use Rattle.model.specs.Descent.{Entry}
use Rattle.model.specs.Commands.{Command, or_insert}
use Rattle.model.specs.Answers.{Code, done, Outcome, refused, is_done, refusal, entry_refusal, unless_refused}
use Rattle.model.specs.Operations.{accepted, operate, perform, or_insert_call}
use Rattle.model.specs.Batch.{refused_batch, filled, records, bad_length_of, is_short, batch}
use Rattle.model.specs.Refusals.{Gives, single_rows, entry_rows, batch_rows}
use Rattle.theory.specs.Demands.{Faithful}
use Rattle.theory.proofs.Check.{check_sound, check_false}
use Rattle.theory.proofs.Holds.{well_holds}
use Rattle.theory.proofs.Results.{accept_done}
use Rattle.theory.proofs.Tests.{code_cases}
use Rattle.theory.proofs.Refusals.{refusal_gives, entry_gives}

accepted_done : (c : Command) (m : Lent) → (accepted c m).answer.code ≡ done
unfolding accepted
accepted_done c m = accept_done c (key_of m.arrays) (tree_of m) m

-- ---- what is refused, and what is not

-- a refused outcome, or the accepted one
pub unless_cases : (c : Code) (m : Lent) (o : Outcome)
    → ((c ≡ done) × (unless_refused c m (λ _. o) ≡ o))
    ⊎ ((is_done c ≡ false) × (unless_refused c m (λ _. o) ≡ refused c m))
unfolding unless_refused
unless_cases c m o = ⊎_elim (λ e. inl (e, rw e)) (λ e. inr (e, rw e)) (code_cases c)

unless_code : (c : Code) (m : Lent) (o : Outcome) → o.answer.code ≡ done
    → (unless_refused c m (λ _. o)).answer.code ≡ c
unless_code c m o e = ⊎_elim
    (λ h. ap (λ (p : Outcome). p.answer.code) h.1 ∙ e ∙ sym h.0)
    (λ h. ap (λ (p : Outcome). p.answer.code) h.1) (unless_cases c m o)

pub operate_code : (c : Command) (m : Lent) → (operate c m).answer.code ≡ refusal c m
unfolding operate
operate_code c m = unless_code (refusal c m) m (accepted c m) (accepted_done c m)

unless_faithful : (c : Code) (m : Lent) (o : Outcome) → o.answer.code ≡ done → Faithful m (unless_refused c m (λ _. o))
unless_faithful c m o e other = ⊎_elim
    (λ h. absurd (other (ap (λ (p : Outcome). p.answer.code) h.1 ∙ e)))
    (λ h. h.1 ∙ ap (λ (p : Outcome). refused p.answer.code m) (sym h.1)) (unless_cases c m o)

-- ---- single calls

pub perform_gives : (c : Command) (m : Lent) → Gives (single_rows c m) (perform c m).answer.code
unfolding perform
perform_gives c m = go (check m) refl
  where
    go : (b : Bool) → check m ≡ b → Gives (single_rows c m) (perform c m).answer.code
    go true e =
        let well = check_sound m e in
        rw (e, operate_code c m) (inr ((λ broken. broken well), refusal_gives (well_holds m well) c))
    go false e = rw e (inl (check_false m e, refl))

pub perform_refused : (c : Command) (m : Lent) → Faithful m (perform c m)
unfolding perform operate
perform_refused c m = go (check m) refl
  where
    go : (b : Bool) → check m ≡ b → Faithful m (perform c m)
    go true e = rw e (unless_faithful (refusal c m) m (accepted c m) (accepted_done c m))
    go false e = rw e (λ other. refl)

-- ---- or_insert with an entry

pub or_insert_gives : (e : Entry) (s k : ℕ) (m : Lent) → Gives (entry_rows e s k m) (or_insert_call e s k m).answer.code
unfolding or_insert_call
or_insert_gives e s k m = go (check m) refl
  where
    go : (b : Bool) → check m ≡ b → Gives (entry_rows e s k m) (or_insert_call e s k m).answer.code
    go true z =
        let well = check_sound m z in
        rw (z, unless_code (entry_refusal e s k m) m (accepted (or_insert s k) m) (accepted_done (or_insert s k) m))
        (inr ((λ broken. broken well), entry_gives (well_holds m well) e s k))
    go false z = rw z (inl (check_false m z, refl))

pub or_insert_call_refused : (e : Entry) (s k : ℕ) (m : Lent) → Faithful m (or_insert_call e s k m)
unfolding or_insert_call
or_insert_call_refused e s k m = go (check m) refl
  where
    go : (b : Bool) → check m ≡ b → Faithful m (or_insert_call e s k m)
    go true z =
        rw z (unless_faithful (entry_refusal e s k m) m (accepted (or_insert s k) m) (accepted_done (or_insert s k) m))
    go false z = rw z (λ other. refl)

-- ---- a batch as a whole

pub batch_gives : (input buffer : List ℕ) (m : Lent) → Gives (batch_rows input buffer m) (batch input buffer m).code
unfolding batch bad_length_of is_short filled
batch_gives input buffer m = whole (eqb (length input % record_size) 0) refl
  where
    sound : (b : Bool) → check m ≡ b → ((length input % record_size ≢ 0) ⊎ (batch_limit < length input) → ⊥)
        → (length buffer < answer_size * records input → ⊥)
        → bad_length_of input ≡ false → is_short input buffer ≡ false
        → Gives (batch_rows input buffer m) (batch input buffer m).code
    sound true e fits room f g = rw (f, g, e) (inr (fits, inr (room, inr ((λ broken. broken (check_sound m e)), refl))))
    sound false e fits room f g = rw (f, g, e) (inr (fits, inr (room, inl (check_false m e, refl))))

    roomy : (b : Bool) → ltb (length buffer) (answer_size * records input) ≡ b
        → ((length input % record_size ≢ 0) ⊎ (batch_limit < length input) → ⊥) → bad_length_of input ≡ false
        → Gives (batch_rows input buffer m) (batch input buffer m).code
    roomy true e fits f = rw (f, e) (inr (fits, inl (ltb-true (length buffer) (answer_size * records input) e, refl)))
    roomy false e fits f =
        sound (check m) refl fits (λ z. omega (arith, ltb-false (length buffer) (answer_size * records input) e)) f e

    long : (b : Bool) → ltb batch_limit (length input) ≡ b → eqb (length input % record_size) 0 ≡ true
        → Gives (batch_rows input buffer m) (batch input buffer m).code
    long true e f = rw (f, e) (inl (inr (ltb-true batch_limit (length input) e), refl))
    long false e f =
        roomy (ltb (length buffer) (answer_size * records input)) refl
        (⊎_elim (λ z. z (eqb-true (length input % record_size) 0 f))
        (λ z. omega (arith, ltb-false batch_limit (length input) e)))
        (rw (f, e))

    whole : (b : Bool) → eqb (length input % record_size) 0 ≡ b
        → Gives (batch_rows input buffer m) (batch input buffer m).code
    whole true e = long (ltb batch_limit (length input)) refl e
    whole false e = rw e (inl (inl (eqb-false (length input % record_size) 0 e), refl))

pub batch_refused : (input buffer : List ℕ) (m : Lent) → (batch input buffer m).code ≢ done
    → batch input buffer m ≡ refused_batch (batch input buffer m).code buffer m
unfolding batch filled
batch_refused input buffer m = go (bad_length_of input) refl (is_short input buffer) refl (check m) refl
  where
    go : (a : Bool) → bad_length_of input ≡ a → (b : Bool) → is_short input buffer ≡ b → (c : Bool) → check m ≡ c
        → (batch input buffer m).code ≢ done → batch input buffer m ≡ refused_batch (batch input buffer m).code buffer m
    go true e b f c g = rw e (λ other. refl)
    go false e true f c g = rw (e, f) (λ other. refl)
    go false e false f false g = rw (e, f, g) (λ other. refl)
    go false e false f true g = rw (e, f, g) (λ other. absurd (other refl))
