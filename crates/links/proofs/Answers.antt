-- The model tells the code's answers apart: a promise about `refusal_code` or `told` settles the refusal or the answer.
use Prim.Native.Nat.{ℕ}
use mathlib.Core.Bool.{false}
use mathlib.Core.Path.{◌≡◌, refl, sym, ap, ◌∙◌}
use Rattle.std.proofs.Common.{Result, Ok, Err}
use Rattle.model.specs.Answers as model
use Rattle.links.specs.declared.types.Done.{Done}
use Rattle.links.specs.declared.types.Refusal.{Refusal}
use Rattle.links.specs.declared.types.Refusal.TheVariants.{Damaged, BadSlot, AlreadyLinked, NotLinked, OutOfOrder}
use Rattle.links.specs.declared.types.Refusal.TheVariants.{NullCursor, Stale, BadRecord, BadLength, Short, BadCode}
use Rattle.links.specs.Outcomes.{refusal_code, told}

-- what stands for a code, where done is given
abbrev pub case_of : {A : Type 0} → A → model.Code → Result A Refusal
case_of a model.done = Ok a
case_of a model.damaged = Err Damaged
case_of a model.bad_slot = Err BadSlot
case_of a model.already_linked = Err AlreadyLinked
case_of a model.not_linked = Err NotLinked
case_of a model.out_of_order = Err OutOfOrder
case_of a model.null_cursor = Err NullCursor
case_of a model.stale = Err Stale
case_of a model.bad_record = Err BadRecord
case_of a model.bad_length = Err BadLength
case_of a model.short = Err Short
case_of a model.bad_code = Err BadCode

-- the refusal in a result, else another
abbrev error_or : {A : Type 0} → Refusal → Result A Refusal → Refusal
error_or r (Ok a) = r
error_or r (Err why) = why

pub case_of_code : {A : Type 0} (a : A) (r : Refusal) → case_of a (refusal_code r) ≡ Err r
case_of_code a Damaged = refl
case_of_code a BadSlot = refl
case_of_code a AlreadyLinked = refl
case_of_code a NotLinked = refl
case_of_code a OutOfOrder = refl
case_of_code a NullCursor = refl
case_of_code a Stale = refl
case_of_code a BadRecord = refl
case_of_code a BadLength = refl
case_of_code a Short = refl
case_of_code a BadCode = refl

-- One code, one refusal.
pub code_one : (a b : Refusal) → refusal_code a ≡ refusal_code b → a ≡ b
code_one a b e =
    ap (λ (r : Result ℕ Refusal). error_or a r) (sym (case_of_code 0 a) ∙ ap (case_of 0) e ∙ case_of_code 0 b)

-- the answer that stands for one of the model
abbrev answer_of : model.Answer → Result Done Refusal
answer_of a = case_of (record { probes = a.probes; slot = record { 0 = a.slot } }) a.code

answer_of_told : (a : Result Done Refusal) → answer_of (told a) ≡ a
answer_of_told (Ok d) = refl
answer_of_told (Err r) = case_of_code _ r

-- One answer of the model, one of the code.
pub told_one : (a b : Result Done Refusal) → told a ≡ told b → a ≡ b
told_one a b e = sym (answer_of_told a) ∙ ap answer_of e ∙ answer_of_told b

-- A refusal isn't Done.
pub refuses : (r : Refusal) → model.is_done (refusal_code r) ≡ false
refuses Damaged = refl
refuses BadSlot = refl
refuses AlreadyLinked = refl
refuses NotLinked = refl
refuses OutOfOrder = refl
refuses NullCursor = refl
refuses Stale = refl
refuses BadRecord = refl
refuses BadLength = refl
refuses Short = refl
refuses BadCode = refl
