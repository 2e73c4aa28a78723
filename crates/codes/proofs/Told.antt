-- The model tells the answers of a line apart: a promise about the code and the key settles the answer.
use Prim.Native.Nat.{ℕ}
use mathlib.Core.Path.{◌≡◌, refl, sym, ap, ◌∙◌}
use mathlib.Core.Bool.{true, false, false≢true}
use Rattle.std.specs.Prelude.{Result, Ok, Err, is_ok}
use Rattle.model.specs.Answers as model
use Rattle.links.specs.declared.types.Key.{Key}
use Rattle.links.specs.declared.types.Refusal.{Refusal}
use Rattle.links.specs.declared.types.Refusal.TheVariants.{Damaged, BadSlot, AlreadyLinked, NotLinked, OutOfOrder}
use Rattle.links.specs.declared.types.Refusal.TheVariants.{NullCursor, Stale, BadRecord, BadLength, Short, BadCode}
use Rattle.codes.specs.Reading.{code_of, key_of}

-- the answer that stands for a code and a key
abbrev answer_of : model.Code → ℕ → Result Key Refusal
answer_of model.done k = Ok (record { 0 = k })
answer_of model.damaged k = Err Damaged
answer_of model.bad_slot k = Err BadSlot
answer_of model.already_linked k = Err AlreadyLinked
answer_of model.not_linked k = Err NotLinked
answer_of model.out_of_order k = Err OutOfOrder
answer_of model.null_cursor k = Err NullCursor
answer_of model.stale k = Err Stale
answer_of model.bad_record k = Err BadRecord
answer_of model.bad_length k = Err BadLength
answer_of model.short k = Err Short
answer_of model.bad_code k = Err BadCode

answer_is : (r : Result Key Refusal) → answer_of (code_of r) (key_of r) ≡ r
answer_is (Ok k) = refl
answer_is (Err Damaged) = refl
answer_is (Err BadSlot) = refl
answer_is (Err AlreadyLinked) = refl
answer_is (Err NotLinked) = refl
answer_is (Err OutOfOrder) = refl
answer_is (Err NullCursor) = refl
answer_is (Err Stale) = refl
answer_is (Err BadRecord) = refl
answer_is (Err BadLength) = refl
answer_is (Err Short) = refl
answer_is (Err BadCode) = refl

-- One code and one key, one answer.
pub answer_one : (a b : Result Key Refusal) → code_of a ≡ code_of b → key_of a ≡ key_of b → a ≡ b
answer_one a b c k =
    sym (answer_is a) ∙ ap (λ (x : model.Code). answer_of x (key_of a)) c ∙ ap (answer_of (code_of b)) k ∙ answer_is b

-- The code of an answer is done where there is a key, and only there.
pub passed : (r : Result Key Refusal) → is_ok r ≡ true → code_of r ≡ model.done
passed (Ok k) e = refl
passed (Err why) e = absurd (false≢true e)

pub refused : (r : Result Key Refusal) → is_ok r ≡ false → code_of r ≡ model.done → ⊥
refused r f e = false≢true (sym f ∙ ap is_ok (sym (answer_is r) ∙ ap (λ (x : model.Code). answer_of x (key_of r)) e))
