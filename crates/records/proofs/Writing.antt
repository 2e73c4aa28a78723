-- Writing: the bytes of an answer are those of the model. Assumes nothing.
use Prim.Native.Nat.{ℕ, ◌+◌, ◌≤◌}
use mathlib.Core.Path.{◌≡◌, refl}
use mathlib.Core.List.{List, [], ◌∷◌, append_assoc}
use native.Mathlib.Numerals.{unary_clauses}
use lib.ListN.{length, set, length-set}
use lib.Seq.{sets-eq}
use Rattle.std.proofs.Common.{Result, Ok, Err}
use Rattle.model.specs.Answers as model
use Rattle.model.specs.Batch.{answer_bytes}
use Rattle.model.specs.Limits.{answer_size}
use Rattle.links.specs.declared.types.Done.{Done}
use Rattle.links.specs.declared.types.Refusal.{Refusal}
use Rattle.links.specs.declared.types.Refusal.TheVariants.{Damaged, BadSlot, AlreadyLinked, NotLinked, OutOfOrder}
use Rattle.links.specs.declared.types.Refusal.TheVariants.{NullCursor, Stale, BadRecord, BadLength, Short, BadCode}
use Rattle.links.specs.Outcomes.{told, refusal_code}
use Rattle.records.specs.Records.{Lays, answer_in}

-- Six stores side by side lay six values.
pub six_laid :
    (at a b c d e f : ℕ) (l : List ℕ) → at + 6 ≤ length l
    → Lays at 6 (a ∷ b ∷ c ∷ d ∷ e ∷ f ∷ []) l
    (set (set (set (set (set (set l at a) (at + 1) b) (at + 2) c) (at + 3) d) (at + 4) e) (at + 5) f)
six_laid at a b c d e f l fits = record {
  is = simp unary_clauses (simp (unary_clauses, append_assoc) at (sets-eq (a ∷ b ∷ c ∷ d ∷ e ∷ f ∷ []) l at fits));
  same = simp length-set;
}

-- Every answer takes as many bytes.
pub answer_length : (a : model.Answer) → length (answer_bytes a) ≡ answer_size
unfolding answer_bytes
answer_length a = refl

-- of a call that is done
pub done_bytes : (answer : Result Done Refusal) {done : Done} → answer ≡ Ok done
    → answer_in 0 done.probes done.slot.0 ≡ answer_bytes (told answer)
unfolding answer_bytes
done_bytes answer e = rw e refl

-- of one that is refused
refusal_bytes : (why : Refusal) → answer_in (model.code_number (refusal_code why)) 0 0 ≡ answer_bytes (told (Err why))
unfolding answer_bytes
refusal_bytes Damaged = refl
refusal_bytes BadSlot = refl
refusal_bytes AlreadyLinked = refl
refusal_bytes NotLinked = refl
refusal_bytes OutOfOrder = refl
refusal_bytes NullCursor = refl
refusal_bytes Stale = refl
refusal_bytes BadRecord = refl
refusal_bytes BadLength = refl
refusal_bytes Short = refl
refusal_bytes BadCode = refl

pub refused_bytes : (answer : Result Done Refusal) {why : Refusal} {n : ℕ} → answer ≡ Err why
    → n ≡ model.code_number (refusal_code why) → answer_in n 0 0 ≡ answer_bytes (told answer)
refused_bytes answer {why} e f = rw (e, f) (refusal_bytes why)
