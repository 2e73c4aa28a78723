-- The promise of `batch` is an equation with one side that the arguments settle, and the other side tells refusals,
-- counts, bytes and lent numbers apart: so only one outcome satisfies it.
use Prim.Native.Nat.{ℕ}
use mathlib.Core.Path.{◌≡◌, refl, ap, sym, ◌∙◌}
use mathlib.Core.List.{List}
use Rattle.std.proofs.Common.{Result, Ok, Err}
use Rattle.model.specs.Lent.{Lent}
use Rattle.model.specs.Batch.{BatchOutcome}
use Rattle.links.specs.declared.types.Refusal.{Refusal}
use Rattle.links.proofs.Answers.{case_of, case_of_code}
use Rattle.batch.specs.Batched.{batch_told}

-- what stands for an outcome of the model
abbrev count_from : BatchOutcome → Result ℕ Refusal
count_from o = case_of o.count o.code

count_from_told : (r : Result ℕ Refusal) (x : List ℕ) (m : Lent) → count_from (batch_told r x m) ≡ r
count_from_told (Ok n) x m = refl
count_from_told (Err why) x m = case_of_code _ why

pub batch_one : (o : BatchOutcome) (a b : Result ℕ Refusal) (x y : List ℕ) (m n : Lent)
    → batch_told a x m ≡ o → batch_told b y n ≡ o → (a ≡ b) × (x ≡ y) × (m ≡ n)
batch_one o a b x y m n p q = (
  sym (count_from_told a x m) ∙ ap count_from (p ∙ sym q) ∙ count_from_told b y n,
  ap (λ (r : BatchOutcome). r.buffer) (p ∙ sym q),
  ap (λ (r : BatchOutcome). r.after) (p ∙ sym q),
)
