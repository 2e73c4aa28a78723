-- Only one outcome keeps the promise of each function that is offered.
use Prim.Native.Nat.{ℕ}
use mathlib.Core.Path.{◌≡◌, sym, ap, ◌∙◌}
use mathlib.Core.List.{List}
use native.Mathlib.Omega.{arith}
use lib.ListN.{length, drop, length-drop}
use Rattle.model.specs.Codes.{trimmed, read_line}
use Rattle.std.specs.Prelude.{Result}
use Rattle.links.specs.declared.types.Key.{Key}
use Rattle.links.specs.declared.types.Refusal.{Refusal}
use Rattle.codes.specs.Reading.{Keyed, Start}
use Rattle.codes.proofs.Told.{answer_one}

module _ (line : List ℕ) where
  pub trim_one : (a b : List ℕ) → a ≡ trimmed line → b ≡ trimmed line → a ≡ b
  trim_one a b p q = p ∙ sym q

  pub code_key_one : (a b : Result Key Refusal) → Keyed (read_line line) a → Keyed (read_line line) b → a ≡ b
  code_key_one a b p q = answer_one a b (p.code ∙ sym q.code) (p.key ∙ sym q.key)

  pub code_part_one : (a b : List ℕ) → a ≡ (read_line line).part → b ≡ (read_line line).part → a ≡ b
  code_part_one a b p q = p ∙ sym q

  pub start_of_one : (a b : ℕ) → Start line a → Start line b → a ≡ b
  start_of_one a b p q =
      let same : length (drop a line) ≡ length (drop b line) = ap length (p.is ∙ sym q.is) in
      omega (arith, p.within, q.within, same, length-drop a line, length-drop b line)
