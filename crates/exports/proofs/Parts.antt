-- The code of a line is what the line begins with once the spaces at its start are cut.
use Prim.Native.Nat.{ℕ, ◌≤◌}
use mathlib.Core.Path.{◌≡◌, refl, ap, ◌∙◌}
use mathlib.Core.Bool.{Bool, true, false}
use mathlib.Core.List.{List, [], ◌∷◌}
use native.Mathlib.Omega.{arith}
use lib.ListN.{length, take, drop, length-drop}
use lib.Dec.{eqb}
use Rattle.model.specs.Branch.{choose}
use Rattle.model.specs.Limits.{code_limit}
use Rattle.model.specs.Answers.{done, bad_code}
use Rattle.model.specs.Codes.{drop_spaces, keep, strip_end, trimmed, is_code, key_up_to, Reading, read_part, read_line}
use Rattle.codes.specs.Reading.{Start}
use Rattle.exports.specs.Told.{PartTold}

-- t is what s begins with.
record Begins (s t : List ℕ) : Type 0 where
  fits : length t ≤ length s
  is : take (length t) s ≡ t

begins_empty : (s : List ℕ) → Begins s []
begins_empty s = record { fits = omega arith; is = refl }

begins_kept : (b : ℕ) (s t : List ℕ) → Begins s t → Begins (b ∷ s) (keep b t)
begins_kept b s [] p = alone (eqb b 32)
  where
    alone : (space : Bool) → Begins (b ∷ s) (choose space (λ _. []) (λ _. b ∷ []))
    alone true = begins_empty (b ∷ s)
    alone false = record { fits = omega arith; is = refl }
begins_kept b s (x ∷ t) p = record { fits = omega (arith, p.fits); is = ap (λ (u : List ℕ). b ∷ u) p.is }

begins_stripped : (s : List ℕ) → Begins s (strip_end s)
unfolding strip_end
begins_stripped [] = begins_empty []
begins_stripped (b ∷ s) = begins_kept b s (strip_end s) (begins_stripped s)

begins_part : (l : List ℕ) → Begins (drop_spaces l) (read_line l).part
unfolding read_line read_part trimmed
begins_part l = chosen (is_code (trimmed l))
  where
    chosen : (accepted : Bool) → Begins (drop_spaces l)
        (choose {A = Reading} accepted
        (λ _. record { code = done; key = key_up_to (trimmed l) code_limit; part = trimmed l })
        (λ _. record { code = bad_code; key = 0; part = [] })).part
    chosen true = begins_stripped (drop_spaces l)
    chosen false = begins_empty (drop_spaces l)

pub part_told :
    {l part : List ℕ} {a : ℕ} → Start l a → part ≡ (read_line l).part →
    PartTold (record { start = a; length = length part }) l
part_told {l} {part} {a} p e =
    let b : Begins (drop a l) part = rw (p.is, e) (begins_part l) in
    record {
      within = omega (arith, p.within, b.fits, length-drop a l);
      starts = p.is;
      is = b.is ∙ e;
    }
