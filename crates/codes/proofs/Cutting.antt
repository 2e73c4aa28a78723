-- Cutting the spaces at both ends of a line, a byte at a time.
use Prim.Native.Nat.{ℕ, suc, ◌+◌, ◌-◌, ◌≤◌}
use mathlib.Core.Path.{◌≡◌, refl, ◌∙◌}
use mathlib.Core.Bool.{Bool, true, false, cond}
use mathlib.Core.Logic.{by_cases}
use native.Mathlib.Decide.{ℕ_discrete}
use mathlib.Core.List.{List, [], ◌∷◌, ◌++◌, reverse, reverse-cons, reverse-reverse}
use native.Mathlib.Omega.{arith}
use lib.Dec.{eqb}
use lib.ListN.{length, take, drop, length-drop}
use lib.Seq.{take_all}
use borrow.Author.Tests.{eq-eqb, ne_eqb}
use Rattle.std.specs.List.{prefix_len}
use Rattle.std.proofs.lemmas.List.{take-append-le, length-reverse, length-append}
use Rattle.std.proofs.lemmas.List.Sums.{prefix_len-le-length}
use Rattle.model.specs.Branch.{choose}
use Rattle.model.specs.Codes.{drop_spaces, keep, strip_end, trimmed}
use Rattle.codes.specs.Reading.{Start, End}

-- ---- at the start

-- how many spaces are in front
abbrev pub spaces : List ℕ → ℕ
spaces s = prefix_len (λ b. eqb b 32) s

drop_leading : (s : List ℕ) → drop (spaces s) s ≡ drop_spaces s
unfolding drop_spaces
drop_leading [] = refl
drop_leading (b ∷ s) = go (eqb b 32) (drop_leading s)
  where
    go : (t : Bool) → drop (spaces s) s ≡ drop_spaces s →
        drop (cond t (1 + spaces s) 0) (b ∷ s) ≡ choose t (λ _. drop_spaces s) (λ _. b ∷ s)
    go true e = let q : 1 + spaces s ≡ suc (spaces s) = omega arith in rw q e
    go false e = refl

pub start_is : (s : List ℕ) → Start s (spaces s)
start_is s = record { within = prefix_len-le-length (λ b. eqb b 32) s; is = drop_leading s }

-- ---- at the end

keep_before : (x : ℕ) (s : List ℕ) (b : ℕ) → keep x (s ++ b ∷ []) ≡ x ∷ s ++ b ∷ []
keep_before x [] b = refl
keep_before x (y ∷ s) b = refl

strip_space : (s : List ℕ) (b : ℕ) → b ≡ 32 → strip_end (s ++ b ∷ []) ≡ strip_end s
unfolding strip_end
strip_space [] b e = rw (eq-eqb b 32 e)
strip_space (x ∷ s) b e = rw (strip_space s b e)

strip_other : (s : List ℕ) (b : ℕ) → (b ≡ 32 → ⊥) → strip_end (s ++ b ∷ []) ≡ s ++ b ∷ []
unfolding strip_end
strip_other [] b f = rw (ne_eqb b 32 f)
strip_other (x ∷ s) b f = rw (strip_other s b f) (keep_before x s b)

-- The line from its end on: a space goes, and any other byte stays, with all before it.
strip_last : (r : List ℕ) → take (length r - spaces r) (reverse r) ≡ strip_end (reverse r)
unfolding strip_end
strip_last [] = refl
strip_last (b ∷ r) = rw reverse-cons (by_cases (ℕ_discrete b 32) (space (strip_last r)) other)
  where
    most : length r ≤ length (reverse r)
    most = omega (arith, length-reverse r)

    space : take (length r - spaces r) (reverse r) ≡ strip_end (reverse r) → b ≡ 32 →
        take (suc (length r) - cond (eqb b 32) (1 + spaces r) 0) (reverse r ++ b ∷ []) ≡ strip_end (reverse r ++ b ∷ [])
    space rest e =
        let q : suc (length r) - (1 + spaces r) ≡ length r - spaces r = omega arith in
        rw (strip_space (reverse r) b e, eq-eqb b 32 e, q)
        (take-append-le (length r - spaces r) (reverse r) (b ∷ []) (omega (arith, most)) ∙ rest)

    other : (b ≡ 32 → ⊥) →
        take (suc (length r) - cond (eqb b 32) (1 + spaces r) 0) (reverse r ++ b ∷ []) ≡ strip_end (reverse r ++ b ∷ [])
    other f =
        rw (strip_other (reverse r) b f, ne_eqb b 32 f)
        (take_all (suc (length r) - 0) (reverse r ++ b ∷ [])
        (omega (arith, length-reverse r, length-append (reverse r) (b ∷ []))))

pub end_is : (s : List ℕ) → End s (length s - spaces (reverse s))
end_is s = record {
  within = omega arith;
  is = rw (← length-reverse s) (rw (reverse-reverse s) at (strip_last (reverse s)));
}

-- ---- both

-- What the end leaves of what the start leaves is the trimmed line, as its first n bytes from a on.
pub cut_both :
    {s : List ℕ} {a n : ℕ} → Start s a → End (take (length s - a) (drop a s)) n →
    take n (take (length s - a) (drop a s)) ≡ trimmed s
unfolding trimmed
cut_both {s} {a} {n} p q =
    let rest : take (length s - a) (drop a s) ≡ drop a s =
    take_all (length s - a) (drop a s) (simp length-drop (omega arith)) in
    rw (rest, ← p.is) (rw rest at q.is)
