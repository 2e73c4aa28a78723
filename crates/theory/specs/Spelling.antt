-- Which parts of a line spell a code, in terms of their bytes: what the theorems on code keys speak of.
use Rattle.std.specs.Prelude.{ℕ, ◌≤◌, ◌<◌, ◌≡◌, List, ◌⊎◌, length, get_or}
use Rattle.model.specs.Limits.{code_limit}

-- b lies from lo to hi
abbrev pub Within : (lo hi b : ℕ) → Type 0
Within lo hi b = (lo ≤ b) × (b ≤ hi)

-- a digit, or a letter of either case
abbrev pub Character : (byte : ℕ) → Type 0
Character b = Within 48 57 b ⊎ (Within 65 90 b ⊎ Within 97 122 b)

-- Each byte is one.
abbrev pub Spelled : (part : List ℕ) → Type 0
Spelled s = (i : ℕ) → i < length s → Character (get_or s i 0)

-- Some byte is none.
abbrev pub Stray : (part : List ℕ) → Type 0
Stray s = (i : ℕ) × (i < length s) × (Character (get_or s i 0) → ⊥)

-- what makes a part a code
pub record Good (part : List ℕ) : Type 0 where
  pub filled : 0 < length part
  pub fits : length part ≤ code_limit
  pub spelled : Spelled part

-- what is against it
abbrev pub Bad : (part : List ℕ) → Type 0
Bad s = (length s ≡ 0) ⊎ ((code_limit < length s) ⊎ Stray s)
