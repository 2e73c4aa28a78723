-- The check's two functions as one over a colour, and what it has read of the arrays where it accepts.
use Rattle.std.specs.Prelude.{ℕ, List, [], ◌∷◌, ◌≡◌}
use Rattle.model.specs.Branch.{choose}
use Rattle.model.specs.Tree.{Color, red, black, Tree, slots}
use Rattle.model.specs.Lent.{Arrays, key_of}
use Rattle.model.specs.WellFormed.{Rising}
use Rattle.model.specs.Check.{Verdict, names_red, red_check, black_check}
use Rattle.theory.specs.Balance.{Calm, Even, blacks, size}
use Rattle.theory.specs.Hangs.{Hangs}

-- the last key along a list of slots, or k
abbrev pub last_key : (ℕ → ℕ) → (k : ℕ) → List ℕ → ℕ
last_key key k [] = k
last_key key k (x ∷ L) = last_key key (key x) L

-- the check for a node of this colour
abbrev pub check_of : Color → (depth : ℕ) → Arrays → (above s least : ℕ) → Verdict
check_of red depth a above s least = red_check depth a above s least
check_of black depth a above s least = black_check depth a above s least

-- which of the two is asked for a child of a node of this colour
abbrev pub asked_for : Color → Arrays → (child : ℕ) → Color
asked_for red a child = black
asked_for black a child = choose (names_red a child) (λ _. red) (λ _. black)

-- below the child number s of `above` hangs a tree with these black nodes, nodes and last key, its keys from `least` on
pub record Read (a : Arrays) (above s least b n k : ℕ) (t : Tree) : Type 0 where
  pub hangs : Hangs a above s t
  pub calm : Calm t
  pub even : Even t
  pub black : blacks t ≡ b
  pub nodes : size t ≡ n
  pub rising : Rising (key_of a) least (slots t)
  pub last : last_key (key_of a) least (slots t) ≡ k

-- there is such a tree, and P holds of it
abbrev pub Found : Arrays → (P : Tree → Type 0) → (above s least b n k : ℕ) → Type 0
Found a P above s least b n k = (t : Tree) × P t × Read a above s least b n k t
