-- What kin_of finds, test by test.
use Prim.Native.Nat.{ℕ, ◌+◌, ◌-◌, ◌*◌, ◌≤◌, ◌<◌}
use native.Mathlib.Omega.{arith}
use mathlib.Core.Bool.{false, ◌&&◌, and-false}
use mathlib.Core.List.{List}
use mathlib.Core.Path.{◌≡◌}
use lib.Dec.{eqb, leb, ltb}
use lib.ListN.{length, get_or}
use borrow.Author.Tests.{eq-eqb, ne_eqb, lt-ltb, le-ltb, le-leb, lt-leb}
use Rattle.std.specs.Prelude.{Some, None}
use Rattle.model.specs.Tree.{Color, red, black}
use Rattle.model.specs.Lent.{at, parent_color}
use Rattle.theory.specs.Quick.{is_child}
use Rattle.wellformed.specs.Checks.{Kinship}
use Rattle.links.specs.declared.types.Color.TheVariants.{Red, Black}

-- no slot is no child
no_child : (c : Color) (pc : List ℕ) (p s : ℕ) → (ltb 0 s && leb s (length pc)) ≡ false → is_child c pc p s ≡ false
unfolding is_child
no_child c pc p s e = rw e

module _ (pc : List ℕ) (p s : ℕ) where
  pub kin_none : s ≡ 0 → Kinship None pc p s
  kin_none e = record { red = no_child red pc p s none; black = no_child black pc p s none }
    where
      none : (ltb 0 s && leb s (length pc)) ≡ false
      none = rw (le-ltb 0 s (omega arith))

  pub kin_past : {i : ℕ} → (s ≡ 0 → ⊥) → i ≡ s - 1 → length pc ≤ i → Kinship None pc p s
  kin_past some is past = record { red = no_child red pc p s none; black = no_child black pc p s none }
    where
      none : (ltb 0 s && leb s (length pc)) ≡ false
      none = rw (lt-leb s (length pc) (omega arith)) (and-false (ltb 0 s))

  module _ {i : ℕ} (some : s ≡ 0 → ⊥) (is : i ≡ s - 1) (here : i < length pc) where
    -- a slot is a child of a colour where it is marked so
    marked : (c : Color) → is_child c pc p s ≡ eqb (get_or pc i 0) (parent_color p c)
    unfolding is_child at
    marked c = rw (lt-ltb 0 s (omega arith), le-leb s (length pc) (omega arith), is)

    pub kin_red : get_or pc i 0 ≡ 2 * p → Kinship (Some Red) pc p s
    kin_red e = record {
      red = rw (marked red) (eq-eqb (get_or pc i 0) (parent_color p red) (omega arith));
      black = rw (marked black) (ne_eqb (get_or pc i 0) (parent_color p black) (omega arith));
    }

    pub kin_black : get_or pc i 0 ≡ 2 * p + 1 → Kinship (Some Black) pc p s
    kin_black e = record {
      red = rw (marked red) (ne_eqb (get_or pc i 0) (parent_color p red) (omega arith));
      black = rw (marked black) (eq-eqb (get_or pc i 0) (parent_color p black) (omega arith));
    }

    pub kin_other : (get_or pc i 0 ≡ 2 * p → ⊥) → (get_or pc i 0 ≡ 2 * p + 1 → ⊥) → Kinship None pc p s
    kin_other f g = record {
      red = rw (marked red) (ne_eqb (get_or pc i 0) (parent_color p red) (omega arith));
      black = rw (marked black) (ne_eqb (get_or pc i 0) (parent_color p black) (omega arith));
    }
