-- The whole tree, and the whole check.
use Prim.Native.Nat.{ℕ, ◌+◌, ◌*◌, ◌-◌, ◌/◌, ◌≤◌, ◌<◌}
use native.Mathlib.Omega.{arith}
use mathlib.Core.Bool.{Bool, true, false}
use mathlib.Core.List.{List}
use mathlib.Core.Path.{◌≡◌, sym, ◌∙◌}
use lib.Dec.{eqb, leb}
use lib.ListN.{length}
use borrow.Author.Tests.{eq-eqb, ne_eqb, le-leb, lt-leb, leb-true}
use Rattle.std.specs.Prelude.{Some, None}
use Rattle.model.specs.Branch.{pick, both}
use Rattle.model.specs.Limits.{depth_limit}
use Rattle.model.specs.Lent.{arrays_of, lent, at, capacity, key_of}
use Rattle.model.specs.Check.{check}
use Rattle.theory.specs.Quick.{black_ends, root_ends, tree_ends, fits, quick_check}
use Rattle.theory.proofs.Verdicts.{both_true}
use Rattle.theory.proofs.Check.{fit_lengths}
use Rattle.theory.proofs.QuickCheck.{quick_is}
use Rattle.wellformed.specs.Checks.{highest, Low, Kin, Kinship, Descended, SameLengths, Tallied, Rooted}
use Rattle.links.specs.declared.types.Color.TheVariants.{Red, Black}
use Rattle.wellformed.specs.declared.types.Tally.{Tally}

-- ---- tree_check

module _ (l r p k : List ℕ) (root : ℕ) where
  pub tree_none : root ≡ 0 → 1 ≡ tree_ends highest (lent l r p k root)
  unfolding tree_ends
  tree_none e = rw (eq-eqb root 0 e)

  module _ {kin : Kin} (some : root ≡ 0 → ⊥) (kind : Kinship kin p 0 root) where
    pub tree_red : kin ≡ Some Red → 0 ≡ tree_ends highest (lent l r p k root)
    unfolding tree_ends
    tree_red e = rw (ne_eqb root 0 some, kind.black, e)

    pub tree_stray : kin ≡ None → 0 ≡ tree_ends highest (lent l r p k root)
    unfolding tree_ends
    tree_stray e = rw (ne_eqb root 0 some, kind.black, e)

    module _ {blacks : ℕ} (e : kin ≡ Some Black) (down : Descended l p root blacks) where
      tree_down : tree_ends highest (lent l r p k root)
          ≡ pick (leb (2 * blacks) depth_limit) (black_ends (blacks - 1) (arrays_of l r p k) root 0 highest) 0
      unfolding tree_ends root_ends
      tree_down = rw (ne_eqb root 0 some, kind.black, e, ← down.is)

      pub tree_deep : depth_limit < 2 * blacks → 0 ≡ tree_ends highest (lent l r p k root)
      tree_deep deep = rw (tree_down, lt-leb (2 * blacks) depth_limit deep)

      pub tree_counts : {sum : ℕ} → 2 * blacks ≤ depth_limit →
          sum ≡ black_ends (2 * blacks / 2 - 1) (arrays_of l r p k) root 0 highest →
          sum ≡ tree_ends highest (lent l r p k root)
      tree_counts few is =
          let q : 2 * blacks / 2 - 1 ≡ blacks - 1 = omega arith in
          rw (tree_down, le-leb (2 * blacks) depth_limit few) (rw q at is)

-- ---- check

module _ (l r p k : List ℕ) (root : ℕ) {fit : Bool} (e : fit ≡ fits (lent l r p k root)) where
  pub fit_rooted : fit ≡ true → Rooted l r p k root
  unfolding fits capacity
  fit_rooted n =
      both_true _ _ (sym e ∙ n) λ long within.
      let h = fit_lengths (arrays_of l r p k) long in
      record
      { left = h.left; right = h.right; key = h.key; small = h.small; within = leb-true root (length p) within }

  pub fit_same : fit ≡ true → SameLengths l r p k
  fit_same n = let h = fit_rooted n in record { left = h.left; right = h.right; small = h.small }

  module _ (low : Low k) where
    quick : quick_check highest (lent l r p k root) ≡ check (lent l r p k root)
    unfolding key_of at
    quick = quick_is highest (lent l r p k root) (λ s. low (s - 1))

    pub check_unfit : fit ≡ false → false ≡ check (lent l r p k root)
    unfolding quick_check both
    check_unfit n = rw (← quick, ← e, n)

    module _ {tally : Tally} (n : fit ≡ true) (t : Tallied l r p k tally) where
      pub check_stray : (tally.strays ≡ 0 → ⊥) → false ≡ check (lent l r p k root)
      unfolding quick_check both
      check_stray some = rw (← quick, ← e, n, ← t.strays, ne_eqb tally.strays 0 some)

      pub check_ends : {ends : ℕ} → tally.strays ≡ 0 → ends ≡ tree_ends highest (lent l r p k root) →
          eqb ends (tally.linked + 1) ≡ check (lent l r p k root)
      unfolding quick_check both
      check_ends none is =
          rw (← quick, ← e, n, ← t.strays, eq-eqb tally.strays 0 none, ← is, ← t.linked)
