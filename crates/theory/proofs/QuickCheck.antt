-- The quick check is the check.
use Prim.Native.Nat.{ℕ, ◌+◌, ◌*◌, ◌-◌, ◌≤◌, ◌<◌}
use native.Mathlib.Omega.{arith}
use native.Mathlib.Decide.{ℕ_discrete}
use mathlib.Core.Bool.{Bool, true, false}
use mathlib.Core.List.{List, [], ◌∷◌}
use mathlib.Core.Path.{◌≡◌, refl, ap, sym, ◌∙◌}
use lib.Dec.{leb}
use borrow.Author.Tests.{eqb-true, eq-eqb, ne_eqb, le-leb}
use Rattle.model.specs.Branch.{choose, pick}
use Rattle.model.specs.Limits.{depth_limit}
use Rattle.model.specs.Tree.{black, Tree, leaf, node, slots}
use Rattle.model.specs.Lent.{Lent, Linked, pc_of, key_of, parent_color}
use Rattle.model.specs.WellFormed.{Rising}
use Rattle.model.specs.Check.{tidy_slot, tidy, linked_count, check}
use Rattle.theory.specs.Balance.{blacks, size, Balanced}
use Rattle.theory.specs.Hangs.{Hangs, Hung}
use Rattle.theory.specs.Checked.{last_key}
use Rattle.theory.specs.Quick.{is_child, black_ends, root_ends, tree_ends, stray_count, fits, quick_check}
use Rattle.theory.proofs.Hung.{hung_holds}
use Rattle.theory.proofs.Holds.{holds_height}
use Rattle.theory.proofs.Well.{hung_well}
use Rattle.theory.proofs.Verdicts.{both_true, both_pass}
use Rattle.theory.proofs.CheckSlots.{tidy_w2, w2_tidy}
use Rattle.theory.proofs.Check.{fit_lengths, lengths_fit_lem, read_hung, check_hung, hung_size, hung_check}
use Rattle.theory.proofs.QuickTests.{picked, child_true, true_child}
use Rattle.theory.proofs.QuickReads.{black_read}
use Rattle.theory.proofs.QuickFinds.{black_finds, down_finds, few_blacks}

-- W2: no slot is a stray
strays_tidy : (l r p : List ℕ) → stray_count l r p ≡ 0 → tidy l r p ≡ true
unfolding stray_count tidy
strays_tidy [] rs ps e = refl
strays_tidy (l ∷ ls) [] ps e = refl
strays_tidy (l ∷ ls) (r ∷ rs) [] e = refl
strays_tidy (l ∷ ls) (r ∷ rs) (p ∷ ps) e = go (tidy_slot l r p) (strays_tidy ls rs ps) e
  where
    go : (t : Bool) → (stray_count ls rs ps ≡ 0 → tidy ls rs ps ≡ true) → pick t 0 1 + stray_count ls rs ps ≡ 0 →
        choose t (λ _. tidy ls rs ps) (λ _. false) ≡ true
    go true more e = more (omega arith)
    go false more e = absurd (omega arith)

tidy_strays : (l r p : List ℕ) → tidy l r p ≡ true → stray_count l r p ≡ 0
unfolding stray_count tidy
tidy_strays [] rs ps e = refl
tidy_strays (l ∷ ls) [] ps e = refl
tidy_strays (l ∷ ls) (r ∷ rs) [] e = refl
tidy_strays (l ∷ ls) (r ∷ rs) (p ∷ ps) e = go (tidy_slot l r p) (tidy_strays ls rs ps) e
  where
    go : (t : Bool) → (tidy ls rs ps ≡ true → stray_count ls rs ps ≡ 0) →
        choose t (λ _. tidy ls rs ps) (λ _. false) ≡ true → pick t 0 1 + stray_count ls rs ps ≡ 0
    go true more e = omega (arith, more e)
    go false more e = let z : ◌≡◌ {A = ℕ} 0 1 = cc in absurd (omega arith)

last_under : (key : ℕ → ℕ) (k highest : ℕ) (L : List ℕ) → ((s : ℕ) → key s ≤ highest) → k ≤ highest →
    last_key key k L ≤ highest
last_under key k highest [] under h = h
last_under key k highest (x ∷ L) under h = last_under key (key x) highest L under (under x)

module _ (highest : ℕ) (m : Lent) where
  -- the tree that has been counted
  record Counted (count : ℕ) : Type 0 where
    tree : Tree
    hangs : Hangs m.arrays 0 m.root tree
    balanced : Balanced tree
    rising : Rising (key_of m.arrays) 0 (slots tree)
    nodes : count ≡ size tree + 1

  root_counted : (n : ℕ) → Linked m.arrays m.root → pc_of m.arrays m.root ≡ parent_color 0 black →
      0 < root_ends highest n m.arrays m.root → Counted (root_ends highest n m.arrays m.root)
  unfolding root_ends
  root_counted n linked marked some =
      picked (leb (2 * n) depth_limit) (black_ends (n - 1) m.arrays m.root 0 highest) some λ few more.
      let x = black_read m.arrays (n - 1) 0 m.root 0 highest linked marked more in
      record {
        tree = x.0;
        hangs = x.2.hangs;
        balanced = record { calm = x.2.calm; even = x.2.even; top = x.1 };
        rising = x.2.rising;
        nodes = rw few (black_finds m.arrays (n - 1) 0 m.root 0 highest x.0 x.1 x.2);
      }

  tree_counted : 0 < tree_ends highest m → Counted (tree_ends highest m)
  unfolding tree_ends
  tree_counted some = go (ℕ_discrete m.root 0)
    where
      go : Dec (m.root ≡ 0) → Counted (tree_ends highest m)
      go (yes q) = record {
        tree = leaf;
        hangs = q;
        balanced = record { calm = tt; even = tt; top = refl };
        rising = tt;
        nodes = rw (eq-eqb m.root 0 q);
      }
      go (no q) =
          picked _ _ (rw (ne_eqb m.root 0 q) at some) λ child more.
          let k = child_true m.arrays black 0 m.root (omega arith) child in
          rw (ne_eqb m.root 0 q, child) (root_counted _ k.0 k.1 more)

  quick_hung : quick_check highest m ≡ true → (t : Tree) × Hung m t
  unfolding quick_check fits
  quick_hung e =
      both_true _ _ e λ fit e₁.
      both_true _ _ fit λ long root.
      both_true _ _ e₁ λ stray all.
      let ends : tree_ends highest m ≡ linked_count m.arrays.pc + 1 = eqb-true _ _ all in
      let x = tree_counted (omega arith) in
      let lengths = fit_lengths m.arrays long in
      let w2 = tidy_w2 m.arrays lengths (strays_tidy _ _ _ (eqb-true _ _ stray)) in (
        x.tree,
        read_hung lengths w2 x.balanced.top (record {
          hangs = x.hangs;
          calm = x.balanced.calm;
          even = x.balanced.even;
          black = refl;
          nodes = omega (arith, x.nodes);
          rising = x.rising;
          last = refl;
        }),
      )

  module _ (under : (s : ℕ) → key_of m.arrays s ≤ highest) where
    hung_ends : (t : Tree) → Hung m t → tree_ends highest m ≡ size t + 1
    unfolding tree_ends root_ends
    hung_ends leaf h = rw h.hangs
    hung_ends (node c l x r) h =
        let a = m.arrays in
        let t = node c l x r in
        let child : is_child black a.pc 0 m.root ≡ true = rw h.balanced.top at (true_child a h.hangs.0) in
        let some : 0 < blacks t = rw h.balanced.top (omega arith) in
        rw (
          ne_eqb m.root 0 (omega (arith, h.hangs.0.same, h.hangs.0.linked.positive)),
          child,
          down_finds a depth_limit 0 m.root t h.hangs (holds_height (hung_holds h)),
          le-leb (2 * blacks t) depth_limit (few_blacks (hung_holds h)),
        )
        (black_finds a (blacks t - 1) 0 m.root 0 highest t h.balanced.top (record {
          hangs = h.hangs;
          calm = h.balanced.calm;
          even = h.balanced.even;
          level = omega arith;
          rising = h.rising;
          last = last_under (key_of a) 0 highest (slots t) under (omega arith);
        }))

    hung_quick : {t : Tree} → Hung m t → quick_check highest m ≡ true
    unfolding quick_check fits
    hung_quick {t} h =
        let w = hung_well h in
        both_pass _ _ (both_pass _ _ (lengths_fit_lem m.arrays h.lengths) (le-leb _ _ w.w1.root))
        (both_pass _ _ (eq-eqb _ _ (tidy_strays _ _ _ (w2_tidy m.arrays w.w2)))
        (eq-eqb _ _ (hung_ends t h ∙ ap (λ (n : ℕ). n + 1) (hung_size m t h))))

    -- for keys that are no higher than `highest`
    pub quick_is : quick_check highest m ≡ check m
    quick_is =
        same (quick_check highest m) (check m)
        (λ e. hung_check (quick_hung e).1)
        (λ e. hung_quick (check_hung m e).1)
      where
        same : (t u : Bool) → (t ≡ true → u ≡ true) → (u ≡ true → t ≡ true) → t ≡ u
        same true u f g = sym (f refl)
        same false true f g = g refl
        same false false f g = refl
