-- clear_recurse and clear keep their promises, call by call.
use Prim.Native.Nat.{ℕ, zero, suc, ◌-◌, ◌≤◌}
use mathlib.Core.List.{List}
use mathlib.Core.Path.{◌≡◌, refl, sym, ◌∙◌}
use lib.ListN.{length}
use borrow.Author.Tests.{eq-eqb, ne_eqb}
use native.Mathlib.Numerals.{sub-one}
use native.Mathlib.Omega.{arith}
use Rattle.model.specs.Limits.{depth_limit}
use Rattle.model.specs.Tree.{lft, rgt}
use Rattle.theory.specs.Links.{Links, links, child_in}
use Rattle.theory.specs.Places.{Bounded, Made}
use Rattle.theory.specs.Programs.{release_at, clear_from, clear_all}
use Rattle.theory.proofs.Sided.{sided_near, sided_far, sided_set_root}
use Rattle.links.specs.Reads.{Got}
use Rattle.links.specs.Writes.{Released}
use Rattle.clearing.specs.Clearing.{Cleared}

-- ---- the program

-- with no depth left, and where there is no slot, nothing changes

clear_zero : (depth : ℕ) (k : Links) (s : ℕ) → depth ≡ 0 → k ≡ clear_from depth k s
unfolding clear_from
clear_zero depth k s e = rw e

clear_none : (depth : ℕ) (k : Links) (s : ℕ) → s ≡ 0 → k ≡ clear_from depth k s
unfolding clear_from
clear_none zero k s e = refl
clear_none (suc depth) k s e = rw (eq-eqb s 0 e)

-- the left subtree, the right one, the node
clear_node : (depth : ℕ) (k k₁ k₂ : Links) (s : ℕ) → (depth ≡ 0 → ⊥) → (s ≡ 0 → ⊥)
    → k₁ ≡ clear_from (depth - 1) k (child_in lft k s) → k₂ ≡ clear_from (depth - 1) k₁ (child_in rgt k₁ s)
    → release_at k₂ s ≡ clear_from depth k s
unfolding clear_from
clear_node zero k k₁ k₂ s deep some e₁ e₂ = absurd (deep refl)
clear_node (suc depth) k k₁ k₂ s deep some e₁ e₂ = simp (e₂, e₁, ne_eqb s 0 some, sub-one)

-- ---- what the calls ask for

-- the bounds, with another slot for the root
pub bounded_from : {left right pc : List ℕ} {root s : ℕ} → Bounded left right pc root → s ≤ length left
    → Bounded left right pc s
bounded_from b top = record {
  near_below = b.near_below;
  far_below = b.far_below;
  parents = b.parents;
  top = top;
  same_far = b.same_far;
  same_pc = b.same_pc;
  small = b.small;
}

-- ---- clear_recurse, at each of its three ends

module _ {depth : ℕ} {left right pc : List ℕ} {s : ℕ} (b : Bounded left right pc s) where
  -- no depth is left
  pub cleared_zero : depth ≡ 0 → Cleared depth left right pc s left right pc
  cleared_zero e = record { is = λ root. clear_zero depth (links left right pc root) s e; bounded = b; same = refl }

  -- there is no slot
  pub cleared_none : s ≡ 0 → Cleared depth left right pc s left right pc
  cleared_none e = record { is = λ root. clear_none depth (links left right pc root) s e; bounded = b; same = refl }

  module _ (deep : depth ≡ 0 → ⊥) (some : s ≡ 0 → ⊥)
      {first : ℕ} (left-child : Got left s first)
      {left₁ right₁ pc₁ : List ℕ} (left-clear : Cleared (depth - 1) left right pc first left₁ right₁ pc₁)
      {second : ℕ} (right_child : Got right₁ s second)
      {left₂ right₂ pc₂ : List ℕ} (right-clear : Cleared (depth - 1) left₁ right₁ pc₁ second left₂ right₂ pc₂)
      {left₃ right₃ pc₃ : List ℕ} (released : Released left₂ right₂ pc₂ s left₃ right₃ pc₃) where
    node_same : length left₃ ≡ length left
    node_same = released.same_left ∙ right-clear.same ∙ left-clear.same

    -- both subtrees are cleared, and the node is released
    pub cleared_node : Cleared depth left right pc s left₃ right₃ pc₃
    cleared_node = record {
      is = λ root.
          released.is root
          ∙ clear_node depth (links left right pc root) (links left₁ right₁ pc₁ root) (links left₂ right₂ pc₂ root) s
          deep some
          (rw (sided_near lft left right pc root s, ← left-child.is) (left-clear.is root))
          (rw (sided_far lft left₁ right₁ pc₁ root s, ← right_child.is) (right-clear.is root));
      bounded = record {
        near_below = released.left;
        far_below = released.right;
        parents = released.pc;
        top = rw node_same b.top;
        same_far = released.same_right ∙ right-clear.bounded.same_far ∙ sym released.same_left;
        same_pc = released.same_pc ∙ right-clear.bounded.same_pc ∙ sym released.same_left;
        small = rw node_same b.small;
      };
      same = node_same;
    }

-- ---- clear

-- from the root with the whole depth, and then the root set to 0
pub made_clear : {left right pc : List ℕ} {root : ℕ} {left' right' pc' : List ℕ}
    → Cleared depth_limit left right pc root left' right' pc'
    → Made (clear_all depth_limit (links left right pc root)) (length left) left' right' pc' 0
unfolding clear_all
made_clear {left} {right} {pc} {root} {left'} {right'} {pc'} h = record {
  is = rw (← h.is root) (sym (sided_set_root lft left' right' pc' root 0));
  bounded = bounded_from h.bounded (omega arith);
  same = h.same;
}
