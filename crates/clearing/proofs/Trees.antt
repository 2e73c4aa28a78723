-- clear for a caller who knows a tree: what it leaves is the empty tree. What it asks for is theory's `holds_bounded`.
use Prim.Native.Nat.{ℕ, ◌≤◌}
use mathlib.Core.List.{List}
use mathlib.Core.Path.{◌≡◌, ap, sym, ◌∙◌}
use Rattle.model.specs.Limits.{depth_limit}
use Rattle.model.specs.Tree.{lft, Tree, leaf}
use Rattle.model.specs.Lent.{Lent, lent, capacity}
use Rattle.model.specs.Operations.{with_tree}
use Rattle.theory.specs.Balance.{height}
use Rattle.theory.specs.Holds.{Holds}
use Rattle.theory.specs.Links.{links, links_of, with_keys, drawn}
use Rattle.theory.specs.Places.{Drawn, Made}
use Rattle.theory.specs.Programs.{clear_all}
use Rattle.theory.proofs.Clearing.{clear_drawn}
use Rattle.theory.proofs.Holds.{holds_height}
use Rattle.theory.proofs.HoldsDrawn.{holds_drawn}
use Rattle.theory.proofs.Reading.{draw_with}

-- The drawing of a tree that is no deeper than the limit becomes the drawing of the empty tree.
pub clear_links : {left right pc : List ℕ} {root C : ℕ} {t : Tree} {size : ℕ} {left' right' pc' : List ℕ} {root' : ℕ}
    → Drawn lft left right pc root C t → height t ≤ depth_limit
    → Made (clear_all depth_limit (links left right pc root)) size left' right' pc' root'
    → links left' right' pc' root' ≡ drawn C leaf
clear_links {t = t} k shallow made =
    made.is ∙ ap (clear_all depth_limit) k.is ∙ clear_drawn depth_limit t shallow k.sound

module _ {m : Lent} {t : Tree} (h : Holds m t) where
  -- On lent numbers that hold a tree clear leaves, with the same keys, what the model's clear leaves.
  pub clear_lent : {size : ℕ} {left' right' pc' : List ℕ} {root' : ℕ}
      → Made (clear_all depth_limit (links_of m)) size left' right' pc' root'
      → lent left' right' pc' m.arrays.key root' ≡ with_tree leaf m
  unfolding with_tree
  clear_lent made =
      ap (with_keys m.arrays.key) (clear_links (holds_drawn h) (holds_height h) made)
      ∙ sym (draw_with (capacity m.arrays) leaf m.arrays.key)
