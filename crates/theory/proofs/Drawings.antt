-- The operations on a drawing as a whole, with C rounds for every loop: each draws what `model` makes of the tree.
use Prim.Native.Nat.{ℕ, ◌≤◌}
use mathlib.Core.Path.{◌≡◌}
use mathlib.Core.Logic.{◌⊎◌}
use mathlib.Core.List.{Memᴰ}
use Rattle.model.specs.Tree.{Side, lft, Tree, node, slots, plug}
use Rattle.model.specs.Removal.{removed, replaced}
use Rattle.model.specs.Order.{next_in}
use Rattle.theory.specs.Balance.{Balanced}
use Rattle.theory.specs.Sound.{count, Sound}
use Rattle.theory.specs.Lists.{facing}
use Rattle.theory.specs.Links.{drawn}
use Rattle.theory.specs.Programs.{replace_in, remove_at, walk_to}
use Rattle.theory.proofs.Focus.{standing, removed_at, replaced_at}
use Rattle.theory.proofs.Depth.{sound_height, sound_deep}
use Rattle.theory.proofs.Replacing.{replace_drawn}
use Rattle.theory.proofs.Walking.{walk_drawn}
use Rattle.theory.proofs.Removing.{remove_drawn}

module _ {C : ℕ} where
  module _ (t : Tree) (h : Sound C t) where
    -- a slot of the tree is taken out
    pub remove_drawing : (x : ℕ) → Memᴰ x (slots t) → Balanced t → remove_at C (drawn C t) x ≡ drawn C (removed x t)
    remove_drawing x m b =
        let v = standing lft x t m in let here = node v.color v.near x v.far in
        let h' : Sound C (plug here v.way) = rw (← v.whole) at h in
        let b' : Balanced (plug here v.way) = rw (← v.whole) at b in
        rw (← v.whole, removed_at v.color v.near x v.far v.way h')
        (remove_drawn C v.color v.near x v.far v.way (sound_deep here v.way h') b' h')

    -- a slot that isn't in the tree takes the place of one that is
    pub replace_drawing : (x z : ℕ) → Memᴰ x (slots t) → 1 ≤ z → count t z ≡ 0
        → replace_in (drawn C t) x z ≡ drawn C (replaced x z t)
    replace_drawing x z m low fresh =
        let v = standing lft x t m in let here = node v.color v.near x v.far in
        let h' : Sound C (plug here v.way) = rw (← v.whole) at h in
        let fresh' : count (plug here v.way) z ≡ 0 = rw v.whole fresh in
        rw (← v.whole, replaced_at v.color v.near x v.far v.way z h')
        (replace_drawn v.color v.near x v.far v.way z low h' fresh')

    -- next (the side rgt) and prev
    pub walk_drawing : (d : Side) (p : ℕ) → (p ≡ 0) ⊎ Memᴰ p (slots t)
        → walk_to d C (drawn C t) p ≡ next_in p (facing d (slots t))
    walk_drawing d p at = walk_drawn d C t p (sound_height t h) at h
