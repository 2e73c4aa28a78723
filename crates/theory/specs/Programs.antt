-- The code's programs over the links. What each makes of a drawing is stated and proved in `proofs`.
use Rattle.std.specs.Prelude.{ℕ, zero, suc, ◌+◌, ◌*◌, eqb}
use Rattle.model.specs.Branch.{pick}
use Rattle.model.specs.Tree.{Side, lft, rgt, opp}
use Rattle.theory.specs.Links.{Links, child_in, parent_in, color_in, red_in, side_in, set_child, set_pc, set_parent}
use Rattle.theory.specs.Links.{set_color, set_root}

-- ---- one slot and its surroundings

-- the parent's child that is `old`, or the root where there is no parent, becomes `new`; the side d is tested first
unfoldable pub replace_child : Side → Links → (parent old new : ℕ) → Links
replace_child d k p old new =
    pick (eqb p 0) (set_root k new)
    (pick (eqb (child_in d k p) old) (set_child d k p new) (set_child (opp d) k p new))

-- a child, where there is one, gets the parent
unfoldable pub adopt : Links → (child parent : ℕ) → Links
adopt k child p = pick (eqb child 0) k (set_parent k child p)

-- all three numbers of a slot
unfoldable pub store : Links → (slot left right pc : ℕ) → Links
store k s l r v = set_pc (set_child rgt (set_child lft k s l) s r) s v

-- the slot becomes unlinked
unfoldable pub release_at : Links → (slot : ℕ) → Links
release_at k s = store k s 0 0 0

-- ---- rotate_left (the side lft) and rotate_right

-- x goes down to the side, under its child away from it
unfoldable pub rotate_in : Side → Links → (x : ℕ) → Links
rotate_in d k x =
    let y = child_in (opp d) k x in
    let middle = child_in d k y in
    let k₁ = adopt (set_child (opp d) k x middle) middle x in
    let p = parent_in k₁ x in
    let k₂ = replace_child d (set_parent k₁ y p) p x y in
    set_parent (set_child d k₂ y x) x y

-- ---- post_insert

-- x hangs red and childless on the side d of p
unfoldable pub hang_in : Side → Links → (p x : ℕ) → Links
hang_in d k p x = set_child d (store k x 0 0 (2 * p + 0)) p x

-- x is the first node
unfoldable pub plant_in : Links → (x : ℕ) → Links
plant_in k x = set_root (store k x 0 0 1) x

-- x's parent becomes black, the one above it red, and that one goes down away from the side d
unfoldable pub settle : Side → Links → (x : ℕ) → Links
settle d k x =
    let p = parent_in k x in
    let k₁ = set_color k p 1 in
    let g = parent_in k₁ p in
    rotate_in (opp d) (set_color k₁ g 0) g

-- the last step under a red parent p, which hangs on the side d: an inner x is rotated over p first
unfoldable pub finish : Side → Links → (x p : ℕ) → Links
finish d k x p = pick (eqb (child_in d k p) x) (settle d k x) (settle d (rotate_in d k p) p)

-- p and u become black, and g above them red, but black at the root
unfoldable pub recolor : Links → (p g u : ℕ) → Links
recolor k p g u =
    let k₁ = set_color k p 1 in
    set_color (set_color k₁ g (pick (eqb (parent_in k₁ g) 0) 1 0)) u 1

-- the climb from x, n rounds at most
unfoldable pub post_insert : (n : ℕ) → Links → (x : ℕ) → Links
post_insert zero k x = k
post_insert (suc n) k x =
    let p = parent_in k x in
    let g = parent_in k p in
    let d = side_in k p g in
    let u = child_in (opp d) k g in
    let climbs = pick (red_in k u) (post_insert n (recolor k p g u) g) (finish d k x p) in
    pick (eqb p 0) k (pick (eqb (color_in k p) 0) climbs k)

-- ---- replace_with

-- the child n of y, its only one, or 0, takes y's place, and y becomes unlinked
unfoldable pub detach : Links → (y n : ℕ) → Links
detach k y n =
    let p = parent_in k y in
    release_at (replace_child lft (adopt k n p) p y n) y

-- z, unlinked before, takes the place, the children and the colour of x, and x becomes unlinked
unfoldable pub replace_in : Links → (x z : ℕ) → Links
replace_in k x z =
    let p = parent_in k x in
    let l = child_in lft k x in
    let r = child_in rgt k x in
    let c = color_in k x in
    let k₁ = adopt (adopt (replace_child lft k p x z) l z) r z in
    release_at (store k₁ z l r (2 * p + c)) x

-- ---- remove: s is the sibling, on the side away from d, of a place below p that lacks a black node

-- the far child is red: s takes p's colour, p and the far child become black, and p goes down
unfoldable pub far_turn : Side → Links → (s p : ℕ) → Links
far_turn d k s p =
    let k₁ = set_color (set_pc k s (2 * parent_in k s + color_in k p)) p 1 in
    rotate_in d (set_color k₁ (child_in (opp d) k₁ s) 1) p

-- only the near child n is red: it becomes black, s red, s goes down, and n is the sibling then
unfoldable pub near_turn : Side → Links → (s n : ℕ) → Links
near_turn d k s n =
    let k₁ = rotate_in (opp d) (set_color (set_color k n 1) s 0) s in
    let s₁ = parent_in k₁ s in
    far_turn d k₁ s₁ (parent_in k₁ s₁)

-- a root or red p becomes black; another is the place that lacks a black node, and its sibling is next
unfoldable pub go_up : (next : Links → ℕ → Links) → Links → (p : ℕ) → Links
go_up next k p =
    let g = parent_in k p in
    let more = next k (child_in (opp (side_in k p g)) k g) in
    pick (eqb g 0) (set_color k p 1) (pick (eqb (color_in k p) 0) (set_color k p 1) more)

-- at a black sibling
unfoldable pub lower_at : (next : Links → ℕ → Links) → Side → Links → (s p : ℕ) → Links
lower_at next d k s p =
    let f = child_in (opp d) k s in
    let n = child_in d k s in
    pick (red_in k f) (far_turn d k s p) (pick (red_in k n) (near_turn d k s n) (go_up next (set_color k s 0) p))

-- a red sibling goes up over p
unfoldable pub red_turn : Side → Links → (s p : ℕ) → Links
red_turn d k s p = rotate_in d (set_color (set_color k s 1) p 0) p

-- and its near child is the sibling then
unfoldable pub red_above : (next : Links → ℕ → Links) → Side → Links → (s p : ℕ) → Links
red_above next d k s p =
    let k₁ = red_turn d k s p in
    let s₁ = child_in (opp d) k₁ (child_in d k₁ s) in
    lower_at next d k₁ s₁ (parent_in k₁ s₁)

-- n rounds at most
unfoldable pub post_remove : (n : ℕ) → Links → (s : ℕ) → Links
post_remove zero k s = k
post_remove (suc n) k s =
    let p = parent_in k s in
    let d = opp (side_in k s p) in
    let next : Links → ℕ → Links = λ k s. post_remove n k s in
    pick (eqb (color_in k s) 0) (red_above next d k s p) (lower_at next d k s p)

-- the other child of y's parent, or 0
unfoldable pub sibling_in : Links → (y : ℕ) → ℕ
sibling_in k y = let p = parent_in k y in pick (eqb p 0) 0 (child_in (opp (side_in k y p)) k p)

-- n took the place of a node of the colour c, and s is that place's sibling
unfoldable pub finish_remove : (fuel : ℕ) → Links → (c n s : ℕ) → Links
finish_remove fuel k c n s =
    pick (eqb c 0) k (pick (eqb n 0) (pick (eqb s 0) k (post_remove fuel k s)) (set_color k n 1))

-- x has no child but n
unfoldable pub remove_one : (fuel : ℕ) → Links → (x n : ℕ) → Links
remove_one fuel k x n = finish_remove fuel (detach k x n) (color_in k x) n (sibling_in k x)

-- x has two children, and y is the slot after it
unfoldable pub remove_two : (fuel : ℕ) → Links → (x y : ℕ) → Links
remove_two fuel k x y =
    let n = child_in rgt k y in
    finish_remove fuel (replace_in (detach k y n) x y) (color_in k y) n (sibling_in k y)

-- ---- next (the side rgt) and prev

-- the last of the children on the side d, from s down
unfoldable pub end_of : Side → (n : ℕ) → Links → (s : ℕ) → ℕ
end_of d zero k s = s
end_of d (suc n) k s = let c = child_in d k s in pick (eqb c 0) s (end_of d n k c)

-- the parent of the first slot, from s up, that hangs on the side d; or 0
unfoldable pub rise : Side → (n : ℕ) → Links → (s : ℕ) → ℕ
rise d zero k s = 0
rise d (suc n) k s = let p = parent_in k s in pick (eqb p 0) 0 (pick (eqb (child_in d k p) s) p (rise d n k p))

unfoldable pub step_to : Side → (n : ℕ) → Links → (s : ℕ) → ℕ
step_to d n k s = let c = child_in d k s in pick (eqb c 0) (rise (opp d) n k s) (end_of (opp d) n k c)

-- from 0 the first on the way
unfoldable pub walk_to : Side → (n : ℕ) → Links → (position : ℕ) → ℕ
walk_to d n k s = pick (eqb s 0) (pick (eqb k.root 0) 0 (end_of (opp d) n k k.root)) (step_to d n k s)

unfoldable pub remove_at : (fuel : ℕ) → Links → (x : ℕ) → Links
remove_at fuel k x =
    let l = child_in lft k x in
    let r = child_in rgt k x in
    pick (eqb l 0) (remove_one fuel k x r)
    (pick (eqb r 0) (remove_one fuel k x l) (remove_two fuel k x (end_of lft fuel k r)))

-- ---- clear

-- the slots from s down, to the depth n, become unlinked: the left ones, the right ones, s itself
unfoldable pub clear_from : (n : ℕ) → Links → (s : ℕ) → Links
clear_from zero k s = k
clear_from (suc n) k s =
    let k₁ = clear_from n k (child_in lft k s) in
    pick (eqb s 0) k (release_at (clear_from n k₁ (child_in rgt k₁ s)) s)

unfoldable pub clear_all : (n : ℕ) → Links → Links
clear_all n k = set_root (clear_from n k k.root) 0
