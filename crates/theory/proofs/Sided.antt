-- The laws of `sided`: what is read of (near, far) and stored there, on either side.
use Prim.Native.Nat.{ℕ}
use mathlib.Core.Path.{◌≡◌, refl}
use mathlib.Core.Bool.{Bool, true, false}
use mathlib.Core.List.{List}
use lib.Dec.{eqb}
use Rattle.model.specs.Branch.{pick}
use Rattle.model.specs.Tree.{Side, lft, rgt, opp}
use Rattle.model.specs.Lent.{at}
use Rattle.theory.specs.Slots.{put, parent_at, color_at, put_parent, put_color, adopt_at}
use Rattle.theory.specs.Links.{child_in, pc_in, parent_in, color_in, set_child, set_pc, set_parent, set_color, set_root}
use Rattle.theory.specs.Programs.{adopt}
use Rattle.theory.specs.Sided.{sided}

-- swapped arrays on the other side are the same links
pub sided_opp : (d : Side) (near far pc : List ℕ) (root : ℕ) → sided (opp d) far near pc root ≡ sided d near far pc root
sided_opp lft near far pc root = refl
sided_opp rgt near far pc root = refl

-- reads
pub sided_root : (d : Side) (near far pc : List ℕ) (root : ℕ) → (sided d near far pc root).root ≡ root
sided_root lft near far pc root = refl
sided_root rgt near far pc root = refl

pub sided_near : (d : Side) (near far pc : List ℕ) (root : ℕ) (s : ℕ)
    → child_in d (sided d near far pc root) s ≡ at near s
unfolding child_in
sided_near lft near far pc root s = refl
sided_near rgt near far pc root s = refl

pub sided_far : (d : Side) (near far pc : List ℕ) (root : ℕ) (s : ℕ)
    → child_in (opp d) (sided d near far pc root) s ≡ at far s
unfolding child_in
sided_far lft near far pc root s = refl
sided_far rgt near far pc root s = refl

pub sided_parent : (d : Side) (near far pc : List ℕ) (root : ℕ) (s : ℕ)
    → parent_in (sided d near far pc root) s ≡ parent_at pc s
unfolding pc_in parent_at
sided_parent lft near far pc root s = refl
sided_parent rgt near far pc root s = refl

pub sided_color : (d : Side) (near far pc : List ℕ) (root : ℕ) (s : ℕ)
    → color_in (sided d near far pc root) s ≡ color_at pc s
unfolding pc_in color_at
sided_color lft near far pc root s = refl
sided_color rgt near far pc root s = refl

-- stores
pub sided_set_near : (d : Side) (near far pc : List ℕ) (root : ℕ) (s v : ℕ)
    → set_child d (sided d near far pc root) s v ≡ sided d (put near s v) far pc root
unfolding set_child
sided_set_near lft near far pc root s v = refl
sided_set_near rgt near far pc root s v = refl

pub sided_set_far : (d : Side) (near far pc : List ℕ) (root : ℕ) (s v : ℕ)
    → set_child (opp d) (sided d near far pc root) s v ≡ sided d near (put far s v) pc root
unfolding set_child
sided_set_far lft near far pc root s v = refl
sided_set_far rgt near far pc root s v = refl

pub sided_set_pc : (d : Side) (near far pc : List ℕ) (root : ℕ) (s v : ℕ)
    → set_pc (sided d near far pc root) s v ≡ sided d near far (put pc s v) root
unfolding set_pc
sided_set_pc lft near far pc root s v = refl
sided_set_pc rgt near far pc root s v = refl

pub sided_set_parent : (d : Side) (near far pc : List ℕ) (root : ℕ) (s v : ℕ)
    → set_parent (sided d near far pc root) s v ≡ sided d near far (put_parent pc s v) root
unfolding set_pc pc_in color_at put_parent
sided_set_parent lft near far pc root s v = refl
sided_set_parent rgt near far pc root s v = refl

pub sided_set_color : (d : Side) (near far pc : List ℕ) (root : ℕ) (s v : ℕ)
    → set_color (sided d near far pc root) s v ≡ sided d near far (put_color pc s v) root
unfolding set_pc pc_in parent_at put_color
sided_set_color lft near far pc root s v = refl
sided_set_color rgt near far pc root s v = refl

pub sided_set_root : (d : Side) (near far pc : List ℕ) (root : ℕ) (v : ℕ)
    → set_root (sided d near far pc root) v ≡ sided d near far pc v
unfolding set_root
sided_set_root lft near far pc root v = refl
sided_set_root rgt near far pc root v = refl

pick_sided : (test : Bool) (d : Side) (near far pc pc' : List ℕ) (root : ℕ)
    → pick test (sided d near far pc root) (sided d near far pc' root) ≡ sided d near far (pick test pc pc') root
pick_sided true d near far pc pc' root = refl
pick_sided false d near far pc pc' root = refl

pub sided_adopt : (d : Side) (near far pc : List ℕ) (root : ℕ) (child parent : ℕ)
    → adopt (sided d near far pc root) child parent ≡ sided d near far (adopt_at pc child parent) root
unfolding adopt adopt_at
sided_adopt d near far pc root child parent =
    rw (sided_set_parent d near far pc root child parent)
    (pick_sided (eqb child 0) d near far pc (put_parent pc child parent) root)
