-- The writes of links keep their promises.
use Prim.Native.Nat.{ℕ, ◌+◌, ◌-◌, ◌*◌, ◌/◌, ◌%◌, ◌≤◌}
use mathlib.Core.List.{List}
use mathlib.Core.Path.{refl}
use lib.ListN.{get_or, set, length}
use native.Mathlib.Omega.{arith}
use Rattle.model.specs.Tree.{lft}
use Rattle.theory.specs.Programs.{store, release_at}
use Rattle.model.specs.Lent.{at}
use Rattle.theory.specs.Slots.{put, parent_at, color_at, put_parent, put_color}
use Rattle.theory.proofs.Sided.{sided_set_near, sided_set_far, sided_set_pc}
use Rattle.links.specs.Writes.{SetPre, Set, SetParentColorPre, SetParentColor, SetParentPre, SetParent}
use Rattle.links.specs.Writes.{SetColorPre, SetColor, SetLinks, Released, SetKey}
use Rattle.links.specs.Colors.{shade}
use Rattle.links.specs.declared.types.Color.{Color}
use Rattle.links.specs.declared.types.Color.TheVariants.{Red, Black}
use Rattle.theory.proofs.Slots.{length_put, below_put, parents_put}

-- a colour's number is 0 or 1
pub shade_bit : (c : Color) → shade c ≤ 1
shade_bit Red = omega arith
shade_bit Black = omega arith

pub is_set : (l : List ℕ) (s v : ℕ) → SetPre l s v → Set l s v (set l (s - 1) v)
unfolding put
is_set l s v h =
    record { is = refl; below = below_put l s v h.below h.pos h.top h.value; same = length_put l s v }

pub is_set_parent_color :
    (p : List ℕ) (s v : ℕ) (c : Color) → SetParentColorPre p s v
    → SetParentColor p s v (shade c) (set p (s - 1) (2 * v + shade c))
unfolding put
is_set_parent_color p s v c h =
    record {
      is = refl;
      parents = parents_put p s (2 * v + shade c) h.parents h.pos h.top (omega (arith, h.value, shade_bit c));
      same = length_put p s (2 * v + shade c);
    }

pub is_set_parent :
    (p : List ℕ) (s v : ℕ) → SetParentPre p s v → SetParent p s v (set p (s - 1) (2 * v + get_or p (s - 1) 0 % 2))
unfolding at put color_at put_parent
is_set_parent p s v h =
    let w = 2 * v + get_or p (s - 1) 0 % 2 in
    record {
      is = refl;
      parents = parents_put p s w h.parents h.pos h.top (omega (arith, h.value));
      same = length_put p s w;
    }

pub parent_top : (p : List ℕ) (s : ℕ) → SetColorPre p s → get_or p (s - 1) 0 / 2 ≤ length p
unfolding at parent_at
parent_top p s h = h.parents.each s

pub is_set_color :
    (p : List ℕ) (s : ℕ) (c : Color) → SetColorPre p s
    → SetColor p s (shade c) (set p (s - 1) (2 * (get_or p (s - 1) 0 / 2) + shade c))
unfolding at put parent_at put_color
is_set_color p s c h =
    let w = 2 * (get_or p (s - 1) 0 / 2) + shade c in
    record {
      is = refl;
      parents = parents_put p s w h.parents h.pos h.top (omega (arith, shade_bit c, parent_top p s h));
      same = length_put p s w;
    }

pub links_set : {l r p l' r' p' : List ℕ} {s a b v c : ℕ} → Set l s a l' → Set r s b r' → SetParentColor p s v c p'
    → SetLinks l r p s a b v c l' r' p'
unfolding store
links_set {l} {r} {p} {l'} {r'} {p'} {s} {a} {b} {v} {c} i j k =
    record {
      is = λ t. rw (
        sided_set_near lft l r p t s a,
        ← i.is,
        sided_set_far lft l' r p t s b,
        ← j.is,
        sided_set_pc lft l' r' p t s (2 * v + c),
        ← k.is,
      ) refl;
      left = i.below;
      right = j.below;
      pc = k.parents;
      same_left = i.same;
      same_right = j.same;
      same_pc = k.same;
    }

pub released : {l r p l' r' p' : List ℕ} {s : ℕ} → SetLinks l r p s 0 0 0 0 l' r' p' → Released l r p s l' r' p'
unfolding release_at
released k =
    record {
      is = k.is;
      left = k.left;
      right = k.right;
      pc = k.pc;
      same_left = k.same_left;
      same_right = k.same_right;
      same_pc = k.same_pc;
    }

pub is_set_key : (k : List ℕ) (s v : ℕ) → SetKey k s v (set k (s - 1) v)
unfolding put
is_set_key k s v = record { is = refl; same = length_put k s v }
