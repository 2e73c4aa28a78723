-- What the writes of links require, and what they leave.
use Rattle.std.specs.Prelude.{ℕ, ◌+◌, ◌*◌, ◌≤◌, ◌<◌, List, ◌≡◌, length}
use Rattle.model.specs.Limits.{capacity_limit}
use Rattle.theory.specs.Links.{links}
use Rattle.theory.specs.Programs.{store, release_at}
use Rattle.theory.specs.Slots.{put, put_parent, put_color, Below, Parents}
use Rattle.links.specs.Reads.{SlotIn}

-- set
pub record SetPre (l : List ℕ) (s v : ℕ) : Type 0 where
  pub pos : 0 < s
  pub top : s ≤ length l
  pub below : Below l
  pub value : v ≤ length l

pub record Set (l : List ℕ) (s v : ℕ) (e : List ℕ) : Type 0 where
  pub is : e ≡ put l s v
  pub below : Below e
  pub same : length e ≡ length l

-- set_parent_color
pub record SetParentColorPre (p : List ℕ) (s v : ℕ) : Type 0 where
  pub pos : 0 < s
  pub top : s ≤ length p
  pub parents : Parents p
  pub value : v ≤ length p
  pub small : length p ≤ capacity_limit

pub record SetParentColor (p : List ℕ) (s v c : ℕ) (e : List ℕ) : Type 0 where
  pub is : e ≡ put p s (2 * v + c)
  pub parents : Parents e
  pub same : length e ≡ length p

-- set_parent
pub record SetParentPre (p : List ℕ) (s v : ℕ) : Type 0 where
  pub pos : 0 < s
  pub top : s ≤ length p
  pub parents : Parents p
  pub value : v ≤ length p
  pub small : length p ≤ capacity_limit

pub record SetParent (p : List ℕ) (s v : ℕ) (e : List ℕ) : Type 0 where
  pub is : e ≡ put_parent p s v
  pub parents : Parents e
  pub same : length e ≡ length p

-- set_color
pub record SetColorPre (p : List ℕ) (s : ℕ) : Type 0 where
  pub pos : 0 < s
  pub top : s ≤ length p
  pub parents : Parents p
  pub small : length p ≤ capacity_limit

pub record SetColor (p : List ℕ) (s v : ℕ) (e : List ℕ) : Type 0 where
  pub is : e ≡ put_color p s v
  pub parents : Parents e
  pub same : length e ≡ length p

-- release
pub record Released (l r p : List ℕ) (s : ℕ) (l' r' p' : List ℕ) : Type 0 where
  pub is : (t : ℕ) → links l' r' p' t ≡ release_at (links l r p t) s
  pub left : Below l'
  pub right : Below r'
  pub pc : Parents p'
  pub same_left : length l' ≡ length l
  pub same_right : length r' ≡ length r
  pub same_pc : length p' ≡ length p

-- set_links: beside the slot, the children a and b, and the parent v can be stored.
pub record SetLinksPre (l r p : List ℕ) (s a b v : ℕ) : Type 0 where
  pub slot : SlotIn l r p s
  pub first : a ≤ length l
  pub second : b ≤ length l
  pub parent : v ≤ length l

pub record SetLinks (l r p : List ℕ) (s a b v c : ℕ) (l' r' p' : List ℕ) : Type 0 where
  pub is : (t : ℕ) → links l' r' p' t ≡ store (links l r p t) s a b (2 * v + c)
  pub left : Below l'
  pub right : Below r'
  pub pc : Parents p'
  pub same_left : length l' ≡ length l
  pub same_right : length r' ≡ length r
  pub same_pc : length p' ≡ length p

-- set_key
pub record SetKey (k : List ℕ) (s v : ℕ) (e : List ℕ) : Type 0 where
  pub is : e ≡ put k s v
  pub same : length e ≡ length k
