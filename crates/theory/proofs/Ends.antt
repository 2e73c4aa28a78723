-- first_child and last_child over link records: on those of a well-formed tree they answer what the walk over the
-- arrays does, the outermost slot of the tree below the start.
use Prim.Native.Nat.{ℕ, zero, suc, ◌-◌, ◌≤◌}
use mathlib.Core.Path.{◌≡◌, refl, ap, ◌∙◌}
use mathlib.Core.List.{List, [], ◌∷◌}
use native.Mathlib.Omega.{arith}
use lib.ListN.{length, get_or}
use lib.Dec.{eqb}
use borrow.Author.Tests.{eqb-false, ne_eqb, le-ltb}
use Rattle.model.specs.Branch.{pick}
use Rattle.model.specs.Tree.{Side, lft, rgt, Color, Tree, leaf, node, opp, nod, top_of, slots, Frame, frame, plug}
use Rattle.model.specs.Lent.{Lent, at, capacity, tree_of}
use Rattle.model.specs.WellFormed.{WellFormed}
use Rattle.model.specs.Order.{first_slot}
use Rattle.model.specs.Ends.{unlinked, link_child, end_from, end_over}
use Rattle.theory.specs.Balance.{height}
use Rattle.theory.specs.Sound.{Sound}
use Rattle.theory.specs.Lists.{facing}
use Rattle.theory.specs.Focus.{Standing}
use Rattle.theory.specs.Links.{Links, links_of, drawn, child_in}
use Rattle.theory.specs.Programs.{end_of}
use Rattle.theory.proofs.Branch.{by-test}
use Rattle.theory.proofs.Sides.{by_side}
use Rattle.theory.proofs.Counts.{slot_low, slot_high}
use Rattle.theory.proofs.Height.{height_nod}
use Rattle.theory.proofs.Depth.{sound_deep}
use Rattle.theory.proofs.Reading.{links_draw, near_drawn}
use Rattle.theory.proofs.Walking.{end_drawn}
use Rattle.theory.proofs.Holds.{well_holds}
use Rattle.theory.specs.Records.{records, records_of}

-- ---- a record, and how many there are

record_at_lem : (l r p : List ℕ) (i : ℕ) → length r ≡ length l → length p ≡ length l
    → get_or (records l r p) i unlinked ≡ record { left = get_or l i 0; right = get_or r i 0; pc = get_or p i 0 }
record_at_lem [] [] [] i e f = refl
record_at_lem [] (y ∷ r) p i e f = absurd (omega arith)
record_at_lem [] [] (z ∷ p) i e f = absurd (omega arith)
record_at_lem (x ∷ l) [] p i e f = absurd (omega arith)
record_at_lem (x ∷ l) (y ∷ r) [] i e f = absurd (omega arith)
record_at_lem (x ∷ l) (y ∷ r) (z ∷ p) zero e f = refl
record_at_lem (x ∷ l) (y ∷ r) (z ∷ p) (suc i) e f = record_at_lem l r p i (omega arith) (omega arith)

length_records : (l r p : List ℕ) → length r ≡ length l → length p ≡ length l → length (records l r p) ≡ length l
length_records [] r p e f = refl
length_records (x ∷ l) [] p e f = absurd (omega arith)
length_records (x ∷ l) (y ∷ r) [] e f = absurd (omega arith)
length_records (x ∷ l) (y ∷ r) (z ∷ p) e f = ap suc (length_records l r p (omega arith) (omega arith))

-- ---- the walk over the records of a drawing

module _ {C : ℕ} (d : Side) (k : Links)
    (left : length k.left ≡ C) (right : length k.right ≡ C) (pc : length k.pc ≡ C) where
  record_child : (s : ℕ) → link_child d (get_or (records_of k) (s - 1) unlinked) ≡ child_in d k s
  unfolding records_of child_in at
  record_child s = go d
    where
      go : (d : Side) → link_child d (get_or (records_of k) (s - 1) unlinked) ≡ child_in d k s
      go lft = rw (record_at_lem k.left k.right k.pc (s - 1) (omega arith) (omega arith)) refl
      go rgt = rw (record_at_lem k.left k.right k.pc (s - 1) (omega arith) (omega arith)) refl

  pub records_length : length (records_of k) ≡ C
  unfolding records_of
  records_length = length_records k.left k.right k.pc (omega arith) (omega arith) ∙ left

  -- one node more
  step : (n s : ℕ) → s ≤ C
      → end_from d (suc n) (records_of k) s ≡ pick (eqb (child_in d k s) 0) s
      (end_from d n (records_of k) (child_in d k s))
  unfolding end_from
  step n s high = by-test (eqb (child_in d k s) 0)
      (λ e. rw (records_length, le-ltb C s high, record_child s, e))
      (λ e. rw (records_length, le-ltb C s high, record_child s, e))

  -- from a node whose child on the side is the near one
  at_node : (n : ℕ) (c : Color) (near : Tree) (x : ℕ) (far : Tree) (w : List Frame)
      → k ≡ drawn C (plug (nod d c near x far) w) → Sound C (plug (nod d c near x far) w)
      → (1 ≤ top_of near → end_from d n (records_of k) (top_of near) ≡ end_of d n k (top_of near))
      → end_from d (suc n) (records_of k) x ≡ end_of d (suc n) k x
  unfolding end_of
  at_node n c near x far w is h go =
      let child : child_in d k x ≡ top_of near = rw is (near_drawn d c near x far w h) in
      step n x (slot_high d c near x far w h) ∙ rw child (by-test (eqb (top_of near) 0)
      (λ e. rw e) (λ e. rw e (go (some (top_of near) (eqb-false (top_of near) 0 e)))))
    where
      some : (n : ℕ) → (n ≡ 0 → ⊥) → 1 ≤ n
      some n f = omega arith

  -- the walk is the one over the arrays
  pub records_end : (n : ℕ) (t : Tree) (w : List Frame) → 1 ≤ top_of t → height t ≤ n → Sound C (plug t w)
      → k ≡ drawn C (plug t w) → end_from d n (records_of k) (top_of t) ≡ end_of d n k (top_of t)
  records_end zero leaf w low le h is = absurd (omega arith)
  records_end zero (node c l x r) w low le h is = absurd (omega arith)
  records_end (suc n) t w low le h is = by_side d
      (λ t. 1 ≤ top_of t → height t ≤ suc n → Sound C (plug t w) → k ≡ drawn C (plug t w)
      → end_from d (suc n) (records_of k) (top_of t) ≡ end_of d (suc n) k (top_of t))
      (λ low. absurd (omega arith))
      (λ c near x far _ le h is. at_node n c near x far w is h (λ low.
      records_end n near (frame d c x far ∷ w) low (omega (arith, height_nod d c near x far)) h is))
      t low le h is

-- ---- on well-formed arrays

module _ (m : Lent) (well : WellFormed m) (d : Side) (p : ℕ) (v : Standing d p (tree_of m)) where
  abbrev C : ℕ
  C = capacity m.arrays

  abbrev below : Tree
  below = nod d v.color v.near p v.far

  sound : Sound C (plug below v.way)
  sound = rw v.whole (well_holds m well).sound

  is : links_of m ≡ drawn C (plug below v.way)
  is = rw v.whole (ap links_of (well_holds m well).is ∙ links_draw C (tree_of m) m.arrays.key)

  low : 1 ≤ p
  low = slot_low d v.color v.near p v.far v.way sound

  fits : height below ≤ C
  fits = omega (arith, sound_deep below v.way sound)

  -- the answer is the one over the arrays
  pub ends_array : end_over d (records_of (links_of m)) p ≡ end_of d C (links_of m) p
  unfolding end_over capacity
  ends_array =
      rw (ne_eqb p 0 (λ e. omega (arith, low)), records_length d (links_of m) left right refl)
      (records_end d (links_of m) left right refl C below v.way low fits sound is)
    where
      left : length m.arrays.left ≡ C
      left = well.w1.lengths.left

      right : length m.arrays.right ≡ C
      right = well.w1.lengths.right

  -- the outermost slot on the side of the tree below the start
  pub ends_outer : end_over d (records_of (links_of m)) p ≡ first_slot (facing (opp d) (slots below))
  ends_outer = ends_array ∙ rw is (end_drawn d C below v.way low fits sound)
