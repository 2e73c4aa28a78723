-- end_of and front: the chain of one side's links goes down a tree, so it ends, and ends at the tree's outermost slot.
use Prim.Native.Nat.{ℕ, zero, suc, ◌≤◌, ◌<◌}
use mathlib.Core.List.{List, [], ◌∷◌}
use mathlib.Core.Path.{◌≡◌, refl, sym, ap, ◌∙◌}
use native.Mathlib.Omega.{arith}
use lib.ListN.{length}
use lib.Dec.{eqb}
use borrow.Author.Tests.{eq-eqb, ne_eqb}
use Rattle.model.specs.Branch.{pick}
use Rattle.model.specs.Tree.{Side, Color, Tree, leaf, node, opp, nod, top_of, Frame, frame, slots}
use Rattle.model.specs.Lent.{at}
use Rattle.model.specs.Order.{first_slot}
use Rattle.model.specs.Draw.{lay, draw}
use Rattle.theory.specs.Balance.{height}
use Rattle.theory.specs.Links.{Links, drawn}
use Rattle.theory.specs.Programs.{end_of}
use Rattle.theory.specs.Sided.{sided}
use Rattle.theory.specs.Lists.{facing}
use Rattle.theory.specs.Places.{Drawn, Spot}
use Rattle.theory.proofs.Sides.{by_side}
use Rattle.theory.proofs.Height.{height_nod}
use Rattle.theory.proofs.Sided.{sided_root, sided_near}
use Rattle.theory.proofs.Walking.{facing_opp, first_nod, end_drawn}
use Rattle.theory.proofs.Places.{spot_low, spot_high, spot_bounded, spot_near, spot_up}
use Rattle.theory.proofs.Depth.{spot_deep}
use Rattle.links.specs.Reads.{GetPre, Got}
use Rattle.walks.specs.Ends.{end_at, front_at, EndPre, EndPost, FrontPre, FrontPost}

-- ---- the chain

-- over both arrays it is the theory's
pub end_sided : (n : ℕ) (d : Side) (near far pc : List ℕ) (root s : ℕ)
    → end_of d n (sided d near far pc root) s ≡ end_at n near s
unfolding end_of end_at
end_sided zero d near far pc root s = refl
end_sided (suc n) d near far pc root s =
    rw (sided_near d near far pc root s, end_sided n d near far pc root (at near s)) refl

end_here : (n : ℕ) (links : List ℕ) (s : ℕ) → at links s ≡ 0 → end_at n links s ≡ s
unfolding end_at
end_here zero links s none = refl
end_here (suc n) links s none = rw none

-- how many links follow from a slot, n at the most
unfoldable pub downs : (n : ℕ) → (links : List ℕ) → (slot : ℕ) → ℕ
downs zero links s = 0
downs (suc n) links s = pick (eqb (at links s) 0) 0 (suc (downs n links (at links s)))

module _ {d : Side} {near far pc : List ℕ} {root C : ℕ} where
  -- it leads to the outermost slot of the tree below x
  end_first : {c : Color} {a b : Tree} {x : ℕ} {w : List Frame} → Spot d near far pc root C d c a x b w
      → end_at (length near) near x ≡ first_slot (facing (opp d) (slots (nod d c a x b)))
  end_first {c} {a} {b} {x} {w} k =
      sym (end_sided (length near) d near far pc root x)
      ∙ ap (λ (z : Links). end_of d (length near) z x) k.held.is
      ∙ end_drawn d (length near) (nod d c a x b) w (spot_low k) (omega (arith, spot_deep k)) k.held.sound

  -- n steps are enough for it where no more nodes stand below x
  downs_more : (n : ℕ) (a : Tree) {c : Color} {x : ℕ} {b : Tree} {w : List Frame}
      → Spot d near far pc root C d c a x b w → height a ≤ n → downs (suc n) near x ≡ downs n near x
  unfolding downs
  downs_more zero leaf k le = rw (spot_near k)
  downs_more zero (node q l y r) k le = absurd (omega arith)
  downs_more (suc n) a {c} {x} {b} {w} k le = by_side d
      (λ a. Spot d near far pc root C d c a x b w → height a ≤ suc n
      → downs (suc (suc n)) near x ≡ downs (suc n) near x)
      (λ k le. rw (spot_near k))
      (λ q a' y b' k le.
      let below : Spot d near far pc root C d q a' y b' (frame d c x b ∷ w) = record { held = k.held } in
      rw (spot_near k)
      (ap (λ (m : ℕ). pick (eqb y 0) 0 (suc m)) (downs_more n a' below (omega (arith, height_nod d q a' y b')))))
      a k le

  -- from the child y of x it is one step shorter than from x, and ends at the same slot
  module _ {c q : Color} {a b s : Tree} {x y : ℕ} {w : List Frame}
      (k : Spot d near far pc root C d q a y b (frame d c x s ∷ w)) where
    down_less : downs (length near) near y < downs (length near) near x
    unfolding downs
    down_less = go (length near) (omega (arith, spot_deep k))
      where
        go : (n : ℕ) → height (nod d q a y b) ≤ n → downs n near y < downs n near x
        go zero le = absurd (omega (arith, height_nod d q a y b))
        go (suc n) le =
            let low = spot_low k in
            rw (
              downs_more n a k (omega (arith, height_nod d q a y b)),
              spot_near (spot_up k),
              ne_eqb y 0 (λ e. omega arith),
            ) (omega arith)

    down_same : end_at (length near) near y ≡ end_at (length near) near x
    down_same =
        end_first k
        ∙ sym (end_first (spot_up k) ∙ rw (facing_opp d c (nod d q a y b) x s)
        (first_nod (opp d) d q a y b (x ∷ facing (opp d) (slots s))))

-- ---- the loop of end_of

-- the chain from here ends where that from x does
pub record Going (links : List ℕ) (x here : ℕ) : Type 0 where
  pub seen : EndPre links here
  pub same : end_at (length links) links here ≡ end_at (length links) links x

-- the measure: how many links follow
abbrev pub links_left : (links : List ℕ) → (here : ℕ) → ℕ
links_left links here = downs (length links) links here

-- it holds at the start
pub going_start : {links : List ℕ} {x : ℕ} → EndPre links x → Going links x x
going_start k = record { seen = k; same = refl }

record Gone (links : List ℕ) (here y : ℕ) : Type 0 where
  pub going : Going links here y
  pub less : links_left links y < links_left links here

-- a turn leads to the child
gone : (d : Side) {near far pc : List ℕ} {root C : ℕ} {c : Color} (a : Tree) {here : ℕ} {b : Tree} {w : List Frame}
    (y : ℕ)
    → Spot d near far pc root C d c a here b w → y ≡ at near here → (y ≡ 0 → ⊥) → Gone near here y
gone d {near} {far} {pc} {root} {C} {c} a {here} {b} {w} y k e n = by_side d
    (λ a. Spot d near far pc root C d c a here b w → Gone near here y)
    (λ k. absurd (n (e ∙ spot_near k)))
    (λ q a' y' b' k.
    let j : Spot d near far pc root C d q a' y' b' (frame d c here b ∷ w) = record { held = k.held } in
    rw (e ∙ spot_near k) (record {
      going = record {
        seen = record {
          side = d;
          other = far;
          pc = pc;
          root = root;
          size = C;
          color = q;
          near = a';
          far = b';
          way = frame d c here b ∷ w;
          spot = j;
        };
        same = down_same j;
      };
      less = down_less j;
    }))
    a k

module _ {links : List ℕ} {x here : ℕ} (k : Going links x here) where
  -- what the call asks for
  pub going_get : GetPre links here
  going_get =
      let s = k.seen.spot in
      record { pos = spot_low s; top = spot_high s; below = (spot_bounded s).near_below }

  module _ {y : ℕ} (g : Got links here y) where
    -- where no link follows, the promise holds
    pub going_end : y ≡ 0 → EndPost links x here
    going_end e =
        let s = k.seen.spot in
        record {
          is = sym (end_here (length links) links here (sym g.is ∙ e)) ∙ k.same;
          pos = spot_low s;
          top = spot_high s;
        }

    -- otherwise it still holds at the child, with less left
    module _ {child : ℕ} (s : (0 < child) × (child ≡ y)) where
      turn : Gone links here child
      turn = gone k.seen.side k.seen.near child k.seen.spot (s.1 ∙ g.is) (λ e. omega (arith, s.0))

      pub going_on : Going links x child
      going_on = record { seen = turn.going.seen; same = turn.going.same ∙ k.same }

      pub going_less : links_left links child < links_left links here
      going_less = turn.less

-- ---- front

root_drawn : (d : Side) {near far pc : List ℕ} {root C : ℕ} {t : Tree} → Drawn d near far pc root C t → root ≡ top_of t
unfolding drawn draw lay
root_drawn d {near} {far} {pc} {root} k = sym (sided_root d near far pc root) ∙ ap (λ (z : Links). z.root) k.is

-- the root, where there is one, stands in the tree
start_at : (d : Side) {near far pc : List ℕ} {root C : ℕ} (t : Tree) → Drawn d near far pc root C t → (root ≡ 0 → ⊥)
    → EndPre near root
start_at d {near} {far} {pc} {root} {C} t k n = by_side d
    (λ t. Drawn d near far pc root C t → EndPre near root)
    (λ k. absurd (n (root_drawn d k)))
    (λ c a x b k. rw (root_drawn d k) (record {
      side = d;
      other = far;
      pc = pc;
      root = root;
      size = C;
      color = c;
      near = a;
      far = b;
      way = [];
      spot = record { held = k };
    }))
    t k

module _ {links : List ℕ} {root : ℕ} where
  -- what the call asks for, and what front promises, by either branch
  pub front_start : FrontPre links root → (root ≡ 0 → ⊥) → EndPre links root
  front_start v n = start_at v.side v.tree v.held n

  pub front_none : root ≡ 0 → FrontPost links root 0
  unfolding front_at
  front_none e = record { is = rw (eq-eqb root 0 e); top = omega arith }

  pub front_end : {found : ℕ} → (root ≡ 0 → ⊥) → EndPost links root found → FrontPost links root found
  unfolding front_at
  front_end n m = record { is = rw (ne_eqb root 0 n) m.is; top = m.top }
