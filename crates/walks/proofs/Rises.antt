-- climb: its loop goes up the way of the tree, so it ends, at the first slot that hangs on the side or at the root.
use Prim.Native.Nat.{ℕ, zero, suc, ◌≤◌, ◌<◌}
use mathlib.Core.List.{List, [], ◌∷◌}
use mathlib.Core.Path.{◌≡◌, refl, sym, ap, ◌∙◌}
use native.Mathlib.Omega.{arith}
use lib.ListN.{length}
use lib.Dec.{eqb}
use borrow.Author.Tests.{eq-eqb, ne_eqb}
use Rattle.model.specs.Branch.{pick}
use Rattle.model.specs.Tree.{Side, Color, Tree, nod, Frame, frame}
use Rattle.model.specs.Lent.{at}
use Rattle.theory.specs.Slots.{parent_at, ups}
use Rattle.theory.specs.Programs.{rise}
use Rattle.theory.specs.Sided.{sided}
use Rattle.theory.specs.Places.{Spot}
use Rattle.theory.proofs.Height.{height_nod}
use Rattle.theory.proofs.Sided.{sided_near, sided_parent}
use Rattle.theory.proofs.Places.{spot_low, spot_high, spot_bounded, spot_parent, spot_up}
use Rattle.theory.proofs.Depth.{spot_ups, spot_deep}
use Rattle.links.specs.Reads.{GetPre, Got, ParentPre, GotParent}
use Rattle.walks.specs.Ends.{rise_at, ClimbPre, ClimbPost}

-- ---- the climb

-- over both arrays it is the theory's
pub rise_sided : (n : ℕ) (d : Side) (near far pc : List ℕ) (root s : ℕ)
    → rise d n (sided d near far pc root) s ≡ rise_at n near pc s
unfolding rise rise_at
rise_sided zero d near far pc root s = refl
rise_sided (suc n) d near far pc root s =
    rw (
      sided_parent d near far pc root s,
      sided_near d near far pc root (parent_at pc s),
      rise_sided n d near far pc root (parent_at pc s),
    ) refl

-- its ends: no parent, and a parent by the links
rise_none : (n : ℕ) (links pc : List ℕ) (s : ℕ) → parent_at pc s ≡ 0 → rise_at n links pc s ≡ 0
unfolding rise_at
rise_none zero links pc s none = refl
rise_none (suc n) links pc s none = rw none

rise_found : (n : ℕ) (links pc : List ℕ) (s p : ℕ) → 0 < n → p ≡ parent_at pc s → (p ≡ 0 → ⊥) → at links p ≡ s
    → rise_at n links pc s ≡ p
unfolding rise_at
rise_found zero links pc s p some is n hit = absurd (omega arith)
rise_found (suc m) links pc s p some is n hit = rw (← is, ne_eqb p 0 n, eq-eqb (at links p) s hit)

module _ {d : Side} {near far pc : List ℕ} {root C : ℕ} where
  -- n steps are enough for it where fewer frames stand above x
  rise_more : (n : ℕ) (w : List Frame) {e : Side} {c : Color} {a b : Tree} {x : ℕ}
      → Spot d near far pc root C e c a x b w → length w < n → rise_at (suc n) near pc x ≡ rise_at n near pc x
  unfolding rise_at
  rise_more zero w k le = absurd (omega arith)
  rise_more (suc n) [] k le = rw (spot_parent k)
  rise_more (suc n) (frame e' c' q s ∷ w) {x = x} k le =
      rw (spot_parent k)
      (ap (λ (m : ℕ). pick (eqb q 0) 0 (pick (eqb (at near q) x) q m)) (rise_more n w (spot_up k) (omega arith)))

  -- from the parent q of x, of which x isn't a child by the links, it leads to the same slot
  module _ {e e' : Side} {c c' : Color} {a b s : Tree} {x q : ℕ} {w : List Frame}
      (k : Spot d near far pc root C e c a x b (frame e' c' q s ∷ w)) (apart : at near q ≡ x → ⊥) where
    rise_same : rise_at (length pc) near pc q ≡ rise_at (length pc) near pc x
    unfolding rise_at
    rise_same = go (length pc) (omega (arith, spot_deep k, height_nod e c a x b, (spot_bounded k).same_pc))
      where
        go : (n : ℕ) → length (frame e' c' q s ∷ w) < n → rise_at n near pc q ≡ rise_at n near pc x
        go zero le = absurd (omega arith)
        go (suc n) le =
            let low = spot_low (spot_up k) in
            rise_more n w (spot_up k) (omega arith)
            ∙ sym (rw (spot_parent k, ne_eqb q 0 (λ i. omega arith), ne_eqb (at near q) x apart) refl)

-- ---- the loop of climb

-- from here the climb leads where that from x does
pub record Climbing (links pc : List ℕ) (x here : ℕ) : Type 0 where
  pub seen : ClimbPre links pc here
  pub same : rise_at (length pc) links pc here ≡ rise_at (length pc) links pc x

-- the measure: how many frames stand above
abbrev pub steps_left : (links pc : List ℕ) → (here : ℕ) → ℕ
steps_left links pc here = ups (length links) pc here

-- it holds at the start
pub climb_start : {links pc : List ℕ} {x : ℕ} → ClimbPre links pc x → Climbing links pc x x
climb_start k = record { seen = k; same = refl }

record Raised (links pc : List ℕ) (here p : ℕ) : Type 0 where
  pub climbing : Climbing links pc here p
  pub less : steps_left links pc p < steps_left links pc here

-- a turn leads to the parent
raised : {d : Side} {near far pc : List ℕ} {root C : ℕ} {e : Side} {c : Color} {a b : Tree} {here : ℕ} (w : List Frame)
    (p : ℕ)
    → Spot d near far pc root C e c a here b w → p ≡ parent_at pc here → (p ≡ 0 → ⊥) → (at near p ≡ here → ⊥)
    → Raised near pc here p
raised [] p k is n apart = absurd (n (is ∙ spot_parent k))
raised {d} {near} {far} {pc} {root} {C} {e} {c} {a} {b} {here} (frame e' c' q s ∷ w) p k is n apart =
    let up : p ≡ q = is ∙ spot_parent k in
    rw up (record {
      climbing = record {
        seen = record {
          side = d;
          other = far;
          root = root;
          size = C;
          hand = e';
          color = c';
          near = nod e c a here b;
          far = s;
          way = w;
          spot = spot_up k;
        };
        same = rise_same k (λ i. apart (ap (at near) up ∙ i));
      };
      less = omega (arith, spot_ups k, spot_ups (spot_up k));
    })

module _ {links pc : List ℕ} {x here : ℕ} (k : Climbing links pc x here) where
  -- what the calls ask for, and the promise where there is no parent or the slot is its child by the links
  pub climb_parent : ParentPre pc here
  climb_parent =
      let s = k.seen.spot in let b = spot_bounded s in
      record { pos = spot_low s; top = omega (arith, spot_high s, b.same_pc); parents = b.parents }

  module _ {p : ℕ} (g : GotParent pc here p) where
    pub climb_root : p ≡ 0 → ClimbPost links pc x 0
    climb_root e =
        record { is = sym (rise_none (length pc) links pc here (sym g.is ∙ e)) ∙ k.same; top = omega arith }

    module _ {parent : ℕ} (s : (0 < parent) × (parent ≡ p)) where
      is : parent ≡ parent_at pc here
      is = s.1 ∙ g.is

      some : parent ≡ 0 → ⊥
      some e = omega (arith, s.0)

      top : parent ≤ length pc
      top = omega (arith, s.1, g.top)

      pub climb_get : GetPre links parent
      climb_get =
          let b = spot_bounded k.seen.spot in
          record { pos = s.0; top = omega (arith, top, b.same_pc); below = b.near_below }

      module _ {y : ℕ} (f : Got links parent y) where
        pub climb_found : y ≡ here → ClimbPost links pc x parent
        climb_found hit =
            record {
              is = sym (rise_found (length pc) links pc here parent (omega (arith, s.0, top)) is some (sym f.is ∙ hit))
                  ∙ k.same;
              top = top;
            }

        module _ (apart : y ≡ here → ⊥) where
          turn : Raised links pc here parent
          turn = raised k.seen.way parent k.seen.spot is some (λ i. apart (f.is ∙ i))

          -- otherwise it still holds at the parent, with less left
          pub climb_on : Climbing links pc x parent
          climb_on = record { seen = turn.climbing.seen; same = turn.climbing.same ∙ k.same }

          pub climb_less : steps_left links pc parent < steps_left links pc here
          climb_less = turn.less
