-- The reads of links keep their promises.
use Prim.Native.Nat.{ℕ, ◌-◌, ◌/◌, ◌%◌}
use mathlib.Core.Bool.{false, not}
use mathlib.Core.List.{List}
use mathlib.Core.Path.{◌≡◌, refl, sym}
use lib.Dec.{eqb}
use lib.ListN.{get_or}
use borrow.Author.Tests.{eq-eqb, ne_eqb}
use native.Mathlib.Omega.{arith}
use Rattle.model.specs.Tree.{Side}
use Rattle.theory.specs.Links.{red_in}
use Rattle.model.specs.Lent.{at}
use Rattle.theory.specs.Slots.{parent_at, color_at}
use Rattle.theory.specs.Sided.{sided}
use Rattle.theory.proofs.Sided.{sided_color}
use Rattle.links.specs.Reads.{GetPre, Got, ParentPre, GotParent, GotColor, red_at, GotRed, linked_at, GotLinked}

pub got : (l : List ℕ) (s : ℕ) → GetPre l s → Got l s (get_or l (s - 1) 0)
unfolding at
got l s b = record { is = refl; top = b.below.each s }

pub got_parent : (p : List ℕ) (s : ℕ) → ParentPre p s → GotParent p s (get_or p (s - 1) 0 / 2)
unfolding at parent_at
got_parent p s b = record { is = refl; top = b.parents.each s }

-- a slot whose number is even is red, and any other black
module _ {p : List ℕ} {s : ℕ} where
  pub got_red : get_or p (s - 1) 0 % 2 ≡ 0 → GotColor p s 0
  unfolding at color_at
  got_red e = record { is = sym e; bit = omega arith }

  pub got_black : (get_or p (s - 1) 0 % 2 ≡ 0 → ⊥) → GotColor p s 1
  unfolding at color_at
  got_black n = record { is = omega (arith, n); bit = omega arith }

pub red_none : {p : List ℕ} {s : ℕ} → s ≡ 0 → GotRed p s false
unfolding red_at
red_none {s = s} e = record { is = rw (eq-eqb s 0 e) }

pub red_color : {p : List ℕ} {s c : ℕ} → (s ≡ 0 → ⊥) → GotColor p s c → GotRed p s (eqb c 0)
unfolding red_at
red_color {s = s} n g = record { is = rw (ne_eqb s 0 n, ← g.is) refl }

-- The same test on the arrays as links.
pub sided_red : (d : Side) (n f p : List ℕ) (t s : ℕ) → red_in (sided d n f p t) s ≡ red_at p s
unfolding red_in red_at
sided_red d n f p t s = rw (sided_color d n f p t s) refl

pub got_linked : (p : List ℕ) (s : ℕ) → GotLinked p s (not (eqb (get_or p (s - 1) 0) 0))
unfolding at linked_at
got_linked p s = record { is = refl }

pub got_key : (k : List ℕ) (s : ℕ) → get_or k (s - 1) 0 ≡ at k s
unfolding at
got_key k s = refl
