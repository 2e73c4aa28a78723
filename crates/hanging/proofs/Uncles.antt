-- red_or_none, red_uncle, paint_top and recolor: each call's demands, and the promises.
use Prim.Native.Nat.{ℕ, ◌≤◌, ◌<◌}
use mathlib.Core.Bool.{Bool, true, false}
use mathlib.Core.List.{List}
use mathlib.Core.Path.{◌≡◌, refl, sym, ap, ◌∙◌}
use lib.Dec.{eqb}
use lib.ListN.{length}
use native.Mathlib.Omega.{arith}
use borrow.Author.Tests.{eq-eqb, ne_eqb}
use Rattle.std.specs.Prelude.{Option, None}
use Rattle.std.specs.Bool.{then_some}
use Rattle.theory.specs.Slots.{parent_at}
use Rattle.links.specs.declared.types.Slot.{Slot}
use Rattle.theory.proofs.Slots.{parent_put_color}
use Rattle.links.specs.Reads.{GetPre, Got, ParentPre, GotParent, red_at, GotRed}
use Rattle.links.specs.Writes.{SetColor}
use Rattle.links.proofs.Colors.{red_some}
use Rattle.hanging.specs.Recolors.{red_or, RedOrNone, grand_at, uncle_at, UnclePre, RedUncle, crown_at, PaintPre}
use Rattle.hanging.specs.Recolors.{Painted, recolor_at, RecolorPre, Recolored}

-- ---- red_or_none

pub or_found : {pc : List ℕ} {s : Slot} (b : Bool) {found : Option Slot} → GotRed pc s.0 b → s.0 ≤ length pc
    → found ≡ then_some b s → RedOrNone pc s.0 found
unfolding red_or
or_found {pc} {s} true test high e =
    rw e (record { is = (red_some pc s.0 (sym test.is), rw (← test.is) refl); top = rw (← test.is) high })
or_found false test high e =
    rw e (record { is = rw (← test.is) refl; top = rw (← test.is) (omega arith) })

-- ---- red_uncle: the parent p of x, the grandparent g, its left child a

module _ {left right pc : List ℕ} {x p : ℕ} {b : Bool} (k : UnclePre left right pc x) (parent : GotParent pc x p)
    (test : GotRed pc p b) where
  p_red : b ≡ red_at pc (parent_at pc x)
  p_red = test.is ∙ ap (red_at pc) parent.is

  -- a black parent
  pub uncle_none : b ≡ false → RedUncle left right pc x None
  unfolding uncle_at
  uncle_none e = record { is = rw (← p_red, e) refl; top = rw (← p_red, e) (omega arith) }

  module _ (e : b ≡ true) where
    -- what the calls below a red parent ask for
    pub uncle_parent : ParentPre pc p
    uncle_parent = record { pos = red_some pc p (sym test.is ∙ e); top = parent.top; parents = k.parents }

    module _ {g : ℕ} (grand : GotParent pc p g) where
      g_is : g ≡ grand_at pc x
      unfolding grand_at
      g_is = grand.is ∙ ap (parent_at pc) parent.is

      g_low : 0 < g
      g_low = rw g_is (k.grand (sym p_red ∙ e))

      pub uncle_get : GetPre left g
      uncle_get = record { pos = g_low; top = omega (arith, grand.top, k.same_pc); below = k.left_below }

      pub uncle_get_2 : GetPre right g
      uncle_get_2 =
          record { pos = g_low; top = omega (arith, grand.top, k.same_pc, k.same_right); below = k.right_below }

      -- the promise, with the uncle on the right and on the left
      module _ {a : ℕ} (first : Got left g a) {t : Bool} (same : t ≡ eqb a p) {found : Option Slot} where
        pub uncle_right : {u : ℕ} → t ≡ true → Got right g u → RedOrNone pc u found → RedUncle left right pc x found
        unfolding uncle_at
        uncle_right {u} z second m =
            let is : uncle_at left right pc x ≡ red_or pc u
            = rw (← p_red, e, ← g_is, ← parent.is, ← first.is, ← same, z, ← second.is) refl in
            record { is = rw is m.is; top = rw is (omega (arith, m.top, k.same_pc)) }

        pub uncle_left : t ≡ false → RedOrNone pc a found → RedUncle left right pc x found
        unfolding uncle_at
        uncle_left z m =
            let is : uncle_at left right pc x ≡ red_or pc a
            = rw (← p_red, e, ← g_is, ← parent.is, ← first.is, ← same, z) refl in
            record { is = rw is m.is; top = rw is (omega (arith, m.top, k.same_pc)) }

-- ---- paint_top, by either branch

module _ {pc pc' : List ℕ} {g p : ℕ} (parent : GotParent pc g p) where
  pub painted_black : p ≡ 0 → SetColor pc g 1 pc' → Painted pc g pc'
  unfolding crown_at
  painted_black z s =
      record { is = rw (← parent.is, eq-eqb p 0 z) s.is; parents = s.parents; same = s.same }

  pub painted_red : (p ≡ 0 → ⊥) → SetColor pc g 0 pc' → Painted pc g pc'
  unfolding crown_at
  painted_red z s =
      record { is = rw (← parent.is, ne_eqb p 0 z) s.is; parents = s.parents; same = s.same }

-- ---- recolor

-- the grandparent, read once the parent is black
pub grand_is : {pc pc₁ : List ℕ} {x p g : ℕ} → 0 < parent_at pc x → GotParent pc x p → SetColor pc p 1 pc₁
    → GotParent pc₁ p g → g ≡ grand_at pc x
unfolding grand_at
grand_is {pc} {p = p} some parent s grand =
    grand.is ∙ ap (λ (z : List ℕ). parent_at z p) s.is
    ∙ parent_put_color pc p 1 p (rw parent.is some) parent.top (omega arith) ∙ ap (parent_at pc) parent.is

module _ {pc pc₁ : List ℕ} {x uncle p g : ℕ} (k : RecolorPre pc x uncle) (parent : GotParent pc x p)
    (s : SetColor pc p 1 pc₁) (grand : GotParent pc₁ p g) where
  g_grand : g ≡ grand_at pc x
  g_grand = grand_is k.parent parent s grand

  -- what the call asks for
  pub recolor_paint : PaintPre pc₁ g
  recolor_paint =
      record {
        low = rw g_grand k.grand;
        high = grand.top;
        parents = s.parents;
        small = omega (arith, k.small, s.same);
      }

  -- the promise
  pub recolor_done : {pc₂ pc₃ : List ℕ} → Painted pc₁ g pc₂ → SetColor pc₂ uncle 1 pc₃ → Recolored pc x uncle pc₃ g
  unfolding recolor_at
  recolor_done m z =
      record {
        is = rw (← g_grand, ← parent.is, ← s.is, ← m.is) z.is;
        grand = g_grand;
        parents = z.parents;
        same = z.same ∙ m.same ∙ s.same;
      }
