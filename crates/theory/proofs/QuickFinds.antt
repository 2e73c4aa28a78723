-- Where a tree keeps the rules, the quick check counts its missing children: one more than its nodes.
use Prim.Native.Nat.{ℕ, zero, suc, ◌+◌, ◌*◌, ◌/◌, ◌%◌, ◌^◌, ◌≤◌}
use native.Mathlib.Omega.{arith}
use native.Mathlib.Decide.{dec_le}
use mathlib.Core.Bool.{true}
use mathlib.Core.List.{List, [], ◌∷◌}
use mathlib.Core.Path.{◌≡◌, refl, sym, ◌∙◌}
use lib.ListN.{length}
use lib.Pow.{pow_mono}
use borrow.Author.Tests.{ne_eqb, lt-ltb, le-ltb, le-leb}
use Rattle.model.specs.Limits.{depth_limit}
use Rattle.model.specs.Tree.{lft, rgt, Color, red, black, Tree, leaf, node, slots}
use Rattle.model.specs.Lent.{Arrays, Lent, at, capacity, child_of, pc_of, key_of, parent_color}
use Rattle.model.specs.WellFormed.{Rising}
use Rattle.theory.specs.Balance.{tint, Allowed, dark, blacks, size, height}
use Rattle.theory.specs.Hangs.{Hangs}
use Rattle.theory.specs.Holds.{Holds}
use Rattle.theory.specs.Checked.{last_key}
use Rattle.theory.specs.Quick.{is_node_at, under, tip_ends, black_child, red_ends, any_child, black_ends}
use Rattle.theory.specs.Quick.{blacks_down, Regular}
use Rattle.theory.proofs.Totals.{sound_size}
use Rattle.theory.proofs.Height.{blacks_size}
use Rattle.theory.proofs.LastKey.{rising_split, last_append}
use Rattle.theory.proofs.Calm.{allowed_red}
use Rattle.theory.proofs.QuickTests.{true_child, black_child_lem, true_node, true_tip, some_under}

rising_last : (key : ℕ → ℕ) (k : ℕ) (L : List ℕ) → Rising key k L → k ≤ last_key key k L
rising_last key k [] h = omega arith
rising_last key k (x ∷ L) h = omega (arith, rising_last key (key x) L h.1)

-- below a red node, with no black node to come, there is nothing
bare : (t : Tree) → Allowed red (tint t) → blacks t ≡ 0 → t ≡ leaf
bare leaf h e = refl
bare (node red l x r) h e = absurd h
bare (node black l x r) h e = absurd (omega arith)

module _ (a : Arrays) where
  -- a node passes, and both its sides keep the rules
  record Parts (low high : ℕ) (l : Tree) (x : ℕ) (r : Tree) : Type 0 where
    fine : is_node_at a x low high ≡ true
    left : Regular a x (child_of lft a x) low (key_of a x) (blacks l) l
    right : Regular a x (child_of rgt a x) (key_of a x) high (blacks l) r

  parts : (above s low high n : ℕ) (c : Color) (l : Tree) (x : ℕ) (r : Tree) →
      Regular a above s low high n (node c l x r) → Parts low high l x r
  parts above s low high n c l x r h =
      let split = rising_split (key_of a) low (slots l) (x ∷ slots r) h.rising in
      let ends = last_append (key_of a) low (slots l) (x ∷ slots r) in
      let last : last_key (key_of a) (key_of a x) (slots r) ≤ high = rw ends at h.last in
      record {
        fine =
            true_node a x low high h.hangs.0.differ
            (omega (arith, rising_last (key_of a) low (slots l) split.0, split.1.0))
            (omega (arith, rising_last (key_of a) (key_of a x) (slots r) split.1.1));
        left = record {
          hangs = h.hangs.1;
          calm = h.calm.2;
          even = h.even.0;
          level = refl;
          rising = split.0;
          last = split.1.0;
        };
        right = record {
          hangs = h.hangs.2;
          calm = h.calm.3;
          even = h.even.1;
          level = sym h.even.2;
          rising = split.1.1;
          last = last;
        };
      }

  under_finds : (low high : ℕ) (l : Tree) (x : ℕ) (r : Tree) (ask : (child low high : ℕ) → ℕ) →
      Parts low high l x r → ask (child_of lft a x) low (key_of a x) ≡ size l + 1 →
      ask (child_of rgt a x) (key_of a x) high ≡ size r + 1 → under a x low high ask ≡ suc (size l + size r) + 1
  under_finds low high l x r ask h left right = some_under a x low high ask (size l) (size r) h.fine left right

  tip_finds : (p s low high : ℕ) (t : Tree) → Regular a p s low high 0 t → tip_ends a p s low high ≡ size t + 1
  unfolding tip_ends
  tip_finds p s low high leaf h = rw h.hangs
  tip_finds p s low high (node black l x r) h = absurd (omega (arith, h.level))
  tip_finds p s low high (node red l x r) h =
      let left : l ≡ leaf = bare l h.calm.0 h.level in
      let right : r ≡ leaf = bare r h.calm.1 (sym h.even.2 ∙ h.level) in
      let fine = (parts p s low high 0 red l x r h).fine in
      let none = true_tip a x low high p h.hangs.0.marked (rw left at h.hangs.1) in
      rw (
        left,
        right,
        h.hangs.0.same,
        ne_eqb x 0 (omega (arith, h.hangs.0.linked.positive)),
        le-ltb (capacity a) x h.hangs.0.linked.fits,
        none (rw right at h.hangs.2) fine,
      )

  -- where a tree keeps the rules under a black slot, `ask` counts it right
  abbrev Counts : (ask : (s low high : ℕ) → ℕ) (n : ℕ) → Type 0
  Counts ask n = (above s low high : ℕ) (t : Tree) → tint t ≡ black → Regular a above s low high n t →
      ask s low high ≡ size t + 1

  black_asked : (p s low high n : ℕ) (t : Tree) (ask : (s low high : ℕ) → ℕ) → tint t ≡ black →
      Regular a p s low high (suc n) t → Counts ask (suc n) → black_child a ask p s low high ≡ size t + 1
  unfolding black_child
  black_asked p s low high n leaf ask e h counts = absurd (omega (arith, h.level))
  black_asked p s low high n (node red l x r) ask e h counts = let z : ◌≡◌ {A = ℕ} 0 1 = cc in absurd (omega arith)
  black_asked p s low high n (node black l x r) ask e h counts =
      rw (true_child a h.hangs.0) (counts p s low high (node black l x r) e h)

  red_finds : (above s low high n : ℕ) (l : Tree) (x : ℕ) (r : Tree) (ask : (s low high : ℕ) → ℕ) →
      Regular a above s low high (suc n) (node red l x r) → Counts ask (suc n) →
      red_ends a ask s low high ≡ size (node red l x r) + 1
  unfolding red_ends
  red_finds above s low high n l x r ask h counts =
      let q = parts above s low high (suc n) red l x r h in
      rw h.hangs.0.same
      (under_finds low high l x r (black_child a ask x) q
      (black_asked x (child_of lft a x) low (key_of a x) n l ask (allowed_red red (tint l) refl h.calm.0)
      (rw h.level at q.left) counts)
      (black_asked x (child_of rgt a x) (key_of a x) high n r ask (allowed_red red (tint r) refl h.calm.1)
      (rw h.level at q.right) counts))

  -- a child of a black slot is asked by its own colour
  any_asked : (p s low high n : ℕ) (t : Tree) (ask : (s low high : ℕ) → ℕ) → Regular a p s low high (suc n) t →
      Counts ask (suc n) → any_child a ask p s low high ≡ size t + 1
  unfolding any_child
  any_asked p s low high n leaf ask h counts = absurd (omega (arith, h.level))
  any_asked p s low high n (node red l x r) ask h counts =
      rw (true_child a h.hangs.0) (red_finds p s low high n l x r ask h counts)
  any_asked p s low high n (node black l x r) ask h counts =
      rw (black_child_lem a h.hangs.0) (black_asked p s low high n (node black l x r) ask refl h counts)

  under_black : (n above s low high : ℕ) (t : Tree) (ask : (p child low high : ℕ) → ℕ) → tint t ≡ black →
      Regular a above s low high (suc n) t →
      ((p child lo hi : ℕ) (u : Tree) → Regular a p child lo hi n u → ask p child lo hi ≡ size u + 1) →
      under a s low high (ask s) ≡ size t + 1
  under_black n above s low high leaf ask e h counts = absurd (omega (arith, h.level))
  under_black n above s low high (node red l x r) ask e h counts = let z : ◌≡◌ {A = ℕ} 0 1 = cc in absurd (omega arith)
  under_black n above s low high (node black l x r) ask e h counts =
      let q = parts above s low high (suc n) black l x r h in
      let more : blacks l ≡ n = omega (arith, h.level) in
      rw h.hangs.0.same
      (under_finds low high l x r (ask x) q
      (counts x (child_of lft a x) low (key_of a x) l (rw more at q.left))
      (counts x (child_of rgt a x) (key_of a x) high r (rw more at q.right)))

  -- under a black slot, with n black nodes more on each way
  pub black_finds : (n above s low high : ℕ) (t : Tree) → tint t ≡ black → Regular a above s low high (suc n) t →
      black_ends n a s low high ≡ size t + 1
  unfolding black_ends
  black_finds zero above s low high t e h = under_black 0 above s low high t (tip_ends a) e h tip_finds
  black_finds (suc n) above s low high t e h =
      under_black (suc n) above s low high t (any_child a (black_ends n a)) e h
      (λ p child lo hi u k. any_asked p child lo hi n u (black_ends n a) k (black_finds n))

-- ---- the black nodes of the whole tree

-- one more with a black top
own_black : (c : Color) (p n : ℕ) → parent_color p c % 2 + n ≡ dark c n
own_black red p n = omega arith
own_black black p n = omega arith

-- those on the leftmost way, given turns enough
pub down_finds : (a : Arrays) (turns p s : ℕ) (t : Tree) → Hangs a p s t → height t ≤ turns →
    blacks_down turns a.left a.pc s ≡ blacks t
unfolding blacks_down capacity child_of pc_of
down_finds a zero p s leaf h deep = refl
down_finds a (suc turns) p s leaf h deep = rw h
down_finds a zero p s (node c l x r) h deep = absurd (omega arith)
down_finds a (suc turns) p s (node c l x r) h deep =
    rw (
      h.0.same,
      lt-ltb 0 x h.0.linked.positive,
      le-leb x (length a.pc) h.0.linked.fits,
      down_finds a turns x (at a.left x) l h.1 (omega arith),
      h.0.marked,
    )
    (own_black c p (blacks l))

-- no way has more of them than half the depth
pub few_blacks : {m : Lent} {t : Tree} → Holds m t → 2 * blacks t ≤ depth_limit
few_blacks {m} {t} h = go (dec_le (suc (depth_limit / 2)) (blacks t))
  where
    go : Dec (suc (depth_limit / 2) ≤ blacks t) → 2 * blacks t ≤ depth_limit
    go (yes k) =
        let z : 2 ^ suc (depth_limit / 2) ≤ 2 ^ blacks t = pow_mono k in
        absurd (omega (arith, blacks_size t h.balanced.even, sound_size h.sound, h.small))
    go (no k) = omega arith
