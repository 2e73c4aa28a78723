-- The loop of find: it halts at a node with the key, or ends at an empty place.
use Prim.Native.Nat.{ℕ, ◌+◌}
use mathlib.Core.Bool.{Bool, true}
use mathlib.Core.List.{List, []}
use mathlib.Core.Logic.{◌≢◌}
use mathlib.Core.Path.{◌≡◌, refl, sym, ◌∙◌}
use native.Mathlib.Omega.{arith}
use lib.Dec.{ltb}
use borrow.Author.Tests.{eq-eqb, ne_eqb}
use Rattle.model.specs.Branch.{pick}
use Rattle.model.specs.Tree.{lft, Tree, leaf, node, top_of, Frame}
use Rattle.model.specs.Lent.{at}
use Rattle.model.specs.Descent.{halt, left_if, landing, descend, path, find_step, find_landing}
use Rattle.model.specs.Descent.{cursor_of, entry_at, entry_of, entry_for, find_slot}
use Rattle.theory.proofs.Descents.{probes_way}
use Rattle.links.specs.Reads.{Got}
use Rattle.descent.specs.declared.types.Met.{Met}
use Rattle.descent.specs.Searches.{Searchable, childless, last_node, MetAt, met_of, FoundKey}
use Rattle.descent.proofs.Downward.{By, Reached, meeting, ended, last_node_empty, turn_if, none_picked}
use Rattle.descent.proofs.Keeping.{Keeping, keep_key, keep_on}

-- ---- its comparison

module _ (key : List ℕ) (k x held : ℕ) (held-is : held ≡ at key x) where
  find_halts : held ≡ k → find_step (at key) k x ≡ halt
  unfolding find_step
  find_halts e = rw (← held-is, eq-eqb k held (sym e))

  find_goes : held ≢ k → find_step (at key) k x ≡ left_if (ltb k held)
  unfolding find_step
  find_goes apart = rw (← held-is, ne_eqb k held (λ e. apart (sym e)))

-- ---- where it ends

cursor_top : (u : Tree) (w : List Frame) → cursor_of (entry_at u w) ≡ top_of u
unfolding entry_at
cursor_top leaf w = refl
cursor_top (node c l x r) w = refl

-- the slot found is at the top of the place where the descent ends
pub found_top : (key : ℕ → ℕ) (k : ℕ) (t : Tree) → find_slot key k t ≡ top_of (find_landing key k t).place
unfolding find_slot entry_for entry_of
found_top key k t = cursor_top (find_landing key k t).place (find_landing key k t).way

find_ending : (key : ℕ → ℕ) (k : ℕ) (t u : Tree) (w : List Frame) {m : Met}
    → descend (find_step key k) t [] ≡ landing u w → MetAt (landing u w) (top_of u) m
    → MetAt (find_landing key k t) (find_slot key k t) m
unfolding find_landing
find_ending key k t u w e i = rw (found_top key k t, e) i

module _ {left right key : List ℕ} {root k : ℕ} where
  -- it ends where a child is missing
  pub found_none : {m : Met} → Keeping left right key root (By (find_step (at key) k)) m.slot.0 m.last.0 m.probes
      → m.slot.0 ≡ 0 → FoundKey left right key root k m
  found_none s none = record {
    is = λ v.
        let z = s.each v in
        find_ending (at key) k v.tree leaf z.way (ended v.drawing z.stands none)
        (record {
          slot_is = none;
          last_is = z.stands.last_is ∙ sym (last_node_empty (landing leaf z.way) refl);
          probes_is = omega (arith, z.stands.count_is, probes_way (landing leaf z.way));
        });
    top = s.top;
  }

  module _ {here x last n : ℕ} (v : Searchable left right key root)
      (s : Keeping left right key root (By (find_step (at key) k)) here last n) (some : Reached here x)
      {held : ℕ} (held-is : held ≡ at key x) where
    -- it halts at an equal key
    pub found_here : held ≡ k → FoundKey left right key root k (met_of here x (n + 1))
    unfolding last_node path
    found_here e = record {
      is = λ u.
          let z = s.each u in
          let m = meeting lft z.stands some in
          let y = node m.color m.near x m.far in
          find_ending (at key) k u.tree y z.way (sym m.same.is ∙ rw (find_halts key k x held held-is e))
          (record {
            slot_is = sym some.1;
            last_is = refl;
            probes_is = omega (arith, m.count_is, probes_way (landing y z.way));
          });
      top = (keep_key v s some).top;
    }

    module _ {a b next : ℕ} {less : Bool} (got-left : Got left x a) (got-right : Got right x b) (apart : held ≢ k)
        (less-is : less ≡ ltb k held) (next_is : next ≡ pick less a b) where
      goes : find_step (at key) k x ≡ left_if less
      goes = rw less-is (find_goes key k x held held-is apart)

      -- one step down
      pub find_on : Keeping left right key root (By (find_step (at key) k)) next x (n + 1)
      find_on = keep_on v s some less (turn_if less goes) got-left got-right next_is

      -- below a leaf it ends at once
      pub found_leaf : {none : Bool} → none ≡ childless a b → none ≡ true
          → FoundKey left right key root k (met_of next x (n + 1))
      found_leaf is taken = found_none find_on (none_picked less a b (sym is ∙ taken) next_is)
