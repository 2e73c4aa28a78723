-- 01, "When the index says no": the answers, each refusal by itself, and the order in which they are tried.
use Rattle.std.specs.Prelude.{ℕ, Bool, false, eqb, leb, ltb}
use Rattle.std.proofs.Math.Option.{Option, none, some}
use Rattle.model.specs.Branch.{choose}
use Rattle.model.specs.Tree.{same_side, slots}
use Rattle.model.specs.Lent.{Arrays, Lent, capacity, key_of, is_linked, tree_of}
use Rattle.model.specs.Descent.{Entry, occupied, vacant, entry_for}
use Rattle.model.specs.Commands.{Command, insert, or_insert, find, lower_bound, upper_bound, remove, next, prev}
use Rattle.model.specs.Commands.{insert_after, insert_before, replace_with, clear, fields_of}
use Rattle.model.specs.Order.{keeps_order}

pub data Code : Type 0 where
  done damaged bad_slot already_linked not_linked out_of_order null_cursor stale bad_record bad_length short
      bad_code : Code

abbrev pub code_number : Code → ℕ
code_number done = 0
code_number damaged = 1
code_number bad_slot = 2
code_number already_linked = 3
code_number not_linked = 4
code_number out_of_order = 5
code_number null_cursor = 6
code_number stale = 7
code_number bad_record = 8
code_number bad_length = 9
code_number short = 10
code_number bad_code = 11

-- What a call says.
pub record Answer : Type 0 where
  pub code : Code
  pub probes : ℕ
  pub slot : ℕ

-- an answer, and the lent numbers after it
pub record Outcome : Type 0 where
  pub answer : Answer
  pub after : Lent

abbrev pub outcome : Code → (probes slot : ℕ) → Lent → Outcome
outcome c n s m = record { answer = record { code = c; probes = n; slot = s }; after = m }

-- A refusal answers two zeros beside its code, and every lent number is as it was.
abbrev pub refused : Code → Lent → Outcome
refused c m = outcome c 0 0 m

-- ---- each refusal alone, on well-formed arrays; `done` where there is none

-- 8: there is no such kind of bound.
unfoldable pub kind_test : (kind : Option ℕ) → Code
kind_test none = done
kind_test (some kind) = choose (leb kind 2) (λ _. done) (λ _. bad_record)

-- 2: the position is past the last slot. 6: a node is needed and the position is 0. 4: nothing is linked there.
unfoldable pub position_test : (needed : Bool) → (position : Option ℕ) → Arrays → Code
position_test needed none a = done
position_test needed (some p) a =
    choose (ltb (capacity a) p) (λ _. bad_slot) λ _.
    choose (eqb p 0) (λ _. choose needed (λ _. null_cursor) (λ _. done)) λ _.
    choose (is_linked a p) (λ _. done) (λ _. not_linked)

-- 2: there is no such slot. 3: it is linked already.
unfoldable pub slot_test : (slot : Option ℕ) → Arrays → Code
slot_test none a = done
slot_test (some s) a =
    choose (eqb s 0) (λ _. bad_slot) λ _.
    choose (ltb (capacity a) s) (λ _. bad_slot) λ _.
    choose (is_linked a s) (λ _. already_linked) (λ _. done)

abbrev pub same_entry : Entry → Entry → Bool
same_entry (occupied x) (occupied y) = eqb x y
same_entry (occupied x) (vacant p d) = false
same_entry (vacant p d) (occupied y) = false
same_entry (vacant p d) (vacant q e) = choose (eqb p q) (λ _. same_side d e) (λ _. false)

-- 7: the entry is not the one that the key has now.
unfoldable pub stale_test : Entry → (key : ℕ) → Lent → Code
stale_test e k m = choose (same_entry e (entry_for (key_of m.arrays) k (tree_of m))) (λ _. done) (λ _. stale)

-- 5: with the key in its place the keys would no longer rise along the list.
unfoldable pub placed_test : Command → Lent → Code
placed_test c m = choose (keeps_order (key_of m.arrays) c (slots (tree_of m))) (λ _. done) (λ _. out_of_order)

-- Operations 1 and 2 look for a place where the key fits, so only 9, 10 and 11 can be out of order.
unfoldable pub order_test : Command → Lent → Code
order_test (insert s k) m = done
order_test (or_insert s k) m = done
order_test (find k) m = done
order_test (lower_bound b k) m = done
order_test (upper_bound b k) m = done
order_test (remove p) m = done
order_test (next p) m = done
order_test (prev p) m = done
order_test (insert_after p s k) m = placed_test (insert_after p s k) m
order_test (insert_before p s k) m = placed_test (insert_before p s k) m
order_test (replace_with p s k) m = placed_test (replace_with p s k) m
order_test clear m = done

-- ---- their order

abbrev pub is_done : Code → Bool
is_done c = eqb (code_number c) 0

-- the first test that doesn't say Done decides
unfoldable pub then_test : Code → (Unit {0} → Code) → Code
then_test c more = choose (is_done c) (λ _. more tt) (λ _. c)

-- The kind, the position, the new slot, the order: the first that fails is told. Operation 2 looks its entry up itself,
-- so that one is never stale.
unfoldable pub refusal : Command → Lent → Code
refusal c m =
    then_test (kind_test (fields_of c).kind) λ _.
    then_test (position_test (fields_of c).needs_node (fields_of c).position m.arrays) λ _.
    then_test (slot_test (fields_of c).slot m.arrays) λ _.
    order_test c m

-- or_insert with an entry at hand: the new slot, then whether the entry still holds.
unfoldable pub entry_refusal : Entry → (slot key : ℕ) → Lent → Code
entry_refusal e s k m = then_test (slot_test (some s) m.arrays) λ _. stale_test e k m

unfoldable pub unless_refused : Code → Lent → (Unit {0} → Outcome) → Outcome
unless_refused c m go = choose (is_done c) (λ _. go tt) (λ _. refused c m)
