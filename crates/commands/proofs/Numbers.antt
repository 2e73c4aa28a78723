-- A record's command by its mark and by the number of its operation. Assumes nothing.
use Prim.Native.Nat.{ℕ, zero, suc, ◌≤◌, ◌<◌}
use native.Mathlib.Omega.{arith}
use lib.Dec.{leb}
use mathlib.Core.Path.{◌≡◌, refl, sym, ap, ◌∙◌}
use mathlib.Core.Logic.{◌≢◌}
use mathlib.Core.Option.{none, some}
use lib.ListN.{get_or, get_or-eq_default}
use borrow.Author.Tests.{eq-eqb, ne_eqb, leb-true, leb-false}
use Rattle.theory.proofs.Branch.{by-test}
use Rattle.std.proofs.Common.{Ok, Err}
use Rattle.model.specs.Lent.{Lent}
use Rattle.model.specs.Answers.{Outcome}
use Rattle.model.specs.Operations.{operate}
use Rattle.model.specs.Batch.{operations, command_of, obey}
use Rattle.links.specs.declared.types.Refusal.{Refusal}
use Rattle.links.specs.declared.types.Refusal.TheVariants.{BadRecord}
use Rattle.links.specs.Outcomes.{outcome_of}
use Rattle.records.specs.Records.{record_in}
use Rattle.records.specs.declared.types.Record.{Record}
use Rattle.commands.specs.declared.types.Command.{Command}
use Rattle.commands.specs.Commands.{told, Names}

-- ---- what a record is read as

module _ (order : Record) where
  -- the mark is none
  pub unmarked : order.mark ≢ 0x4E43 → Names order (Err BadRecord)
  unfolding command_of record_in
  unmarked e = record { is = rw (ne_eqb _ _ e); refusal_is = refl }

  module _ (marked : order.mark ≡ 0x4E43) where
    -- the number of the operation names its command
    pub numbered : (n : ℕ) (c : Command) → order.operation ≡ n
        → some (told c) ≡ get_or (operations (record_in order)) n none → Names order (Ok c)
    unfolding command_of record_in
    numbered n c e same = record {
      is = same ∙ ap (λ k. get_or (operations (record_in order)) k none) (sym e) ∙ sym (rw (eq-eqb _ _ marked) refl);
      refusal_is = tt;
    }

    -- there is no operation 0, and none past the last
    number_none : order.operation ≡ 0 → Names order (Err BadRecord)
    unfolding command_of record_in operations
    number_none e = record { is = rw (eq-eqb _ _ marked, e); refusal_is = refl }

    number_past : 12 < order.operation → Names order (Err BadRecord)
    unfolding command_of record_in operations
    number_past over = record {
      is = rw (eq-eqb _ _ marked, get_or-eq_default (operations (record_in order)) none over);
      refusal_is = refl;
    }

    pub number_other : ((n : ℕ) → 1 ≤ n → n ≤ 12 → order.operation ≡ n → ⊥) → Names order (Err BadRecord)
    number_other apart = go order.operation refl
      where
        go : (n : ℕ) → order.operation ≡ n → Names order (Err BadRecord)
        go zero e = number_none e
        go (suc n) e =
            by-test (leb (suc n) 12)
            (λ low. absurd (apart (suc n) (omega arith) (leb-true (suc n) 12 low) e))
            (λ high. number_past (omega (arith, e, leb-false (suc n) 12 high)))

-- ---- what one does

pub obeyed_none : (order : Record) (m : Lent) {why : Refusal} → Names order (Err why)
    → outcome_of (Err why) m ≡ obey operate (command_of (record_in order)) m
unfolding obey
obeyed_none order m names = rw (names.refusal_is, ← names.is)

pub obeyed_some : (order : Record) (m : Lent) {c : Command} {o : Outcome} → Names order (Ok c) → o ≡ operate (told c) m
    → o ≡ obey operate (command_of (record_in order)) m
unfolding obey
obeyed_some order m names same = rw (← names.is) same
