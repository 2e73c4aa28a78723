-- The records so far and those to come: what the loop over a batch keeps. Assumes nothing.
use Prim.Native.Nat.{ℕ, suc, ◌+◌, ◌*◌, ◌-◌, ◌≤◌, ◌<◌}
use native.Mathlib.Omega.{arith}
use native.Mathlib.Nat.{mul-suc}
use native.Mathlib.Numerals.{add-one}
use mathlib.Core.Path.{◌≡◌, refl, ap, sym, ◌∙◌}
use mathlib.Core.List.{List, [], ◌++◌, append_assoc, append-nil}
use lib.ListN.{length, drop, length-append}
use lib.Seq.{drop-drop}
use Rattle.model.specs.Limits.{record_size, answer_size}
use Rattle.model.specs.Lent.{Lent}
use Rattle.model.specs.WellFormed.{WellFormed}
use Rattle.model.specs.Answers.{Answer, Outcome}
use Rattle.model.specs.Operations.{operate}
use Rattle.model.specs.Batch.{command_of, obey, answer_bytes, Run, join_run, add_answer, run_records}
use Rattle.theory.proofs.Batches.{obey_well}
use Rattle.records.specs.Records.{record_in, ReadsRecord, laid, Lays}
use Rattle.records.specs.declared.types.Record.{Record}
use Rattle.records.proofs.Bytes.{laid_past}
use Rattle.records.proofs.Writing.{answer_length}
use Rattle.runs.specs.Runs.{record_at, AtPre, AnsweredAt, AllPre, Ran}

-- The answers of the records so far stand at the start of the buffer, and the run of all is theirs with the rest.
pub record Sofar (count index : ℕ) (input buffer₀ buffer : List ℕ) (m₀ m : Lent) : Type 0 where
  pub within : AllPre count input buffer m
  pub top : index ≤ count
  pub bytes : List ℕ
  pub size : length bytes ≡ answer_size * index
  pub laid : buffer ≡ bytes ++ drop (answer_size * index) buffer₀
  pub rest : run_records operate count input m₀
      ≡ join_run bytes (run_records operate (count - index) (drop (record_size * index) input) m)

-- the rest past one more of equally long pieces
next_drop : (size index : ℕ) (l : List ℕ) → drop (size * suc index) l ≡ drop size (drop (size * index) l)
next_drop size index l = ap (λ n. drop n l) (mul-suc size index) ∙ sym (drop-drop size (size * index) l)

join_join : (xs ys : List ℕ) (r : Run) → join_run xs (join_run ys r) ≡ join_run (xs ++ ys) r
unfolding join_run
join_join xs ys r = ap (λ zs. record { bytes = zs; after = r.after }) (sym (append_assoc xs ys r.bytes))

-- one record of a run
run_suc : (n index : ℕ) (input : List ℕ) (m : Lent)
    → run_records operate (suc n) (drop (record_size * index) input) m
    ≡ join_run (answer_bytes (record_at index input m).answer)
    (run_records operate n (drop (record_size * suc index) input) (record_at index input m).after)
unfolding run_records add_answer record_at
run_suc n index input m = rw (next_drop record_size index input) refl

pub all_start : {count : ℕ} {input buffer : List ℕ} {m : Lent} → AllPre count input buffer m
    → Sofar count 0 input buffer buffer m m
unfolding join_run
all_start {count} {input} {m = m} pre = record {
  within = pre;
  top = omega arith;
  bytes = [];
  size = refl;
  laid = refl;
  rest = let all : count ≡ count - 0 = omega arith in ap (λ n. join_run [] (run_records operate n input m)) all;
}

module _ {count index : ℕ} {input buffer₀ buffer : List ℕ} {m₀ m : Lent}
    (so : Sofar count index input buffer₀ buffer m₀ m) where
  -- what the next record asks for
  pub next_within : index < count → AtPre index input buffer m
  next_within more = record {
    well = so.within.well;
    small = omega (arith, so.within.small);
    inside = omega (arith, so.within.inside);
    room = omega (arith, so.within.room);
  }

  -- one record more
  module _ {buffer' : List ℕ} {m' : Lent} (done : AnsweredAt index input buffer buffer' m m') where
    abbrev answer : List ℕ
    answer = answer_bytes (record_at index input m).answer

    abbrev bytes' : List ℕ
    bytes' = so.bytes ++ answer

    longer : length bytes' ≡ answer_size * suc index
    longer = length-append so.bytes _ ∙ omega (arith, so.size, answer_length (record_at index input m).answer)

    well' : WellFormed m'
    unfolding record_at
    well' = rw done.after (obey_well so.within.well _)

    laid' : buffer' ≡ bytes' ++ drop (answer_size * suc index) buffer₀
    laid' = done.laid.is
        ∙ ap (laid (answer_size * index) answer_size answer) so.laid
        ∙ laid_past so.bytes (drop (answer_size * index) buffer₀) answer (answer_size * index) answer_size so.size
        ∙ sym (append_assoc so.bytes answer (drop answer_size (drop (answer_size * index) buffer₀)))
        ∙ ap (λ rest. bytes' ++ rest) (sym (next_drop answer_size index buffer₀))

    rest' : index < count → run_records operate count input m₀
        ≡ join_run bytes' (run_records operate (count - suc index) (drop (record_size * suc index) input) m')
    rest' more =
        let left : count - index ≡ suc (count - suc index) = omega arith in
        so.rest
        ∙ ap (λ n. join_run so.bytes (run_records operate n (drop (record_size * index) input) m)) left
        ∙ ap (join_run so.bytes) (run_suc (count - suc index) index input m)
        ∙ join_join so.bytes _ _
        ∙ ap (λ n. join_run bytes' (run_records operate (count - suc index) (drop (record_size * suc index) input) n))
        (sym done.after)

    pub one_more : index < count → Sofar count (index + 1) input buffer₀ buffer' m₀ m'
    one_more more = rw add-one record {
      within = record {
        well = well';
        small = so.within.small;
        inside = so.within.inside;
        room = omega (arith, so.within.room, done.laid.same);
      };
      top = omega arith;
      bytes = bytes';
      size = longer;
      laid = laid';
      rest = rest' more;
    }

  -- no record is left
  pub all_done : (count ≤ index) → Ran count input buffer₀ buffer m₀ m
  unfolding run_records join_run
  all_done over =
      let none_left : count - index ≡ 0 = omega arith in
      let ended : run_records operate count input m₀ ≡ record { bytes = so.bytes ++ []; after = m } =
      so.rest ∙ ap (λ n. join_run so.bytes (run_records operate n (drop (record_size * index) input) m)) none_left in
      let all : count ≡ index = omega (arith, so.top) in
      record {
        after = rw ended;
        laid = rw (ended, append-nil, all) so.laid;
      }

-- ---- the code

-- the record that was read, obeyed and answered is the one at the index
pub answered_at :
    (index : ℕ) {input buffer buffer' : List ℕ} {order : Record} {answer : Answer} {m m' : Lent} →
    ReadsRecord (record_size * index) input order →
    record { answer = answer; after = m' } ≡ obey operate (command_of (record_in order)) m →
    Lays (answer_size * index) answer_size (answer_bytes answer) buffer buffer' →
    AnsweredAt index input buffer buffer' m m'
unfolding record_at
answered_at index {input} {m = m} reads obeyed lays =
    let is : _ ≡ record_at index input m = obeyed ∙ ap (λ r. obey operate (command_of r) m) reads.is in
    record {
      after = ap (λ (o : Outcome). o.after) is;
      laid = rw (← ap (λ (o : Outcome). o.answer) is) lays;
    }
