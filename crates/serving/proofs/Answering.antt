-- The bytes of the whole records, and the answer for what is left. Assumes nothing.
use Prim.Native.Nat.{ℕ, ◌+◌, ◌*◌, ◌-◌, ◌/◌, ◌%◌, ◌≤◌}
use native.Mathlib.Omega.{arith}
use mathlib.Core.Path.{◌≡◌, refl, ap, sym, ◌∙◌}
use mathlib.Core.Logic.{◌≢◌}
use mathlib.Core.Bool.{Bool, true, false}
use mathlib.Core.List.{List, [], ◌++◌, append_assoc, append-nil}
use Rattle.std.proofs.Common.{Result, Err}
use Rattle.std.specs.Result.{result_unwrap_or}
use lib.ListN.{length, take, drop, length-append}
use lib.Seq.{length-take-le, take_at}
use borrow.Author.Tests.{eq-eqb, ne_eqb}
use Rattle.model.specs.Limits.{record_size, answer_size}
use Rattle.model.specs.Lent.{Lent}
use Rattle.model.specs.Check.{check}
use Rattle.model.specs.Batch.{BatchOutcome, batch, records, filled, bad_length_of, is_short, answer_bytes, tail_answer}
use Rattle.links.specs.declared.types.Refusal.{Refusal}
use Rattle.links.specs.declared.types.Refusal.TheVariants.{BadRecord}
use Rattle.links.specs.Outcomes.{verdict, told}
use Rattle.batch.specs.Batched.{batch_told}
use Rattle.records.specs.Records.{Lays}
use Rattle.records.proofs.Writing.{answer_length}
use Rattle.serving.specs.Serving.{RespondPre, whole_batch, answered, Responded}

-- A batch has no more answers than records.
batch_count : (input buffer : List ℕ) (m : Lent) → (batch input buffer m).count ≤ records input
unfolding batch filled
batch_count input buffer m = go (bad_length_of input) refl (is_short input buffer) refl (check m) refl
  where
    go : (a : Bool) → bad_length_of input ≡ a → (b : Bool) → is_short input buffer ≡ b → (c : Bool) → check m ≡ c
        → (batch input buffer m).count ≤ records input
    go true e b f c g = rw e (omega arith)
    go false e true f c g = rw (e, f) (omega arith)
    go false e false f true g = rw (e, f, g) (omega arith)
    go false e false f false g = rw (e, f, g) (omega arith)

-- Values that were laid stand behind what was there before them.
laid_front : (at size : ℕ) {values before after : List ℕ} → Lays at size values before after
    → length values ≡ size → at ≤ length before → take (at + size) after ≡ take at before ++ values
laid_front at size {values} {before} lays long inside =
    ap (take (at + size)) (lays.is ∙ sym (append_assoc (take at before) values (drop (at + size) before)))
    ∙ take_at (take at before ++ values) (drop (at + size) before) (at + size)
    (length-append (take at before) values ∙ omega (arith, length-take-le at before inside))

-- what is left of the input is empty, or is answered as a bad record
pub tail_none : (input : List ℕ) → length input % record_size ≡ 0 → tail_answer input ≡ []
unfolding tail_answer
tail_none input e = rw (eq-eqb _ _ e)

tail_some : (input : List ℕ) → length input % record_size ≢ 0
    → tail_answer input ≡ answer_bytes (told (Err BadRecord))
unfolding tail_answer
tail_some input e = rw (ne_eqb _ _ e)

-- The batch was asked for the whole records alone; one that is refused has no answers.
module _ {input piece buffer middle : List ℕ} (m : Lent) {m' : Lent} (batched : Result ℕ Refusal) {count : ℕ}
    (pre : RespondPre input buffer) (same : length middle ≡ length buffer)
    (front : piece ≡ take (length input - length input % record_size) input)
    (counted : count ≡ result_unwrap_or batched 0) (told-it : batch_told batched middle m' ≡ batch piece buffer m) where
  whole : length input - length input % record_size ≡ record_size * (length input / record_size)
  whole = omega arith

  whole_is : record { code = verdict batched; count = count; buffer = middle; after = m' } ≡ whole_batch input buffer m
  unfolding whole_batch records
  whole_is = rw (counted, ← whole, ← front) told-it

  few : count ≤ length input / record_size
  unfolding records
  few =
      let size = length input - length input % record_size in
      let long : length piece ≡ size = ap length front ∙ length-take-le size input (omega arith) in
      omega (arith, long, counted, ap (λ (o : BatchOutcome). o.count) told-it, batch_count piece buffer m)

  answers_are : take (answer_size * count) middle ≡ answered (whole_batch input buffer m)
  unfolding answered
  answers_are = ap (λ (o : BatchOutcome). take (answer_size * o.count) o.buffer) whole_is

  within : answer_size * count ≤ length middle
  within = omega (arith, few, pre.top, pre.room, same)

  -- no record is cut off
  pub responded_whole : length input % record_size ≡ 0 → Responded input buffer middle m m' (answer_size * count)
  responded_whole none_left = record {
    bytes = answers_are ∙ sym (append-nil _) ∙ ap (λ rest. answered (whole_batch input buffer m) ++ rest)
        (sym (tail_none input none_left));
    after = ap (λ (o : BatchOutcome). o.after) whole_is;
    top = within;
  }

  module _ (cut : length input % record_size ≢ 0) where
    -- there is room for one answer more
    pub room_for_tail : answer_size * count + answer_size ≤ length middle
    room_for_tail = omega (arith, few, pre.top, pre.room, same, cut)

    pub responded_cut : {buffer' : List ℕ}
        → Lays (answer_size * count) answer_size (answer_bytes (told (Err BadRecord))) middle buffer'
        → Responded input buffer buffer' m m' (answer_size * count + answer_size)
    responded_cut lays = record {
      bytes = laid_front (answer_size * count) answer_size lays (answer_length (told (Err BadRecord))) within
          ∙ ap (λ bytes. bytes ++ answer_bytes (told (Err BadRecord))) answers_are
          ∙ ap (λ rest. answered (whole_batch input buffer m) ++ rest) (sym (tail_some input cut));
      after = ap (λ (o : BatchOutcome). o.after) whole_is;
      top = omega (arith, room_for_tail, lays.same);
    }
