-- Reading full batches and a last shorter piece, and answering each as it comes, gives the answers that the program
-- gives to the whole input. Assumes nothing.
use Prim.Native.Nat.{ℕ, zero, suc, ◌*◌, ◌/◌, ◌%◌, ◌≤◌, ◌<◌}
use native.Mathlib.Omega.{arith}
use mathlib.Core.Path.{◌≡◌, refl, ap, ap₂, sym, ◌∙◌}
use mathlib.Core.Bool.{Bool, true, false}
use mathlib.Core.List.{List, [], ◌∷◌, ◌++◌, append-nil}
use lib.ListN.{length, take, drop, replicate, length-append, length-drop, length-replicate}
use lib.Seq.{length-take-le, take_at, drop_at, take_all, drop-length}
use lib.Dec.{ltb}
use borrow.Author.Tests.{eq-eqb, lt-ltb, le-ltb, ltb-true, ltb-false}
use Rattle.model.specs.Limits.{record_size, answer_size, batch_limit, program_capacity}
use Rattle.model.specs.Lent.{Lent, empty_lent}
use Rattle.model.specs.WellFormed.{WellFormed}
use Rattle.model.specs.Commands.{Command}
use Rattle.model.specs.Answers.{Outcome}
use Rattle.model.specs.Operations.{operate}
use Rattle.model.specs.Batch.{Run, join_run, add_answer, run_records, answer_bytes, record_of, command_of, obey}
use Rattle.model.specs.Batch.{BatchOutcome, batch, filled, records, bad_length_of, is_short}
use Rattle.model.specs.Batch.{tail_answer, batch_size, answer_room, join_batch, run_batches, program}
use Rattle.theory.proofs.Check.{check_complete}
use Rattle.theory.proofs.Batches.{run_well}
use Rattle.theory.proofs.Empty.{empty_well}
use Rattle.serving.proofs.Answering.{tail_none}
use Rattle.serving.specs.Serving.{whole_batch, answered, replies, joined, Full}

-- ---- one batch

-- each record has an answer of six bytes
run_length : (call : Command → Lent → Outcome) (n : ℕ) (input : List ℕ) (m : Lent)
    → length (run_records call n input m).bytes ≡ answer_size * n
unfolding run_records add_answer join_run answer_bytes
run_length call zero input m = refl
run_length call (suc n) input m =
    let o = obey call (command_of (record_of (take record_size input))) m in
    omega (arith, run_length call n (drop record_size input) o.after)

-- so many whole records from the start of the input
module _ (count : ℕ) (input : List ℕ) {m : Lent} (well : WellFormed m)
    (inside : record_size * count ≤ length input) (small : record_size * count ≤ batch_limit) where
  abbrev run : Run
  run = run_records operate count (take (record_size * count) input) m

  long : length (take (record_size * count) input) ≡ record_size * count
  long = length-take-le (record_size * count) input inside

  -- a batch of them is their run
  batch_runs : (buffer : List ℕ) → answer_size * count ≤ length buffer
      → batch (take (record_size * count) input) buffer m ≡ filled count run buffer
  unfolding batch bad_length_of is_short records
  batch_runs buffer room =
      let counted : length (take (record_size * count) input) / record_size ≡ count = omega (arith, long) in
      let whole : length (take (record_size * count) input) % record_size ≡ 0 = omega (arith, long) in
      let top : length (take (record_size * count) input) ≤ batch_limit = omega (arith, long) in
      rw (eq-eqb _ _ whole, le-ltb _ _ top, counted, le-ltb _ _ room, check_complete m well)

  -- whatever the buffer, its answers are those of the run
  batch_answered : (buffer : List ℕ) → answer_size * count ≤ length buffer
      → answered (batch (take (record_size * count) input) buffer m) ≡ run.bytes
  unfolding answered filled
  batch_answered buffer room =
      ap (λ (o : BatchOutcome). take (answer_size * o.count) o.buffer) (batch_runs buffer room)
      ∙ take_at run.bytes (drop (answer_size * count) buffer) (answer_size * count) (run_length operate count _ m)

  batch_after : (buffer : List ℕ) → answer_size * count ≤ length buffer
      → (batch (take (record_size * count) input) buffer m).after ≡ run.after
  unfolding filled
  batch_after buffer room = ap (λ (o : BatchOutcome). o.after) (batch_runs buffer room)

  -- with room for them and no more the buffer is their answers
  batch_exact : (batch (take (record_size * count) input) (replicate (answer_size * count) 0) m).buffer ≡ run.bytes
  unfolding filled
  batch_exact =
      let size = length-replicate {A = ℕ} (answer_size * count) 0 in
      ap (λ (o : BatchOutcome). o.buffer) (batch_runs (replicate (answer_size * count) 0) (omega (arith, size)))
      ∙ ap (λ rest. run.bytes ++ rest)
      (ap (λ n. drop n (replicate (answer_size * count) 0)) (sym size)
      ∙ drop-length (replicate (answer_size * count) 0))
      ∙ append-nil run.bytes

-- ---- one turn of the program

module _ (input : List ℕ) (m : Lent) where
  turn_last : (n : ℕ) → length input < record_size → run_batches (suc n) input m ≡ tail_answer input
  unfolding run_batches
  turn_last n less = rw (lt-ltb _ _ less)

  -- a turn takes a number of records, those of a batch or all that are left
  module _ (count : ℕ) (size : batch_size input ≡ record_size * count) (some : record_size ≤ length input) where
    turn_on : (n : ℕ) → run_batches (suc n) input m
        ≡ join_batch (batch (take (record_size * count) input) (replicate (answer_size * count) 0) m)
        (λ m'. run_batches n (drop (record_size * count) input) m')
    unfolding run_batches answer_room
    turn_on n =
        let room : answer_size * (record_size * count / record_size) ≡ answer_size * count = omega arith in
        rw (le-ltb _ _ some, size, room)

    -- where it is well it answers them, and the next turn goes on behind them
    turn_run : WellFormed m → record_size * count ≤ length input → record_size * count ≤ batch_limit → (n : ℕ)
        → run_batches (suc n) input m
        ≡ (run_records operate count (take (record_size * count) input) m).bytes
        ++ run_batches n (drop (record_size * count) input)
        (run_records operate count (take (record_size * count) input) m).after
    unfolding join_batch
    turn_run well inside small n = turn_on n ∙ ap₂ ◌++◌ (batch_exact count input well inside small)
        (ap (run_batches n (drop (record_size * count) input))
        (batch_after count input well inside small (replicate (answer_size * count) 0)
        (omega (arith, length-replicate {A = ℕ} (answer_size * count) 0))))

size_all : (input : List ℕ) → length input ≤ batch_limit → batch_size input ≡ record_size * records input
unfolding batch_size
size_all input top = rw (le-ltb _ _ top)

size_full : (input : List ℕ) → batch_limit ≤ length input → batch_size input ≡ record_size * (batch_limit / record_size)
unfolding batch_size records
size_full input over = go (ltb batch_limit (length input)) refl
  where
    go : (b : Bool) → ltb batch_limit (length input) ≡ b → batch_size input ≡ record_size * (batch_limit / record_size)
    go true e = rw e
    go false e = rw e (omega (arith, ltb-false batch_limit (length input) e))

-- what is left is answered by its length alone
tail_same : (one other : List ℕ) → length one % record_size ≡ length other % record_size
    → tail_answer one ≡ tail_answer other
unfolding tail_answer
tail_same one other same = rw same

-- a full piece has records of its own
fewer_records : (piece rest : List ℕ) (n : ℕ) → length piece ≡ batch_limit → records (piece ++ rest) < suc n
    → records rest < n
unfolding records
fewer_records piece rest n full turns = omega (arith, full, length-append piece rest)

-- ---- pieces

abbrev room : ℕ
room = answer_size * (batch_limit / record_size)

module _ (buffer : List ℕ) (enough : room ≤ length buffer) where
  -- one piece: its whole records, and what is left of it
  module _ (piece : List ℕ) {m : Lent} (well : WellFormed m) (top : length piece ≤ batch_limit) where
    abbrev piece_run : Run
    piece_run = run_records operate (records piece) (take (record_size * records piece) piece) m

    inside : record_size * records piece ≤ length piece
    unfolding records
    inside = omega arith

    fits : answer_size * records piece ≤ length buffer
    unfolding records
    fits = omega arith

    piece_answered : answered (whole_batch piece buffer m) ≡ piece_run.bytes
    unfolding whole_batch
    piece_answered = batch_answered (records piece) piece well inside (omega (arith, inside)) buffer fits

    piece_after : (whole_batch piece buffer m).after ≡ piece_run.after
    unfolding whole_batch
    piece_after = batch_after (records piece) piece well inside (omega (arith, inside)) buffer fits

    piece_well : WellFormed (whole_batch piece buffer m).after
    piece_well = rw piece_after (run_well (records piece) _ well)

    -- the last piece: one turn for its whole records, if there are any, and one for what is left
    last_small : length piece < record_size → piece_run.bytes ≡ []
    unfolding run_records records
    last_small less =
        let none_there : length piece / record_size ≡ 0 = omega arith in
        ap (λ n. (run_records operate n (take (record_size * n) piece) m).bytes) none_there

    last_turns : (n : ℕ) → records piece < n → piece_run.bytes ++ tail_answer piece ≡ run_batches n piece m
    unfolding records
    last_turns zero turns = absurd (omega arith)
    last_turns (suc n) turns = go (ltb (length piece) record_size) refl n turns
      where
        over : (n : ℕ) → record_size ≤ length piece → records piece < suc n
            → piece_run.bytes ++ tail_answer piece ≡ run_batches (suc n) piece m
        over zero some turns = absurd (omega arith)
        over (suc n) some turns =
            let left : length (drop (record_size * records piece) piece) ≡ length piece % record_size =
            length-drop (record_size * records piece) piece ∙ omega arith in
            ap (λ rest. piece_run.bytes ++ rest)
            (tail_same piece (drop (record_size * records piece) piece) (omega (arith, left))
            ∙ sym (turn_last (drop (record_size * records piece) piece) piece_run.after n (omega (arith, left))))
            ∙ sym
            (turn_run piece m (records piece) (size_all piece top) some well inside (omega (arith, inside)) (suc n))

        go : (b : Bool) → ltb (length piece) record_size ≡ b → (n : ℕ) → records piece < suc n
            → piece_run.bytes ++ tail_answer piece ≡ run_batches (suc n) piece m
        go true e n turns =
            let less = ltb-true (length piece) record_size e in
            ap (λ front. front ++ tail_answer piece) (last_small less) ∙ sym (turn_last piece m n less)
        go false e n turns = over n (ltb-false (length piece) record_size e) turns

  -- a full piece: one turn, with nothing left of it
  module _ (piece rest : List ℕ) {m : Lent} (well : WellFormed m) (full : length piece ≡ batch_limit) where
    abbrev all : ℕ
    all = batch_limit / record_size

    full_run : run_records operate (records piece) (take (record_size * records piece) piece) m
        ≡ run_records operate all (take (record_size * all) (piece ++ rest)) m
    unfolding records
    full_run =
        let counted : length piece / record_size ≡ all = omega (arith, full) in
        ap₂ (λ n l. run_records operate n l m) counted
        (ap (λ n. take (record_size * n) piece) counted ∙ take_all batch_limit piece (omega (arith, full))
        ∙ sym (take_at piece rest batch_limit full))

    full_turn : (n : ℕ) → answered (whole_batch piece buffer m) ++ run_batches n rest (whole_batch piece buffer m).after
        ≡ run_batches (suc n) (piece ++ rest) m
    full_turn n =
        let over : batch_limit ≤ length (piece ++ rest) = omega (arith, full, length-append piece rest) in
        let top : length piece ≤ batch_limit = omega (arith, full) in
        ap₂ (λ (front : List ℕ) (m' : Lent). front ++ run_batches n rest m')
        (piece_answered piece well top ∙ ap (λ (r : Run). r.bytes) full_run)
        (piece_after piece well top ∙ ap (λ (r : Run). r.after) full_run)
        ∙ ap (λ l. (run_records operate all (take (record_size * all) (piece ++ rest)) m).bytes
        ++ run_batches n l (run_records operate all (take (record_size * all) (piece ++ rest)) m).after)
        (sym (drop_at piece rest batch_limit full))
        ∙ sym (turn_run (piece ++ rest) m all (size_full (piece ++ rest) over) (omega arith) well over (omega arith) n)

    nothing_left : answered (whole_batch piece buffer m) ++ tail_answer piece ≡ answered (whole_batch piece buffer m)
    nothing_left =
        let whole : length piece % record_size ≡ 0 = omega (arith, full) in
        ap (λ rest. answered (whole_batch piece buffer m) ++ rest) (tail_none piece whole) ∙ append-nil _

  -- full pieces and the last one
  pub pieces_turns : (n : ℕ) (pieces : List (List ℕ)) (last : List ℕ) {m : Lent} → WellFormed m → Full pieces
      → length last ≤ batch_limit → records (joined pieces last) < n
      → replies buffer (pieces ++ last ∷ []) m ≡ run_batches n (joined pieces last) m
  pieces_turns n [] last {m} well full top turns =
      append-nil _ ∙ ap (λ front. front ++ tail_answer last) (piece_answered last well top)
      ∙ last_turns last well top n turns
  pieces_turns zero (p ∷ ps) last well full top turns = absurd (omega arith)
  pieces_turns (suc n) (p ∷ ps) last {m} well full top turns =
      let fewer : records (joined ps last) < n = fewer_records p (joined ps last) n full.0 turns in
      ap₂ ◌++◌ (nothing_left p (joined ps last) well full.0)
      (pieces_turns n ps last (piece_well p well (omega (arith, full.0))) full.1 top fewer)
      ∙ full_turn p (joined ps last) well full.0 n

  pub program_pieces : (pieces : List (List ℕ)) (last : List ℕ) → Full pieces → length last ≤ batch_limit
      → replies buffer (pieces ++ last ∷ []) (empty_lent program_capacity) ≡ program (joined pieces last)
  unfolding program
  program_pieces pieces last full top =
      pieces_turns (suc (records (joined pieces last))) pieces last (empty_well program_capacity (omega arith)) full top
      (omega arith)
