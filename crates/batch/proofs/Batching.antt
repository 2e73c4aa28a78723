-- The batch call by its three tests, and by the run of its records. Assumes nothing.
use Prim.Native.Nat.{ℕ, ◌*◌, ◌/◌, ◌%◌, ◌≤◌, ◌<◌}
use native.Mathlib.Omega.{arith}
use mathlib.Core.Path.{◌≡◌, ap, sym, ◌∙◌}
use mathlib.Core.Logic.{◌≢◌, ◌⊎◌, inl, inr}
use mathlib.Core.Bool.{true, false, or-true}
use mathlib.Core.List.{List}
use Rattle.std.proofs.Common.{Ok, Err}
use lib.ListN.{length}
use borrow.Author.Tests.{eq-eqb, ne_eqb, lt-ltb, le-ltb}
use Rattle.model.specs.Limits.{record_size, answer_size, batch_limit}
use Rattle.model.specs.Lent.{Lent}
use Rattle.model.specs.Check.{check}
use Rattle.model.specs.Answers.{bad_length, short}
use Rattle.model.specs.Batch.{refused_batch, records, filled, bad_length_of, is_short, batch}
use Rattle.theory.proofs.Check.{check_sound}
use Rattle.links.specs.declared.types.Refusal.{Refusal}
use Rattle.links.specs.declared.types.Refusal.TheVariants.{Damaged}
use Rattle.links.specs.declared.types.Sound.{Sound}
use Rattle.links.specs.Bundles.{viewed}
use Rattle.runs.specs.Runs.{AllPre, Ran}
use Rattle.batch.specs.Batched.{batch_told}

module _ (input buffer : List ℕ) (m : Lent) where
  -- 9
  pub batch_length : (length input % record_size ≢ 0) ⊎ (batch_limit < length input)
      → refused_batch bad_length buffer m ≡ batch input buffer m
  unfolding batch bad_length_of
  batch_length (inl ragged) = rw (ne_eqb _ _ ragged)
  batch_length (inr long) = rw (lt-ltb _ _ long, or-true)

  module _ (whole : length input % record_size ≡ 0) (fits : length input ≤ batch_limit) where
    right_length : bad_length_of input ≡ false
    unfolding bad_length_of
    right_length = rw (eq-eqb _ _ whole, le-ltb _ _ fits)

    -- 10
    pub batch_short : length buffer < answer_size * (length input / record_size)
        → refused_batch short buffer m ≡ batch input buffer m
    unfolding batch is_short records
    batch_short less = rw (right_length, lt-ltb _ _ less)

    module _ (room : answer_size * (length input / record_size) ≤ length buffer) where
      enough : is_short input buffer ≡ false
      unfolding is_short records
      enough = le-ltb _ _ room

      -- 1
      pub batch_damaged : {why : Refusal} → (why ≡ Damaged) × (check m ≡ false)
          → batch_told (Err why) buffer m ≡ batch input buffer m
      unfolding batch
      batch_damaged is = rw (right_length, enough, is.0, is.1)

      -- the records
      module _ (s : Sound) (same : viewed s.view ≡ m) where
        passed : check m ≡ true
        passed = sym (ap check same) ∙ s.shaped

        pub batch_within : AllPre (length input / record_size) input buffer m
        batch_within = record {
          well = check_sound m passed;
          small = omega arith;
          inside = omega arith;
          room = room;
        }

        pub batch_done : {buffer' : List ℕ} {m' : Lent} → Ran (length input / record_size) input buffer buffer' m m'
            → batch_told (Ok (length input / record_size)) buffer' m' ≡ batch input buffer m
        unfolding batch filled records
        batch_done ran = rw (right_length, enough, passed, ran.after, ran.laid)
