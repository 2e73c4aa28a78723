-- Reading: numbers joined from bytes side by side are fields, and six fields where they stand in a record are that
-- record. Assumes nothing.
use Prim.Native.Nat.{ℕ, ◌+◌, ◌^◌, ◌≤◌, ◌<◌}
use mathlib.Core.Path.{◌≡◌, ◌∙◌}
use mathlib.Core.List.{List, [], ◌∷◌}
use native.Mathlib.Nat.{add-zero}
use native.Mathlib.Omega.{arith}
use lib.Dec.{lit≤}
use lib.ListN.{length, get_or, take, drop, length-drop}
use Rattle.std.proofs.Common.{w16, w64}
use Rattle.std.proofs.lemmas.List.{get_or-drop}
use Rattle.std.specs.Int.{from_le_bytes}
use Rattle.model.specs.Batch.{record_of, number, field}
use Rattle.records.specs.Records.{ReadsField, ReadsRecord, record_in}
use Rattle.records.specs.declared.types.Record.{Record}
use Rattle.records.proofs.Bytes.{field_one, field_within}

-- the lowest byte first, as many as two and eight
two_bytes : (l : List ℕ) → 2 ≤ length l → from_le_bytes w16 (get_or l 0 0 ∷ get_or l 1 0 ∷ []) ≡ number (take 2 l)
two_bytes [] e = absurd (omega (arith, e))
two_bytes (a ∷ []) e = absurd (omega (arith, e))
two_bytes (a ∷ b ∷ l) e = omega arith

eight_bytes : (l : List ℕ) → 8 ≤ length l
    → from_le_bytes w64 (
    get_or l 0 0 ∷ get_or l 1 0 ∷ get_or l 2 0 ∷ get_or l 3 0 ∷
    get_or l 4 0 ∷ get_or l 5 0 ∷ get_or l 6 0 ∷ get_or l 7 0 ∷ [])
    ≡ number (take 8 l)
eight_bytes [] e = absurd (omega (arith, e))
eight_bytes (a ∷ []) e = absurd (omega (arith, e))
eight_bytes (a ∷ b ∷ []) e = absurd (omega (arith, e))
eight_bytes (a ∷ b ∷ c ∷ []) e = absurd (omega (arith, e))
eight_bytes (a ∷ b ∷ c ∷ d ∷ []) e = absurd (omega (arith, e))
eight_bytes (a ∷ b ∷ c ∷ d ∷ x ∷ []) e = absurd (omega (arith, e))
eight_bytes (a ∷ b ∷ c ∷ d ∷ x ∷ y ∷ []) e = absurd (omega (arith, e))
eight_bytes (a ∷ b ∷ c ∷ d ∷ x ∷ y ∷ z ∷ []) e = absurd (omega (arith, e))
eight_bytes (a ∷ b ∷ c ∷ d ∷ x ∷ y ∷ z ∷ w ∷ l) e = omega arith

module _ (at : ℕ) (bytes : List ℕ) where
  held : (size : ℕ) → at + size ≤ length bytes → size ≤ length (drop at bytes)
  held size inside = rw length-drop (omega (arith, inside))

  pub half_read : {n : ℕ} → at + 2 ≤ length bytes → n < 256 ^ 2
      → n ≡ from_le_bytes w16 (get_or bytes at 0 ∷ get_or bytes (at + 1) 0 ∷ []) → ReadsField at 2 bytes n
  unfolding field
  half_read inside small e = record {
    is =
        e ∙ rw (← two_bytes (drop at bytes) (held 2 inside)) (simp (get_or-drop, add-zero));
    below = small;
  }

  pub long_read : {n : ℕ} → at + 8 ≤ length bytes → n < 256 ^ 8
      → n ≡ from_le_bytes w64 (
      get_or bytes at 0 ∷ get_or bytes (at + 1) 0 ∷ get_or bytes (at + 2) 0 ∷ get_or bytes (at + 3) 0 ∷
      get_or bytes (at + 4) 0 ∷ get_or bytes (at + 5) 0 ∷ get_or bytes (at + 6) 0 ∷ get_or bytes (at + 7) 0 ∷ [])
      → ReadsField at 8 bytes n
  unfolding field
  long_read inside small e = record {
    is =
        e ∙ rw (← eight_bytes (drop at bytes) (held 8 inside)) (simp (get_or-drop, add-zero));
    below = small;
  }

module _ {at : ℕ} {bytes : List ℕ} where
  -- One element below 256 is a field of one byte.
  pub byte_read : {n : ℕ} → at < length bytes → n ≡ get_or bytes at 0 → n < 256 → ReadsField at 1 bytes n
  byte_read inside e small = record { is = rw (field_one at bytes inside) e; below = small }

  -- Six fields where they stand in a record are that record.
  pub record_read :
      (r : Record) →
      ReadsField at 2 bytes r.mark →
      ReadsField (at + 2) 1 bytes r.operation →
      ReadsField (at + 3) 1 bytes r.kind →
      ReadsField (at + 4) 2 bytes r.position.0 →
      ReadsField (at + 6) 2 bytes r.slot.0 →
      ReadsField (at + 8) 8 bytes r.key.0 →
      ReadsRecord at bytes r
  unfolding record_in record_of
  record_read r mark operation kind position slot key = record {
    is =
        rw (mark.is, operation.is, kind.is, position.is, slot.is, key.is)
        (simp (field_within at, lit≤, tt {0}, add-zero));
    mark = mark.below;
    operation = operation.below;
    kind = kind.below;
    position = position.below;
    slot = slot.below;
    key = key.below;
  }
