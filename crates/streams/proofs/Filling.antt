-- What a read into the rest of a buffer does to the part that is filled.
use Rattle.std.proofs.Common.{◌≡◌, ℕ, ◌+◌, ◌-◌, ◌≤◌, List, ◌++◌, arith, length, take, drop, sym, ap, ◌∙◌, subst}
use Rattle.std.proofs.Common.{length-append, length-drop, length-take-le, take_all}
use Rattle.std.proofs.lemmas.List.{take-append-le}
use Rattle.std.proofs.KnownBytes.{Consumes-trans}
use Rattle.std.proofs.Math.Seq.{take-append-add}
use Rattle.std.specs.Prelude.{Option}
use Rattle.std.specs.Io.KnownBytes.{Consumes}
use borrow.Rule.Slice.PartMut.{put_mid}

module _ (from : ℕ) (buffer got : List ℕ) where
  abbrev room : ℕ
  room = length buffer - from

  abbrev rest : List ℕ
  rest = drop room (drop from buffer)

  -- the buffer after the read
  abbrev pub after : List ℕ
  after = put_mid from room buffer got

  module _ (within : from ≤ length buffer) (same : length got ≡ length (take room (drop from buffer))) where
    front : length (take from buffer) ≡ from
    front = length-take-le from buffer within

    size : length got ≡ room
    size =
        same ∙ ap length (take_all room (drop from buffer) (omega (arith, length-drop from buffer)))
        ∙ length-drop from buffer

    same_length : length after ≡ length buffer
    same_length =
        omega (
          arith,
          front,
          size,
          length-append (take from buffer) (got ++ rest),
          length-append got rest,
          length-drop room (drop from buffer),
          length-drop from buffer,
        )

    joined : (n : ℕ) → n ≤ length got → take (from + n) after ≡ take from buffer ++ take n got
    joined n fits =
        let count : from + n ≡ length (take from buffer) + n = omega (arith, front) in
        ap (λ k. take k after) count ∙ take-append-add (take from buffer) (got ++ rest) n
        ∙ ap (λ l. take from buffer ++ l) (take-append-le n got rest fits)

    -- the bytes that came stand behind those that were there
    pub filled : (before mid end : Option (List ℕ)) → Consumes before mid (take from buffer) → (n : ℕ) → n ≤ length got
        → Consumes mid end (take n got) → (from + n ≤ length after) × Consumes before end (take (from + n) after)
    filled before mid end had n fits gave = (
      omega (arith, same_length, size),
      subst (Consumes before end) (sym (joined n fits)) (Consumes-trans before mid end _ _ had gave),
    )
