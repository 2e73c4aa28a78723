-- Only one outcome keeps the promise of each exported function: its numbers, and every number that was lent.
use Prim.Native.Nat.{ℕ, ◌-◌, ◌≤◌}
use mathlib.Core.Path.{◌≡◌, sym, ap, ap₂, ◌∙◌}
use mathlib.Core.List.{List}
use native.Mathlib.Omega.{arith}
use lib.ListN.{length, drop, length-drop}
use lib.Seq.{length-take-le}
use Rattle.model.specs.Lent.{Lent}
use Rattle.model.specs.Answers.{Outcome}
use Rattle.model.specs.Operations.{Entered}
use Rattle.model.specs.Batch.{BatchOutcome}
use Rattle.model.specs.Codes.{Reading, drop_spaces, read_line}
use Rattle.exports.specs.declared.types.Reply.{Reply}
use Rattle.exports.specs.declared.types.Place.{Place}
use Rattle.exports.specs.declared.types.BatchReply.{BatchReply}
use Rattle.exports.specs.declared.types.LineKey.{LineKey}
use Rattle.exports.specs.declared.types.LinePart.{LinePart}
use Rattle.exports.specs.Told.{Told, BatchTold, LineTold, PartTold}
use Rattle.exports.specs.Places.{PlaceTold}

abbrev reply : ℕ → ℕ → ℕ → Reply
reply c p s = record { code = c; probes = p; slot = s }

abbrev batch_reply : ℕ → ℕ → BatchReply
batch_reply c n = record { code = c; count = n }

abbrev place : ℕ → ℕ → ℕ → ℕ → Place
place c o s l = record { code = c; occupied = o; slot = s; on_left = l }

abbrev line_key : ℕ → ℕ → LineKey
line_key c k = record { code = c; key = k }

abbrev line_part : ℕ → ℕ → LinePart
line_part s n = record { start = s; length = n }

-- a call: the answer and every lent number
pub call_one : (o : Outcome) (a b : Reply) (m n : Lent) → Told a m o → Told b n o → (a ≡ b) × (m ≡ n)
call_one o a b m n p q = (
  ap₂ (λ (c : ℕ) (n : ℕ). reply c n a.slot) (p.code ∙ sym q.code) (p.probes ∙ sym q.probes)
      ∙ ap (reply b.code b.probes) (p.slot ∙ sym q.slot),
  p.after ∙ sym q.after,
)

-- a batch: the answer, every byte of the buffer and every lent number
pub batch_one :
    (o : BatchOutcome) (a b : BatchReply) (x y : List ℕ) (m n : Lent) → BatchTold a x m o → BatchTold b y n o →
    (a ≡ b) × ((x ≡ y) × (m ≡ n))
batch_one o a b x y m n p q = (
  ap₂ batch_reply (p.code ∙ sym q.code) (p.count ∙ sym q.count),
  (p.bytes ∙ sym q.bytes, p.after ∙ sym q.after),
)

-- entry_for
pub entry_one : (e : Entered) (a b : Place) → PlaceTold a e → PlaceTold b e → a ≡ b
entry_one e a b p q =
    ap₂ (λ (c : ℕ) (o : ℕ). place c o a.slot a.on_left) (p.code ∙ sym q.code)
    (p.occupied ∙ sym q.occupied)
    ∙ ap₂ (place b.code b.occupied) (p.slot ∙ sym q.slot) (p.left ∙ sym q.left)

-- code_key
pub key_one : (r : Reading) (a b : LineKey) → LineTold a r → LineTold b r → a ≡ b
key_one r a b p q = ap₂ line_key (p.code ∙ sym q.code) (p.key ∙ sym q.key)

-- code_part: where it starts, too
module _ (l : List ℕ) where
  start_is : (a : LinePart) → PartTold a l → a.start ≡ length l - length (drop_spaces l)
  start_is a p =
      let n : length (drop_spaces l) ≡ length l - a.start = sym (ap length p.starts) ∙ length-drop a.start l in
      omega (arith, p.within, n)

  length_is : (a : LinePart) → PartTold a l → a.length ≡ length (read_line l).part
  length_is a p = sym (length-take-le a.length (drop a.start l) fits) ∙ ap length p.is
    where
      fits : a.length ≤ length (drop a.start l)
      fits = omega (arith, p.within, length-drop a.start l)

  pub part_one : (a b : LinePart) → PartTold a l → PartTold b l → a ≡ b
  part_one a b p q =
      ap₂ line_part (start_is a p ∙ sym (start_is b q)) (length_is a p ∙ sym (length_is b q))
