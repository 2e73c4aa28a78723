-- Laws of bytes in a list: a field of one byte is that byte, a field of a part is a field of the whole, and values laid
-- right past a run leave the run. Assumes nothing.
use Prim.Native.Nat.{ℕ, zero, suc, ◌+◌, ◌≤◌, ◌<◌}
use mathlib.Core.Path.{◌≡◌, refl}
use mathlib.Core.List.{List, [], ◌∷◌, ◌++◌}
use native.Mathlib.Omega.{arith}
use lib.ListN.{length, get_or, take, drop}
use lib.Seq.{drop-cons, take-take, drop-drop, take-append_seam, drop-append-add}
use Rattle.model.specs.Batch.{field}
use Rattle.records.specs.Records.{laid}

-- A field of one byte is that byte.
pub field_one : (at : ℕ) (bytes : List ℕ) → at < length bytes → field at 1 bytes ≡ get_or bytes at 0
unfolding field
field_one at bytes inside = rw (drop-cons bytes at 0) (omega arith)

-- A part within the first `size` elements is the same part of the whole.
pub part_within :
    {A : Type 0} (from count size : ℕ) (l : List A) →
    from + count ≤ size → take count (drop from (take size l)) ≡ take count (drop from l)
part_within zero count size l fits = take-take count size l (omega arith)
part_within (suc from) count zero l fits = absurd (omega arith)
part_within (suc from) count (suc size) [] fits = refl
part_within (suc from) count (suc size) (x ∷ l) fits = part_within from count size l (omega arith)

-- A field of a part is a field of the whole.
pub field_within :
    (at from count size : ℕ) (bytes : List ℕ) →
    from + count ≤ size → field from count (take size (drop at bytes)) ≡ field (at + from) count bytes
unfolding field
field_within at from count size bytes fits = rw (part_within from count size (drop at bytes), drop-drop)

-- Values laid right past a run leave it, and go over what follows it.
pub laid_past :
    (run l values : List ℕ) (at size : ℕ) →
    length run ≡ at → laid at size values (run ++ l) ≡ run ++ (values ++ drop size l)
laid_past run l values at size here = rw (← here, take-append_seam, drop-append-add)
