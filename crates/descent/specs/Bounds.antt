-- The ends of a range in the model: a kind, and a key, which is 0 beside the kind without one.
use Rattle.std.specs.Prelude.{ℕ, zero, suc}
use Rattle.std.specs.declared.ops.Bound.{Bound}
use Rattle.std.specs.declared.ops.Bound.TheVariants.{Included, Excluded, Unbounded}
use Rattle.links.specs.declared.types.Key.{Key}

abbrev pub kind_of : Bound Key → ℕ
kind_of Unbounded = 0
kind_of (Included k) = 1
kind_of (Excluded k) = 2

abbrev pub key_in : Bound Key → ℕ
key_in Unbounded = 0
key_in (Included k) = k.0
key_in (Excluded k) = k.0

-- the bound that a kind and a key stand for
abbrev pub bound_of : (kind key : ℕ) → Bound Key
bound_of zero k = Unbounded
bound_of (suc zero) k = Included (record { 0 = k })
bound_of (suc (suc n)) k = Excluded (record { 0 = k })
