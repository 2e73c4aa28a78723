-- What is behind the references of a view.
use Rattle.std.specs.Prelude.{ℕ, List}
use Rattle.model.specs.Lent.{Arrays, arrays_of}
use Rattle.links.specs.declared.types.View.{View}

-- what is said of its arrays
abbrev pub Seen {ℓ} : {A : Type ℓ} → (List ℕ → List ℕ → List ℕ → List ℕ → A) → View → A
Seen f v = f v.left.now v.right.now v.pc.now v.key.now

abbrev pub arrays_in : View → Arrays
arrays_in v = arrays_of v.left.now v.right.now v.pc.now v.key.now
