-- What is behind the references of a bundle: as a function is handed it, and as it leaves it. At the exit of a function
-- a bundle is the tuple of its references.
use Rattle.std.specs.Prelude.{ℕ, List, length, ◌≡◌, Result}
use Rattle.std.specs.Borrow.{MutBor}
use Rattle.model.specs.Lent as model
use Rattle.theory.specs.Links as theory
use Rattle.theory.specs.Links.{links}
use Rattle.theory.specs.Places as places
use Rattle.model.specs.Tree.{Side}
use Rattle.model.specs.Answers.{Outcome}
use Rattle.links.specs.Outcomes.{outcome_of}
use Rattle.links.specs.declared.types.Done.{Done}
use Rattle.links.specs.declared.types.Refusal.{Refusal}
use Rattle.links.specs.declared.types.Links.{Links}
use Rattle.links.specs.declared.types.Lent.{Lent}
use Rattle.links.specs.declared.types.Nodes.{Nodes}
use Rattle.links.specs.declared.types.View.{View}

-- ---- links

-- the references of links at an exit
abbrev pub LinksLeft : Type 0
LinksLeft = MutBor (List ℕ) × (MutBor (List ℕ) × (MutBor (List ℕ) × (MutBor ℕ × Unit {0})))

-- near as left
abbrev pub links_in : Links → theory.Links
links_in k = links k.0.now k.1.now k.2.now k.3.now

-- near as right
abbrev pub turned_in : Links → theory.Links
turned_in k = links k.1.now k.0.now k.2.now k.3.now

abbrev pub slots_in : Links → ℕ
slots_in k = length k.0.now

-- a demand on the numbers of links
abbrev pub Over : {A : Type 1} → (List ℕ → List ℕ → List ℕ → ℕ → A) → Links → A
Over f k = f k.0.now k.1.now k.2.now k.3.now

-- a promise about them, from the entry to the exit
abbrev pub Made : (result : theory.Links) → Links → LinksLeft → Type 0
Made m k e = places.Made m (length k.0.now) e.0.now e.1.0.now e.1.1.0.now e.1.1.1.0.now

abbrev pub Mirrored : (Side → theory.Links → theory.Links) → Links → LinksLeft → Type 0
Mirrored op k e =
    places.Mirrored op k.0.now k.1.now k.2.now k.3.now e.0.now e.1.0.now e.1.1.0.now e.1.1.1.0.now

-- with keys that stay beside them
abbrev pub keyed_in : Links → (keys : List ℕ) → model.Lent
keyed_in k keys = model.lent k.0.now k.1.now k.2.now keys k.3.now

abbrev pub keyed_out : LinksLeft → (keys : List ℕ) → model.Lent
keyed_out e keys = model.lent e.0.now e.1.0.now e.1.1.0.now keys e.1.1.1.0.now

-- a demand on, or an answer about, the numbers of links that are only read
abbrev pub Among : {A : Type 1} → (List ℕ → List ℕ → List ℕ → A) → Nodes → A
Among f k = f k.near.now k.far.now k.pc.now

-- ---- all that is lent

abbrev pub LentLeft : Type 0
LentLeft = MutBor (List ℕ) × (MutBor (List ℕ) × (MutBor (List ℕ) × (MutBor (List ℕ) × (MutBor ℕ × Unit {0}))))

abbrev pub viewed : View → model.Lent
viewed v = model.lent v.left.now v.right.now v.pc.now v.key.now v.root.0

abbrev pub lent_in : Lent → model.Lent
lent_in m = model.lent m.0.now m.1.now m.2.now m.3.now m.4.now

abbrev pub lent_out : LentLeft → model.Lent
lent_out e = model.lent e.0.now e.1.0.now e.1.1.0.now e.1.1.1.0.now e.1.1.1.1.0.now

-- ---- what a call does: its answer and what is lent after it are an outcome of what was lent

-- of all that is lent, to be changed
abbrev pub Does : (model.Lent → Outcome) → Lent → Result Done Refusal → LentLeft → Type 0
Does f m r e = outcome_of r (lent_out e) ≡ f (lent_in m)

-- of the links, beside keys that stay
abbrev pub Relinks : (model.Lent → Outcome) → Links → (keys : List ℕ) → Result Done Refusal → LinksLeft → Type 0
Relinks f k keys r e = outcome_of r (keyed_out e keys) ≡ f (keyed_in k keys)

-- of what is only read
abbrev pub Tells : (model.Lent → Outcome) → View → Result Done Refusal → Type 0
Tells f v r = outcome_of r (viewed v) ≡ f (viewed v)
