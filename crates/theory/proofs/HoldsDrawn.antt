-- Lent numbers that hold a tree are its drawing, so every link in them is in bounds.
use mathlib.Core.Path.{ap, ◌∙◌}
use Rattle.model.specs.Tree.{lft, Tree}
use Rattle.model.specs.Lent.{Lent, capacity}
use Rattle.theory.specs.Holds.{Holds}
use Rattle.theory.specs.Links.{links_of}
use Rattle.theory.specs.Places.{Bounded, Drawn}
use Rattle.theory.proofs.Places.{bounded}
use Rattle.theory.proofs.Reading.{links_draw}

module _ {m : Lent} {t : Tree} (h : Holds m t) where
  pub holds_drawn : Drawn lft m.arrays.left m.arrays.right m.arrays.pc m.root (capacity m.arrays) t
  holds_drawn = record {
    is = ap links_of h.is ∙ links_draw (capacity m.arrays) t m.arrays.key;
    sound = h.sound;
    small = h.small;
  }

  pub holds_bounded : Bounded m.arrays.left m.arrays.right m.arrays.pc m.root
  holds_bounded = bounded holds_drawn
