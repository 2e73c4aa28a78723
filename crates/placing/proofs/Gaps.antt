-- gap, insert_in and may_stand keep their promises.
use Prim.Native.Nat.{ℕ}
use mathlib.Core.Bool.{Bool, true, false}
use mathlib.Core.Path.{◌≡◌, ap, sym, ◌∙◌}
use Rattle.model.specs.Tree.{Side, lft, rgt, opp, slots}
use Rattle.model.specs.Lent.{Lent, at, key_of, tree_of}
use Rattle.model.specs.Order.{next_in, prev_in}
use Rattle.model.specs.Answers.{outcome, refused, done, out_of_order}
use Rattle.theory.specs.Between.{between}
use Rattle.theory.specs.Links.{links_of, children}
use Rattle.theory.specs.Lists.{facing}
use Rattle.descent.specs.declared.types.InsertCursor.{InsertCursor}
use Rattle.descent.specs.Entries.{place_told}
use Rattle.refusals.proofs.Callers.{between_keys}
use Rattle.placing.specs.declared.types.Gap.{Gap}
use Rattle.placing.specs.Positions.{Stands, Fits}
use Rattle.placing.specs.Places.{HungAt, beside_at, earlier_of, GapAt, InsertedIn}
use Rattle.placing.proofs.Positions.{Stepped, step_found}
use Rattle.placing.proofs.Besides.{beside_at_lem}

-- ---- gap

pub gap_found : (d : Side) {m : Lent} {p n : ℕ} {place : InsertCursor} → Stands m p
    → n ≡ next_in p (facing d (slots (tree_of m))) → place_told place ≡ beside_at (children d (links_of m)) p n (opp d)
    → GapAt d m p (record {
      earlier = record { 0 = earlier_of d p n };
      later = record { 0 = earlier_of (opp d) p n };
      place = place;
    })
gap_found d {p = p} v next told =
    record {
      earlier_is = ap (earlier_of d p) next;
      later_is = ap (earlier_of (opp d) p) next;
      there = beside_at_lem d v next told;
    }

-- ---- insert_in

fitting : (m : Lent) (g : Gap) (k : ℕ) {fits : Bool}
    → fits ≡ between (at m.arrays.key) g.earlier.0 k g.later.0
    → between (key_of m.arrays) g.earlier.0 k g.later.0 ≡ fits
fitting m g k test = sym (test ∙ between_keys m.arrays g.earlier.0 k g.later.0)

module _ {m : Lent} {g : Gap} {s k : ℕ} {fits : Bool} where
  -- the key is refused
  pub in_refused : fits ≡ between (at m.arrays.key) g.earlier.0 k g.later.0 → fits ≡ false
      → InsertedIn m g s k (refused out_of_order m)
  in_refused test f = record { is = λ v. rw (fitting m g k test, f) }

  -- done
  pub in_done : {m' : Lent} → fits ≡ between (at m.arrays.key) g.earlier.0 k g.later.0
      → fits ≡ true → HungAt m g.place s k m' → InsertedIn m g s k (outcome done 0 s m')
  in_done test f hung = record { is = λ v. rw (fitting m g k test, f, hung.is v) }

-- ---- may_stand

pub stand_fits : {m : Lent} {p earlier later k : ℕ} {fits : Bool} → Stands m p → Stepped lft m p earlier
    → Stepped rgt m p later → fits ≡ between (at m.arrays.key) earlier k later → Fits m p k fits
unfolding prev_in
stand_fits {m} {p} {earlier} {later} {k} v before after e =
    record {
      is =
          rw (← step_found lft v before, ← step_found rgt v after)
          (e ∙ between_keys m.arrays earlier k later);
    }
