-- Demands 2 and 3: an accepted call means what the list rules say, leaves well-formed arrays and is short; and so it is
-- after any commands from an empty tree.
use Prim.Native.Nat.{ℕ, ◌≤◌}
use native.Mathlib.Omega.{arith}
use mathlib.Core.Path.{◌≡◌, ap, sym, ◌∙◌}
use mathlib.Core.Logic.{◌≢◌, ◌⊎◌, inl, inr, ⊎_elim}
use mathlib.Core.Bool.{true, false}
use mathlib.Core.List.{List, [], ◌∷◌}
use Rattle.model.specs.Limits.{capacity_limit}
use Rattle.model.specs.Tree.{slots}
use Rattle.model.specs.Lent.{Lent, at, capacity, key_of, tree_of, empty_lent}
use Rattle.model.specs.WellFormed.{WellFormed}
use Rattle.model.specs.Check.{check}
use Rattle.model.specs.Draw.{lay, draw}
use Rattle.model.specs.Commands.{Command}
use Rattle.model.specs.Answers.{Code, done, damaged, Outcome, refused, is_done, refusal}
use Rattle.model.specs.Operations.{accepted, operate, perform, perform_all}
use Rattle.model.specs.Refusals.{Row, Gives, record_rows}
use Rattle.model.specs.Shape.{PathFits}
use Rattle.theory.specs.Holds.{Holds}
use Rattle.theory.specs.Demands.{Means, Stands}
use Rattle.theory.specs.After.{Result, tree_after}
use Rattle.theory.proofs.Branch.{clash}
use Rattle.theory.proofs.Check.{check_complete}
use Rattle.theory.proofs.Holds.{well_holds, holds_well, holds_tree}
use Rattle.theory.proofs.Empty.{empty_well}
use Rattle.theory.proofs.After.{result_holds}
use Rattle.theory.proofs.DrawingLists.{draw_capacity}
use Rattle.theory.proofs.Results.{result}
use Rattle.theory.proofs.Refusals.{refusal_gives, refusal_done, done_rising}
use Rattle.theory.proofs.Height.{height_fits}
use Rattle.theory.proofs.Calls.{unless_cases}

-- the codes of some rows
abbrev CodeIn : Code → List Row → Type 0
CodeIn c [] = ⊥
CodeIn c (r ∷ rows) = (c ≡ r.code) ⊎ CodeIn c rows

given_in : (rows : List Row) (c : Code) → Gives rows c → (c ≡ done) ⊎ CodeIn c rows
given_in [] c e = inl e
given_in (r ∷ rows) c (inl g) = inr (inl g.1)
given_in (r ∷ rows) c (inr g) = ⊎_elim inl (λ e. inr (inr e)) (given_in rows c g.1)

-- no row of a command but the first of a call has code 1
not_in : (c : Command) (m : Lent) → CodeIn damaged (record_rows c m) → ◌≡◌ {A = ℕ} 0 1
not_in c m (inl e) = cc
not_in c m (inr (inl e)) = cc
not_in c m (inr (inr (inl e))) = cc
not_in c m (inr (inr (inr (inl e)))) = cc
not_in c m (inr (inr (inr (inr (inl e))))) = cc
not_in c m (inr (inr (inr (inr (inr (inl e)))))) = cc
not_in c m (inr (inr (inr (inr (inr (inr (inl e))))))) = cc
not_in c m (inr (inr (inr (inr (inr (inr (inr e))))))) = absurd e

never_damaged : (c : Command) (m : Lent) → Gives (record_rows c m) damaged → ⊥
never_damaged c m g =
    let z : ◌≡◌ {A = ℕ} 0 1 = ⊎_elim (λ (e : damaged ≡ done). cc) (not_in c m) (given_in (record_rows c m) damaged g) in
    omega arith

module _ {m : Lent} (well : WellFormed m) (c : Command) where
  held : Holds m (tree_of m)
  held = well_holds m well

  checked : check m ≡ true
  checked = check_complete m well

  -- on well-formed arrays a call is the accepted command, or is refused
  pub perform_cases : ((refusal c m ≡ done) × (perform c m ≡ accepted c m))
      ⊎ ((is_done (refusal c m) ≡ false) × (perform c m ≡ refused (refusal c m) m))
  unfolding perform operate
  perform_cases = ⊎_elim
      (λ h. inl (h.0, rw checked h.1)) (λ h. inr (h.0, rw checked h.1))
      (unless_cases (refusal c m) m (accepted c m))

  module _ (passed : refusal c m ≡ done) where
    outcome_is : Result c m (tree_of m) (tree_after c (key_of m.arrays) (tree_of m)) (accepted c m)
    unfolding accepted
    outcome_is = result held c (refusal_done held c passed).0

    after_holds : Holds (accepted c m).after (tree_after c (key_of m.arrays) (tree_of m))
    after_holds =
        let ok = refusal_done held c passed in
        result_holds outcome_is held.small (done_rising held c ok.0 ok.1)

    accepted_means : Means c m (accepted c m)
    unfolding key_of draw lay
    accepted_means = record {
      list = ap slots (holds_tree after_holds) ∙ outcome_is.list;
      told = outcome_is.told;
      keys = λ x some. ap (λ (n : Lent). at n.arrays.key x) outcome_is.after ∙ outcome_is.key x some;
      same = ap (λ (n : Lent). capacity n.arrays) outcome_is.after
          ∙ draw_capacity (capacity m.arrays) (tree_after c (key_of m.arrays) (tree_of m)) outcome_is.keys;
      turned = rw (holds_tree after_holds) outcome_is.turned;
    }

  -- ---- demand 2

  -- a call leaves well-formed arrays, whatever it answers
  pub perform_well : WellFormed (perform c m).after
  perform_well = ⊎_elim (λ h. rw h.1 (holds_well (after_holds h.0))) (λ h. rw h.1 well) perform_cases

  -- a call that is done means what the list rules say
  pub perform_means : (perform c m).answer.code ≡ done → Means c m (perform c m)
  perform_means e = ⊎_elim
      (λ h. rw h.1 (accepted_means h.0))
      (λ h. let same : refusal c m ≡ done = ap (λ (o : Outcome). o.answer.code) (sym h.1) ∙ e in
      clash (sym h.0 ∙ ap is_done same)) perform_cases

  -- ---- demand 3

  -- well-formed arrays are never called damaged
  pub perform_never : (perform c m).answer.code ≢ damaged
  perform_never e = ⊎_elim
      (λ h. let z : ◌≡◌ {A = ℕ} 0 1 =
      let w : done ≡ damaged =
      sym (outcome_is h.0).code ∙ ap (λ (o : Outcome). o.answer.code) (sym h.1) ∙ e in cc in
      omega arith)
      (λ h. never_damaged c m
      (rw (ap (λ (o : Outcome). o.answer.code) (sym h.1) ∙ e) at (refusal_gives held c))) perform_cases

  -- the probes of a call are few
  pub perform_probes : PathFits (perform c m).answer.probes (tree_of m)
  perform_probes = ⊎_elim
      (λ h. rw h.1 (outcome_is h.0).probes)
      (λ h. rw h.1 (height_fits (tree_of m) 0 held.balanced (omega arith))) perform_cases

-- ---- any commands, one after another, from an empty tree

pub all_well : (cs : List Command) (m : Lent) → WellFormed m → WellFormed (perform_all cs m)
all_well [] m well = well
all_well (c ∷ cs) m well = all_well cs (perform c m).after (perform_well well c)

pub commands_stand : (C : ℕ) → C ≤ capacity_limit → (cs : List Command) (c : Command) → Stands C cs c
commands_stand C small cs c =
    let well = all_well cs (empty_lent C) (empty_well C small) in
    record {
      well = well;
      never = perform_never well c;
      probes = perform_probes well c;
      after = perform_well well c;
      means = perform_means well c;
    }
