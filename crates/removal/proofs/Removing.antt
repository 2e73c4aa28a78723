-- remove: each call's demands, from what the calls before it left, and the promise.
use Prim.Native.Nat.{ℕ}
use mathlib.Core.List.{List, [], ◌∷◌, ◌++◌}
use mathlib.Core.Path.{◌≡◌, sym, ap, ◌∙◌}
use lib.Dec.{eqb}
use lib.ListN.{length}
use native.Mathlib.Omega.{arith}
use borrow.Author.Tests.{eq-eqb, ne_eqb}
use Rattle.model.specs.Branch.{pick}
use Rattle.model.specs.Tree.{Side, lft, rgt, opp, Color, Tree, leaf, node, nod, top_of, Frame, frame, plug}
use Rattle.model.specs.Lent.{at}
use Rattle.model.specs.Removal.{first_of}
use Rattle.theory.specs.Balance.{Balanced}
use Rattle.theory.specs.Focus.{Standing}
use Rattle.theory.specs.Links.{Links, links}
use Rattle.theory.specs.Programs.{end_of, remove_one, remove_two, remove_at}
use Rattle.theory.specs.Places.{Drawn, Spot, Made}
use Rattle.theory.proofs.Focus.{standing}
use Rattle.theory.proofs.Sided.{sided_near, sided_far}
use Rattle.theory.proofs.Walking.{end_drawn}
use Rattle.theory.proofs.Removal.{plug_append, first_plug}
use Rattle.theory.proofs.Removing.{first_slot_lem}
use Rattle.theory.proofs.Depth.{spot_deep}
use Rattle.theory.proofs.Places.{spot_low, spot_near, spot_far}
use Rattle.links.specs.Reads.{GetPre, Got}
use Rattle.links.proofs.Spots.{spot_in, spot_beside, in_get, in_get_far}
use Rattle.walks.specs.Ends.{end_at, EndPre, EndPost}
use Rattle.walks.proofs.Spines.{end_sided}
use Rattle.removal.specs.Removals.{OnePre, TwoPre, Removable}

-- ---- what the calls want, from the place of the slot

module _ {left right pc : List ℕ} {root size : ℕ} {color : Color} {slot : ℕ} {way : List Frame} where
  -- a slot without a child on the far side
  one_at : (d : Side) {near : Tree} (far : Tree) {child : ℕ}
      → Spot lft left right pc root size d color near slot far way → Balanced (plug (nod d color near slot far) way)
      → top_of far ≡ 0 → child ≡ top_of near → OnePre left right pc root slot child
  one_at d {near} leaf spot balanced none is = record {
    size = size;
    side = d;
    color = color;
    tree = near;
    way = way;
    spot = spot;
    balanced = balanced;
    child = is;
  }
  one_at d {near} (node shade before start after) spot balanced none is =
      let over = frame (opp d) color slot near ∷ way in
      let below : Spot lft left right pc root size lft shade before start after over = spot_beside d spot.held in
      absurd (omega (arith, none, spot_low below))

  -- the right child is the start of a chain of left links
  right_end : {other : Tree} (tree : Tree) {child : ℕ} → Spot lft left right pc root size lft color other slot tree way
      → child ≡ at right slot → (child ≡ 0 → ⊥) → EndPre left child
  right_end leaf spot is some = absurd (some (is ∙ spot_far spot))
  right_end {other} (node shade before start after) spot is some = rw (is ∙ spot_far spot) (record {
    side = lft;
    other = right;
    pc = pc;
    root = root;
    size = size;
    color = shade;
    near = before;
    far = after;
    way = frame rgt color slot other ∷ way;
    spot = spot_beside lft spot.held;
  })

  -- whose end is the first node of that child
  two_at : {other : Tree} (tree : Tree) {child next : ℕ}
      → Spot lft left right pc root size lft color other slot tree way
      → Balanced (plug (node color other slot tree) way) → child ≡ at right slot → (child ≡ 0 → ⊥)
      → next ≡ end_at (length left) left child → TwoPre left right pc root slot next
  two_at leaf spot balanced is some end = absurd (some (is ∙ spot_far spot))
  two_at {other} (node shade before start after) {child} {next} spot balanced is some end =
      let found = first_of shade before start after [] in let over = frame rgt color slot other ∷ way in
      let below : Spot lft left right pc root size lft shade before start after over
      = spot_beside lft spot.held in
      let first = node found.color leaf found.slot found.right in
      let there : plug first (found.way ++ over) ≡ plug (node color other slot (node shade before start after)) way
      = plug_append first found.way over
      ∙ ap (λ (t : Tree). plug (node color other slot t) way) (first_plug shade before start after []) in
      let next_is : next ≡ found.slot
      = end ∙ ap (end_at (length left) left) (is ∙ spot_far spot)
      ∙ sym (end_sided (length left) lft left right pc root start)
      ∙ ap (λ (k : Links). end_of lft (length left) k start) spot.held.is
      ∙ end_drawn lft (length left) (node shade before start after) over (spot_low below)
      (omega (arith, spot_deep below)) spot.held.sound
      ∙ sym (first_slot_lem shade before start after []) in
      let held : Drawn lft left right pc root size (plug first (found.way ++ over)) = rw there spot.held in
      rw next_is (record {
        size = size;
        next_color = found.color;
        tree = found.right;
        inner = found.way;
        color = color;
        other = other;
        way = way;
        spot = record { held = held };
        balanced = rw there balanced;
      })

-- ---- remove

module _ {left right pc : List ℕ} {root slot : ℕ} (pre : Removable left right pc root slot) where
  place : Standing lft slot pre.tree
  place = standing lft slot pre.tree pre.stands

  spot : Spot lft left right pc root pre.size lft place.color place.near slot place.far place.way
  spot = record { held = rw place.whole pre.held }

  balanced : Balanced (plug (node place.color place.near slot place.far) place.way)
  balanced = rw place.whole pre.balanced

  pub remove_get : GetPre left slot
  remove_get = in_get (spot_in spot)

  pub remove_get_2 : GetPre right slot
  remove_get_2 = in_get_far (spot_in spot)

  module _ {left-child right_child : ℕ} (first : Got left slot left-child) (second : Got right slot right_child) where
    -- the model's choice, by the children that were read
    remove_by : let all = links left right pc root in
        remove_at (length left) all slot
        ≡ pick (eqb left-child 0) (remove_one (length left) all slot right_child)
        (pick (eqb right_child 0) (remove_one (length left) all slot left-child)
        (remove_two (length left) all slot (end_of lft (length left) all right_child)))
    unfolding remove_at
    remove_by =
        rw (
          sided_near lft left right pc root slot,
          ← first.is,
          sided_far lft left right pc root slot,
          ← second.is,
        )

    pub remove_right : left-child ≡ 0 → OnePre left right pc root slot right_child
    remove_right none =
        let over : Spot lft left right pc root pre.size rgt place.color place.far slot place.near
        place.way
        = record { held = spot.held } in
        one_at rgt place.near over balanced
        (sym (spot_near spot) ∙ sym first.is ∙ none) (second.is ∙ spot_far spot)

    pub removed_right : {left' right' pc' : List ℕ} {root' : ℕ} → left-child ≡ 0
        → Made (remove_one (length left) (links left right pc root) slot right_child) (length left)
        left' right' pc' root'
        → Made (remove_at (length left) (links left right pc root) slot) (length left) left' right' pc' root'
    removed_right none made = rw (remove_by, eq-eqb left-child 0 none) made

    module _ (some_left : left-child ≡ 0 → ⊥) where
      pub remove_left : right_child ≡ 0 → OnePre left right pc root slot left-child
      remove_left none =
          one_at lft place.far spot balanced
          (sym (spot_far spot) ∙ sym second.is ∙ none) (first.is ∙ spot_near spot)

      pub removed_left : {left' right' pc' : List ℕ} {root' : ℕ} → right_child ≡ 0
          → Made (remove_one (length left) (links left right pc root) slot left-child) (length left)
          left' right' pc' root'
          → Made (remove_at (length left) (links left right pc root) slot) (length left) left' right' pc' root'
      removed_left none made = rw (remove_by, ne_eqb left-child 0 some_left, eq-eqb right_child 0 none) made

      module _ (some_right : right_child ≡ 0 → ⊥) where
        pub remove_end : EndPre left right_child
        remove_end = right_end place.far spot second.is some_right

        module _ {next : ℕ} (end : EndPost left right_child next) where
          pub remove_two_lem : TwoPre left right pc root slot next
          remove_two_lem = two_at place.far spot balanced second.is some_right end.is

          pub removed_two : {left' right' pc' : List ℕ} {root' : ℕ}
              → Made (remove_two (length left) (links left right pc root) slot next) (length left)
              left' right' pc' root'
              → Made (remove_at (length left) (links left right pc root) slot) (length left) left' right' pc' root'
          removed_two made =
              rw (
                remove_by,
                ne_eqb left-child 0 some_left,
                ne_eqb right_child 0 some_right,
                end_sided (length left) lft left right pc root right_child,
                ← end.is,
              ) made
