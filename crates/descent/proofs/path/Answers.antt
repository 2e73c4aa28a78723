use Rattle.descent.proofs.Keeping.{keep_start, keep_key, keep_left, keep_right, keep_less, keep_on}
use Rattle.descent.proofs.Passing.{pass_start, pass_on, passed, passed_leaf}
use Rattle.descent.proofs.path.Goals.{in_default, in-Some+then-is_leaf}
use Rattle.descent.proofs.path.Goals as goal

pub loop-node-init : goal.loop-node-init
loop-node-init g c = (keep_start (λ t. tt), λ over tells. pass_start)

pub key_of-held-requires : goal.key_of-held-requires
key_of-held-requires g c = keep_key c.requires.tree c.loop-node.invariant.0 c.in-Some.ensures

pub get-first-requires : goal.get-first-requires
get-first-requires g c = keep_left c.requires.tree c.loop-node.invariant.0 c.in-Some.ensures

pub get-second-requires : goal.get-second-requires
get-second-requires g c = keep_right c.requires.tree c.loop-node.invariant.0 c.in-Some.ensures

pub loop-node-smaller : goal.loop-node-smaller
loop-node-smaller g c = keep_less c.requires.tree c.loop-node.invariant.0 c.in-Some.ensures

pub loop-node-preserved : goal.loop-node-preserved
loop-node-preserved g c = (
  keep_on c.requires.tree c.loop-node.invariant.0 c.in-Some.ensures c.goes_left-leftward.result
      (λ t a near far w same. tt) c.get-first.ensures c.get-second.ensures c.pick-here.ensures,
  λ over tells. pass_on c.requires.tree (c.loop-node.invariant.1 over tells) c.in-Some.ensures
      c.key_of-held.ensures c.get-first.ensures c.get-second.ensures (tells _ _ c.goes_left-leftward.ensures)
      c.pick-over.ensures c.pick-under.ensures c.pick-here.ensures,
)

pub returns : goal.returns
returns g c = record {
  is = λ over tells.
      let s = c.loop-node.invariant.1 over tells in
      elim c.match-or_none.branch [
        | in_default w ↦ rw (w.last-is, w.under-is, w.over-is, w.probes-is) (passed s w.in_default.ensures)
        | in-Some+then-is_leaf w ↦ rw (w.last-is, w.under-is, w.over-is, w.probes-is)
            (passed_leaf c.requires.tree s w.in-Some.ensures w.key_of-held.ensures w.get-first.ensures
            w.get-second.ensures (tells _ _ w.goes_left-leftward.ensures) w.pick-over.ensures w.pick-under.ensures
            w.pick-here.ensures w.is_leaf.ensures w.if-is_leaf.true)
      ];
  top = elim c.match-or_none.branch [
    | in_default w ↦ rw w.last-is c.loop-node.invariant.0.top
    | in-Some+then-is_leaf w ↦
        rw w.last-is (keep_key c.requires.tree c.loop-node.invariant.0 w.in-Some.ensures).top
  ];
}
