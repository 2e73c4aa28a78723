use Rattle.wellformed.proofs.Nodes.{node_good}
use Rattle.wellformed.proofs.slots.node_at.Goals as goal

pub returns-then-apart-fits : goal.returns-then-apart-fits
returns-then-apart-fits c =
    let h = c.node_in-node.ensures in
    record {
      is = record {
        left = h.left;
        right = h.right;
        key = h.key;
        good =
            node_good _ _ h.left h.right h.key c.differ-apart.ensures c.between-fits.ensures c.if-apart-fits.true;
      };
    }

pub returns-else-apart-fits : goal.returns-else-apart-fits
returns-else-apart-fits c =
    let h = c.node_in-node.ensures in
    record {
      is =
          node_good _ _ h.left h.right h.key c.differ-apart.ensures c.between-fits.ensures c.if-apart-fits.false;
    }
