use Rattle.std.proofs.Common.{◌+◌, ℕ, List, length, sym, ap, ◌∙◌}
use Rattle.cluster_msgs.specs.Shape.{Follows, edge_count}
use Rattle.cluster_msgs.specs.Stored.{rows_of, told}
use Rattle.cluster_msgs.specs.declared.shape.GraphRow.{GraphRow}
use Rattle.cluster_msgs.proofs.StoredLemmas.{more-shape, more-edges}
use Rattle.cluster_msgs.proofs.shape.GraphShape.push.Goals as goal

pub invariant_of-self-2 : goal.invariant_of-self-2
invariant_of-self-2 c =
    let row : GraphRow = record { deps = c.in_ok-copy.field-0; work = c.args.work; nbytes = c.args.nbytes } in
    let rows : List GraphRow = rows_of c.self.inside.rows in
    let given : Follows c.args.self.now c.args.deps.now c.args.work c.args.nbytes = record {
      room = c.requires.room;
      edges = c.requires.edges;
      rising = c.requires.rising;
      below = c.requires.below;
      light = c.requires.light;
      small = c.requires.small;
    } in
    let bounds : Follows (told rows) row.deps row.work row.nbytes = rw (c.self.view_is, c.in_ok-copy.ensures) given in
    record {
      shape = rw c.in_ok-add.ensures.ok (more-shape rows row bounds c.self.invariant.shape);
      edges =
          ap (λ (n : ℕ). n + c.len-more.result) c.self.invariant.edges
          ∙ ap (λ (n : ℕ). edge_count (told rows) + n) (c.len-more.ensures ∙ ap (λ (ds : List ℕ). length ds) (sym c.in_ok-copy.ensures))
          ∙ sym (ap (λ (rs : List GraphRow). edge_count (told rs)) c.in_ok-add.ensures.ok ∙ more-edges rows row);
    }
