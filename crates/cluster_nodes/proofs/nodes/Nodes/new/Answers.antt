use Rattle.std.proofs.Common.{◌∙◌, [], ℕ, ap}
use Rattle.cluster_nodes.proofs.nodes.Nodes.new.Goals as goal

pub begin-requires : goal.begin-requires
begin-requires g c =
    record {
      clients = c.new.ensures.items;
      workers = c.new-2.ensures.items;
      alive = c.empty.ensures;
      spilled = c.empty-2.ensures ∙ ap (λ (n : ℕ). (n, [])) c.keys-keys.ensures;
      down = c.new-3.ensures;
      up = c.new-4.ensures;
      to_client = c.new-5.ensures;
      from_client = c.new-6.ensures;
      requests = c.new-7.ensures;
      answers = c.new-8.ensures;
      held = c.empty-3.ensures ∙ ap (λ (n : ℕ). (n, [])) c.keys-keys.ensures;
      inputs = c.empty-4.ensures ∙ ap (λ (n : ℕ). (n, [])) c.keys-keys.ensures;
      got = c.empty-5.ensures ∙ ap (λ (n : ℕ). (n, [])) c.keys-keys.ensures;
    }
