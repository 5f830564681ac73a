use Rattle.std.proofs.Common.{◌≡◌, sym, ap, ◌∙◌, rules}
use Rattle.msgpack_frames.specs.Data.{dictionary}
use Rattle.msgpack_frames.specs.View.{view, pairs_view}
use Rattle.msgpack_frames.specs.declared.value.Value.{the_lemmas}
use Rattle.wire_msgs.specs.Answers.{Answers}
use Rattle.wire_msgs.specs.Messages.{answer, map_answer}
use Rattle.wire_msgs.specs.Seen.{seen}
use Rattle.wire_msgs.proofs.Accepted.{told}
use Rattle.wire_msgs.proofs.Values.{answer-map}
use Rattle.wire_msgs.proofs.reading.from_value.Goals as goal

pub returns-in-Map : goal.returns-in-Map
returns-in-Map c =
    let map : dictionary (pairs_view c.deref.result.now) ≡ view c.args.value.now = rw c.in-Map.is (search (rules, the_lemmas)) in
    let whole : answer (view c.args.value.now) ≡ map_answer (seen c.deref.result.now) = sym (ap answer map) ∙ answer-map (seen c.deref.result.now) in
    let answered : Answers c.from_pairs.result (answer (view c.args.value.now)) = rw whole c.from_pairs.ensures in
    record { answered = answered; fields = told c.from_pairs.result (view c.args.value.now) answered }
