use Rattle.std.proofs.Common.{◌≡◌, ap, ◌∙◌, rules}
use Rattle.msgpack_frames.specs.Data.{dictionary}
use Rattle.msgpack_frames.specs.View.{view, pairs_view}
use Rattle.msgpack_frames.specs.declared.value.Value.{Map, the_lemmas}
use Rattle.wire_msgs.specs.Messages.{answer, map_answer}
use Rattle.wire_msgs.specs.Seen.{seen}
use Rattle.wire_msgs.specs.Written.{message_pairs}
use Rattle.wire_msgs.proofs.ReadBack.{read_back}
use Rattle.wire_msgs.proofs.Values.{answer-map}
use Rattle.wire_msgs.proofs.writing.to_value.Goals as goal

pub returns-clause-read_back : goal.returns-clause-read_back
returns-clause-read_back c =
    let pairs = c.in_ok-pairs_of.field-0 in
    let map : view (Map pairs) ≡ dictionary (pairs_view pairs.items) = search (rules, the_lemmas) in
    let written : seen pairs.items ≡ message_pairs c.args.message.now = c.in_ok-pairs_of.ensures.written in
    ap answer map ∙ answer-map (seen pairs.items) ∙ ap map_answer written ∙ read_back c.args.message.now c.in_ok-pairs_of.ensures.reads
