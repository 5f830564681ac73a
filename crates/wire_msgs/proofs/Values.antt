-- A map's pairs as data.
use Rattle.std.proofs.Common.{◌≡◌, List, [], ◌∷◌, refl, ap}
use Rattle.msgpack_frames.specs.Data.{Data, dictionary}
use Rattle.msgpack_frames.specs.View.{pairs_of}
use Rattle.wire_msgs.specs.Finding.{pair_list}
use Rattle.wire_msgs.specs.Messages.{answer, map_answer}

pub pair_list-pairs_of : (ps : List (Data × Data)) → pair_list (pairs_of ps) ≡ ps
pair_list-pairs_of [] = refl
pair_list-pairs_of (p ∷ ps) = ap (λ (qs : List (Data × Data)). p ∷ qs) (pair_list-pairs_of ps)

pub answer-map : (ps : List (Data × Data)) → answer (dictionary (pairs_of ps)) ≡ map_answer ps
unfolding answer
answer-map ps = ap map_answer (pair_list-pairs_of ps)
