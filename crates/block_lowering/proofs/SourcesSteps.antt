-- What the loops over a source's axes read of its counts.
use Rattle.std.proofs.Common.{◌≡◌, ℕ, ◌<◌, List, [], length, get_or, sym, ◌∙◌}
use Rattle.std.proofs.lemmas.List.{get_or-map, length-map}
use Rattle.chunk_layout.specs.Layouts.{counts}

abbrev count_of : List ℕ → ℕ
count_of sizes = length sizes

pub counts-length : (axes : List (List ℕ)) → length (counts axes) ≡ length axes
counts-length axes = length-map axes count_of

pub counts-at : (axes : List (List ℕ)) (k n : ℕ) → k < length axes → n ≡ length (get_or axes k []) → n ≡ get_or (counts axes) k 0
counts-at axes k n h e = e ∙ sym (get_or-map count_of axes k [] 0 h)
