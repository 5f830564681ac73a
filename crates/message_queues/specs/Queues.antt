-- Queues by node, read as a function of the node.
use Rattle.std.specs.Prelude.{ℕ, List, [], slice_index_or}

-- the messages that wait at a node, the first in front. Past the last node none wait
abbrev pub waiting : {A : Type 0} → List (List A) → ℕ → List A
waiting queues node = slice_index_or queues node []
