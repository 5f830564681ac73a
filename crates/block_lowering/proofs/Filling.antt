-- Arrays without operands, in a layout that stands for the one that was asked for.
use Rattle.std.proofs.Common.{◌≡◌, ℕ, List, [], ◌++◌, length, map, ap}
use Rattle.std.specs.List.{range_with_len}
use Rattle.nd_shape.specs.Shape.{elements}
use Rattle.nd_shape.specs.Index.{index_at}
use Rattle.nd_shape.specs.Region.{Box}
use Rattle.chunk_layout.specs.Layouts.{counts}
use Rattle.cluster_msgs.specs.Shape.{IsShape}
use Rattle.block_kernels.specs.declared.spec.Spec.{Spec}
use Rattle.task_graph.specs.declared.graph.Task.{Task}
use Rattle.task_graph.specs.Graphs.{shape_of, task}
use Rattle.lowering_laws.specs.Sources.{Source}
use Rattle.block_lowering.specs.Growing.{Refuses, IsGrown}
use Rattle.block_lowering.specs.Standing.{StandsFor}
use Rattle.block_lowering.specs.Tasks.{alone_task, alone_blocks}
use Rattle.block_lowering.specs.declared.error.LowerError.{LowerError}
use Rattle.block_lowering.proofs.Standing.{one-grown, one-refused}

pub alone-grown : (old new : List Task) (exact given : List (List ℕ)) (ns : List ℕ) (spec_of : Box → Spec) (s : Source) → StandsFor exact given → ns ≡ counts given → IsShape (shape_of new)
    → new ≡ old ++ map (λ c. alone_task spec_of given (index_at ns c)) (range_with_len 0 (elements ns)) → s ≡ record { layout = given; first = length old; stride = 1 }
    → IsGrown old (alone_blocks spec_of exact (length old)) new s
alone-grown old new exact given ns spec_of s stands is shape e sis =
    one-grown old new exact given (alone_task spec_of exact) (alone_task spec_of given) ns s stands is (λ c h. ap (λ (b : Box). task (spec_of b) []) h) shape e sis

pub alone-refused : (old : List Task) (exact given : List (List ℕ)) (ns : List ℕ) (spec_of : Box → Spec) (e : LowerError) → StandsFor exact given → ns ≡ counts given
    → Refuses old (map (λ c. alone_task spec_of given (index_at ns c)) (range_with_len 0 (elements ns))) e → Refuses old (alone_blocks spec_of exact (length old)).tasks e
alone-refused old exact given ns spec_of e stands is r =
    one-refused old exact given (alone_task spec_of exact) (alone_task spec_of given) ns e stands is (λ c h. ap (λ (b : Box). task (spec_of b) []) h) r

-- the first key of an array is behind those that are there
pub keyed-at : {first n : ℕ} (layout : List (List ℕ)) → first ≡ n → ◌≡◌ {A = Source} (record { layout = layout; first = first; stride = 1 }) (record { layout = layout; first = n; stride = 1 })
keyed-at layout e = ap (λ k. let t : Source = record { layout = layout; first = k; stride = 1 } in t) e
