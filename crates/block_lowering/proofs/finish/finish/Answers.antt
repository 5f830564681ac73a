use Rattle.std.proofs.Common.{◌≡◌, ◌<◌, ℕ, List, map, ap, sym, subst, ◌∙◌}
use Rattle.std.specs.Prelude.{slice_index_or, Option, None}
use Rattle.std.specs.List.{AllByRecursion, flat_map}
use Rattle.task_graph.specs.declared.graph.Task.{Task}
use Rattle.task_graph.specs.Numbers.{Numbers}
use Rattle.task_graph.specs.Orders.{depth_first, renumbered, position}
use Rattle.chunk_layout.specs.Layouts.{counts}
use Rattle.lowering_laws.specs.Sources.{Source}
use Rattle.lowering_laws.specs.Lowered.{source_at, keys_of}
use Rattle.block_lowering.proofs.Finishing.{all-flat}
use Rattle.block_lowering.proofs.finish.finish.Goals as goal

pub order-requires : goal.order-requires
order-requires c =
    let all : AllByRecursion (λ k. k < c.keys.result) (flat_map (λ ks. ks) c.in_ok-wanted.wanted.items) = all-flat (λ k. k < c.keys.result) c.in_ok-wanted.wanted.items c.in_ok-wanted.ensures.there in
    let are : c.in_ok-all.all ≡ flat_map (λ ks. ks) c.in_ok-wanted.wanted.items = c.in_ok-all.ensures ∙ ap (λ kss. flat_map (λ ks. ks) kss) c.as_slice-2.ensures.value in
    subst (λ n. AllByRecursion (λ k. k < n) c.in_ok-all.all) c.keys.ensures (subst (AllByRecursion (λ k. k < c.keys.result)) (sym are) all)

pub saved_keys-requires : goal.saved_keys-requires
saved_keys-requires c =
    let bound : c.keys.result ≡ c.in_ok-numbers.numbers.keys = c.keys.ensures ∙ sym (ap (λ (n : Numbers). n.keys) c.in_ok-numbers.ensures.numbers) in
    subst (AllByRecursion (AllByRecursion (λ k. k < c.in_ok-numbers.numbers.keys))) (sym c.as_slice-3.ensures.value)
    (subst (λ n. AllByRecursion (AllByRecursion (λ k. k < n)) c.in_ok-wanted.wanted.items) bound c.in_ok-wanted.ensures.there)

pub returns-clause-tasks : goal.returns-clause-tasks
returns-clause-tasks c =
    let saves = c.args.saves.now in
    let graph = c.into_parts-graph.ensures.graph in
    let sources = c.as_slice.ensures.value ∙ c.into_parts-graph.ensures.sources in
    let wanted = c.in_ok-wanted.ensures.value ∙ ap (λ (ss : List Source). map (λ n. keys_of (source_at ss n)) saves) sources in
    let all = c.in_ok-all.ensures ∙ ap (λ kss. flat_map (λ ks. ks) kss) (c.as_slice-2.ensures.value ∙ wanted) in
    let order = ap (λ (n : Numbers). n.order) c.in_ok-numbers.ensures.numbers ∙ ap (λ (ts : List Task). depth_first ts c.in_ok-all.all) graph ∙ ap (depth_first c.args.made.tasks) all in
    c.in_ok-graph.ensures ∙ ap (λ (ts : List Task). renumbered ts c.in_ok-numbers.numbers.order) graph ∙ ap (renumbered c.args.made.tasks) order

pub returns-clause-names : goal.returns-clause-names
returns-clause-names c =
    let saves = c.args.saves.now in
    let graph = c.into_parts-graph.ensures.graph in
    let sources = c.as_slice.ensures.value ∙ c.into_parts-graph.ensures.sources in
    let wanted = c.in_ok-wanted.ensures.value ∙ ap (λ (ss : List Source). map (λ n. keys_of (source_at ss n)) saves) sources in
    let all = c.in_ok-all.ensures ∙ ap (λ kss. flat_map (λ ks. ks) kss) (c.as_slice-2.ensures.value ∙ wanted) in
    let order = ap (λ (n : Numbers). n.order) c.in_ok-numbers.ensures.numbers ∙ ap (λ (ts : List Task). depth_first ts c.in_ok-all.all) graph ∙ ap (depth_first c.args.made.tasks) all in
    let names = c.as_slice-4.ensures.value ∙ c.into_parts-graph.ensures.names in
    c.in_ok-names.ensures ∙ ap (λ (ns : List (Option (ℕ × ℕ))). map (λ k. slice_index_or ns k None) c.order-2.result.now) names
    ∙ ap (map (λ k. slice_index_or c.args.made.names k None)) (c.order-2.ensures ∙ order)

pub returns-clause-saved : goal.returns-clause-saved
returns-clause-saved c =
    let saves = c.args.saves.now in
    let graph = c.into_parts-graph.ensures.graph in
    let sources = c.as_slice.ensures.value ∙ c.into_parts-graph.ensures.sources in
    let wanted = c.in_ok-wanted.ensures.value ∙ ap (λ (ss : List Source). map (λ n. keys_of (source_at ss n)) saves) sources in
    let all = c.in_ok-all.ensures ∙ ap (λ kss. flat_map (λ ks. ks) kss) (c.as_slice-2.ensures.value ∙ wanted) in
    let order = ap (λ (n : Numbers). n.order) c.in_ok-numbers.ensures.numbers ∙ ap (λ (ts : List Task). depth_first ts c.in_ok-all.all) graph ∙ ap (depth_first c.args.made.tasks) all in
    c.in_ok-saved.ensures ∙ ap (map (λ ks. map (position c.in_ok-numbers.numbers.order) ks)) (c.as_slice-3.ensures.value ∙ wanted)
    ∙ ap (λ o. map (λ ks. map (position o) ks) (map (λ n. keys_of (source_at c.args.made.sources n)) saves)) order

pub returns-clause-layouts : goal.returns-clause-layouts
returns-clause-layouts c =
    let sources = c.as_slice-5.ensures.value ∙ c.into_parts-graph.ensures.sources in
    c.in_ok-layouts.ensures ∙ ap (λ (ss : List Source). map (λ n. (source_at ss n).layout) c.args.saves.now) sources

pub returns-clause-blocks : goal.returns-clause-blocks
returns-clause-blocks c =
    let sources = c.as_slice-6.ensures.value ∙ c.into_parts-graph.ensures.sources in
    c.in_ok-blocks.ensures ∙ ap (λ (ss : List Source). map (λ (s : Source). counts s.layout) ss) sources
