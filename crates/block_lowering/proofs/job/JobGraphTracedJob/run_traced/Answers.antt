use Rattle.std.proofs.Common.{◌≡◌, ℕ, ℤ, [], List, ap, sym, subst, ◌∙◌}
use Rattle.npy_codec.specs.declared.head.Head.{Head}
use Rattle.cluster_msgs.specs.Jobs.{blocks_of}
use Rattle.io_edge.specs.Given.{Agree}
use Rattle.block_kernels.specs.declared.spec.Spec.{Spec}
use Rattle.block_kernels.specs.declared.spec.Spec.TheVariants.{Load}
use Rattle.block_kernels.specs.Kernels.{input_shapes, result_shape, made}
use Rattle.task_graph.specs.Graphs.{task_at}
use Rattle.block_lowering.specs.Jobs.{TellsFeed, FitsFeed, HaveNamed}
use Rattle.block_lowering.proofs.Fed.{fed-shapes, no-blocks, told-value, given-value, any-value, dims-are, counts-none}
use Rattle.block_lowering.proofs.Loading.{agrees_more}
use Rattle.block_lowering.proofs.job.JobGraphTracedJob.run_traced.Goals as goal

pub returns-in-Load-clause-value : goal.returns-in-Load-clause-value
returns-in-Load-clause-value g c =
    let job = c.args.self.now.job in
    let named = g.E.Elements.named in
    let blocks = blocks_of c.args.inputs.now in
    let files = g.S.Store.files c.args.feed.now in
    let load : Spec = Load c.in-Load.input c.in-Load.region in
    let spec : (task_at job.tasks c.args.key).spec ≡ load = sym c.spec.ensures ∙ c.in-Load.is in
    let none : blocks ≡ [] = no-blocks blocks (fed-shapes job.tasks c.args.key blocks c.sound.ensures.fed c.requires.inputs ∙ ap input_shapes spec) in
    told-value (TellsFeed job.heads files) c.run_load.result (made named load []) (made named (task_at job.tasks c.args.key).spec blocks)
    (λ tells. c.run_load.ensures.value named (subst (λ (heads : List Head). FitsFeed named heads files) (sym c.heads.ensures) c.requires.feed)
    (subst (λ (heads : List Head). TellsFeed heads files) (sym c.heads.ensures) tells))
    (ap (made named load) (sym none) ∙ ap (λ (s : Spec). made named s blocks) (sym spec))

pub returns-in-Load-clause-given : goal.returns-in-Load-clause-given
returns-in-Load-clause-given g c =
    let job = c.args.self.now.job in
    let blocks = blocks_of c.args.inputs.now in
    let names = g.S.Store.names c.args.feed.now in
    let load : Spec = Load c.in-Load.input c.in-Load.region in
    let spec : (task_at job.tasks c.args.key).spec ≡ load = sym c.spec.ensures ∙ c.in-Load.is in
    let none : blocks ≡ [] = no-blocks blocks (fed-shapes job.tasks c.args.key blocks c.sound.ensures.fed c.requires.inputs ∙ ap input_shapes spec) in
    given-value (λ (holds : List ℕ → List ℕ). Agree holds (g.S.Store.gave c.run_load.new.feed)) (HaveNamed c.heads.result.now names) (HaveNamed job.heads names)
    c.run_load.result (λ (named : ℕ → List ℕ → ℤ). made named load []) (λ (named : ℕ → List ℕ → ℤ). made named (task_at job.tasks c.args.key).spec blocks) c.run_load.ensures.given
    (λ holds named have. subst (λ (heads : List Head). HaveNamed heads names holds named) (sym c.heads.ensures) have)
    (λ named. ap (made named load) (sym none) ∙ ap (λ (s : Spec). made named s blocks) (sym spec))

pub returns-in-Load-clause-agreed : goal.returns-in-Load-clause-agreed
returns-in-Load-clause-agreed g c holds agree = agrees_more holds _ _ c.run_load.ensures.gave agree

pub returns-in-Load-clause-same : goal.returns-in-Load-clause-same
returns-in-Load-clause-same g c holds named =
    let Have : List (List ℕ) → Type 0 = λ names. HaveNamed c.args.self.now.job.heads names holds named in
    (subst Have c.run_load.ensures.named, subst Have (sym c.run_load.ensures.named))

pub returns-in_default : goal.returns-in_default
returns-in_default g c =
    let job = c.args.self.now.job in
    let named = g.E.Elements.named in
    let blocks = blocks_of c.args.inputs.now in
    let feed = c.args.feed.now in
    let files = g.S.Store.files feed in
    let spec = (task_at job.tasks c.args.key).spec in
    record {
      value = told-value (TellsFeed job.heads files) c.run_spec.result (made named c.spec.result.now blocks) (made named spec blocks)
          (λ tells. c.run_spec.ensures.value named) (ap (λ (s : Spec). made named s blocks) c.spec.ensures);
      given = any-value (λ (holds : List ℕ → List ℕ). Agree holds (g.S.Store.gave feed)) (HaveNamed job.heads (g.S.Store.names feed))
          c.run_spec.result (λ (named : ℕ → List ℕ → ℤ). made named c.spec.result.now blocks) (λ (named : ℕ → List ℕ → ℤ). made named spec blocks)
          c.run_spec.ensures.value (λ named. ap (λ (s : Spec). made named s blocks) c.spec.ensures);
      dims = dims-are c.run_spec.result (result_shape c.spec.result.now) (result_shape spec) c.run_spec.ensures.dims (ap result_shape c.spec.ensures);
      fits = c.requires.feed;
      tells = (λ h. h, λ h. h);
      agreed = λ holds agree. agree;
      same = λ holds named. (λ h. h, λ h. h);
      faults = counts-none c.run_spec.result (g.S.Store.count feed) c.run_spec.ensures.memory;
    }
