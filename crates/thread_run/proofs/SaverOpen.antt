-- What is known of a plan's saved keys when its files are opened, and that nothing is had of them.
use Rattle.std.proofs.Common.{◌≡◌, ℕ, ◌<◌, Bool, true, false, List, [], length, refl, ap, sym, ◌∙◌, subst, arith, Option, Some, None, inl}
use Rattle.std.specs.Prelude.{replicate, slice_index_or}
use Rattle.std.proofs.lemmas.List.{get_or-replicate, length-replicate}
use Rattle.io_edge.specs.Content.{Content, Told, Untold, OnTold}
use Rattle.io_edge.specs.View.{Files}
use Rattle.nd_shape.specs.Block.{Array}
use Rattle.array_expr.specs.Node.{shape_at}
use Rattle.block_kernels.specs.Kernels.{result_shape}
use Rattle.chunk_layout.specs.Layouts.{blocks, lengths}
use Rattle.cluster_msgs.specs.Labels.{BlockFits, LabelFacts}
use Rattle.task_graph.specs.Graphs.{task_at}
use Rattle.lowering_laws.specs.Lowered.{lowered}
use Rattle.lowering_laws.specs.Named.{layout_of}
use Rattle.saved_files.specs.Filling.{IsFilling}
use Rattle.saved_files.specs.Saving.{IsOf, Saving, saving_at}
use Rattle.job_run.specs.declared.wanted.Wanted.{Wanted}
use Rattle.job_run.specs.Evaluating.{AreFresh, AreOpenFor, HasLaws, LeavesAll, node_at}
use Rattle.job_run.specs.Filling.{keys_at, layout_at}
use Rattle.job_run.specs.Plan.{IsRunnable, Plan, nodes_saved}
use Rattle.job_run.specs.Saving.{HasSaves}
use Rattle.job_run.specs.Values.{Named, tasks_of}
use Rattle.job_run.specs.Wanted.{IsWantedOf}
use Rattle.job_run.proofs.SavedBlocks.{count-saves, has-saves}
use Rattle.thread_run.specs.Reports.{label}
use Rattle.thread_run.specs.Saver.{AreSaved, AreSavedKeys, HasBoxes, HasNone, IsLabelOf, IsMadeOf, had_in}

-- what fits a key has the lengths of its task's block
fits-shape : (p : Plan) (facts : LabelFacts Array) → IsLabelOf p facts → (key : ℕ) (b : Array) → BlockFits facts key b → b.shape ≡ result_shape (task_at (tasks_of p) key).spec
fits-shape p facts l key b fits = let h : BlockFits (label l.told l.allowed l.named (tasks_of p)) key b = subst (λ (x : LabelFacts Array). BlockFits x key b) l.is fits in h.dims

-- what fits has these lengths
abbrev HasLengths : LabelFacts Array → ℕ → List ℕ → Type 0
HasLengths facts key dims = (b : Array) → BlockFits facts key b → b.shape ≡ dims

abbrev Names : Type 0
Names = List (Option (ℕ × ℕ))

module _ (p : Plan) (named : Named) (facts : LabelFacts Array) (w : Wanted) (runs : IsRunnable p) (laws : HasLaws p named) (of : IsLabelOf p facts) (wanted : IsWantedOf p w) where
  pub saves-known : HasSaves p w.saved w.layouts (HasLengths facts)
  saves-known = has-saves p w.saved w.layouts (HasLengths facts) runs laws.expression wanted.saved_is wanted.layouts_are (λ j c lj lc b fits. fits-shape p facts of _ b fits)

  within : (k : ℕ) → k < length w.saved → k < length (nodes_saved p)
  within k lt = omega (arith, lt, saves-known.keys, count-saves p)

  there : (k c : ℕ) → k < length w.saved → c < length (keys_at w.saved k) → c < blocks (layout_of p.nodes (node_at p k))
  there k c lk lc = omega (arith, lc, ap (λ (ss : List (List ℕ)). length (keys_at ss k)) wanted.saved_is, laws.names.blocks_are k (within k lk))

  pub keys-known : AreSavedKeys facts w
  keys-known = record {
    layouts_are = saves-known.layouts_are ∙ sym saves-known.keys;
    blocks_are = λ k lt. (saves-known.blocks_are k (omega (arith, lt, saves-known.keys))).count;
    named = λ k c lk lc.
        let N : List (List ℕ) → Names → Type 0 = λ saved names. slice_index_or names (slice_index_or (keys_at saved k) c 0) None ≡ Some (node_at p k, c) in
        let here : N (lowered p.nodes (nodes_saved p)).saved (lowered p.nodes (nodes_saved p)).names = laws.names.saved k c (within k lk) (there k c lk lc) in
        record { node = node_at p k; name_is = subst (λ ns. N w.saved ns) (sym wanted.names_are) (subst (λ ss. N ss (lowered p.nodes (nodes_saved p)).names) (sym wanted.saved_is) here) };
    shapes = λ k c b lk lc fits. (saves-known.blocks_are k (omega (arith, lk, saves-known.keys))).there c lc b fits;
  }

  pub keys-small : (k c : ℕ) → k < length w.saved → c < length (keys_at w.saved k) → slice_index_or (keys_at w.saved k) c 0 < length (tasks_of p)
  keys-small k c lk lc =
      subst (λ (ss : List (List ℕ)). slice_index_or (keys_at ss k) c 0 < length (tasks_of p)) (sym wanted.saved_is) (laws.order.saved k c (within k lk) (there k c lk lc))

  -- ## Nothing is had

  none-had : (had : List Bool) (keys : ℕ) → had ≡ replicate keys false → (key : ℕ) → key < keys → had_in had key ≡ false
  none-had had keys is key lt = ap (λ (h : List Bool). slice_index_or h key true) is ∙ get_or-replicate keys key false true lt

  not-had : (b : Bool) → b ≡ true → b ≡ false → ⊥
  not-had true is never = cc
  not-had false is never = cc

  fresh-boxes : (layout : List (List ℕ)) (keys : List ℕ) (had : List Bool) (dims : List ℕ) (c : Content) → lengths layout ≡ dims → ((n : ℕ) → n < length keys → had_in had (slice_index_or keys n 0) ≡ false) →
      OnTold c (λ bytes. (a : Array) → IsOf dims a → IsFilling a [] bytes) → OnTold c (λ bytes. (a : Array) → IsMadeOf facts layout keys a → HasBoxes layout keys had None a bytes)
  fresh-boxes layout keys had dims (Told bytes) same never filling = λ a made. record {
    boxes = [];
    filling = filling a (subst (λ ns. IsOf ns a) same made.lengths_are);
    all = λ e n lt was. absurd (not-had (had_in had (slice_index_or keys n 0)) was (never n lt));
  }
  fresh-boxes layout keys had dims (Untold size) same never filling = tt

  pub none-saved : (keys : ℕ) (had : List Bool) (tells : Bool) (files : List Saving) → keys ≡ length (tasks_of p) → had ≡ replicate keys false → AreOpenFor p files → AreFresh p tells files → AreSaved facts (record { files = files; had = had; fault = None; wanted = w })
  none-saved keys had tells files many none open_is fresh =
      let all : length had ≡ keys = ap length none ∙ length-replicate keys false in
      record {
        keys_are = keys-known;
        small = λ k c lk lc. omega (arith, keys-small k c lk lc, all, many);
        count = open_is.count ∙ sym saves-known.keys;
        dims = λ k lt. let l : k < length p.saves = omega (arith, lt, open_is.count) in open_is.dims k l ∙ saves-known.shapes k l;
        fit = λ key lt e. absurd (not-had (had_in had key) e (none-had had keys none key (omega (arith, lt, all))));
        filled = λ k lt.
            let l : k < length p.saves = omega (arith, lt, open_is.count) in
            let lk : k < length w.saved = omega (arith, l, saves-known.keys) in
            fresh-boxes (layout_at w.layouts k) (keys_at w.saved k) had (shape_at p.nodes (node_at p k)) (saving_at files k).content (sym (saves-known.shapes k l))
            (λ n ln. none-had had keys none (slice_index_or (keys_at w.saved k) n 0) (omega (arith, keys-small k n lk ln, many))) (fresh k l).filling;
        failed = λ e. absurd cc;
      }

pub has-none : (keys : ℕ) (w : Wanted) (files : List Saving) (had : List Bool) → had ≡ replicate keys false → HasNone keys w (record { files = files; had = had; fault = None; wanted = w })
has-none keys w files had is = record {
  wanted_is = refl;
  keys_are = ap length is ∙ length-replicate keys false;
  none = λ key lt. ap (λ (h : List Bool). slice_index_or h key true) is ∙ get_or-replicate keys key false true lt;
  sound = refl;
}

-- the files are all as they were
pub leaves-none : (p : Plan) (files : Files) → LeavesAll p files files
leaves-none p files = λ k a lt is. inl refl
