use Rattle.std.proofs.Common.{◌≡◌, ◌<◌, ℕ, Bool, true, false, ◌&&◌, List, Option, None, refl, sym, subst, cond, take, get_or, length, rules, arith}
use Rattle.std.specs.Prelude.{◌==◌}
use Rattle.std.specs.declared.sync.Arc.{Arc}
use Rattle.std.specs.declared.alloc.Global.{Global}
use Rattle.std.proofs.lemmas.List.{take_more}
use Rattle.cluster_rules.specs.Derived.{is_in}
use Rattle.fact_rows.specs.Rows.{cell}
use Rattle.cluster_nodes.proofs.Places.{touch_none, touch_more}
use Rattle.cluster_nodes.proofs.shelve.keep.Goals as goal

once : {A : Type 0} (b : Bool) (x : Option A) → cond b (cond b x None) None ≡ cond b x None
once true x = refl
once false x = refl

pub loop-key-init : goal.loop-key-init
loop-key-init g c = record {
  done = λ w k. touch_none (λ q x. cond (g.H.Holder.counted c.args.holder.now q) x None) (cell c.args.shelf.now None) c.args.node w k;
  high = search rules;
  wide = search rules;
}

pub loop-key-preserved : goal.loop-key-preserved
loop-key-preserved g c =
    let ks = c.args.lost.now in
    let i = c.loop-key.key-index in
    let l : i < length ks = omega arith in
    let change = λ (q : ℕ) (x : Option (Arc g.row.B.Denot Global)). cond (g.H.Holder.counted c.args.holder.now q) x None in
    let was = cell c.args.shelf.now None in
    record {
      done = subst (λ (ys : List ℕ). (w k : ℕ) → cell c.keep_one.new.shelf None w k ≡ cond (w == c.args.node && is_in k ys) (change k (was w k)) (was w k)) (sym (take_more ks i 0 l))
          (touch_more change (λ q x. once (g.H.Holder.counted c.args.holder.now q) x) was (cell c.loop-key.shelf None) (cell c.keep_one.new.shelf None) c.args.node (get_or ks i 0) (take i ks) c.keep_one.ensures.meaning c.loop-key.invariant.done);
      high = search rules;
      wide = search rules;
    }
