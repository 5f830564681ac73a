use Rattle.std.proofs.Common.{◌≡◌, ◌∙◌, false, Option, None, Some, Bor, sym}
use Rattle.std.specs.Option.{is_some, option_copied}
use Rattle.std.proofs.lemmas.Bool.{true≢false}
use Rattle.fact_rows.specs.Rows.{cell}
use Rattle.cluster_nodes.proofs.Places.{put_there}
use Rattle.cluster_nodes.proofs.shelve.bring_one.Goals as goal

-- what a look into a place says where it finds nothing
none_there : {A : Type 0} (o : Option (Bor A)) (x : Option A) → option_copied o ≡ x → is_some o ≡ false → x ≡ None
none_there None x e h = sym e
none_there (Some b) x e h = absurd (true≢false h)

pub returns-clause-meaning : goal.returns-clause-meaning
returns-clause-meaning g c =
    put_there (cell c.args.shelf.now None) (cell c.put.new.self None) c.args.node c.args.key (g.H.Holder.counted c.args.holder.now) c.args.block
    (sym c.counts.ensures ∙ c.if-not-counts.false) (none_there c.look.result _ c.look.ensures (sym c.is_some.ensures ∙ c.if-is_some.false)) c.put.ensures.meaning
