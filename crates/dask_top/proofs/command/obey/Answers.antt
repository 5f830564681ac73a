use Rattle.std.proofs.Common.{map, string_bytes, sym, ◌∙◌}
use Rattle.dask_top.proofs.Obeying.{no_name, refused_words}
use Rattle.dask_top.proofs.command.obey.Goals as goal

pub returns : goal.returns
returns g c =
    let words = map string_bytes c.args.words.now in
    refused_words words (g.S.Site.view c.args.site.now) (g.S.Site.view c.tell_text.new.site) c.tell_text.result
    (no_name words c.requires (sym c.begins.ensures ∙ c.if-begins.false) (sym c.begins-2.ensures ∙ c.if-begins-2.false) (sym c.begins-3.ensures ∙ c.if-begins-3.false))
    c.tell_text.ensures.told c.tell_text.ensures.only c.tell_text.ensures.notes
