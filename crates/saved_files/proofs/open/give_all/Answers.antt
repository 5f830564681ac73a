use Rattle.std.proofs.Common.{◌≡◌, ◌∙◌, map, length, sym, subst, arith, rules}
use Rattle.std.proofs.lemmas.Iterator.Adapters.{YieldsList-from_vec}
use Rattle.std.proofs.lemmas.Iterator.Consumers.{YieldsList-end, YieldsList-turn}
use Rattle.std.proofs.lemmas.List.{map-id, map_push}
use Rattle.saved_files.specs.Kept.{saving_of}
use Rattle.saved_files.specs.Saving.{GivesBack, TakesAll}
use Rattle.saved_files.proofs.Given.{gives_more, gives_none, only_more, only_none, takes_more, takes_none, was_created}
use Rattle.saved_files.proofs.open.give_all.Goals as goal

pub loop-opened-init : goal.loop-opened-init
loop-opened-init g c = record {
  gives = gives_none (g.S.Site.view c.args.site.now).files;
  only = only_none (g.S.Site.view c.args.site.now);
  later = omega arith;
  takes = takes_none (g.S.Site.view c.args.site.now).write_faults;
}

pub give_file-requires : goal.give_file-requires
give_file-requires g c =
    let f = saving_of g.S.Out.OutFile.named g.S.Out.OutFile.content g.S.Out.OutFile.count in
    let items = c.args.files.items in
    let turn = YieldsList-turn (YieldsList-from_vec {s = c.into_iter-opened-iterator.result} items (search rules) (search rules)) c.loop-opened.yielded c.loop-opened.opened-iterator c.loop-opened.yielded_by c.next.result c.next.new.self c.in-Some.opened c.in-Some.is c.next.ensures.steps in
    was_created f items (length c.loop-opened.yielded) c.in-Some.opened (g.S.Site.view c.args.site.now).files (g.S.Site.view c.loop-opened.site).files turn.0 turn.1 c.loop-opened.invariant.gives.created c.requires

pub loop-opened-preserved : goal.loop-opened-preserved
loop-opened-preserved g c =
    let f = saving_of g.S.Out.OutFile.named g.S.Out.OutFile.content g.S.Out.OutFile.count in
    let e = map_push f c.loop-opened.yielded c.in-Some.opened in
    let done = map f c.loop-opened.yielded in
    let old = g.S.Site.view c.args.site.now in
    let mid = g.S.Site.view c.loop-opened.site in
    let new = g.S.Site.view c.give_file.new.self in
    let b = c.loop-opened.invariant in
    let n = c.give_file.ensures in
    record {
      gives = rw e (gives_more done (f c.in-Some.opened) old.files mid.files new.files b.gives (record { held = n.held; tells = n.tells; size = n.size; opened = n.opened; created = n.created }));
      only = only_more old mid new b.only n.only;
      later = omega (arith, b.later, n.cause.later);
      takes = rw e (takes_more done (f c.in-Some.opened) old.write_faults mid.write_faults new.write_faults b.takes b.later n.cause n.kept);
    }

pub returns-clause-gives : goal.returns-clause-gives
returns-clause-gives g c =
    let f = saving_of g.S.Out.OutFile.named g.S.Out.OutFile.content g.S.Out.OutFile.count in
    let end = YieldsList-end (YieldsList-from_vec {s = c.into_iter-opened-iterator.result} c.args.files.items (search rules) (search rules)) c.loop-opened.yielded c.loop-opened.opened-iterator c.loop-opened.yielded_by c.next.result c.next.new.self c.in-None.is c.next.ensures.steps in
    let all : c.loop-opened.yielded ≡ c.args.files.items = sym (map-id c.loop-opened.yielded) ∙ end.0 in
    subst (λ items. GivesBack (map f items) (g.S.Site.view c.args.site.now).files (g.S.Site.view c.loop-opened.site).files) all c.loop-opened.invariant.gives

pub returns-clause-cause : goal.returns-clause-cause
returns-clause-cause g c =
    let f = saving_of g.S.Out.OutFile.named g.S.Out.OutFile.content g.S.Out.OutFile.count in
    let end = YieldsList-end (YieldsList-from_vec {s = c.into_iter-opened-iterator.result} c.args.files.items (search rules) (search rules)) c.loop-opened.yielded c.loop-opened.opened-iterator c.loop-opened.yielded_by c.next.result c.next.new.self c.in-None.is c.next.ensures.steps in
    let all : c.loop-opened.yielded ≡ c.args.files.items = sym (map-id c.loop-opened.yielded) ∙ end.0 in
    subst (λ items. TakesAll (map f items) (g.S.Site.view c.args.site.now).write_faults (g.S.Site.view c.loop-opened.site).write_faults) all c.loop-opened.invariant.takes
