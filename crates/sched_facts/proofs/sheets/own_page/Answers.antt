use Rattle.std.proofs.Common.{◌≡◌, ◌+◌, ◌/◌, sym, subst, ◌∙◌, arith, length, get_or, set}
use Rattle.std.proofs.lemmas.List.{get_or_read}
use Rattle.sched_facts.specs.Sheets.{used, member, IsPaged}
use Rattle.sched_facts.proofs.SheetLemmas.{used-le, used-lt, paged_more, member_more}
use Rattle.sched_facts.proofs.sheets.own_page.Goals as goal

pub overflow_cast-len : goal.overflow_cast-len
overflow_cast-len g c = omega (arith, c.len.ensures, c.args.items.now.ok.0, c.requires.paged.long, used-le c.args.places.now.items, c.args.places.now.ok.0, c.requires.few)

pub add_page-requires : goal.add_page-requires
add_page-requires g c =
    let ps = c.args.places.now.items in
    let none : get_or ps c.args.place 0 ≡ 0 = sym (get_or_read ps c.args.place c.index.result.now (omega (arith, c.requires.place, c.args.places.now.ok.0)) c.index.ensures 0) ∙ c.if-index-ne0.false in
    omega (arith, used-lt ps c.args.place (omega (arith, c.requires.place, c.args.places.now.ok.0)) none, c.args.items.now.ok.0, c.requires.paged.long, c.args.places.now.ok.0, c.requires.room)

pub returns-clause-paged : goal.returns-clause-paged
returns-clause-paged g c =
    let ps = c.args.places.now.items in
    let none : get_or ps c.args.place 0 ≡ 0 = sym (get_or_read ps c.args.place c.index.result.now (omega (arith, c.requires.place, c.args.places.now.ok.0)) c.index.ensures 0) ∙ c.if-index-ne0.false in
    let next : c.len.result / 128 ≡ used ps + 1 = omega (arith, c.len.ensures, c.args.items.now.ok.0, c.requires.paged.long) in
    subst (λ n. IsPaged c.args.rest (set ps c.args.place n) c.add_page.new.items.items) (sym next)
    (paged_more c.args.rest ps c.args.items.now.items c.add_page.new.items.items c.args.place c.requires.paged (omega (arith, c.requires.place, c.args.places.now.ok.0)) none
    (omega (arith, c.add_page.ensures.length, c.args.items.now.ok.0, c.add_page.new.items.ok.0)) c.add_page.ensures.same)

pub returns-clause-same : goal.returns-clause-same
returns-clause-same g c k =
    let ps = c.args.places.now.items in
    let none : get_or ps c.args.place 0 ≡ 0 = sym (get_or_read ps c.args.place c.index.result.now (omega (arith, c.requires.place, c.args.places.now.ok.0)) c.index.ensures 0) ∙ c.if-index-ne0.false in
    let next : c.len.result / 128 ≡ used ps + 1 = omega (arith, c.len.ensures, c.args.items.now.ok.0, c.requires.paged.long) in
    subst (λ n. member c.args.rest (set ps c.args.place n) c.add_page.new.items.items k ≡ member c.args.rest ps c.args.items.now.items k) (sym next)
    (member_more c.args.rest ps c.args.items.now.items c.add_page.new.items.items c.args.place c.requires.paged (omega (arith, c.requires.place, c.args.places.now.ok.0)) none c.add_page.ensures.same k)
