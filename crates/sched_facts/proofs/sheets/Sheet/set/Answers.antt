use Rattle.std.proofs.Common.{◌≡◌, cond, eqb, sym, subst, ap, ◌∙◌, arith, set, vec_capacity}
use Rattle.sched_facts.specs.Sheets.{spot_of, member, IsPaged}
use Rattle.sched_facts.proofs.SheetLemmas.{key-lt, place-lt, spot-lt, paged_set, member_set, members-put}
use Rattle.sched_facts.proofs.sheets.Sheet.set.Goals as goal

pub own_page-requires-clause-place : goal.own_page-requires-clause-place
own_page-requires-clause-place g c =
    let s = c.self.inside in
    omega (arith, place-lt s.rest s.keys s.places.items s.items.items (vec_capacity s.items) c.args.key c.self.invariant (key-lt s.rest s.places.items s.items.items s.keys c.args.key (rw (← c.self.view_is) at c.requires)), s.places.ok.0)

pub index_mut-requires : goal.index_mut-requires
index_mut-requires g c =
    let s = c.self.inside in
    let places = c.own_page.new.places.items in
    let items = c.own_page.new.items.items in
    let at : c.spot-at.result ≡ spot_of places c.args.key = c.spot-at.ensures ∙ ap (λ ps. spot_of ps c.args.key) c.as_slice.ensures.value in
    omega (arith, at, spot-lt s.rest places items c.args.key c.own_page.ensures.paged, c.own_page.new.items.ok.0)

pub invariant_of-self : goal.invariant_of-self
invariant_of-self g c =
    let s = c.self.inside in
    let places = c.own_page.new.places.items in
    let items = c.own_page.new.items.items in
    let at : c.spot-at.result ≡ spot_of places c.args.key = c.spot-at.ensures ∙ ap (λ ps. spot_of ps c.args.key) c.as_slice.ensures.value in
    record {
      paged = subst (λ n. IsPaged s.rest places (set items n c.args.value)) (sym at) (paged_set s.rest places items c.args.key c.args.value c.own_page.ensures.paged c.own_page.ensures.own);
      all = omega (arith, c.own_page.ensures.length, c.own_page.new.places.ok.0, s.places.ok.0, c.self.invariant.all);
      room = omega (arith, c.own_page.ensures.length, c.own_page.ensures.capacity, c.own_page.new.places.ok.0, s.places.ok.0, c.self.invariant.room);
    }

pub returns-clause-meaning : goal.returns-clause-meaning
returns-clause-meaning g c d =
    let s = c.self.inside in
    let places = c.own_page.new.places.items in
    let items = c.own_page.new.items.items in
    let at : c.spot-at.result ≡ spot_of places c.args.key = c.spot-at.ensures ∙ ap (λ ps. spot_of ps c.args.key) c.as_slice.ensures.value in
    rw (← c.self.view_is) (members-put (member s.rest s.places.items s.items.items) (member s.rest places (set items c.spot-at.result c.args.value)) s.keys c.args.key c.args.value d (key-lt s.rest s.places.items s.items.items s.keys c.args.key (rw (← c.self.view_is) at c.requires))
    (λ k. ap (λ n. member s.rest places (set items n c.args.value) k) at ∙ member_set s.rest places items c.args.key c.args.value c.own_page.ensures.paged c.own_page.ensures.own k ∙ ap (cond (eqb k c.args.key) c.args.value) (c.own_page.ensures.same k)))
