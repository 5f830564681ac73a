use Rattle.std.proofs.Common.{◌≡◌, ap, ◌∙◌, arith, length, get_or, vec_capacity}
use Rattle.sched_facts.specs.Sheets.{spot_of}
use Rattle.sched_facts.proofs.SheetLemmas.{key-lt, place-lt, spot-lt, read_member}
use Rattle.sched_facts.proofs.sheets.Sheet.get.Goals as goal

pub spot-requires : goal.spot-requires
spot-requires g c =
    let s = c.self.inside in
    omega (arith, place-lt s.rest s.keys s.places.items s.items.items (vec_capacity s.items) c.args.key c.self.invariant (key-lt s.rest s.places.items s.items.items s.keys c.args.key (rw (← c.self.view_is) at c.requires)), ap length c.as_slice.ensures.value)

pub index-requires : goal.index-requires
index-requires g c =
    let s = c.self.inside in
    let at : c.spot.result ≡ spot_of s.places.items c.args.key = c.spot.ensures ∙ ap (λ ps. spot_of ps c.args.key) c.as_slice.ensures.value in
    omega (arith, at, spot-lt s.rest s.places.items s.items.items c.args.key c.self.invariant.paged, s.items.ok.0)

pub returns : goal.returns
returns g c d =
    let s = c.self.inside in
    let at : c.spot.result ≡ spot_of s.places.items c.args.key = c.spot.ensures ∙ ap (λ ps. spot_of ps c.args.key) c.as_slice.ensures.value in
    rw (← c.self.view_is) (read_member s.rest s.places.items s.items.items s.keys c.args.key c.index.result.now d c.self.invariant.paged (key-lt s.rest s.places.items s.items.items s.keys c.args.key (rw (← c.self.view_is) at c.requires)) (c.index.ensures ∙ ap (λ n. get_or s.items.items n c.index.result.now) at))
