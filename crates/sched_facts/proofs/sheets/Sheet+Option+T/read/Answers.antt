use Rattle.std.proofs.Common.{◌≡◌, None, sym, ap, ◌∙◌, arith, get_or}
use Rattle.sched_facts.specs.Sheets.{spot_of, member}
use Rattle.sched_facts.proofs.SheetLemmas.{spot-lt, read_member, read_past}
use Rattle.sched_facts.proofs.sheets.Sheet+Option+T.read.Goals as goal

pub index-requires : goal.index-requires
index-requires g c =
    let s = c.self.inside in
    let at : c.spot.result ≡ spot_of s.places.items c.args.key = c.spot.ensures ∙ ap (λ ps. spot_of ps c.args.key) c.as_slice.ensures.value in
    omega (arith, at, spot-lt s.rest s.places.items s.items.items c.args.key c.self.invariant.paged, s.items.ok.0)

pub returns-then-key-self : goal.returns-then-key-self
returns-then-key-self g c =
    let s = c.self.inside in
    let at : c.spot.result ≡ spot_of s.places.items c.args.key = c.spot.ensures ∙ ap (λ ps. spot_of ps c.args.key) c.as_slice.ensures.value in
    rw (← c.self.view_is) (read_member s.rest s.places.items s.items.items s.keys c.args.key c.index.result.now None c.self.invariant.paged c.if-key-self.true (c.index.ensures ∙ ap (λ n. get_or s.items.items n c.index.result.now) at))

pub returns-else-key-self : goal.returns-else-key-self
returns-else-key-self g c =
    let s = c.self.inside in
    rw (← c.self.view_is) (sym (read_past (member s.rest s.places.items s.items.items) s.keys c.args.key None c.if-key-self.false))
