use Rattle.std.proofs.Common.{◌≡◌, ◌∙◌, ap}
use Rattle.std.specs.List.{insert, position_or_len}
use Rattle.cluster_rules.specs.World.{parcel_before}
use Rattle.message_queues.specs.declared.transit.InTransit.{InTransit}
use Rattle.message_queues.specs.Transit.{parcel_of_transit, parcels, with_transit}
use Rattle.message_queues.proofs.QueueLemmas.{with_transit-insert, parcels-with}
use Rattle.message_queues.proofs.transit.Transits.insert.Goals as goal

pub returns-clause-ok : goal.returns-clause-ok
returns-clause-ok g c =
    let kept : c.insert.new.self.items ≡ with_transit c.args.item c.self.inside.items.items
    = c.in_ok-insert.ensures.items
    ∙ ap (λ n. insert c.self.inside.items.items n c.args.item) (c.place_for-place.ensures.place ∙ ap (position_or_len (λ (x : InTransit g.row.B.Denot). parcel_before (parcel_of_transit c.args.item) (parcel_of_transit x))) c.as_slice.ensures.value)
    ∙ with_transit-insert c.args.item c.self.inside.items.items in
    rw (← c.self.view_is) kept

pub returns-clause-parcels : goal.returns-clause-parcels
returns-clause-parcels g c =
    let kept : c.insert.new.self.items ≡ with_transit c.args.item c.self.inside.items.items
    = c.in_ok-insert.ensures.items
    ∙ ap (λ n. insert c.self.inside.items.items n c.args.item) (c.place_for-place.ensures.place ∙ ap (position_or_len (λ (x : InTransit g.row.B.Denot). parcel_before (parcel_of_transit c.args.item) (parcel_of_transit x))) c.as_slice.ensures.value)
    ∙ with_transit-insert c.args.item c.self.inside.items.items in
    rw (← c.self.view_is) (ap parcels kept ∙ parcels-with c.args.item c.self.inside.items.items)
