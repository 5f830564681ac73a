use Rattle.spill_store.proofs.store.SpillStore.has_room.Goals as goal

pub returns-in-Some : goal.returns-in-Some
returns-in-Some g c = λ t. ((c.in-Some.field-0.0, c.in-Some.field-0.1.now.array), c.in-Some.ensures)
