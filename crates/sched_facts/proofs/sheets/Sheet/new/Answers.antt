use Rattle.std.proofs.Common.{◌+◌, ◌/◌, refl, ap, ◌∙◌, arith, get_or, vec_capacity}
use Rattle.std.proofs.lemmas.List.FromFn.{length-map-range_with_len}
use Rattle.sched_facts.specs.Sheets.{member}
use Rattle.sched_facts.proofs.SheetLemmas.{sheet_none, members_none}
use Rattle.sched_facts.proofs.sheets.Sheet.new.Goals as goal

pub invariant_of-result : goal.invariant_of-result
invariant_of-result g c =
    sheet_none c.args.rest c.args.keys (c.args.keys / 128 + 1) c.in_ok-places.places.items c.add_page.new.items.items (vec_capacity c.add_page.new.items) (c.in_ok-places.ensures.items_if_clones_equal (λ y e. e)) refl
    (omega (arith, c.add_page.ensures.length, c.in_ok-items.ensures.len, c.add_page.new.items.ok.0))
    (λ k. c.add_page.ensures.same k ∙ ap (λ xs. get_or xs k c.args.rest) c.in_ok-items.ensures.items)
    (omega (arith, c.add_page.ensures.capacity, c.in_ok-items.ensures.exact))

pub returns-clause-length : goal.returns-clause-length
returns-clause-length g c = length-map-range_with_len (member c.args.rest c.in_ok-places.places.items c.add_page.new.items.items) 0 c.args.keys

pub returns-clause-same : goal.returns-clause-same
returns-clause-same g c =
    members_none c.args.rest c.in_ok-places.places.items c.add_page.new.items.items c.args.keys (λ k. c.add_page.ensures.same k ∙ ap (λ xs. get_or xs k c.args.rest) c.in_ok-items.ensures.items)
