use Rattle.std.proofs.Common.{◌≡◌, ◌-◌, ◌∷◌, ◌++◌, [], length, get_or, take, drop, ap, ◌∙◌, arith, rules}
use Rattle.std.proofs.lemmas.Result.{err_from_is_err_and}
use Rattle.std.proofs.lemmas.List.{nil_from_length}
use Rattle.msgpack_frames.specs.Data.{array, dictionary}
use Rattle.msgpack_frames.specs.View.{view, items_view, pairs_view}
use Rattle.msgpack_frames.specs.Reading.{items_at, pairs_at, value_at}
use Rattle.msgpack_frames.specs.declared.value.Value.{Array, Map, the_lemmas}
use Rattle.msgpack_frames.proofs.Depths.{array_too_deep, array_fails, array_read, map_too_deep, map_fails, map_read, value_at-nil, value_at-front, front_and_rest}
use Rattle.msgpack_frames.proofs.Loops.{item_more, item_fails, items_done, pair_more, key_fails, value_fails, pairs_done}
use Rattle.msgpack_frames.proofs.decoder.+read.Goals as goal

pub array_of-returns-then-depth-eq0 : goal.array_of-returns-then-depth-eq0
array_of-returns-then-depth-eq0 t c = array_too_deep c.args.total c.args.depth c.args.len c.args.bytes.now c.if-depth-eq0.true

pub array_of-returns-in_err-items : goal.array_of-returns-in_err-items
array_of-returns-in_err-items t c =
    let p = err_from_is_err_and c.from_residual.result c.from_residual.ensures.1 in
    rw (p.1, p.2) (array_fails c.args.total c.args.depth c.args.len c.args.bytes.now c.in_err-items.field-0.0 (omega arith) (c.in_err-items.ensures))

pub array_of-returns : goal.array_of-returns
array_of-returns t c =
    let seen : view (Array c.in_ok-items.items) ≡ array (items_view c.in_ok-items.items.items) = search (rules, the_lemmas) in
    rw seen (array_read c.args.total c.args.depth c.args.len c.args.bytes.now (items_view c.in_ok-items.items.items) c.in_ok-items.rest.now (omega arith) (c.in_ok-items.ensures))

pub items_of-returns-in_err-item : goal.items_of-returns-in_err-item
items_of-returns-in_err-item t c =
    let p = err_from_is_err_and c.from_residual.result c.from_residual.ensures.1 in
    rw (p.1, p.2) (item_fails (value_at c.args.total c.args.depth) c.args.len c.items.counter c.items.rest.now c.in_err-item.field-0.0 c.items.items.items (items_at (value_at c.args.total c.args.depth) c.args.len c.args.bytes.now) c.items-test.true (c.in_err-item.ensures) c.items.invariant)

pub items_of-items-preserved : goal.items_of-items-preserved
items_of-items-preserved t c =
    let pushed : c.push.new.self.items ≡ c.items.items.items ++ c.in_ok-item.item ∷ [] = c.in_ok-push.ensures.items in
    rw pushed (item_more (value_at c.args.total c.args.depth) c.args.len c.items.counter c.items.rest.now c.items.items.items c.in_ok-item.item c.in_ok-item.after.now (items_at (value_at c.args.total c.args.depth) c.args.len c.args.bytes.now) c.items-test.true (c.in_ok-item.ensures) c.items.invariant)

pub items_of-returns : goal.items_of-returns
items_of-returns t c = items_done (value_at c.args.total c.args.depth) c.args.len c.items.counter c.items.rest.now c.items.items.items (items_at (value_at c.args.total c.args.depth) c.args.len c.args.bytes.now) c.items-test.false c.items.invariant

pub map_of-returns-then-depth-eq0 : goal.map_of-returns-then-depth-eq0
map_of-returns-then-depth-eq0 t c = map_too_deep c.args.total c.args.depth c.args.len c.args.bytes.now c.if-depth-eq0.true

pub map_of-returns-in_err-pairs : goal.map_of-returns-in_err-pairs
map_of-returns-in_err-pairs t c =
    let p = err_from_is_err_and c.from_residual.result c.from_residual.ensures.1 in
    rw (p.1, p.2) (map_fails c.args.total c.args.depth c.args.len c.args.bytes.now c.in_err-pairs.field-0.0 (omega arith) (c.in_err-pairs.ensures))

pub map_of-returns : goal.map_of-returns
map_of-returns t c =
    let seen : view (Map c.in_ok-pairs.pairs) ≡ dictionary (pairs_view c.in_ok-pairs.pairs.items) = search (rules, the_lemmas) in
    rw seen (map_read c.args.total c.args.depth c.args.len c.args.bytes.now (pairs_view c.in_ok-pairs.pairs.items) c.in_ok-pairs.rest.now (omega arith) (c.in_ok-pairs.ensures))

pub pairs_of-returns-in_err-key : goal.pairs_of-returns-in_err-key
pairs_of-returns-in_err-key t c =
    let p = err_from_is_err_and c.from_residual.result c.from_residual.ensures.1 in
    rw (p.1, p.2) (key_fails (value_at c.args.total c.args.depth) c.args.len c.pairs.counter c.pairs.rest.now c.in_err-key.field-0.0 c.pairs.pairs.items (pairs_at (value_at c.args.total c.args.depth) c.args.len c.args.bytes.now) c.pairs-test.true (c.in_err-key.ensures) c.pairs.invariant)

pub pairs_of-returns-in_err-value : goal.pairs_of-returns-in_err-value
pairs_of-returns-in_err-value t c =
    let p = err_from_is_err_and c.from_residual-in_err-value.result c.from_residual-in_err-value.ensures.1 in
    rw (p.1, p.2) (value_fails (value_at c.args.total c.args.depth) c.args.len c.pairs.counter c.pairs.rest.now c.in_err-value.field-0.0 (view c.in_ok-key.key) c.in_ok-key.after.now c.pairs.pairs.items (pairs_at (value_at c.args.total c.args.depth) c.args.len c.args.bytes.now) c.pairs-test.true (c.in_ok-key.ensures) (c.in_err-value.ensures) c.pairs.invariant)

pub pairs_of-pairs-preserved : goal.pairs_of-pairs-preserved
pairs_of-pairs-preserved t c =
    let pushed : c.push.new.self.items ≡ c.pairs.pairs.items ++ (c.in_ok-key.key, c.in_ok-value.value) ∷ [] = c.in_ok-push.ensures.items in
    rw pushed (pair_more (value_at c.args.total c.args.depth) c.args.len c.pairs.counter c.pairs.rest.now c.pairs.pairs.items (c.in_ok-key.key, c.in_ok-value.value) c.in_ok-key.after.now c.in_ok-value.after.now (pairs_at (value_at c.args.total c.args.depth) c.args.len c.args.bytes.now) c.pairs-test.true (c.in_ok-key.ensures) (c.in_ok-value.ensures) c.pairs.invariant)

pub pairs_of-returns : goal.pairs_of-returns
pairs_of-returns t c = pairs_done (value_at c.args.total c.args.depth) c.args.len c.pairs.counter c.pairs.rest.now c.pairs.pairs.items (pairs_at (value_at c.args.total c.args.depth) c.args.len c.args.bytes.now) c.pairs-test.false c.pairs.invariant

pub value_of-returns-in-empty : goal.value_of-returns-in-empty
value_of-returns-in-empty t c =
    let none : c.args.bytes.now ≡ [] = nil_from_length c.args.bytes.now (omega arith) in
    ap (value_at c.args.total c.args.depth) none ∙ value_at-nil c.args.total c.args.depth

pub value_of-returns-in-len1-up : goal.value_of-returns-in-len1-up
value_of-returns-in-len1-up t c =
    let bytes = c.args.bytes.now in
    let parts : bytes ≡ get_or bytes 0 0 ∷ take (length bytes - 1) (drop 1 bytes) = front_and_rest bytes (omega arith) in
    rw (value_at-front c.args.total c.args.depth (get_or bytes 0 0) bytes (take (length bytes - 1) (drop 1 bytes)) parts, ← c.saturating_sub-at.ensures, ← c.form_of.ensures) c.formed_of.ensures
