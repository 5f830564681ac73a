use Rattle.std.proofs.Common.{◌≡◌, length, subst, arith, rules}
use Rattle.std.proofs.lemmas.Result.{err_from_is_err_and, on_ok_weaker}
use Rattle.msgpack_frames.specs.declared.value.Value.{the_lemmas}
use Rattle.msgpack_frames.specs.Data.{integer, text, binary}
use Rattle.msgpack_frames.specs.Spelling.{IsValid, fault_of, Tells}
use Rattle.msgpack_frames.specs.View.{view}
use Rattle.msgpack_frames.proofs.Faults.{array_begins, array_goes, array_spelled, map_begins, map_goes, map_spelled}
use Rattle.msgpack_frames.proofs.encoder.+write.Goals as goal

pub put-returns-in_ok-put_integer-in-Int-clause-valid : goal.put-returns-in_ok-put_integer-in-Int-clause-valid
put-returns-in_ok-put_integer-in-Int-clause-valid t c =
    let seen : integer c.in-Int.integer ≡ view c.args.value.now = rw c.in-Int.is (search (rules, the_lemmas)) in
    subst IsValid seen c.put_integer.ensures.range

pub put-returns-in-Str-clause-fault : goal.put-returns-in-Str-clause-fault
put-returns-in-Str-clause-fault t c =
    let seen : text c.as_str.result.now ≡ view c.args.value.now = rw c.in-Str.is (search (rules, the_lemmas)) in
    subst (λ d. Tells c.put_text.result (fault_of c.args.depth d)) seen (c.put_text.ensures.fault c.args.depth)

pub put-returns-in-Bin-clause-fault : goal.put-returns-in-Bin-clause-fault
put-returns-in-Bin-clause-fault t c =
    let seen : binary c.deref.result.now ≡ view c.args.value.now = rw c.in-Bin.is (search (rules, the_lemmas)) in
    subst (λ d. Tells c.put_binary.result (fault_of c.args.depth d)) seen (c.put_binary.ensures.fault c.args.depth)

pub put_array-returns-in_err-begin-clause-fault : goal.put_array-returns-in_err-begin-clause-fault
put_array-returns-in_err-begin-clause-fault t c =
    let len : c.len.result ≡ length c.args.items.now.items = search rules in
    let p = err_from_is_err_and c.from_residual.result c.from_residual.ensures.1 in
    rw (p.1, p.2) (array_begins c.args.depth c.len.result c.args.items.now.items (omega arith) len c.in_err-begin.field-0.0 c.in_err-begin.ensures.fault)

pub put_array-returns-clause-ok : goal.put_array-returns-clause-ok
put_array-returns-clause-ok t c =
    let len : c.len.result ≡ length c.args.items.now.items = search rules in
    on_ok_weaker c.put_items.result (array_spelled c.args.depth c.len.result c.args.items.now.items (omega arith) len c.args.out.now.items c.begin.new.out.items c.put_items.new.out.items c.in_ok-begin.ensures.ok) c.put_items.ensures.ok

pub put_array-returns-clause-fault : goal.put_array-returns-clause-fault
put_array-returns-clause-fault t c =
    let len : c.len.result ≡ length c.args.items.now.items = search rules in
    array_goes c.args.depth c.len.result c.args.items.now.items (omega arith) len c.put_items.result c.in_ok-begin.ensures.fault c.put_items.ensures.fault

pub put_map-returns-in_err-begin-clause-fault : goal.put_map-returns-in_err-begin-clause-fault
put_map-returns-in_err-begin-clause-fault t c =
    let len : c.len.result ≡ length c.args.pairs.now.items = search rules in
    let p = err_from_is_err_and c.from_residual.result c.from_residual.ensures.1 in
    rw (p.1, p.2) (map_begins c.args.depth c.len.result c.args.pairs.now.items (omega arith) len c.in_err-begin.field-0.0 c.in_err-begin.ensures.fault)

pub put_map-returns-clause-ok : goal.put_map-returns-clause-ok
put_map-returns-clause-ok t c =
    let len : c.len.result ≡ length c.args.pairs.now.items = search rules in
    on_ok_weaker c.put_pairs.result (map_spelled c.args.depth c.len.result c.args.pairs.now.items (omega arith) len c.args.out.now.items c.begin.new.out.items c.put_pairs.new.out.items c.in_ok-begin.ensures.ok) c.put_pairs.ensures.ok

pub put_map-returns-clause-fault : goal.put_map-returns-clause-fault
put_map-returns-clause-fault t c =
    let len : c.len.result ≡ length c.args.pairs.now.items = search rules in
    map_goes c.args.depth c.len.result c.args.pairs.now.items (omega arith) len c.put_pairs.result c.in_ok-begin.ensures.fault c.put_pairs.ensures.fault
