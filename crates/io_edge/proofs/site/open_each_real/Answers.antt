use Rattle.std.proofs.Common.{map, string_bytes, length, ◌+◌, ◌∙◌, ap, refl, arith}
use Rattle.std.proofs.lemmas.List.{map_push, length_push, length-map}
use Rattle.small_facts.proofs.Results.{on_err_from}
use Rattle.io_edge.specs.Real.{real_files}
use Rattle.io_edge.proofs.OpeningLaws.{one_more_name, knows_item, knows_kept, opens_then, opens_no_names, opens_up_to, shows_then, shows_none}
use Rattle.io_edge.proofs.site.open_each_real.Goals as goal

pub loop-name-init : goal.loop-name-init
loop-name-init g c = record {
  known = c.requires.known;
  opens = opens_no_names _;
  shows = rw c.requires.no_files (shows_none _);
  sizes = ap length c.requires.no_files;
  files_room = c.requires.files;
  sizes_room = c.requires.sizes;
  faults = c.requires.no_faults;
  gave = refl;
}

pub open_real-requires : goal.open_real-requires
open_real-requires g c = knows_item c.args.names.now c.loop-name.name-index c.name-item.result _ c.loop-name.book c.loop-name-test.true c.name-item.is c.as_str.ensures.value c.loop-name.invariant.known

pub returns-in_err-file-clause-err : goal.returns-in_err-file-clause-err
returns-in_err-file-clause-err g c =
    let e = one_more_name c.args.names.now c.loop-name.name-index c.name-item.result c.as_str.result.now c.loop-name-test.true c.name-item.is c.as_str.ensures.value in
    on_err_from c.from_residual.result (opens_up_to (map string_bytes c.args.names.now) c.loop-name.name-index (real_files c.args.book.now) (real_files c.open_real.new.book)
    (omega (arith, c.loop-name-test.true, length-map c.args.names.now string_bytes))
    (rw e (opens_then _ _ (real_files c.args.book.now) (real_files c.loop-name.book) (real_files c.open_real.new.book) c.loop-name.invariant.opens c.open_real.ensures.opens)))

pub loop-name-preserved : goal.loop-name-preserved
loop-name-preserved g c =
    let e = one_more_name c.args.names.now c.loop-name.name-index c.name-item.result c.as_str.result.now c.loop-name-test.true c.name-item.is c.as_str.ensures.value in
    record {
      known = knows_kept _ c.loop-name.book c.open_real.new.book c.loop-name.invariant.known c.open_real.ensures.keeps;
      opens = rw e (opens_then _ _ (real_files c.args.book.now) (real_files c.loop-name.book) (real_files c.open_real.new.book) c.loop-name.invariant.opens c.open_real.ensures.opens);
      shows = rw (e, c.push_reserved.ensures.sizes, map_push) (shows_then _ _ (real_files c.args.book.now) (real_files c.loop-name.book) (real_files c.open_real.new.book) _ _
          c.loop-name.invariant.opens c.open_real.ensures.opens c.loop-name.invariant.shows c.in_ok-file.ensures.shows);
      sizes = rw (c.push_reserved.ensures.sizes, length_push) (ap (λ n. n + 1) c.loop-name.invariant.sizes);
      files_room = omega (arith, c.loop-name.invariant.files_room, c.push_reserved.ensures.files_room);
      sizes_room = omega (arith, c.loop-name.invariant.sizes_room, c.push_reserved.ensures.sizes_room);
      faults = c.push_reserved.ensures.faults ∙ c.loop-name.invariant.faults;
      gave = c.push_reserved.ensures.gave ∙ c.loop-name.invariant.gave;
    }
