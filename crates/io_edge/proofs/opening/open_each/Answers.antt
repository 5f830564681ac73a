use Rattle.std.proofs.Common.{true, map, string_bytes, take, ◌≡◌, arith}
use Rattle.std.proofs.lemmas.List.{map_push, take_all, length-map}
use Rattle.small_facts.proofs.Results.{on_err_from}
use Rattle.io_edge.specs.Book.{book_files}
use Rattle.io_edge.proofs.OpeningLaws.{one_more_name, knows_item, knows_kept, opens_then, opens_no_names, opens_up_to, shows_then, shows_none, shown_as}
use Rattle.io_edge.proofs.opening.open_each.Goals as goal

pub loop-at-init : goal.loop-at-init
loop-at-init c = record { known = c.requires; opens = opens_no_names _; shows = shows_none _ }

pub open_one-requires : goal.open_one-requires
open_one-requires c = knows_item c.args.names.now c.loop-at.at c.index-names-at.result _ c.loop-at.book c.loop-at-test.true c.index-names-at.is c.as_str.ensures.value c.loop-at.invariant.known

pub returns-in_err-open_one-clause-err : goal.returns-in_err-open_one-clause-err
returns-in_err-open_one-clause-err c =
    let e = one_more_name c.args.names.now c.loop-at.at c.index-names-at.result c.as_str.result.now c.loop-at-test.true c.index-names-at.is c.as_str.ensures.value in
    on_err_from c.from_residual.result (opens_up_to (map string_bytes c.args.names.now) c.loop-at.at (book_files true c.args.book.now) (book_files true c.open_one.new.book)
    (omega (arith, c.loop-at-test.true, length-map c.args.names.now string_bytes))
    (rw e (opens_then _ _ (book_files true c.args.book.now) (book_files true c.loop-at.book) (book_files true c.open_one.new.book) c.loop-at.invariant.opens c.open_one.ensures.opens)))

pub loop-at-preserved : goal.loop-at-preserved
loop-at-preserved c =
    let e = one_more_name c.args.names.now c.loop-at.at c.index-names-at.result c.as_str.result.now c.loop-at-test.true c.index-names-at.is c.as_str.ensures.value in
    record {
      known = knows_kept _ c.loop-at.book c.open_one.new.book c.loop-at.invariant.known c.open_one.ensures.keeps;
      opens = rw e (opens_then _ _ (book_files true c.args.book.now) (book_files true c.loop-at.book) (book_files true c.open_one.new.book) c.loop-at.invariant.opens c.open_one.ensures.opens);
      shows = rw (e, map_push) (shows_then _ _ (book_files true c.args.book.now) (book_files true c.loop-at.book) (book_files true c.open_one.new.book) _ _
          c.loop-at.invariant.opens c.open_one.ensures.opens c.loop-at.invariant.shows
          (shown_as _ (book_files true c.args.book.now) (book_files true c.loop-at.book) (book_files true c.open_one.new.book) c.loop-at.invariant.opens.held (c.in_ok-open_one.ensures.shows)));
    }

pub returns-clause-shows : goal.returns-clause-shows
returns-clause-shows c =
    let e : take c.loop-at.at (map string_bytes c.args.names.now) ≡ map string_bytes c.args.names.now = take_all c.loop-at.at (map string_bytes c.args.names.now) (omega (arith, c.loop-at-test.false, length-map c.args.names.now string_bytes)) in
    rw e at c.loop-at.invariant.shows
