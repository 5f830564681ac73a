use Rattle.std.proofs.Common.{◌≡◌, map, take, true, string_bytes}
use Rattle.io_edge.specs.Book.{book_files, contents}
use Rattle.io_edge.proofs.opening.copy_all.Given as goal

abbrev pub invariant-loop-name : goal.invariant-loop-name
invariant-loop-name l = map (λ f. f.items) l.files.items ≡ map (contents (book_files true l.book)) (take l.name-index (map string_bytes l.names))
