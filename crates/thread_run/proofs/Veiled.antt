-- Files as a veiled store tells them.
use Rattle.std.proofs.Common.{◌≡◌, ℕ, zero, suc, List, [], ◌∷◌, length, refl, ap, sym, subst, Bool, true, false}
use Rattle.std.proofs.lemmas.List.{length-map}
use Rattle.io_edge.specs.Content.{Content, Untold, Reads, file_at, size_of}
use Rattle.thread_run.specs.Feeding.{veiled}

pub count_veiled : (told : Bool) (files : List Content) → length (veiled told files) ≡ length files
count_veiled true files = refl
count_veiled false files = length-map files (λ f. Untold (size_of f))

pub file_hidden : (files : List Content) (k : ℕ) → file_at (veiled false files) k ≡ Untold (size_of (file_at files k))
file_hidden [] zero = refl
file_hidden [] (suc k) = refl
file_hidden (f ∷ files) zero = refl
file_hidden (f ∷ files) (suc k) = file_hidden files k

pub size_veiled : (told : Bool) (files : List Content) (k : ℕ) → size_of (file_at (veiled told files) k) ≡ size_of (file_at files k)
size_veiled true files k = refl
size_veiled false files k = ap size_of (file_hidden files k)

pub reads_veiled : (told : Bool) (files : List Content) (k offset : ℕ) (old new : List ℕ) (n : ℕ) → Reads (file_at files k) offset old new n → Reads (file_at (veiled told files) k) offset old new n
reads_veiled true files k offset old new n r = r
reads_veiled false files k offset old new n r =
    let hidden : Reads (Untold (size_of (file_at files k))) offset old new n = record { bound = r.bound; at_end = r.at_end; inside = r.inside; told = tt } in
    subst (λ f. Reads f offset old new n) (sym (file_hidden files k)) hidden
