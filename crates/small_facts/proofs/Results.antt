-- Clauses on a result from a fact that holds anyway.
use Rattle.std.proofs.Common.{Result, Ok, Err, OnOk}
use Rattle.std.specs.Prelude.{OnErr}

pub on_err_from : {T E P : Type 0} (r : Result T E) → P → OnErr r P
on_err_from (Ok x) p = tt
on_err_from (Err e) p = p

pub on_ok_from : {T E P : Type 0} (r : Result T E) → P → OnOk r P
on_ok_from (Ok x) p = p
on_ok_from (Err e) p = tt

pub on_ok_both : {A E P Q R : Type 0} (r : Result A E) → (P → Q → R) → OnOk r P → OnOk r Q → OnOk r R
on_ok_both (Ok a) f p q = f p q
on_ok_both (Err e) f p q = tt
