-- Lists that have a front of another list behind them.
use Rattle.std.proofs.Common.{◌≡◌, List, [], ◌++◌, length, take, drop, refl, sym, ap, ◌∙◌, append-nil}
use Rattle.std.proofs.lemmas.List.{take-append-drop}
use Rattle.std.specs.Prelude.{Result, Ok, Err, OnErr}
use Rattle.cluster_msgs.specs.declared.cores.Outbox.{Outbox}
use Rattle.scheduler_core.specs.Sent.{HasFront, HasGrown}

pub none_of : {A : Type 0} (o m : List A) → HasFront o m o
none_of o m = record { front = []; rest = m; whole = refl; grown = sym (append-nil o) }

pub all_of : {A : Type 0} (o m n : List A) → n ≡ o ++ m → HasFront o m n
all_of o m n e = record { front = m; rest = []; whole = sym (append-nil m); grown = e }

-- as many as there are in this list
pub front_of : {A : Type 0} (o m ys n : List A) → ys ≡ take (length ys) m → n ≡ o ++ ys → HasFront o m n
front_of o m ys n e g = record {
  front = ys;
  rest = drop (length ys) m;
  whole = sym (take-append-drop (length ys) m) ∙ ap (λ l. l ++ drop (length ys) m) (sym e);
  grown = g;
}

-- nothing of any list
pub not_grown : (o m : Outbox) → HasGrown o m o
not_grown o m = record { down = none_of o.down m.down; clients = none_of o.clients m.clients; joined = none_of o.joined m.joined }

pub err_then : {A E : Type 0} (r : Result A E) (P Q : Type 0) → OnErr r P → (P → Q) → OnErr r Q
err_then (Ok x) P Q p h = tt
err_then (Err e) P Q p h = h p
