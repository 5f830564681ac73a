-- A key that isn't got, where none of the keys failed, and ends that a future may still have.
use Rattle.std.proofs.Common.{◌≡◌, ◌≢◌, ◌<◌, ℕ, List, length, get_or, Option, Some, None, Result, refl}
use Rattle.std.proofs.lemmas.List.Elements.{Contains-get_or}
use Rattle.std.specs.declared.sync.Arc.{Arc}
use Rattle.std.specs.declared.vec.Vec.{Vec}
use Rattle.std.specs.declared.alloc.Global.{Global}
use Rattle.cluster_msgs.specs.declared.cores.End.{End}
use Rattle.cluster_msgs.specs.declared.cores.End.TheVariants.{Got, Erred}
use Rattle.client_futures.specs.declared.rounds.PollEnd.{PollEnd}
use Rattle.client_futures.specs.Seen.{Seen}
use Rattle.client_futures.specs.Answers.{AllStand, IsOpen, MayEnd}

-- a key that isn't got and didn't fail has no end
no_end : (e : Option End) → e ≢ Some Got → ((b : ℕ) → e ≢ Some (Erred b)) → e ≡ None
no_end None got erred = refl
no_end (Some Got) got erred = absurd (got refl)
no_end (Some (Erred b)) got erred = absurd (erred b refl)

pub open_after : (old new : ℕ → Option End) (keys : List ℕ) (at : ℕ) → ((k b : ℕ) → old k ≢ Some (Erred b) → new k ≢ Some (Erred b))
    → AllStand old keys → at < length keys → new (get_or keys at 0) ≢ Some Got → IsOpen new keys
open_after old new keys at stand stood below gone = record {
  stand = λ i d lt b. stand (get_or keys i d) b (stood i d lt b);
  waiting = (get_or keys at 0, Contains-get_or keys at 0 below, no_end (new (get_or keys at 0)) gone (λ b. stand (get_or keys at 0) b (stood at 0 below b)));
}

-- what may come after a state to which calls lead may come before
pub may_end_before : {S B : Type 0} (leads : S → S → Type 0) (seen : S → Seen B) → ((s t u : S) → leads s t → leads t u → leads s u) → (s t : S) (keys : List ℕ)
    → leads s t → (x : Result (Vec (Arc B Global) Global) PollEnd) → MayEnd leads seen t keys x → MayEnd leads seen s keys x
may_end_before leads seen on s t keys led x may = record { at = may.at; led = on s t may.at led may.led; answer = may.answer }
