-- What a sink has become that was taken out and put back.
use Rattle.std.specs.Prelude.{◌≡◌, Option, Some, None}

-- where there was one there is one, to which calls have led
abbrev pub LeadsIn : {A : Type 0} → (A → A → Type 0) → Option A → Option A → Type 0
LeadsIn leads None new = new ≡ None
LeadsIn {A} leads (Some s) new = (t : A) × (new ≡ Some t) × leads s t

-- what nothing was done with
pub led-nowhere : {A : Type 0} (leads : A → A → Type 0) → ((s : A) → leads s s) → (o : Option A) → LeadsIn leads o o
led-nowhere leads here None = λ i. None
led-nowhere leads here (Some s) = (s, λ i. Some s, here s)
