-- What a text asks for, and where it is refused.
use Rattle.std.specs.Prelude.{◌≡◌, ℕ, ◌^◌, cond, ◌&&◌, nat_le, nat_eq, List, [], ◌∷◌, length, Option, Some, None, Result, Ok, Err}
use Rattle.job_tokens.specs.declared.kind.Kind.TheVariants.{Number as NumberKind}
use Rattle.job_tokens.specs.Words.{kind_number}
use Rattle.job_tokens.specs.declared.token.Token.{Token}
use Rattle.job_steps.specs.declared.step.Step.{Step}
use Rattle.job_steps.specs.declared.step.Ending.{Ending}
use Rattle.job_steps.specs.declared.step.Ending.TheVariants.{Whole, Unexpected, Unfinished, NoToken}
use Rattle.job_steps.specs.Found.{Found}
use Rattle.job_steps.specs.Steps.{IsRead}
use Rattle.job_script.specs.declared.asked.Placed.{Placed}
use Rattle.job_script.specs.declared.asked.Refusal.{Refusal}
use Rattle.job_script.specs.declared.asked.Why.TheVariants as WhyVariants
use Rattle.job_script.specs.Words.{number_at}
use Rattle.job_script.specs.Names.{Called}
use Rattle.job_script.specs.Drafts.{Drafted, empty_draft}
use Rattle.job_script.specs.Meanings.{after}

-- operations, the files that are read and saved, and the refusal behind them
pub record Scripted : Type 0 where
  pub asked : List Placed
  pub inputs : List Called
  pub saves : List Called
  pub refusal : Option Refusal

-- what steps have made of a draft, and the refusal at which they stopped
pub record Stopped : Type 0 where
  pub draft : Drafted
  pub refusal : Option Refusal

abbrev pub going_on : Result Drafted Refusal → Drafted → (Drafted → Stopped) → Stopped
going_on (Ok d) before then = then d
going_on (Err r) before then = record { draft = before; refusal = Some r }

abbrev pub run : List ℕ → List Step → Drafted → Stopped
run text [] d = record { draft = d; refusal = None }
run text (s ∷ steps) d = going_on (after text s.action s.token d) d (λ e. run text steps e)

-- A number above 2^63 - 1 is refused as such wherever it stands.
abbrev pub unexpected : List ℕ → Token → Refusal
unexpected text t = record { at = t.start; why = cond (nat_eq (kind_number t.kind) (kind_number NumberKind) && nat_le (2 ^ 63) (number_at text t)) WhyVariants.Number WhyVariants.Grammar }

-- How a text is refused whose steps were all done. A job has a save at least.
abbrev pub refusal_at : List ℕ → Ending → Drafted → Option Refusal
refusal_at text Whole d = cond (nat_eq (length d.scoped.saves) 0) (Some (record { at = length text; why = WhyVariants.Grammar })) None
refusal_at text (Unexpected t) d = Some (unexpected text t)
refusal_at text (Unfinished at) d = Some (record { at = at; why = WhyVariants.Grammar })
refusal_at text (NoToken at) d = Some (record { at = at; why = WhyVariants.Token })

abbrev pub first_of : Option Refusal → Option Refusal → Option Refusal
first_of (Some r) later = Some r
first_of None later = later

-- the first refusal of the text is that of its steps, then that of its end
pub record IsScript (text : List ℕ) (s : Scripted) : Type 0 where
  pub found : Found
  pub read : IsRead text found
  pub asked : s.asked ≡ (run text found.steps empty_draft).draft.asked
  pub refusal : s.refusal ≡ first_of (run text found.steps empty_draft).refusal (refusal_at text found.ending (run text found.steps empty_draft).draft)
  pub inputs : s.refusal ≡ None → s.inputs ≡ (run text found.steps empty_draft).draft.scoped.inputs
  pub saves : s.refusal ≡ None → s.saves ≡ (run text found.steps empty_draft).draft.scoped.saves
