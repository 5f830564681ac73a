-- Words that a command takes, and the texts that they give.
use Rattle.std.proofs.Common.{◌≡◌, ◌∙◌, ◌++◌, ◌∷◌, ℕ, true, codes, List, [], ap, subst, refl, inl, inr}
use Rattle.std.proofs.lemmas.Bool.{and_parts}
use Rattle.clap.specs.Faults.{fault_of, is_simple_and_free}
use Rattle.clap.specs.Kinds.{HasKind, IsAmong}
use Rattle.clap.specs.Matches.{found_of}
use Rattle.clap.specs.Simple.{App, HasMatchesOf, app_of, app_of_fields, is_simple, new_app, on_top, with_rule}
use Rattle.clap.specs.Values.{kind_of}
use Rattle.clap.specs.Walk.{Rule, first_of}
use Rattle.clap.specs.declared.builder.command.Command.{Command}
use Rattle.clap.specs.declared.builder.command.Command.TheViews.{out-Command}
use Rattle.clap.specs.declared.error.Error.{Error}
use Rattle.clap.specs.declared.parser.matches.ArgMatches.{ArgMatches}
use Rattle.clap.proofs.OnLiterals.{clap_on_literals}
use Rattle.clap.proofs.WalkLemmas.{first_value-rows}
use Rattle.command_words.specs.Apps.{command_of, gen_app, option, plain_app, run_app, sim_app, with_options}
use Rattle.command_words.specs.Given.{CameBy, IsRead, IsTaken, IsUnread, text_in, text_of}
use Rattle.command_words.specs.declared.fail.WordsFail.{WordsFail}
use Rattle.command_words.specs.declared.fail.WordsFail.TheVariants.{Refused, OutOfMemory}

-- ## The commands are simple

pub run_is_simple : is_simple_and_free run_app ≡ true
unfolding run_app clap_on_literals
run_is_simple = refl

pub sim_is_simple : is_simple_and_free sim_app ≡ true
unfolding sim_app clap_on_literals
sim_is_simple = refl

pub plain_is_simple : is_simple_and_free plain_app ≡ true
unfolding plain_app clap_on_literals
plain_is_simple = refl

pub gen_is_simple : is_simple_and_free gen_app ≡ true
unfolding gen_app clap_on_literals
gen_is_simple = refl

pub simple_of : (app : App) → is_simple_and_free app ≡ true → is_simple app ≡ true
simple_of app both = (and_parts _ _ both).0

-- ## Building

pub bare : (c d e : Command) (name : List ℕ) → app_of c ≡ new_app name → out-Command d ≡ record (out-Command c) { disable_help_flag = true }
    → out-Command e ≡ record (out-Command d) { disable_version_flag = true } → app_of e ≡ command_of name []
bare c d e name new help version =
    ap app_of_fields version
    ∙ ap (on_top (λ s. record s { disable_version_flag = true })) (ap app_of_fields help ∙ ap (on_top (λ s. record s { disable_help_flag = true })) new)

five : (rs : List Rule) (a b c d e : Rule) → ((((rs ++ a ∷ []) ++ b ∷ []) ++ c ∷ []) ++ d ∷ []) ++ e ∷ [] ≡ rs ++ a ∷ b ∷ c ∷ d ∷ e ∷ []
five [] a b c d e = refl
five (r ∷ rs) a b c d e = ap (λ l. r ∷ l) (five rs a b c d e)

pub options_added : (app : App) → with_rule (with_rule (with_rule (with_rule (with_rule app (option (codes "workers"))) (option (codes "threads"))) (option (codes "saturation"))) (option (codes "allowed-failures"))) (option (codes "script")) ≡ with_options app
options_added app = ap (λ l. record app { top = record app.top { rules = l } })
    (five app.top.rules (option (codes "workers")) (option (codes "threads")) (option (codes "saturation")) (option (codes "allowed-failures")) (option (codes "script")))

-- ## Reading

texts_are : (app : App) (words : List (List ℕ)) (m : ArgMatches) → is_simple app ≡ true → HasMatchesOf app words m → text_in m ≡ text_of app words
unfolding text_in text_of
texts_are app words m simple has = λ i name. (first_value-rows (found_of m) name ∙ ap (first_of name) (has simple).0) i

-- no kind of error comes, so the words are taken
pub read : (app : App) (words : List (List ℕ)) (m : ArgMatches) → is_simple app ≡ true → fault_of app words ≡ [] → HasMatchesOf app words m → IsRead app words m
unfolding IsTaken
read app words m simple none has = record { taken = none; texts = texts_are app words m simple has }

-- a kind of error comes, so they aren't
pub unread : (app : App) (words : List (List ℕ)) (error : Error) (e : WordsFail) → CameBy e error → HasKind (fault_of app words) error → IsUnread app words e
unfolding IsTaken
unread app words error Refused other has = λ none. elim has [
  | inl memory ↦ other memory
  | inr among ↦ subst (IsAmong (kind_of error)) none among
]
unread app words error OutOfMemory other has = tt
