-- The commands of the program, and the words that ask for them.
use Rattle.std.specs.Prelude.{◌≡◌, ◌⊎◌, ℕ, List, [], ◌∷◌, codes, slice_index_or, string_bytes, Option, Some, None}
use Rattle.command_words.specs.declared.generate.GenWords.{GenWords}
use Rattle.command_words.specs.declared.plain.PlainWords.{PlainWords}
use Rattle.command_words.specs.declared.run.RunWords.{RunWords}
use Rattle.command_words.specs.declared.sim.SimWords.{SimWords}
use Rattle.command_words.specs.Words.{IsGen, IsPlain, IsRun, IsSim}

pub data Command : Type 0 where
  -- run a job by a cluster of threads, as these words say
  Run : RunWords → Command
  -- evaluate a job in the calling thread
  Plain : PlainWords → Command
  -- simulate a cluster on a job, as these words say
  Sim : SimWords → Command
  -- simulate a cluster on the job that a number makes, as these words say
  Gen : GenWords → Command

-- these words ask for a command
abbrev pub Asks : List (List ℕ) → Command → Type 0
Asks words (Run said) = IsRun words said
Asks words (Plain said) = IsPlain words said
Asks words (Sim said) = IsSim words said
Asks words (Gen said) = IsGen words said

-- the names of the command's sources: the one file with its job's text, or none
abbrev pub sources_of : Command → List (List ℕ)
sources_of (Run said) = string_bytes said.job ∷ []
sources_of (Plain said) = string_bytes said.job ∷ []
sources_of (Sim said) = string_bytes said.job ∷ []
sources_of (Gen said) = []

-- what is done with the job of a file: it is run by a cluster of threads, or evaluated, or a cluster on it is simulated
pub data Work : Type 0 where
  Running : RunWords → Work
  Evaluation : Work
  Simulation : SimWords → Work

-- What was read of the words: the command that they ask for, or that they ask for none; or nothing, where memory for their reading was wanted.
pub data Asked : Type 0 where
  Known : Option Command → Asked
  Unread : Asked

-- these words begin as those of a command, which take memory to be read
abbrev pub MayStayUnread : List (List ℕ) → Type 0
MayStayUnread words = (slice_index_or words 0 [] ≡ codes "run") ⊎ (slice_index_or words 0 [] ≡ codes "plain") ⊎ (slice_index_or words 0 [] ≡ codes "sim")
    ⊎ (slice_index_or words 0 [] ≡ codes "gen")

-- What is read of the words is so. Words of any command may stay unread; words that don't begin as those of one are found to be so without memory.
abbrev pub IsAsked : List (List ℕ) → Asked → Type 0
IsAsked words (Known (Some command)) = Asks words command
IsAsked words (Known None) = (command : Command) → ¬ Asks words command
IsAsked words Unread = MayStayUnread words
