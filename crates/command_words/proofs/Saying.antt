-- What the words say, in one way.
use Rattle.std.proofs.Common.{◌≡◌, ℕ, ◌≤◌, ◌-◌, ◌*◌, ◌^◌, Bool, true, false, List, [], length, take, codes, string_bytes, refl, sym, ap, subst, ◌∙◌, arith, Option, Some, None}
use Rattle.std.proofs.lemmas.List.FromFn.{length-range_with_len}
use Rattle.std.proofs.Math.Seq.{take-nil}
use Rattle.small_facts.proofs.Options.{same_in_some}
use Rattle.cluster_msgs.specs.declared.events.Item.{Item}
use Rattle.cluster_rules.specs.Functions.{from_one}
use Rattle.command_words.specs.Given.{HasBound, HasFlag, HasNumber}
use Rattle.command_words.specs.Numbers.{IsNumber}
use Rattle.command_words.specs.Walks.{IsCrew, IsWalk, after_items, crew_of}
use Rattle.command_words.specs.Words.{AreGenSettings, AreRunSettings, HasGenNumbers, HasNoWalk, HasScript, HasSeed, HasSettings, IsGen, IsNotGiven, IsPlain, IsRun, IsSettings, IsSim, SameRun, SameSim}
use Rattle.command_words.specs.declared.settings.RunSettings.{RunSettings}
use Rattle.command_words.specs.declared.run.RunWords.{RunWords}
use Rattle.command_words.specs.declared.sim.Settings.{Settings}
use Rattle.command_words.specs.declared.sim.SimWords.{SimWords}
use Rattle.command_words.specs.declared.plain.PlainWords.{PlainWords}
use Rattle.command_words.specs.declared.generate.GenWords.{GenWords}
use Rattle.command_words.specs.declared.fail.WordsFail.{WordsFail}
use Rattle.command_words.specs.declared.fail.WordsFail.TheVariants.{Refused, OutOfMemory}
use Rattle.command_words.proofs.Spoken.{one_number}
use Rattle.command_words.proofs.Readings.{one_script}

-- ## Texts that are given

abbrev Given : Type 0
Given = List ℕ → Option (List ℕ)

one_given : (given : Option (List ℕ)) (least most default m n : ℕ) → HasNumber given least most default m → HasNumber given least most default n → m ≡ n
one_given (Some text) least most default m n p q = one_number least most text m n p q
one_given None least most default m n p q = p ∙ sym q

-- a number within its range, if the one that is taken without it is
pub in_range : (given : Option (List ℕ)) (least most default n : ℕ) → least ≤ default → default ≤ most → HasNumber given least most default n → (least ≤ n) × (n ≤ most)
in_range (Some text) least most default n above below has = (has.from, has.to)
in_range None least most default n above below has = (omega (arith, has, above), omega (arith, has, below))

one_bound : (given : Option (List ℕ)) (most : ℕ) (a b : Option ℕ) → HasBound given most a → HasBound given most b → a ≡ b
one_bound (Some text) most (Some m) (Some n) p q = ap (λ (x : ℕ). Some x) (one_number 0 most text m n p q)
one_bound (Some text) most (Some m) None p q = absurd q
one_bound (Some text) most None b p q = absurd p
one_bound None most a b p q = p ∙ sym q

-- a word that says no such number
pub no_bound : (given : Option (List ℕ)) (text : List ℕ) (most : ℕ) → given ≡ Some text → ((n : ℕ) → ¬ IsNumber 0 most text n) → (bound : Option ℕ) → ¬ HasBound given most bound
no_bound given text most is bad bound = λ h. by bound (subst (λ o. HasBound o most bound) is h)
  where
    by : (bound : Option ℕ) → HasBound (Some text) most bound → ⊥
    by None h = h
    by (Some n) h = bad n h

one_flag : (given : Option (List ℕ)) (a b : Bool) → HasFlag given a → HasFlag given b → a ≡ b
one_flag given true true p q = refl
one_flag given true false p q = absurd (q p)
one_flag given false true p q = absurd (p q)
one_flag given false false p q = refl

one_seed : (given : Option (List ℕ)) (m n : ℕ) → HasSeed given m → HasSeed given n → m ≡ n
one_seed (Some text) m n p q = one_number 0 (2 ^ 64 - 1) text m n p q
one_seed None m n p q = absurd p

-- ## Settings

same_settings : (given : Given) (a b : RunSettings) → HasSettings given a → HasSettings given b → a ≡ b
same_settings given a b p q =
    let workers : a.workers ≡ b.workers = one_given (given (codes "workers")) 1 64 4 a.workers b.workers p.workers q.workers in
    let threads : a.threads ≡ b.threads = one_given (given (codes "threads")) 1 16 2 a.threads b.threads p.threads q.threads in
    let saturation : a.saturation ≡ b.saturation = one_given (given (codes "saturation")) 1 1000 11 a.saturation b.saturation p.saturation q.saturation in
    let allowed : a.allowed ≡ b.allowed = one_bound (given (codes "allowed-failures")) 1000 a.allowed b.allowed p.allowed q.allowed in
    λ i. record { workers = workers i; threads = threads i; saturation = saturation i; allowed = allowed i }

same_sim_settings : (given : Given) (a b : Settings) → IsSettings given a → IsSettings given b → a ≡ b
same_sim_settings given a b p q =
    let number : a.number ≡ b.number = one_seed (given (codes "number")) a.number b.number p.number q.number in
    let workers : a.workers ≡ b.workers = one_given (given (codes "workers")) 1 64 4 a.workers b.workers p.workers q.workers in
    let threads : a.threads ≡ b.threads = one_given (given (codes "threads")) 1 16 2 a.threads b.threads p.threads q.threads in
    let saturation : a.saturation ≡ b.saturation = one_given (given (codes "saturation")) 1 1000 11 a.saturation b.saturation p.saturation q.saturation in
    let allowed : a.allowed ≡ b.allowed = one_bound (given (codes "allowed-failures")) 1000 a.allowed b.allowed p.allowed q.allowed in
    λ i. record { number = number i; workers = workers i; threads = threads i; saturation = saturation i; allowed = allowed i }

-- ## Scripts

same_script : (given : Option (List ℕ)) (is js : List Item) → HasScript given is → HasScript given js → is ≡ js
same_script (Some text) is js p q = one_script text is js p q
same_script None is js p q = p ∙ sym q

-- no script, or one that can't be followed
pub none_followed : (given : Given) (workers threads : ℕ) (e : WordsFail) → IsNotGiven (given (codes "script")) e → HasNoWalk given workers threads e
none_followed given workers threads Refused bad = λ items h. let long = bad items h.script in let few = h.walk.few in absurd (omega (arith, long, few))
none_followed given workers threads OutOfMemory bad = tt

pub not_followed : (given : Given) (workers threads : ℕ) (items : List Item) → HasScript (given (codes "script")) items → ¬ IsWalk workers threads items → HasNoWalk given workers threads Refused
not_followed given workers threads items script bad = λ others h. bad (subst (IsWalk workers threads) (same_script (given (codes "script")) others items h.script script) h.walk)

-- ## A run

-- one run at most
pub one_run : (words : List (List ℕ)) (a b : RunWords) → IsRun words a → IsRun words b → SameRun a b
one_run words a b p q = record {
  job = same_in_some _ (string_bytes a.job) (string_bytes b.job) p.says.job q.says.job;
  settings = same_settings _ a.settings b.settings p.says.settings q.says.settings;
  memory = one_given _ 1 (2 ^ 40) (2 ^ 28) a.memory b.memory p.says.memory q.says.memory;
  script = same_script _ a.script b.script p.says.script q.says.script;
  report = one_flag _ a.report b.report p.says.report q.says.report;
}

pub all_threads : (workers threads : ℕ) (items : List Item) → IsWalk workers threads items → workers * threads ≤ 64
all_threads workers threads items walk =
    let first : IsCrew threads (crew_of workers) = walk.crews 0 (omega arith) in
    subst (λ n. n * threads ≤ 64) (length-range_with_len 1 workers) first.served

-- what the words of a run say can be followed
pub run_settings : (words : List (List ℕ)) (s : RunWords) → IsRun words s → AreRunSettings s
run_settings words s is = record {
  workers = in_range _ 1 64 4 s.settings.workers (omega arith) (omega arith) is.says.settings.workers;
  threads = in_range _ 1 16 2 s.settings.threads (omega arith) (omega arith) is.says.settings.threads;
  saturation = in_range _ 1 1000 11 s.settings.saturation (omega arith) (omega arith) is.says.settings.saturation;
  all_threads = all_threads s.settings.workers s.settings.threads s.script is.says.walk;
  walk = is.says.walk;
}

-- ## A simulation

pub no_sim_numbers : (given : Given) → ((s : RunSettings) → ¬ HasSettings given s) → (s : Settings) → ¬ IsSettings given s
no_sim_numbers given bad = λ s h. bad (record { workers = s.workers; threads = s.threads; saturation = s.saturation; allowed = s.allowed })
    (record { workers = h.workers; threads = h.threads; saturation = h.saturation; allowed = h.allowed })

-- one simulation at most
pub one_sim : (words : List (List ℕ)) (a b : SimWords) → IsSim words a → IsSim words b → SameSim a b
one_sim words a b p q = record {
  job = same_in_some _ (string_bytes a.job) (string_bytes b.job) p.says.job q.says.job;
  settings = same_sim_settings _ a.settings b.settings p.says.settings q.says.settings;
  script = same_script _ a.script b.script p.says.script q.says.script;
}

-- ## A job that a number makes

-- the texts say one number, and one crew, at most
pub same_gen : (given : Given) (a b : GenWords) → HasGenNumbers given a → HasGenNumbers given b → a ≡ b
same_gen given a b p q =
    let number : a.number ≡ b.number = one_seed (given (codes "number")) a.number b.number p.number q.number in
    let workers : a.workers ≡ b.workers = one_given (given (codes "workers")) 1 64 4 a.workers b.workers p.workers q.workers in
    let threads : a.threads ≡ b.threads = one_given (given (codes "threads")) 1 16 2 a.threads b.threads p.threads q.threads in
    λ i. record { number = number i; workers = workers i; threads = threads i }

pub one_gen : (words : List (List ℕ)) (a b : GenWords) → IsGen words a → IsGen words b → a ≡ b
one_gen words a b p q = same_gen _ a b p.says.numbers q.says.numbers

-- without a script the workers stay, so they can be followed where there are some, and not too many threads
pub stays : (workers threads : ℕ) → 1 ≤ workers → workers ≤ 64 → workers * threads ≤ 64 → IsWalk workers threads []
stays workers threads some few served = record {
  few = omega arith;
  joins = omega arith;
  rising = λ i j a b order from to. absurd (omega (arith, from.0));
  takes = λ i item at. absurd (omega (arith, at.0));
  crews = λ i within.
      let count : length (from_one workers) ≡ workers = length-range_with_len 1 workers in
      let none : [] ≡ take i [] = sym (take-nil i) in
      let C : List Item → Type 0 = λ items. IsCrew threads (after_items (crew_of workers) items) in
      subst C none (record { some = omega (arith, count, some); few = omega (arith, count, few); served = subst (λ n. n * threads ≤ 64) (sym count) served });
}

-- what the words say can be followed
pub gen_settings : (words : List (List ℕ)) (s : GenWords) → IsGen words s → AreGenSettings s
gen_settings words s is =
    let workers : (1 ≤ s.workers) × (s.workers ≤ 64) = in_range _ 1 64 4 s.workers (omega arith) (omega arith) is.says.numbers.workers in
    record {
      workers = workers;
      threads = in_range _ 1 16 2 s.threads (omega arith) (omega arith) is.says.numbers.threads;
      walk = stays s.workers s.threads workers.0 workers.1 is.says.all_threads;
    }

-- ## A plain evaluation

-- one plain evaluation at most
pub one_plain : (words : List (List ℕ)) (a b : PlainWords) → IsPlain words a → IsPlain words b → string_bytes a.job ≡ string_bytes b.job
one_plain words a b p q = same_in_some _ (string_bytes a.job) (string_bytes b.job) p.job q.job
