-- What a store of a worker's blocks keeps, and what its calls make of that.
use Rattle.std.specs.Prelude.{◌≡◌, ℕ, ◌==◌, Bool, true, false, List, [], ◌∷◌, ◌++◌, Option, None, Some, slice_index_or}
use Rattle.std.specs.Option.{option_map_or}
use Rattle.cluster_rules.specs.Derived.{is_in}
use Rattle.cluster_rules.specs.Functions.{put}
use Rattle.node_states.specs.declared.store.Got.{Got}
use Rattle.node_states.specs.declared.store.Got.TheVariants.{Here, Absent, Lost}

-- which keys are kept, of which of these the block was put aside since it was put, and the keys of blocks that were put aside and that the store didn't
-- tell of
pub record Stock : Type 0 where
  pub kept : ℕ → Bool
  pub aside : ℕ → Bool
  pub news : List ℕ

-- these keys are kept
pub record Keeps (keys : ℕ → Bool) (s : Stock) : Type 0 where
  pub each : (q : ℕ) → s.kept q ≡ keys q

-- the blocks of these keys had been put aside. Others may be by now, and then they are news
pub record PutsAside (before : ℕ → Bool) (old new : Stock) : Type 0 where
  pub stays : (q : ℕ) → before q ≡ true → new.aside q ≡ true
  pub news : (q : ℕ) → is_in q old.news ≡ true → is_in q new.news ≡ true
  pub fresh : (q : ℕ) → is_in q new.news ≡ false → new.aside q ≡ true → before q ≡ true

-- a block was put under the key, in place of what was kept there
pub record Puts (key : ℕ) (old new : Stock) : Type 0 where
  pub kept : Keeps (put old.kept key true) new
  pub aside : PutsAside (put old.aside key false) old new

-- the key's block is handed out
pub record Finds (key : ℕ) (old new : Stock) : Type 0 where
  pub was : old.kept key ≡ true
  pub kept : Keeps old.kept new
  pub aside : PutsAside old.aside old new

-- the key isn't kept
pub record Misses (key : ℕ) (old new : Stock) : Type 0 where
  pub was : old.kept key ≡ false
  pub kept : Keeps old.kept new
  pub aside : PutsAside old.aside old new

-- the key's block was put aside, and is lost. The key isn't kept any more
pub record Loses (key : ℕ) (old new : Stock) : Type 0 where
  pub was : old.aside key ≡ true
  pub kept : Keeps (put old.kept key false) new
  pub aside : PutsAside (put old.aside key false) old new

abbrev pub Gives : {T : Type 0} → ℕ → Stock → Stock → Got T → Type 0
Gives key old new (Here x) = Finds key old new
Gives key old new Absent = Misses key old new
Gives key old new Lost = Loses key old new

-- the key isn't kept any more
pub record Removes (key : ℕ) (old new : Stock) : Type 0 where
  pub kept : Keeps (put old.kept key false) new
  pub aside : (q : ℕ) → new.aside q ≡ put old.aside key false q
  pub news : new.news ≡ old.news

-- nothing of it changes
pub record IsSame (old new : Stock) : Type 0 where
  pub kept : Keeps old.kept new
  pub aside : (q : ℕ) → new.aside q ≡ old.aside q
  pub news : new.news ≡ old.news

-- what was put aside is kept
pub record IsStock (s : Stock) : Type 0 where
  pub kept : (q : ℕ) → s.aside q ≡ true → s.kept q ≡ true

-- it told of a block that was put aside, which is no longer news
pub record TellsOf (key : ℕ) (old new : Stock) : Type 0 where
  pub one : old.news ≡ new.news ++ key ∷ []
  pub kept : Keeps old.kept new
  pub aside : (q : ℕ) → new.aside q ≡ old.aside q

-- it had told of all
pub record HasTold (old new : Stock) : Type 0 where
  pub all : old.news ≡ []
  pub same : IsSame old new

abbrev pub Tells : Stock → Stock → Option ℕ → Type 0
Tells old new None = HasTold old new
Tells old new (Some k) = TellsOf k old new

-- whatever else is called: what is news stays so, and no key's block counts as put aside that didn't and isn't news
pub record GoesOn (old new : Stock) : Type 0 where
  pub news : (q : ℕ) → is_in q old.news ≡ true → is_in q new.news ≡ true
  pub fresh : (q : ℕ) → is_in q new.news ≡ false → new.aside q ≡ true → old.aside q ≡ true

-- a store that keeps nothing
abbrev pub KeepsNone : Stock → Type 0
KeepsNone s = (q : ℕ) → s.kept q ≡ false

-- of a block that is handed out
abbrev pub IfHere : {T : Type 0} → Got T → (T → Type 0) → Type 0
IfHere (Here x) P = P x
IfHere Absent P = Unit {0}
IfHere Lost P = Unit {0}

-- ## A row of blocks

-- whether a block stands at the place of its key
abbrev pub is_at : {K : Type 0} → (K → ℕ) → List (Option K) → ℕ → Bool
is_at key held k = option_map_or (λ x. key x == k) (slice_index_or held k None) false

-- a row of blocks puts nothing aside
abbrev pub row_stock : {K : Type 0} → (K → ℕ) → List (Option K) → Stock
row_stock key held = record { kept = is_at key held; aside = λ q. false; news = [] }
