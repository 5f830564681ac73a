-- Scripts as texts: items with commas between.
use Rattle.std.specs.Prelude.{◌≡◌, ◌≢◌, ◌<◌, ◌-◌, ◌^◌, ℕ, List, [], ◌∷◌, ◌++◌, codes, length, slice_index_or}
use Rattle.cluster_msgs.specs.declared.events.Item.{Item}
use Rattle.cluster_msgs.specs.declared.events.Item.TheVariants.{Lose, Suspect, Join}
use Rattle.command_words.specs.Numbers.{IsNumber}
use Rattle.command_words.specs.declared.fail.WordsFail.{WordsFail}
use Rattle.command_words.specs.declared.fail.WordsFail.TheVariants.{Refused, OutOfMemory}

abbrev pub comma : ℕ
comma = 44

abbrev pub colon : ℕ
colon = 58

abbrev pub at_sign : ℕ
at_sign = 64

-- no worker has a greater number, and no item waits for more finishes
abbrev pub worker_most : ℕ
worker_most = 2 ^ 32 - 1

abbrev pub finishes_most : ℕ
finishes_most = 2 ^ 128 - 2

-- the text has no such byte
abbrev pub IsClear : ℕ → List ℕ → Type 0
IsClear byte text = (i : ℕ) → i < length text → slice_index_or text i 0 ≢ byte

-- the first such byte of the text stands between these
pub record IsCut (byte : ℕ) (text front back : List ℕ) : Type 0 where
  pub whole : text ≡ front ++ byte ∷ back
  pub first : IsClear byte front

-- `NAME:WORKER`
pub record IsOfWorker (name what : List ℕ) (worker : ℕ) : Type 0 where
  pub number : List ℕ
  pub cut : IsCut colon what name number
  pub says : IsNumber 0 worker_most number worker

-- what stands before the count
abbrev pub IsItemOf : List ℕ → ℕ → Item → Type 0
IsItemOf what count (Lose worker at) = IsOfWorker (codes "lose") what worker × (at ≡ count)
IsItemOf what count (Suspect worker at) = IsOfWorker (codes "suspect") what worker × (at ≡ count)
IsItemOf what count (Join at) = (what ≡ codes "join") × (at ≡ count)

-- `lose:WORKER@COUNT`, `suspect:WORKER@COUNT`, `join@COUNT`
pub record IsItem (text : List ℕ) (item : Item) : Type 0 where
  pub what : List ℕ
  pub number : List ℕ
  pub count : ℕ
  pub cut : IsCut at_sign text what number
  pub says : IsNumber 0 finishes_most number count
  pub happens : IsItemOf what count item

-- the text is an item, a comma and further ones
pub record IsFollowed (text : List ℕ) (item : Item) (AreOthers : List ℕ → Type 0) : Type 0 where
  pub front : List ℕ
  pub back : List ℕ
  pub cut : IsCut comma text front back
  pub leads : IsItem front item
  pub others : AreOthers back

-- the text is these items, at least one, with commas between
abbrev pub IsScript : List ℕ → List Item → Type 0
IsScript text [] = ⊥
IsScript text (item ∷ []) = IsClear comma text × IsItem text item
IsScript text (item ∷ other ∷ items) = IsFollowed text item (λ back. IsScript back (other ∷ items))

-- an item of this worker, by its name
abbrev pub IsNamed : List ℕ → ℕ → ℕ → Item → Type 0
IsNamed name worker count (Lose w at) = (name ≡ codes "lose") × (w ≡ worker) × (at ≡ count)
IsNamed name worker count (Suspect w at) = (name ≡ codes "suspect") × (w ≡ worker) × (at ≡ count)
IsNamed name worker count (Join at) = ⊥

-- why a text gave no items: it says none, or more than 1,000
abbrev pub IsNoScript : List ℕ → WordsFail → Type 0
IsNoScript text Refused = (items : List Item) → IsScript text items → 1000 < length items
IsNoScript text OutOfMemory = Unit {0}

-- one more item, which the text says
pub record IsAdded (text : List ℕ) (old new : List Item) : Type 0 where
  pub item : Item
  pub added : new ≡ old ++ item ∷ []
  pub says : IsItem text item

abbrev pub IsNoItem : List ℕ → WordsFail → Type 0
IsNoItem text Refused = (item : Item) → ¬ IsItem text item
IsNoItem text OutOfMemory = Unit {0}
