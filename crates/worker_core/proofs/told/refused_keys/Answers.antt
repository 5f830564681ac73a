use Rattle.std.proofs.Common.{◌≡◌, ◌<◌, ◌∙◌, ◌&&◌, ◌||◌, ◌++◌, ◌∷◌, [], ℕ, true, cond, ap, sym, arith, filter}
use Rattle.std.proofs.lemmas.Bool.{and_left}
use Rattle.cluster_msgs.specs.Shape.{key_count}
use Rattle.cluster_rules.specs.Derived.{below, is_in}
use Rattle.cluster_rules.specs.Worker.{awaited}
use Rattle.key_sets.specs.Sets.{has}
use Rattle.worker_facts.specs.Stored.{facts_of}
use Rattle.worker_table.proofs.SearchLemmas.{filter-gap}
use Rattle.worker_core.proofs.MoveLemmas.{filter-step, in_all, and_named}
use Rattle.worker_core.proofs.told.refused_keys.Goals as goal

pub name_all-requires : goal.name_all-requires
name_all-requires c = λ k d l. omega (arith, c.requires k d l, c.in_ok-named.ensures.room, c.keys-2.ensures)

pub keys-preserved : goal.keys-preserved
keys-preserved c =
    let f = facts_of c.args.table.now in
    let ks = c.args.keys.now in
    let k = c.in-Some.key in
    let named : (j : ℕ) → has c.name_all.new.set j ≡ is_in j ks = λ j. c.name_all.ensures j ∙ ap (λ b. b || is_in j ks) (c.in_ok-named.ensures.keys j) in
    let there : is_in k ks ≡ true = sym (named k) ∙ c.in-Some.ensures.1 in
    let low : k < key_count f.shape = in_all (λ j. j < key_count f.shape) k ks there c.requires in
    record {
      made = c.in_ok-push_key_where.ensures
          ∙ ap (λ xs. xs ++ cond (c.in_memory.result && c.is_awaited.result) (k ∷ []) []) c.keys.invariant.made
          ∙ ap (λ b. filter (λ (j : ℕ). is_in j ks && (f.mem j && awaited f j)) (below c.keys.from) ++ cond b (k ∷ []) []) (ap (λ b. b && c.is_awaited.result) c.in_memory.ensures ∙ ap (λ b. f.mem k && b) c.is_awaited.ensures ∙ and_named (is_in k ks) (f.mem k && awaited f k) there)
          ∙ sym (filter-step (λ (j : ℕ). is_in j ks && (f.mem j && awaited f j)) c.keys.from k c.in-Some.ensures.0 (λ j l m. and_left (is_in j ks) (f.mem j && awaited f j) (sym (named j) ∙ c.in-Some.ensures.2 j l m)));
      low = omega arith;
    }

pub returns : goal.returns
returns c =
    let f = facts_of c.args.table.now in
    let ks = c.args.keys.now in
    let named : (j : ℕ) → has c.name_all.new.set j ≡ is_in j ks = λ j. c.name_all.ensures j ∙ ap (λ b. b || is_in j ks) (c.in_ok-named.ensures.keys j) in
    c.keys.invariant.made ∙ sym (filter-gap (λ (j : ℕ). is_in j ks && (f.mem j && awaited f j)) c.keys.from (key_count f.shape) c.keys.invariant.low (λ j l m. and_left (is_in j ks) (f.mem j && awaited f j) (sym (named j) ∙ c.in_default.ensures j l)))

pub overflow_add-from : goal.overflow_add-from
overflow_add-from c =
    let f = facts_of c.args.table.now in
    let ks = c.args.keys.now in
    let k = c.in-Some.key in
    let there : is_in k ks ≡ true = sym (c.name_all.ensures k ∙ ap (λ b. b || is_in k ks) (c.in_ok-named.ensures.keys k)) ∙ c.in-Some.ensures.1 in
    let low : k < key_count f.shape = in_all (λ j. j < key_count f.shape) k ks there c.requires in
    omega (arith, low, c.sound.ensures.shape.few)

pub keys-smaller : goal.keys-smaller
keys-smaller c =
    let f = facts_of c.args.table.now in
    let ks = c.args.keys.now in
    let k = c.in-Some.key in
    let there : is_in k ks ≡ true = sym (c.name_all.ensures k ∙ ap (λ b. b || is_in k ks) (c.in_ok-named.ensures.keys k)) ∙ c.in-Some.ensures.1 in
    let low : k < key_count f.shape = in_all (λ j. j < key_count f.shape) k ks there c.requires in
    omega (arith, low, c.in-Some.ensures.0)
