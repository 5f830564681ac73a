-- What calls of a saver lead to goes on: nothing was done, and one call after another.
use Rattle.std.proofs.Common.{ℕ, ◌<◌, length, refl, sym, ◌∙◌, subst}
use Rattle.std.specs.Prelude.{IsSome}
use Rattle.thread_run.specs.Saver.{Saves, SavesOn}

pub saves-here : (s : Saves) → SavesOn s s
saves-here s = record {
  wanted_is = refl;
  same = record { count = refl; names = λ k h. refl; dims = λ k h. refl; told = λ k h some. some };
  keys_are = refl;
  had_still = λ key had. had;
  failed_still = λ some. (refl, refl);
}

pub saves-on : (s t u : Saves) → SavesOn s t → SavesOn t u → SavesOn s u
saves-on s t u a b =
    let within : (k : ℕ) → k < length s.files → k < length t.files = λ k h. subst (λ n. k < n) (sym a.same.count) h in
    record {
      wanted_is = b.wanted_is ∙ a.wanted_is;
      same = record {
        count = b.same.count ∙ a.same.count;
        names = λ k h. b.same.names k (within k h) ∙ a.same.names k h;
        dims = λ k h. b.same.dims k (within k h) ∙ a.same.dims k h;
        told = λ k h some. b.same.told k (within k h) (a.same.told k h some);
      };
      keys_are = b.keys_are ∙ a.keys_are;
      had_still = λ key had. b.had_still key (a.had_still key had);
      failed_still = λ some.
          let first = a.failed_still some in
          let next = b.failed_still (subst IsSome (sym first.0) some) in
          (next.0 ∙ first.0, next.1 ∙ first.1);
    }
