-- Questions are true by the time that they come, and answers name others, after every legal list of events.
use Rattle.std.proofs.Common.{◌≡◌, ℕ, ◌+◌, ◌<◌, true, false, cond, List, [], ◌∷◌, ◌++◌, refl, sym, ap, ◌∙◌, subst, arith}
use Rattle.std.specs.List.{AllByRecursion}
use Rattle.std.proofs.lemmas.Bool.{true≢false, false≢true, eq-eqb, eqb-true, ltb-true}
use Rattle.small_facts.proofs.Every.{all_join}
use Rattle.cluster_msgs.specs.Shape.{Shape, key_count}
use Rattle.cluster_msgs.specs.declared.messages.Down.{Down}
use Rattle.cluster_msgs.specs.declared.messages.Up.{Up}
use Rattle.cluster_msgs.specs.declared.messages.Up.TheVariants.{TaskFinished, TaskErred, AddKeys, ReleaseWorkerData, MissingData, RequestRefreshWhoHas, StealResponse}
use Rattle.cluster_msgs.specs.declared.cores.SchedEvent.{SchedEvent}
use Rattle.cluster_msgs.specs.declared.cores.SchedEvent.TheVariants.{Join as JoinSched, Leave, FromWorker, FromClient, Balance as BalanceSched, Evict as EvictSched, Replicate as ReplicateSched}
use Rattle.cluster_msgs.specs.declared.cores.WorkerEvent.{WorkerEvent}
use Rattle.cluster_msgs.specs.declared.cores.WorkerEvent.TheVariants.{Down as Told, Start as StartTask, Done, Ask as AskPeer, Gathered, GatherFailed, DataLost}
use Rattle.cluster_msgs.specs.declared.events.Event.{Event}
use Rattle.cluster_rules.specs.Sched.{Facts, keys, holds, connected}
use Rattle.cluster_rules.specs.SchedTable.{sched_takes, up_keys}
use Rattle.cluster_rules.specs.SchedStep.{sched_step, mail}
use Rattle.cluster_rules.specs.Worker.{new_worker}
use Rattle.cluster_rules.specs.WorkerStep.{worker_step, worker_takes}
use Rattle.cluster_rules.specs.Inside.{AreKeys}
use Rattle.cluster_rules.specs.World.{Job, IsJob, World, opening, shape_of, is_connected}
use Rattle.cluster_rules.specs.WorldStep.{sends, world_step}
use Rattle.cluster_rules.specs.Runs.{LegalFrom, legal, run_from, reached}
use Rattle.pair_machine.specs.Pair.{Quiet, IsPair}
use Rattle.pair_moves.specs.Projection.{report_of, report_in, notes}
use Rattle.pair_moves.proofs.WorkerMoves.{pair_closed, own_keeps, told_keeps, IsOwn, reports-append}
use Rattle.safety_laws.specs.Joint.{pair_at}
use Rattle.safety_laws.specs.Lively.{questions}
use Rattle.safety_laws.proofs.Joint.{IsJoint, joint_step, joint_opening, joint_after}
use Rattle.quiet_measure.specs.Turns.{NamesOthers}
use Rattle.quiet_laws.specs.Calm.{AreTrueQuestions, AreOfOthers}
use Rattle.quiet_laws.proofs.Lifted.{speaks, is_told, Fact, OfWorker, IsKeptAt, kept_step}
use Rattle.quiet_laws.proofs.Witness.{Witnessed, truly, quiet_witnessed, heard_witnessed, witnessed_join, new_witnessed}
use Rattle.quiet_laws.proofs.Questions.{turn_asks}
use Rattle.quiet_laws.proofs.TrueAnswers.{AskedTruly, step_others}

own_of : (k : ℕ) (e : WorkerEvent) → is_told e ≡ false → IsOwn IsPair (λ _. Unit {0}) (pair_closed (λ _. Unit {0})) k e
own_of k (Told m) t = absurd (true≢false t)
own_of k StartTask t = tt
own_of k (Done q b) t = tt
own_of k (AskPeer p) t = tt
own_of k (Gathered p n found) t = tt
own_of k (GatherFailed p n) t = tt
own_of k (DataLost q) t = tt

report_quiet : (i k : ℕ) (s : SchedEvent) → speaks i s ≡ false → report_in s i k ≡ Quiet
report_quiet i k (FromWorker x m) e = ap (λ b. cond b (report_of k m) Quiet) e
report_quiet i k (JoinSched threads) e = refl
report_quiet i k (Leave v) e = refl
report_quiet i k (FromClient c m) e = refl
report_quiet i k BalanceSched e = refl
report_quiet i k EvictSched e = refl
report_quiet i k (ReplicateSched q v) e = refl

asked_quiet : (f : Facts) (i : ℕ) (s : SchedEvent) → speaks i s ≡ false → AskedTruly f i s
asked_quiet f i (FromWorker x m) e = λ s q z. absurd (true≢false (sym (eq-eqb x i s) ∙ e))
asked_quiet f i (JoinSched threads) e = tt
asked_quiet f i (Leave v) e = tt
asked_quiet f i (FromClient c m) e = tt
asked_quiet f i BalanceSched e = tt
asked_quiet f i EvictSched e = tt
asked_quiet f i (ReplicateSched q v) e = tt

-- the key of a question is one of the graph's
question_key : (g : Shape) (q : ℕ) (m : Up) → questions q m ≡ true → AreKeys g (up_keys m) → q < key_count g
question_key g q (MissingData seen k x c) e v = subst (λ y. y < key_count g) (eqb-true k q e) (ltb-true k (key_count g) v.0)
question_key g q (RequestRefreshWhoHas seen k) e v = subst (λ y. y < key_count g) (eqb-true k q e) (ltb-true k (key_count g) v.0)
question_key g q (TaskFinished seen k a) e v = absurd (false≢true e)
question_key g q (TaskErred seen k a) e v = absurd (false≢true e)
question_key g q (AddKeys seen ks) e v = absurd (false≢true e)
question_key g q (ReleaseWorkerData seen k) e v = absurd (false≢true e)
question_key g q (StealResponse seen k a agreed) e v = absurd (false≢true e)

module _ (j : Job) where
  -- of worker i: the questions have their witnesses, and the answers name others
  abbrev pub Answering : ℕ → Fact
  Answering i f x down up = ((k : ℕ) → k < key_count j.setting.shape → Witnessed f i k [] up) × AllByRecursion (NamesOthers i) down

  module _ (w : World) (joint : IsJoint j w) (i : ℕ) where
    low_here : (k : ℕ) → k < key_count j.setting.shape → k < keys w.sched
    low_here k l = subst (λ (g : Shape). k < key_count g) (sym joint.inside.shape) l

    pair_here : (k : ℕ) → k < key_count j.setting.shape → w.alive i ≡ true → is_connected w i ≡ true → IsPair (pair_at w i k)
    pair_here k l a c = joint.paired i k (low_here k l) a c

    kept_answering : IsKeptAt w i (Answering i)
    kept_answering = record {
      quiet = λ s t q c a there h. (
        λ k l. quiet_witnessed w.sched s joint.sound joint.settled joint.numbered t i k (low_here k l) there (report_quiet i k s q) [] (w.up i) (h.0 k l),
        all_join (NamesOthers i) (w.down i) (mail i (sched_step w.sched s).down) h.1 (step_others w.sched i s (asked_quiet w.sched i s q)),
      );
      heard = λ m ms e t c a there h. heard m ms e t there h;
      own = λ e o t c a h. (λ k l. own k l e o t c a (h.0 k l), h.1);
      told = λ m ms e t c a h. (λ k l. told k l m ms e t c a (h.0 k l), (subst (AllByRecursion (NamesOthers i)) e h.1).1);
      born = λ threads t e. born threads e;
    }
      where
        heard : (m : Up) (ms : List Up) → w.up i ≡ m ∷ ms → sched_takes w.sched (FromWorker i m) ≡ true → connected (sched_step w.sched (FromWorker i m)).facts i ≡ true → Answering i w.sched (w.workers i) (w.down i) (w.up i)
            → Answering i (sched_step w.sched (FromWorker i m)).facts (w.workers i) (w.down i ++ mail i (sched_step w.sched (FromWorker i m)).down) ms
        heard m ms e t there h = (
          λ k l. heard_witnessed w.sched (FromWorker i m) joint.sound joint.settled joint.numbered t i k (low_here k l) there m (ap (λ b. cond b (report_of k m) Quiet) (eq-eqb i i refl)) [] ms (subst (Witnessed w.sched i k []) e (h.0 k l)).1,
          all_join (NamesOthers i) (w.down i) (mail i (sched_step w.sched (FromWorker i m)).down) h.1 (step_others w.sched i (FromWorker i m) (λ s q z. asked q z)),
        )
          where
            asked : (q : ℕ) → questions q m ≡ true → holds w.sched i q ≡ false
            asked q z =
                let l : q < key_count j.setting.shape = question_key j.setting.shape q m z (subst (AllByRecursion (λ x. AreKeys j.setting.shape (up_keys x))) e (joint.inside.up i)).0 in
                (truly w.sched i q [] (m ∷ ms) (subst (Witnessed w.sched i q []) e (h.0 q l))).0 z

        own : (k : ℕ) → k < key_count j.setting.shape → (e : WorkerEvent) → is_told e ≡ false → worker_takes (w.workers i) e ≡ true → is_connected w i ≡ true → w.alive i ≡ true
            → Witnessed w.sched i k [] (w.up i) → Witnessed w.sched i k [] (w.up i ++ sends (worker_step (w.workers i) e).out)
        own k l e o t c a h = witnessed_join w.sched i k [] (w.up i) (sends (worker_step (w.workers i) e).out) h
            (new_witnessed w.sched i k (record { down = w.down i; seen = (worker_step (w.workers i) e).facts.seen; mine = (worker_step (w.workers i) e).facts.mine k; mem = (worker_step (w.workers i) e).facts.mem k; up = w.up i }) (w.up i) (sends (worker_step (w.workers i) e).out)
            (subst (λ rs. IsPair (record (pair_at w i k) { seen = (worker_step (w.workers i) e).facts.seen; mine = (worker_step (w.workers i) e).facts.mine k; mem = (worker_step (w.workers i) e).facts.mem k; up = rs }))
            (sym (reports-append k (w.up i) (sends (worker_step (w.workers i) e).out)))
            (own_keeps IsPair (λ _. Unit {0}) (pair_closed (λ _. Unit {0})) k (w.workers i) e (own_of k e o) t (pair_at w i k) (pair_here k l a c)))
            (turn_asks (w.workers i) e k).0 (turn_asks (w.workers i) e k).1)

        told : (k : ℕ) → k < key_count j.setting.shape → (m : Down) (ms : List Down) → w.down i ≡ m ∷ ms → worker_takes (w.workers i) (Told m) ≡ true → is_connected w i ≡ true → w.alive i ≡ true
            → Witnessed w.sched i k [] (w.up i) → Witnessed w.sched i k [] (w.up i ++ sends (worker_step (w.workers i) (Told m)).out)
        told k l m ms e t c a h = witnessed_join w.sched i k [] (w.up i) (sends (worker_step (w.workers i) (Told m)).out) h
            (new_witnessed w.sched i k (record { down = ms; seen = (worker_step (w.workers i) (Told m)).facts.seen; mine = (worker_step (w.workers i) (Told m)).facts.mine k; mem = (worker_step (w.workers i) (Told m)).facts.mem k; up = w.up i }) (w.up i) (sends (worker_step (w.workers i) (Told m)).out)
            (subst (λ rs. IsPair (record (pair_at w i k) { down = notes k ms; seen = (worker_step (w.workers i) (Told m)).facts.seen; mine = (worker_step (w.workers i) (Told m)).facts.mine k; mem = (worker_step (w.workers i) (Told m)).facts.mem k; up = rs }))
            (sym (reports-append k (w.up i) (sends (worker_step (w.workers i) (Told m)).out)))
            (told_keeps IsPair (λ _. Unit {0}) (pair_closed (λ _. Unit {0})) k (w.workers i) m t (λ _. tt) (pair_at w i k) (notes k ms)
            (subst (λ x. IsPair (record (pair_at w i k) { down = notes k x })) e (pair_here k l a c))))
            (turn_asks (w.workers i) (Told m) k).0 (turn_asks (w.workers i) (Told m) k).1)

        born : (threads : ℕ) → i ≡ w.sched.last_worker + 1
            → Answering i (sched_step w.sched (JoinSched threads)).facts (new_worker (shape_of w) (w.sched.last_worker + 1) threads) (w.down i ++ mail i (sched_step w.sched (JoinSched threads)).down) (w.up i)
        born threads e =
            let bare = joint.home.bare i (omega (arith, e)) in (
              λ k l. subst (Witnessed (sched_step w.sched (JoinSched threads)).facts i k []) (sym bare.up) tt,
              all_join (NamesOthers i) (w.down i) (mail i (sched_step w.sched (JoinSched threads)).down) (subst (AllByRecursion (NamesOthers i)) (sym bare.down) tt) (step_others w.sched i (JoinSched threads) tt),
            )

  answering_from : IsJob j → (w : World) (es : List Event) → LegalFrom j w es → IsJoint j w → ((i : ℕ) → OfWorker (Answering i) w i) → (i : ℕ) → OfWorker (Answering i) (run_from j w es) i
  answering_from job w [] l g h = h
  answering_from job w (e ∷ es) l g h = answering_from job (world_step j w e) es l.1 (joint_step j job w e l.0 g) (λ i. kept_step j w g i (Answering i) (kept_answering w g i) (h i) e l.0)

  pub answering_after : IsJob j → (es : List Event) → legal j es → (i : ℕ) → OfWorker (Answering i) (reached j es) i
  answering_after job es l = answering_from job (opening j) es l (joint_opening j job) (λ i a c. absurd (false≢true a))

pub others_after : (j : Job) → IsJob j → (es : List Event) → legal j es → AreOfOthers (reached j es)
others_after j job es l = λ i a c. (answering_after j job es l i a c).1

pub truths_after : (j : Job) → IsJob j → (es : List Event) → legal j es → AreTrueQuestions (reached j es)
truths_after j job es l = λ i k low a c. truly (reached j es).sched i k [] ((reached j es).up i) ((answering_after j job es l i a c).0 k (subst (λ (g : Shape). k < key_count g) (joint_after j job es l).inside.shape low))
