use Rattle.std.proofs.Common.{◌∙◌}
use Rattle.std.specs.Option.{option_copied}
use Rattle.small_facts.proofs.Results.{on_err_from}
use Rattle.run_report.specs.declared.tally.Tally.{Tally}
use Rattle.run_report.proofs.TallyLemmas.{count_goes}
use Rattle.run_report.proofs.tally.Tally.count.Goals as goal

pub returns-clause-ok : goal.returns-clause-ok
returns-clause-ok c es few rare h =
    let u : Tally = record { joins = c.more_joins-self.result; started = c.more-self.result; starts = c.note.new.starts; gathers = c.more-self-2.result; confirmed = c.more-self-3.result; refused = c.more-self-4.result; losses = c.more-self-5.result } in
    count_goes c.args.self.now u c.args.event.now (option_copied c.args.message) es (record {
      join = c.is_join.result;
      start = c.is_start.result;
      gather = c.is_gather.result;
      confirm = c.is_confirmed.result;
      refuse = c.is_refused.result;
      loss = c.is_loss.result;
      by_join = c.is_join.ensures (option_copied c.args.message);
      by_start = c.is_start.ensures (option_copied c.args.message);
      by_gather = c.is_gather.ensures (option_copied c.args.message);
      by_confirm = c.is_confirmed.ensures;
      by_refuse = c.is_refused.ensures;
      by_loss = c.is_loss.ensures (option_copied c.args.message);
      joins = c.more_joins-self.ensures;
      started = c.more-self.ensures;
      gathers = c.more-self-2.ensures;
      confirmed = c.more-self-3.ensures;
      refused = c.more-self-4.ensures;
      losses = c.more-self-5.ensures;
      starts = c.in_ok-note.ensures.ok;
    }) few rare h

pub returns-in_err-note-clause-err : goal.returns-in_err-note-clause-err
returns-in_err-note-clause-err c = on_err_from c.from_residual.result (λ es h. record {
  joins = h.joins;
  started = h.started;
  starts = λ i. c.in_err-note.ensures.err i ∙ h.starts i;
  gathers = h.gathers;
  confirmed = h.confirmed;
  refused = h.refused;
  losses = h.losses;
})
