use Rattle.cluster_world.proofs.world.World.step.Goals as goal

pub take-requires-clause-world : goal.take-requires-clause-world
take-requires-clause-world g c = λ κs lives. c.self.invariant

pub invariant_of-self : goal.invariant_of-self
invariant_of-self g c = c.take.ensures.world

pub returns : goal.returns
returns g c =
    let k = c.take.ensures.step in
    rw (← c.self.view_is) (record {
      ready = k.ready;
      possible = k.possible;
      world = k.world;
      cluster = k.cluster;
      goes = k.goes;
      events = k.events;
      by_values = k.by_values;
      made = k.made;
      attempts = k.attempts;
      job = k.job;
      setting = k.setting;
      tells = k.tells;
      faults = k.faults;
      not_enabled = k.not_enabled;
      not_enabled_stays = k.not_enabled_stays;
      spent = k.spent;
      spent_stays = k.spent_stays;
      stopped = k.stopped;
      stopped_stays = k.stopped_stays;
      feed = k.feed;
      feed_stays = k.feed_stays;
      feed_made = k.feed_made;
      memory = k.memory;
      starved = k.starved;
    })
