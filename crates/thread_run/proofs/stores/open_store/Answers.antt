use Rattle.io_edge.specs.Disk.{fresh_disk}
use Rattle.thread_run.proofs.Disks.{made-for}
use Rattle.thread_run.proofs.stores.open_store.Goals as goal

pub new-requires-after_bounds : goal.new-requires-after_bounds
new-requires-after_bounds g c κs within =
    made-for g.L.Label.facts (fresh_disk (g.S.Site.view c.args.site.now).files.tells) g.S.Spill.SpillDisk.view c.in_ok-disk.disk c.requires c.in_ok-disk.ensures.made
