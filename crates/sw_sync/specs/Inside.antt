-- A sync by its fields.
use Rattle.sw_sync.specs.Standing.{SyncModel}
use Rattle.sw_sync.specs.declared.sync.SyncJob.TheInside.{Inside}

abbrev pub sync_seen : Inside → SyncModel
sync_seen job = record {
  cluster = job.cluster.now;
  device = job.device;
  place = job.place;
  state = job.state;
  mailbox = job.mailbox;
}
