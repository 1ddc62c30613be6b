-- A revert by its fields.
use Rattle.sw_recon.specs.Standing.{RevertModel}
use Rattle.sw_recon.specs.declared.revert.RevertJob.TheInside.{Inside}

abbrev pub revert_seen : Inside → RevertModel
revert_seen job = record {
  cluster = job.cluster.now;
  device = job.device;
  place = job.place;
  status = job.status;
  tickets = job.tickets;
  is_waiting = job.is_waiting;
  unread = job.unread;
}
