use Rattle.records.proofs.Batching.{batches_drafted, batches_refused, batches_whole, batches_accepted}
use Rattle.records.proofs.RoundTrips.{reads_back, writes_back}
use Rattle.records.proofs.laws.records_come_back.Goals as goal

pub returns : goal.returns
returns c = record {
  reads_back = reads_back;
  writes_back = writes_back;
  batches_drafted = batches_drafted;
  batches_refused = batches_refused;
  batches_whole = batches_whole;
  batches_accepted = batches_accepted;
}
