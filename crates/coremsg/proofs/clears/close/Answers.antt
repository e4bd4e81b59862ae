-- `coremsg::clears::close` meets its contract. Assumes nothing.
use Rattle.records.specs.Bytes.{decode}
use Rattle.specification.specs.Delete
use Rattle.coremsg.proofs.clears.close.Goals as goal

pub free_record-requires : goal.free_record-requires
free_record-requires c = (c.requires.0, c.requires.1.0)

pub returns : goal.returns
unfolding decode Delete.effect
returns c = (
  c.waiters_mask-made_ready.ensures,
  λ i. record {
    queues = c.free_record.ensures i;
    pool = c.clear_messages.ensures i;
    tasks = c.ready_all.ensures i;
  },
)
