-- `soundness::buffers::pool_sound` meets its contract. Assumes nothing.
use Rattle.soundness.specs.declared.ranked.Members.TheVariants.{Messages}
use native.Mathlib.Omega.{arith}
use mathlib.Core.Path.{◌∙◌}
use Rattle.records.specs.Records.{free_buffer}
use Rattle.records.specs.Bytes.{decode_pool}
use Rattle.specification.specs.Sound.{sound_buffer}
use Rattle.soundness.specs.Parts.{only_queues, pool_positions}
use Rattle.soundness.proofs.RecordTests.{Table, pool-shape, pool-table, table-fails, rules-hold, ranks-below, ranks-decide, messages-among}
use Rattle.soundness.proofs.buffers.pool_sound.Goals.{Start}
use Rattle.soundness.proofs.buffers.pool_sound.Goals as goal

table : (s : Start) → Table (sound_buffer (only_queues s.args.queues.now)) (λ m. m.position) (decode_pool s.args.pool.now) free_buffer (only_queues s.args.queues.now) (pool_positions s.args.pool.now)
table s = pool-table s.args.queues.now s.args.pool.now s.requires.1

pub every_ranked-requires : goal.every_ranked-requires
every_ranked-requires c = (
  c.requires.0,
  (
    pool-shape c.args.pool.now c.requires.1,
    (
      omega arith,
      (
        ranks-below (table (goal.at.every_ranked-requires c).Start) Messages c.each_buffer_sound.ensures c.if-each_buffer_sound.true,
        messages-among c.args.queues.now c.args.pool.now c.requires.1 (rules-hold (table (goal.at.every_ranked-requires c).Start) Messages c.each_buffer_sound.ensures c.if-each_buffer_sound.true),
      ),
    ),
  ),
)

pub returns-then-each_buffer_sound : goal.returns-then-each_buffer_sound
returns-then-each_buffer_sound c = ranks-decide (table (goal.at.returns-then-each_buffer_sound c).Start) Messages c.each_buffer_sound.ensures c.if-each_buffer_sound.true c.every_ranked.ensures

pub returns-else-each_buffer_sound : goal.returns-else-each_buffer_sound
returns-else-each_buffer_sound c = c.if-each_buffer_sound.false ∙ table-fails (table (goal.at.returns-else-each_buffer_sound c).Start) Messages c.each_buffer_sound.ensures c.if-each_buffer_sound.false
