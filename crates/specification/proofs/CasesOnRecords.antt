-- The cases hold on records: every answer, and the bytes of the records that they name. Both groups of cases are computed. Assumes nothing.
use Rattle.std.specs.Prelude.{ℕ, ◌+◌, Bool, true, ◌&&◌, List, [], ◌∷◌, ◌++◌, map, length, leb, ltb}
use Rattle.ranks.specs.Lists.{all_true}
use Rattle.ranks.specs.Table.{slice}
use Rattle.records.specs.Layout.{slot_count, buffer_count, task_count}
use Rattle.records.specs.Records.{State, queue_at, buffer_at, task_at, fresh}
use Rattle.records.specs.Bytes.{encode_queue, encode_buffer, encode_task}
use Rattle.specification.specs.Run.{good_priorities}
use Rattle.specification.specs.Call.{arguments_in_range}
use Rattle.specification.specs.Cases.{TableName, queue_table, pool_table, task_table, Excerpt, Case, Seen, calls_of, width_of, rising, expected, paper_cases, error_cases, cases}
use Rattle.specification.proofs.OnRecords.{events_on_records, state_after}
use mathlib.Core.Path.{◌≡◌, refl, sym, ◌∙◌, ap₂}
use mathlib.Core.List.{map-append}
use Rattle.ranks.specs.Lists
use Rattle.ranks.specs.Table
use Rattle.ranks.specs.Steps
use Rattle.octets.specs.LittleEndian
use Rattle.records.specs.Split
use Rattle.records.specs.Layout
use Rattle.records.specs.Records
use Rattle.records.specs.Bytes
use Rattle.specification.specs.Answer
use Rattle.specification.specs.Sound
use Rattle.specification.specs.Lookup
use Rattle.specification.specs.Create
use Rattle.specification.specs.Delete
use Rattle.specification.specs.Submit
use Rattle.specification.specs.Broadcast
use Rattle.specification.specs.Receive
use Rattle.specification.specs.GetNumberPending
use Rattle.specification.specs.Flush
use Rattle.specification.specs.Tick
use Rattle.specification.specs.Step
use Rattle.specification.specs.Call
use Rattle.specification.specs.Cases
use Rattle.specification.proofs.OnRecords

-- the record that an excerpt is of, as bytes
unfoldable pub record_bytes : State → TableName → ℕ → List ℕ
record_bytes s queue_table n = encode_queue (queue_at s n)
record_bytes s pool_table n = encode_buffer (buffer_at s n)
record_bytes s task_table n = encode_task (task_at s n)

unfoldable pub excerpt_on_records : State → Excerpt → List ℕ
excerpt_on_records s x = slice x.place (length x.bytes) (record_bytes s x.table x.number)

unfoldable pub observed_on_records : Case → Seen
observed_on_records k =
    record { events = events_on_records (fresh rising) (calls_of k); bytes = map (excerpt_on_records (state_after (fresh rising) (calls_of k))) k.excerpts }

-- a statement that is proved by computing with all the definitions
unfoldable Computed : Type 0 → Type 0
unfolding Lists.◌implies◌ Lists.within Lists.map_from_index Lists.map_with_index Lists.all_true Lists.count_true Lists.first_true Lists.mask Lists.sum_of Lists.minimum Lists.all_zero Lists.numbers_from Steps.inserted Steps.taken_out Steps.ranked Split.share_of_slot Split.share_of_buffer Split.share_of_task Split.share_limit Layout.id_of Records.fresh Records.size_allowed Answer.refuse_if_any Sound.free_queue_rules Sound.live_queue_rules Sound.sound_queue Sound.limits Sound.sound_limits Sound.free_buffer_rules Sound.used_buffer_rules Sound.sound_buffer Sound.by_priority Sound.sound_ranks Sound.task_rules Sound.ready_task_rules Sound.waiting_task_rules Sound.sound_task Sound.sound Lookup.usable Lookup.is_foreign Lookup.first_waiter Lookup.first_message Lookup.waiters_of Lookup.leave Lookup.without_waiters Lookup.without_messages Create.free_slot Create.refusals Create.effect Delete.refusals Delete.effect Submit.free_buffer_of Submit.refusals Submit.delivered Submit.enqueued Submit.effect Broadcast.refusals Broadcast.effect Receive.refusals Receive.received Receive.wait_rank Receive.waiting Receive.effect GetNumberPending.effect Flush.refusals Flush.effect Tick.tick_task Tick.tick_tasks Tick.effect Step.bad_caller Step.common_refusals Step.operation_refusals Step.directive_refusals Step.own_refusals Step.operation_effect Step.effect OnRecords.call_on_records OnRecords.events_on_records OnRecords.state_after Table.slice LittleEndian.to_little_endian Bytes.encode_queue Bytes.encode_buffer Bytes.encode_task record_bytes excerpt_on_records observed_on_records Cases.expected
Computed P = P

paper-cases : Computed (map observed_on_records paper_cases ≡ map expected paper_cases)
unfolding Computed paper_cases
paper-cases = refl

error-cases : Computed (map observed_on_records error_cases ≡ map expected error_cases)
unfolding Computed error_cases
error-cases = refl

pub cases-on-records : map observed_on_records cases ≡ map expected cases
unfolding Computed cases
cases-on-records =
    map-append observed_on_records paper_cases error_cases ∙ ap₂ (λ a b. a ++ b) paper-cases error-cases ∙ sym (map-append expected paper_cases error_cases)

-- ---- The cases are of calls whose numbers are in range, and name bytes that are there.

abbrev pub count_of : TableName → ℕ
count_of queue_table = slot_count
count_of pool_table = buffer_count
count_of task_table = task_count

unfoldable pub excerpt_in_range : Excerpt → Bool
excerpt_in_range x = ltb x.number (count_of x.table) && leb (x.place + length x.bytes) (width_of x.table)

unfoldable pub case_in_range : Case → Bool
case_in_range k = all_true (all_true (map arguments_in_range (calls_of k)) ∷ all_true (map excerpt_in_range k.excerpts) ∷ [])

pub cases-in-range : all_true (map case_in_range cases) ≡ true
unfolding Lists.numbers_from Lists.all_true Call.operation_in_range Call.directive_in_range Call.arguments_in_range excerpt_in_range case_in_range paper_cases error_cases cases
cases-in-range = refl

pub rising-good : good_priorities rising ≡ true
unfolding Lists.numbers_from Lists.all_true Lists.within Lists.map_from_index Lists.map_with_index good_priorities
rising-good = refl
