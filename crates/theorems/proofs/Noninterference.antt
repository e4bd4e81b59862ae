-- Demand 3, whole: on bytes, for any share and any two runs. Assumes nothing.
use Prim.Native.Nat.{ℕ, ◌≤◌, ◌<◌}
use native.Mathlib.Omega.{arith}
use mathlib.Core.Path.{◌≡◌, refl, sym, ap, ◌∙◌, subst}
use mathlib.Core.Bool.{true}
use mathlib.Core.List.{List, map}
use lib.Dec.{eqb}
use lib.ListN.{length, get_or}
use Rattle.ranks.specs.Lists.{all_true, map_with_index, within}
use Rattle.records.specs.Layout.{task_count, capacity}
use Rattle.records.specs.Records.{State, fresh}
use Rattle.records.specs.Bytes.{encode_queue, encode_buffer, encode_task, encode}
use Rattle.specification.specs.Call.{Call}
use Rattle.specification.specs.Run.{Event, fresh_tables, good_priorities}
use Rattle.theorems.specs.Noninterference.{is_confined, observations, wakes_no_task_of, SameRecords, Demand3}
use Rattle.ranks.proofs.Lists.{every-at}
use Rattle.ranks.proofs.Tests.{both}
use Rattle.records.proofs.Fits.{free-queue-fits}
use Rattle.records.proofs.ByteLists.{bytes-zeros}
use Rattle.specification.proofs.OnRecords.{events_on_records, state_after}
use Rattle.specification.proofs.Rules.{bounds}
use Rattle.specification.proofs.SoundFacts.{SoundFacts}
use Rattle.theorems.proofs.Encodable.{Encodable}
use Rattle.theorems.proofs.Equivalent.{Equivalent, equivalent-refl, equivalent-sym, equivalent-trans}
use Rattle.theorems.proofs.Fresh.{Priorities, priorities, fresh-queue, fresh-buffer, fresh-task, fresh-sound, fresh-confined, fresh-equivalent}
use Rattle.theorems.proofs.OnBytes.{queue-bytes, buffer-bytes, task-bytes, RunOnRecords, run-on-records}
use Rattle.theorems.proofs.UnwindRuns.{RunFacts, runs}

-- fresh records fit their bytes
pub fresh-fits : (ps : List ℕ) → good_priorities ps ≡ true → Encodable (fresh ps)
unfolding good_priorities
fresh-fits ps e =
    let p = priorities ps e in
    let high : (t : ℕ) → t < task_count → get_or ps t 0 ≤ 255 = λ t h. (bounds 1 255 (get_or ps t 0) (every-at (λ t p. within 1 255 p) ps 0 (both (eqb (length ps) task_count) (all_true (map_with_index (λ t p. within 1 255 p) ps)) e).1 t (omega (arith, p.count)))).1 in
    record {
      queues = λ i h. rw (fresh-queue ps p i h) (free-queue-fits 0 (omega arith));
      pool = λ b h. rw (fresh-buffer ps p b h) (record { reserved = refl; bytes = record { long = refl; each = bytes-zeros capacity } });
      tasks =
          λ t h.
          rw (fresh-task ps p t h)
          (record {
            priority = let k = high t h in omega arith;
            reserved = refl;
            ticks_left = omega arith;
            reserved_after = refl;
            receive_buffer = record { long = refl; each = bytes-zeros capacity };
          });
    }

-- equal records have equal bytes
same-records : (x : ℕ) (s s' : State) → SoundFacts s → SoundFacts s' → Encodable s → Encodable s' → Equivalent x s s' → SameRecords x (encode s) (encode s')
same-records x s s' g g' f f' e =
    record {
      queues = λ i h o. queue-bytes s g.sized f i h ∙ ap encode_queue (e.queues i h o) ∙ sym (queue-bytes s' g'.sized f' i h);
      pool = λ b h o. buffer-bytes s g.sized f b h ∙ ap encode_buffer (e.pool b h o) ∙ sym (buffer-bytes s' g'.sized f' b h);
      tasks = λ t h o. task-bytes s g.sized f t h ∙ ap encode_task (e.tasks t h o) ∙ sym (task-bytes s' g'.sized f' t h);
    }

pub demand-3 : Demand3
unfolding fresh_tables
demand-3 x ps ps' calls calls' good good' same-priority args args' same-purge confined =
    record {
      observations-equal =
          ap (observations x) on.events ∙ one.observed
          ∙ ap (λ (l : List Call). observations x (events_on_records (fresh ps') l)) same-purge
          ∙ sym two.observed ∙ sym (ap (observations x) on'.events);
      wakes-none = ap (λ (es : List Event). all_true (map (wakes_no_task_of x) es)) on.events ∙ one.wakes-none;
      wakes-none' = ap (λ (es : List Event). all_true (map (wakes_no_task_of x) es)) on'.events ∙ two.wakes-none;
      records-equal =
          rw (on.tables, on'.tables)
          (same-records x _ _ on.sound on'.sound on.fits on'.fits
          (equivalent-trans
          (subst (λ (l : List Call). Equivalent x (state_after (fresh ps) calls) (state_after (fresh ps') l)) same-purge one.after)
          (equivalent-sym two.after)));
    }
  where
    p : Priorities ps
    p = priorities ps good

    p' : Priorities ps'
    p' = priorities ps' good'

    on : RunOnRecords (fresh ps) calls
    on = run-on-records calls (fresh ps) (fresh-sound ps p) (fresh-fits ps good) args

    on' : RunOnRecords (fresh ps') calls'
    on' = run-on-records calls' (fresh ps') (fresh-sound ps' p') (fresh-fits ps' good') args'

    -- both runs against the share's own calls and the ticks alone, from the second start
    one : RunFacts x (fresh ps) (fresh ps') calls
    one = runs x calls (fresh ps) (fresh ps') (fresh-confined ps p x) (fresh-confined ps' p' x) (fresh-equivalent x ps ps' p p' same-priority) confined

    two : RunFacts x (fresh ps') (fresh ps') calls'
    two =
        runs x calls' (fresh ps') (fresh ps') (fresh-confined ps' p' x) (fresh-confined ps' p' x) (equivalent-refl x (fresh ps'))
        (subst (λ (l : List Call). all_true (map (is_confined x) l) ≡ true) same-purge confined)
