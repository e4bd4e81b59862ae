-- The tests 16, 10 and 11 as the code makes them. Assumes nothing.
use Prim.Native.Nat.{ℕ, ◌≤◌, ◌<◌}
use mathlib.Core.Path.{◌≡◌, refl}
use mathlib.Core.Bool.{Bool, true, false}
use mathlib.Core.List.{List, [], ◌∷◌, ◌++◌}
use lib.Dec.{eqb}
use lib.ListN.{length}
use borrow.Author.Tests.{le-leb, lt-leb, not-false}
use Rattle.std.specs.Prelude.{Ok}
use Rattle.ranks.specs.Lists.{all_true}
use Rattle.records.specs.Layout.{queues_size, pool_size, tasks_size, task_count}
use Rattle.records.specs.Records.{waiting_state}
use Rattle.records.specs.Bytes.{Tables, tables, decode, right_lengths, decode_task_at}
use Rattle.records.proofs.EncodeDecode.{lengths}
use Rattle.records.proofs.Access.{task-at}
use Rattle.specification.specs.Answer.{Refusal, first_status}
use Rattle.specification.specs.Sound.{sound}
use Rattle.specification.specs.Step.{bad_caller}
use Rattle.specification.proofs.Refused.{none-holds}
use Rattle.common_refusals.specs.Tested.{Tested, table_refusals}

-- the first refusal of two lists
pub first-of-both : (rs rs' : List Refusal) → (first_status rs ≡ 0 → ⊥) → first_status rs ≡ first_status (rs ++ rs')
unfolding first_status
first-of-both [] rs' ne = absurd (ne refl)
first-of-both (r ∷ rs) rs' ne = go r.holds refl (first-of-both rs rs')
  where
    go : (b : Bool) → r.holds ≡ b → ((first_status rs ≡ 0 → ⊥) → first_status rs ≡ first_status (rs ++ rs')) → first_status (r ∷ rs) ≡ first_status (r ∷ rs ++ rs')
    go true h later = rw h
    go false h later = rw h (later (λ z. ne (rw h z)))

-- the test 11
module _ (t : Tables) (caller : ℕ) where
  pub no_task : task_count ≤ caller → bad_caller (decode t) caller ≡ true
  unfolding bad_caller
  no_task h = rw (le-leb task_count caller h)

  pub task_waits : caller < task_count → bad_caller (decode t) caller ≡ eqb (decode_task_at caller t.tasks).state waiting_state
  unfolding bad_caller
  task_waits h = rw (lt-leb task_count caller h, task-at t caller h)

pub table-passed : (t : Tables) → Tested t (Ok tt) → (right_lengths t ≡ true) × (sound (decode t) ≡ true)
unfolding all_true
table-passed t e = let (lengths, (is_sound, _)) = none-holds (table_refusals t) refl e in (not-false _ lengths, not-false _ is_sound)

-- tables that passed the tests 16 and 10
module _ (t : Tables) (passed : Tested t (Ok tt)) where
  pub tables_shaped : right_lengths t ≡ true
  tables_shaped = (table-passed t passed).0

  pub tables_sound : sound (decode t) ≡ true
  tables_sound = (table-passed t passed).1

-- the lengths that the test 16 asks for
module _ (q p w : List ℕ) (shaped : right_lengths (tables q p w) ≡ true) where
  pub queues_length : length q ≡ queues_size
  queues_length = (lengths (tables q p w) shaped).0

  pub pool_length : length p ≡ pool_size
  pool_length = (lengths (tables q p w) shaped).1

  pub tasks_length : length w ≡ tasks_size
  tasks_length = (lengths (tables q p w) shaped).2

pub ruleset first_tests = (no_task, task_waits, tables_shaped, tables_sound, queues_length, pool_length, tasks_length)
