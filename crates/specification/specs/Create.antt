-- Document 01: "Create (name, limit, max size, attributes)".
use Rattle.std.specs.Prelude.{ℕ, suc, ◌+◌, Bool, not, List, [], ◌∷◌, eqb, leb, ltb}
use Rattle.ranks.specs.Lists.{all_true, find_index}
use Rattle.records.specs.Split.{share_of_slot, share_limit}
use Rattle.records.specs.Layout.{slot_count, id_of, last_generation}
use Rattle.records.specs.Records.{Queue, State, limit_allowed, max_size_allowed, queue_at}
use Rattle.records.specs.Changes.{change_at, with_generation, live_with}
use Rattle.records.specs.Status.{SUCCESSFUL, INVALID-NAME, INVALID-SIZE, INVALID-NUMBER, TOO-MANY, UNSATISFIED, INVALID-OPTION}
use Rattle.specification.specs.Answer.{Outcome, outcome, Refusal, ◌⇒◌}
use Rattle.specification.specs.Sound.{limits}

-- slot `i` is free, of the share, and not spent
abbrev pub is_free_slot : (share i : ℕ) → Queue → Bool
is_free_slot share i q = all_true (eqb q.live 0 ∷ eqb (share_of_slot i) share ∷ ltb q.generation last_generation ∷ [])

-- "Takes the lowest free slot of the caller's share with generation below 65,535"; 16 if there is none
unfoldable pub free_slot : State → (share : ℕ) → ℕ
free_slot s share = find_index (is_free_slot share) s.queues

-- "1, 15 (attributes above 3), 4, 3, 5, 6. [...] 5 if there is none; [...]. 6 exactly if the share's limits plus this one pass 16."
unfoldable pub refusals : State → (share name limit max_size attributes : ℕ) → List Refusal
refusals s share name limit max_size attributes =
    (eqb name 0 ⇒ INVALID-NAME)
    ∷ (ltb 3 attributes ⇒ INVALID-OPTION)
    ∷ (not (limit_allowed limit) ⇒ INVALID-NUMBER)
    ∷ (not (max_size_allowed max_size) ⇒ INVALID-SIZE)
    ∷ (leb slot_count (free_slot s share) ⇒ TOO-MANY)
    ∷ (ltb (share_limit share) (limits s share + limit) ⇒ UNSATISFIED)
    ∷ []

-- "raises its generation by one": the record with the next generation, and live
abbrev pub new_queue : (name limit max_size attributes : ℕ) → Queue → Queue
new_queue name limit max_size attributes q = live_with name limit max_size attributes (with_generation (suc q.generation) q)

-- "Value: the id."
unfoldable pub effect : State → (slot name limit max_size attributes : ℕ) → Outcome State
effect s slot name limit max_size attributes =
    outcome SUCCESSFUL (id_of (suc (queue_at s slot).generation) slot) 0
    (record {
      queues = change_at slot (new_queue name limit max_size attributes) s.queues;
      pool = s.pool;
      tasks = s.tasks;
    })
