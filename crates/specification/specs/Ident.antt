-- Document 01: "Ident (name, share)".
use Rattle.std.specs.Prelude.{ℕ, Bool, ◌||◌, List, [], ◌∷◌, eqb, leb}
use Rattle.ranks.specs.Lists.{all_true, find_index}
use Rattle.records.specs.Split.{share_count, share_of_slot, share_of_task}
use Rattle.records.specs.Layout.{slot_count, id_of}
use Rattle.records.specs.Records.{Queue, State, is_live, is_open, queue_at}
use Rattle.records.specs.Status.{SUCCESSFUL, INVALID-NAME, INVALID-NODE}
use Rattle.specification.specs.Answer.{Outcome, outcome, Refusal, ◌⇒◌}

-- slot `i` is a live queue of the share with the name, and OPEN if the share is foreign
abbrev pub is_named : (caller name share i : ℕ) → Queue → Bool
is_named caller name share i q =
    all_true (is_live q ∷ eqb (share_of_slot i) share ∷ eqb q.name name ∷ (eqb share (share_of_task caller) || is_open q) ∷ [])

-- "Lowest live slot of that share with the name; in a foreign share only OPEN ones"; 16 if there is none
unfoldable pub named : State → (caller name share : ℕ) → ℕ
named s caller name share = find_index (is_named caller name share) s.queues

-- "1 for name 0, then 9, then 1 if not found"
unfoldable pub refusals : State → (caller name share : ℕ) → List Refusal
refusals s caller name share =
    (eqb name 0 ⇒ INVALID-NAME)
    ∷ (leb share_count share ⇒ INVALID-NODE)
    ∷ (leb slot_count (named s caller name share) ⇒ INVALID-NAME)
    ∷ []

-- "Value: the id."
unfoldable pub effect : State → (slot : ℕ) → Outcome State
effect s slot = outcome SUCCESSFUL (id_of (queue_at s slot).generation slot) 0 s
