-- What is known where no test refuses a call, by name. Assumes nothing.
use Prim.Native.Nat.{ℕ, ◌+◌, ◌≤◌, ◌<◌}
use mathlib.Core.Path.{◌≡◌, refl, ◌∙◌}
use mathlib.Core.Bool.{Bool, true, false, ◌||◌, true≢false}
use mathlib.Core.List.{List, ◌++◌}
use lib.Dec.{leb}
use lib.ListN.{length}
use borrow.Author.Tests.{eqb-false, ltb-false, leb-false, not-false}
use Rattle.records.specs.Layout.{largest_limit, slot_of, capacity, slot_count, task_count}
use Rattle.records.specs.Split.{share_limit}
use Rattle.records.specs.Records.{State, task_at, queue_at, is_waiting, size_allowed}
use Rattle.specification.specs.Sound.{limits}
use Rattle.specification.specs.Lookup.{usable}
use Rattle.specification.specs.Call.{Call, Directive, Operation, call, tick, on_queue}
use Rattle.specification.specs.Step.{bad_caller, common_refusals, own_refusals, directive_refusals, operation_refusals}
use Rattle.specification.specs.Create
use Rattle.specification.specs.Ident
use Rattle.specification.specs.Broadcast
use Rattle.specification.proofs.Rules.{bounds}
use Rattle.specification.proofs.Refused.{None}

-- ---- The tests that every call makes

pub record ReadyCaller (s : State) (caller : ℕ) : Type 0 where
  pub below : caller < task_count
  pub ready : is_waiting (task_at s caller) ≡ false

pub ready-caller : (s : State) (caller : ℕ) → bad_caller s caller ≡ false → ReadyCaller s caller
unfolding bad_caller
ready-caller s caller e = go (leb task_count caller) (is_waiting (task_at s caller)) refl refl e
  where
    go : (a b : Bool) → leb task_count caller ≡ a → is_waiting (task_at s caller) ≡ b → a || b ≡ false → ReadyCaller s caller
    go true b p q r = absurd (true≢false r)
    go false b p q r = record { below = leb-false _ _ p; ready = q ∙ r }

pub record AcceptedCall (s : State) (k : ℕ) (d : Directive) : Type 0 where
  pub caller : ReadyCaller s k
  pub directive : None (directive_refusals s k d)

unfoldable pub Accepted : State → Call → Type 0
Accepted s (call caller directive) = AcceptedCall s caller directive
Accepted s tick = Unit {0}

pub accepted-facts : (s : State) (c : Call) → None (common_refusals s c ++ own_refusals s c) → Accepted s c
unfolding common_refusals own_refusals Accepted
accepted-facts s (call caller directive) (sound, (ready, rest)) = record { caller = ready-caller s caller ready; directive = rest }
accepted-facts s tick n = tt

-- ---- The tests of a directive

pub record Creatable (s : State) (share name limit max_size attributes : ℕ) : Type 0 where
  pub named : name ≡ 0 → ⊥
  pub attributes_high : attributes ≤ 3
  pub limit_low : 1 ≤ limit
  pub limit_high : limit ≤ largest_limit
  pub size_low : 1 ≤ max_size
  pub size_high : max_size ≤ capacity
  pub slot_below : Create.free_slot s share < slot_count
  pub room : limits s share + limit ≤ share_limit share

pub creatable : (s : State) (share name limit max_size attributes : ℕ) → None (Create.refusals s share name limit max_size attributes)
    → Creatable s share name limit max_size attributes
unfolding Create.refusals
creatable s share name limit max_size attributes (n, (a, (l, (m, (f, (u, _)))))) =
    let (l₁, l₂) = bounds _ _ _ (not-false _ l) in
    let (m₁, m₂) = bounds _ _ _ (not-false _ m) in
    record {
      named = eqb-false _ _ n;
      attributes_high = ltb-false _ _ a;
      limit_low = l₁;
      limit_high = l₂;
      size_low = m₁;
      size_high = m₂;
      slot_below = leb-false _ _ f;
      room = ltb-false _ _ u;
    }

pub name-found : (s : State) (caller name share : ℕ) → None (Ident.refusals s caller name share) → Ident.named s caller name share < slot_count
unfolding Ident.refusals
name-found s caller name share (n, (p, (f, _))) = leb-false _ _ f

pub record OnQueue (s : State) (caller id : ℕ) (o : Operation) : Type 0 where
  pub is_usable : usable s caller id ≡ true
  pub operation : None (operation_refusals s caller (slot_of id) o)

pub on-queue : (s : State) (caller id : ℕ) (o : Operation) → None (directive_refusals s caller (on_queue id o)) → OnQueue s caller id o
unfolding directive_refusals
on-queue s caller id o (u, rest) = record { is_usable = not-false _ u; operation = rest }

pub broadcast-size : (s : State) (slot : ℕ) (message : List ℕ) → None (Broadcast.refusals s slot message) → size_allowed (queue_at s slot) (length message) ≡ true
unfolding Broadcast.refusals
broadcast-size s slot message (size, _) = not-false _ size
