-- Create and delete leave sound tables. Assumes nothing.
use Prim.Native.Nat.{ℕ, suc, ◌+◌, ◌≤◌, ◌<◌}
use native.Mathlib.Nat.{add-zero}
use native.Mathlib.Omega.{arith}
use mathlib.Core.Path.{◌≡◌, refl, sym, ap, ◌∙◌, subst}
use mathlib.Core.Bool.{Bool, true, false, ◌&&◌, false≢true}
use mathlib.Core.Logic.{inl, ⊎_elim}
use mathlib.Core.List.{[], ◌∷◌}
use lib.Dec.{eqb, ltb}
use lib.ListN.{length, get_or}
use borrow.Author.Tests.{eqb-true, eq-eqb, ne_eqb, ltb-true}
use Rattle.std.specs.Prelude.{if◌then◌else◌}
use Rattle.ranks.specs.Lists.{map_with_index, all_true, all_zero}
use Rattle.records.specs.Layout.{largest_limit, capacity, slot_count, task_count, last_generation}
use Rattle.records.specs.Split.{share_count, share_of_slot, share_limit}
use Rattle.records.specs.Records.{Queue, State, queue_at, task_at, free_queue, has_priority, is_live}
use Rattle.specification.specs.Sound.{limits, sound_queue, task_rules}
use Rattle.records.specs.Status.{OBJECT-WAS-DELETED}
use Rattle.records.specs.Changes.{at_index, freed, ready_with}
use Rattle.specification.specs.Lookup.{without_waiters, without_messages}
use Rattle.specification.specs.Create.{free_slot, new_queue, effect}
use Rattle.ranks.proofs.Lists.{at-mapped, length-mapped, sum-at, first-true, holds}
use Rattle.ranks.proofs.Tests.{same?}
use Rattle.specification.proofs.Rules.{Free, Ready, live-sound, free-sound, queue-rules, buffer-rules, unused-sound, used_sound, task-rules, ready-sound, waiting-sound}
use Rattle.specification.proofs.Accepted.{Creatable}
use Rattle.specification.proofs.SoundFacts.{Sized, SoundFacts}
use Rattle.theorems.proofs.KeptQueues.{Same, same, used-same, waiting-same}
use Rattle.theorems.proofs.SoundCleared.{cleared-waiters, cleared-order, cleared-task, emptied-messages, emptied-buffer}
use Rattle.theorems.proofs.SoundSubmit.{ready_with-ready}
use Rattle.specification.specs.Delete
use Rattle.theorems.proofs.CountChange
use Rattle.theorems.proofs.CountChange.{QueueChanged}

-- ---- The sum of a share's limits

-- what a queue adds to the sum of share p
abbrev pub adds : ℕ → ℕ → Queue → ℕ
adds p i q = if eqb (share_of_slot i) p && is_live q then q.limit else 0

-- one queue changed, and it adds n more
limits-at : (s s' : State) → Sized s → Sized s' → (slot p n : ℕ) → slot < slot_count → ((i : ℕ) → i < slot_count → (i ≡ slot → ⊥) → queue_at s i ≡ queue_at s' i)
    → adds p slot (queue_at s' slot) ≡ adds p slot (queue_at s slot) + n → limits s' p ≡ limits s p + n
unfolding limits
limits-at s s' z z' slot p n h other e =
    sum-at (map_with_index (adds p) s.queues) (map_with_index (adds p) s'.queues) slot n (len slot h)
    (length-mapped (adds p) s.queues ∙ z.queues ∙ sym z'.queues ∙ sym (length-mapped (adds p) s'.queues))
    (λ i lt ne. let lt' = below i lt in at-s i lt' ∙ ap (adds p i) (other i lt' ne) ∙ sym (at-s' i lt'))
    (at-s' slot h ∙ e ∙ ap (λ (k : ℕ). k + n) (sym (at-s slot h)))
  where
    len : (i : ℕ) → i < slot_count → i < length (map_with_index (adds p) s.queues)
    len i lt = let a = length-mapped (adds p) s.queues in let b = z.queues in omega arith

    below : (i : ℕ) → i < length (map_with_index (adds p) s.queues) → i < slot_count
    below i lt = let a = length-mapped (adds p) s.queues in let b = z.queues in omega arith

    at-s : (i : ℕ) → i < slot_count → get_or (map_with_index (adds p) s.queues) i 0 ≡ adds p i (queue_at s i)
    at-s i lt = at-mapped (adds p) s.queues i (free_queue 0) 0 (omega (arith, z.queues))

    at-s' : (i : ℕ) → i < slot_count → get_or (map_with_index (adds p) s'.queues) i 0 ≡ adds p i (queue_at s' i)
    at-s' i lt = at-mapped (adds p) s'.queues i (free_queue 0) 0 (omega (arith, z'.queues))

-- a free queue adds nothing, a live one of the share its limit
pub adds-free : (p i : ℕ) (q : Queue) → q.live ≡ 0 → adds p i q ≡ 0
adds-free p i q e = go (eqb (share_of_slot i) p) (eqb q.live 1) (ne_eqb _ _ (λ z. let a : 0 ≡ 1 = sym e ∙ z in omega arith))
  where
    go : (a b : Bool) → b ≡ false → (if a && b then q.limit else 0) ≡ 0
    go true true f = absurd (false≢true (sym f))
    go true false f = refl
    go false b f = refl

adds-live : (p i : ℕ) (q : Queue) → q.live ≡ 1 → (share_of_slot i ≡ p → adds p i q ≡ q.limit) × ((share_of_slot i ≡ p → ⊥) → adds p i q ≡ 0)
adds-live p i q e = ((λ o. rw (eq-eqb _ _ o, eq-eqb _ _ e)), (λ n. rw (ne_eqb _ _ n)))

-- ---- Delete

pub delete-sound : (s : State) → SoundFacts s → (slot : ℕ) → slot < slot_count → SoundFacts (Delete.effect s slot).after
unfolding Delete.effect without_waiters without_messages task_rules all_zero
delete-sound s g slot slot< =
    record {
      sized = sized';
      queue = CountChange.of-each change (λ i q. sound_queue q ≡ true) (free-sound _ is_free) g.queue;
      limit =
          λ p h.
          let e = limits-at s' s sized' g.sized slot p (adds p slot (queue_at s slot)) slot< (λ i lt ne. other i lt ne)
          (sym (ap (λ (k : ℕ). k + adds p slot (queue_at s slot)) (adds-free p slot (queue_at s' slot) (ap (λ (q : Queue). q.live) here)) ∙ omega arith)) in
          let l = g.limit p h in
          omega arith;
      buffer = emptied-buffer change refl;
      messages = emptied-messages change refl refl;
      waiters = cleared-waiters change (ready_with OBJECT-WAS-DELETED) (λ w. refl) rdy refl refl;
      order =
          λ i h p.
          ⊎_elim
          (λ z.
          let e : has_priority (queue_at s' i) ≡ false = ap (λ (k : ℕ). has_priority (queue_at s' k)) z ∙ ap has_priority here in
          absurd (false≢true (sym e ∙ p)))
          (λ ne.
          cleared-order change (ready_with OBJECT-WAS-DELETED) (λ w. refl) rdy refl i
          (g.order i h (sym (ap has_priority (other i h ne)) ∙ p)))
          (same? i slot);
      task = cleared-task change (ready_with OBJECT-WAS-DELETED) (λ w. refl) rdy refl;
    }
  where
    s' : State
    s' = record { queues = map_with_index (at_index slot freed) s.queues; pool = without_messages slot s.pool; tasks = without_waiters slot (ready_with OBJECT-WAS-DELETED) s.tasks }

    sized' : Sized s'
    sized' =
        record {
          queues = length-mapped _ s.queues ∙ g.sized.queues;
          pool = length-mapped _ s.pool ∙ g.sized.pool;
          tasks = length-mapped _ s.tasks ∙ g.sized.tasks;
        }

    change : QueueChanged s s' slot freed
    change = record { facts = g; sized = sized'; inside = slot<; queues = refl }

    other : (i : ℕ) → i < slot_count → (i ≡ slot → ⊥) → queue_at s' i ≡ queue_at s i
    other = CountChange.other change

    here : queue_at s' slot ≡ freed (queue_at s slot)
    here = CountChange.here change

    is_free : Free (freed (queue_at s slot))
    is_free =
        record { live = refl; attributes = refl; limit = refl; max_size = refl; pending = refl; waiters = refl; name = refl; reserved = refl }

    rdy : (t : ℕ) → t < task_count → (task_at s t).position.queue ≡ suc slot → Ready (ready_with OBJECT-WAS-DELETED (task_at s t))
    rdy t h q = ready_with-ready s g t h OBJECT-WAS-DELETED refl

-- ---- Create

-- the slot found is free and of the share
pub slot-found : (s : State) → Sized s → (p : ℕ) → free_slot s p < slot_count
    → ((queue_at s (free_slot s p)).live ≡ 0) × (share_of_slot (free_slot s p) ≡ p) × ((queue_at s (free_slot s p)).generation < last_generation)
unfolding free_slot
slot-found s z p h =
    let lt : free_slot s p < length s.queues = omega (arith, z.queues) in
    let e = first-true (map_with_index F s.queues) (subst (λ (n : ℕ). free_slot s p < n) (sym (length-mapped F s.queues)) lt) in
    let (a, (b, (c, _))) = holds _ (sym (at-mapped F s.queues _ (free_queue 0) false lt) ∙ e) in
    (eqb-true _ _ a, eqb-true _ _ b, ltb-true _ _ c)
  where
    F : ℕ → Queue → Bool
    F i q = all_true (eqb q.live 0 ∷ eqb (share_of_slot i) p ∷ ltb q.generation last_generation ∷ [])

module _ (s : State) (g : SoundFacts s) (slot name limit max_size attributes : ℕ) (slot< : slot < slot_count) (free : (queue_at s slot).live ≡ 0)
    (name≥ : 1 ≤ name) (attributes≤ : attributes ≤ 3) (limit≥ : 1 ≤ limit) (limit≤ : limit ≤ largest_limit) (size≥ : 1 ≤ max_size) (size≤ : max_size ≤ capacity)
    (arguments_in_range : limits s (share_of_slot slot) + limit ≤ share_limit (share_of_slot slot)) where
  abbrev new : Queue → Queue
  new = new_queue name limit max_size attributes

  abbrev s' : State
  s' = record { queues = map_with_index (at_index slot new) s.queues; pool = s.pool; tasks = s.tasks }

  sized' : Sized s'
  sized' = record { queues = length-mapped _ s.queues ∙ g.sized.queues; pool = g.sized.pool; tasks = g.sized.tasks }

  change : QueueChanged s s' slot new
  change = record { facts = g; sized = sized'; inside = slot<; queues = refl }

  other : (i : ℕ) → i < slot_count → (i ≡ slot → ⊥) → queue_at s' i ≡ queue_at s i
  other = CountChange.other change

  here : queue_at s' slot ≡ new (queue_at s slot)
  here = CountChange.here change

  was_free : Free (queue_at s slot)
  was_free = ⊎_elim (λ l. absurd (let e = l.live in omega arith)) (λ f. f) (queue-rules _ (g.queue slot slot<))

  limit' : (p : ℕ) → p < share_count → limits s' p ≤ share_limit p
  limit' p h = ⊎_elim mine not-mine (same? (share_of_slot slot) p)
    where
      old : adds p slot (queue_at s slot) ≡ 0
      old = adds-free p slot (queue_at s slot) free

      mine : share_of_slot slot ≡ p → limits s' p ≤ share_limit p
      mine o =
          let e =
          limits-at s s' g.sized sized' slot p limit slot< (λ i lt ne. sym (other i lt ne))
          (ap (adds p slot) here ∙ (adds-live p slot (new (queue_at s slot)) refl).0 o ∙ sym (ap (λ (k : ℕ). k + limit) old ∙ omega arith)) in
          let f : limits s p + limit ≤ share_limit p = subst (λ (k : ℕ). limits s k + limit ≤ share_limit k) o arguments_in_range in
          omega arith

      not-mine : (share_of_slot slot ≡ p → ⊥) → limits s' p ≤ share_limit p
      not-mine n =
          let e =
          limits-at s s' g.sized sized' slot p 0 slot< (λ i lt ne. sym (other i lt ne))
          (ap (adds p slot) here ∙ (adds-live p slot (new (queue_at s slot)) refl).1 n ∙ sym (add-zero _ ∙ old)) in
          let l = g.limit p h in
          omega arith

  -- a live queue is another one
  same_live : (i : ℕ) → i < slot_count → (queue_at s i).live ≡ 1 → Same (queue_at s i) (queue_at s' i)
  same_live i h l =
      subst (λ (q : Queue). Same (queue_at s i) q)
      (sym (other i h (λ z. let e : (queue_at s slot).live ≡ 1 = subst (λ (k : ℕ). (queue_at s k).live ≡ 1) z l in omega arith))) (same _)

  pub created-sound : SoundFacts s'
  unfolding all_zero
  created-sound =
      record {
        sized = sized';
        queue =
            CountChange.of-each change (λ i q. sound_queue q ≡ true)
            (live-sound _
            (record {
              live = refl;
              attributes = attributes≤;
              limit-low = limit≥;
              limit-high = limit≤;
              size_low = size≥;
              size-high = size≤;
              generation = omega arith;
              name = name≥;
              reserved = refl;
              pending = omega arith;
              either = inl refl;
            }))
            g.queue;
        limit = limit';
        buffer =
            λ b h.
            ⊎_elim (λ u. unused-sound s' b _ u) (λ u. used_sound s' b _ (used-same s s' b _ u (same_live u.slot u.slot_below u.live)))
            (buffer-rules s b _ (g.buffer b h));
        messages = CountChange.messages-stay change (sym was_free.pending);
        waiters = CountChange.waiters-stay change (sym was_free.waiters);
        order =
            λ i h p.
            ⊎_elim
            (λ z a b ha hb qa qb lt.
            absurd
            (let r = (g.waiters slot slot<).below a ha (qa ∙ ap suc z) in
            let e = was_free.waiters in
            omega arith))
            (λ ne. g.order i h (sym (ap has_priority (other i h ne)) ∙ p)) (same? i slot);
        task =
            λ t h.
            ⊎_elim (λ r. ready-sound s' t _ r) (λ w. waiting-sound s' t _ (waiting-same s s' t _ w (same_live w.slot w.slot_below w.live)))
            (task-rules s t _ (g.task t h));
      }

pub create-sound : (s : State) → SoundFacts s → (share name limit max_size attributes : ℕ) → Creatable s share name limit max_size attributes
    → SoundFacts (effect s (free_slot s share) name limit max_size attributes).after
unfolding effect
create-sound s g share name limit max_size attributes c =
    let (live, own, gen) = slot-found s g.sized share c.slot_below in
    created-sound s g (free_slot s share) name limit max_size attributes c.slot_below live (let n = c.named in omega arith) c.attributes_high c.limit_low c.limit_high
    c.size_low c.size_high (subst (λ (p : ℕ). limits s p + limit ≤ share_limit p) (sym own) c.room)
