-- The rules of one record, as the code tests them. Assumes nothing.
use Rattle.std.specs.Prelude.{if◌then◌else◌}
use Prim.Native.Nat.{ℕ, suc, pred, ◌+◌, ◌-◌, ◌≤◌, ◌<◌}
use native.Mathlib.Omega.{arith}
use mathlib.Core.Path.{◌≡◌, refl, sym, ap, ◌∙◌}
use mathlib.Core.Bool.{Bool, true, false, ◌&&◌, ◌||◌, and-true, and-false, and_assoc}
use mathlib.Core.Logic.{⊎_elim}
use mathlib.Core.List.{List, [], ◌∷◌}
use lib.Dec.{eqb, leb, ltb}
use lib.ListN.{drop}
use borrow.Author.Tests.{eqb-true, eq-eqb, ne_eqb, lt-ltb, le-ltb, le-leb, lt-leb}
use Rattle.ranks.specs.Lists.{all_true, all_zero}
use Rattle.ranks.specs.Table.{slice}
use Rattle.ranks.proofs.Tests.{both, and, or_left, same?, lt-or-ge}
use Rattle.ranks.proofs.Lists.{all_cons, all_nil, holds, held}
use Rattle.records.specs.Layout.{slot_count}
use Rattle.records.specs.Split.{share_of_slot, share_of_buffer, share_of_task}
use Rattle.records.specs.Records.{Queue, Buffer, Task, State, queue_at, is_live, is_open, size_allowed, ready_state, waiting_state}
use Rattle.octets.specs.LittleEndian.{from_little_endian}
use Rattle.records.specs.Status.{WAITING}
use Rattle.octets.proofs.ZeroBytes.{zero_number, zeros-add}
use Rattle.specification.proofs.Rules.{Live, Free, queue-rules}
use Rattle.soundness.specs.declared.ranked.Members.TheVariants.{Waiters}
use Rattle.soundness.specs.Parts.{below_count, buffer_tests, task_tests, used_buffer_tests, waiting_task_tests}
use Rattle.specification.specs.Sound.{slot_in, sound_queue, live_queue_rules, free_queue_rules, limit_in, sound_buffer, free_buffer_rules, used_buffer_rules, sound_task, task_rules, ready_task_rules, waiting_task_rules}

pub same_truth : (a b : Bool) → (a ≡ true → b ≡ true) → (b ≡ true → a ≡ true) → a ≡ b
same_truth true b h k = sym (h refl)
same_truth false true h k = k refl
same_truth false false h k = refl

-- ---- Queues

pub eight : (a b c d e f g h : Bool) → (a && b && c && d && e && f && g && h) ≡ all_true (a ∷ b ∷ c ∷ d ∷ e ∷ f ∷ g ∷ h ∷ [])
eight a b c d e f g h = simp (all_cons, all_nil, and-true, and_assoc)

module _ (q : Queue) where
  pub sound-live : is_live q ≡ true → all_true (live_queue_rules q) ≡ sound_queue q
  unfolding sound_queue
  sound-live e = rw e

  pub sound-free : is_live q ≡ false → all_true (free_queue_rules q) ≡ sound_queue q
  unfolding sound_queue
  sound-free e = rw e

  module _ (share slot : ℕ) where
    pub limit-foreign : (share_of_slot slot ≡ share → ⊥) → 0 ≡ limit_in share slot q
    limit-foreign ne = rw (ne_eqb (share_of_slot slot) share ne)

    limit-free : (q.live ≡ 1 → ⊥) → 0 ≡ limit_in share slot q
    limit-free ne = rw (ne_eqb q.live 1 ne) (go (eqb (share_of_slot slot) share))
      where
        go : (b : Bool) → ◌≡◌ {A = ℕ} 0 (if b && false then q.limit else 0)
        go true = refl
        go false = refl

    limit-live : share_of_slot slot ≡ share → q.live ≡ 1 → q.limit ≡ limit_in share slot q
    limit-live e l = rw (eq-eqb (share_of_slot slot) share e, eq-eqb q.live 1 l)

    pub limit-own : share_of_slot slot ≡ share → sound_queue q ≡ true → q.limit ≡ limit_in share slot q
    limit-own e is =
        ⊎_elim (λ (l : Live q). limit-live e l.live) (λ (f : Free q). f.limit ∙ limit-free (λ l. let z : q.live ≡ 0 = f.live in omega arith)) (queue-rules q is)

-- ---- Positions

not_none : (n slot : ℕ) → n ≡ suc slot → eqb n 0 ≡ false
not_none n slot e = ne_eqb n 0 (λ z. omega arith)

-- ---- Buffers

module _ (s : State) (b : ℕ) (m : Buffer) where
  pub buffer-free : m.position.queue ≡ 0 → all_true (free_buffer_rules m) ≡ buffer_tests s b m
  unfolding sound_buffer
  buffer-free e = rw (eq-eqb _ _ e) (sym (and-true _))

  module _ (slot : ℕ) (e : m.position.queue ≡ suc slot) where
    at_slot : slot_in m.position ≡ slot
    at_slot = ap pred e

    pub buffer-beyond : slot_count ≤ slot → false ≡ buffer_tests s b m
    unfolding sound_buffer used_buffer_rules
    buffer-beyond h = rw (not_none _ _ e, at_slot, all_cons, le-ltb slot slot_count h)

    pub buffer-used : used_buffer_tests (queue_at s slot) slot b m ≡ buffer_tests s b m
    unfolding sound_buffer
    buffer-used = rw (not_none _ _ e, at_slot)

module _ (q : Queue) (slot b : ℕ) (m : Buffer) {live own size zeros rest : Bool} where
  pub used-tests : slot < slot_count → live ≡ is_live q → own ≡ eqb (share_of_slot slot) (share_of_buffer b) → size ≡ size_allowed q m.message_length
      → zeros ≡ all_zero m.reserved → rest ≡ all_zero (drop m.message_length m.bytes)
      → (live && own && size && zeros && rest && ltb m.position.rank q.pending) ≡ used_buffer_tests q slot b m
  unfolding used_buffer_rules
  used-tests lt l o s z r = rw (l, o, s, z, r, lt-ltb slot slot_count lt) (simp (all_cons, all_nil, and-true, and_assoc))

-- ---- Tasks

-- the tests of a ready task in the order of the code, and in that of the rules
same_tests : (a b c d t u p s l : Bool) → all_true (a ∷ b ∷ c ∷ d ∷ t ∷ u ∷ p ∷ s ∷ l ∷ []) ≡ all_true (p ∷ d ∷ u ∷ a ∷ b ∷ c ∷ t ∷ s ∷ l ∷ [])
same_tests a b c d t u p s l =
    same_truth _ _
    (λ x.
    let (a, (b, (c, (d, (t, (u, (p, (s, (l, _))))))))) = holds (a ∷ b ∷ c ∷ d ∷ t ∷ u ∷ p ∷ s ∷ l ∷ []) x in
    held (_ ∷ _ ∷ _ ∷ _ ∷ _ ∷ _ ∷ _ ∷ _ ∷ _ ∷ []) (p, (d, (u, (a, (b, (c, (t, (s, (l, tt))))))))))
    (λ x.
    let (p, (d, (u, (a, (b, (c, (t, (s, (l, _))))))))) = holds (p ∷ d ∷ u ∷ a ∷ b ∷ c ∷ t ∷ s ∷ l ∷ []) x in
    held (_ ∷ _ ∷ _ ∷ _ ∷ _ ∷ _ ∷ _ ∷ _ ∷ _ ∷ []) (a, (b, (c, (d, (t, (u, (p, (s, (l, tt))))))))))

pub ready-tests : (r : List ℕ) (a b c p s l : Bool)
    → (a && b && c && all_zero (slice 6 2 r) && all_zero (slice 8 8 r) && p && s && l)
    ≡ (all_true (p ∷ all_zero (slice 6 2 r) ∷ all_zero (slice 12 4 r) ∷ []) && all_true (a ∷ b ∷ c ∷ eqb (from_little_endian (slice 8 4 r)) 0 ∷ s ∷ l ∷ []))
ready-tests r a b c p s l =
    let d = all_zero (slice 6 2 r) in
    let t = all_zero (slice 8 4 r) in
    let u = all_zero (slice 12 4 r) in
    ap (λ (z : Bool). a && b && c && d && z && p && s && l) (sym (zeros-add 8 4 4 r))
    ∙ spell a b c d t u p s l ∙ same_tests a b c d t u p s l
    ∙ sym (rw (zero_number (slice 8 4 r)) (simp (all_cons, all_nil, and-true, and_assoc)))
  where
    spell : (a b c d t u p s l : Bool) → (a && b && c && d && (t && u) && p && s && l) ≡ all_true (a ∷ b ∷ c ∷ d ∷ t ∷ u ∷ p ∷ s ∷ l ∷ [])
    spell a b c d t u p s l = simp (all_cons, all_nil, and-true, and_assoc)

module _ (s : State) (t : ℕ) (w : Task) where
  task-ready : (w.state ≡ waiting_state → ⊥) → (all_true (task_rules w) && all_true (ready_task_rules w)) ≡ sound_task s t w
  unfolding sound_task
  task-ready ne = rw (ne_eqb w.state waiting_state ne)

  -- all that a ready task has to be
  pub task-is-ready : (all_true (task_rules w) && all_true (ready_task_rules w)) ≡ true → true ≡ task_tests s t w
  unfolding ready_task_rules
  task-is-ready e =
      let rules = holds _ (both (all_true (task_rules w)) (all_true (ready_task_rules w)) e).1 in
      let zero : w.state ≡ ready_state = eqb-true _ _ rules.0 in
      sym (and (sym (task-ready (λ one. omega arith)) ∙ e) (or_left _ rules.1.0))

  pub task-not-ready : (w.state ≡ waiting_state → ⊥) → false ≡ (all_true (task_rules w) && all_true (ready_task_rules w)) → false ≡ task_tests s t w
  task-not-ready ne e = ap (λ (x : Bool). x && below_count Waiters s.queues w.position) (e ∙ task-ready ne)

  module _ (waits : w.state ≡ waiting_state) where
    task-nowhere : w.position.queue ≡ 0 → false ≡ task_tests s t w
    unfolding sound_task waiting_task_rules
    task-nowhere e = rw (eq-eqb w.state waiting_state waits, all_cons, lt-leb 1 w.position.queue (omega arith), and-false)

    module _ (slot : ℕ) (e : w.position.queue ≡ suc slot) where
      named-slot : slot_in w.position ≡ slot
      named-slot = ap pred e

      task-beyond : slot_count ≤ slot → false ≡ task_tests s t w
      unfolding sound_task waiting_task_rules
      task-beyond h = rw (eq-eqb w.state waiting_state waits, named-slot, le-leb 1 w.position.queue (omega arith), le-ltb slot slot_count h) (simp (all_cons, and-false))

      pub task-waiting : waiting_task_tests (queue_at s slot) slot t w ≡ task_tests s t w
      unfolding sound_task
      task-waiting = rw (eq-eqb w.state waiting_state waits, named-slot, not_none _ _ e)

    -- a task that names no queue
    pub task-elsewhere : (1 ≤ w.position.queue → w.position.queue ≤ slot_count → ⊥) → false ≡ task_tests s t w
    task-elsewhere out =
        ⊎_elim task-nowhere
        (λ (some : w.position.queue ≡ 0 → ⊥). task-beyond (w.position.queue - 1) (omega arith) (⊎_elim (λ (lt : w.position.queue - 1 < slot_count). absurd (out (omega arith) (omega arith))) (λ ge. ge) (lt-or-ge (w.position.queue - 1) slot_count)))
        (same? w.position.queue 0)

module _ (q : Queue) (slot t : ℕ) (w : Task) {zeros zeros-after own live free : Bool} where
  pub waiting-tests : slot < slot_count → w.position.queue ≡ slot + 1 → zeros ≡ all_zero w.reserved → zeros-after ≡ all_zero w.reserved_after
      → own ≡ eqb (share_of_slot slot) (share_of_task t) → live ≡ is_live q → free ≡ is_open q
      → ((leb 1 w.priority && zeros && zeros-after) && (live && (own || free) && eqb w.status WAITING && eqb w.message_length 0) && ltb w.position.rank q.waiters)
      ≡ waiting_task_tests q slot t w
  unfolding task_rules waiting_task_rules
  waiting-tests lt named z a o l f =
      rw (z, a, o, l, f, lt-ltb slot slot_count lt, le-leb 1 w.position.queue (omega arith)) (simp (all_cons, all_nil, and-true, and_assoc))
