-- A log replayed block by block is the whole log replayed, where each block but the last has whole records. Assumes nothing.
use native.Mathlib.Omega.{arith}
use native.Mathlib.Nat.{zero-add, suc-add, zero-mul, suc-mul, not-suc-le-zero}
use borrow.Author.Tests.{ltb-false}
use Prim.Native.Nat.{ℕ, zero, suc, ◌+◌, ◌*◌, ◌≤◌, zero-le}
use mathlib.Core.Bool.{Bool, true, false, not}
use mathlib.Core.Path.{◌≡◌, refl, sym, ap, ap₂, subst, ◌∙◌}
use mathlib.Core.List.{List, [], ◌∷◌, ◌++◌, append_assoc}
use lib.Dec.{T, ltb}
use lib.ListN.{length, take, drop, replicate, length-append, length-drop, length-replicate}
use lib.Seq.{length-take-le, take-append-le, drop-append-le}
use Rattle.ranks.specs.Table.{records}
use Rattle.records.specs.Bytes.{Tables}
use Rattle.calllog.specs.CallLog.{record_width, answer_width, record_count}
use Rattle.runs.specs.Replay.{Replayed, replay_record, replay_records, records_of, replayed}
use Rattle.runs.proofs.Replays.{answers-size}
use Rattle.std.specs.Prelude.{Result, Ok, Err}
use Rattle.std.specs.declared.io.Error.{Error}
use Rattle.streams.specs.declared.reading.Input.{Input}
use Rattle.logio.specs.declared.block.BlockReplayed.{BlockReplayed}
use Rattle.logio.specs.declared.input.ReplayError.{ReplayError}
use Rattle.logio.specs.declared.input.ReplayError.TheVariants.{NotRead}
use Rattle.streams.specs.Filling.{standard_input, Fills, bytes_read, full, ended, failed, more}
use Rattle.streams.specs.Writing.{standard_output, WritesAnswers, asked, wanted, unwanted}
use Rattle.logio.specs.Turns.{block_records, block_bytes, filled_of, answered_of, ReplaysBlock, after_block, goes_on, Finished, Turn, Turns, last, spent, log_of, answers_of, ReplayedInTurns}
use Rattle.logio.proofs.Room.{front-answers}

-- a log's second part replayed on the tables that its first part leaves
abbrev joined : Replayed → (Tables → Replayed) → Replayed
joined first second = let rest = second first.after in record { answers = first.answers ++ rest.answers; after = rest.after }

-- one list of records after another
then-records : (t : Tables) (rs ss : List (List ℕ)) → replay_records t (rs ++ ss) ≡ joined (replay_records t rs) (λ u. replay_records u ss)
unfolding replay_records
then-records t [] ss = refl
then-records t (r ∷ rs) ss =
    let one = replay_record t r in
    let front = replay_records one.after rs in
    let rest = replay_records front.after ss in
    ap (λ (x : Replayed). joined one (λ u. x)) (then-records one.after rs ss)
    ∙ ap (λ (l : List ℕ). record { answers = l; after = rest.after }) (sym (append_assoc one.answers front.answers rest.answers))

-- bytes cut into records where the front has whole ones
cut : (j k n : ℕ) (a b : List ℕ) → length a ≡ j * n → records (j + k) n (a ++ b) ≡ records j n a ++ records k n b
unfolding records
cut zero k n [] b e = ap (λ (m : ℕ). records m n b) (zero-add k)
cut zero k n (x ∷ a) b e = absurd (let z : 1 ≤ 0 = omega (arith, zero-mul n) in not-suc-le-zero z)
cut (suc j) k n a b e =
    let h : n ≤ length a = omega (arith, suc-mul j n) in
    let rest : length (drop n a) ≡ j * n = length-drop n a ∙ omega (arith, suc-mul j n) in
    ap (λ (m : ℕ). records m n (a ++ b)) (suc-add j k)
    ∙ ap₂ (λ (r : List ℕ) (l : List ℕ). r ∷ records (j + k) n l) (take-append-le n a b h) (drop-append-le n a b h)
    ∙ ap (λ (rs : List (List ℕ)). take n a ∷ rs) (cut j k n (drop n a) b rest)

-- the records of a log whose front has whole ones
records-then : (j : ℕ) (a b : List ℕ) → length a ≡ j * record_width → records_of (a ++ b) ≡ records_of a ++ records_of b
unfolding records_of record_count
records-then j a b e =
    let whole : record_count (length a) ≡ j = omega arith in
    let both : record_count (length (a ++ b)) ≡ j + record_count (length b) = omega (arith, length-append a b) in
    ap (λ (m : ℕ). records m record_width (a ++ b)) both ∙ cut j _ record_width a b e ∙ ap (λ (m : ℕ). records m record_width a ++ records_of b) (sym whole)

-- a log whose front is a whole block
block-then : (t : Tables) (a b : List ℕ) → length a ≡ block_bytes → joined (replayed t a) (λ u. replayed u b) ≡ replayed t (a ++ b)
unfolding replayed
block-then t a b e = sym (ap (replay_records t) (records-then block_records a b e) ∙ then-records t (records_of a) (records_of b))

-- what the reads put into a buffer has room there
filled_within : {from : Input} {f : Result ℕ Error} {new old : List ℕ} {n : ℕ} → n ≤ length old → Fills from f new n old → (bytes_read f ≤ length new) × (length new ≡ length old)
filled_within h (full e is) = (omega (arith, h, ap bytes_read is), refl)
filled_within h (ended r is) = (omega (arith, h, r.size, ap bytes_read is), r.size)
filled_within h (failed r is) = (omega (arith, ap bytes_read is), r.size)
filled_within h (more r k rest) = let both = filled_within (omega (arith, h, r.moved, r.size)) rest in (both.0, both.1 ∙ r.size)

-- the answers to a block, from the room for them
pub block-answers : {from : Input} {start left : Tables} {lent room log answers : List ℕ} {b : Result BlockReplayed Error} → ReplaysBlock from start lent room b log answers left
    → (record { answers = take (answered_of b) answers; after = left }) ≡ replayed start (take (bytes_read (filled_of b)) log)
block-answers {start = start} {room = room} {log = log} {b = b} h =
    let size = length-take-le (bytes_read (filled_of b)) log (filled_within zero-le h.fills).0 in
    let all = answers-size start (take (bytes_read (filled_of b)) log) ∙ ap (λ (n : ℕ). record_count n * answer_width) size in
    (front-answers start (take (bytes_read (filled_of b)) log) room (answered_of b) (h.ends ∙ sym all) h.replays).1

-- where the log goes on, the block is full
went_on : (f : Result ℕ Error) (done : Result (Unit {0}) Error) → goes_on (after_block f done) ≡ true → block_bytes ≤ bytes_read f
went_on (Err e) done g = absurd (subst T (sym g) tt)
went_on (Ok n) (Err e) g = absurd (subst T (sym g) tt)
went_on (Ok n) (Ok u) g = ltb-false n block_bytes (cases (ltb n block_bytes) g)
  where
    cases : (short : Bool) → not short ≡ true → short ≡ false
    cases true e = absurd (subst T (sym e) tt)
    cases false e = refl

full_block : {answering : Bool} {start left : Tables} {r : Result ℕ ReplayError} (t : Turn answering start r left) → goes_on r ≡ true → length (take (bytes_read t.filled) t.block) ≡ block_bytes
full_block t e =
    let within = filled_within zero-le t.fills in
    let all = went_on t.filled t.finished.done (ap goes_on (sym t.finished.comes) ∙ e) in
    length-take-le (bytes_read t.filled) t.block within.0 ∙ omega (arith, within.0, within.1, all, t.size)

-- before the first block
none_yet : (t : Tables) → (record { answers = []; after = t }) ≡ replayed t []
unfolding replayed records_of record_count records replay_records
none_yet t = refl

-- the answers of the turns, and the tables after them, are those of the whole log
pub whole-log : {answering : Bool} {ending : Result (Unit {0}) ReplayError} {left : Tables} {count : ℕ} {start : Tables} (ts : Turns answering ending left count start)
    → (record { answers = answers_of ts; after = left }) ≡ replayed start (log_of ts)
unfolding log_of answers_of
whole-log {start = start} (last c t g e) = ap (λ (u : Tables). record { answers = (replayed start (take (bytes_read t.filled) t.block)).answers; after = u }) t.after
whole-log {start = start} (Turns.more c t g rest) =
    let read = take (bytes_read t.filled) t.block in
    let first = replayed start read in
    ap (λ (x : Replayed). joined first (λ u. x)) (whole-log rest ∙ ap (λ (u : Tables). replayed u (log_of rest)) t.after)
    ∙ block-then start read (log_of rest) (full_block t g)
whole-log {left = left} (spent c e) = none_yet left

-- so a log is replayed in turns
pub in_turns : {answering : Bool} {ending : Result (Unit {0}) ReplayError} {left start : Tables} → Turns answering ending left 18446744073709551615 start → ReplayedInTurns answering start ending left
in_turns ts =
    record {
      turns = ts;
      answers = ap (λ (r : Replayed). r.answers) (whole-log ts);
      after = ap (λ (r : Replayed). r.after) (whole-log ts);
    }

-- a turn whose block could not be read: nothing is written
pub unread : {answering : Bool} {b : Result BlockReplayed Error} {e : Error} {bytes : List ℕ} {r : Result ℕ ReplayError} → b ≡ Err e → r ≡ Err (NotRead e) → Finished answering (filled_of b) bytes r
unread {answering = answering} {bytes = bytes} h is = record { done = Ok tt; writes = nothing answering; comes = is ∙ ap (λ b. after_block (filled_of b) (Ok tt)) (sym h) }
  where
    nothing : (answering : Bool) → WritesAnswers standard_output answering bytes (Ok tt)
    nothing true = wanted refl asked
    nothing false = unwanted refl refl

-- a turn whose block was read, by what the write of its answers came to
pub finished : {answering : Bool} {b : Result BlockReplayed Error} {block : BlockReplayed} (answers : List ℕ) {done : Result (Unit {0}) Error} {r : Result ℕ ReplayError} → b ≡ Ok block
    → WritesAnswers standard_output answering (take block.end answers) done → r ≡ after_block (Ok block.n) done → Finished answering (filled_of b) (take (answered_of b) answers) r
finished {answering = answering} answers {done = done} h writes is =
    record {
      done = done;
      writes = subst (λ b. WritesAnswers standard_output answering (take (answered_of b) answers) done) (sym h) writes;
      comes = is ∙ ap (λ b. after_block (filled_of b) done) (sym h);
    }

-- a turn, by what became of its block and what was written
pub one-turn : {answering : Bool} {start left : Tables} {from : Input} {room log answers : List ℕ} {b : Result BlockReplayed Error} {r : Result ℕ ReplayError} → from ≡ standard_input
    → ReplaysBlock from start (replicate block_bytes 0) room b log answers left → Finished answering (filled_of b) (take (answered_of b) answers) r → Turn answering start r left
one-turn {answering = answering} {log = log} {b = b} {r = r} e block finished =
    let is = block-answers block in
    record {
      lent = replicate block_bytes 0;
      block = log;
      filled = filled_of b;
      size = length-replicate {A = ℕ} block_bytes 0;
      fills = subst (λ (i : Input). Fills i (filled_of b) log 0 (replicate block_bytes 0)) e block.fills;
      finished = subst (λ (l : List ℕ). Finished answering (filled_of b) l r) (ap (λ (x : Replayed). x.answers) is) finished;
      after = ap (λ (x : Replayed). x.after) is;
    }
