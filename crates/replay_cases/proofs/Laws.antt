-- Byte strings compared, changes written one by one, and the answers of a log in a lent buffer. Assumes nothing.
use Rattle.std.proofs.Common.{◌≡◌, ℕ, suc, ◌+◌, ◌-◌, ◌*◌, ◌<◌, ◌≤◌, ◌&&◌, Bool, true, false, List, [], ◌∷◌, length, take, drop, set, get_or, take_all, refl, sym, ap, ◌∙◌, arith, length-drop, length-take-le}
use Rattle.std.specs.Cmp.Lexicographic.{pointwise}
use lib.Dec.{eqb, eqb-zero-suc, eqb-suc-suc}
use lib.Seq.{set_out}
use Rattle.std.specs.Prelude.{if◌then◌else◌}
use Rattle.records.specs.Bytes.{Tables}
use Rattle.calllog.specs.CallLog.{answer_width, record_count}
use Rattle.runs.specs.Replay.{Replayed, replayed}
use Rattle.logio.specs.Agreeing.{agreement}
use Rattle.logio.proofs.Room.{records-room}
use Rattle.replay_cases.specs.StoredCase.{changed, same, tables_in, same_tables, replays_to, rest_records, rest_room, answers_room}

-- byte for byte, as `==` compares
pub same_bytes : (a b : List ℕ) → pointwise eqb a b ≡ same a b
unfolding same agreement
same_bytes [] [] = refl
same_bytes [] (y ∷ ys) = sym (eqb-zero-suc (length ys))
same_bytes (x ∷ xs) [] = rw (eqb-zero-suc (length xs)) refl
same_bytes (x ∷ xs) (y ∷ ys) = cases (eqb x y) (same_bytes xs ys)
  where
    cases : (b : Bool) → pointwise eqb xs ys ≡ same xs ys
        → (b && pointwise eqb xs ys) ≡ (eqb (if b then suc (agreement xs ys) else 0) (suc (length xs)) && eqb (if b then suc (agreement xs ys) else 0) (suc (length ys)))
    cases true e = rw (eqb-suc-suc (agreement xs ys) (length xs), eqb-suc-suc (agreement xs ys) (length ys)) e
    cases false e = rw (eqb-zero-suc (length xs)) refl

pub same_in_tables : (t u : Tables) (queues pool tasks : Bool) → queues ≡ pointwise eqb t.queues u.queues → pool ≡ pointwise eqb t.pool u.pool → tasks ≡ pointwise eqb t.tasks u.tasks
    → (queues && pool && tasks) ≡ same_tables t u
unfolding same_tables
same_in_tables t u queues pool tasks q p k =
    rw (q, p, k, same_bytes t.queues u.queues, same_bytes t.pool u.pool, same_bytes t.tasks u.tasks) refl

-- one change is written, and the others are left
pub one_more : (image l : List ℕ) (place k : ℕ) → place ≡ get_or l 0 0 + 256 * get_or l 1 0 → 3 ≤ length l → length l ≤ k
    → changed (set image place (get_or l 2 0)) (take (k - 3) (drop 3 l)) ≡ changed image l
unfolding changed
one_more image [] place k e h m = absurd (omega arith)
one_more image (a ∷ []) place k e h m = absurd (omega arith)
one_more image (a ∷ b ∷ []) place k e h m = absurd (omega arith)
one_more image (a ∷ b ∷ c ∷ l) place k e h m = rw (take_all (k - 3) l (omega arith), e) refl

-- one at a place that the image does not have
pub one_out : (image l : List ℕ) (place k : ℕ) → place ≡ get_or l 0 0 + 256 * get_or l 1 0 → 3 ≤ length l → length l ≤ k → length image ≤ place
    → changed image (take (k - 3) (drop 3 l)) ≡ changed image l
one_out image l place k e h m out = ap (λ (i : List ℕ). changed i (take (k - 3) (drop 3 l))) (sym (set_out image place (get_or l 2 0) out)) ∙ one_more image l place k e h m

-- less than a change is left
pub none_left : (image l : List ℕ) → length l < 3 → changed image l ≡ image
unfolding changed
none_left image [] h = refl
none_left image (a ∷ []) h = refl
none_left image (a ∷ b ∷ []) h = refl
none_left image (a ∷ b ∷ c ∷ l) h = absurd (omega arith)

-- a part of an image
pub part_length : (i n : ℕ) (l : List ℕ) → i + n ≤ length l → length (take n (drop i l)) ≡ n
part_length i n l h = length-take-le n (drop i l) (omega (arith, length-drop i l))

-- the answers to a part of what follows a case's head have room
pub few-records : (i j : ℕ) (l : List ℕ) → i ≤ j → j ≤ length l → length l ≤ rest_room
    → record_count (length (take (j - i) (drop i l))) * answer_width ≤ answers_room
few-records i j l h k m = records-room rest_records (omega (arith, part_length i (j - i) l (omega arith))) (omega arith)

-- a log replayed into a buffer, of which the front has its answers
pub replays-so : (t : Tables) (log stored image : List ℕ) {answers : List ℕ} {after : Tables} → (record { answers = answers; after = after }) ≡ replayed t log
    → (same answers stored && same_tables after (tables_in image)) ≡ replays_to t log stored image
unfolding replays_to
replays-so t log stored image e = ap (λ (x : Replayed). same x.answers stored && same_tables x.after (tables_in image)) e
