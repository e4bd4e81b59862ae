-- The cases hold on bytes: what was computed on records is what a run on the byte tables comes to. Assumes nothing.
use Prim.Native.Nat.{ℕ, ◌+◌, ◌-◌, ◌*◌, ◌≤◌}
use native.Mathlib.Omega.{arith}
use mathlib.Core.Path.{◌≡◌, refl, sym, ap, ap₂, ◌∙◌}
use mathlib.Core.Bool.{Bool, true, false, false≢true}
use mathlib.Core.List.{List, [], ◌∷◌, map}
use lib.Dec.{ltb, leb}
use lib.ListN.{length, take, drop}
use lib.Seq.{take-take, drop-drop}
use borrow.Author.Tests.{ltb-true, leb-true}
use Rattle.ranks.specs.Lists.{all_true}
use Rattle.ranks.specs.Table.{slice}
use Rattle.records.specs.Layout.{queue_width, buffer_width, task_width}
use Rattle.records.specs.Records.{State, fresh}
use Rattle.records.specs.Bytes.{Tables, encode}
use Rattle.specification.specs.Run.{fresh_tables}
use Rattle.specification.specs.Cases.{TableName, queue_table, pool_table, task_table, Excerpt, Case, calls_of, width_of, rising, excerpt_bytes, observed, cases}
use Rattle.theorems.specs.CasesHold.{CasesHold}
use Rattle.ranks.proofs.Lists.{holds}
use Rattle.ranks.proofs.Table.{drop-take}
use Rattle.ranks.proofs.Tests.{both}
use Rattle.specification.proofs.CasesOnRecords.{record_bytes, excerpt_on_records, observed_on_records, count_of, excerpt_in_range, case_in_range, cases-on-records, cases-in-range, rising-good}
use Rattle.specification.proofs.SoundFacts.{Sized}
use Rattle.theorems.proofs.Encodable.{Encodable}
use Rattle.theorems.proofs.Fresh.{priorities, fresh-sound}
use Rattle.theorems.proofs.Noninterference.{fresh-fits}
use Rattle.theorems.proofs.OnBytes.{queue-bytes, buffer-bytes, task-bytes, run-on-records}

-- two functions that agree where a test is passed agree on a list of which all pass
map-where : {A B : Type 0} (test : A → Bool) (f g : A → B) → ((a : A) → test a ≡ true → f a ≡ g a)
    → (l : List A) → all_true (map test l) ≡ true → map f l ≡ map g l
unfolding all_true
map-where test f g h [] e = refl
map-where {B = B} test f g h (a ∷ l) e = go (test a) refl e (map-where test f g h l)
  where
    go : (b : Bool) → test a ≡ b → (elim b [ true ↦ all_true (map test l) | false ↦ false ]) ≡ true
        → (all_true (map test l) ≡ true → map f l ≡ map g l) → map f (a ∷ l) ≡ map g (a ∷ l)
    go true p e ih = ap₂ {C = List B} (λ x xs. x ∷ xs) (h a p) (ih e)
    go false p e ih = absurd (false≢true e)

-- ---- Bytes of one record

-- a part of a part
slice-within : (i w place n : ℕ) (l : List ℕ) → place + n ≤ w → slice (i + place) n l ≡ slice place n (slice i w l)
unfolding slice
slice-within i w place n l h =
    let e : place + (w - place) ≡ w = omega arith in
    sym
    (ap (λ (k : ℕ). take n (drop place (take k (drop i l)))) (sym e)
    ∙ ap (take n) (drop-take place (w - place) (drop i l))
    ∙ take-take n (w - place) (drop place (drop i l)) (omega arith)
    ∙ ap (take n) (drop-drop place i l))

module _ (s : State) (z : Sized s) (f : Encodable s) where
  excerpt-bytes : (x : Excerpt) → excerpt_in_range x ≡ true → excerpt_bytes (encode s) x ≡ excerpt_on_records s x
  unfolding excerpt_bytes excerpt_on_records record_bytes excerpt_in_range
  excerpt-bytes x e = go x.table (both _ _ e)
    where
      n : ℕ
      n = length x.bytes

      go : (t : TableName) → (ltb x.number (count_of t) ≡ true) × (leb (x.place + n) (width_of t) ≡ true)
          → slice (x.number * width_of t + x.place) n (Rattle.specification.specs.Cases.table_of (encode s) t) ≡ slice x.place n (record_bytes s t x.number)
      go queue_table (h, k) = slice-within _ queue_width x.place n _ (leb-true _ _ k) ∙ ap (slice x.place n) (queue-bytes s z f x.number (ltb-true _ _ h))
      go pool_table (h, k) = slice-within _ buffer_width x.place n _ (leb-true _ _ k) ∙ ap (slice x.place n) (buffer-bytes s z f x.number (ltb-true _ _ h))
      go task_table (h, k) = slice-within _ task_width x.place n _ (leb-true _ _ k) ∙ ap (slice x.place n) (task-bytes s z f x.number (ltb-true _ _ h))

-- ---- The cases

case-on-bytes : (k : Case) → case_in_range k ≡ true → observed k ≡ observed_on_records k
unfolding case_in_range observed observed_on_records fresh_tables
case-on-bytes k e =
    let (arguments, (excerpts, _)) = holds _ e in
    let on = run-on-records (calls_of k) (fresh rising) (fresh-sound rising (priorities rising rising-good)) (fresh-fits rising rising-good) arguments in
    λ i. record {
      events = on.events i;
      bytes =
          (ap (λ (t : Tables). map (excerpt_bytes t) k.excerpts) on.tables
          ∙ map-where excerpt_in_range _ _ (excerpt-bytes _ on.sound.sized on.fits) k.excerpts excerpts) i;
    }

pub cases-hold : CasesHold
cases-hold = map-where case_in_range observed observed_on_records case-on-bytes cases cases-in-range ∙ cases-on-records
