-- Document 01, "The call log": records written out and what each says, a log read at its places, and the answer record that the document gives.
use Rattle.std.specs.Prelude.{ℕ, ◌-◌, ◌≡◌, List, [], ◌∷◌, ◌++◌, map, length, take, replicate}
use Rattle.calllog.specs.declared.call.Directive.TheVariants.{Create, Ident, Delete, Send, Urgent, Broadcast, Receive, Pending, Flush}
use Rattle.calllog.specs.declared.call.Call.TheVariants.{By, Tick}
use Rattle.calllog.specs.declared.call.LogResult.{LogResult}
use Rattle.calllog.specs.declared.call.LogResult.TheVariants.{WellFormed, Malformed, End}
use Rattle.calllog.specs.CallLog.{record_width, read_record, Reading, reading_at, answer_bytes}

-- ---- Records

pub record CallRecordCase : Type 0 where
  pub bytes : List ℕ
  pub result : LogResult

infix 20 ◌says◌
abbrev ◌says◌ : (bytes : List ℕ) (result : LogResult) → CallRecordCase
◌says◌ bytes result = record { bytes = bytes; result = result }

-- a record whose first bytes are given, and zeros after them
abbrev pub begins : List ℕ → List ℕ
begins bytes = bytes ++ replicate (record_width - length bytes) 0

-- a record with an operation, a caller, an id below 256, and nothing else
abbrev pub concerns : (operation caller id : ℕ) → List ℕ
concerns operation caller id = begins (operation ∷ caller ∷ 0 ∷ 0 ∷ id ∷ [])

-- a record of task 3 about id 16, with a size and the first bytes of the message field
abbrev pub carries : (operation size : ℕ) (message : List ℕ) → List ℕ
carries operation size message = begins (operation ∷ 3 ∷ 0 ∷ size ∷ 16 ∷ replicate 11 0 ++ message)

unfoldable pub call_record_cases : List CallRecordCase
call_record_cases =
    -- The operations are "1 to 10 in the order create, ident, delete, send, urgent, broadcast, receive, pending, flush, tick".
    -- "1: 1, 2, 4-7, 12, 13": create by task 0, attributes 1, name 5, limit 2, max size 8
    (begins (1 ∷ 0 ∷ 1 ∷ 0 ∷ 5 ∷ 0 ∷ 0 ∷ 0 ∷ 0 ∷ 0 ∷ 0 ∷ 0 ∷ 2 ∷ 8 ∷ []) says WellFormed (By 0 (Create 5 2 8 1)))
    -- "2: 1, 4-7, 8-11": ident by task 9 in share 3; the lowest byte of the name stands first
    ∷ (begins (2 ∷ 9 ∷ 0 ∷ 0 ∷ 1 ∷ 2 ∷ 3 ∷ 4 ∷ 3 ∷ []) says WellFormed (By 9 (Ident 0x04030201 3)))
    -- "3, 8, 9: 1, 4-7": delete, pending and flush by task 3 of id 16
    ∷ (concerns 3 3 16 says WellFormed (By 3 (Delete 16)))
    ∷ (concerns 8 3 16 says WellFormed (By 3 (Pending 16)))
    ∷ (concerns 9 3 16 says WellFormed (By 3 (Flush 16)))
    -- "4, 5, 6: 1, 3, 4-7, message": send, urgent and broadcast of two bytes, and send of 120 bytes and of none
    ∷ (carries 4 2 (65 ∷ 66 ∷ []) says WellFormed (By 3 (Send 16 2)))
    ∷ (carries 5 2 (65 ∷ 66 ∷ []) says WellFormed (By 3 (Urgent 16 2)))
    ∷ (carries 6 2 (65 ∷ 66 ∷ []) says WellFormed (By 3 (Broadcast 16 2)))
    ∷ (carries 4 120 (replicate 120 65) says WellFormed (By 3 (Send 16 120)))
    ∷ (carries 4 0 [] says WellFormed (By 3 (Send 16 0)))
    -- "7: 1, 2, 4-7, 8-11": receive by task 31 from id 17, option 2, ticks 256; the directive refuses the option, not the log
    ∷ (begins (7 ∷ 31 ∷ 2 ∷ 0 ∷ 17 ∷ 0 ∷ 0 ∷ 0 ∷ 0 ∷ 1 ∷ []) says WellFormed (By 31 (Receive 17 2 256)))
    -- a caller of no share; the directive refuses it, not the log
    ∷ (concerns 3 255 16 says WellFormed (By 255 (Delete 16)))
    -- "10: none"
    ∷ (begins (10 ∷ []) says WellFormed Tick)
    -- "Anything else not zero": a tick with a caller, pending with a message, flush with byte 15 not zero
    ∷ (begins (10 ∷ 1 ∷ []) says Malformed)
    ∷ (carries 8 0 (65 ∷ []) says Malformed)
    ∷ (begins (9 ∷ 3 ∷ 0 ∷ 0 ∷ 16 ∷ replicate 10 0 ++ (1 ∷ [])) says Malformed)
    -- "message, zero after its size": a byte after a message of one byte, and after an empty one
    ∷ (carries 4 1 (65 ∷ 66 ∷ []) says Malformed)
    ∷ (carries 4 0 (65 ∷ []) says Malformed)
    -- "a size above 120": 121 and 255
    ∷ (carries 4 121 (replicate 120 65) says Malformed)
    ∷ (carries 4 255 (replicate 120 65) says Malformed)
    -- "another operation": 0, 11 and 255
    ∷ (begins [] says Malformed)
    ∷ (begins (11 ∷ []) says Malformed)
    ∷ (begins (255 ∷ []) says Malformed)
    -- "a short last part": a tick without its last byte
    ∷ (take 135 (begins (10 ∷ [])) says Malformed)
    ∷ []

-- ---- A log

-- a tick, and a short part of 135 bytes
abbrev pub example_log : List ℕ
example_log = begins (10 ∷ []) ++ take 135 (begins (10 ∷ []))

abbrev reading : LogResult → (next : ℕ) → Reading
reading result next = record { result = result; next = next }

-- a place of the log, and what a reader there yields with the place that it moves on to
pub record PlaceCase : Type 0 where
  pub place : ℕ
  pub expected : Reading

infix 20 ◌yields◌
abbrev ◌yields◌ : (place : ℕ) (expected : Reading) → PlaceCase
◌yields◌ place expected = record { place = place; expected = expected }

unfoldable pub place_cases : List PlaceCase
place_cases =
    -- "it moves on by 136 bytes, or to the end after a short part"
    (0 yields reading (WellFormed Tick) 136)
    ∷ (136 yields reading Malformed 271)
    -- "at or past the end it yields the end"
    ∷ (271 yields reading End 271)
    ∷ (300 yields reading End 300)
    ∷ []

-- ---- An answer record

-- "A log of one create by task 0 [...] writes exactly `00 01 00 00 10 00 00 00 00 00 00 00 00 00 00 00`": status 0, operation 1, value 16,
-- nobody woken.
unfoldable pub create_answer : List ℕ
create_answer =
    0x00 ∷ 0x01 ∷ 0x00 ∷ 0x00 ∷ 0x10 ∷ 0x00 ∷ 0x00 ∷ 0x00 ∷ 0x00 ∷ 0x00 ∷ 0x00 ∷ 0x00 ∷ 0x00 ∷ 0x00 ∷ 0x00 ∷ 0x00 ∷ []

-- ---- The statement

pub record LogCasesHold : Type 0 where
  pub records : map (λ k. read_record k.bytes) call_record_cases ≡ map (λ k. k.result) call_record_cases
  pub places : map (λ k. reading_at example_log k.place) place_cases ≡ map (λ k. k.expected) place_cases
  pub answer : answer_bytes 0 1 16 0 ≡ create_answer
