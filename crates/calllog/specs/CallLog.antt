-- Document 01, "The call log": what the bytes of a log say.
use Rattle.std.specs.Prelude.{ℕ, ◌+◌, ◌-◌, ◌/◌, min, Bool, false, ◌&&◌, ◌||◌, List, [], ◌∷◌, ◌++◌, map, length, get_or, drop, replicate, eqb, leb, ltb, if◌then◌else◌}
use Rattle.ranks.specs.Lists.{all_true, all_zero}
use Rattle.ranks.specs.Table.{slice}
use Rattle.records.specs.Layout.{capacity}
use Rattle.octets.specs.LittleEndian.{from_little_endian, to_little_endian}
use Rattle.calllog.specs.declared.call.Directive.TheVariants.{Create, Ident, Delete, Send, Urgent, Broadcast, Receive, Pending, Flush}
use Rattle.calllog.specs.declared.call.Call.TheVariants.{By, Tick}
use Rattle.calllog.specs.declared.call.LogResult.{LogResult}
use Rattle.calllog.specs.declared.call.LogResult.TheVariants.{WellFormed, Malformed, End}

-- ---- The fields of a record

-- "16-135 message"
abbrev pub message_place : ℕ
message_place = 16

-- "A call record is 136 bytes"
abbrev pub record_width : ℕ
record_width = message_place + capacity

-- some bytes of a record: the place of the first, and how many
pub record Field : Type 0 where
  pub place : ℕ
  pub width : ℕ

abbrev bytes : (place width : ℕ) → Field
bytes place width = record { place = place; width = width }

-- "0 operation"
abbrev pub operation : Field
operation = bytes 0 1

-- "1 caller"
abbrev pub caller : Field
caller = bytes 1 1

-- "2 attributes or option"
abbrev pub option : Field
option = bytes 2 1

-- "3 size"
abbrev pub size : Field
size = bytes 3 1

-- "4-7 id or name"
abbrev pub id : Field
id = bytes 4 4

-- "8-11 ticks or share"
abbrev pub ticks : Field
ticks = bytes 8 4

-- "12 limit"
abbrev pub limit : Field
limit = bytes 12 1

-- "13 max size"
abbrev pub max_size : Field
max_size = bytes 13 1

-- "14-15 zero"
abbrev pub reserved : Field
reserved = bytes 14 2

-- "16-135 message"
abbrev pub message : Field
message = bytes message_place capacity

-- the fields that a row may name
abbrev pub fields : List Field
fields = caller ∷ option ∷ size ∷ id ∷ ticks ∷ limit ∷ max_size ∷ message ∷ []

-- a field's bytes in a record, and the number that they are
abbrev pub bytes_of : Field → List ℕ → List ℕ
bytes_of field r = slice field.place field.width r

infix 60 ◌of◌
abbrev pub ◌of◌ : Field → List ℕ → ℕ
◌of◌ field r = from_little_endian (bytes_of field r)

-- the bytes from the message field's place on, which a short part may not have
abbrev pub message_of : List ℕ → List ℕ
message_of r = drop message_place r

-- ---- The rows: "A fixed row per operation says which fields it may use".

-- the row of an operation is at its number
unfoldable pub rows : List (List Field)
rows =
    -- no operation has number 0
    []
    -- create, "1: 1, 2, 4-7, 12, 13"
    ∷ (caller ∷ option ∷ id ∷ limit ∷ max_size ∷ [])
    -- ident, "2: 1, 4-7, 8-11"
    ∷ (caller ∷ id ∷ ticks ∷ [])
    -- delete, "3, 8, 9: 1, 4-7"
    ∷ (caller ∷ id ∷ [])
    -- send, "4, 5, 6: 1, 3, 4-7, message"
    ∷ (caller ∷ size ∷ id ∷ message ∷ [])
    -- urgent, "4, 5, 6: 1, 3, 4-7, message"
    ∷ (caller ∷ size ∷ id ∷ message ∷ [])
    -- broadcast, "4, 5, 6: 1, 3, 4-7, message"
    ∷ (caller ∷ size ∷ id ∷ message ∷ [])
    -- receive, "7: 1, 2, 4-7, 8-11"
    ∷ (caller ∷ option ∷ id ∷ ticks ∷ [])
    -- pending, "3, 8, 9: 1, 4-7"
    ∷ (caller ∷ id ∷ [])
    -- flush, "3, 8, 9: 1, 4-7"
    ∷ (caller ∷ id ∷ [])
    -- tick, "10: none"
    ∷ []
    ∷ []

-- the row of an operation; another operation may use no field
unfoldable pub row_of : (operation : ℕ) → List Field
row_of operation = get_or rows operation []

unfoldable pub names : List Field → Field → Bool
names [] field = false
names (f ∷ row) field = eqb f.place field.place || names row field

-- ---- What a record says

-- "Anything else not zero": a field that the row does not name is zero.
abbrev pub else_zero : List Field → List ℕ → Bool
else_zero row r = all_true (map (λ field. names row field || all_zero (bytes_of field r)) fields)

unfoldable pub keeps_row : List Field → List ℕ → Bool
keeps_row row r =
    all_true
    (else_zero row r
    -- "14-15 zero"
    ∷ all_zero (bytes_of reserved r)
    -- "a size above 120"
    ∷ leb (size of r) capacity
    -- "message, zero after its size"
    ∷ all_zero (drop (size of r) (bytes_of message r))
    ∷ [])

-- The call of an operation with the numbers in the fields: "1 to 10 in the order create, ident, delete, send, urgent, broadcast, receive,
-- pending, flush, tick". "Another operation" is malformed.
unfoldable pub call_with : (operation caller option size id ticks limit max_size : ℕ) → LogResult
call_with operation caller option size id ticks limit max_size =
    if eqb operation 1 then WellFormed (By caller (Create id limit max_size option))
    else if eqb operation 2 then WellFormed (By caller (Ident id ticks))
    else if eqb operation 3 then WellFormed (By caller (Delete id))
    else if eqb operation 4 then WellFormed (By caller (Send id size))
    else if eqb operation 5 then WellFormed (By caller (Urgent id size))
    else if eqb operation 6 then WellFormed (By caller (Broadcast id size))
    else if eqb operation 7 then WellFormed (By caller (Receive id option ticks))
    else if eqb operation 8 then WellFormed (By caller (Pending id))
    else if eqb operation 9 then WellFormed (By caller (Flush id))
    else if eqb operation 10 then WellFormed Tick
    else Malformed

unfoldable pub call_in : List ℕ → LogResult
call_in r = call_with (operation of r) (caller of r) (option of r) (size of r) (id of r) (ticks of r) (limit of r) (max_size of r)

-- "a short last part" is malformed, and so is a record that does not keep its row
unfoldable pub read_record : List ℕ → LogResult
read_record r = if eqb (length r) record_width && keeps_row (row_of (operation of r)) r then call_in r else Malformed

-- ---- The reader: "holds the lent log bytes and the place reached"

-- "at or past the end it yields the end", else what the next 136 bytes say, or as many as are left
unfoldable pub read_at : (log : List ℕ) (at : ℕ) → LogResult
read_at log at = if ltb at (length log) then read_record (slice at record_width log) else End

-- "else it moves on by 136 bytes, or to the end after a short part"
unfoldable pub place_after : (log : List ℕ) (at : ℕ) → ℕ
place_after log at = if ltb at (length log) then min (at + record_width) (length log) else at

-- how many records a log of `n` bytes has, a short last part counted
unfoldable pub record_count : (n : ℕ) → ℕ
record_count n = (n + (record_width - 1)) / record_width

-- what a reader yields, and the place that it moves on to
pub record Reading : Type 0 where
  pub result : LogResult
  pub next : ℕ

abbrev pub reading_at : (log : List ℕ) (at : ℕ) → Reading
reading_at log at = record { result = read_at log at; next = place_after log at }

-- ---- Answer records

-- "An answer record is 16 bytes"
abbrev pub answer_width : ℕ
answer_width = 16

-- "An answer record is 16 bytes: status, first byte of the call, 0, 0, value, mask, four zeros."
unfoldable pub answer_bytes : (status first_byte value mask : ℕ) → List ℕ
answer_bytes status first_byte value mask =
    status ∷ first_byte ∷ 0 ∷ 0 ∷ to_little_endian 4 value ++ to_little_endian 4 mask ++ replicate 4 0
