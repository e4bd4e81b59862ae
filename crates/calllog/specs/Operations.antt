-- Document 01, "The call log": the operations of the code by their numbers, and their rows.
use Rattle.std.specs.Prelude.{ℕ, ◌≡◌, ◌<◌, ◌≤◌, List, Result, MatchResult}
use Rattle.calllog.specs.declared.operation.Operation.{Operation}
use Rattle.calllog.specs.declared.operation.Operation.TheVariants.{Create, Ident, Delete, Send, Urgent, Broadcast, Receive, Pending, Flush, Tick}
use Rattle.calllog.specs.declared.operation.UnknownOperation.{UnknownOperation}
use Rattle.calllog.specs.declared.decode.Numbers.{Numbers}
use Rattle.calllog.specs.declared.operation.Row.{Row}
use Rattle.calllog.specs.CallLog.{Field, caller, option, size, id, ticks, limit, max_size, reserved, message, ◌of◌, names}

-- "1 to 10 in the order create, ident, delete, send, urgent, broadcast, receive, pending, flush, tick"
abbrev pub number_of : Operation → ℕ
number_of Create = 1
number_of Ident = 2
number_of Delete = 3
number_of Send = 4
number_of Urgent = 5
number_of Broadcast = 6
number_of Receive = 7
number_of Pending = 8
number_of Flush = 9
number_of Tick = 10

-- the result is the operation with this number, or an error with a number that no operation has
abbrev pub Numbered : (number : ℕ) → Result Operation UnknownOperation → Type 0
Numbered number r = MatchResult r (λ o. number_of o ≡ number) (λ e. (e.0 ≡ number) × (1 ≤ number → 10 < number))

-- of each field, whether a row names it
abbrev pub row_with : List Field → Row
row_with row = record {
  caller = names row caller;
  option = names row option;
  size = names row size;
  id = names row id;
  ticks = names row ticks;
  limit = names row limit;
  max_size = names row max_size;
  message = names row message;
}

-- the numbers in the fields of a record
abbrev pub numbers_in : List ℕ → Numbers
numbers_in r = record {
  caller = caller of r;
  option = option of r;
  size = size of r;
  id = id of r;
  ticks = ticks of r;
  limit = limit of r;
  max_size = max_size of r;
  reserved = reserved of r;
}
