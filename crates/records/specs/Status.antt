-- Document 01, "Status numbers".
use Rattle.std.specs.Prelude.{ℕ, Result, Ok, Err}
use Rattle.records.specs.declared.status.RefusalStatus.{RefusalStatus}
use Rattle.records.specs.declared.status.RefusalStatus.TheVariants.{
  InvalidName,
  InvalidId,
  InvalidSize,
  InvalidNumber,
  TooMany,
  Unsatisfied,
  InvalidNode,
  Corrupt,
  BadCaller,
  IllegalOnRemoteObject,
  NoBuffer,
  InvalidOption,
  BadShape,
}

abbrev pub SUCCESSFUL : ℕ
SUCCESSFUL = 0

abbrev pub INVALID-NAME : ℕ
INVALID-NAME = 1

abbrev pub INVALID-ID : ℕ
INVALID-ID = 2

abbrev pub INVALID-SIZE : ℕ
INVALID-SIZE = 3

abbrev pub INVALID-NUMBER : ℕ
INVALID-NUMBER = 4

abbrev pub TOO-MANY : ℕ
TOO-MANY = 5

abbrev pub UNSATISFIED : ℕ
UNSATISFIED = 6

abbrev pub TIMEOUT : ℕ
TIMEOUT = 7

abbrev pub OBJECT-WAS-DELETED : ℕ
OBJECT-WAS-DELETED = 8

abbrev pub INVALID-NODE : ℕ
INVALID-NODE = 9

abbrev pub CORRUPT : ℕ
CORRUPT = 10

abbrev pub BAD-CALLER : ℕ
BAD-CALLER = 11

abbrev pub ILLEGAL-ON-REMOTE-OBJECT : ℕ
ILLEGAL-ON-REMOTE-OBJECT = 12

abbrev pub NO-BUFFER : ℕ
NO-BUFFER = 13

abbrev pub WAITING : ℕ
WAITING = 14

abbrev pub INVALID-OPTION : ℕ
INVALID-OPTION = 15

abbrev pub BAD-SHAPE : ℕ
BAD-SHAPE = 16

-- the number of a status that refuses a call
abbrev pub status_number : RefusalStatus → ℕ
status_number InvalidName = INVALID-NAME
status_number InvalidId = INVALID-ID
status_number InvalidSize = INVALID-SIZE
status_number InvalidNumber = INVALID-NUMBER
status_number TooMany = TOO-MANY
status_number Unsatisfied = UNSATISFIED
status_number InvalidNode = INVALID-NODE
status_number Corrupt = CORRUPT
status_number BadCaller = BAD-CALLER
status_number IllegalOnRemoteObject = ILLEGAL-ON-REMOTE-OBJECT
status_number NoBuffer = NO-BUFFER
status_number InvalidOption = INVALID-OPTION
status_number BadShape = BAD-SHAPE

-- the number that a list of tests gives: 0 where no test refuses the call
abbrev pub verdict_status : Result Unit RefusalStatus → ℕ
verdict_status (Ok _) = SUCCESSFUL
verdict_status (Err status) = status_number status
