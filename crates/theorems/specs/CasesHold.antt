-- W1 to W15 and the errors that document 01 names, on bytes.
use Rattle.std.specs.Prelude.{◌≡◌, map}
use Rattle.specification.specs.Cases.{observed, expected, cases}

-- one statement over a single list
abbrev pub CasesHold : Type 0
CasesHold = map observed cases ≡ map expected cases
