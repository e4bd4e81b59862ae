-- Statuses that refuse a call. Assumes nothing.
use native.Mathlib.Omega.{arith}
use mathlib.Core.Path.{◌≡◌, refl}
use mathlib.Core.Bool.{true}
use lib.Dec.{leb}
use borrow.Author.Tests.{leb-true}
use Rattle.records.specs.Status.{status_number}
use Rattle.records.specs.declared.status.RefusalStatus.{RefusalStatus}
use Rattle.records.specs.declared.status.RefusalStatus.TheVariants.{
  InvalidName,
  InvalidId,
  InvalidSize,
  InvalidNumber,
  TooMany,
  Unsatisfied,
  InvalidNode,
  Corrupt,
  BadCaller,
  IllegalOnRemoteObject,
  NoBuffer,
  InvalidOption,
  BadShape,
}

positive : (s : RefusalStatus) → leb 1 (status_number s) ≡ true
positive InvalidName = refl
positive InvalidId = refl
positive InvalidSize = refl
positive InvalidNumber = refl
positive TooMany = refl
positive Unsatisfied = refl
positive InvalidNode = refl
positive Corrupt = refl
positive BadCaller = refl
positive IllegalOnRemoteObject = refl
positive NoBuffer = refl
positive InvalidOption = refl
positive BadShape = refl

-- a status that refuses a call is not 0
pub not-zero : (s : RefusalStatus) → status_number s ≡ 0 → ⊥
not-zero s e = omega (arith, e, leb-true 1 (status_number s) (positive s))
