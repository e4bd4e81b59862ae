-- The tables that demand 2 speaks of: bytes of the right lengths that are sound.
use Rattle.std.specs.Prelude.{◌≡◌, ◌⊎◌, true}
use Rattle.records.specs.Bytes.{Tables, decode}
use Rattle.records.specs.InRange.{ByteTables}
use Rattle.records.specs.Status.{SUCCESSFUL, WAITING}
use Rattle.specification.specs.Answer.{Answer}
use Rattle.specification.specs.Sound.{sound}

pub record SoundTables (t : Tables) : Type 0 where
  pub bytes : ByteTables t
  pub is_sound : sound (decode t) ≡ true

-- "All but 0 and 14 are refusals."
abbrev pub NotRefused : Answer → Type 0
NotRefused a = (a.status ≡ SUCCESSFUL) ⊎ (a.status ≡ WAITING)
