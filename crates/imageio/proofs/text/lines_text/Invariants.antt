-- `imageio::text::lines_text`. Assumes nothing.
use Rattle.std.proofs.Common.{◌≡◌, ◌≤◌, ◌*◌, length, take}
use Rattle.imageio.specs.Printed.{lines_of}
use Rattle.imageio.specs.Texts.{line_room}
use Rattle.imageio.proofs.text.lines_text.Given as goal

abbrev pub invariant-loop-d : goal.invariant-loop-d
invariant-loop-d l = (l.text ≡ lines_of (take l.d-index l.list)) × (length l.text ≤ line_room * l.d-index)
