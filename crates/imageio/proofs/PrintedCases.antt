-- The lines that are written out hold, by computation. Assumes nothing.
use mathlib.Core.Path.{refl}
use mathlib.Core.List.{flatten}
use Rattle.imageio.specs.Printed.{digit, decimal, number_then, line, printed}
use Rattle.imageio.specs.PrintedCases.{LinesHold}

pub lines-hold : LinesHold
unfolding flatten digit decimal number_then line printed
lines-hold = record { task = refl; buffer = refl; last-task = refl; two-lines = refl; no_line = refl; sixteen = refl }
