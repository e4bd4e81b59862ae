-- `imageio::files::read_file`. Assumes nothing.
use Rattle.std.proofs.Common.{rules, refl}
use Rattle.imageio.specs.Files.{reads, unopened}
use Rattle.imageio.proofs.files.read_file.Goals as goal

pub returns-in_err-file-clause-reads_file : goal.returns-in_err-file-clause-reads_file
returns-in_err-file-clause-reads_file c = unopened _ c.in_err-file.ensures (search rules) refl

pub returns-clause-reads_file : goal.returns-clause-reads_file
returns-clause-reads_file c = reads _ c.in_ok-file.ensures c.fill.ensures.fills
