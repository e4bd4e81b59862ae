-- `imageio::printing::print_differences`. Assumes nothing.
use Rattle.imageio.proofs.printing.print_differences.Goals as goal

pub returns : goal.returns
returns c = rw (c.as_bytes.ensures, c.differences_text-text.ensures) at c.write.ensures
