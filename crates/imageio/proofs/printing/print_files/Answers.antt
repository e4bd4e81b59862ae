-- `imageio::printing::print_files`. Assumes nothing.
use Rattle.imageio.proofs.printing.print_files.Goals as goal

pub returns : goal.returns
returns c =
    record {
      one = _;
      two = _;
      f = _;
      g = _;
      reads-one = c.read_file.ensures.reads_file;
      reads_two = c.read_file-2.ensures.reads_file;
      writes = rw (c.unwrap_or-n.ensures, c.unwrap_or-m.ensures) at c.print_differences.ensures;
    }
