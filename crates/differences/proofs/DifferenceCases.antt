-- The differences that are written out hold, by computation. Assumes nothing.
use mathlib.Core.Path.{refl}
use Rattle.ranks.specs.Lists.{count_true, first_true, keep_if, numbers_from}
use Rattle.differences.specs.Differences.{differ_at, record_difference, table_records, image_records, list_filled}
use Rattle.differences.specs.DifferenceCases.{changed_at, DifferencesHold}

pub differences-hold : DifferencesHold
unfolding count_true first_true keep_if numbers_from differ_at record_difference table_records image_records list_filled changed_at
differences-hold =
    record {
      one_byte = refl;
      three-bytes = refl;
      with-a-gap = refl;
      every_byte = refl;
      equal = refl;
      size = refl;
      count = refl;
      count-112 = refl;
      table-numbers = refl;
      first = refl;
      queues-then-pool = refl;
      pool-then-tasks = refl;
      last = refl;
      past-the-value = refl;
      none-differs = refl;
    }
