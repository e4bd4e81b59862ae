-- The comparisons that are written out hold, by computation. Assumes nothing.
use mathlib.Core.Path.{refl}
use Rattle.ranks.specs.Lists.{count_true, first_true, keep_if, numbers_from}
use Rattle.ranks.specs.Table.{slice}
use Rattle.specification.specs.Answer.{refuse_if_any}
use Rattle.differences.specs.Differences.{differ_at, record_difference, table_records, image_records, difference_in, differs, differences, comparable, refusals, list_filled, compared}
use Rattle.differences.specs.DifferenceCases.{changed_at}
use Rattle.imageio.specs.Printed.{digit, decimal, number_then, printed, printed_of}
use Rattle.image_compare_cases.specs.ImageCases.{ImagesHold}

pub images-hold : ImagesHold
unfolding count_true first_true keep_if numbers_from slice refuse_if_any differ_at record_difference table_records image_records difference_in differs differences comparable refusals list_filled compared changed_at digit decimal number_then printed printed_of
images-hold =
    record {
      two_records = refl;
      equal-images = refl;
      room-for-111 = refl;
      first-too-short = refl;
      second-too-long = refl;
      first-unread = refl;
      second-unread = refl;
      none_read = refl;
    }
