-- The samples of RULES 13.1, as one list, by computation.
use mathlib.Core.Path.{◌≡◌, refl}
use Rattle.arch_hsv.specs.Hsv.{rounded, value, delta, saturation, degrees, hue}
use Rattle.canny_marks.specs.Marks.{low_mark, high_mark}
use Rattle.canny_marks.specs.Kernel.{greatest, spread, auto_kernel_size}
use Rattle.timestamp.specs.Stamps.{distance, duration_since, saturating_sub}
use Rattle.filter.specs.Flash.{virtual_seed, seeded, min_length_met, suppressed, num_merged, merge_held, merge_free, filter_merge, flash_filter}
use Rattle.samples.specs.Starred.{given, printed}

pub starred : given ≡ printed
unfolding rounded value delta saturation degrees hue low_mark high_mark greatest spread auto_kernel_size distance duration_since saturating_sub virtual_seed seeded min_length_met suppressed num_merged merge_held merge_free filter_merge flash_filter
starred = refl
