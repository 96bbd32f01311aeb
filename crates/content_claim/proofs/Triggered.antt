-- The filter never triggers a merge without start or last stamp. Assumes nothing.
use Rattle.std.proofs.Common.{None, Option, Some}
use mathlib.Core.Path.{◌≡◌, refl}
use mathlib.Core.Bool.{Bool, true, false, cond, not, ◌&&◌, ◌||◌}
use Rattle.timestamp.specs.declared.Timestamp.{Timestamp}
use Rattle.filter.specs.declared.FilterMode.{FilterMode}
use Rattle.filter.specs.declared.FilterMode.TheVariants.{Suppress, Merge}
use Rattle.filter.specs.declared.FilterOptions.{FilterOptions}
use Rattle.filter.specs.declared.Filter.{Filter}
use Rattle.filter.specs.Flash.{seeded, min_length_met, advanced, suppressed, merge_held, merge_free, filter_merge, by_mode, flash_filter}
use Rattle.content.specs.State.{missing, bad_filter}

-- with a last stamp, a merge that was triggered with a start is so still
still : (triggered : Bool) (start last : Option Timestamp) → (triggered && (missing start || missing last)) ≡ false
    → (triggered && (missing start || false)) ≡ false
still false start last e = refl
still true None last e = e
still true (Some t) last e = refl

-- or it is released
held : (triggered : Bool) (start last : Option Timestamp) → (missing start || missing last) ≡ false → (triggered && (missing start || false)) ≡ false
held false start last e = refl
held true start last e = still true start last e

-- a merge that is triggered now starts now
starts : (trigger : Bool) (ts : Timestamp) (start : Option Timestamp) → (trigger && (missing (cond trigger (Some ts) start) || false)) ≡ false
starts true ts start = refl
starts false ts start = refl

module _ (o : FilterOptions) (f : Filter) (last ts : Timestamp) (above met : Bool) (e : bad_filter f ≡ false) where
  suppress-keeps : bad_filter (suppressed f last ts above met).filter ≡ false
  unfolding suppressed
  suppress-keeps = still f.merge_triggered f.merge_start f.last_above e

  by-triggered : (t : Bool) → f.merge_triggered ≡ t
      → bad_filter (cond t (merge_held o f last above met) (merge_free f last ts above met)).filter ≡ false
  unfolding merge_held merge_free
  by-triggered true t = held (merge_held o f last above met).filter.merge_triggered f.merge_start f.last_above (rw t at e)
  by-triggered false t = starts (above && not met && f.merge_enabled) ts f.merge_start

by_mode_lem : (mode : FilterMode) (o : FilterOptions) (f : Filter) (last ts : Timestamp) (above met : Bool) → bad_filter f ≡ false
    → bad_filter (by_mode mode o f last ts above met).filter ≡ false
unfolding filter_merge
by_mode_lem Suppress o f last ts above met e = suppress-keeps o f last ts above met e
by_mode_lem Merge o f last ts above met e = by-triggered o f (advanced last ts above) ts above met e f.merge_triggered refl

pub flash-keeps : (o : FilterOptions) (f : Filter) (ts : Timestamp) (above : Bool) → bad_filter f ≡ false → bad_filter (flash_filter o f ts above).filter ≡ false
unfolding flash_filter
flash-keeps o f ts above e =
    let last = seeded o f.last_above ts in
    by_mode_lem o.filter_mode o f last ts above (min_length_met o last ts) e
