-- THE THEOREM: the spacing theorem for scored frames, as `specs/Claim.antt` states it, holds of every options and every list of calls from a fresh state. Assumes nothing.
use Rattle.std.proofs.Common.{Option}
use mathlib.Core.Path.{◌≡◌, refl}
use mathlib.Core.List.{List}
use Rattle.filter.specs.declared.FilterMode.{FilterMode}
use Rattle.filter.specs.declared.FilterMode.TheVariants.{Suppress, Merge}
use Rattle.filter.specs.declared.FilterOptions.{FilterOptions}
use Rattle.filter.specs.Flash.{fresh}
use Rattle.filter.specs.Calls.{Frame, FilterCall, filter_run}
use Rattle.laws.proofs.All.{all_map}
use Rattle.filter.specs.Claim.{Stretch, stretches, scored_frames, InMode, StretchKeeps, FilterClaim}
use Rattle.filter.proofs.Frames.{cuts_from}
use Rattle.filter.proofs.Greedy.{suppressed-keeps}
use Rattle.filter.proofs.Distance.{merged_keeps}
use Rattle.filter.proofs.Stretch.{Played, played, cuts_are, no-others, left_out}
use Rattle.timestamp.specs.declared.Timestamp.{Timestamp}

by_mode : (o : FilterOptions) (mode : FilterMode) → o.filter_mode ≡ mode → (fs : List Frame) → InMode mode o fs (cuts_from o fresh fs)
by_mode o Suppress e fs = suppressed-keeps o e fs
by_mode o Merge e fs = merged_keeps o e fs

-- a list of scored frames from a fresh filter, whatever detector they come from
pub filter-keeps : (o : FilterOptions) (fs : List Frame) → InMode o.filter_mode o fs (cuts_from o fresh fs)
filter-keeps o fs = by_mode o o.filter_mode refl fs

keeps : (o : FilterOptions) (t : Stretch (Option Timestamp)) → Played o t → StretchKeeps o t
keeps o t p = rw (cuts_are o t p) (filter-keeps o (scored_frames t))

pub theorem : (o : FilterOptions) (calls : List FilterCall) → FilterClaim o calls
theorem o calls =
    record {
      holds = record { first-frames = all_map (λ t p. p.0) (stretches (filter_run o calls)) (played o calls); each-stretch = all_map (keeps o) (stretches (filter_run o calls)) (played o calls); no-others = no-others o calls };
      left_out = left_out o calls;
    }
