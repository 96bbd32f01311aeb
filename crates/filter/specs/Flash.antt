-- The filter rule (RULES 7): which scored frames of a stretch are cuts, in the mode Suppress and in the mode Merge, which takes the branches
-- of the Rust's `filter_merge`. A scored frame comes as its stamp and whether it is above, that is, its score at or over its threshold.
use Rattle.std.specs.Prelude.{ℕ, Bool, false, cond, not, ◌&&◌, ◌||◌, leb, pos, ◌+ℤ◌, None, Option, Some}
use Rattle.std.specs.Int.Signed.{le_z}
use Rattle.timestamp.specs.declared.Timestamp.{Timestamp}
use Rattle.timestamp.specs.Stamps.{duration_since, saturating_sub}
use Rattle.filter.specs.declared.FilterMode.{FilterMode}
use Rattle.filter.specs.declared.FilterMode.TheVariants.{Suppress, Merge}
use Rattle.filter.specs.declared.FilterOptions.{FilterOptions}
use Rattle.filter.specs.declared.Filter.{Filter}
use Rattle.filter.specs.declared.FilterStep.{FilterStep}

-- the filter at the start of a stretch, which has no scored frame yet (RULES 7.1)
abbrev pub fresh : Filter
fresh = record { last_above = None; merge_enabled = false; merge_triggered = false; merge_start = None }

-- the seed: the stamp of the stretch's second frame, the first that has a score, less the minimum duration if `initial_cut` is on. The
-- subtraction stops at -2^63 (RULES 1.3, 7.2).
unfoldable pub virtual_seed : Timestamp → FilterOptions → Timestamp
virtual_seed ts o = cond o.initial_cut (saturating_sub ts o.min_duration) ts

-- what the distance is counted from at a frame of stamp ts: the filter's last stamp, or the seed if it has none (RULES 7.2)
unfoldable pub seeded : FilterOptions → Option Timestamp → Timestamp → Timestamp
seeded o None ts = virtual_seed ts o
seeded o (Some t) ts = t

-- the stamp ts is at least the minimum past `last`: last + minimum ≤ ts in whole numbers, where the sum neither wraps nor stops (RULES 1.5)
unfoldable pub min_length_met : FilterOptions → Timestamp → Timestamp → Bool
min_length_met o last ts = le_z (last.micros +ℤ pos o.min_duration) ts.micros

-- a cut at this stamp if the condition holds, otherwise none
abbrev pub cut_if : Bool → Timestamp → Option Timestamp
cut_if b ts = cond b (Some ts) None

-- the step with this cut or none after which the distance is counted from `last`; merging stays as it is
abbrev pub step_to : Filter → Timestamp → Option Timestamp → FilterStep
step_to f last cut =
    record {
      filter = record { last_above = Some last; merge_enabled = f.merge_enabled; merge_triggered = f.merge_triggered; merge_start = f.merge_start };
      cut = cut;
    }

-- Suppress cuts a frame that is above and at least the minimum past the last cut, or past the seed if there was no cut. The cut is the
-- frame's stamp (RULES 7.3).
unfoldable pub suppressed : Filter → (last ts : Timestamp) (above met : Bool) → FilterStep
suppressed f last ts above met = step_to f (cond (above && met) ts last) (cut_if (above && met) ts)

-- ---- Merge (RULES 7.4). It counts from the last frame that was above, or from the seed if there was none: that is the last stamp. First,
-- `met` says whether the frame is at least the minimum past the last stamp. Then a frame that is above becomes the last stamp.

-- the last stamp after this frame: the frame's own if it is above, otherwise the one before
abbrev pub advanced : (last ts : Timestamp) (above : Bool) → Timestamp
advanced last ts above = cond above ts last

-- how many microseconds a stamp is past another: their difference, or 0 where the stamp is before the other one (RULES 1.2, 7.4)
abbrev pub micros_or_zero : Option ℕ → ℕ
micros_or_zero None = 0
micros_or_zero (Some n) = n

-- `num_merged`: how far the last stamp is past the merge's start; a last stamp before the start counts as 0 past it (RULES 7.4). Without a
-- start it is 0 too, but a detector refuses such a state by 15 and does not come here (RULES 10.7).
unfoldable pub num_merged : Timestamp → Option Timestamp → ℕ
num_merged last None = 0
num_merged last (Some start) = micros_or_zero (duration_since last start)

-- While a merge is going on, a frame that is not above, and met, ends it if the last stamp is at least the minimum past the merge's start.
-- The cut is then the last stamp, that of an earlier frame. The start is kept as it was. Nothing else is a cut (RULES 7.4).
unfoldable pub merge_held : FilterOptions → Filter → (last : Timestamp) (above met : Bool) → FilterStep
merge_held o f last above met =
    let release : Bool = not above && met && leb o.min_duration (num_merged last f.merge_start) in
    record {
      filter = record { last_above = Some last; merge_enabled = f.merge_enabled; merge_triggered = not release; merge_start = f.merge_start };
      cut = cut_if release last;
    }

-- While no merge is going on, a frame that is above and met is a cut, and from now on merging is enabled. A frame that is above and not met
-- starts a merge at its stamp, if merging is enabled. Nothing else is a cut (RULES 7.4).
unfoldable pub merge_free : Filter → (last ts : Timestamp) (above met : Bool) → FilterStep
merge_free f last ts above met =
    let trigger : Bool = above && not met && f.merge_enabled in
    record {
      filter = record { last_above = Some last; merge_enabled = above && met || f.merge_enabled; merge_triggered = trigger; merge_start = cond trigger (Some ts) f.merge_start };
      cut = cut_if (above && met) ts;
    }

-- Merge: the last stamp advances, and the branch is taken by whether a merge is going on (RULES 7.4)
unfoldable pub filter_merge : FilterOptions → Filter → (last ts : Timestamp) (above met : Bool) → FilterStep
filter_merge o f last ts above met =
    cond f.merge_triggered
    (merge_held o f (advanced last ts above) above met)
    (merge_free f (advanced last ts above) ts above met)

-- ---- a scored frame

-- a scored frame, by the mode: Suppress (RULES 7.3) or Merge (RULES 7.4)
abbrev pub by_mode : FilterMode → FilterOptions → Filter → (last ts : Timestamp) (above met : Bool) → FilterStep
by_mode Suppress o f last ts above met = suppressed f last ts above met
by_mode Merge o f last ts above met = filter_merge o f last ts above met

-- a scored frame: the filter after it, and its cut or none. The distance is counted from the filter's last stamp, or from the seed if it has
-- none (RULES 7.2 to 7.4).
unfoldable pub flash_filter : FilterOptions → Filter → Timestamp → Bool → FilterStep
flash_filter o f ts above =
    let last : Timestamp = seeded o f.last_above ts in
    by_mode o.filter_mode o f last ts above (min_length_met o last ts)
