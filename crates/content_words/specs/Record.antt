-- The content detector's record in 34 words: settings, stream, filter, light plan (RULES 15.1, 15.4, 18.7).
use Rattle.std.specs.Prelude.{Bool, cond, ◌&&◌, List, ◌++◌, ℕ, take, drop, None}
use Rattle.light_plan.specs.Plan.{tidied as tidied_plan, no_plan}
use Rattle.content.specs.declared.Detector.{Detector}
use Rattle.content.specs.Options.{options, with_plan, defaults}
use Rattle.content.specs.State.{fresh}
use Rattle.stream.specs.Stream.{components_shown}
use Rattle.words.specs.Stream.{stream_words, is_stream, stream_of}
use Rattle.content_words.specs.Options.{options_words, is_options, options_of}
use Rattle.content_words.specs.Filter.{filter_words, is_filter, filter_of}
use Rattle.content_words.specs.Plan.{plan_words, is_plan, plan_of_words}

-- the words of the content detector's record
unfoldable pub content_words : Detector → List ℕ
content_words d = options_words d.options ++ (stream_words d.stream ++ (filter_words d.filter ++ plan_words d.options.plan))

-- whether words are a record: the version is this one, tags are 0 or 1, and fields of 32 bits have 32 bits
unfoldable pub is_content : List ℕ → Bool
is_content w = is_options (take 11 w) && is_stream (take 10 (drop 11 w)) && is_filter (take 6 (drop 21 w)) && is_plan (take 7 (drop 27 w))

-- what is read where the words are not a record: the weights are zero, so that every call refuses it by 15; it has no plan
unfoldable pub foreign : Detector
foreign = fresh (options defaults.threshold defaults.min_duration (components_shown None) defaults.filter_mode defaults.kernel_size defaults.initial_cut no_plan)

-- the record that the words hold
unfoldable pub content_of : List ℕ → Detector
content_of w =
    cond (is_content w)
    (record {
      options = options_of (take 11 w) (plan_of_words (take 7 (drop 27 w)));
      stream = stream_of (take 10 (drop 11 w));
      filter = filter_of (take 6 (drop 21 w));
    })
    foreign

-- the state with 0 in the places of its plan past the count, which nothing looks at; what words hold is such a state (RULES 18.4)
abbrev pub tidied : Detector → Detector
tidied d =
    record { options = with_plan d.options (tidied_plan d.options.plan); stream = d.stream; filter = d.filter }
