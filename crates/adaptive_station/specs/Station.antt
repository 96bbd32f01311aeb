-- The adaptive detector as the station calls it: its record in words, and the results of its calls.
use Rattle.adaptive.specs.declared.Detector.{Detector}
use Rattle.frame_call.specs.Call.{Call}
use Rattle.adaptive.specs.Step.{called}
use Rattle.adaptive_words.specs.Record.{adaptive_words, adaptive_of}
use Rattle.station_answer.specs.Promises.{Layout, Brought}
use Rattle.station_answer.specs.Calls.{brought_by}

-- the record of the adaptive detector in words, and its weights
abbrev pub adaptive_layout : Layout Detector
adaptive_layout = record { words_of = adaptive_words; held_by = adaptive_of; weights_of = λ (d : Detector). d.options.weights }

-- the result of a call of the adaptive detector
abbrev pub adaptive_call : Detector → Call → Brought Detector
adaptive_call d c = brought_by (called d c)
