use Rattle.std.proofs.Common.{◌≡◌, take}
use Rattle.std.specs.List.{list_all}
use lib.Signed.{lt_z}
use Rattle.canny_thin.proofs.all_under.Given as goal

abbrev pub invariant-loop-m : goal.invariant-loop-m
invariant-loop-m l = l.under ≡ list_all (λ m. lt_z m l.limit) (take l.m-index l.mag)
