-- No refusal has the number 0, which is that of a call that is not refused.
use Rattle.std.proofs.Common.{◌<◌, arith}
use Rattle.refusal.specs.declared.Refusal.{Refusal}
use Rattle.refusal.specs.declared.Refusal.TheVariants.{FrameTooLarge, StrideTooShort, DataTooShort, SaturationTooShort, ValueTooShort, WeightTooHeavy, NoWeight, BadKernel, NotANumber, NoWindow, WindowTooWide, StoreTooShort, ScratchTooShort, MagnitudesTooShort, BadState, NotAFrameLine, TooClose, ListFull, NotInList, NotAPlan, MedianTwice, MedianMissing}
use Rattle.refusal.specs.Refusal.{number_of}

pub positive : (why : Refusal) → 0 < number_of why
positive FrameTooLarge = omega arith
positive StrideTooShort = omega arith
positive DataTooShort = omega arith
positive SaturationTooShort = omega arith
positive ValueTooShort = omega arith
positive WeightTooHeavy = omega arith
positive NoWeight = omega arith
positive BadKernel = omega arith
positive NotANumber = omega arith
positive NoWindow = omega arith
positive WindowTooWide = omega arith
positive StoreTooShort = omega arith
positive ScratchTooShort = omega arith
positive MagnitudesTooShort = omega arith
positive BadState = omega arith
positive NotAFrameLine = omega arith
positive TooClose = omega arith
positive ListFull = omega arith
positive NotInList = omega arith
positive NotAPlan = omega arith
positive MedianTwice = omega arith
positive MedianMissing = omega arith
