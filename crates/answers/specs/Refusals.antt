-- Documents 01 and 02: "one refusal number". The number of each cause.
use Rattle.std.specs.Prelude.{ℕ, Result, Ok, Err}
use Rattle.answers.specs.declared.Refusal as Causes
use Rattle.answers.specs.declared.Refusal.{Refusal}

abbrev pub number : Refusal → ℕ
number Causes.TheVariants.Side = 1
number Causes.TheVariants.Tree = 2
number Causes.TheVariants.NumbersLength = 3
number Causes.TheVariants.CoefficientLimit = 4
number Causes.TheVariants.PassiveNotZero = 5
number Causes.TheVariants.Point = 6
number Causes.TheVariants.Box = 7
number Causes.TheVariants.Level = 8
number Causes.TheVariants.Function = 9
number Causes.TheVariants.NumberLimit = 10
number Causes.TheVariants.Tariff = 11
number Causes.TheVariants.FileEnds = 12
number Causes.TheVariants.FileTag = 13
number Causes.TheVariants.FileFieldLength = 14
number Causes.TheVariants.FileGoesOn = 15
number Causes.TheVariants.OutputLength = 16
number Causes.TheVariants.TreeOutputShort = 17
number Causes.TheVariants.FileOutputShort = 18
number Causes.TheVariants.Slip = 19
number Causes.TheVariants.FileCount = 20
number Causes.TheVariants.NoTable = 21
number Causes.TheVariants.Window = 22
number Causes.TheVariants.Record = 23

-- the cause that a test finds, 0 where it finds none
abbrev pub cause_of : {A : Type 0} → Result A Refusal → ℕ
cause_of (Ok a) = 0
cause_of (Err e) = number e
