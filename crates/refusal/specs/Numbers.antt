-- The numbers of the refusals, case by case.
--   number   the number of a refusal
--   place    the place that it names: the descriptor at fault for 13, the address for 17, else 0
--   code     the number that a call answers: 0 where it was accepted
use Rattle.std.specs.Prelude.{ℕ, Ok, Err, Result}
use Rattle.refusal.specs.declared.Refusal.{Refusal}
use Rattle.refusal.specs.declared.Refusal.TheVariants.{BadSize, BadTable, LayoutFull, BadBuffer, Shared, NoBuffer, OtherSize, BadRcon, Shut, UnderWay, NoArrival, NoFrame, Broken, ShortBuffer, NotTaken, NoRegister, Outside, SheetFull, AlreadyMember}

abbrev pub number : Refusal → ℕ
number BadSize = 1
number BadTable = 2
number LayoutFull = 3
number BadBuffer = 4
number Shared = 5
number NoBuffer = 6
number OtherSize = 7
number BadRcon = 8
number Shut = 9
number UnderWay = 10
number NoArrival = 11
number NoFrame = 12
number (Broken d) = 13
number ShortBuffer = 14
number NotTaken = 15
number NoRegister = 16
number (Outside a) = 17
number SheetFull = 18
number AlreadyMember = 19

abbrev pub place : Refusal → ℕ
place BadSize = 0
place BadTable = 0
place LayoutFull = 0
place BadBuffer = 0
place Shared = 0
place NoBuffer = 0
place OtherSize = 0
place BadRcon = 0
place Shut = 0
place UnderWay = 0
place NoArrival = 0
place NoFrame = 0
place (Broken d) = d
place ShortBuffer = 0
place NotTaken = 0
place NoRegister = 0
place (Outside a) = a
place SheetFull = 0
place AlreadyMember = 0

abbrev pub code : {X : Type 0} → Result X Refusal → ℕ
code (Ok x) = 0
code (Err e) = number e
