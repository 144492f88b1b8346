-- What a board is, by what its memory means.
--   View        the memory's bytes, and the registers, places and arrival
--   Shown       all of a board: whether it is shut, what its open fixed, and its view
--   with_..     a state or registers with one part replaced
--   idle        whether no arrival is under way
--   accepted    whether a call was accepted
--   on          what an answered call leaves: an accepted one the view given, a refused one all as it was
use Rattle.std.specs.Prelude.{ℕ, Bool, true, false, List, Ok, Err, Result}
use Rattle.refusal.specs.declared.Refusal.{Refusal}
use Rattle.rules.specs.declared.state.Setup.{Setup}
use Rattle.rules.specs.declared.state.Registers.{Registers}
use Rattle.rules.specs.declared.state.State.{State}
use Rattle.rules.specs.declared.state.Phase.{Phase}
use Rattle.rules.specs.declared.state.Phase.TheVariants.{Idle, Address, Storing, Ignored, Missed}

pub record View : Type 0 where
  pub memory : List ℕ
  pub state : State

abbrev pub view : List ℕ → State → View
view m s = record { memory = m; state = s }

pub record Shown : Type 0 where
  pub shut : Bool
  pub setup : Setup
  pub view : View

abbrev pub with_view : Shown → View → Shown
with_view b x = record { shut = b.shut; setup = b.setup; view = x }

abbrev pub with_phase : State → Phase → State
with_phase s p = record { registers = s.registers; curr = s.curr; host = s.host; crc = s.crc; phase = p }

abbrev pub with_registers : State → Registers → State
with_registers s r = record { registers = r; curr = s.curr; host = s.host; crc = s.crc; phase = s.phase }

abbrev pub with_crc : State → ℕ → State
with_crc s r = record { registers = s.registers; curr = s.curr; host = s.host; crc = r; phase = s.phase }

abbrev pub with_host : State → ℕ → State
with_host s d = record { registers = s.registers; curr = s.curr; host = d; crc = s.crc; phase = s.phase }

abbrev pub with_rstat : Registers → ℕ → Registers
with_rstat r n = record { rstat = n; intstat = r.intstat; intmask = r.intmask; alicnt = r.alicnt; crccnt = r.crccnt; mpcnt = r.mpcnt }

abbrev pub with_intstat : Registers → ℕ → Registers
with_intstat r n = record { rstat = r.rstat; intstat = n; intmask = r.intmask; alicnt = r.alicnt; crccnt = r.crccnt; mpcnt = r.mpcnt }

abbrev pub with_intmask : Registers → ℕ → Registers
with_intmask r n = record { rstat = r.rstat; intstat = r.intstat; intmask = n; alicnt = r.alicnt; crccnt = r.crccnt; mpcnt = r.mpcnt }

abbrev pub with_alicnt : Registers → ℕ → Registers
with_alicnt r n = record { rstat = r.rstat; intstat = r.intstat; intmask = r.intmask; alicnt = n; crccnt = r.crccnt; mpcnt = r.mpcnt }

abbrev pub with_crccnt : Registers → ℕ → Registers
with_crccnt r n = record { rstat = r.rstat; intstat = r.intstat; intmask = r.intmask; alicnt = r.alicnt; crccnt = n; mpcnt = r.mpcnt }

abbrev pub with_mpcnt : Registers → ℕ → Registers
with_mpcnt r n = record { rstat = r.rstat; intstat = r.intstat; intmask = r.intmask; alicnt = r.alicnt; crccnt = r.crccnt; mpcnt = n }

abbrev pub idle : Phase → Bool
idle Idle = true
idle (Address a n) = false
idle (Storing t) = false
idle Ignored = false
idle Missed = false

abbrev pub accepted : {X : Type 0} → Result X Refusal → Bool
accepted (Ok x) = true
accepted (Err e) = false

abbrev pub on : {X : Type 0} → Result X Refusal → Shown → View → Shown
on (Ok y) b x = with_view b x
on (Err e) b x = b
