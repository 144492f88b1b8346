-- What the line's calls do: begin, byte, end and abort.
--   count_up, noted, counted             a count, INTSTAT after a count that leaves n, and a count in MPCNT
--   began                                a new arrival
--   missed                               the arrival is missed: MPA, OVW, and a count in MPCNT
--   wanted                               the descriptor that a byte without a place needs: CURR first
--   store                                one byte at the next unused place of the latest buffer
--   store_fresh                          one byte in the next buffer, or the arrival is missed
--   store_all                            bytes in turn, while the arrival is storing
--   recognised, sixth, address_byte      a byte of the address; the recogniser is asked at the sixth
--   address_in                           the same, in the phase address alone
--   matched, mismatched                  the registers after the CRC is judged
--   kept, finished                       an arrival that is kept, and the end of a storing arrival
--   overrun                              the abort of a storing arrival by an overrun
--   handled                              what an event does in the phase that it finds
--   begin_answer, event_answer           what begin, and what byte, end and abort answer
--   begin_after, event_after             what begin leaves, and what byte, end and abort leave
use Rattle.std.specs.Prelude.{ℕ, ◌+◌, min, Bool, true, not, ◌&&◌, List, [], ◌∷◌, Ok, Err, Result, ◌==◌, nat_le, nat_lt, slice_index, slice_set, if◌then◌else◌}
use Rattle.refusal.specs.declared.Refusal.{Refusal}
use Rattle.refusal.specs.declared.Refusal.TheVariants.{Shut, UnderWay, NoArrival}
use Rattle.crc.specs.Crc.{crc_byte, start, residue}
use Rattle.rules.specs.declared.state.Setup.{Setup}
use Rattle.rules.specs.declared.state.Registers.{Registers}
use Rattle.rules.specs.declared.state.Descriptor.{Descriptor}
use Rattle.rules.specs.declared.state.Stored.{Stored}
use Rattle.rules.specs.declared.state.State.{State}
use Rattle.rules.specs.declared.state.Phase.{Phase}
use Rattle.rules.specs.declared.state.Phase.TheVariants.{Idle, Address, Storing, Ignored, Missed}
use Rattle.rules.specs.declared.state.LastByte.{LastByte}
use Rattle.rules.specs.declared.state.LastByte.TheVariants.{Whole, Ragged}
use Rattle.rules.specs.declared.state.Fault.TheVariants.{Collision, Overrun}
use Rattle.rules.specs.declared.state.Event.{Event}
use Rattle.rules.specs.declared.state.Event.TheVariants.{Byte, End, Abort}
use Rattle.rules.specs.Bits.{has, with_bit, GROUP, MPA, OVER, FAE, CRC, PRX, CNT, OVW, RXE, SEP, RUNTS, high_count, shortest_frame}
use Rattle.rules.specs.Table.{next, descriptor, held, lawful, keep_run}
use Rattle.rules.specs.Views.{View, view, Shown, with_phase, with_registers, with_crc, with_rstat, with_intstat, with_alicnt, with_crccnt, with_mpcnt, idle, on}

-- a counter at 255 stays there
abbrev pub count_up : ℕ → ℕ
count_up n = min (n + 1) 255

abbrev pub noted : ℕ → ℕ → ℕ
noted n intstat = if nat_le high_count n then with_bit CNT intstat else intstat

abbrev pub began : State → State
began s = record {
  registers = with_rstat s.registers 0;
  curr = s.curr;
  host = s.host;
  crc = start;
  phase = Address (0 ∷ 0 ∷ 0 ∷ 0 ∷ 0 ∷ 0 ∷ []) 0;
}

-- a count in MPCNT, which sets a bit of INTSTAT
abbrev pub counted : ℕ → Registers → Registers
counted bit r = with_mpcnt (with_intstat r (noted (count_up r.mpcnt) (with_bit bit r.intstat))) (count_up r.mpcnt)

abbrev pub missed_registers : Registers → Registers
missed_registers r = counted OVW (with_rstat r (with_bit MPA r.rstat))

abbrev pub missed : State → State
missed s = with_phase (with_registers s (missed_registers s.registers)) Missed

abbrev pub wanted : Setup → State → Stored → ℕ
wanted g s t = if t.used == 0 then s.curr else next g t.latest

-- its descriptors are the `used` from CURR on, so the next is its own where it has all of them
abbrev pub free_for : Setup → Stored → Descriptor → Bool
free_for g t e = nat_lt t.used g.count && not (held e) && lawful g e

-- one byte more in the latest buffer
abbrev pub further : Stored → Stored
further t = record { used = t.used; latest = t.latest; start = t.start; length = t.length; filled = t.filled + 1; total = count_up t.total }

-- one byte in the buffer of d
abbrev pub entering : Stored → ℕ → Descriptor → Stored
entering t d e = record { used = t.used + 1; latest = d; start = e.start; length = e.length; filled = 1; total = count_up t.total }

abbrev pub store_fresh : Setup → View → Stored → ℕ → View
store_fresh g x t v =
    let d = wanted g x.state t in
    let e = descriptor g x.memory d in
    if free_for g t e then view (slice_set x.memory e.start v) (with_phase x.state (Storing (entering t d e)))
    else view x.memory (missed x.state)

abbrev pub store : Setup → View → Stored → ℕ → View
store g x t v =
    if nat_lt t.filled t.length then view (slice_set x.memory (t.start + t.filled) v) (with_phase x.state (Storing (further t)))
    else store_fresh g x t v

abbrev pub store_in : Setup → View → Phase → ℕ → View
store_in g x Idle v = x
store_in g x (Address a n) v = x
store_in g x (Storing t) v = store g x t v
store_in g x Ignored v = x
store_in g x Missed v = x

unfoldable pub store_all : Setup → View → List ℕ → View
store_all g x [] = x
store_all g x (v ∷ vs) = store_all g (store_in g x x.state.phase v) vs

-- nothing is stored yet: the first byte has no place
abbrev pub unstored : Stored
unstored = record { used = 0; latest = 0; start = 0; length = 0; filled = 0; total = 0 }

-- GROUP goes by the first byte of the address
abbrev pub grouped : List ℕ → ℕ → ℕ
grouped a rstat = if has 0 (slice_index a 0) then with_bit GROUP rstat else rstat

abbrev pub recognised_state : State → List ℕ → State
recognised_state s a = with_phase (with_registers s (with_rstat s.registers (grouped a s.registers.rstat))) (Storing unstored)

abbrev pub recognised : Setup → View → List ℕ → View
recognised g x a = store_all g (view x.memory (recognised_state x.state a)) a

abbrev pub sixth : Setup → (List ℕ → Bool) → View → List ℕ → View
sixth g among x a = if among a then recognised g x a else view x.memory (with_phase x.state Ignored)

abbrev pub address_byte : Setup → (List ℕ → Bool) → View → List ℕ → ℕ → ℕ → View
address_byte g among x a n v =
    if nat_lt n 5 then view x.memory (with_phase x.state (Address (slice_set a n v) (n + 1)))
    else sixth g among x (slice_set a 5 v)

-- in the phase address alone
abbrev pub address_in : Setup → (List ℕ → Bool) → View → Phase → ℕ → View
address_in g among x Idle v = x
address_in g among x (Address a n) v = address_byte g among x a n v
address_in g among x (Storing t) v = x
address_in g among x Ignored v = x
address_in g among x Missed v = x

-- the arrival is over, and nothing else
abbrev pub over : View → View
over x = view x.memory (with_phase x.state Idle)

abbrev pub matched : Registers → Registers
matched r = with_intstat (with_rstat r (with_bit PRX r.rstat)) (with_bit PRX r.intstat)

abbrev pub mismatched : LastByte → Registers → Registers
mismatched Ragged r =
    with_intstat (with_alicnt (with_rstat r (with_bit FAE r.rstat)) (count_up r.alicnt)) (noted (count_up r.alicnt) r.intstat)
mismatched Whole r =
    with_intstat (with_crccnt (with_rstat r (with_bit CRC r.rstat)) (count_up r.crccnt)) (noted (count_up r.crccnt) r.intstat)

abbrev pub with_rxe : Registers → Registers
with_rxe r = with_intstat r (with_bit RXE r.intstat)

-- kept, with the registers r
abbrev pub kept : Setup → View → Stored → Registers → View
kept g x t r =
    view (keep_run g x.memory x.state.curr t.filled r.rstat true t.used)
    (record { registers = r; curr = next g t.latest; host = x.state.host; crc = x.state.crc; phase = Idle })

abbrev pub is_runt : Setup → Stored → Bool
is_runt g t = nat_lt t.total shortest_frame && not (has RUNTS g.rcon)

abbrev pub finished : Setup → View → Stored → LastByte → View
finished g x t l =
    let r = x.state.registers in
    if is_runt g t then over x
    else if x.state.crc == residue then kept g x t (matched r)
    else if has SEP g.rcon then kept g x t (with_rxe (mismatched l r))
    else over (view x.memory (with_registers x.state (mismatched l r)))

abbrev pub overrun_registers : Registers → Registers
overrun_registers r = counted RXE (with_rstat r (with_bit OVER r.rstat))

abbrev pub overrun : State → State
overrun s = with_phase (with_registers s (overrun_registers s.registers)) Idle

abbrev pub handled : Setup → (List ℕ → Bool) → View → Phase → Event → View
handled g among x Idle (Byte v) = x
handled g among x Idle (End l) = over x
handled g among x Idle (Abort f) = over x
handled g among x (Address a n) (Byte v) = address_byte g among x a n v
handled g among x (Address a n) (End l) = over x
handled g among x (Address a n) (Abort f) = over x
handled g among x (Storing t) (Byte v) = store g x t v
handled g among x (Storing t) (End l) = finished g x t l
handled g among x (Storing t) (Abort Collision) = over x
handled g among x (Storing t) (Abort Overrun) = view x.memory (overrun x.state)
handled g among x Ignored (Byte v) = x
handled g among x Ignored (End l) = over x
handled g among x Ignored (Abort f) = over x
handled g among x Missed (Byte v) = x
handled g among x Missed (End l) = over x
handled g among x Missed (Abort f) = over x

-- an event in the phase that it finds; a byte runs the CRC register first
abbrev pub arrives : Setup → (List ℕ → Bool) → View → Event → View
arrives g among x (Byte v) = handled g among (view x.memory (with_crc x.state (crc_byte x.state.crc v))) x.state.phase (Byte v)
arrives g among x (End l) = handled g among x x.state.phase (End l)
arrives g among x (Abort f) = handled g among x x.state.phase (Abort f)

abbrev pub begin_answer : Shown → Result (Unit {0}) Refusal
begin_answer b = if b.shut then Err Shut else if idle b.view.state.phase then Ok tt else Err UnderWay

abbrev pub event_answer : Shown → Result (Unit {0}) Refusal
event_answer b = if b.shut then Err Shut else if idle b.view.state.phase then Err NoArrival else Ok tt

abbrev pub begin_after : Shown → Shown
begin_after b = on (begin_answer b) b (view b.view.memory (began b.view.state))

abbrev pub event_after : (List ℕ → Bool) → Shown → Event → Shown
event_after among b e = on (event_answer b) b (arrives b.setup among b.view e)
