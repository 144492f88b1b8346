-- What the register calls and cause do.
--   readable, writable           the register at an address of a page, for a read and for a write
--   register_value               what a register holds
--   read_state                   the state after a read: reading a counter sets it to 0
--   written_state                the state after a write
--   read_answer, read_after      what a read answers and leaves; write_answer, write_after the same of a write
--   lowest_both                  the lowest bit that is set in two bytes
--   cause_answer                 what cause answers
use Rattle.std.specs.Prelude.{ℕ, zero, suc, ◌+◌, ◌-◌, ◌%◌, ◌&&◌, Some, None, Ok, Err, Option, Result, ◌==◌, bit_and, if◌then◌else◌}
use Rattle.refusal.specs.declared.Refusal.{Refusal}
use Rattle.refusal.specs.declared.Refusal.TheVariants.{Shut, NoRegister}
use Rattle.rules.specs.declared.state.Setup.{Setup}
use Rattle.rules.specs.declared.state.State.{State}
use Rattle.rules.specs.declared.state.Register.{Register}
use Rattle.rules.specs.declared.state.Register.TheVariants.{IntStat, RStat, AliCnt, CrcCnt, MpCnt, RBegin, REnd, RCon, IntMask}
use Rattle.rules.specs.Bits.{has}
use Rattle.rules.specs.Views.{Shown, view, with_view, with_registers, with_intstat, with_intmask, with_alicnt, with_crccnt, with_mpcnt}

abbrev pub readable : ℕ → ℕ → Option Register
readable page at =
    if page == 0 then (
    if at == 0x17 then Some IntStat
    else if at == 0x1C then Some RStat
    else if at == 0x1D then Some AliCnt
    else if at == 0x1E then Some CrcCnt
    else if at == 0x1F then Some MpCnt
    else None
    )
    else if page == 2 then (
    if at == 0x11 then Some RBegin
    else if at == 0x12 then Some REnd
    else if at == 0x1C then Some RCon
    else if at == 0x1F then Some IntMask
    else None
    )
    else None

abbrev pub writable : ℕ → ℕ → Option Register
writable page at =
    if page == 0 then (if at == 0x17 then Some IntStat else if at == 0x1F then Some IntMask else None)
    else None

abbrev pub register_value : Setup → State → Register → ℕ
register_value g s IntStat = s.registers.intstat
register_value g s RStat = s.registers.rstat
register_value g s AliCnt = s.registers.alicnt
register_value g s CrcCnt = s.registers.crccnt
register_value g s MpCnt = s.registers.mpcnt
register_value g s RBegin = g.rbegin.0
register_value g s REnd = g.rend.0
register_value g s RCon = g.rcon
register_value g s IntMask = s.registers.intmask

abbrev pub read_state : State → Register → State
read_state s IntStat = s
read_state s RStat = s
read_state s AliCnt = with_registers s (with_alicnt s.registers 0)
read_state s CrcCnt = with_registers s (with_crccnt s.registers 0)
read_state s MpCnt = with_registers s (with_mpcnt s.registers 0)
read_state s RBegin = s
read_state s REnd = s
read_state s RCon = s
read_state s IntMask = s

-- INTSTAT loses the bits written as 1; INTMASK becomes bits 0 to 6
abbrev pub written_state : State → Register → ℕ → State
written_state s IntStat v = with_registers s (with_intstat s.registers (bit_and s.registers.intstat (255 - v)))
written_state s RStat v = s
written_state s AliCnt v = s
written_state s CrcCnt v = s
written_state s MpCnt v = s
written_state s RBegin v = s
written_state s REnd v = s
written_state s RCon v = s
written_state s IntMask v = with_registers s (with_intmask s.registers (v % 128))

abbrev pub value_at : Setup → State → Option Register → Result ℕ Refusal
value_at g s None = Err NoRegister
value_at g s (Some r) = Ok (register_value g s r)

abbrev pub state_read : State → Option Register → State
state_read s None = s
state_read s (Some r) = read_state s r

abbrev pub found : Option Register → Result (Unit {0}) Refusal
found None = Err NoRegister
found (Some r) = Ok tt

abbrev pub state_written : State → Option Register → ℕ → State
state_written s None v = s
state_written s (Some r) v = written_state s r v

abbrev pub read_answer : Shown → ℕ → ℕ → Result ℕ Refusal
read_answer b page at = if b.shut then Err Shut else value_at b.setup b.view.state (readable page at)

abbrev pub read_after : Shown → ℕ → ℕ → Shown
read_after b page at =
    if b.shut then b
    else with_view b (view b.view.memory (state_read b.view.state (readable page at)))

abbrev pub write_answer : Shown → ℕ → ℕ → Result (Unit {0}) Refusal
write_answer b page at = if b.shut then Err Shut else found (writable page at)

abbrev pub write_after : Shown → ℕ → ℕ → ℕ → Shown
write_after b page at v =
    if b.shut then b
    else with_view b (view b.view.memory (state_written b.view.state (writable page at) v))

-- of the k bits from i on
abbrev pub lowest_from : ℕ → ℕ → ℕ → ℕ → Option ℕ
lowest_from a b i zero = None
lowest_from a b i (suc k) = if has i a && has i b then Some i else lowest_from a b (i + 1) k

abbrev pub lowest_both : ℕ → ℕ → Option ℕ
lowest_both a b = lowest_from a b 0 8

abbrev pub cause_answer : Shown → Result (Option ℕ) Refusal
cause_answer b =
    if b.shut then Err Shut
    else Ok (lowest_both b.view.state.registers.intstat b.view.state.registers.intmask)
