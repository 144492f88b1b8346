-- A board before its first open, and what open does.
--   shut_board              a board that was never opened
--   describe_one            the memory with a descriptor written for a buffer: free, status and fill 0
--   described               the memory with one for each buffer, from d on
--   open_answer             what open answers
--   setup_of, opened_state  what it fixes, and the state that it starts from
--   open_after              what it leaves
use Rattle.std.specs.Prelude.{ℕ, ◌+◌, ◌*◌, ◌/◌, ◌%◌, true, false, List, [], ◌∷◌, length, Ok, Err, Result, ◌==◌, nat_lt, slice_set, if◌then◌else◌}
use Rattle.refusal.specs.declared.Refusal.{Refusal}
use Rattle.refusal.specs.declared.Refusal.TheVariants.{NoBuffer, OtherSize, BadRcon}
use Rattle.layout.specs.declared.buffer.Buffer.{Buffer}
use Rattle.layout.specs.Layouts.{Shape}
use Rattle.rules.specs.declared.state.Setup.{Setup}
use Rattle.rules.specs.declared.state.State.{State}
use Rattle.rules.specs.declared.state.Phase.TheVariants.{Idle}
use Rattle.rules.specs.Views.{Shown, view}

-- all eight bytes
unfoldable pub describe_at : List ℕ → ℕ → Buffer → List ℕ
describe_at m p b =
    slice_set (slice_set (slice_set (slice_set (slice_set (slice_set (slice_set (slice_set m p 0) (p + 1) 0)
    (p + 2) (b.start.0 % 256)) (p + 3) (b.start.0 / 256 % 256))
    (p + 4) (b.length % 256)) (p + 5) (b.length / 256 % 256)) (p + 6) 0) (p + 7) 0

abbrev pub describe_one : ℕ → List ℕ → ℕ → Buffer → List ℕ
describe_one rbegin m d b = describe_at m (rbegin * 256 + 8 * d) b

unfoldable pub described : ℕ → List ℕ → ℕ → List Buffer → List ℕ
described rbegin m d [] = m
described rbegin m d (b ∷ bs) = described rbegin (describe_one rbegin m d b) (d + 1) bs

-- bits 0 and 1 of RCON are all that it has
abbrev pub open_answer : ℕ → Shape → ℕ → Result (Unit {0}) Refusal
open_answer size l rcon =
    if length l.buffers == 0 then Err NoBuffer
    else if l.size == size then (if nat_lt rcon 4 then Ok tt else Err BadRcon)
    else Err OtherSize

abbrev pub setup_of : Shape → ℕ → Setup
setup_of l rcon = record { size = l.size; rbegin = l.rbegin; rend = l.rend; count = length l.buffers; rcon = rcon }

abbrev pub opened_state : State
opened_state = record {
  registers = record { rstat = 0; intstat = 0; intmask = 0; alicnt = 0; crccnt = 0; mpcnt = 0 };
  curr = 0;
  host = 0;
  crc = 0;
  phase = Idle;
}

abbrev pub no_setup : Setup
no_setup = record { size = 0; rbegin = record { 0 = 0 }; rend = record { 0 = 0 }; count = 0; rcon = 0 }

abbrev pub shut_board : List ℕ → Shown
shut_board m = record { shut = true; setup = no_setup; view = view m opened_state }

abbrev pub open_after : Result (Unit {0}) Refusal → Shown → Shape → ℕ → Shown
open_after (Ok u) b l rcon =
    record { shut = false; setup = setup_of l rcon; view = view (described l.rbegin.0 b.view.memory 0 l.buffers) opened_state }
open_after (Err e) b l rcon = b
