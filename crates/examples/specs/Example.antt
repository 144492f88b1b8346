-- What an example is, and what it says of the rules.
--   Step        a call and the outcome that it must have, or a register and the value that it must hold then
--   Example     a run of a board, what bytes are as an address and as a frame, or buffers added to a layout
--   memory      512 bytes of 0
--   opened      a board over that memory, right after an accepted open
--   replayed    the steps of a run, with the outcomes and the values that the rules give
--   re_added    the buffers added, with the outcomes that the rules give
--   Holds       an example says what the rules give
use Rattle.std.specs.Prelude.{◌≡◌, ℕ, Bool, List, [], ◌∷◌, length, replicate, Ok, ◌==◌}
use Rattle.crc.specs.Crc.{crc_over, start, residue}
use Rattle.recogniser.specs.declared.station.Station.{Station}
use Rattle.recogniser.specs.Station.{group_index, station_members}
use Rattle.layout.specs.declared.buffer.Buffer.{Buffer}
use Rattle.layout.specs.Layouts.{Shape, add_answer, added}
use Rattle.rules.specs.declared.state.Register.{Register}
use Rattle.rules.specs.Views.{Shown}
use Rattle.rules.specs.Opening.{shut_board, open_answer, open_after}
use Rattle.rules.specs.Registers.{register_value}
use Rattle.rules.specs.Calls.{Call, Outcome}
use Rattle.rules.specs.Law.{plainly, answers, steps}

pub data Step : Type 0 where
  does : Call → Outcome → Step
  holds : Register → ℕ → Step

pub data Example : Type 0 where
  run : Shape → ℕ → Station → List Step → Example  -- a layout's shape, RCON, a station, and the steps from the open on
  address : List ℕ → ℕ → Bool → Example  -- bytes, their group index, and whether they match as a frame
  additions : Shape → List (Buffer × Outcome) → Example  -- a layout's shape, and buffers with what each add answers

abbrev pub memory : List ℕ
memory = replicate 512 0

abbrev pub opened : Shape → ℕ → Shown
opened l rcon = open_after (Ok tt) (shut_board memory) l rcon

abbrev pub replayed : (List ℕ → Bool) → Shown → List Step → List Step
replayed among b [] = []
replayed among b (does c o ∷ ss) = does c (answers b c) ∷ replayed among (steps among b c) ss
replayed among b (holds r v ∷ ss) = holds r (register_value b.setup b.view.state r) ∷ replayed among b ss

abbrev pub re_added : Shape → List (Buffer × Outcome) → List (Buffer × Outcome)
re_added l [] = []
re_added l (x ∷ xs) = (x.0, plainly (add_answer l x.0)) ∷ re_added (added (add_answer l x.0) l x.0) xs

abbrev pub Holds : Example → Type 0
Holds (run l rcon station ss) =
    (open_answer (length memory) l rcon ≡ Ok tt) × (replayed (station_members station) (opened l rcon) ss ≡ ss)
Holds (address bytes index matches) = (group_index bytes ≡ index) × ((crc_over start bytes == residue) ≡ matches)
Holds (additions l xs) = re_added l xs ≡ xs
