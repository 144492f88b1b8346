-- That the law over runs speaks of a run: one that keeps two frames, and misses an arrival.
--   bench_set          the addresses that the bench's station accepts
--   bytes_come         so many bytes of FFh
--   witness_calls      a frame is kept and taken; it is released while the next comes; the arrival after that is missed
--   witness_ledger     the ledger after these calls
--   witness_receipt    the frame that the take gave
--   witness_history    the history of these calls, from an open with a layout of the bench's shape
--   witness_board      the board after them
--   HasRuns            a layout with which an open is accepted, and these calls lead to that history and board
use Rattle.std.specs.Prelude.{◌≡◌, ℕ, Bool, true, false, List, [], ◌∷◌, ◌++◌, replicate}
use Rattle.recogniser.specs.Station.{station_members}
use Rattle.layout.specs.declared.layout.Layout.{Layout}
use Rattle.layout.specs.Layouts.{shape}
use Rattle.rules.specs.declared.state.LastByte.TheVariants.{Whole}
use Rattle.rules.specs.Views.{Shown}
use Rattle.rules.specs.Plan.{plan}
use Rattle.rules.specs.Calls.{Call, Receipt}
use Rattle.rules.specs.Calls.Call.{begins, byte_comes, ends, takes, releases}
use Rattle.rules.specs.Ledger.{Ledger}
use Rattle.rules.specs.Ledger.Arrival.{coming}
use Rattle.rules.specs.Explains.{History, starting}
use Rattle.rules.specs.Law.{Reached, history_after, board_after}
use Rattle.examples.specs.Example.{opened}
use Rattle.examples.specs.Examples.{bench_shape, bench_station}

abbrev pub bench_set : List ℕ → Bool
bench_set a = station_members bench_station a

abbrev pub bytes_come : ℕ → List Call
bytes_come n = replicate n (byte_comes 0xFF)

abbrev pub witness_calls : List Call
witness_calls =
    (begins ∷ []) ++ bytes_come 8 ++ (ends Whole ∷ takes 16 ∷ [])
    ++ (begins ∷ []) ++ bytes_come 5 ++ (releases 0 ∷ []) ++ bytes_come 3 ++ (ends Whole ∷ [])
    ++ (begins ∷ []) ++ bytes_come 6

abbrev pub witness_ledger : Ledger
witness_ledger = record {
  frames =
      record { buffers = 0 ∷ 1 ∷ []; bytes = replicate 8 0xFF; taken = true; released = true }
      ∷ record { buffers = 2 ∷ 0 ∷ []; bytes = replicate 8 0xFF; taken = false; released = false }
      ∷ [];
  arrival = coming (replicate 6 0xFF) (record { own = 1 ∷ []; filled = 4; missed = true });
  missed = true;
}

abbrev pub witness_receipt : Receipt
witness_receipt = record { first = 0; count = 2; bytes = replicate 8 0xFF; status = 0x21 }

abbrev pub witness_history : Layout → History
witness_history l = history_after (plan l 0x03) bench_set starting (opened bench_shape 0x03) witness_calls

abbrev pub witness_board : Shown
witness_board = board_after bench_set (opened bench_shape 0x03) witness_calls

pub record HasRuns : Type 0 where
  pub layout : Layout
  pub bench : shape layout ≡ bench_shape
  pub reached : Reached layout 0x03 bench_set (witness_history layout) witness_board
  pub ledger : (witness_history layout).ledger ≡ witness_ledger
  pub given : (witness_history layout).given ≡ witness_receipt ∷ []
