-- A run that the law speaks of.
use Rattle.std.proofs.Common.{ℕ, Bool, List, [], ◌∷◌, ◌++◌, replicate, refl, lit≤}
use Rattle.crc.specs.Crc.{crc_bits, crc_byte, crc_over}
use Rattle.layout.specs.declared.layout.Layout.{Layout}
use Rattle.rules.specs.Table.{next, descriptor_at, lawful, write_at, run_on, span, frame_bytes}
use Rattle.rules.specs.Views.{Shown}
use Rattle.rules.specs.Arrivals.{store_all}
use Rattle.rules.specs.Opening.{describe_at, described, shut_board}
use Rattle.rules.specs.Plan.{plan}
use Rattle.rules.specs.Calls.{Call}
use Rattle.rules.specs.Ledger.{fill_one, recognised}
use Rattle.rules.specs.Explains.{History}
use Rattle.rules.specs.Law.{Reached, history_after, board_after}
use Rattle.rules.specs.Law.Reached.{at_open, by_call}
use Rattle.examples.specs.Example.{memory}
use Rattle.examples.specs.Examples.{buffer, bench_shape}
use Rattle.examples.specs.Witness.{bench_set, witness_calls, HasRuns}

bench_layout : Layout
bench_layout = record {
  size = 512;
  rbegin = record { 0 = 0 };
  rend = record { 0 = 1 };
  count = 3;
  buffers = bench_shape.buffers ++ replicate 61 (buffer 0 0);
  few = (lit≤ tt, lit≤ tt, lit≤ tt);
  apart = refl;
  within = (lit≤ tt, lit≤ tt);
}

module _ (l : Layout) (rcon : ℕ) (among : List ℕ → Bool) where
  reached_after : (cs : List Call) {h : History} {b : Shown} → Reached l rcon among h b →
      Reached l rcon among (history_after (plan l rcon) among h b cs) (board_after among b cs)
  reached_after [] r = r
  reached_after (c ∷ cs) r = reached_after cs (by_call c r)

pub has_runs : HasRuns
unfolding bench_layout crc_bits crc_byte crc_over next descriptor_at lawful write_at run_on span frame_bytes store_all describe_at described fill_one recognised
has_runs = record {
  layout = bench_layout;
  bench = refl;
  reached = reached_after bench_layout 0x03 bench_set witness_calls (at_open (shut_board memory) refl);
  ledger = refl;
  given = refl;
}
