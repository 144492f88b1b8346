use Rattle.std.proofs.Common.{◌≡◌, ℕ, Bool, List, sym, ap, ◌∙◌}
use Rattle.crc.specs.Crc.{crc_byte}
use Rattle.rules.specs.declared.state.Event.{Event}
use Rattle.rules.specs.declared.state.Event.TheVariants.{Byte}
use Rattle.rules.specs.declared.state.Setup.{Setup}
use Rattle.rules.specs.Views.{View}
use Rattle.rules.specs.Arrivals.{handled, arrives}
use Rattle.rules.proofs.CrcLast.{set_crc, crc_runs_last}
use Rattle.board.specs.Shown.{seen}
use Rattle.board.proofs.chip.Chip.arrive.Goals as goal

-- y is what a byte has left, before the register ran over it
byte_last : (g : Setup) (among : List ℕ → Bool) (x y : View) (v register : ℕ) (event : Event) → event ≡ Byte v →
    y ≡ handled g among x x.state.phase event → register ≡ crc_byte y.state.crc v → set_crc y register ≡ arrives g among x event
byte_last g among x y v register event is done ran =
    let done_byte : y ≡ handled g among x x.state.phase (Byte v) = done ∙ ap (handled g among x x.state.phase) is in
    ap (set_crc y) ran ∙ ap (λ (z : View). set_crc z (crc_byte z.state.crc v)) done_byte
    ∙ sym (crc_runs_last g among x v) ∙ ap (arrives g among x) (sym is)

pub returns-in-Byte : goal.returns-in-Byte
returns-in-Byte g c =
    let bytes = g.M.Memory.bytes in
    byte_last c.args.g.now (g.R.Recogniser.members c.args.r.now) (seen bytes c.args.self.now)
    (seen bytes c.handle.new.self) c.in-Byte.value _ c.args.event c.in-Byte.is c.handle.ensures c.byte-self.ensures.value
