-- Buffers of board memory, and when they lie apart.
--   meets      two buffers share a byte
--   table_of   the receive table from one page up to another, as a buffer
--   shares     a buffer shares a byte with one of a list
--   fits       a buffer has a byte, none past the size, and none of the table's
--   sound      each of a list fits, and shares no byte with one before it
use Rattle.std.specs.Prelude.{ℕ, ◌+◌, ◌-◌, ◌*◌, Bool, true, false, not, ◌&&◌, ◌||◌, List, [], ◌∷◌, ◌++◌, nat_le, nat_lt}
use Rattle.memory.specs.declared.address.Page.{Page}
use Rattle.memory.specs.Pages.{page_start}
use Rattle.layout.specs.declared.buffer.Buffer.{Buffer}

abbrev pub meets : Buffer → Buffer → Bool
meets a b = nat_lt a.start.0 (b.start.0 + b.length) && nat_lt b.start.0 (a.start.0 + a.length)

abbrev pub table_of : Page → Page → Buffer
table_of f p = record { start = page_start f; length = (p.0 - f.0) * 256 }

abbrev pub shares : List Buffer → Buffer → Bool
shares [] x = false
shares (b ∷ bs) x = meets b x || shares bs x

abbrev pub fits : ℕ → Page → Page → Buffer → Bool
fits size f p b = nat_lt 0 b.length && nat_le (b.start.0 + b.length) size && not (meets (table_of f p) b)

abbrev pub sound : ℕ → Page → Page → List Buffer → List Buffer → Bool
sound size f p before [] = true
sound size f p before (b ∷ bs) = fits size f p b && not (shares before b) && sound size f p (before ++ b ∷ []) bs
