-- What an accepted open fixes, and the order of its buffers.
--   Plan       a layout's shape and RCON
--   plan       what an open of a layout fixes
--   number     how many buffers it has
--   summary    what the board keeps of it
--   buffer     the buffer of a descriptor
--   after      the buffer after the last of a list, or e where the list is empty
--   latest     the last of a list, or e where it is empty
--   times      how often a buffer stands in a list
--   row        so many buffers in order, from one on
use Rattle.std.specs.Prelude.{ℕ, zero, suc, ◌+◌, List, [], ◌∷◌, length, ◌==◌, slice_index_or, if◌then◌else◌}
use Rattle.layout.specs.declared.buffer.Buffer.{Buffer}
use Rattle.layout.specs.declared.layout.Layout.{Layout}
use Rattle.layout.specs.Layouts.{Shape, shape}
use Rattle.rules.specs.declared.state.Setup.{Setup}
use Rattle.rules.specs.Opening.{setup_of}
use Rattle.rules.specs.Table.{next as following}

pub record Plan : Type 0 where
  pub shape : Shape
  pub rcon : ℕ

abbrev pub plan : Layout → ℕ → Plan
plan l rcon = record { shape = shape l; rcon = rcon }

abbrev pub number : Plan → ℕ
number s = length s.shape.buffers

abbrev pub summary : Plan → Setup
summary s = setup_of s.shape s.rcon

abbrev pub buffer : Plan → ℕ → Buffer
buffer s d = slice_index_or s.shape.buffers d (record { start = record { 0 = 0 }; length = 0 })

abbrev pub next : Plan → ℕ → ℕ
next s d = following (summary s) d

abbrev pub after : Plan → List ℕ → ℕ → ℕ
after s [] e = e
after s (d ∷ ds) e = after s ds (next s d)

abbrev pub latest : List ℕ → ℕ → ℕ
latest [] e = e
latest (d ∷ ds) e = latest ds d

abbrev pub times : ℕ → List ℕ → ℕ
times d [] = 0
times d (e ∷ es) = (if d == e then 1 else 0) + times d es

abbrev pub row : Plan → ℕ → ℕ → List ℕ
row s d zero = []
row s d (suc k) = d ∷ row s (next s d) k
