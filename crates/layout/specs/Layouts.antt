-- What a layout is, and what its calls answer and leave.
--   Shape          a memory size, the pages of a receive table, and the buffers in their order
--   shape          what a layout holds
--   blank          no table and no buffer
--   good_size      the sizes that a memory may have
--   table_answer   what `table` answers; tabled, what it leaves
--   add_answer     what `add` answers; added, what it leaves
use Rattle.std.specs.Prelude.{ℕ, ◌+◌, ◌-◌, ◌*◌, ◌%◌, Bool, ◌&&◌, ◌||◌, List, [], ◌∷◌, ◌++◌, length, take, Ok, Err, Result, ◌==◌, nat_le, nat_lt, if◌then◌else◌}
use Rattle.refusal.specs.declared.Refusal.{Refusal}
use Rattle.refusal.specs.declared.Refusal.TheVariants.{BadSize, BadTable, LayoutFull, BadBuffer, Shared}
use Rattle.memory.specs.declared.address.Page.{Page}
use Rattle.memory.specs.Pages.{page_start}
use Rattle.layout.specs.declared.buffer.Buffer.{Buffer}
use Rattle.layout.specs.declared.layout.Layout.{Layout}
use Rattle.layout.specs.Buffers.{meets, shares, table_of}

pub record Shape : Type 0 where
  pub size : ℕ
  pub rbegin : Page
  pub rend : Page
  pub buffers : List Buffer

abbrev pub shape : Layout → Shape
shape l = record { size = l.size; rbegin = l.rbegin; rend = l.rend; buffers = take l.count l.buffers }

abbrev pub blank : Shape
blank = record { size = 0; rbegin = record { 0 = 0 }; rend = record { 0 = 0 }; buffers = [] }

-- a multiple of 256 from 512 to 65,536
abbrev pub good_size : ℕ → Bool
good_size size = size % 256 == 0 && nat_le 512 size && nat_le size 65536

abbrev pub table_answer : ℕ → Page → Page → Result (Unit {0}) Refusal
table_answer size f p =
    if good_size size then (
    if nat_le p.0 f.0 || nat_lt 2 (p.0 - f.0) || nat_lt size (page_start p).0 then Err BadTable
    else Ok tt
    )
    else Err BadSize

abbrev pub tabled : Result (Unit {0}) Refusal → Shape → ℕ → Page → Page → Shape
tabled (Ok u) l size f p = record { size = size; rbegin = f; rend = p; buffers = [] }
tabled (Err e) l size f p = l

-- a table page has 32 descriptors
abbrev pub add_answer : Shape → Buffer → Result (Unit {0}) Refusal
add_answer l x =
    if nat_le (32 * (l.rend.0 - l.rbegin.0)) (length l.buffers) then Err LayoutFull
    else if x.length == 0 || nat_lt l.size (x.start.0 + x.length) then Err BadBuffer
    else if meets (table_of l.rbegin l.rend) x || shares l.buffers x then Err Shared
    else Ok tt

abbrev pub added : Result (Unit {0}) Refusal → Shape → Buffer → Shape
added (Ok u) l x = record { size = l.size; rbegin = l.rbegin; rend = l.rend; buffers = l.buffers ++ x ∷ [] }
added (Err e) l x = l
