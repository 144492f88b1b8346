-- How frames stand in the table and in the buffers.
--   entry, vacant              a descriptor of a frame, and one that is free
--   Encoded                    descriptors that a frame has
--   stored                     the bytes in buffers
--   Row                        descriptors that follow one another from d on
--   InTable, GoneInTable      a frame stands in the table, and its buffers are as its end left them
--   TableFits                  the table and the buffers are as the frames and the arrival say
--   Agree                      a descriptor and its buffer are the same in two memories
--   keep_list                  the memory after the descriptors of a list are marked as a kept frame's
use Rattle.std.proofs.Common.{◌≡◌, ℕ, ◌+◌, ◌<◌, ◌≤◌, Bool, true, false, cond, List, [], ◌∷◌, ◌++◌, length, get_or, take, drop}
use Rattle.std.specs.List.{AllByRecursion as All}
use Rattle.rules.specs.declared.state.Descriptor.{Descriptor}
use Rattle.rules.specs.Table.{descriptor, keep_one}
use Rattle.rules.specs.Plan.{Plan, buffer, summary, next, number, latest, times}
use Rattle.rules.specs.Ledger.{empty}
use Rattle.rules.proofs.Frames.{KeptFrame, first_of, Gone, held_gone, held_waiting}
use Rattle.rules.proofs.Flat.{UntouchedKept}
use Rattle.rules.proofs.Flags.{flags_of}

abbrev pub entry : Plan → Bool → Bool → ℕ → Bool → ℕ → ℕ → Descriptor
entry s tk first d last filled st = record {
  flags = flags_of first last tk;
  status = cond last st 0;
  start = (buffer s d).start.0;
  length = (buffer s d).length;
  fill = cond last filled (buffer s d).length;
}

abbrev pub vacant : Plan → ℕ → Descriptor
vacant s d = record { flags = 0; status = 0; start = (buffer s d).start.0; length = (buffer s d).length; fill = 0 }

abbrev pub Encoded : Plan → List ℕ → Bool → Bool → List ℕ → ℕ → ℕ → Type 0
Encoded s m tk first [] filled st = Unit {0}
Encoded s m tk first (d ∷ ds) filled st =
    (descriptor (summary s) m d ≡ entry s tk first d (empty ds) filled st) × Encoded s m tk false ds filled st

abbrev pub stored : Plan → List ℕ → List ℕ → ℕ → List ℕ
stored s m [] filled = []
stored s m (d ∷ ds) filled = take (cond (empty ds) filled (buffer s d).length) (drop (buffer s d).start.0 m) ++ stored s m ds filled

abbrev pub Row : Plan → ℕ → List ℕ → Type 0
Row s d [] = Unit {0}
Row s d (e ∷ es) = (e ≡ d) × Row s (next s d) es

pub record InTable (s : Plan) (m : List ℕ) (tk : Bool) (f : KeptFrame) : Type 0 where
  pub encoded : Encoded s m tk true f.buffers f.filled f.status
  pub untouched : UntouchedKept s m f
  pub row : Row s (first_of f.buffers) f.buffers
  pub some : empty f.buffers ≡ false
  pub below : first_of f.buffers < number s
  pub fits : f.filled ≤ (buffer s (latest f.buffers 0)).length
  pub bytes : stored s f.memory f.buffers f.filled ≡ f.bytes
  pub size : length f.memory ≡ s.shape.size

abbrev pub GoneInTable : Plan → List ℕ → Gone → Type 0
GoneInTable s m g = g.released ≡ false → InTable s m true g.frame

pub record TableFits (s : Plan) (gone : List Gone) (waiting : List KeptFrame) (own : List ℕ) (m : List ℕ) : Type 0 where
  pub size : length m ≡ s.shape.size
  pub taken : All (GoneInTable s m) gone
  pub untaken : All (InTable s m false) waiting
  -- no two of the unreleased frames and the arrival have a buffer in common, and none has one twice
  pub once : (d : ℕ) → held_gone gone d + held_waiting waiting d + times d own ≤ 1
  pub free : (d : ℕ) → d < number s → held_gone gone d + held_waiting waiting d ≡ 0 → descriptor (summary s) m d ≡ vacant s d

pub record Agree (s : Plan) (m m' : List ℕ) (d : ℕ) : Type 0 where
  pub entry : descriptor (summary s) m' d ≡ descriptor (summary s) m d
  pub bytes : (i : ℕ) → i < (buffer s d).length → get_or m' ((buffer s d).start.0 + i) 0 ≡ get_or m ((buffer s d).start.0 + i) 0

abbrev pub keep_list : Plan → List ℕ → Bool → List ℕ → ℕ → ℕ → List ℕ
keep_list s m first [] filled st = m
keep_list s m first (d ∷ ds) filled st = keep_list s (keep_one (summary s) m d filled st first (empty ds)) false ds filled st
