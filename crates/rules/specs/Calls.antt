-- The calls of a run, and what their caller learns.
--   Look       the calls that change nothing that the ledger keeps
--   Call       the calls of a run
--   Receipt    a frame as a take hands it over: the first descriptor, how many, the bytes, the status
--   Outcome    a refusal's number and place, or that the call was accepted, and what a take gave
use Rattle.std.specs.Prelude.{ℕ, List}
use Rattle.rules.specs.declared.state.LastByte.{LastByte}
use Rattle.rules.specs.declared.state.Fault.{Fault}

pub data Look : Type 0 where
  peeks : ℕ → Look  -- an address
  reads : ℕ → ℕ → Look  -- a page, and a register's address
  writes : ℕ → ℕ → ℕ → Look  -- the same, and the byte written
  asks_cause : Look

pub data Call : Type 0 where
  begins : Call
  byte_comes : ℕ → Call
  ends : LastByte → Call
  aborts : Fault → Call
  takes : ℕ → Call  -- the caller's buffer has so many bytes
  releases : ℕ → Call  -- a descriptor
  looks : Look → Call

pub record Receipt : Type 0 where
  pub first : ℕ
  pub count : ℕ
  pub bytes : List ℕ
  pub status : ℕ

pub data Outcome : Type 0 where
  refused : ℕ → ℕ → Outcome
  done : Outcome
  took : Receipt → Outcome
