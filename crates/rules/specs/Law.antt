-- The law over runs.
--   plainly, received     what is heard of a call's answer, and of a take's with the caller's buffer after it
--   answers, steps        the outcome of a call by the rules, and the board after it
--   Reached               a history and a board that calls lead to from an accepted open
--   Kept, Keeps           what one call keeps of every history that reached the board before it
--   ReadBack              a take gives the earliest kept frame that is not taken yet
--   Explained             the history explains the board, and gives the number of every call that may come next
--   Opened                what an accepted open starts: all of this, after every list of calls
--   Law                   the same of every layout, RCON, set and board
use Rattle.std.specs.Prelude.{◌≡◌, ℕ, Bool, List, [], ◌∷◌, length, take, Ok, Err, Result}
use Rattle.refusal.specs.declared.Refusal.{Refusal}
use Rattle.refusal.specs.Numbers.{number, place}
use Rattle.layout.specs.declared.layout.Layout.{Layout}
use Rattle.layout.specs.Layouts.{shape}
use Rattle.rules.specs.declared.state.Run.{Run}
use Rattle.rules.specs.declared.state.Event.TheVariants.{Byte, End, Abort}
use Rattle.rules.specs.Table.{frame_bytes}
use Rattle.rules.specs.Views.{Shown}
use Rattle.rules.specs.Arrivals.{begin_answer, begin_after, event_answer, event_after}
use Rattle.rules.specs.Opening.{open_answer, open_after}
use Rattle.rules.specs.Host.{take_judged, take_after, release_judged, release_answer, release_after, peek_answer}
use Rattle.rules.specs.Registers.{read_answer, read_after, write_answer, write_after, cause_answer}
use Rattle.rules.specs.Plan.{Plan, plan, row}
use Rattle.rules.specs.Calls.{Call, Look, Outcome}
use Rattle.rules.specs.Calls.Call.{begins, byte_comes, ends, aborts, takes, releases, looks}
use Rattle.rules.specs.Calls.Look.{peeks, reads, writes, asks_cause}
use Rattle.rules.specs.Calls.Outcome.{refused, done, took}
use Rattle.rules.specs.Ledger.{verdict}
use Rattle.rules.specs.Explains.{History, Delivery, starting, extend, sight, untaken, Explains}

abbrev pub plainly : {X : Type 0} → Result X Refusal → Outcome
plainly (Ok x) = done
plainly (Err e) = refused (number e) (place e)

abbrev pub received : Result (ℕ × ℕ × ℕ × ℕ) Refusal → List ℕ → Outcome
received (Ok r) out = took (record { first = r.0; count = r.1; bytes = take r.2 out; status = r.3 })
received (Err e) out = refused (number e) (place e)

abbrev pub taking : Shown → Result Run Refusal → Outcome
taking b (Ok f) =
    took (record { first = b.view.state.host; count = f.count; bytes = frame_bytes b.setup b.view.memory b.view.state.host f.count; status = f.status })
taking b (Err e) = refused (number e) (place e)

abbrev pub look_answers : Shown → Look → Outcome
look_answers b (peeks a) = plainly (peek_answer b a)
look_answers b (reads p a) = plainly (read_answer b p a)
look_answers b (writes p a v) = plainly (write_answer b p a)
look_answers b asks_cause = plainly (cause_answer b)

abbrev pub look_steps : Shown → Look → Shown
look_steps b (peeks a) = b
look_steps b (reads p a) = read_after b p a
look_steps b (writes p a v) = write_after b p a v
look_steps b asks_cause = b

abbrev pub answers : Shown → Call → Outcome
answers b begins = plainly (begin_answer b)
answers b (byte_comes v) = plainly (event_answer b)
answers b (ends l) = plainly (event_answer b)
answers b (aborts w) = plainly (event_answer b)
answers b (takes room) = taking b (take_judged b room)
answers b (releases d) = plainly (release_answer (release_judged b d))
answers b (looks w) = look_answers b w

abbrev pub steps : (List ℕ → Bool) → Shown → Call → Shown
steps among b begins = begin_after b
steps among b (byte_comes v) = event_after among b (Byte v)
steps among b (ends l) = event_after among b (End l)
steps among b (aborts w) = event_after among b (Abort w)
steps among b (takes room) = take_after b (take_judged b room)
steps among b (releases d) = release_after b d (release_judged b d)
steps among b (looks w) = look_steps b w

abbrev pub history_step : Plan → (List ℕ → Bool) → History → Shown → Call → History
history_step s among h b c = extend s among h c (answers b c) (sight (steps among b c).view)

pub data Reached (l : Layout) (rcon : ℕ) (among : List ℕ → Bool) : History → Shown → Type 0 where
  at_open : (b : Shown) → open_answer (length b.view.memory) (shape l) rcon ≡ Ok tt → Reached l rcon among starting (open_after (Ok tt) b (shape l) rcon)
  by_call : {h : History} {b : Shown} → (c : Call) → Reached l rcon among h b → Reached l rcon among (history_step (plan l rcon) among h b c) (steps among b c)

abbrev pub number_of : Outcome → ℕ
number_of (refused n at) = n
number_of done = 0
number_of (took r) = 0

-- a call c with the outcome o left the board b'; h led to the board before it
pub record Kept (l : Layout) (rcon : ℕ) (among : List ℕ → Bool) (h : History) (c : Call) (o : Outcome) (b' : Shown) : Type 0 where
  pub reached : Reached l rcon among (extend (plan l rcon) among h c o (sight b'.view)) b'
  pub explains : Explains (plan l rcon) among (extend (plan l rcon) among h c o (sight b'.view)) b'.view
  pub number : number_of o ≡ verdict (plan l rcon) h.ledger c

abbrev pub Keeps : (List ℕ → Bool) → Call → Outcome → Shown → Shown → Type 0
Keeps among c o b b' = (l : Layout) (rcon : ℕ) (h : History) → Reached l rcon among h b → Kept l rcon among h c o b'

-- the take answered r, and left the caller's buffer as out: its front is what the frame's byte calls wrote
pub record ReadBack (s : Plan) (h : History) (r : ℕ × ℕ × ℕ × ℕ) (out : List ℕ) : Type 0 where
  pub later : List Delivery
  pub gives : untaken h.ledger.frames h.ends_seen ≡ (record { buffers = row s r.0 r.1; bytes = take r.2 out; status = r.3 } ∷ later)
  pub whole : length (take r.2 out) ≡ r.2

abbrev pub ReadsBackFrom : (List ℕ → Bool) → Shown → Result (ℕ × ℕ × ℕ × ℕ) Refusal → List ℕ → Type 0
ReadsBackFrom among b (Ok r) out = (l : Layout) (rcon : ℕ) (h : History) → Reached l rcon among h b → ReadBack (plan l rcon) h r out
ReadsBackFrom among b (Err e) out = Unit {0}

pub record Explained (s : Plan) (among : List ℕ → Bool) (h : History) (b : Shown) : Type 0 where
  pub explains : Explains s among h b.view
  pub verdicts : (c : Call) → number_of (answers b c) ≡ verdict s h.ledger c

abbrev pub board_after : (List ℕ → Bool) → Shown → List Call → Shown
board_after among b [] = b
board_after among b (c ∷ cs) = board_after among (steps among b c) cs

abbrev pub history_after : Plan → (List ℕ → Bool) → History → Shown → List Call → History
history_after s among h b [] = h
history_after s among h b (c ∷ cs) = history_after s among (history_step s among h b c) (steps among b c) cs

abbrev pub ExplainedAfter : Plan → (List ℕ → Bool) → Shown → List Call → Type 0
ExplainedAfter s among b cs = Explained s among (history_after s among starting b cs) (board_after among b cs)

pub record Started (l : Layout) (rcon : ℕ) (among : List ℕ → Bool) (b' : Shown) : Type 0 where
  pub reached : Reached l rcon among starting b'
  pub runs : (cs : List Call) → ExplainedAfter (plan l rcon) among b' cs

abbrev pub Opened : (List ℕ → Bool) → Layout → ℕ → Result (Unit {0}) Refusal → Shown → Type 0
Opened among l rcon (Ok u) b' = Started l rcon among b'
Opened among l rcon (Err e) b' = Unit {0}

abbrev pub Law : Type 0
Law = (l : Layout) (rcon : ℕ) (among : List ℕ → Bool) (b : Shown) → open_answer (length b.view.memory) (shape l) rcon ≡ Ok tt →
    (cs : List Call) → ExplainedAfter (plan l rcon) among (open_after (Ok tt) b (shape l) rcon) cs
