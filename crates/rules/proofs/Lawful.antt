-- What every layout that a board opens with has.
use Rattle.std.proofs.Common.{◌≡◌, ℕ, ◌+◌, ◌*◌, ◌<◌, ◌≤◌, ◌⊎◌}
use Rattle.rules.specs.Plan.{Plan, number, buffer}

pub record Lawful (s : Plan) : Type 0 where
  pub some : 0 < number s
  pub room : s.shape.rbegin.0 * 256 + 8 * number s ≤ s.shape.rend.0 * 256
  pub table : s.shape.rend.0 * 256 ≤ s.shape.size
  pub limit : s.shape.size ≤ 65536
  -- each buffer has a byte, lies below the size and outside the table, and shares no byte with another
  pub byte : (d : ℕ) → d < number s → 0 < (buffer s d).length
  pub inside : (d : ℕ) → d < number s → (buffer s d).start.0 + (buffer s d).length ≤ s.shape.size
  pub clear : (d : ℕ) → d < number s →
      ((buffer s d).start.0 + (buffer s d).length ≤ s.shape.rbegin.0 * 256) ⊎ (s.shape.rend.0 * 256 ≤ (buffer s d).start.0)
  pub apart : (d e : ℕ) → d < number s → e < number s → (d ≡ e → ⊥) →
      ((buffer s d).start.0 + (buffer s d).length ≤ (buffer s e).start.0) ⊎ ((buffer s e).start.0 + (buffer s e).length ≤ (buffer s d).start.0)
