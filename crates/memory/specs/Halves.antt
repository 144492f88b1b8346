-- The bytes of 16-bit words.
--   halves   the low half and then the high half of each word in turn
use Rattle.std.specs.Prelude.{ℕ, ◌/◌, ◌%◌, List, [], ◌∷◌}

abbrev pub halves : List ℕ → List ℕ
halves [] = []
halves (w ∷ ws) = (w % 256) ∷ (w / 256) ∷ halves ws
