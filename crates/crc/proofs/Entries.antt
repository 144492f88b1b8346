-- A table of m rows of n entries, where the entry k of the row i is f i k: the two lists are compared where a proof cites `row_entry`.
use Rattle.std.proofs.Common.{◌≡◌, ℕ, ◌<◌, List, [], map, get_or, ap, ◌∙◌, zero-add}
use Rattle.std.specs.List.{range_with_len}
use Rattle.std.proofs.lemmas.List.FromFn.{get_or-map-range_with_len}

pub row_entry : (f : ℕ → ℕ → ℕ) (m n i k : ℕ) → i < m → k < n
    → get_or (get_or (map (λ j. map (f j) (range_with_len 0 n)) (range_with_len 0 m)) i []) k 0 ≡ f i k
row_entry f m n i k h l =
    ap (λ (row : List ℕ). get_or row k 0)
    (get_or-map-range_with_len (λ j. map (f j) (range_with_len 0 n)) 0 m i i [] h (zero-add i))
    ∙ get_or-map-range_with_len (f i) 0 n k k 0 l (zero-add k)
