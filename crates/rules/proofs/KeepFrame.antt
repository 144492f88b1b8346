-- An end that keeps the arrival puts one more frame in the table.
use Rattle.std.proofs.Common.{◌≡◌, ℕ, ◌+◌, ◌<◌, ◌≤◌, true, false, List, [], ◌∷◌, ◌++◌, length, get_or, take, drop, refl, ap, ◌∙◌, arith}
use Rattle.std.proofs.ByRecursion.{All-append}
use Rattle.std.proofs.lemmas.Bool.{true≢false}
use Rattle.rules.specs.Plan.{Plan, times, buffer, latest, number}
use Rattle.rules.specs.Ledger.{empty}
use Rattle.rules.proofs.Frames.{held_waiting, KeptFrame, held_gone, Gone, first_of}
use Rattle.rules.proofs.Lawful.{Lawful}
use Rattle.rules.proofs.Bytes.{slice_same}
use Rattle.rules.proofs.Encoding.{stored, Row, TableFits, keep_list, InTable}
use Rattle.rules.proofs.Agrees.{times_head, times_tail, row_below, gone_agree, waiting_agree}
use Rattle.rules.proofs.KeepList.{keep_encodes, keep_keeps_length, keep_keeps_buffers, keep_keeps_others}

pub stored_same : (s : Plan) (m m' : List ℕ) (ds : List ℕ) (filled : ℕ) → length m' ≡ length m →
    ((d : ℕ) → 0 < times d ds → (i : ℕ) → i < (buffer s d).length → get_or m' ((buffer s d).start.0 + i) 0 ≡ get_or m ((buffer s d).start.0 + i) 0) →
    filled ≤ (buffer s (latest ds 0)).length → stored s m' ds filled ≡ stored s m ds filled
stored_same s m m' [] filled l a f = refl
stored_same s m m' (d ∷ []) filled l a f =
    ap (λ z. z ++ []) (slice_same m m' (buffer s d).start.0 filled l (λ i h. a d (times_head d []) i (omega arith)))
stored_same s m m' (d ∷ e ∷ es) filled l a f =
    let p = slice_same m m' (buffer s d).start.0 (buffer s d).length l (λ i h. a d (times_head d (e ∷ es)) i h) in
    let q = stored_same s m m' (e ∷ es) filled l (λ x t. a x (times_tail x d (e ∷ es) t)) f in
    let P : List ℕ → List ℕ = λ z. z ++ stored s m' (e ∷ es) filled in
    let Q : List ℕ → List ℕ = λ z. take (buffer s d).length (drop (buffer s d).start.0 m) ++ z in
    ap P p ∙ ap Q q

held_waiting_append : (fs gs : List KeptFrame) (d : ℕ) → held_waiting (fs ++ gs) d ≡ held_waiting fs d + held_waiting gs d
held_waiting_append [] gs d = omega arith
held_waiting_append (f ∷ fs) gs d = let ih = held_waiting_append fs gs d in omega arith

pub held_gone_append : (fs gs : List Gone) (d : ℕ) → held_gone (fs ++ gs) d ≡ held_gone fs d + held_gone gs d
held_gone_append [] gs d = omega arith
held_gone_append (f ∷ fs) gs d = let ih = held_gone_append fs gs d in omega arith

pub row_first : (s : Plan) (d : ℕ) (ds : List ℕ) → empty ds ≡ false → Row s d ds → first_of ds ≡ d
row_first s d [] o r = absurd (true≢false o)
row_first s d (e ∷ es) o r = r.0

module _ (s : Plan) (L : Lawful s) (gone : List Gone) (waiting : List KeptFrame) (own : List ℕ) (m : List ℕ) (C : TableFits s gone waiting own m)
    (d filled st : ℕ) (bs : List ℕ) (dn : d < number s) (row : Row s d own) (some : empty own ≡ false)
    (fits : filled ≤ (buffer s (latest own 0)).length) (is : stored s m own filled ≡ bs) where
  abbrev m' : List ℕ
  m' = keep_list s m true own filled st

  abbrev new_frame : KeptFrame
  new_frame = record { buffers = own; filled = filled; bytes = bs; status = st; memory = keep_list s m true own filled st }

  own_below : (x : ℕ) → 0 < times x own → x < number s
  own_below x t = row_below s L d own dn row x t

  kept_in_table : InTable s m' false new_frame
  kept_in_table = record {
    encoded = keep_encodes s L filled st m true own C.size own_below (λ x. let o = C.once x in omega arith)
        (λ x t. C.free x (own_below x t) (let o = C.once x in omega arith));
    untouched = λ x t i h. refl;
    row = rw (row_first s d own some row) row;
    some = some;
    below = rw (row_first s d own some row) dn;
    fits = fits;
    bytes = stored_same s m m' own filled (keep_keeps_length s L filled st m true own)
        (λ x t. keep_keeps_buffers s L filled st m true own own_below x (own_below x t)) fits ∙ is;
    size = keep_keeps_length s L filled st m true own ∙ C.size;
  }

  pub keep_extends_waiting : TableFits s gone (waiting ++ (record { buffers = own; filled = filled; bytes = bs; status = st; memory = keep_list s m true own filled st } ∷ [])) []
      (keep_list s m true own filled st)
  keep_extends_waiting = record {
    size = keep_keeps_length s L filled st m true own ∙ C.size;
    taken = gone_agree s m m' gone (λ x n t. keep_keeps_others s L filled st m true own own_below x n (let o = C.once x in omega arith)) L C.taken;
    untaken = All-append (InTable s m' false) waiting _
        (waiting_agree s m m' waiting (λ x n t. keep_keeps_others s L filled st m true own own_below x n (let o = C.once x in omega arith)) L C.untaken) (kept_in_table, tt);
    once = λ x. let o = C.once x in rw (held_waiting_append waiting (new_frame ∷ []) x) (omega arith);
    free = λ x n z.
        let w = held_waiting_append waiting (new_frame ∷ []) x in
        (keep_keeps_others s L filled st m true own own_below x n (omega arith)).entry ∙ C.free x n (omega arith);
  }
