-- What an arrival and a take do to the table and the buffers.
use Rattle.std.proofs.Common.{◌≡◌, ℕ, ◌+◌, ◌<◌, ◌≤◌, true, false, cond, ◌⊎◌, List, [], ◌∷◌, ◌++◌, length, set, sym, ap, ◌∙◌, subst, inl, inr, arith}
use Rattle.std.proofs.ByRecursion.{All-append}
use Rattle.std.proofs.lemmas.List.{length-set}
use Rattle.std.proofs.lemmas.Bool.{cases_eq, eq-eqb, ne_eqb}
use Rattle.rules.specs.Table.{take_run}
use Rattle.rules.specs.Plan.{Plan, buffer, times, number, summary}
use Rattle.rules.proofs.Frames.{Gone, KeptFrame, held_gone, held_waiting, first_of}
use Rattle.rules.proofs.Lawful.{Lawful}
use Rattle.rules.proofs.Encoding.{TableFits, Agree, InTable, GoneInTable}
use Rattle.rules.proofs.Agrees.{times_append, store_keeps_others, gone_agree, waiting_agree, store_keeps_table, row_below}
use Rattle.rules.proofs.KeepFrame.{held_gone_append}
use Rattle.rules.proofs.TakeRun.{take_keeps_others, take_encodes, take_keeps_buffers, take_keeps_length}

module _ (s : Plan) (L : Lawful s) where
  pub table_without_own : (gone : List Gone) (waiting : List KeptFrame) (own m : List ℕ) → TableFits s gone waiting own m → TableFits s gone waiting [] m
  table_without_own gone waiting own m C = record {
    size = C.size;
    taken = C.taken;
    untaken = C.untaken;
    once = λ d. let o = C.once d in omega arith;
    free = C.free;
  }

  pub table_with_buffer : (gone : List Gone) (waiting : List KeptFrame) (own m : List ℕ) (d : ℕ) → TableFits s gone waiting own m →
      held_gone gone d + held_waiting waiting d + times d own ≡ 0 → TableFits s gone waiting (own ++ (d ∷ [])) m
  table_with_buffer gone waiting own m d C z = record {
    size = C.size;
    taken = C.taken;
    untaken = C.untaken;
    once = λ x. more x (cases_eq x d);
    free = C.free;
  }
    where
      more : (x : ℕ) → (x ≡ d) ⊎ (x ≡ d → ⊥) → held_gone gone x + held_waiting waiting x + times x (own ++ (d ∷ [])) ≤ 1
      more x (inl q) =
          let a = times_append x own (d ∷ []) in
          let e : times x (d ∷ []) ≡ 1 = ap (λ c. cond c 1 0 + 0) (eq-eqb x d q) in
          let z' : held_gone gone x + held_waiting waiting x + times x own ≡ 0 =
          subst (λ y. held_gone gone y + held_waiting waiting y + times y own ≡ 0) (sym q) z in
          omega arith
      more x (inr q) =
          let a = times_append x own (d ∷ []) in
          let e : times x (d ∷ []) ≡ 0 = ap (λ c. cond c 1 0 + 0) (ne_eqb x d q) in
          let o = C.once x in
          omega arith

  pub table_with_byte : (gone : List Gone) (waiting : List KeptFrame) (own m : List ℕ) (d k v : ℕ) → TableFits s gone waiting own m → 0 < times d own →
      d < number s → k < (buffer s d).length → TableFits s gone waiting own (set m ((buffer s d).start.0 + k) v)
  table_with_byte gone waiting own m d k v C t dn kl =
      let m' = set m ((buffer s d).start.0 + k) v in
      let other : (x : ℕ) → x < number s → 0 < held_gone gone x + held_waiting waiting x → Agree s m m' x =
      λ x n h. store_keeps_others s L m d k v x dn n kl
      (λ q. let o = C.once d in
      let h' : 0 < held_gone gone d + held_waiting waiting d = subst (λ y. 0 < held_gone gone y + held_waiting waiting y) q h in omega arith) in
      record {
        size = length-set m ((buffer s d).start.0 + k) v ∙ C.size;
        taken = gone_agree s m m' gone (λ x n h. other x n (omega arith)) L C.taken;
        untaken = waiting_agree s m m' waiting (λ x n h. other x n (omega arith)) L C.untaken;
        once = C.once;
        free = λ x n z. store_keeps_table s L m d k v x dn n kl ∙ C.free x n z;
      }

  pub table_with_taken : (gone : List Gone) (f : KeptFrame) (waiting : List KeptFrame) (own m : List ℕ) → TableFits s gone (f ∷ waiting) own m →
      TableFits s (gone ++ (record { frame = f; released = false } ∷ [])) waiting own (take_run (summary s) m (first_of f.buffers) (length f.buffers))
  table_with_taken gone f waiting own m C =
      let lf = C.untaken.0 in
      let ds = f.buffers in
      let d = first_of ds in
      let m' = take_run (summary s) m d (length ds) in
      let other : (x : ℕ) → x < number s → times x ds ≡ 0 → Agree s m m' x = λ x n h. take_keeps_others s L m ds d lf.row lf.below x n h in
      let still : InTable s m' true f = record {
        encoded = take_encodes s L m true ds d f.filled f.status C.size lf.row lf.below (λ x. let o = C.once x in omega arith) lf.encoded;
        untouched = λ x t i h.
            take_keeps_buffers s L m (length ds) d lf.below x (row_below s L d ds lf.below lf.row x t) i h ∙ lf.untouched x t i h;
        row = lf.row;
        some = lf.some;
        below = lf.below;
        fits = lf.fits;
        bytes = lf.bytes;
        size = lf.size;
      } in
      record {
        size = take_keeps_length s L m (length ds) d ∙ C.size;
        taken = All-append (GoneInTable s m') gone _ (gone_agree s m m' gone (λ x n h. other x n (let o = C.once x in omega arith)) L C.taken) ((λ e. still), tt);
        untaken = waiting_agree s m m' waiting (λ x n h. other x n (let o = C.once x in omega arith)) L C.untaken.1;
        once = λ x. let o = C.once x in let a = held_gone_append gone (record { frame = f; released = false } ∷ []) x in omega arith;
        free = λ x n z.
            let a = held_gone_append gone (record { frame = f; released = false } ∷ []) x in
            (other x n (omega arith)).entry ∙ C.free x n (omega arith);
      }
