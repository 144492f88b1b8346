-- The descriptors of a frame are lawful, and make a run with its bytes.
use Rattle.std.proofs.Common.{◌≡◌, ℕ, zero, suc, ◌+◌, ◌*◌, ◌<◌, ◌≤◌, Bool, true, false, cond, not, ◌&&◌, eqb, ltb, List, [], ◌∷◌, ◌++◌, length, take, drop, Ok, Result, sym, refl, ap, ◌∙◌, subst, arith}
use lib.Dec.{eqb-suc-zero}
use Rattle.std.proofs.lemmas.List.{append-nil, length-append}
use Rattle.std.proofs.lemmas.Bool.{and_from, lt-ltb, le-leb, true≢false, ne_eqb}
use Rattle.std.proofs.lemmas.Bool.Decides.{nat_tests}
use Rattle.rules.specs.declared.state.Break.{Break}
use Rattle.rules.specs.declared.state.Run.{Run}
use Rattle.rules.specs.Table.{next as following, lawful, descriptor, run_on, frame_bytes, span}
use Rattle.rules.specs.Plan.{Plan, number, buffer, summary, next, latest}
use Rattle.rules.specs.Ledger.{empty}
use Rattle.rules.proofs.Lawful.{Lawful}
use Rattle.rules.proofs.Bytes.{slice_length, span_is}
use Rattle.rules.proofs.Flags.{flags_below, flags_held, flags_first, flags_last, flags_taken, alike_itself}
use Rattle.rules.proofs.Encoding.{entry, vacant, Row, Encoded, stored}

not_in_table : (s : Plan) (L : Lawful s) (d : ℕ) → d < number s →
    not (ltb (buffer s d).start.0 (s.shape.rend.0 * 256) && ltb (s.shape.rbegin.0 * 256) ((buffer s d).start.0 + (buffer s d).length)) ≡ true
not_in_table s L d h =
    let c = L.clear d h in
    let r = L.room in
    grind (arith, nat_tests)

pub entry_lawful : (s : Plan) (L : Lawful s) (tk first : Bool) (d : ℕ) (last : Bool) (filled st : ℕ) → d < number s → filled ≤ (buffer s d).length →
    lawful (summary s) (entry s tk first d last filled st) ≡ true
unfolding lawful
entry_lawful s L tk first d last filled st h k =
    and_from _ _ (and_from _ _ (and_from _ _ (and_from _ _ (and_from _ _ (flags_below first last tk)
    (rw (flags_held first last tk))) (lt-ltb 0 _ (L.byte d h))) (le-leb _ _ (L.inside d h))) (not_in_table s L d h)) (le-leb _ _ (fill_within last))
  where
    fill_within : (x : Bool) → cond x filled (buffer s d).length ≤ (buffer s d).length
    fill_within true = k
    fill_within false = omega arith

pub vacant_lawful : (s : Plan) (L : Lawful s) (d : ℕ) → d < number s → lawful (summary s) (vacant s d) ≡ true
unfolding lawful
vacant_lawful s L d h =
    and_from _ _ (and_from _ _ (and_from _ _ (and_from true _ refl (lt-ltb 0 _ (L.byte d h))) (le-leb _ _ (L.inside d h))) (not_in_table s L d h))
    (le-leb _ _ (omega arith))

pub next_below : (s : Plan) (L : Lawful s) (d : ℕ) → d < number s → next s d < number s
unfolding following
next_below s L d h = let o = L.some in grind (arith, nat_tests)

abbrev pub found_run : ℕ → ℕ → ℕ → Result Run Break
found_run k n st = Ok (record { count = k; length = n; status = st })

module _ (s : Plan) (L : Lawful s) where
  run_at_last : (m : List ℕ) (tk : Bool) (i len d filled st k : ℕ) → d < number s → filled ≤ (buffer s d).length →
      descriptor (summary s) m d ≡ entry s tk (eqb i 0) d true filled st → run_on (summary s) m tk i len d (suc k) ≡ found_run (i + 1) (len + filled) st
  unfolding run_on
  run_at_last m tk i len d filled st k h g e =
      let first = eqb i 0 in
      let a = entry_lawful s L tk first d true filled st h g in
      let b = flags_held first true tk in
      let c = flags_first first true tk in
      let f = flags_last first true tk in
      let t = flags_taken first true tk in
      let x = alike_itself first in
      let y = alike_itself tk in
      simp (e, a, b, c, f, t, x, y)

  run_goes_on : (m : List ℕ) (tk : Bool) (i len d st k : ℕ) → d < number s →
      descriptor (summary s) m d ≡ entry s tk (eqb i 0) d false 0 st →
      run_on (summary s) m tk i len d (suc (suc k)) ≡ run_on (summary s) m tk (i + 1) (len + (buffer s d).length) (next s d) (suc k)
  unfolding run_on
  run_goes_on m tk i len d st k h e =
      let first = eqb i 0 in
      let a = entry_lawful s L tk first d false 0 st h (omega arith) in
      let b = flags_held first false tk in
      let c = flags_first first false tk in
      let f = flags_last first false tk in
      let t = flags_taken first false tk in
      let x = alike_itself first in
      let y = alike_itself tk in
      simp (e, a, b, c, f, t, x, y, eqb-suc-zero)

  run_of_encoded : (m : List ℕ) (tk first : Bool) (ds : List ℕ) (filled st i len d k : ℕ) → length m ≡ s.shape.size → first ≡ eqb i 0 → empty ds ≡ false →
      Row s d ds → d < number s → length ds ≤ k → filled ≤ (buffer s (latest ds 0)).length → Encoded s m tk first ds filled st →
      run_on (summary s) m tk i len d k ≡ found_run (i + length ds) (len + length (stored s m ds filled)) st
  run_of_encoded m tk first [] filled st i len d k sz q o r h l g e = absurd (true≢false o)
  run_of_encoded m tk first (x ∷ []) filled st i len d zero sz q o r h l g e = absurd (omega arith)
  run_of_encoded m tk first (x ∷ []) filled st i len d (suc k) sz q o r h l g e =
      let p = r.0 in
      let e' : descriptor (summary s) m d ≡ entry s tk (eqb i 0) d true filled st =
      subst (λ y. descriptor (summary s) m d ≡ entry s tk y d true filled st) q
      (subst (λ y. descriptor (summary s) m y ≡ entry s tk first y true filled st) p e.0) in
      let g' : filled ≤ (buffer s d).length = subst (λ y. filled ≤ (buffer s y).length) p g in
      let ins = L.inside d h in
      let n : filled ≡ length (stored s m (x ∷ []) filled) = subst (λ y. filled ≡ length (stored s m (y ∷ []) filled)) (sym p)
      (sym (ap length (append-nil (take filled (drop (buffer s d).start.0 m))) ∙ slice_length m (buffer s d).start.0 filled (omega arith))) in
      run_at_last m tk i len d filled st k h g' e' ∙ ap (λ z. found_run (i + 1) (len + z) st) n
  run_of_encoded m tk first (x ∷ y ∷ ys) filled st i len d zero sz q o r h l g e = absurd (omega arith)
  run_of_encoded m tk first (x ∷ y ∷ ys) filled st i len d (suc zero) sz q o r h l g e = absurd (omega arith)
  run_of_encoded m tk first (x ∷ y ∷ ys) filled st i len d (suc (suc k)) sz q o r h l g e =
      let p = r.0 in
      let e' : descriptor (summary s) m d ≡ entry s tk (eqb i 0) d false 0 st =
      subst (λ y. descriptor (summary s) m d ≡ entry s tk y d false 0 st) q
      (subst (λ y. descriptor (summary s) m y ≡ entry s tk first y false 0 st) p e.0) in
      let ins = L.inside d h in
      let ex = (buffer s d).length in
      let rest = stored s m (y ∷ ys) filled in
      let ih = run_of_encoded m tk false (y ∷ ys) filled st (i + 1) (len + ex) (next s d) (suc k) sz
      (sym (ne_eqb (i + 1) 0 (λ z. omega arith))) refl r.1 (next_below s L d h) (omega arith) g e.1 in
      let n₀ : length (take ex (drop (buffer s d).start.0 m) ++ rest) ≡ ex + length rest =
      length-append (take ex (drop (buffer s d).start.0 m)) rest ∙ ap (λ z. z + length rest) (slice_length m (buffer s d).start.0 ex (omega arith)) in
      let n : (len + ex) + length rest ≡ len + length (stored s m (x ∷ y ∷ ys) filled) =
      subst (λ w. (len + ex) + length rest ≡ len + length (take (buffer s w).length (drop (buffer s w).start.0 m) ++ rest)) (sym p) (omega arith) in
      let c : (i + 1) + length (y ∷ ys) ≡ i + length (x ∷ y ∷ ys) = omega arith in
      let C : ℕ → ℕ → Result Run Break = λ a b. found_run a b st in
      run_goes_on m tk i len d st k h e' ∙ ih ∙ ap (λ z. C z ((len + ex) + length rest)) c ∙ ap (λ z. C (i + length (x ∷ y ∷ ys)) z) n

  pub encoded_run : (m : List ℕ) (tk : Bool) (ds : List ℕ) (filled st d k : ℕ) → length m ≡ s.shape.size → empty ds ≡ false → Row s d ds → d < number s →
      length ds ≤ k → filled ≤ (buffer s (latest ds 0)).length → Encoded s m tk true ds filled st →
      run_on (summary s) m tk 0 0 d k ≡ found_run (length ds) (length (stored s m ds filled)) st
  encoded_run m tk ds filled st d k sz o r h l g e =
      let a : 0 + length ds ≡ length ds = omega arith in
      let b : 0 + length (stored s m ds filled) ≡ length (stored s m ds filled) = omega arith in
      run_of_encoded m tk true ds filled st 0 0 d k sz refl o r h l g e
      ∙ ap (λ z. found_run z (0 + length (stored s m ds filled)) st) a ∙ ap (λ z. found_run (length ds) z st) b

  pub encoded_bytes : (m : List ℕ) (tk first : Bool) (ds : List ℕ) (filled st d : ℕ) → length m ≡ s.shape.size → Row s d ds → d < number s →
      filled ≤ (buffer s (latest ds 0)).length → Encoded s m tk first ds filled st → frame_bytes (summary s) m d (length ds) ≡ stored s m ds filled
  unfolding frame_bytes
  encoded_bytes m tk first [] filled st d sz r h g e = refl
  encoded_bytes m tk first (x ∷ []) filled st d sz r h g e =
      let p = r.0 in
      let e' : descriptor (summary s) m d ≡ entry s tk first d true filled st =
      subst (λ y. descriptor (summary s) m y ≡ entry s tk first y true filled st) p e.0 in
      let g' : filled ≤ (buffer s d).length = subst (λ y. filled ≤ (buffer s y).length) p g in
      let ins = L.inside d h in
      ap (λ z. span m z.start z.fill ++ []) e' ∙ ap (λ z. z ++ []) (span_is m (buffer s d).start.0 filled (omega arith))
      ∙ ap (λ y. take filled (drop (buffer s y).start.0 m) ++ []) (sym p)
  encoded_bytes m tk first (x ∷ y ∷ ys) filled st d sz r h g e =
      let p = r.0 in
      let e' : descriptor (summary s) m d ≡ entry s tk first d false 0 st =
      subst (λ y. descriptor (summary s) m y ≡ entry s tk first y false 0 st) p e.0 in
      let ins = L.inside d h in
      let ih = encoded_bytes m tk false (y ∷ ys) filled st (next s d) sz r.1 (next_below s L d h) g e.1 in
      let F = frame_bytes (summary s) m (next s d) (length (y ∷ ys)) in
      ap (λ z. span m z.start z.fill ++ F) e' ∙ ap (λ z. z ++ F) (span_is m (buffer s d).start.0 (buffer s d).length (omega arith))
      ∙ ap (λ w. take (buffer s w).length (drop (buffer s w).start.0 m) ++ F) (sym p)
      ∙ ap (λ z. take (buffer s x).length (drop (buffer s x).start.0 m) ++ z) ih
