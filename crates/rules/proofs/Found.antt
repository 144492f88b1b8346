-- What the table has at a descriptor: that of a frame, or a free one.
use Rattle.std.proofs.Common.{◌≡◌, ℕ, ◌+◌, ◌<◌, ◌≤◌, Bool, true, false, cond, not, ◌&&◌, List, [], ◌∷◌, sym, ap, ◌∙◌, subst, ⊎_elim, arith}
use Rattle.std.specs.List.{AllByRecursion as All}
use Rattle.std.proofs.lemmas.Bool.{eq-eqb, false≢true, cases_lt, or_right, or_left, and_from, cases_Bool, and_right}
use Rattle.rules.specs.Bits.{has, HELD}
use Rattle.rules.specs.Table.{descriptor, held, lawful, taken}
use Rattle.rules.specs.Plan.{Plan, summary, buffer, latest, times, number}
use Rattle.rules.specs.Ledger.{starts}
use Rattle.rules.proofs.Frames.{KeptFrame, held_waiting, Gone, held_gone, any_starts, starts_unreleased}
use Rattle.rules.proofs.Lawful.{Lawful}
use Rattle.rules.proofs.Flags.{flags_held, flags_of, flags_taken}
use Rattle.rules.proofs.Encoding.{entry, Encoded, InTable, GoneInTable, TableFits}
use Rattle.rules.proofs.Runs.{entry_lawful, vacant_lawful}
use Rattle.rules.proofs.Agrees.{head_or_tail}

pub record Found (s : Plan) (m : List ℕ) (tk first : Bool) (ds : List ℕ) (d : ℕ) : Type 0 where
  pub at_start : Bool
  pub at_end : Bool
  pub fill : ℕ
  pub status : ℕ
  pub is : descriptor (summary s) m d ≡ entry s tk at_start d at_end fill status
  pub fits : fill ≤ (buffer s d).length
  -- the first of a frame alone has FIRST
  pub head : at_start ≡ true → (first ≡ true) × (starts ds d ≡ true)

module _ (s : Plan) (L : Lawful s) where
  found : (m : List ℕ) (tk first : Bool) (ds : List ℕ) (filled st d : ℕ) → filled ≤ (buffer s (latest ds 0)).length →
      Encoded s m tk first ds filled st → 0 < times d ds → Found s m tk first ds d
  found m tk first [] filled st d g e t = absurd (omega arith)
  found m tk first (x ∷ []) filled st d g e t = ⊎_elim
      (λ q. record {
        at_start = first;
        at_end = true;
        fill = filled;
        status = st;
        is = subst (λ y. descriptor (summary s) m y ≡ entry s tk first y true filled st) (sym q) e.0;
        fits = subst (λ y. filled ≤ (buffer s y).length) (sym q) g;
        head = λ h. (h, eq-eqb x d (sym q));
      })
      (λ t'. absurd (omega arith)) (head_or_tail d x [] t)
  found m tk first (x ∷ y ∷ ys) filled st d g e t = ⊎_elim
      (λ q. record {
        at_start = first;
        at_end = false;
        fill = 0;
        status = st;
        is = subst (λ z. descriptor (summary s) m z ≡ entry s tk first z false 0 st) (sym q) e.0;
        fits = omega arith;
        head = λ h. (h, eq-eqb x d (sym q));
      })
      (λ t'. let f = found m tk false (y ∷ ys) filled st d g e.1 t' in
      record {
        at_start = f.at_start;
        at_end = f.at_end;
        fill = f.fill;
        status = f.status;
        is = f.is;
        fits = f.fits;
        head = λ h. absurd (false≢true (f.head h).0);
      })
      (head_or_tail d x (y ∷ ys) t)

  pub found_waiting : (m : List ℕ) (fs : List KeptFrame) (d : ℕ) → All (InTable s m false) fs → 0 < held_waiting fs d →
      (ds : List ℕ) × Found s m false true ds d
  found_waiting m [] d l t = absurd (omega arith)
  found_waiting m (f ∷ fs) d l t =
      let lf = l.0 in
      ⊎_elim (λ h. (f.buffers, found m false true f.buffers f.filled f.status d lf.fits lf.encoded h))
      (λ h. found_waiting m fs d l.1 (omega arith)) (cases_lt 0 (times d f.buffers))

  pub found_gone : (m : List ℕ) (gs : List Gone) (d : ℕ) → All (GoneInTable s m) gs → 0 < held_gone gs d →
      (ds : List ℕ) × Found s m true true ds d × (starts ds d ≡ true → any_starts gs d ≡ true)
  found_gone m [] d l t = absurd (omega arith)
  found_gone m (g ∷ gs) d l t =
      let further : 0 < held_gone gs d → (ds : List ℕ) × Found s m true true ds d × (starts ds d ≡ true → any_starts (g ∷ gs) d ≡ true) =
      λ h. let r = found_gone m gs d l.1 h in (r.0, r.1, λ h. or_right (starts_unreleased g d) (any_starts gs d) (r.2 h)) in
      ⊎_elim
      (λ e. let q : cond g.released 0 (times d g.frame.buffers) ≡ 0 = ap (λ c. cond c 0 (times d g.frame.buffers)) e in further (omega arith))
      (λ e.
      let q : cond g.released 0 (times d g.frame.buffers) ≡ times d g.frame.buffers = ap (λ c. cond c 0 (times d g.frame.buffers)) e in
      let lf = l.0 e in
      ⊎_elim
      (λ h. (
        g.frame.buffers,
        found m true true g.frame.buffers g.frame.filled g.frame.status d lf.fits lf.encoded h,
        λ y. or_left (starts_unreleased g d) (any_starts gs d) (and_from (not g.released) (starts g.frame.buffers d) (ap not e) y),
      ))
      (λ h. further (omega arith)) (cases_lt 0 (times d g.frame.buffers)))
      (cases_Bool g.released)

  pub all_lawful : (gone : List Gone) (waiting : List KeptFrame) (own m : List ℕ) → TableFits s gone waiting own m → (d : ℕ) → d < number s →
      lawful (summary s) (descriptor (summary s) m d) ≡ true
  all_lawful gone waiting own m C d dn =
      ⊎_elim
      (λ h. ⊎_elim
      (λ g. let r = found_gone m gone d C.taken g in let f = r.1 in
      ap (lawful (summary s)) f.is ∙ entry_lawful s L true f.at_start d f.at_end f.fill f.status dn f.fits)
      (λ g. let r = found_waiting m waiting d C.untaken (omega arith) in let f = r.1 in
      ap (lawful (summary s)) f.is ∙ entry_lawful s L false f.at_start d f.at_end f.fill f.status dn f.fits)
      (cases_lt 0 (held_gone gone d)))
      (λ h. ap (lawful (summary s)) (C.free d dn (omega arith)) ∙ vacant_lawful s L d dn)
      (cases_lt 0 (held_gone gone d + held_waiting waiting d))

  -- a descriptor of an unreleased frame is HELD
  pub held_when : (gone : List Gone) (waiting : List KeptFrame) (own m : List ℕ) → TableFits s gone waiting own m → (d : ℕ) →
      0 < held_gone gone d + held_waiting waiting d → held (descriptor (summary s) m d) ≡ true
  held_when gone waiting own m C d h = ⊎_elim
      (λ g. let r = found_gone m gone d C.taken g in let f = r.1 in ap held f.is ∙ flags_held f.at_start f.at_end true)
      (λ g. let r = found_waiting m waiting d C.untaken (omega arith) in let f = r.1 in ap held f.is ∙ flags_held f.at_start f.at_end false)
      (cases_lt 0 (held_gone gone d))

  abbrev pub untaken_at : List ℕ → ℕ → Bool
  untaken_at m d = held (descriptor (summary s) m d) && not (taken (descriptor (summary s) m d))

  -- one that no waiting frame has is free or TAKEN
  pub free_or_taken : (gone : List Gone) (waiting : List KeptFrame) (own m : List ℕ) → TableFits s gone waiting own m → (d : ℕ) → d < number s →
      held_waiting waiting d ≡ 0 → untaken_at m d ≡ false
  free_or_taken gone waiting own m C d dn h = ⊎_elim
      (λ g. let r = found_gone m gone d C.taken g in let f = r.1 in
      ap (λ e. held e && not (taken e)) f.is ∙ and_right (has HELD (flags_of f.at_start f.at_end true)) _ (ap not (flags_taken f.at_start f.at_end true)))
      (λ g. ap (λ e. held e && not (taken e)) (C.free d dn (omega arith)))
      (cases_lt 0 (held_gone gone d))
