-- What a release is for, and what it does to the table.
use Rattle.std.proofs.Common.{◌≡◌, ℕ, ◌+◌, ◌<◌, ◌≤◌, true, false, cond, not, ◌&&◌, ◌||◌, ltb, ◌⊎◌, List, [], ◌∷◌, ◌++◌, length, Ok, Err, sym, refl, ap, ◌∙◌, subst, inl, inr, ⊎_elim, arith}
use Rattle.std.specs.List.{AllByRecursion as All}
use Rattle.std.proofs.ByRecursion.{All-append}
use Rattle.std.proofs.lemmas.Bool.{false≢true, and_parts, not-true, cases_Bool, eqb-true, true≢false, cases_lt, cond-true, lt-ltb, and_from, cond-false, le-ltb}
use Rattle.refusal.specs.declared.Refusal.TheVariants.{NotTaken, Broken}
use Rattle.rules.specs.declared.state.Descriptor.{Descriptor}
use Rattle.rules.specs.Bits.{has, HELD, FIRST, TAKEN}
use Rattle.rules.specs.Table.{first, held, clear_run, run, taken, descriptor, lawful}
use Rattle.rules.specs.Views.{View}
use Rattle.rules.specs.Host.{release_judged, run_judged}
use Rattle.rules.specs.Plan.{times, Plan, summary, number}
use Rattle.rules.specs.Ledger.{starts}
use Rattle.rules.proofs.Frames.{Gone, release_in, any_starts, starts_unreleased, first_of, held_gone, KeptFrame, held_waiting}
use Rattle.rules.proofs.Lawful.{Lawful}
use Rattle.rules.proofs.Flags.{flags_of, flags_held, flags_first, flags_taken}
use Rattle.rules.proofs.Encoding.{TableFits, GoneInTable, Agree, Row}
use Rattle.rules.proofs.Agrees.{gone_agree, waiting_agree}
use Rattle.rules.proofs.KeepFrame.{held_gone_append}
use Rattle.rules.proofs.ClearRun.{clear_keeps_others, clear_keeps_length, clear_frees}
use Rattle.rules.proofs.Rows.{row_length}
use Rattle.rules.proofs.Found.{all_lawful, found_gone, found_waiting}
use Rattle.rules.proofs.TableFrames.{running, run_of, in_table_run, head_flags}

all_front : {X : Type 0} (P : X → Type 0) (xs ys : List X) → All P (xs ++ ys) → All P xs
all_front P [] ys a = tt
all_front P (x ∷ xs) ys a = (a.0, all_front P xs ys a.1)

pub all_back : {X : Type 0} (P : X → Type 0) (xs ys : List X) → All P (xs ++ ys) → All P ys
all_back P [] ys a = a
all_back P (x ∷ xs) ys a = all_back P xs ys a.1

abbrev pub released_now : Gone → Gone
released_now g = record { frame = g.frame; released = true }

-- the frame that a release of d names
pub record Named (d : ℕ) (gone : List Gone) : Type 0 where
  pub before : List Gone
  pub this : Gone
  pub behind : List Gone
  pub is : gone ≡ before ++ (this ∷ behind)
  pub becomes : release_in d gone ≡ before ++ (released_now this ∷ behind)
  pub unreleased : this.released ≡ false
  pub at : starts this.frame.buffers d ≡ true

pub named : (d : ℕ) (gone : List Gone) → any_starts gone d ≡ true → Named d gone
named d [] h = absurd (false≢true h)
named d (g ∷ gs) h = ⊎_elim
    (λ e. let p = and_parts (not g.released) (starts g.frame.buffers d) e in
    record {
      before = [];
      this = g;
      behind = gs;
      is = refl;
      becomes = ap (λ c. cond c (released_now g ∷ gs) (g ∷ release_in d gs)) e;
      unreleased = not-true g.released p.0;
      at = p.1;
    })
    (λ e. let h' : any_starts gs d ≡ true = ap (λ c. c || any_starts gs d) (sym e) ∙ h in
    let n = named d gs h' in
    record {
      before = g ∷ n.before;
      this = n.this;
      behind = n.behind;
      is = ap (λ l. g ∷ l) n.is;
      becomes = ap (λ c. cond c (released_now g ∷ gs) (g ∷ release_in d gs)) e ∙ ap (λ l. g ∷ l) n.becomes;
      unreleased = n.unreleased;
      at = n.at;
    })
    (cases_Bool (starts_unreleased g d))

pub starts_at_first : (ds : List ℕ) (d : ℕ) → starts ds d ≡ true → first_of ds ≡ d
starts_at_first [] d h = absurd (false≢true h)
starts_at_first (x ∷ xs) d h = eqb-true x d h

-- the buffers of the gone frames, with those of one unreleased among them
pub held_with : (before : List Gone) (g : Gone) (behind : List Gone) → g.released ≡ false → (x : ℕ) →
    held_gone (before ++ (g ∷ behind)) x ≡ held_gone before x + (times x g.frame.buffers + held_gone behind x)
held_with before g behind e x =
    held_gone_append before (g ∷ behind) x ∙ ap (λ c. held_gone before x + (cond c 0 (times x g.frame.buffers) + held_gone behind x)) e

module _ (s : Plan) (L : Lawful s) where
  pub table_with_released : (before : List Gone) (g : Gone) (behind : List Gone) (waiting : List KeptFrame) (own m : List ℕ) → g.released ≡ false →
      TableFits s (before ++ (g ∷ behind)) waiting own m →
      TableFits s (before ++ (released_now g ∷ behind)) waiting own (clear_run (summary s) m (first_of g.frame.buffers) (length g.frame.buffers))
  table_with_released before g behind waiting own m e C =
      let ds = g.frame.buffers in
      let d = first_of ds in
      let m' = clear_run (summary s) m d (length ds) in
      let lg = (all_back (GoneInTable s m) before (g ∷ behind) C.taken).0 e in
      let other : (x : ℕ) → x < number s → times x ds ≡ 0 → Agree s m m' x = λ x n h. clear_keeps_others s L m ds d lg.row lg.below x n h in
      let sum = held_with before g behind e in
      let sum' : (x : ℕ) → held_gone (before ++ (released_now g ∷ behind)) x ≡ held_gone before x + held_gone behind x =
      λ x. held_gone_append before (released_now g ∷ behind) x ∙ omega arith in
      let alone : (x : ℕ) → times x ds + held_gone before x + held_gone behind x + held_waiting waiting x ≤ 1 =
      λ x. let o = C.once x in let a = sum x in omega arith in
      record {
        size = clear_keeps_length s L m (length ds) d ∙ C.size;
        taken = All-append (GoneInTable s m') before (released_now g ∷ behind)
            (gone_agree s m m' before (λ x n h. other x n (let a = alone x in omega arith)) L (all_front (GoneInTable s m) before (g ∷ behind) C.taken))
            ((λ y. absurd (true≢false y)), gone_agree s m m' behind (λ x n h. other x n (let a = alone x in omega arith)) L (all_back (GoneInTable s m) before (g ∷ behind) C.taken).1);
        untaken = waiting_agree s m m' waiting (λ x n h. other x n (let a = alone x in omega arith)) L C.untaken;
        once = λ x. let o = C.once x in let a = sum x in let a' = sum' x in omega arith;
        free = λ x n z. let a = sum x in let a' = sum' x in ⊎_elim
            (λ t. clear_frees s L m true true ds d g.frame.filled g.frame.status C.size lg.row lg.below (λ y. let b = alone y in omega arith) lg.encoded x t)
            (λ t. (other x n (omega arith)).entry ∙ C.free x n (omega arith))
            (cases_lt 0 (times x ds));
      }

  pub release_finds_named : (x : View) (gone : List Gone) (waiting : List KeptFrame) (own : List ℕ) (d : ℕ) → TableFits s gone waiting own x.memory →
      (n : Named d gone) → release_judged (running s x) d ≡ Ok (run_of n.this.frame)
  release_finds_named x gone waiting own d C n =
      let m = x.memory in
      let g = n.this in
      let ds = g.frame.buffers in
      let all_gone = subst (All (GoneInTable s m)) n.is C.taken in
      let lg = (all_back (GoneInTable s m) n.before (g ∷ n.behind) all_gone).0 n.unreleased in
      let at = starts_at_first ds d n.at in
      let dn : d < number s = rw at at lg.below in
      let row : Row s d ds = rw at at lg.row in
      let sum : (y : ℕ) → held_gone gone y ≡ held_gone n.before y + (times y ds + held_gone n.behind y) =
      λ y. ap (λ l. held_gone l y) n.is ∙ held_with n.before g n.behind n.unreleased y in
      let once : (y : ℕ) → times y ds ≤ 1 = λ y. let o = C.once y in let a = sum y in omega arith in
      let r : run (summary s) m true d ≡ Ok (run_of g.frame) =
      subst (λ y. run (summary s) m true y ≡ Ok (run_of g.frame)) at (in_table_run s L m true g.frame C.size lg (row_length s L ds d row dn once)) in
      let hf = head_flags s m true true ds g.frame.filled g.frame.status lg.some lg.encoded in
      let fl : (descriptor (summary s) m d).flags ≡ flags_of true hf.0 true = ap (λ y. (descriptor (summary s) m y).flags) (sym at) ∙ hf.1 in
      let e = descriptor (summary s) m d in
      cond-true (ltb d (number s)) _ (Err NotTaken) (lt-ltb d (number s) dn)
      ∙ cond-true (lawful (summary s) e) _ (Err (Broken d)) (all_lawful s L gone waiting own m C d dn)
      ∙ cond-true (held e && first e && taken e) _ (Err NotTaken)
      (and_from _ _ (and_from _ _ (ap (has HELD) fl ∙ flags_held true hf.0 true) (ap (has FIRST) fl ∙ flags_first true hf.0 true))
      (ap (has TAKEN) fl ∙ flags_taken true hf.0 true))
      ∙ ap run_judged r

  pub release_finds_none : (x : View) (gone : List Gone) (waiting : List KeptFrame) (own : List ℕ) (d : ℕ) → TableFits s gone waiting own x.memory →
      any_starts gone d ≡ false → release_judged (running s x) d ≡ Err NotTaken
  release_finds_none x gone waiting own d C u = go (cases_lt d (number s))
    where
      m : List ℕ
      m = x.memory

      e : Descriptor
      e = descriptor (summary s) m d

      not_all : d < number s → (held e && first e && taken e) ≡ true → ⊥
      not_all dn h =
          let p = and_parts (held e && first e) (taken e) h in
          let q = and_parts (held e) (first e) p.0 in
          ⊎_elim
          (λ g. let r = found_gone s L m gone d C.taken g in let f = r.1 in
          let fi : f.at_start ≡ true = sym (flags_first f.at_start f.at_end true) ∙ ap first (sym f.is) ∙ q.1 in
          true≢false (sym (r.2 (f.head fi).1) ∙ u))
          (λ g. ⊎_elim
          (λ w. let r = found_waiting s L m waiting d C.untaken w in let f = r.1 in
          true≢false (sym p.1 ∙ ap taken f.is ∙ flags_taken f.at_start f.at_end false))
          (λ w. true≢false (sym q.0 ∙ ap held (C.free d dn (omega arith))))
          (cases_lt 0 (held_waiting waiting d)))
          (cases_lt 0 (held_gone gone d))

      go : (d < number s) ⊎ (number s ≤ d) → release_judged (running s x) d ≡ Err NotTaken
      go (inr h) = cond-false (ltb d (number s)) _ (Err NotTaken) (le-ltb d (number s) h)
      go (inl dn) =
          cond-true (ltb d (number s)) _ (Err NotTaken) (lt-ltb d (number s) dn)
          ∙ cond-true (lawful (summary s) e) _ (Err (Broken d)) (all_lawful s L gone waiting own m C d dn)
          ∙ cond-false (held e && first e && taken e) _ (Err NotTaken) (⊎_elim (λ h. absurd (not_all dn h)) (λ h. h) (cases_Bool (held e && first e && taken e)))
