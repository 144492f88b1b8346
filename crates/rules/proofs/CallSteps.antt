-- What one call does: the board after it, the history that tracks it, and the number that it answers.
use Rattle.std.proofs.Common.{◌≡◌, ℕ, Bool, List, [], ◌++◌, sym, refl, ap, ◌∙◌, subst}
use Rattle.std.proofs.lemmas.List.{append-nil}
use Rattle.rules.specs.Views.{View}
use Rattle.rules.specs.Plan.{Plan}
use Rattle.rules.specs.Calls.{Call, Outcome, Receipt}
use Rattle.rules.specs.Ledger.{verdict, Arrival}
use Rattle.rules.specs.Explains.{History, extend, sight}
use Rattle.rules.specs.Law.{steps, answers, number_of}
use Rattle.rules.proofs.Frames.{Gone, KeptFrame, flat, sights}
use Rattle.rules.proofs.Lawful.{Lawful}
use Rattle.rules.proofs.TableFrames.{running}
use Rattle.rules.proofs.Invariant.{Invariant, history}
use Rattle.rules.proofs.LineSteps.{Tracked}

pub record CallStep (s : Plan) (among : List ℕ → Bool) (h : History) (x : View) (c : Call) : Type 0 where
  pub after : View
  pub board : steps among (running s x) c ≡ running s after
  pub tracked : Tracked s among (extend s among h c (answers (running s x) c) (sight after)) after
  pub number : number_of (answers (running s x) c) ≡ verdict s h.ledger c

module _ (s : Plan) (L : Lawful s) (among : List ℕ → Bool) where
  pub by_outcome : (h : History) (x : View) (c : Call) (o : Outcome) (y : View) → answers (running s x) c ≡ o → steps among (running s x) c ≡ running s y →
      Tracked s among (extend s among h c o (sight y)) y → number_of o ≡ verdict s h.ledger c → CallStep s among h x c
  by_outcome h x c o y e p t q = record {
    after = y;
    board = p;
    tracked = subst (λ z. Tracked s among (extend s among h c z (sight y)) y) (sym e) t;
    number = ap number_of e ∙ q;
  }

  -- no frame more, and no end seen
  pub unchanged_frames : (gone : List Gone) (waiting : List KeptFrame) (a : Arrival) (lost : Bool) (given : List Receipt) (y : View) →
      Invariant s among gone waiting a lost given y →
      Tracked s among (record { ledger = record { frames = flat gone waiting; arrival = a; missed = lost }; given = given; ends_seen = sights gone waiting ++ [] }) y
  unchanged_frames gone waiting a lost given y I = record {
    gone = gone;
    waiting = waiting;
    arrival = a;
    lost = lost;
    given = given;
    holds = I;
    is = ap (λ z. record { ledger = record { frames = flat gone waiting; arrival = a; missed = lost }; given = given; ends_seen = z }) (append-nil (sights gone waiting));
  }

  pub unchanged : (gone : List Gone) (waiting : List KeptFrame) (a : Arrival) (lost : Bool) (given : List Receipt) (y : View) →
      Invariant s among gone waiting a lost given y → Tracked s among (history gone waiting a lost given) y
  unchanged gone waiting a lost given y I = record { gone = gone; waiting = waiting; arrival = a; lost = lost; given = given; is = refl; holds = I }
