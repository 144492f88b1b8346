-- One byte of a storing arrival: the board and the ledger find the same place for it, or both miss the arrival.
use Rattle.std.proofs.Common.{◌≡◌, ℕ, ◌+◌, ◌<◌, ◌≤◌, Bool, true, false, cond, not, ◌&&◌, eqb, ltb, ◌⊎◌, List, [], ◌∷◌, ◌++◌, length, set, sym, refl, ap, ◌∙◌, inl, inr, ⊎_elim, add-zero, arith}
use Rattle.std.proofs.lemmas.List.{length_push}
use Rattle.std.proofs.lemmas.Bool.{le-ltb, and_parts, not-true, ltb-true, cond-true, ltb-false, cond-false, and_from, eq-eqb, and_left, ne_eqb, and_right, cases_lt, cases_Bool}
use Rattle.rules.specs.declared.state.Phase.TheVariants.{Storing}
use Rattle.rules.specs.declared.state.Stored.{Stored}
use Rattle.rules.specs.Table.{descriptor, held, lawful}
use Rattle.rules.specs.Views.{View, view, with_phase}
use Rattle.rules.specs.Arrivals.{wanted, store, further, store_fresh, free_for, entering, missed}
use Rattle.rules.specs.Plan.{Plan, after, number, buffer, latest, times, summary, next}
use Rattle.rules.specs.Ledger.{Fill, empty, fill_one, holders}
use Rattle.rules.proofs.Frames.{Gone, KeptFrame, after_waiting, after_gone, flat, held_gone, held_waiting}
use Rattle.rules.proofs.Flat.{after_frames_flat, holders_flat}
use Rattle.rules.proofs.Lawful.{Lawful}
use Rattle.rules.proofs.Encoding.{TableFits, vacant}
use Rattle.rules.proofs.Runs.{vacant_lawful}
use Rattle.rules.proofs.Agrees.{row_below, times_append, times_head}
use Rattle.rules.proofs.TableSteps.{table_with_byte, table_with_buffer}
use Rattle.rules.proofs.Rows.{wanted_is_after, all_used_test, after_below, row_append}
use Rattle.rules.proofs.Found.{held_when}
use Rattle.rules.proofs.StoredBytes.{stored_further, stored_entering}
use Rattle.rules.proofs.Filling.{Counts, Filling, last_buffer, StoresByte, latest_in, last_buffer_is, filling_of, latest_push, last_buffer_push, MissesByte}

module _ (s : Plan) (L : Lawful s) (gone : List Gone) (waiting : List KeptFrame) (x : View) (t : Stored) (own : List ℕ) (filled v : ℕ) (sofar : List ℕ)
    (K : Counts s t own filled) (C : TableFits s gone waiting own x.memory) (c : x.state.curr ≡ after_waiting s waiting (after_gone s gone 0))
    (cn : x.state.curr < number s) (F : Filling s x.state.curr x.memory own filled sofar) where
  abbrev has_room : Bool
  has_room = not (empty own) && ltb filled (buffer s (latest own 0)).length

  -- the buffer that a byte without a place needs
  abbrev wanted_buffer : ℕ
  wanted_buffer = after s own x.state.curr

  own_below : (y : ℕ) → 0 < times y own → y < number s
  own_below y h = row_below s L x.state.curr own cn F.row y h

  own_once : (y : ℕ) → times y own ≤ 1
  own_once y = let o = C.once y in omega arith

  room_test : ltb t.filled t.length ≡ has_room
  room_test = ap (λ n. ltb n t.length) K.fill ∙ ap (λ n. ltb filled n) K.room ∙ by_list own
    where
      by_list : (ds : List ℕ) → ltb filled (last_buffer s ds).length ≡ (not (empty ds) && ltb filled (buffer s (latest ds 0)).length)
      by_list [] = le-ltb filled 0 (omega arith)
      by_list (d ∷ ds) = refl

  wanted_is : wanted (summary s) x.state t ≡ wanted_buffer
  wanted_is = ap (λ u. cond (eqb u 0) x.state.curr (next s t.latest)) K.many
      ∙ ap (λ u. cond (eqb (length own) 0) x.state.curr (next s u)) K.newest ∙ wanted_is_after s L own x.state.curr

  stores_further : has_room ≡ true → StoresByte s gone waiting x t own filled v sofar
  unfolding fill_one
  stores_further h =
      let q = and_parts (not (empty own)) (ltb filled (buffer s (latest own 0)).length) h in
      let some = not-true (empty own) q.0 in
      let less = ltb-true filled (buffer s (latest own 0)).length q.1 in
      let d = latest own 0 in
      let there = latest_in own some in
      let at : t.start + t.filled ≡ (buffer s d).start.0 + filled =
      ap (λ n. n + t.filled) (K.place ∙ ap (λ b. b.start.0) (last_buffer_is s own some)) ∙ ap (λ n. (buffer s d).start.0 + n) K.fill in
      record {
        t' = further t;
        own' = own;
        filled' = filled + 1;
        m' = set x.memory ((buffer s d).start.0 + filled) v;
        board = cond-true (ltb t.filled t.length) _ (store_fresh (summary s) x t v) (room_test ∙ h)
            ∙ ap (λ a. view (set x.memory a v) (with_phase x.state (Storing (further t)))) at;
        ledger = cond-true has_room _ _ h;
        counts = record { many = K.many; newest = K.newest; place = K.place; room = K.room; fill = ap (λ k. k + 1) K.fill };
        total = refl;
        table = table_with_byte s L gone waiting own x.memory d filled v C there (own_below d there) less;
        filling = record {
          row = F.row;
          fits = omega arith;
          bytes = stored_further s L x.memory own filled v C.size some own_below own_once less ∙ ap (λ z. z ++ (v ∷ [])) F.bytes;
        };
      }

  latest_full : has_room ≡ false → empty own ≡ false → filled ≡ (buffer s (latest own 0)).length
  latest_full h o =
      let f = F.fits in
      let q : ltb filled (buffer s (latest own 0)).length ≡ false = ap (λ z. not z && ltb filled (buffer s (latest own 0)).length) (sym o) ∙ h in
      let q' = ltb-false filled (buffer s (latest own 0)).length q in
      omega arith

  abbrev fresh_at : ℕ → View
  fresh_at d = cond (free_for (summary s) t (descriptor (summary s) x.memory d))
      (view (set x.memory (descriptor (summary s) x.memory d).start v)
      (with_phase x.state (Storing (entering t d (descriptor (summary s) x.memory d)))))
      (view x.memory (missed x.state))

  store_is_fresh : has_room ≡ false → store (summary s) x t v ≡ fresh_at wanted_buffer
  store_is_fresh h = cond-false (ltb t.filled t.length) _ (store_fresh (summary s) x t v) (room_test ∙ h) ∙ ap fresh_at wanted_is

  used_test : ltb t.used (number s) ≡ eqb (times wanted_buffer own) 0
  used_test = ap (λ u. ltb u (number s)) K.many ∙ all_used_test s L own x.state.curr F.row cn own_once

  abbrev fill_next : ℕ → ℕ → Fill
  fill_next d n = cond (eqb n 0) (record { own = own ++ (d ∷ []); filled = 1; missed = false }) (record { own = own; filled = filled; missed = true })

  fill_is_next : has_room ≡ false →
      fill_one s (flat gone waiting) (filling_of own filled) ≡ fill_next wanted_buffer (held_gone gone wanted_buffer + held_waiting waiting wanted_buffer + times wanted_buffer own)
  unfolding fill_one
  fill_is_next h =
      cond-false has_room _ _ h
      ∙ ap (λ y. fill_next (after s own y) (holders (flat gone waiting) (after s own y) + times (after s own y) own)) (after_frames_flat s gone waiting 0 ∙ sym c)
      ∙ ap (λ n. fill_next wanted_buffer (n + times wanted_buffer own)) (holders_flat gone waiting wanted_buffer)

  stores_entering : has_room ≡ false → held_gone gone wanted_buffer + held_waiting waiting wanted_buffer + times wanted_buffer own ≡ 0 →
      StoresByte s gone waiting x t own filled v sofar
  stores_entering h z =
      let m = x.memory in
      let d = wanted_buffer in
      let e = descriptor (summary s) m d in
      let dn = after_below s L own x.state.curr F.row cn in
      let vd : e ≡ vacant s d = C.free d dn (omega arith) in
      let by = L.byte d dn in
      let goes : free_for (summary s) t e ≡ true =
      and_from _ _ (and_from _ _ (used_test ∙ eq-eqb _ 0 (omega arith)) (ap (λ y. not (held y)) vd)) (ap (lawful (summary s)) vd ∙ vacant_lawful s L d dn) in
      let there : 0 < times d (own ++ (d ∷ [])) = let a = times_append d own (d ∷ []) in let a' = times_head d [] in omega arith in
      record {
        t' = entering t d (vacant s d);
        own' = own ++ (d ∷ []);
        filled' = 1;
        m' = set m ((buffer s d).start.0 + 0) v;
        board = store_is_fresh h ∙ cond-true (free_for (summary s) t e) _ (view m (missed x.state)) goes
            ∙ ap (λ y. view (set m y.start v) (with_phase x.state (Storing (entering t d y)))) vd
            ∙ ap (λ a. view (set m a v) (with_phase x.state (Storing (entering t d (vacant s d))))) (sym (add-zero (buffer s d).start.0));
        ledger = fill_is_next h ∙ ap (fill_next d) z;
        counts = record {
          many = ap (λ u. u + 1) K.many ∙ sym (length_push own d);
          newest = sym (latest_push own d 0);
          place = ap (λ b. b.start.0) (sym (last_buffer_push s own d));
          room = ap (λ b. b.length) (sym (last_buffer_push s own d));
          fill = refl;
        };
        total = refl;
        table = table_with_byte s L gone waiting (own ++ (d ∷ [])) m d 0 v (table_with_buffer s L gone waiting own m d C z) there dn by;
        filling = record {
          row = row_append s L own (d ∷ []) x.state.curr F.row (refl, tt);
          fits = rw (latest_push own d 0) by;
          bytes = stored_entering s L m own d filled v C.size dn (omega arith) own_below F.fits (latest_full h) ∙ ap (λ y. y ++ (v ∷ [])) F.bytes;
        };
      }

  misses : has_room ≡ false → 0 < held_gone gone wanted_buffer + held_waiting waiting wanted_buffer + times wanted_buffer own →
      MissesByte s gone waiting x t own filled v
  misses h z =
      let m = x.memory in
      let d = wanted_buffer in
      let e = descriptor (summary s) m d in
      let stops : free_for (summary s) t e ≡ false =
      and_left (ltb t.used (number s) && not (held e)) (lawful (summary s) e) (⊎_elim
      (λ y. and_left (ltb t.used (number s)) (not (held e)) (used_test ∙ ne_eqb (times d own) 0 (λ q. omega arith)))
      (λ y. and_right (ltb t.used (number s)) (not (held e)) (ap not (held_when s L gone waiting own m C d (omega arith)))) (cases_lt 0 (times d own))) in
      record {
        board = store_is_fresh h ∙ cond-false (free_for (summary s) t e) _ (view m (missed x.state)) stops;
        ledger = fill_is_next h ∙ cond-false (eqb (held_gone gone d + held_waiting waiting d + times d own) 0) _ _ (ne_eqb _ 0 (λ q. omega arith));
      }

  pub store_step : MissesByte s gone waiting x t own filled v ⊎ StoresByte s gone waiting x t own filled v sofar
  store_step = ⊎_elim
      (λ h. inr (stores_further h))
      (λ h. ⊎_elim (λ z. inl (misses h z)) (λ z. inr (stores_entering h (omega arith)))
      (cases_lt 0 (held_gone gone wanted_buffer + held_waiting waiting wanted_buffer + times wanted_buffer own)))
      (cases_Bool has_room)
