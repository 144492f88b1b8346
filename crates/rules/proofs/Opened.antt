-- The receive table after an open: each descriptor is free, and has its buffer.
use Rattle.std.proofs.Common.{◌≡◌, ℕ, zero, suc, ◌+◌, ◌*◌, ◌/◌, ◌%◌, ◌<◌, ◌≤◌, ◌⊎◌, List, [], ◌∷◌, length, get_or, set, sym, refl, ap, ◌∙◌, subst, inl, ⊎_elim, arith}
use Rattle.std.proofs.lemmas.List.{length-set}
use Rattle.layout.specs.declared.buffer.Buffer.{Buffer}
use Rattle.rules.specs.declared.state.Descriptor.{Descriptor}
use Rattle.rules.specs.Table.{descriptor, descriptor_at}
use Rattle.rules.specs.Opening.{describe_at, described, describe_one}
use Rattle.rules.specs.Plan.{buffer, Plan, number, summary}
use Rattle.rules.proofs.Lawful.{Lawful}
use Rattle.rules.proofs.Bytes.{set_elsewhere, set_here, descriptor_same}

-- free, with the buffer u
abbrev free_with : Buffer → Descriptor
free_with u = record { flags = 0; status = 0; start = u.start.0; length = u.length; fill = 0 }

length_describe_at : (m : List ℕ) (p : ℕ) (u : Buffer) → length (describe_at m p u) ≡ length m
unfolding describe_at
length_describe_at m p u = simp length-set

-- the bytes that are written one after the other from p on
module _ (m : List ℕ) (p : ℕ) (u : Buffer) where
  abbrev after_flags : List ℕ
  after_flags = set m p 0

  abbrev after_status : List ℕ
  after_status = set after_flags (p + 1) 0

  abbrev after_start_low : List ℕ
  after_start_low = set after_status (p + 2) (u.start.0 % 256)

  abbrev after_start : List ℕ
  after_start = set after_start_low (p + 3) (u.start.0 / 256 % 256)

  abbrev after_length_low : List ℕ
  after_length_low = set after_start (p + 4) (u.length % 256)

  abbrev after_length : List ℕ
  after_length = set after_length_low (p + 5) (u.length / 256 % 256)

  abbrev after_fill_low : List ℕ
  after_fill_low = set after_length (p + 6) 0

  abbrev whole : List ℕ
  whole = set after_fill_low (p + 7) 0

  describe_elsewhere : (a : ℕ) → (a < p) ⊎ (p + 8 ≤ a) → get_or (describe_at m p u) a 0 ≡ get_or m a 0
  unfolding describe_at
  describe_elsewhere a h =
      set_elsewhere after_fill_low (p + 7) 0 a (omega arith) ∙ set_elsewhere after_length (p + 6) 0 a (omega arith)
      ∙ set_elsewhere after_length_low (p + 5) (u.length / 256 % 256) a (omega arith) ∙ set_elsewhere after_start (p + 4) (u.length % 256) a (omega arith)
      ∙ set_elsewhere after_start_low (p + 3) (u.start.0 / 256 % 256) a (omega arith) ∙ set_elsewhere after_status (p + 2) (u.start.0 % 256) a (omega arith)
      ∙ set_elsewhere after_flags (p + 1) 0 a (omega arith) ∙ set_elsewhere m p 0 a (omega arith)

  described_here : p + 8 ≤ length m → u.start.0 < 65536 → u.length < 65536 → descriptor_at (describe_at m p u) p ≡ free_with u
  unfolding describe_at descriptor_at
  described_here h us ul =
      let l0 : length after_flags ≡ length m = length-set m p 0 in
      let l1 : length after_status ≡ length m = length-set after_flags (p + 1) 0 ∙ l0 in
      let l2 : length after_start_low ≡ length m = length-set after_status (p + 2) (u.start.0 % 256) ∙ l1 in
      let l3 : length after_start ≡ length m = length-set after_start_low (p + 3) (u.start.0 / 256 % 256) ∙ l2 in
      let l4 : length after_length_low ≡ length m = length-set after_start (p + 4) (u.length % 256) ∙ l3 in
      let l5 : length after_length ≡ length m = length-set after_length_low (p + 5) (u.length / 256 % 256) ∙ l4 in
      let l6 : length after_fill_low ≡ length m = length-set after_length (p + 6) 0 ∙ l5 in
      let f7 : (a : ℕ) → a < p + 7 → get_or whole a 0 ≡ get_or after_fill_low a 0 = λ a n. set_elsewhere after_fill_low (p + 7) 0 a (omega arith) in
      let f6 : (a : ℕ) → a < p + 6 → get_or whole a 0 ≡ get_or after_length a 0 = λ a n. f7 a (omega arith) ∙ set_elsewhere after_length (p + 6) 0 a (omega arith) in
      let f5 : (a : ℕ) → a < p + 5 → get_or whole a 0 ≡ get_or after_length_low a 0 = λ a n. f6 a (omega arith) ∙ set_elsewhere after_length_low (p + 5) (u.length / 256 % 256) a (omega arith) in
      let f4 : (a : ℕ) → a < p + 4 → get_or whole a 0 ≡ get_or after_start a 0 = λ a n. f5 a (omega arith) ∙ set_elsewhere after_start (p + 4) (u.length % 256) a (omega arith) in
      let f3 : (a : ℕ) → a < p + 3 → get_or whole a 0 ≡ get_or after_start_low a 0 = λ a n. f4 a (omega arith) ∙ set_elsewhere after_start_low (p + 3) (u.start.0 / 256 % 256) a (omega arith) in
      let f2 : (a : ℕ) → a < p + 2 → get_or whole a 0 ≡ get_or after_status a 0 = λ a n. f3 a (omega arith) ∙ set_elsewhere after_status (p + 2) (u.start.0 % 256) a (omega arith) in
      let e0 : get_or whole p 0 ≡ 0 = f2 p (omega arith) ∙ set_elsewhere after_flags (p + 1) 0 p (omega arith) ∙ set_here m p 0 (omega arith) in
      let e1 : get_or whole (p + 1) 0 ≡ 0 = f2 (p + 1) (omega arith) ∙ set_here after_flags (p + 1) 0 (omega arith) in
      let e2 : get_or whole (p + 2) 0 ≡ u.start.0 % 256 = f3 (p + 2) (omega arith) ∙ set_here after_status (p + 2) (u.start.0 % 256) (omega arith) in
      let e3 : get_or whole (p + 3) 0 ≡ u.start.0 / 256 % 256 = f4 (p + 3) (omega arith) ∙ set_here after_start_low (p + 3) (u.start.0 / 256 % 256) (omega arith) in
      let e4 : get_or whole (p + 4) 0 ≡ u.length % 256 = f5 (p + 4) (omega arith) ∙ set_here after_start (p + 4) (u.length % 256) (omega arith) in
      let e5 : get_or whole (p + 5) 0 ≡ u.length / 256 % 256 = f6 (p + 5) (omega arith) ∙ set_here after_length_low (p + 5) (u.length / 256 % 256) (omega arith) in
      let e6 : get_or whole (p + 6) 0 ≡ 0 = f7 (p + 6) (omega arith) ∙ set_here after_length (p + 6) 0 (omega arith) in
      let e7 : get_or whole (p + 7) 0 ≡ 0 = set_here after_fill_low (p + 7) 0 (omega arith) in
      let start : get_or whole (p + 2) 0 + 256 * get_or whole (p + 3) 0 ≡ u.start.0 = omega arith in
      let length : get_or whole (p + 4) 0 + 256 * get_or whole (p + 5) 0 ≡ u.length = omega arith in
      let fill : get_or whole (p + 6) 0 + 256 * get_or whole (p + 7) 0 ≡ 0 = omega arith in
      (λ i. record { flags = e0 i; status = e1 i; start = start i; length = length i; fill = fill i })

pub length_described : (rbegin : ℕ) (us : List Buffer) (m : List ℕ) (d : ℕ) → length (described rbegin m d us) ≡ length m
unfolding described
length_described rbegin [] m d = refl
length_described rbegin (u ∷ us) m d =
    length_described rbegin us (describe_one rbegin m d u) (d + 1) ∙ length_describe_at m (rbegin * 256 + 8 * d) u

described_below : (rbegin : ℕ) (us : List Buffer) (m : List ℕ) (d a : ℕ) → a < rbegin * 256 + 8 * d → get_or (described rbegin m d us) a 0 ≡ get_or m a 0
unfolding described
described_below rbegin [] m d a h = refl
described_below rbegin (u ∷ us) m d a h =
    described_below rbegin us (describe_one rbegin m d u) (d + 1) a (omega arith) ∙ describe_elsewhere m (rbegin * 256 + 8 * d) u a (inl h)

module _ (s : Plan) (L : Lawful s) where
  buffer_small : (d : ℕ) → d < number s → ((buffer s d).start.0 < 65536) × ((buffer s d).length < 65536)
  buffer_small d n =
      let i = L.inside d n in
      let o = L.byte d n in
      let t = L.table in
      let r = L.room in
      let z = L.some in
      let l = L.limit in
      ⊎_elim (λ c. (omega arith, omega arith)) (λ c. (omega arith, omega arith)) (L.clear d n)

  described_each : (us : List Buffer) (m : List ℕ) (d : ℕ) → length m ≡ s.shape.size → d + length us ≤ number s →
      ((k : ℕ) → k < length us → get_or us k (record { start = record { 0 = 0 }; length = 0 }) ≡ buffer s (d + k)) →
      (k : ℕ) → k < length us → descriptor (summary s) (described s.shape.rbegin.0 m d us) (d + k) ≡ free_with (buffer s (d + k))
  unfolding described
  described_each [] m d size n are k h = absurd (omega arith)
  described_each (u ∷ us) m d size n are zero h =
      let f = s.shape.rbegin.0 in
      let r = L.room in
      let t = L.table in
      let small = buffer_small d (omega arith) in
      let e : d + 0 ≡ d = omega arith in
      let is : u ≡ buffer s d = subst (λ y. u ≡ buffer s y) e (are 0 h) in
      subst (λ y. descriptor (summary s) (described f (describe_one f m d u) (d + 1) us) y ≡ free_with (buffer s y)) (sym e)
      (descriptor_same (describe_one f m d u) (described f (describe_one f m d u) (d + 1) us) (f * 256 + 8 * d) (λ a y x. described_below f us (describe_one f m d u) (d + 1) a (omega arith))
      ∙ ap (λ v. descriptor_at (describe_at m (f * 256 + 8 * d) v) (f * 256 + 8 * d)) is
      ∙ described_here m (f * 256 + 8 * d) (buffer s d) (omega arith) small.0 small.1)
  described_each (u ∷ us) m d size n are (suc k) h =
      let f = s.shape.rbegin.0 in
      let e : d + suc k ≡ (d + 1) + k = omega arith in
      subst (λ y. descriptor (summary s) (described f (describe_one f m d u) (d + 1) us) y ≡ free_with (buffer s y)) (sym e)
      (described_each us (describe_one f m d u) (d + 1) (length_describe_at m (f * 256 + 8 * d) u ∙ size) (omega arith)
      (λ j x. let q : d + suc j ≡ (d + 1) + j = omega arith in are (suc j) (omega arith) ∙ ap (buffer s) q) k (omega arith))

  pub described_free : (m : List ℕ) → length m ≡ s.shape.size → (d : ℕ) → d < number s →
      descriptor (summary s) (described s.shape.rbegin.0 m 0 s.shape.buffers) d
      ≡ record { flags = 0; status = 0; start = (buffer s d).start.0; length = (buffer s d).length; fill = 0 }
  described_free m size d n =
      let e : 0 + d ≡ d = omega arith in
      subst (λ y. descriptor (summary s) (described s.shape.rbegin.0 m 0 s.shape.buffers) y ≡ free_with (buffer s y)) e
      (described_each s.shape.buffers m 0 size (omega arith) (λ k x. let q : k ≡ 0 + k = omega arith in ap (buffer s) q) d n)
