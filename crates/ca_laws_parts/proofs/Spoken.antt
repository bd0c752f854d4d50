-- What a server did on a circuit, as it reads and sends more: what it may send stays so.
use Rattle.std.proofs.Common.{◌≡◌, ◌≢◌, ℕ, ◌+◌, ◌<◌, ◌≤◌, ◌%◌, ◌⊎◌, inl, inr, List, [], ◌∷◌, length, Some, sym, ap, ◌∙◌, subst, arith}
use Rattle.ca_text.specs.declared.command.Command.TheVariants as command
use Rattle.ca_text.specs.Limits.{arena_slots}
use Rattle.ca_text.specs.Place.{At}
use Rattle.ca_text.proofs.Places.{At-append, At-last, At-one, At-or, At-parts, At-snoc, At-within}
use Rattle.ca_wire.specs.Fields.{Fields}
use Rattle.ca_model.specs.Sends.{Conduct, IsConnected, IsDisconnect, IsOpenAt, IsRefused, LegalServer, ReadsBetween}
use Rattle.ca_model.specs.Speech.{Clears, Creates, Gives, Is, SubId, sid_in}
use Rattle.ca_model.proofs.Tables.{length-more}
use Rattle.ca_model.proofs.Thinner.{three-ways}
use Rattle.ca_laws_parts.specs.Conduct.{with_all_sent, with_read}
use Rattle.ca_laws_parts.proofs.Growing.{Grows, IsTold, grows-read, grows-sent, longer, read-there, reads-back, reads-forth}

-- No CLEAR_CHANNEL of this SID was read since message i was sent.
abbrev pub NoClear : Conduct → (i sid : ℕ) → Type 0
NoClear e i sid = (j : ℕ) (r : Fields) → ReadsBetween e i (length e.sent) j r → Clears r sid → ⊥

-- One was.
abbrev pub WasCleared : Conduct → (i sid : ℕ) → Type 0
WasCleared e i sid = (j : ℕ) × (r : Fields) × ReadsBetween e i (length e.sent) j r × Clears r sid

-- No SERVER_DISCONN for this CID was sent since.
abbrev pub NoDisconnect : Conduct → (i cid : ℕ) → Type 0
NoDisconnect e i cid = (l : ℕ) (m : Fields) → i < l → At e.sent l m → IsDisconnect cid m → ⊥

-- No EVENT_CANCEL of these ids was read after what was read at place j.
abbrev pub NoCancel : Conduct → (i j sid id : ℕ) → Type 0
NoCancel e i j sid id =
    (l : ℕ) (r : Fields) → j < l → ReadsBetween e i (length e.sent) l r → Is command.EventCancel r → r.p1 ≡ sid → r.p2 ≢ id

-- None of these messages is an ERROR.
abbrev pub NoErrors : List Fields → Type 0
NoErrors ms = (q : ℕ) (m : Fields) → At ms q m → Is command.Error m → ⊥

-- The last message was read after all that was sent.
abbrev pub IsFresh : Conduct → Type 0
IsFresh e = (j : ℕ) × (length e.read ≡ j + 1) × At e.read j (length e.sent)

-- ---- a message is read

module _ (e : Conduct) (m : Fields) (told : IsTold e) where
  abbrev pub heard : Conduct
  heard = with_read (Some m) e

  pub since-read : (i j : ℕ) (r : Fields) → ReadsBetween heard i (length e.sent) j r → ReadsBetween e i (length e.sent) j r ⊎ ((j ≡ length e.came) × (r ≡ m))
  since-read i j r b = elim (At-snoc e.came m j r b.1) [
    | inr new ↦ inr new
    | inl old ↦ elim (At-snoc e.read (length e.sent) j b.0 b.2) [
      | inl was ↦ inl (b.0, old, was, b.3, b.4)
      | inr new ↦
          absurd (let lt : j < length e.came = At-within e.came j r old in let is : j ≡ length e.read = new.0 in let same : length e.read ≡ length e.came = told.same in omega (arith, lt, is, same))
    ]
  ]

  pub read-now : (i : ℕ) → i < length e.sent → ReadsBetween heard i (length e.sent) (length e.came) m
  read-now i lt = (let r = read-there e m told in (length e.sent, r.0, r.1, lt, omega arith))

  pub clear-read : (i sid : ℕ) → (Clears m sid → ⊥) → NoClear e i sid → NoClear heard i sid
  clear-read i sid other none j r b clears = elim (since-read i j r b) [
    | inl old ↦ none j r old clears
    | inr new ↦ other (subst (λ (z : Fields). Clears z sid) new.1 clears)
  ]

  pub cancel-read : (i j sid id : ℕ) → (Is command.EventCancel m → m.p1 ≡ sid → m.p2 ≢ id) → NoCancel e i j sid id → NoCancel heard i j sid id
  cancel-read i j sid id other none l r late b stops = elim (since-read i l r b) [
    | inl old ↦ none l r late old stops
    | inr new ↦ λ same also. other (subst (λ (z : Fields). Is command.EventCancel z) new.1 stops) (ap (λ (z : Fields). z.p1) (sym new.1) ∙ same) (ap (λ (z : Fields). z.p2) (sym new.1) ∙ also)
  ]

  pub was-read : (i sid : ℕ) → WasCleared e i sid → WasCleared heard i sid
  was-read i sid w = (w.0, w.1, reads-forth e heard (grows-read e m told) i (length e.sent) w.0 w.1 w.2, w.3)

  -- what was refused was so before
  pub refused-read : (j : ℕ) (add : Fields) → j < length e.read → IsRefused heard j add → IsRefused e j add
  refused-read j add lt r = (
    r.0,
    r.1,
    r.2,
    elim (At-snoc e.read (length e.sent) j r.0 r.3) [
      | inl old ↦ old
      | inr new ↦ absurd (let is : j ≡ length e.read = new.0 in omega (arith, lt, is))
    ],
    r.4,
    r.5,
    r.6,
    λ c at. r.7 c (At-append e.read (length e.sent ∷ []) (j + 1) c at),
  )

  -- and the message itself is not
  pub unrefused-now : (add : Fields) → IsRefused heard (length e.came) add → ⊥
  unrefused-now add r = elim (At-snoc e.read (length e.sent) (length e.came) r.0 r.3) [
    | inl old ↦
        let lt : length e.came < length e.read = At-within e.read (length e.came) r.0 old in
        let same : length e.read ≡ length e.came = told.same in
        omega (arith, lt, same)
    | inr new ↦
        let is : r.0 ≡ length e.sent = new.1 in
        let lt : r.1 < length e.sent = At-within e.sent r.1 r.2 r.4 in
        let from : r.0 ≤ r.1 = r.5 in
        omega (arith, is, lt, from)
  ]

  pub fresh-read : IsFresh heard
  fresh-read = (length e.read, length-more e.read (length e.sent), At-last e.read (length e.sent))

-- ---- what it sent stays legal

module _ (e f : Conduct) (grows : Grows e f) where
  pub open-forth : (k i cid sid : ℕ) → k < length e.sent → IsOpenAt e k i cid sid → IsOpenAt f k i cid sid
  open-forth k i cid sid lt o = (o.0, grows.sent i o.0 o.1, o.2, o.3, o.4, λ j r reads clears. o.5 j r (reads-back e f grows i k j r lt reads) clears)

  pub connected-forth : (i k cid : ℕ) → k < length e.sent → IsConnected e i k cid → IsConnected f i k cid
  connected-forth i k cid lt c l m late before at lost = c l m late before (grows.back l m (omega (arith, before, lt)) at) lost

  pub legal-old : LegalServer e → (k : ℕ) → k < length e.sent
      → ((i a b : ℕ) (m r : Fields) → i < k → At f.sent i m → At f.sent k r → Creates m a → Creates r b
      → a % arena_slots ≡ b % arena_slots → (j : ℕ) × (c : Fields) × ReadsBetween f i k j c × Clears c a)
  legal-old legal k lt i a b m r less at_m at_r makes also same =
      let s = legal.sids i k a b m r less (grows.back i m (omega (arith, less, lt)) at_m) (grows.back k r lt at_r) makes also same in
      (s.0, s.1, reads-forth e f grows i k s.0 s.1 s.2, s.3)

  -- if what was read before the last message that was sent, and not refused, is not refused now
  pub updates-old : ((j b : ℕ) (add : Fields) → At e.read j b → b < length e.sent → IsRefused f j add → IsRefused e j add) → LegalServer e → (k : ℕ) (m : Fields) → k < length e.sent
      → At e.sent k m → Is command.EventAdd m → m.payload ≢ []
      → (i j cid : ℕ) × (add : Fields) × IsOpenAt f k i cid (sid_in add) × IsConnected f i k cid
      × ReadsBetween f i k j add × Gives add (SubId m.p2)
      × ((l : ℕ) (r : Fields) → j < l → ReadsBetween f i k l r → Is command.EventCancel r → r.p1 ≡ add.p1 → r.p2 ≢ add.p2)
      × (IsRefused f j add → ⊥)
  updates-old was legal k m lt at is some =
      let u = legal.updates k m at is some in (
        u.0,
        u.1,
        u.2,
        u.3,
        open-forth k u.0 u.2 (sid_in u.3) lt u.4,
        connected-forth u.0 k u.2 lt u.5,
        reads-forth e f grows u.0 k u.1 u.3 u.6,
        u.7,
        λ l r late reads stops same. u.8 l r late (reads-back e f grows u.0 k l r lt reads) stops same,
        λ refused. (let b = u.6 in let upto : b.0 ≤ k = b.4 in u.9 (was u.1 b.0 u.3 b.2 (omega (arith, upto, lt)) refused)),
      )

  pub confirmations-old : LegalServer e → (k : ℕ) (m : Fields) → At e.sent k m → Is command.EventAdd m → m.payload ≡ []
      → (j : ℕ) × (r : Fields) × At f.came j r × At f.read j k × Is command.EventCancel r × (r.p1 ≡ m.p1) × (r.p2 ≡ m.p2)
  confirmations-old legal k m at is none = (let c = legal.confirmations k m at is none in (c.0, c.1, grows.came c.0 c.1 c.2, grows.read c.0 k c.3, c.4, c.5, c.6))

  pub disconnects-old : LegalServer e → (k : ℕ) (m : Fields) → k < length e.sent → At e.sent k m → Is command.ServerDisconnect m
      → (i sid : ℕ) × IsOpenAt f k i m.p1 sid × IsConnected f i k m.p1
  disconnects-old legal k m lt at is = (let d = legal.disconnects k m at is in (d.0, d.1, open-forth k d.0 m.p1 d.1 lt d.2, connected-forth d.0 k m.p1 lt d.3))

pub legal-read : (e : Conduct) (m : Fields) → IsTold e → LegalServer e → LegalServer (with_read (Some m) e)
legal-read e m told legal =
    let f : Conduct = with_read (Some m) e in
    let g : Grows e f = grows-read e m told in
    record {
      sids = λ i k a b r s less at_r at_s makes also same. legal-old e f g legal k (At-within e.sent k s at_s) i a b r s less at_r at_s makes also same;
      updates = λ k s at is some. updates-old e f g (λ j b add there lt refused. refused-read e m told j add (At-within e.read j b there) refused) legal k s (At-within e.sent k s at) at is some;
      confirmations = λ k s at is none. confirmations-old e f g legal k s at is none;
      disconnects = λ k s at is. disconnects-old e f g legal k s (At-within e.sent k s at) at is;
    }

-- ---- messages are sent

module _ (e : Conduct) (ms : List Fields) (told : IsTold e) where
  abbrev pub said : Conduct
  said = with_all_sent ms e

  pub since-sent : (i k j : ℕ) (r : Fields) → ReadsBetween said i k j r → ReadsBetween e i (length e.sent) j r
  since-sent i k j r b = (b.0, b.1, b.2, b.3, told.early j b.0 b.2)

  pub still-reads : (i k j : ℕ) (r : Fields) → length e.sent ≤ k → ReadsBetween e i (length e.sent) j r → ReadsBetween said i k j r
  still-reads i k j r le b = (let upto : b.0 ≤ length e.sent = b.4 in (b.0, b.1, b.2, b.3, omega (arith, upto, le)))

  pub clear-sent : (i sid : ℕ) → NoClear e i sid → NoClear said i sid
  clear-sent i sid none j r b clears = none j r (since-sent i (length said.sent) j r b) clears

  pub cancel-sent : (i j sid id : ℕ) → NoCancel e i j sid id → NoCancel said i j sid id
  cancel-sent i j sid id none l r late b stops = none l r late (since-sent i (length said.sent) l r b) stops

  pub was-sent : (i sid : ℕ) → WasCleared e i sid → WasCleared said i sid
  was-sent i sid w =
      (w.0, w.1, still-reads i (length said.sent) w.0 w.1 (let more : length said.sent ≡ length e.sent + length ms = longer e ms told in omega (arith, more)) w.2, w.3)

  pub disconnect-sent : (i cid : ℕ) → ((q : ℕ) (m : Fields) → At ms q m → IsDisconnect cid m → ⊥) → NoDisconnect e i cid → NoDisconnect said i cid
  disconnect-sent i cid other none l m late at lost = elim (At-parts e.sent ms l m at) [
    | inl old ↦ none l m late old lost
    | inr new ↦ other new.0 m new.2 lost
  ]

  -- what is refused was so before, if no ERROR is sent, or a later message was read
  pub refused-sent : (j : ℕ) (add : Fields) → NoErrors ms ⊎ (j + 1 < length e.read) → IsRefused said j add → IsRefused e j add
  refused-sent j add which r = (
    r.0,
    r.1,
    r.2,
    r.3,
    elim (At-parts e.sent ms r.1 r.2 r.4) [
      | inl old ↦ old
      | inr new ↦ absurd (elim which [
        | inl none ↦ none new.0 r.2 new.2 r.6.0
        | inr past ↦ elim (At-or e.read (j + 1)) [
          | inr end_of ↦ omega (arith, past, end_of)
          | inl c ↦
              let upto : c.0 ≤ length e.sent = told.early (j + 1) c.0 c.1 in
              let before : r.1 < c.0 = r.7 c.0 c.1 in
              let is : r.1 ≡ length e.sent + new.0 = new.1 in
              omega (arith, upto, before, is)
        ]
      ])
    ],
    r.5,
    r.6,
    r.7,
  )

  -- what was read before the last message that was sent is not the last that was read
  fresh-past : IsFresh e → (j b : ℕ) → At e.read j b → b < length e.sent → j + 1 < length e.read
  fresh-past fresh j b at lt =
      let in_it : j < length e.read = At-within e.read j b at in
      let long : length e.read ≡ fresh.0 + 1 = fresh.1 in
      elim (three-ways j fresh.0) [
        | inl less ↦ omega (arith, less, long)
        | inr (inl one) ↦ absurd (let same : b ≡ length e.sent = At-one e.read j b (length e.sent) at (subst (λ (n : ℕ). At e.read n (length e.sent)) (sym one) fresh.2) in omega (arith, same, lt))
        | inr (inr more) ↦ absurd (omega (arith, more, long, in_it))
      ]

  refused-old : NoErrors ms ⊎ IsFresh e → (j b : ℕ) (add : Fields) → At e.read j b → b < length e.sent → IsRefused said j add → IsRefused e j add
  refused-old (inl none) j b add at lt r = refused-sent j add (inl none) r
  refused-old (inr fresh) j b add at lt r = refused-sent j add (inr (fresh-past fresh j b at lt)) r

  -- a channel that is open as message q of these is sent
  pub open-now : (q i cid sid : ℕ) (m : Fields) → At e.sent i m → Creates m sid → m.p1 ≡ cid → NoClear e i sid → IsOpenAt said (length e.sent + q) i cid sid
  open-now q i cid sid m at makes is none =
      (m, At-append e.sent ms i m at, makes, is, (let lt : i < length e.sent = At-within e.sent i m at in omega (arith, lt)), λ j r b clears. none j r (since-sent i (length e.sent + q) j r b) clears)

  pub connected-now : (q i cid : ℕ) → ((p : ℕ) (m : Fields) → p < q → At ms p m → IsDisconnect cid m → ⊥) → NoDisconnect e i cid → IsConnected said i (length e.sent + q) cid
  connected-now q i cid other none l m late before at lost = elim (At-parts e.sent ms l m at) [
    | inl old ↦ none l m late old lost
    | inr new ↦ (let is : l ≡ length e.sent + new.0 = new.1 in other new.0 m (omega (arith, is, before)) new.2 lost)
  ]

  -- what is sent is legal, if what is new is, and if no ERROR is sent, or a message was read just now
  pub legal-sent : LegalServer e → NoErrors ms ⊎ IsFresh e
      → ((i q a b : ℕ) (m r : Fields) → i < length e.sent + q → At said.sent i m → At ms q r → Creates m a → Creates r b
      → a % arena_slots ≡ b % arena_slots → (j : ℕ) × (c : Fields) × ReadsBetween said i (length e.sent + q) j c × Clears c a)
      → ((q : ℕ) (m : Fields) → At ms q m → Is command.EventAdd m → m.payload ≢ []
      → (i j cid : ℕ) × (add : Fields) × IsOpenAt said (length e.sent + q) i cid (sid_in add) × IsConnected said i (length e.sent + q) cid
      × ReadsBetween said i (length e.sent + q) j add × Gives add (SubId m.p2)
      × ((l : ℕ) (r : Fields) → j < l → ReadsBetween said i (length e.sent + q) l r → Is command.EventCancel r → r.p1 ≡ add.p1 → r.p2 ≢ add.p2)
      × (IsRefused said j add → ⊥))
      → ((q : ℕ) (m : Fields) → At ms q m → Is command.EventAdd m → m.payload ≡ []
      → (j : ℕ) × (r : Fields) × At e.came j r × At e.read j (length e.sent + q) × Is command.EventCancel r × (r.p1 ≡ m.p1) × (r.p2 ≡ m.p2))
      → ((q : ℕ) (m : Fields) → At ms q m → Is command.ServerDisconnect m
      → (i sid : ℕ) × IsOpenAt said (length e.sent + q) i m.p1 sid × IsConnected said i (length e.sent + q) m.p1)
      → LegalServer said
  legal-sent legal errors sids updates confirmations disconnects =
      let g : Grows e said = grows-sent e ms told in
      record {
        sids = λ i k a b m r less at_m at_r makes also same. elim (At-parts e.sent ms k r at_r) [
          | inl old ↦ legal-old e said g legal k (At-within e.sent k r old) i a b m r less at_m at_r makes also same
          | inr new ↦
              subst (λ (p : ℕ). (j : ℕ) × (c : Fields) × ReadsBetween said i p j c × Clears c a) (sym new.1)
              (sids i new.0 a b m r (subst (λ (p : ℕ). i < p) new.1 less) at_m new.2 makes also same)
        ];
        updates = λ k m at is some. elim (At-parts e.sent ms k m at) [
          | inl old ↦ updates-old e said g (refused-old errors) legal k m (At-within e.sent k m old) old is some
          | inr new ↦
              subst (λ (p : ℕ). (i j cid : ℕ) × (add : Fields) × IsOpenAt said p i cid (sid_in add) × IsConnected said i p cid
              × ReadsBetween said i p j add × Gives add (SubId m.p2)
              × ((l : ℕ) (r : Fields) → j < l → ReadsBetween said i p l r → Is command.EventCancel r → r.p1 ≡ add.p1 → r.p2 ≢ add.p2)
              × (IsRefused said j add → ⊥)) (sym new.1) (updates new.0 m new.2 is some)
        ];
        confirmations = λ k m at is none. elim (At-parts e.sent ms k m at) [
          | inl old ↦ confirmations-old e said g legal k m old is none
          | inr new ↦
              subst (λ (p : ℕ). (j : ℕ) × (r : Fields) × At e.came j r × At e.read j p × Is command.EventCancel r × (r.p1 ≡ m.p1) × (r.p2 ≡ m.p2)) (sym new.1)
              (confirmations new.0 m new.2 is none)
        ];
        disconnects = λ k m at is. elim (At-parts e.sent ms k m at) [
          | inl old ↦ disconnects-old e said g legal k m (At-within e.sent k m old) old is
          | inr new ↦
              subst (λ (p : ℕ). (i sid : ℕ) × IsOpenAt said p i m.p1 sid × IsConnected said i p m.p1) (sym new.1) (disconnects new.0 m new.2 is)
        ];
      }
