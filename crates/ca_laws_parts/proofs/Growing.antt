-- What one end did on a circuit, as more is read and sent: what was said of
-- earlier messages stays so.
use Rattle.std.proofs.Common.{◌≡◌, ◌≢◌, ℕ, ◌+◌, ◌<◌, ◌≤◌, ◌⊎◌, inl, inr, List, [], ◌∷◌, length, Some, refl, ◌∙◌, subst, arith}
use Rattle.std.proofs.lemmas.List.{length-append}
use Rattle.ca_text.specs.declared.command.Command.TheVariants as command
use Rattle.ca_text.specs.Place.{At}
use Rattle.ca_text.proofs.Places.{At-after, At-append, At-last, At-parts, At-snoc, At-within}
use Rattle.ca_wire.specs.Fields.{Fields}
use Rattle.ca_model.specs.Sends.{Conduct, Frees, HasChannel, HasCleared, IsDisconnect, IsFree, IsUncancelled, ReadsBetween}
use Rattle.ca_model.specs.Speech.{Cid, Creates, Gives, Is, SubId, sid_in}
use Rattle.ca_model.proofs.Tables.{length-more}
use Rattle.ca_laws_parts.specs.Conduct.{with_all_sent, with_read}

-- Messages were read after no more than was sent by then.
pub record IsTold (e : Conduct) : Type 0 where
  pub same : length e.read ≡ length e.came
  pub early : (j b : ℕ) → At e.read j b → b ≤ length e.sent

-- More was read and sent: what was read later was read after all that was sent by then.
pub record Grows (e f : Conduct) : Type 0 where
  pub sent : (p : ℕ) (m : Fields) → At e.sent p m → At f.sent p m
  pub back : (p : ℕ) (m : Fields) → p < length e.sent → At f.sent p m → At e.sent p m
  pub came : (p : ℕ) (m : Fields) → At e.came p m → At f.came p m
  pub read : (p b : ℕ) → At e.read p b → At f.read p b
  pub late : (p b : ℕ) (m : Fields) → At f.read p b → At f.came p m → (At e.read p b × At e.came p m) ⊎ (length e.sent ≤ b)

-- The client sent no CLEAR_CHANNEL of the channel of this CID.
abbrev pub NoneCleared : List Fields → (cid : ℕ) → Type 0
NoneCleared ms cid = (q : ℕ) (r : Fields) → At ms q r → Is command.ClearChannel r → r.p2 ≢ cid

-- By now it asked for the channel of this CID at place i, and sent no CLEAR_CHANNEL of it since.
abbrev pub Asked : Conduct → (i cid : ℕ) → Type 0
Asked e i cid =
    (s : Fields) × At e.sent i s × Gives s (Cid cid)
    × ((l : ℕ) (r : Fields) → i < l → At e.sent l r → Is command.ClearChannel r → r.p2 ≢ cid)

-- No SERVER_DISCONN for this CID was read after what was read at place j, among what was
-- read after message i.
abbrev pub StaysConnected : Conduct → (i j cid : ℕ) → Type 0
StaysConnected e i j cid = (l : ℕ) (r : Fields) → j < l → ReadsBetween e i (length e.sent) l r → IsDisconnect cid r → ⊥

-- By now it has a channel with this CID and SID, for which no SERVER_DISCONN was read.
abbrev pub HasNow : Conduct → (i j cid sid : ℕ) → Type 0
HasNow e i j cid sid = HasChannel e (length e.sent) i j cid sid × StaysConnected e i j cid

-- By now an EVENT_ADD of this id went out under this SID, the last that gave it, and was not
-- cancelled.
abbrev pub Added : Conduct → (sid id : ℕ) → Type 0
Added e sid id =
    (l : ℕ) × (add : Fields) × At e.sent l add × Is command.EventAdd add × (add.p1 ≡ sid) × (add.p2 ≡ id)
    × IsUncancelled e l (length e.sent) add × ((q : ℕ) (r : Fields) → l < q → At e.sent q r → Gives r (SubId id) → ⊥)

-- Message s went out at place l on the channel with this CID.
abbrev pub Went : Conduct → (l cid : ℕ) → Fields → Type 0
Went e l cid s = (i j : ℕ) × HasChannel e l i j cid (sid_in s)

-- ---- what stays so

module _ (e f : Conduct) (grows : Grows e f) where
  pub reads-forth : (i k j : ℕ) (m : Fields) → ReadsBetween e i k j m → ReadsBetween f i k j m
  reads-forth i k j m b = (b.0, grows.came j m b.1, grows.read j b.0 b.2, b.3, b.4)

  pub reads-back : (i k j : ℕ) (m : Fields) → k < length e.sent → ReadsBetween f i k j m → ReadsBetween e i k j m
  reads-back i k j m lt b = elim (grows.late j b.0 m b.2 b.1) [
    | inl old ↦ (b.0, old.1, old.0, b.3, b.4)
    | inr late ↦ (let upto : b.0 ≤ k = b.4 in absurd (omega (arith, late, upto, lt)))
  ]

  pub channel-forth : (k i j cid sid : ℕ) → k ≤ length e.sent → HasChannel e k i j cid sid → HasChannel f k i j cid sid
  channel-forth k i j cid sid le h = (
    h.0,
    h.1,
    grows.sent i h.0 h.2,
    h.3,
    reads-forth i k j h.1 h.4,
    h.5,
    h.6,
    λ l r late before at clears. h.7 l r late before (grows.back l r (omega (arith, before, le)) at) clears,
  )

  pub went-forth : (l cid : ℕ) (s : Fields) → l ≤ length e.sent → Went e l cid s → Went f l cid s
  went-forth l cid s le w = (w.0, w.1, channel-forth l w.0 w.1 cid (sid_in s) le w.2)

  pub uncancelled-forth : (l b : ℕ) (add : Fields) → b ≤ length e.sent → IsUncancelled e l b add → IsUncancelled f l b add
  uncancelled-forth l b add le u i s late before at is sid = u i s late before (grows.back i s (omega (arith, before, le)) at) is sid

  pub uncancelled-back : (l b : ℕ) (add : Fields) → IsUncancelled f l b add → IsUncancelled e l b add
  uncancelled-back l b add u i s late before at is sid = u i s late before (grows.sent i s at) is sid

  pub cleared-forth : (l b cid : ℕ) → HasCleared e l b cid → HasCleared f l b cid
  cleared-forth l b cid c = (c.0, c.1, c.2, c.3, grows.sent c.0 c.1 c.4, c.5, c.6)

  frees-forth : (l b : ℕ) (request m : Fields) → l ≤ length e.sent → b ≤ length e.sent → Frees e l b request m → Frees f l b request m
  frees-forth l b request m l_le b_le frees = elim frees [
    | inl cid ↦ inl (
      cid.0,
      elim cid.1 [
        | inl fails ↦ inl fails
        | inr clears ↦ inr (clears.0, clears.1, cleared-forth l b request.p1 clears.2)
      ],
    )
    | inr (inl ioid) ↦ inr (inl ioid)
    | inr (inr (inl sub)) ↦ inr (inr (inl (
      sub.0,
      elim sub.1 [
        | inl confirms ↦ inl (confirms.0, confirms.1, confirms.2, λ u. confirms.3 (uncancelled-back l b request u))
        | inr refuses ↦ inr (refuses.0, uncancelled-forth l b request b_le refuses.1)
      ],
    )))
    | inr (inr (inr clear)) ↦ inr (inr (inr (clear.0, clear.1, clear.2, channel-forth l clear.0 clear.1 clear.2 (sid_in request) l_le clear.3, clear.4, clear.5, cleared-forth l b clear.2 clear.6)))
  ]

  pub free-forth : (l k q : ℕ) → k ≤ length e.sent → k ≤ q → IsFree e l k → IsFree f l q
  free-forth l k q le upto v =
      let early : l < v.1 = v.7 in
      let by : v.1 ≤ k = v.8 in (
        v.0,
        v.1,
        v.2,
        v.3,
        grows.sent l v.2 v.4,
        grows.came v.0 v.3 v.5,
        grows.read v.0 v.1 v.6,
        v.7,
        omega (arith, by, upto),
        frees-forth l v.1 v.2 v.3 (omega (arith, early, by, le)) (omega (arith, by, le)) v.9,
      )

  -- what was said of a message that was sent
  pub on-channel-forth : (k : ℕ) (m : Fields) → k < length e.sent
      → ((i j cid : ℕ) × HasChannel e k i j cid (sid_in m)
      × ((Is command.ClearChannel m × (m.p2 ≡ cid))
      ⊎ ((Is command.ClearChannel m → ⊥) × ((l : ℕ) (r : Fields) → j < l → ReadsBetween e i k l r → IsDisconnect cid r → ⊥))))
      → ((i j cid : ℕ) × HasChannel f k i j cid (sid_in m)
      × ((Is command.ClearChannel m × (m.p2 ≡ cid))
      ⊎ ((Is command.ClearChannel m → ⊥) × ((l : ℕ) (r : Fields) → j < l → ReadsBetween f i k l r → IsDisconnect cid r → ⊥))))
  on-channel-forth k m lt h = (
    h.0,
    h.1,
    h.2,
    channel-forth k h.0 h.1 h.2 (sid_in m) (omega (arith, lt)) h.3,
    elim h.4 [
      | inl clears ↦ inl clears
      | inr other ↦ inr (other.0, λ l r late reads lost. other.1 l r late (reads-back h.0 k l r lt reads) lost)
    ],
  )

-- ---- a message is read

module _ (e : Conduct) (m : Fields) (told : IsTold e) where
  abbrev pub heard : Conduct
  heard = with_read (Some m) e

  pub grows-read : Grows e heard
  grows-read = record {
    sent = λ p s at. at;
    back = λ p s lt at. at;
    came = λ p s at. At-append e.came (m ∷ []) p s at;
    read = λ p b at. At-append e.read (length e.sent ∷ []) p b at;
    late = λ p b s at_b at_s. elim (At-snoc e.read (length e.sent) p b at_b) [
      | inr new ↦ (let is : b ≡ length e.sent = new.1 in inr (omega (arith, is)))
      | inl old ↦ elim (At-snoc e.came m p s at_s) [
        | inl was ↦ inl (old, was)
        | inr past ↦
            absurd (let lt : p < length e.read = At-within e.read p b old in let is : p ≡ length e.came = past.0 in let same : length e.read ≡ length e.came = told.same in omega (arith, lt, is, same))
      ]
    ];
  }

  pub told-read : IsTold heard
  told-read = record {
    same =
        let a : length heard.read ≡ length e.read + 1 = length-more e.read (length e.sent) in
        let b : length heard.came ≡ length e.came + 1 = length-more e.came m in
        let same : length e.read ≡ length e.came = told.same in
        omega (arith, a, b, same);
    early = λ j b at. elim (At-snoc e.read (length e.sent) j b at) [
      | inl old ↦ told.early j b old
      | inr new ↦ (let is : b ≡ length e.sent = new.1 in omega (arith, is))
    ];
  }

  -- it is the last that was read
  pub read-there : At heard.came (length e.came) m × At heard.read (length e.came) (length e.sent)
  read-there = (At-last e.came m, subst (λ (k : ℕ). At heard.read k (length e.sent)) told.same (At-last e.read (length e.sent)))

  pub has-read : (i j cid sid : ℕ) → (IsDisconnect cid m → ⊥) → HasNow e i j cid sid → HasNow heard i j cid sid
  has-read i j cid sid other h = (
    channel-forth e heard grows-read (length e.sent) i j cid sid (omega arith) h.0,
    λ l r late reads lost. elim (At-snoc e.came m l r reads.1) [
      | inr new ↦ other (subst (λ (z : Fields). IsDisconnect cid z) new.1 lost)
      | inl old ↦ elim (At-snoc e.read (length e.sent) l reads.0 reads.2) [
        | inl was ↦ h.1 l r late (reads.0, old, was, reads.3, reads.4) lost
        | inr new ↦
            let lt : l < length e.came = At-within e.came l r old in
            let is : l ≡ length e.read = new.0 in
            let same : length e.read ≡ length e.came = told.same in
            omega (arith, lt, is, same)
      ]
    ],
  )

  -- the reply to a CREATE_CHAN was read
  pub has-created : (i cid sid : ℕ) → Asked e i cid → Creates m sid → m.p1 ≡ cid → HasNow heard i (length e.came) cid sid
  has-created i cid sid asked creates is = (
    (
      asked.0,
      m,
      asked.1,
      asked.2,
      (length e.sent, read-there.0, read-there.1, At-within e.sent i asked.0 asked.1, omega arith),
      creates,
      is,
      λ l r late before at clears. asked.3 l r late at clears.0,
    ),
    λ l r late reads lost. (let lt : l < length heard.came = At-within heard.came l r reads.1 in let more : length heard.came ≡ length e.came + 1 = length-more e.came m in omega (arith, lt, more, late)),
  )

-- ---- messages are sent

module _ (e : Conduct) (ms : List Fields) (told : IsTold e) where
  abbrev pub said : Conduct
  said = with_all_sent ms e

  pub longer : length said.sent ≡ length e.sent + length ms
  longer = length-append e.sent ms

  pub grows-sent : Grows e said
  grows-sent = record {
    sent = λ p s at. At-append e.sent ms p s at;
    back = λ p s lt at. elim (At-parts e.sent ms p s at) [
      | inl old ↦ old
      | inr new ↦ absurd (let is : p ≡ length e.sent + new.0 = new.1 in omega (arith, is, lt))
    ];
    came = λ p s at. at;
    read = λ p b at. at;
    late = λ p b s at_b at_s. inl (at_b, at_s);
  }

  pub told-sent : IsTold said
  told-sent = record {
    same = told.same;
    early = λ j b at. (let le : b ≤ length e.sent = told.early j b at in let more : length said.sent ≡ length e.sent + length ms = longer in omega (arith, le, more));
  }

  pub asked-sent : (i cid : ℕ) → NoneCleared ms cid → Asked e i cid → Asked said i cid
  asked-sent i cid none a = (
    a.0,
    grows-sent.sent i a.0 a.1,
    a.2,
    λ l r late at clears. elim (At-parts e.sent ms l r at) [
      | inl old ↦ a.3 l r late old clears
      | inr new ↦ none new.0 r new.2 clears
    ],
  )

  pub asked-now : (q cid : ℕ) (s : Fields) → At ms q s → Gives s (Cid cid) → NoneCleared ms cid → Asked said (length e.sent + q) cid
  asked-now q cid s at gives none = (
    s,
    At-after e.sent ms q s at,
    gives,
    λ l r late there clears. elim (At-parts e.sent ms l r there) [
      | inl old ↦ absurd (let lt : l < length e.sent = At-within e.sent l r old in omega (arith, lt, late))
      | inr new ↦ none new.0 r new.2 clears
    ],
  )

  -- a channel that it had before is one that it has as it sends message k
  pub channel-later : (k i j cid sid : ℕ) → length e.sent ≤ k
      → ((q : ℕ) (r : Fields) → length e.sent + q < k → At ms q r → Is command.ClearChannel r → r.p2 ≢ cid)
      → HasChannel e (length e.sent) i j cid sid → HasChannel said k i j cid sid
  channel-later k i j cid sid le none h = (
    h.0,
    h.1,
    grows-sent.sent i h.0 h.2,
    h.3,
    (h.4.0, h.4.1, h.4.2, h.4.3, (let upto : h.4.0 ≤ length e.sent = h.4.4 in omega (arith, upto, le))),
    h.5,
    h.6,
    λ l r late before at clears. elim (At-parts e.sent ms l r at) [
      | inl old ↦ h.7 l r late (At-within e.sent l r old) old clears
      | inr new ↦ (let is : l ≡ length e.sent + new.0 = new.1 in none new.0 r (omega (arith, is, before)) new.2 clears.0)
    ],
  )

  pub connected-later : (k i j cid : ℕ) → StaysConnected e i j cid → (l : ℕ) (r : Fields) → j < l → ReadsBetween said i k l r → IsDisconnect cid r → ⊥
  connected-later k i j cid stays l r late reads lost = stays l r late (reads.0, reads.1, reads.2, reads.3, told.early l reads.0 reads.2) lost

  pub has-sent : (i j cid sid : ℕ) → NoneCleared ms cid → HasNow e i j cid sid → HasNow said i j cid sid
  has-sent i j cid sid none h = (
    channel-later (length said.sent) i j cid sid (let more : length said.sent ≡ length e.sent + length ms = longer in omega (arith, more)) (λ q r lt at. none q r at) h.0,
    λ l r late reads lost. connected-later (length said.sent) i j cid h.1 l r late reads lost,
  )

  pub uncancelled-sent : (l k : ℕ) (add : Fields) → length e.sent ≤ k
      → ((q : ℕ) (r : Fields) → length e.sent + q < k → l < length e.sent + q → At ms q r → Is command.EventCancel r → r.p2 ≢ add.p2)
      → IsUncancelled e l (length e.sent) add → IsUncancelled said l k add
  uncancelled-sent l k add le none u i s late before at is sid = elim (At-parts e.sent ms i s at) [
    | inl old ↦ u i s late (At-within e.sent i s old) old is sid
    | inr new ↦ (let place : i ≡ length e.sent + new.0 = new.1 in none new.0 s (omega (arith, place, before)) (omega (arith, place, late)) new.2 is)
  ]

  pub added-sent : (sid id : ℕ) → ((q : ℕ) (r : Fields) → At ms q r → Is command.EventCancel r → r.p2 ≢ id)
      → ((q : ℕ) (r : Fields) → At ms q r → Gives r (SubId id) → ⊥) → Added e sid id → Added said sid id
  added-sent sid id none last a = (
    a.0,
    a.1,
    grows-sent.sent a.0 a.1 a.2,
    a.3,
    a.4,
    a.5,
    uncancelled-sent a.0 (length said.sent) a.1 (let more : length said.sent ≡ length e.sent + length ms = longer in omega (arith, more)) (λ q r lt late at is same. none q r at is (same ∙ a.5)) a.6,
    λ q r late at gives. elim (At-parts e.sent ms q r at) [
      | inl old ↦ a.7 q r late old gives
      | inr new ↦ last new.0 r new.2 gives
    ],
  )

  -- an EVENT_ADD goes out, and no EVENT_CANCEL after it, nor what gives its id
  pub added-now : (q sid : ℕ) (s : Fields) → At ms q s → Is command.EventAdd s → s.p1 ≡ sid
      → ((p : ℕ) (r : Fields) → q < p → At ms p r → Is command.EventCancel r → ⊥)
      → ((p : ℕ) (r : Fields) → q < p → At ms p r → Gives r (SubId s.p2) → ⊥) → Added said sid s.p2
  added-now q sid s at adds is none last = (
    length e.sent + q,
    s,
    At-after e.sent ms q s at,
    adds,
    is,
    refl,
    λ i r late before there stops. elim (At-parts e.sent ms i r there) [
      | inl old ↦ absurd (let lt : i < length e.sent = At-within e.sent i r old in omega (arith, lt, late))
      | inr new ↦ absurd (let place : i ≡ length e.sent + new.0 = new.1 in none new.0 r (omega (arith, place, late)) new.2 stops)
    ],
    λ i r late there gives. elim (At-parts e.sent ms i r there) [
      | inl old ↦ (let lt : i < length e.sent = At-within e.sent i r old in omega (arith, lt, late))
      | inr new ↦ (let place : i ≡ length e.sent + new.0 = new.1 in last new.0 r (omega (arith, place, late)) new.2 gives)
    ],
  )
