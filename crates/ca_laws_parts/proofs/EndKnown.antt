-- What a server's end knows of a circuit, by what it read and sent there alone, and what each
-- message and removal leaves of that.
use Rattle.std.proofs.Common.{◌≡◌, ◌≢◌, ℕ, zero, suc, ◌+◌, ◌<◌, ◌≤◌, ◌⊎◌, inl, inr, false, List, [], ◌∷◌, ◌++◌, length, Option, Some, None, refl, sym, ap, ◌∙◌, subst, arith}
use Rattle.std.specs.Prelude.{◌==◌, filter, map, nat_eq, not, option_map, unwrap_or}
use Rattle.std.proofs.lemmas.Bool.{and_from, both_ways, eq-eqb}
use Rattle.ca_text.specs.declared.command.Command.TheVariants as command
use Rattle.ca_text.specs.Limits.{arena_slots}
use Rattle.ca_text.specs.Place.{At}
use Rattle.ca_text.proofs.Places.{At-after, At-append, At-mapped, At-parts, At-snoc, At-within, some_is}
use Rattle.ca_arena.specs.declared.handle.Handle.{Handle}
use Rattle.ca_ids.specs.Table.{MayGive, Table, by_wire, held, under, with_freed, with_held}
use Rattle.ca_ids.specs.Wire.{wire_of}
use Rattle.ca_queue.specs.declared.entry.SubKey.{SubKey}
use Rattle.ca_queue.specs.Keys.{same}
use Rattle.ca_wire.specs.Fields.{Fields}
use Rattle.ca_model.specs.Due.{KnownChannel, subscription_in}
use Rattle.ca_model.specs.Sends.{Conduct, IsDisconnect, IsRefused, ReadsBetween}
use Rattle.ca_model.specs.Server.{OpenChannel, Subscription, key_of}
use Rattle.ca_model.specs.ServerSteps.{known_channel}
use Rattle.ca_model.specs.Speech.{Clears, Creates, In, Is}
use Rattle.ca_model.proofs.Tables.{freed-back, freed-few, freed-other, held-back, held-few, held-other, held-own, held-under, length-more, one-by-wire, under-wire, wire-under}
use Rattle.ca_model.proofs.Thinner.{number-or}
use Rattle.ca_laws_parts.proofs.Marks.{at-filter}
use Rattle.ca_laws_parts.specs.Conduct.{with_all_sent, with_read}
use Rattle.ca_laws_parts.proofs.Growing.{Grows, IsTold, grows-sent, longer}
use Rattle.ca_laws_parts.proofs.Spoken.{NoCancel, NoClear, NoDisconnect, NoErrors, WasCleared, cancel-read, cancel-sent, clear-read, clear-sent, disconnect-sent, read-now, refused-read, refused-sent, since-read, unrefused-now, was-read, was-sent}

-- A channel that is open was created by the message at place i, under its SID and CID, and not
-- cleared since; nor was its record removed, unless it is retired.
abbrev pub ChannelKnown : Conduct → (sid : ℕ) → OpenChannel → Type 0
ChannelKnown k sid o =
    (i : ℕ) × (m : Fields) × At k.sent i m × Creates m sid × (m.p1 ≡ o.cid) × NoClear k i sid × (o.retired ≡ false → NoDisconnect k i o.cid)

-- A subscription is on a channel that is open and not retired; its EVENT_ADD was read there, among
-- the first messages, and was not refused; and no cancel of it was read since.
abbrev pub SubKnown : Table OpenChannel → Conduct → (upto sid id : ℕ) → Type 0
SubKnown t k upto sid id =
    (h : Handle) × (o : OpenChannel) × (under t h ≡ Some o) × (wire_of h ≡ sid) × (o.retired ≡ false)
    × (i : ℕ) × (m : Fields) × At k.sent i m × Creates m sid × (m.p1 ≡ o.cid) × NoClear k i sid × NoDisconnect k i o.cid
    × (j : ℕ) × (add : Fields) × ReadsBetween k i (length k.sent) j add × Is command.EventAdd add × (add.p1 ≡ sid) × (add.p2 ≡ id)
    × NoCancel k i j sid id × (j < upto) × (IsRefused k j add → ⊥)

-- What is known of an open end with these channels and subscriptions, whose EVENT_ADDs were among
-- the first `upto` messages that were read.
pub record EndKnownTo (upto : ℕ) (t : Table OpenChannel) (subs : List Subscription) (k : Conduct) : Type 0 where
  pub few : length t ≤ arena_slots
  pub channels : (h : Handle) (o : OpenChannel) → under t h ≡ Some o → ChannelKnown k (wire_of h) o
  pub cids : (h g : Handle) (o p : OpenChannel) → under t h ≡ Some o → under t g ≡ Some p → o.cid ≡ p.cid → h ≡ g
  pub sids : (i a : ℕ) (m : Fields) → At k.sent i m → Creates m a
      → WasCleared k i a ⊎ ((h : Handle) × (o : OpenChannel) × (under t h ≡ Some o) × (wire_of h ≡ a))
  pub subscriptions : (s : Subscription) → In subs s → SubKnown t k upto s.wanted.sid s.wanted.id

abbrev pub EndKnown : Table OpenChannel → List Subscription → Conduct → Type 0
EndKnown t subs k = EndKnownTo (length k.came) t subs k

pub known-longer : (upto more : ℕ) (t : Table OpenChannel) (subs : List Subscription) (k : Conduct) → upto ≤ more → EndKnownTo upto t subs k → EndKnownTo more t subs k
known-longer upto more t subs k le known = record {
  few = known.few;
  channels = known.channels;
  cids = known.cids;
  sids = known.sids;
  subscriptions = λ s there. later s (known.subscriptions s there);
}
  where
    later : (s : Subscription) → SubKnown t k upto s.wanted.sid s.wanted.id → SubKnown t k more s.wanted.sid s.wanted.id
    later s b = (
      b.0,
      b.1,
      b.2,
      b.3,
      b.4,
      b.5,
      b.6,
      b.7,
      b.8,
      b.9,
      b.10,
      b.11,
      b.12,
      b.13,
      b.14,
      b.15,
      b.16,
      b.17,
      b.18,
      (let lt : b.12 < upto = b.19 in omega (arith, lt, le)),
      b.20,
    )

-- ---- a message is read

module _ (t : Table OpenChannel) (subs : List Subscription) (e : Conduct) (m : Fields) (told : IsTold e) (known : EndKnown t subs e) where
  abbrev pub heard : Conduct
  heard = with_read (Some m) e

  channel-heard : (h : Handle) (o : OpenChannel) → under t h ≡ Some o → (Clears m (wire_of h) → ⊥) → ChannelKnown heard (wire_of h) o
  channel-heard h o there other =
      let c = known.channels h o there in
      (c.0, c.1, c.2, c.3, c.4, clear-read e m told c.0 (wire_of h) other c.5, c.6)

  sub-heard : (u : Table OpenChannel) (sid id : ℕ) → ((h : Handle) (o : OpenChannel) → under t h ≡ Some o → wire_of h ≡ sid → under u h ≡ Some o) → (Clears m sid → ⊥)
      → (Is command.EventCancel m → m.p1 ≡ sid → m.p2 ≢ id) → SubKnown t e (length e.came) sid id → SubKnown u heard (length e.came) sid id
  sub-heard u sid id keeps other stops s = (
    s.0,
    s.1,
    keeps s.0 s.1 s.2 s.3,
    s.3,
    s.4,
    s.5,
    s.6,
    s.7,
    s.8,
    s.9,
    clear-read e m told s.5 sid other s.10,
    s.11,
    s.12,
    s.13,
    (let b = s.14 in (b.0, At-append e.came (m ∷ []) s.12 s.13 b.1, At-append e.read (length e.sent ∷ []) s.12 b.0 b.2, b.3, b.4)),
    s.15,
    s.16,
    s.17,
    cancel-read e m told s.5 s.12 sid id stops s.18,
    s.19,
    λ refused.
        (let lt : s.12 < length e.came = s.19 in
        let same : length e.read ≡ length e.came = told.same in
        s.20 (refused-read e m told s.12 s.13 (omega (arith, lt, same)) refused)),
  )

  -- a message that ends nothing
  pub heard-quiet : ((sid : ℕ) → Clears m sid → ⊥) → (Is command.EventCancel m → ⊥) → EndKnownTo (length e.came) t subs heard
  heard-quiet no_clear no_stop = record {
    few = known.few;
    channels = λ h o there. channel-heard h o there (no_clear (wire_of h));
    cids = known.cids;
    sids = λ i a r at makes. elim (known.sids i a r at makes) [
      | inl was ↦ inl (was-read e m told i a was)
      | inr held_it ↦ inr held_it
    ];
    subscriptions = λ s there.
        sub-heard t s.wanted.sid s.wanted.id (λ h o row wire. row) (no_clear s.wanted.sid) (λ stops. absurd (no_stop stops)) (known.subscriptions s there);
  }

  -- a cancel
  pub heard-cancel : (key : SubKey) → Is command.EventCancel m → m.p1 ≡ key.sid → m.p2 ≡ key.sub
      → EndKnownTo (length e.came) t (filter (λ (s : Subscription). not (same key (key_of s))) subs) heard
  heard-cancel key stops sid sub = record {
    few = known.few;
    channels = λ h o there. channel-heard h o there no-clear;
    cids = known.cids;
    sids = λ i a r at makes. elim (known.sids i a r at makes) [
      | inl was ↦ inl (was-read e m told i a was)
      | inr held_it ↦ inr held_it
    ];
    subscriptions = λ s there.
        let f = at-filter (λ (v : Subscription). not (same key (key_of v))) subs there.0 s there.1 in
        sub-heard t s.wanted.sid s.wanted.id (λ h o row wire. row) no-clear
        (λ is one also. both_ways (not (same key (key_of s)))
        (ap not (and_from (nat_eq key.sid s.wanted.sid) (nat_eq key.sub s.wanted.id) (eq-eqb key.sid s.wanted.sid (sym sid ∙ one)) (eq-eqb key.sub s.wanted.id (sym sub ∙ also)))) f.2)
        (known.subscriptions s (f.0, f.1));
  }
    where
      no-clear : {sid : ℕ} → Clears m sid → ⊥
      no-clear clears = (let n : ◌≡◌ {A = ℕ} 2 12 = sym stops ∙ clears.0 in omega (arith, n))

  -- a clear
  pub heard-clear : Is command.ClearChannel m
      → EndKnownTo (length e.came) (unwrap_or (option_map (λ (c : Handle × OpenChannel). with_freed c.0 t) (by_wire t m.p1)) t) (filter (λ (s : Subscription). not (s.wanted.sid == m.p1)) subs) heard
  heard-clear clears = go (by_wire t m.p1) refl
    where
      rest : (u : Table OpenChannel) → length u ≤ arena_slots
          → ((h : Handle) (o : OpenChannel) → under u h ≡ Some o → (under t h ≡ Some o) × (wire_of h ≡ m.p1 → ⊥))
          → ((h : Handle) (o : OpenChannel) → under t h ≡ Some o → (wire_of h ≡ m.p1 → ⊥) → under u h ≡ Some o)
          → EndKnownTo (length e.came) u (filter (λ (s : Subscription). not (s.wanted.sid == m.p1)) subs) heard
      rest u few back keeps = record {
        few = few;
        channels = λ h o there. (let b = back h o there in channel-heard h o b.0 (λ it. b.1 (sym it.1)));
        cids = λ h g o p is also same_cid. known.cids h g o p (back h o is).0 (back g p also).0 same_cid;
        sids = λ i a r at makes. elim (known.sids i a r at makes) [
          | inl was ↦ inl (was-read e m told i a was)
          | inr held_it ↦ elim (number-or (wire_of held_it.0) m.p1) [
            | inl one ↦ inl (length e.came, m, read-now e m told i (At-within e.sent i r at), (clears, sym one ∙ held_it.3))
            | inr other ↦ inr (held_it.0, held_it.1, keeps held_it.0 held_it.1 held_it.2 other, held_it.3)
          ]
        ];
        subscriptions = λ s there.
            let f = at-filter (λ (v : Subscription). not (v.wanted.sid == m.p1)) subs there.0 s there.1 in
            let other : s.wanted.sid ≡ m.p1 → ⊥ = λ one. both_ways (not (s.wanted.sid == m.p1)) (ap not (eq-eqb s.wanted.sid m.p1 one)) f.2 in
            sub-heard u s.wanted.sid s.wanted.id (λ h o row wire. keeps h o row (λ one. other (sym wire ∙ one))) (λ it. other (sym it.1))
            (λ stops. absurd (let n : ◌≡◌ {A = ℕ} 12 2 = sym clears ∙ stops in omega (arith, n))) (known.subscriptions s (f.0, f.1));
      }

      go : (o : Option (Handle × OpenChannel)) → by_wire t m.p1 ≡ o
          → EndKnownTo (length e.came) (unwrap_or (option_map (λ (c : Handle × OpenChannel). with_freed c.0 t) o) t) (filter (λ (s : Subscription). not (s.wanted.sid == m.p1)) subs) heard
      go (Some (g, p)) found =
          let w = wire-under t m.p1 (g, p) found in
          rest (with_freed g t) (let n : length (with_freed g t) ≡ length t = freed-few t g in let f : length t ≤ arena_slots = known.few in omega (arith, n, f))
          (λ h o row. (let b = freed-back t h g o row in (b.1, λ one. b.0 (one-by-wire t h g o p known.few b.1 w.0 (one ∙ sym w.1)))))
          (λ h o row other. freed-other t h g o row (λ is. other (ap (λ (z : Handle). wire_of z) is ∙ w.1)))
      go None found = rest t known.few (λ h o row. (row, λ one. none h o row one)) (λ h o row other. row)
        where
          no-some : (x : Handle × OpenChannel) → (let a : Option (Handle × OpenChannel) = None in a ≡ Some x) → ⊥
          no-some x is = cc

          none : (h : Handle) (o : OpenChannel) → under t h ≡ Some o → wire_of h ≡ m.p1 → ⊥
          none h o row one = no-some (h, o) (sym found ∙ ap (λ (n : ℕ). by_wire t n) (sym one) ∙ under-wire t h o known.few row)

  -- an EVENT_ADD on a channel that is open
  pub heard-add : (c : KnownChannel) (name : List ℕ) → In (map known_channel (held t)) c → c.sid ≡ m.p1 → c.retired ≡ false → Is command.EventAdd m
      → EndKnown t (subs ++ subscription_in m name ∷ []) heard
  heard-add c name there sid open_it adds = record {
    few = quiet.few;
    channels = quiet.channels;
    cids = quiet.cids;
    sids = quiet.sids;
    subscriptions = λ s at. elim (At-snoc subs (subscription_in m name) at.0 s at.1) [
      | inl old ↦ quiet.subscriptions s (at.0, old)
      | inr new ↦ subst (λ (v : Subscription). SubKnown t heard (length heard.came) v.wanted.sid v.wanted.id) (sym new.1) new-sub
    ];
  }
    where
      no-stop : Is command.EventCancel m → ⊥
      no-stop stops = (let n : ◌≡◌ {A = ℕ} 1 2 = sym adds ∙ stops in omega (arith, n))

      quiet : EndKnown t subs heard
      quiet =
          known-longer (length e.came) (length heard.came) t subs heard (let n : length heard.came ≡ length e.came + 1 = length-more e.came m in omega (arith, n))
          (heard-quiet (λ s clears. (let n : ◌≡◌ {A = ℕ} 1 12 = sym adds ∙ clears.0 in omega (arith, n))) no-stop)

      new-sub : SubKnown t heard (length heard.came) m.p1 m.p2
      new-sub =
          let b = At-mapped known_channel (held t) there.0 c there.1 in
          let h : Handle = b.0.0 in
          let o : OpenChannel = b.0.1 in
          let row : under t h ≡ Some o = held-under t there.0 b.0 b.1 in
          let k = quiet.channels h o row in
          let wire : wire_of h ≡ m.p1 = ap (λ (v : KnownChannel). v.sid) (sym b.2) ∙ sid in
          let live : o.retired ≡ false = ap (λ (v : KnownChannel). v.retired) (sym b.2) ∙ open_it in
          let one : ◌≡◌ {A = ℕ} (wire_of h) m.p1 = wire in (
            h,
            o,
            row,
            wire,
            live,
            k.0,
            k.1,
            k.2,
            subst (λ (n : ℕ). Creates k.1 n) one k.3,
            k.4,
            subst (λ (n : ℕ). NoClear heard k.0 n) one k.5,
            k.6 live,
            length e.came,
            m,
            read-now e m told k.0 (At-within e.sent k.0 k.1 k.2),
            adds,
            refl,
            refl,
            λ l r late reads stops. elim (since-read e m told k.0 l r reads) [
              | inl old ↦ absurd (let lt : l < length e.came = At-within e.came l r old.1 in omega (arith, lt, late))
              | inr new ↦ absurd (let is : l ≡ length e.came = new.0 in omega (arith, is, late))
            ],
            (let n : length heard.came ≡ length e.came + 1 = length-more e.came m in omega (arith, n)),
            unrefused-now e m told m,
          )

-- ---- messages are sent

-- none creates a channel
abbrev pub NoneCreate : List Fields → Type 0
NoneCreate ms = (q : ℕ) (m : Fields) → At ms q m → Is command.CreateChannel m → ⊥

-- messages by which no channel is created: those for whose CIDs a SERVER_DISCONN goes
-- out are retired by then; and no ERROR is among them, or a later message was read
pub end-sent : (upto : ℕ) (t : Table OpenChannel) (subs : List Subscription) (e : Conduct) (ms : List Fields) → IsTold e → EndKnownTo upto t subs e → NoneCreate ms
    → ((q : ℕ) (m : Fields) (h : Handle) (o : OpenChannel) → At ms q m → IsDisconnect o.cid m → under t h ≡ Some o → o.retired ≡ false → ⊥)
    → NoErrors ms ⊎ (upto < length e.read) → EndKnownTo upto t subs (with_all_sent ms e)
end-sent upto t subs e ms told known none retired errors = record {
  few = known.few;
  channels = λ h o there.
      let c = known.channels h o there in
      let g = grows-sent e ms told in
      (c.0, c.1, g.sent c.0 c.1 c.2, c.3, c.4, clear-sent e ms told c.0 (wire_of h) c.5, λ open_it. disconnect-sent e ms told c.0 o.cid (λ q m at lost. retired q m h o at lost there open_it) (c.6 open_it));
  cids = known.cids;
  sids = λ i a m at makes. elim (At-parts e.sent ms i m at) [
    | inr new ↦ absurd (none new.0 m new.2 makes.0)
    | inl old ↦ elim (known.sids i a m old makes) [
      | inl was ↦ inl (was-sent e ms told i a was)
      | inr held_it ↦ inr held_it
    ]
  ];
  subscriptions = λ s there.
      let k = known.subscriptions s there in
      let g = grows-sent e ms told in
      let more : length (e.sent ++ ms) ≡ length e.sent + length ms = longer e ms told in (
        k.0,
        k.1,
        k.2,
        k.3,
        k.4,
        k.5,
        k.6,
        g.sent k.5 k.6 k.7,
        k.8,
        k.9,
        clear-sent e ms told k.5 s.wanted.sid k.10,
        disconnect-sent e ms told k.5 (k.1).cid (λ q m at lost. retired q m k.0 k.1 at lost k.2 k.4) k.11,
        k.12,
        k.13,
        (let b = k.14 in let upto : b.0 ≤ length e.sent = b.4 in (b.0, b.1, b.2, b.3, omega (arith, upto, more))),
        k.15,
        k.16,
        k.17,
        cancel-sent e ms told k.5 k.12 s.wanted.sid s.wanted.id k.18,
        k.19,
        λ refused.
            (let lt : k.12 < upto = k.19 in
            k.20 (refused-sent e ms told k.12 k.13 (elim errors [
              | inl none ↦ inl none
              | inr past ↦ inr (omega (arith, lt, past))
            ]) refused)),
      );
}

-- A channel is created: the reply is the last of these messages, under a SID that may be given, and
-- its CID is in use by no other.
pub end-created : (upto : ℕ) (t : Table OpenChannel) (subs : List Subscription) (e : Conduct) (first last : Fields) (h : Handle) (o : OpenChannel) → IsTold e → EndKnownTo upto t subs e → MayGive t h
    → (Is command.CreateChannel first → ⊥) → (Is command.ServerDisconnect first → ⊥) → (Is command.Error first → ⊥) → Creates last (wire_of h) → last.p1 ≡ o.cid
    → ((g : Handle) (p : OpenChannel) → under t g ≡ Some p → p.cid ≡ o.cid → ⊥) → EndKnownTo upto (with_held h o t) subs (with_all_sent (first ∷ last ∷ []) e)
end-created upto t subs e first last h o told known may not_create not_lost not_error makes cid fresh = record {
  few = held-few t h o may known.few;
  channels = λ g p there. elim (held-back t g h o p there) [
    | inl own ↦ subst (λ (v : Handle × OpenChannel). ChannelKnown after (wire_of v.0) v.1) (λ i. (sym own.0 i, sym own.1 i)) new-channel
    | inr old ↦ old-channel g p old
  ];
  cids = λ g k p q is also same_cid. elim (held-back t g h o p is) [
    | inl own ↦ elim (held-back t k h o q also) [
      | inl too ↦ own.0 ∙ sym too.0
      | inr old ↦ absurd (fresh k q old (sym same_cid ∙ ap (λ (v : OpenChannel). v.cid) own.1))
    ]
    | inr old ↦ elim (held-back t k h o q also) [
      | inl too ↦ absurd (fresh g p old (same_cid ∙ ap (λ (v : OpenChannel). v.cid) too.1))
      | inr too ↦ known.cids g k p q old too same_cid
    ]
  ];
  sids = λ i a m at creates. elim (At-parts e.sent ms i m at) [
    | inr new ↦ inr (h, o, held-own t h o may, at-last new.0 m new.2 a creates)
    | inl old ↦ elim (known.sids i a m old creates) [
      | inl was ↦ inl (was-sent e ms told i a was)
      | inr held_it ↦ inr (held_it.0, held_it.1, held-other t held_it.0 h o held_it.1 may held_it.2, held_it.3)
    ]
  ];
  subscriptions = λ s there.
      let k = known.subscriptions s there in (
        k.0,
        k.1,
        held-other t k.0 h o k.1 may k.2,
        k.3,
        k.4,
        k.5,
        k.6,
        g.sent k.5 k.6 k.7,
        k.8,
        k.9,
        clear-sent e ms told k.5 s.wanted.sid k.10,
        disconnect-sent e ms told k.5 (k.1).cid (λ q m at lost. none-lost q m at lost.0) k.11,
        k.12,
        k.13,
        (let b = k.14 in let upto : b.0 ≤ length e.sent = b.4 in (b.0, b.1, b.2, b.3, omega (arith, upto, more))),
        k.15,
        k.16,
        k.17,
        cancel-sent e ms told k.5 k.12 s.wanted.sid s.wanted.id k.18,
        k.19,
        λ refused. k.20 (refused-sent e ms told k.12 k.13 (inl no-errors) refused),
      );
}
  where
    ms : List Fields
    ms = first ∷ last ∷ []

    after : Conduct
    after = with_all_sent ms e

    g : Grows e after
    g = grows-sent e ms told

    more : length (e.sent ++ ms) ≡ length e.sent + length ms
    more = longer e ms told

    none-lost : (q : ℕ) (m : Fields) → At ms q m → Is command.ServerDisconnect m → ⊥
    none-lost zero m at is = not_lost (subst (λ (z : Fields). Is command.ServerDisconnect z) (sym (some_is first m at)) is)
    none-lost (suc zero) m at is = (let n : ◌≡◌ {A = ℕ} 18 27 = sym makes.0 ∙ ap (λ (z : Fields). z.command) (some_is last m at) ∙ is in omega (arith, n))
    none-lost (suc (suc q)) m at is = cc

    no-errors : NoErrors ms
    no-errors zero m at is = not_error (subst (λ (z : Fields). Is command.Error z) (sym (some_is first m at)) is)
    no-errors (suc zero) m at is = (let n : ◌≡◌ {A = ℕ} 18 11 = sym makes.0 ∙ ap (λ (z : Fields). z.command) (some_is last m at) ∙ is in omega (arith, n))
    no-errors (suc (suc q)) m at is = cc

    at-last : (q : ℕ) (m : Fields) → At ms q m → (a : ℕ) → Creates m a → wire_of h ≡ a
    at-last zero m at a creates = absurd (not_create (subst (λ (z : Fields). Is command.CreateChannel z) (sym (some_is first m at)) creates.0))
    at-last (suc zero) m at a creates = sym makes.1 ∙ ap (λ (z : Fields). z.p2) (some_is last m at) ∙ creates.1
    at-last (suc (suc q)) m at a creates = cc

    old-channel : (g : Handle) (p : OpenChannel) → under t g ≡ Some p → ChannelKnown after (wire_of g) p
    old-channel h p there =
        let c = known.channels h p there in
        (c.0, c.1, g.sent c.0 c.1 c.2, c.3, c.4, clear-sent e ms told c.0 (wire_of h) c.5, λ open_it. disconnect-sent e ms told c.0 p.cid (λ q m at lost. none-lost q m at lost.0) (c.6 open_it))

    new-channel : ChannelKnown after (wire_of h) o
    new-channel = (
      length e.sent + 1,
      last,
      At-after e.sent ms 1 last refl,
      makes,
      cid,
      λ j r reads clears. (let early : reads.0 ≤ length e.sent = told.early j reads.0 reads.2 in let lt : length e.sent + 1 < reads.0 = reads.3 in omega (arith, early, lt)),
      λ open_it l m late at lost. elim (At-parts e.sent ms l m at) [
        | inl old ↦ absurd (let lt : l < length e.sent = At-within e.sent l m old in omega (arith, lt, late))
        | inr new ↦ none-lost new.0 m new.2 lost.0
      ],
    )
