-- What a pump and a removal leave of what is known of a server and one circuit: the updates and
-- SERVER_DISCONNs that go out are legal.
use Rattle.std.proofs.Common.{◌≡◌, ◌≢◌, ℕ, zero, suc, ◌+◌, ◌<◌, ◌≤◌, inl, inr, Bool, true, false, ◌&&◌, ◌||◌, List, [], ◌∷◌, ◌++◌, length, Some, refl, sym, ap, ◌∙◌, subst, arith}
use Rattle.std.specs.Prelude.{◌==◌, Ok, Err, Result, not}
use Rattle.std.specs.List.{FoldsTo}
use Rattle.std.specs.Str.{bytes_eq}
use Rattle.std.proofs.lemmas.Bool.{and_from, and_parts, both_ways, cases_Bool, eq-eqb, or_left, or_right}
use Rattle.ca_text.specs.declared.command.Command.TheVariants as command
use Rattle.ca_text.specs.declared.refusal.Refusal.{Refusal}
use Rattle.ca_text.specs.Limits.{arena_slots}
use Rattle.ca_text.specs.Place.{At}
use Rattle.ca_text.proofs.Places.{At-mapped, At-parts, some_is}
use Rattle.ca_arena.specs.declared.handle.Handle.{Handle}
use Rattle.ca_dbr.specs.Elements.{Elements}
use Rattle.ca_ids.specs.Table.{Table, held, under, with_each, with_each_from}
use Rattle.ca_ids.specs.Wire.{wire_of}
use Rattle.ca_wire.specs.declared.requests.Wanted.{Wanted}
use Rattle.ca_wire.specs.Fields.{Fields}
use Rattle.ca_wire.specs.Messages.{disconnect}
use Rattle.ca_model.specs.Images.{shown_in}
use Rattle.ca_model.specs.Sends.{Conduct, IsConnected, IsDisconnect, IsOpenAt, IsRefused, LegalServer, ReadsBetween}
use Rattle.ca_model.specs.Server.{OpenChannel, ServerEnd, Subscription, key_of}
use Rattle.ca_model.specs.ServerCalls.{channels_of, disconnects, end_without, is_on, retired}
use Rattle.ca_model.specs.ServerSteps.{Leaves, Update}
use Rattle.ca_model.specs.Speech.{Creates, Gives, In, Is, SubId, sid_in, Stored}
use Rattle.ca_model.specs.Updates.{ShowsTo, update_count, update_in}
use Rattle.ca_model.proofs.Tables.{held-apart, held-under, under-held}
use Rattle.ca_laws_parts.proofs.ServerFits.{each-changed}
use Rattle.ca_laws_parts.proofs.Marks.{at-filter, filter-at}
use Rattle.ca_laws_parts.proofs.Cores.{each-there}
use Rattle.ca_laws_parts.specs.Conduct.{with_all_sent}
use Rattle.ca_laws_parts.proofs.Filtered.{filter-order, rows-apart}
use Rattle.ca_laws_parts.proofs.Growing.{Grows, IsTold, grows-sent, longer}
use Rattle.ca_laws_parts.proofs.EndKnown.{EndKnown, end-sent}
use Rattle.ca_laws_parts.proofs.Spoken.{NoClear, NoDisconnect, NoErrors, cancel-sent, clear-sent, connected-now, disconnect-sent, legal-sent, open-now, refused-sent, since-sent, still-reads, was-sent}

-- ---- updates

-- an update carries the id of its subscription
pub shows-id : (w : Wanted) (v : Stored) (m : Fields) → ShowsTo w v m → m.p2 ≡ w.id
shows-id w v m (t, typed, is) = ap (λ (z : Fields). z.p2) is ∙ go (shown_in v.value (update_count w v) t)
  where
    go : (r : Result Elements Refusal) → (update_in w v t r).p2 ≡ w.id
    go (Ok e) = refl
    go (Err r) = refl

-- what leaves the queues is of subscriptions that stand
pub leaves-all : (us : List Update) (e after : ServerEnd) → FoldsTo Leaves e us after
    → (after.channels ≡ e.channels) × (after.subscriptions ≡ e.subscriptions)
    × ((i : ℕ) (u : Update) → At us i u → In e.subscriptions u.of × ShowsTo u.of.wanted u.carries u.message)
leaves-all [] e after same = (ap (λ (z : ServerEnd). z.channels) (sym same), ap (λ (z : ServerEnd). z.subscriptions) (sym same), λ i u at. absurd (none i u at))
  where
    none : (i : ℕ) (u : Update) → At [] i u → ⊥
    none i u at = cc
leaves-all (u ∷ us) e after (mid, one, rest) =
    let r = leaves-all us mid after rest in
    let channels : mid.channels ≡ e.channels = ap (λ (z : ServerEnd). z.channels) one.leaves in
    let subs : mid.subscriptions ≡ e.subscriptions = ap (λ (z : ServerEnd). z.subscriptions) one.leaves in
    (r.0 ∙ channels, r.1 ∙ subs, λ i v at. go subs r.2 i v at)
  where
    go : mid.subscriptions ≡ e.subscriptions → ((i : ℕ) (u : Update) → At us i u → In mid.subscriptions u.of × ShowsTo u.of.wanted u.carries u.message)
        → (i : ℕ) (v : Update) → At (u ∷ us) i v → In e.subscriptions v.of × ShowsTo v.of.wanted v.carries v.message
    go subs later zero v at =
        subst (λ (z : Update). In e.subscriptions z.of × ShowsTo z.of.wanted z.carries z.message) (some_is u v at) (one.stands, one.shows)
    go subs later (suc i) v at = (let l = later i v at in (subst (λ (ss : List Subscription). In ss v.of) subs l.0, l.1))

module _ (t : Table OpenChannel) (subs : List Subscription) (k : Conduct) (ms : List Fields) (told : IsTold k) (legal : LegalServer k) (known : EndKnown t subs k)
    (each : (q : ℕ) (m : Fields) → At ms q m → Is command.EventAdd m × (m.payload ≢ []) × ((s : Subscription) × In subs s × (m.p2 ≡ s.wanted.id))) where
  abbrev pub updated : Conduct
  updated = with_all_sent ms k

  not-else : (q : ℕ) (m : Fields) → At ms q m → (n : ℕ) → m.command ≡ n → (1 ≡ n → ⊥) → ⊥
  not-else q m at n is differ = differ (sym (each q m at).0 ∙ is)

  no-errors : NoErrors ms
  no-errors q m at is = not-else q m at 11 is (λ n. omega (arith, n))

  pub updates-legal : LegalServer updated
  updates-legal =
      legal-sent k ms told legal (inl no-errors) (λ i q a b m r less at_m at_r makes also same. absurd (not-else q r at_r 18 also.0 (λ n. omega (arith, n))))
      (λ q m at is some. go q m at)
      (λ q m at is none. absurd ((each q m at).1 none))
      (λ q m at is. absurd (not-else q m at 27 is (λ n. omega (arith, n))))
    where
      go : (q : ℕ) (m : Fields) → At ms q m
          → (i j cid : ℕ) × (add : Fields) × IsOpenAt updated (length k.sent + q) i cid (sid_in add) × IsConnected updated i (length k.sent + q) cid
          × ReadsBetween updated i (length k.sent + q) j add × Gives add (SubId m.p2)
          × ((l : ℕ) (r : Fields) → j < l → ReadsBetween updated i (length k.sent + q) l r → Is command.EventCancel r → r.p1 ≡ add.p1 → r.p2 ≢ add.p2)
          × (IsRefused updated j add → ⊥)
      go q m at =
          let f = (each q m at).2 in
          let s = known.subscriptions f.0 f.1 in
          let sid_is : (s.13).p1 ≡ (f.0).wanted.sid = s.16 in (
            s.5,
            s.12,
            (s.1).cid,
            s.13,
            open-now k ms told q s.5 (s.1).cid (s.13).p1 s.6 s.7 (subst (λ (n : ℕ). Creates s.6 n) (sym sid_is) s.8) s.9 (subst (λ (n : ℕ). NoClear k s.5 n) (sym sid_is) s.10),
            connected-now k ms told q s.5 (s.1).cid (λ p r lt there lost. not-else p r there 27 lost.0 (λ n. omega (arith, n))) s.11,
            still-reads k ms told s.5 (length k.sent + q) s.12 s.13 (omega arith) s.14,
            (s.15, s.17 ∙ sym f.2),
            λ l r late reads stops same also. s.18 l r late (since-sent k ms told s.5 (length k.sent + q) l r reads) stops (same ∙ sid_is) (also ∙ s.17),
            λ refused. s.20 (refused-sent k ms told s.12 s.13 (inl no-errors) refused),
          )

  pub updates-known : EndKnown t subs updated
  updates-known =
      end-sent (length k.came) t subs k ms told known (λ q m at is. not-else q m at 18 is (λ n. omega (arith, n))) (λ q m h o at lost there open_it. not-else q m at 27 lost.0 (λ n. omega (arith, n)))
      (inl no-errors)

-- ---- a record is removed

each-from-few : {T : Type 0} (i : ℕ) (f : Handle → T → T) (t : Table T) → length (with_each_from i f t) ≡ length t
each-from-few i f [] = refl
each-from-few i f (p ∷ t) = ap (λ (n : ℕ). suc n) (each-from-few (i + 1) f t)

each-few : {T : Type 0} (f : Handle → T → T) (t : Table T) → length (with_each f t) ≡ length t
each-few f t = each-from-few 0 f t

module _ (name : List ℕ) (e : ServerEnd) (k : Conduct) (told : IsTold k) (legal : LegalServer k) (known : EndKnown e.channels e.subscriptions k) where
  abbrev lost-row : Handle × OpenChannel → Bool
  lost-row c = bytes_eq c.1.name name && not c.1.retired

  -- a SERVER_DISCONN is for a channel of the record, not retired
  lost-at : (q : ℕ) (m : Fields) → At (disconnects name e) q m
      → (c : Handle × OpenChannel) × At (channels_of name e) q c × (m ≡ disconnect c.1.cid) × (under e.channels c.0 ≡ Some c.1) × (bytes_eq c.1.name name ≡ true) × (c.1.retired ≡ false)
  lost-at q m at =
      let b = At-mapped (λ (c : Handle × OpenChannel). disconnect c.1.cid) (channels_of name e) q m at in
      let f = at-filter lost-row (held e.channels) q b.0 b.1 in
      let both = and_parts (bytes_eq b.0.1.name name) (not b.0.1.retired) f.2 in
      (b.0, b.1, b.2, held-under e.channels f.0 b.0 f.1, both.0, unretired b.0.1.retired both.1)
    where
      unretired : (b : Bool) → not b ≡ true → b ≡ false
      unretired false is = refl
      unretired true is = absurd (both_ways false refl is)

  -- two are for two CIDs
  lost-apart : (p q : ℕ) (m n : Fields) → p < q → At (disconnects name e) p m → At (disconnects name e) q n → m.p1 ≡ n.p1 → ⊥
  lost-apart p q m n lt at_m at_n same =
      let a = lost-at p m at_m in
      let b = lost-at q n at_n in
      let o = filter-order lost-row (held e.channels) p q a.0 b.0 lt a.1 b.1 in
      let cid : a.0.1.cid ≡ b.0.1.cid = ap (λ (z : Fields). z.p1) (sym a.2) ∙ same ∙ ap (λ (z : Fields). z.p1) b.2 in
      rows-apart (held e.channels) (held-apart e.channels) o.0 o.1 a.0 b.0 o.2 o.3 o.4 (known.cids a.0.0 b.0.0 a.0.1 b.0.1 a.3 b.3 cid)

  module _ (ms : List Fields) (from : (q : ℕ) (m : Fields) → At ms q m → At (disconnects name e) q m) where
    abbrev pub told-of : Conduct
    told-of = with_all_sent ms k

    lost-only : (q : ℕ) (m : Fields) → At ms q m → (n : ℕ) → m.command ≡ n → (27 ≡ n → ⊥) → ⊥
    lost-only q m at n is differ = differ (sym (ap (λ (z : Fields). z.command) (lost-at q m (from q m at)).2) ∙ is)

    no-errors-of : NoErrors ms
    no-errors-of q m at is = lost-only q m at 11 is (λ n. omega (arith, n))

    pub removal-legal : LegalServer told-of
    removal-legal =
        legal-sent k ms told legal (inl no-errors-of) (λ i q a b m r less at_m at_r makes also same. absurd (lost-only q r at_r 18 also.0 (λ n. omega (arith, n))))
        (λ q m at is some. absurd (lost-only q m at 1 is (λ n. omega (arith, n)))) (λ q m at is none. absurd (lost-only q m at 1 is (λ n. omega (arith, n)))) (λ q m at is. go q m at)
      where
        go : (q : ℕ) (m : Fields) → At ms q m → (i sid : ℕ) × IsOpenAt told-of (length k.sent + q) i m.p1 sid × IsConnected told-of i (length k.sent + q) m.p1
        go q m at =
            let a = lost-at q m (from q m at) in
            let c = known.channels a.0.0 a.0.1 a.3 in
            let cid : a.0.1.cid ≡ m.p1 = ap (λ (z : Fields). z.p1) (sym a.2) in (
              c.0,
              wire_of a.0.0,
              open-now k ms told q c.0 m.p1 (wire_of a.0.0) c.1 c.2 c.3 (c.4 ∙ cid) c.5,
              connected-now k ms told q c.0 m.p1 (λ p r lt there lost. lost-apart p q r m lt (from p r there) (from q m at) lost.1)
                  (subst (λ (n : ℕ). NoDisconnect k c.0 n) cid (c.6 a.5)),
            )

  -- the end stays open
  abbrev pub all-told : Conduct
  all-told = with_all_sent (disconnects name e) k

  -- a channel of another record is not told of
  other-name : (h : Handle) (o : OpenChannel) → under e.channels h ≡ Some o → bytes_eq o.name name ≡ false → (q : ℕ) (m : Fields) → At (disconnects name e) q m → IsDisconnect o.cid m → ⊥
  other-name h o there other q m at lost =
      let a = lost-at q m at in
      let one : a.0.0 ≡ h = known.cids a.0.0 h a.0.1 o a.3 there (ap (λ (z : Fields). z.p1) (sym a.2) ∙ lost.1) in
      let same : a.0.1 ≡ o = some_is a.0.1 o (sym (subst (λ (z : Handle). under e.channels z ≡ Some a.0.1) one a.3) ∙ there) in
      both_ways (bytes_eq o.name name) other (subst (λ (z : OpenChannel). bytes_eq z.name name ≡ true) same a.4)

  kept-name : (o : OpenChannel) → (o.retired || bytes_eq o.name name) ≡ false → (o.retired ≡ false) × (bytes_eq o.name name ≡ false)
  kept-name o is = go o.retired (bytes_eq o.name name) is
    where
      go : (a b : Bool) → (a || b) ≡ false → (a ≡ false) × (b ≡ false)
      go false false is = (refl, refl)
      go true b is = absurd (both_ways true is refl)
      go false true is = absurd (both_ways true is refl)

  abbrev retired-all : Table OpenChannel
  retired-all = with_each (retired name) e.channels

  -- a subscription that stays is on a channel of another record
  stays-other : (s : Subscription) (h : Handle) (o : OpenChannel) → under e.channels h ≡ Some o → wire_of h ≡ s.wanted.sid → o.retired ≡ false
      → is_on (channels_of name e) (key_of s) ≡ false → bytes_eq o.name name ≡ false
  stays-other s h o there wire live off = elim (cases_Bool (bytes_eq o.name name)) [
    | inr other ↦ other
    | inl same ↦
        let r = under-held e.channels h o there in
        let f = filter-at lost-row (held e.channels) r.0 (h, o) r.1 (and_from (bytes_eq o.name name) (not o.retired) same (ap not live)) in
        absurd (both_ways (is_on (channels_of name e) (key_of s)) off (any-there (channels_of name e) f.0 (h, o) f.1 (eq-eqb (wire_of h) s.wanted.sid wire)))
  ]
    where
      any-there : (cs : List (Handle × OpenChannel)) (i : ℕ) (c : Handle × OpenChannel) → At cs i c → (wire_of c.0 == s.wanted.sid) ≡ true → is_on cs (key_of s) ≡ true
      any-there [] i c at is = absurd cc
      any-there (d ∷ cs) zero c at is = or_left (wire_of d.0 == s.wanted.sid) (is_on cs (key_of s)) (subst (λ (z : Handle × OpenChannel). (wire_of z.0 == s.wanted.sid) ≡ true) (sym (some_is d c at)) is)
      any-there (d ∷ cs) (suc i) c at is = or_right (wire_of d.0 == s.wanted.sid) (is_on cs (key_of s)) (any-there cs i c at is)

  pub removal-known : EndKnown (end_without name e).channels (end_without name e).subscriptions all-told
  removal-known = record {
    few = (let n : length retired-all ≡ length e.channels = each-few (retired name) e.channels in let f : length e.channels ≤ arena_slots = known.few in omega (arith, n, f));
    channels = λ h o there.
        let u = each-changed (retired name) e.channels h o there in
        let c = known.channels h u.0 u.1 in
        let cid : (u.0).cid ≡ o.cid = ap (λ (z : OpenChannel). z.cid) (sym u.2) in (
          c.0,
          c.1,
          g.sent c.0 c.1 c.2,
          c.3,
          c.4 ∙ cid,
          clear-sent k ms told c.0 (wire_of h) c.5,
          λ open_it.
              let kept = kept-name u.0 (ap (λ (z : OpenChannel). z.retired) (sym u.2) ∙ open_it) in
              subst (λ (n : ℕ). NoDisconnect all-told c.0 n) cid (disconnect-sent k ms told c.0 (u.0).cid (λ q m at lost. other-name h u.0 u.1 kept.1 q m at lost) (c.6 kept.0)),
        );
    cids = λ h i o p is also same_cid.
        let u = each-changed (retired name) e.channels h o is in
        let v = each-changed (retired name) e.channels i p also in
        known.cids h i u.0 v.0 u.1 v.1 (ap (λ (z : OpenChannel). z.cid) (sym u.2) ∙ same_cid ∙ ap (λ (z : OpenChannel). z.cid) v.2);
    sids = λ i a m at makes. elim (At-parts k.sent ms i m at) [
      | inr new ↦ absurd (let n : ◌≡◌ {A = ℕ} 27 18 = ap (λ (z : Fields). z.command) (sym (lost-at new.0 m new.2).2) ∙ makes.0 in omega (arith, n))
      | inl old ↦ elim (known.sids i a m old makes) [
        | inl was ↦ inl (was-sent k ms told i a was)
        | inr held_it ↦ inr (held_it.0, retired name held_it.0 held_it.1, each-there (retired name) e.channels held_it.0 held_it.1 held_it.2, held_it.3)
      ]
    ];
    subscriptions = λ s there.
        let f = at-filter (λ (v : Subscription). not (is_on (channels_of name e) (key_of v))) e.subscriptions there.0 s there.1 in
        let x = known.subscriptions s (f.0, f.1) in
        let off : is_on (channels_of name e) (key_of s) ≡ false = un-not (is_on (channels_of name e) (key_of s)) f.2 in
        let other : bytes_eq (x.1).name name ≡ false = stays-other s x.0 x.1 x.2 x.3 x.4 off in (
          x.0,
          retired name x.0 x.1,
          each-there (retired name) e.channels x.0 x.1 x.2,
          x.3,
          ap (λ (b : Bool). b || bytes_eq (x.1).name name) x.4 ∙ other,
          x.5,
          x.6,
          g.sent x.5 x.6 x.7,
          x.8,
          x.9,
          clear-sent k ms told x.5 s.wanted.sid x.10,
          disconnect-sent k ms told x.5 (x.1).cid (λ q m at lost. other-name x.0 x.1 x.2 other q m at lost) x.11,
          x.12,
          x.13,
          (let b = x.14 in let upto : b.0 ≤ length k.sent = b.4 in (b.0, b.1, b.2, b.3, omega (arith, upto, more))),
          x.15,
          x.16,
          x.17,
          cancel-sent k ms told x.5 x.12 s.wanted.sid s.wanted.id x.18,
          x.19,
          λ refused. x.20 (refused-sent k ms told x.12 x.13 (inl (no-errors-of (disconnects name e) (λ q m at. at))) refused),
        );
  }
    where
      ms : List Fields
      ms = disconnects name e

      g : Grows k all-told
      g = grows-sent k ms told

      more : length (k.sent ++ ms) ≡ length k.sent + length ms
      more = longer k ms told

      un-not : (b : Bool) → not b ≡ true → b ≡ false
      un-not false is = refl
      un-not true is = absurd (both_ways false refl is)
