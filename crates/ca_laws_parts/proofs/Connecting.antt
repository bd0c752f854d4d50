-- What it leaves of what is known of a client and one circuit that a circuit is connected,
-- and that an end ends.
use Rattle.std.proofs.Common.{◌≡◌, ℕ, zero, suc, ◌+◌, ◌⊎◌, inl, inr, Bool, true, false, cond, List, [], ◌∷◌, ◌++◌, length, Option, Some, None, refl, sym, ap, ◌∙◌, subst, arith}
use Rattle.std.specs.Prelude.{filter, filter_map, is_none, map, option_and_then}
use Rattle.std.specs.List.{cons_option}
use Rattle.std.proofs.lemmas.Bool.{both_ways}
use Rattle.ca_text.specs.declared.command.Command.TheVariants as command
use Rattle.ca_text.specs.Place.{At}
use Rattle.ca_text.proofs.Places.{At-after, At-parts, some_is}
use Rattle.ca_arena.specs.declared.handle.Handle.{Handle}
use Rattle.ca_ids.specs.Table.{held, same_handle, under}
use Rattle.ca_wire.specs.Fields.{Fields}
use Rattle.ca_wire.specs.Messages.{name_request, version_request}
use Rattle.ca_model.specs.Answers.{Closing, Sending}
use Rattle.ca_model.specs.Client.{Channel, Client, ClientCircuit, Connection, Creating, Live, Native, On, Phase, connection_at, ended, is_on_in, sending}
use Rattle.ca_model.specs.ClientEnds.{ConnectsOn, begun, creating, creations, is_connecting, of_circuit, set_up}
use Rattle.ca_model.specs.Hears.{create_sent}
use Rattle.ca_model.specs.Sends.{Conduct, LegalClient}
use Rattle.ca_model.specs.Placed.{IsPlaced}
use Rattle.ca_model.proofs.Changes.{on-phase}
use Rattle.ca_model.proofs.Handles.{handle-or, same-not}
use Rattle.ca_model.proofs.Hearing.{keeps-begun}
use Rattle.ca_model.proofs.Letting.{ends-ended}
use Rattle.ca_model.proofs.Placed.{keeps-sending}
use Rattle.ca_model.proofs.Standings.{at-filter-map, is-on}
use Rattle.ca_model.proofs.Tables.{all-back, under-held}
use Rattle.ca_laws_parts.specs.Held.{AreFew}
use Rattle.ca_laws_parts.specs.ClientRows.{sent_on}
use Rattle.ca_laws_parts.specs.Conduct.{nothing_done, with_all_sent}
use Rattle.ca_laws_parts.proofs.CallsAsking.{few-thins}
use Rattle.ca_laws_parts.proofs.Backs.{backs-ended, ended-off, subscribes-on}
use Rattle.ca_laws_parts.proofs.Calling.{rests-ended}
use Rattle.ca_laws_parts.proofs.Giving.{given-connected}
use Rattle.ca_laws_parts.proofs.Growing.{IsTold}
use Rattle.ca_laws_parts.proofs.Rests.{is_over}
use Rattle.ca_laws_parts.proofs.Sound.{Base, Sound, Turn, turned}
use Rattle.ca_laws_parts.proofs.Turns.{keeps-rests, live-linked, overs-back, sound-off, sound-silent, talks, turn-sending}

-- ---- an end ends

pub sound-ended : (on c : Handle) (x : Client) (e : Conduct) → Sound on x e → Sound on (ended c x) e
sound-ended on c x e sound = elim (handle-or c on) [
  | inl same ↦
      sound-off on x (ended c x) e (subst (λ (k : Handle). is_none (connection_at (ended c x) k) ≡ true) same (ended-off c x)) (few-thins x (ended c x) (ends-ended c x).thins sound.base.few)
      ((ends-ended c x).placed sound.base.placed) (backs-ended on c x).cancelled sound.base
  | inr other ↦
      let b = backs-ended on c x in
      sound-silent on x (ended c x) e (few-thins x (ended c x) (ends-ended c x).thins sound.base.few) ((ends-ended c x).placed sound.base.placed) b
      (λ connected. sym ((ends-ended c x).links on (λ same. other (sym same))) ∙ connected)
      (λ l s id at gives held. inl (keeps-rests on x (ended c x) e [] (overs-back on x (ended c x) [] b.channels) (rests-ended on c x other) b.requests (subscribes-on x.subscriptions (ended c x).subscriptions b.subscriptions) l s id held)) sound
]

-- ---- nothing goes out on another circuit

none-filtered : (p : Sending → Bool) (sent : List Sending) → ((i : ℕ) (s : Sending) → At sent i s → p s ≡ false) → filter p sent ≡ []
none-filtered p [] none = refl
none-filtered p (s ∷ sent) none = ap (λ (b : Bool). cond b (s ∷ filter p sent) (filter p sent)) (none 0 s refl) ∙ none-filtered p sent (λ i r at. none (suc i) r at)

pub elsewhere : (on c : Handle) (sent : List Sending) → ((i : ℕ) (s : Sending) → At sent i s → s.circuit ≡ c) → (c ≡ on → ⊥) → sent_on on sent ≡ []
elsewhere on c sent all other =
    ap (λ (l : List Sending). map (λ (s : Sending). s.message) l)
    (none-filtered (λ (s : Sending). same_handle s.circuit on) sent (λ i s at. same-not s.circuit on (λ same. other (sym (all i s at) ∙ same))))

-- ---- a circuit is connected

abbrev says-name : List Sending → Type 0
says-name sent = (i : ℕ) (s : Sending) → At sent i s → (talks (s.message).command ≡ false) ⊎ ((s.message).command ≡ 18)

module _ (x : Client) (c : Handle) (d : ClientCircuit) where
  abbrev pub all-begun : List Sending
  all-begun = set_up x.peer c d ++ creations c x

  set-at : (i : ℕ) (s : Sending) → At (set_up x.peer c d) i s → (s.circuit ≡ c) × (talks (s.message).command ≡ false)
  set-at zero s at = (let one = some_is (of_circuit c (version_request d.priority)) s at in (ap (λ (v : Sending). v.circuit) (sym one), ap (λ (v : Sending). talks (v.message).command) (sym one)))
  set-at (suc zero) s at =
      (let one = some_is (of_circuit c (name_request command.ClientName x.peer.user)) s at in (ap (λ (v : Sending). v.circuit) (sym one), ap (λ (v : Sending). talks (v.message).command) (sym one)))
  set-at (suc (suc zero)) s at =
      (let one = some_is (of_circuit c (name_request command.HostName x.peer.host)) s at in (ap (λ (v : Sending). v.circuit) (sym one), ap (λ (v : Sending). talks (v.message).command) (sym one)))
  set-at (suc (suc (suc i))) s at = absurd (none i s at)
    where
      none : (i : ℕ) (s : Sending) → At [] i s → ⊥
      none i s at = cc

  abbrev asks-one : Handle × Channel → Option Sending
  asks-one e = cond (is_on_in is_connecting c e.1) (Some (create_sent c e.0 e.1)) None

  created-at : (i : ℕ) (s : Sending) → At (creations c x) i s → (v : Handle × Channel) × (s ≡ create_sent c v.0 v.1)
  created-at i s at =
      let f = at-filter-map asks-one (held x.channels) i s at in
      (f.1, go f.1 (is_on_in is_connecting c f.1.1) f.3)
    where
      go : (v : Handle × Channel) (b : Bool) → cond b (Some (create_sent c v.0 v.1)) None ≡ Some s → s ≡ create_sent c v.0 v.1
      go v true is = sym (some_is (create_sent c v.0 v.1) s is)
      go v false is = absurd cc

  pub begun-at : (i : ℕ) (s : Sending) → At all-begun i s → (s.circuit ≡ c) × ((talks (s.message).command ≡ false) ⊎ ((s.message).command ≡ 18))
  begun-at i s at = elim (At-parts (set_up x.peer c d) (creations c x) i s at) [
    | inl first ↦ (let r = set-at i s first in (r.0, inl r.1))
    | inr later ↦ (let r = created-at later.0 s later.2 in (ap (λ (v : Sending). v.circuit) r.1, inr (ap (λ (v : Sending). (v.message).command) r.1)))
  ]

  -- a channel that waits is asked for
  there-mapped : (xs : List (Handle × Channel)) (j : ℕ) (v : Handle × Channel) (s : Sending) → At xs j v → asks-one v ≡ Some s → (i : ℕ) × At (filter_map asks-one xs) i s
  there-mapped [] j v s at is = absurd cc
  there-mapped (z ∷ xs) zero v s at is = (0, subst (λ (o : Option Sending). At (cons_option o (filter_map asks-one xs)) 0 s) (sym (ap asks-one (some_is z v at) ∙ is)) refl)
  there-mapped (z ∷ xs) (suc j) v s at is = (let r = there-mapped xs j v s at is in go (asks-one z) r.0 r.1)
    where
      go : (o : Option Sending) (i : ℕ) → At (filter_map asks-one xs) i s → (k : ℕ) × At (cons_option o (filter_map asks-one xs)) k s
      go (Some w) i h = (suc i, h)
      go None i h = (i, h)

  pub asked-for : (h : Handle) (ch : Channel) → under x.channels h ≡ Some ch → is_on_in is_connecting c ch ≡ true → (i : ℕ) × At all-begun i (create_sent c h ch)
  asked-for h ch there waits =
      let r = under-held x.channels h ch there in
      let m = there-mapped (held x.channels) r.0 (h, ch) (create_sent c h ch) r.1 (ap (λ (b : Bool). cond b (Some (create_sent c h ch)) None) waits) in
      (length (set_up x.peer c d) + m.0, At-after (set_up x.peer c d) (creations c x) m.0 (create_sent c h ch) m.1)

-- what a channel is as the circuit on which it may wait is connected
pub begun-row : (c : Handle) (x : Client) (h : Handle) (w : Channel) → under (begun c x).channels h ≡ Some w
    → (ch : Channel) × (under x.channels h ≡ Some ch) × (((is_on_in is_connecting c ch ≡ true) × (w.standing ≡ On c (Creating 0))) ⊎ ((is_on_in is_connecting c ch ≡ false) × (w ≡ ch)))
begun-row c x h w is =
    let b = all-back (creating c) x.channels h w is in
    (b.0, b.1, go b.0 (is_on_in is_connecting c b.0) refl b.2)
  where
    go : (ch : Channel) (b : Bool) → is_on_in is_connecting c ch ≡ b → w ≡ cond b (record ch { standing = On c (Creating 0) }) ch
        → ((is_on_in is_connecting c ch ≡ true) × (w.standing ≡ On c (Creating 0))) ⊎ ((is_on_in is_connecting c ch ≡ false) × (w ≡ ch))
    go ch true waits same = inl (waits, ap (λ (z : Channel). z.standing) same)
    go ch false waits same = inr (waits, same)

pub no-told : IsTold nothing_done
no-told = record { same = refl; early = λ j b at. absurd (none j b at) }
  where
    none : (j b : ℕ) → At [] j b → ⊥
    none j b at = cc

none-there : (j : ℕ) (m : Fields) → At [] j m → ⊥
none-there j m at = cc

pub no-legal : LegalClient nothing_done
no-legal = record {
  on_channel = λ k m at is. absurd (none-there k m at);
  cancels = λ k m at is. absurd (none-there k m at);
  ids = λ l k r m a b lt at_r at_m gives_r gives_m same. absurd (none-there k m at_m);
}

-- nothing was done yet on a circuit that is not connected
pub base-nothing : (on : Handle) (x : Client) → is_none (connection_at x on) ≡ true → AreFew x → IsPlaced x → Base on x nothing_done
base-nothing on x off few placed = record {
  few = few;
  placed = placed;
  told = no-told;
  adds = λ g d ch n rights there stands on_it live. absurd (both_ways (is_none (connection_at x on)) (live-linked on x d.channel ch (Live n rights) placed on_it live refl) off);
  stopped = λ g d l s there stops at. absurd (none-there l s at);
  held = λ connected l s id at gives. absurd (none-there l s at);
  legal = no-legal;
}

module _ (on : Handle) (x : Client) (c : Handle) (d : ClientCircuit) (there : under x.circuits c ≡ Some d) (none : d.connection ≡ None) (few : AreFew x) (placed : IsPlaced x) where
  off : is_none (connection_at x c) ≡ true
  off = ap (λ (o : Option ClientCircuit). is_none (option_and_then (λ (v : ClientCircuit). v.connection) o)) there ∙ ap (λ (o : Option Connection). is_none o) none

  begun-few : AreFew (begun c x)
  begun-few = few-thins x (begun c x) (keeps-begun c d x there none).thins few

  begun-placed : IsPlaced (begun c x)
  begun-placed = (keeps-begun c d x there none).placed placed

  -- each channel on it waits
  all-wait : (h : Handle) (ch : Channel) (p : Phase) → under x.channels h ≡ Some ch → ch.standing ≡ On c p → is_on_in is_connecting c ch ≡ true
  all-wait h ch p row stands = is-on is_connecting c ch p stands ∙ placed.waiting h ch c p row stands ∙ off

  not-live : (n : Native) (rights : ℕ) → Creating 0 ≡ Live n rights → ⊥
  not-live n rights e = cc

  -- on the circuit itself
  turn-begun : Turn c x (begun c x) nothing_done (all-begun x c d)
  turn-begun = record {
    few = begun-few;
    placed = begun-placed;
    stands = λ h w p row stands.
        let r = begun-row c x h w row in
        elim r.2 [
          | inl waits ↦
              let a = asked-for x c d h r.0 r.1 waits.0 in
              inr (0, sym (on-phase c c (Creating 0) p (sym waits.1 ∙ stands)), a.0, create_sent c h r.0, a.1, refl, (refl, refl))
          | inr same ↦ absurd (both_ways (is_on_in is_connecting c r.0) same.0 (all-wait h r.0 p r.1 (ap (λ (z : Channel). z.standing) (sym same.1) ∙ stands)))
        ];
    cleared = λ i s h w p at here clears row stands same. absurd (other i s 12 at clears refl (λ n. omega (arith, n)));
    adds = λ g v w n rights row stands on_it live.
        let r = begun-row c x v.channel w on_it in
        elim r.2 [
          | inl waits ↦ absurd (not-live n rights (on-phase c c (Creating 0) (Live n rights) (sym waits.1 ∙ live)))
          | inr same ↦ absurd (both_ways (is_on_in is_connecting c r.0) same.0 (all-wait v.channel r.0 (Live n rights) r.1 (ap (λ (z : Channel). z.standing) (sym same.1) ∙ live)))
        ];
    cancelled = λ i s g v at here stops row it same. other i s 2 at stops refl (λ n. omega (arith, n));
    stops = λ g v row stops. inl (v, row, stops);
    alone = λ i j s r at_s at_r ends. absurd (elim ends [
      | inl clears ↦ other i s 12 at_s clears refl (λ n. omega (arith, n))
      | inr stops ↦ other i s 2 at_s stops refl (λ n. omega (arith, n))
    ]);
    goes = λ i s at here which. absurd (elim which [
      | inl reads ↦ other i s 15 at reads refl (λ n. omega (arith, n))
      | inr (inl puts) ↦ other i s 19 at puts refl (λ n. omega (arith, n))
      | inr (inr (inl writes)) ↦ other i s 4 at writes refl (λ n. omega (arith, n))
      | inr (inr (inr (inl adds))) ↦ other i s 1 at adds refl (λ n. omega (arith, n))
      | inr (inr (inr (inr (inl stops)))) ↦ other i s 2 at stops refl (λ n. omega (arith, n))
      | inr (inr (inr (inr (inr clears)))) ↦ other i s 12 at clears refl (λ n. omega (arith, n))
    ]);
    overs = λ h o.
        let r = begun-row c x h o.0 o.2 in
        elim r.2 [
          | inl waits ↦ absurd (both_ways false refl (ap is_over (on-phase c c (Creating 0) o.1 (sym waits.1 ∙ o.3)) ∙ o.4))
          | inr same ↦ absurd (both_ways (is_on_in is_connecting c r.0) same.0 (all-wait h r.0 o.1 r.1 (ap (λ (z : Channel). z.standing) (sym same.1) ∙ o.3)))
        ];
    cancels = λ i s at here stops. absurd (other i s 2 at stops refl (λ n. omega (arith, n)));
    opens = λ connected. inr refl;
    linked = λ i s id at here gives. inr refl;
    keeps = λ l s id at gives held. absurd (none-there l s at);
  }
    where
      talks-so : (n : ℕ) → talks n ≡ true → (n ≡ 18 → ⊥) → (i : ℕ) (s : Sending) → At (all-begun x c d) i s → (s.message).command ≡ n → ⊥
      talks-so n talks_n differ i s at is = elim (begun-at x c d i s at).1 [
        | inl plain ↦ both_ways (talks (s.message).command) plain (ap talks is ∙ talks_n)
        | inr creates ↦ differ (sym is ∙ creates)
      ]

      other : (i : ℕ) (s : Sending) (n : ℕ) → At (all-begun x c d) i s → (s.message).command ≡ n → talks n ≡ true → (n ≡ 18 → ⊥) → ⊥
      other i s n at is talks_n differ = talks-so n talks_n differ i s at is

  pub sound-begun : (k : Option Closing) (sent : List Sending) (y : Client) → ConnectsOn x c (Some d) k sent y → k ≡ None → Sound c y (with_all_sent (sent_on c sent) nothing_done)
  sound-begun None sent y does is =
      subst (λ (v : Client × List Sending). Sound c v.0 (with_all_sent (sent_on c v.1) nothing_done)) (λ i. (sym does.1 i, sym does.0 i))
      (turned c x (sending all (begun c x)) nothing_done all (base-nothing c x off few placed)
      (turn-sending c x (begun c x) nothing_done all (keeps-sending all (begun c x)).links turn-begun)
      (given-connected c x c d None all (sending all (begun c x)) few (refl, refl)))
    where
      all : List Sending
      all = all-begun x c d
  sound-begun (Some k) sent y does is = absurd (no-some k is)
    where
      no-some : (k : Closing) → (let o : Option Closing = None in Some k ≡ o) → ⊥
      no-some k e = cc
