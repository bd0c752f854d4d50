-- What a change of a client keeps of its channels' places: one relation, and a
-- line for each change.
use Rattle.std.proofs.Common.{◌≡◌, inl, inr, ◌⊎◌, Bool, true, false, List, [], ◌∷◌, Option, Some, None, refl, sym, ap, ◌∙◌, subst}
use Rattle.std.specs.Prelude.{is_none, option_and_then, option_map, unwrap_or}
use Rattle.std.proofs.lemmas.Bool.{both_ways}
use Rattle.ca_arena.specs.declared.handle.Handle.{Handle}
use Rattle.ca_ids.specs.Table.{Table, under, with_changed}
use Rattle.ca_monitor.specs.Subscriptions.{Subscription, drains_in}
use Rattle.ca_requests.specs.Requests.{Request}
use Rattle.ca_model.specs.Answers.{Sending}
use Rattle.ca_model.specs.Client.{Channel, Client, ClientCircuit, Connection, On, Phase, Searching, Standing, connection_at, is_on_in, on_connection, phase_on, searched_again, sending, with_one_sent, with_requests, with_standing, without_channel}
use Rattle.ca_model.specs.ClientEnds.{is_connecting}
use Rattle.ca_model.specs.Placed.{HasNothingOut, WasLive, was_live}
use Rattle.ca_model.proofs.Handles.{handle-or}
use Rattle.ca_model.proofs.Tables.{changed-back, changed-other, changed-own, freed-back, freed-other}
use Rattle.ca_model.specs.Placed.{IsPlaced}
use Rattle.ca_model.proofs.Thinner.{Thins, thins-itself, thins-then}
use Rattle.ca_model.proofs.Thinner.{IsThinner, thin-changed, thin-freed, thin-itself}

-- The same circuits are connected.
abbrev pub Links : Client → Client → Type 0
Links x y = (c : Handle) → is_none (connection_at y c) ≡ is_none (connection_at x c)

-- Nothing new holds an id, channels stay placed, and the same circuits are connected.
pub record Keeps (x y : Client) : Type 0 where
  pub thins : Thins x y
  pub placed : IsPlaced x → IsPlaced y
  pub links : Links x y

pub keeps-itself : (x : Client) → Keeps x x
keeps-itself x = record { thins = thins-itself x; placed = λ p. p; links = λ c. refl }

pub keeps-then : (x y z : Client) → Keeps x y → Keeps y z → Keeps x z
keeps-then x y z a b = record { thins = thins-then x y z a.thins b.thins; placed = λ p. b.placed (a.placed p); links = λ c. b.links c ∙ a.links c }

-- ---- ends

-- both are something, and the same, or nothing
pub options-agree : {A : Type 0} (a b : Option A) → ((v : A) → a ≡ Some v → b ≡ Some v) → ((v : A) → b ≡ Some v → a ≡ Some v) → b ≡ a
options-agree (Some v) b there back = there v refl
options-agree None (Some v) there back = sym (back v refl)
options-agree None None there back = refl

pub under-other : {T : Type 0} (f : T → T) (t : Table T) (h g : Handle) → (g ≡ h → ⊥) → under (with_changed f h t) g ≡ under t g
under-other f t h g other =
    options-agree (under t g) (under (with_changed f h t) g) (λ v is. changed-other f t g h v is other) (λ v is. elim (changed-back f t g h v is) [
      | inl own ↦ absurd (other own.0)
      | inr old ↦ old.1
    ])

abbrev connection-of : Option ClientCircuit → Option Connection
connection-of o = option_and_then (λ (d : ClientCircuit). d.connection) o

-- what is done to an end that is connected
pub links-on : (f : Connection → Connection) (c : Handle) (x : Client) → Links x (on_connection f c x)
links-on f c x d = elim (handle-or d c) [
  | inr other ↦ ap (λ (o : Option ClientCircuit). is_none (connection-of o)) (under-other (with_f) x.circuits c d other)
  | inl same ↦ subst (λ (k : Handle). is_none (connection_at (on_connection f c x) k) ≡ is_none (connection_at x k)) (sym same) (go (under x.circuits c) refl)
]
  where
    with_f : ClientCircuit → ClientCircuit
    with_f e = record e { connection = option_map f e.connection }

    mapped : (o : Option Connection) → is_none (option_map f o) ≡ is_none o
    mapped (Some e) = refl
    mapped None = refl

    go : (o : Option ClientCircuit) → under x.circuits c ≡ o → is_none (connection_at (on_connection f c x) c) ≡ is_none (connection_at x c)
    go (Some u) there =
        ap (λ (w : Option ClientCircuit). is_none (connection-of w)) (changed-own with_f x.circuits c u there)
        ∙ mapped u.connection ∙ ap (λ (w : Option ClientCircuit). is_none (connection-of w)) (sym there)
    go None there =
        ap (λ (w : Option ClientCircuit). is_none (connection-of w))
        (options-agree (under x.circuits c) (under (with_changed with_f c x.circuits) c) (λ v is. absurd (none v (sym there ∙ is))) (λ v is. elim (changed-back with_f x.circuits c c v is) [
          | inl own ↦ absurd (none own.1.0 (sym there ∙ own.1.1))
          | inr old ↦ old.1
        ]))
      where
        none : (v : ClientCircuit) → let a : Option ClientCircuit = None in let b : Option ClientCircuit = Some v in a ≡ b → ⊥
        none v e = cc

-- tables as they were, and the same circuits connected
pub placed-linked : (x y : Client) → y.channels ≡ x.channels → y.requests ≡ x.requests → y.subscriptions ≡ x.subscriptions → Links x y → IsPlaced x → IsPlaced y
placed-linked x y channels requests subscriptions links p = record {
  attached = record {
    requests = λ q r is. still r.channel r.circuit (p.attached.requests q r (subst (λ (t : Table Request). under t q ≡ Some r) requests is));
    subscriptions = λ g d on is drains. still d.channel on (p.attached.subscriptions g d on (subst (λ (t : Table Subscription). under t g ≡ Some d) subscriptions is) drains);
  };
  waiting = λ h ch c q is stands. p.waiting h ch c q (subst (λ (t : Table Channel). under t h ≡ Some ch) channels is) stands ∙ sym (links c);
}
  where
    still : (channel on : Handle) → WasLive x channel on → WasLive y channel on
    still channel on was = (was.0, subst (λ (t : Table Channel). under t channel ≡ Some was.0) (sym channels) was.1, was.2)

pub keeps-on : (f : Connection → Connection) (c : Handle) (x : Client) → Keeps x (on_connection f c x)
keeps-on f c x = record { thins = thins-as-were; placed = placed-linked x (on_connection f c x) refl refl refl (links-on f c x); links = links-on f c x }
  where
    thins-as-were : Thins x (on_connection f c x)
    thins-as-were = record { channels = thin-itself x.channels; requests = thin-itself x.requests; subscriptions = thin-itself x.subscriptions }

-- messages wait on their circuits
pub keeps-sending : (sends : List Sending) (x : Client) → Keeps x (sending sends x)
keeps-sending [] x = keeps-itself x
keeps-sending (s ∷ sends) x = keeps-then x (with_one_sent x s) (sending sends (with_one_sent x s)) (keeps-on _ s.circuit x) (keeps-sending sends (with_one_sent x s))

-- ---- a channel is elsewhere

-- a test of where a channel stands
abbrev pub stands-in-test : (Phase → Bool) → Handle → Standing → Bool
stands-in-test test on s = unwrap_or (option_map test (phase_on on s)) false

-- A channel is here now: it was not live, or is still taken for one that was; and it waits if its
-- circuit is not connected.
pub keeps-stood : (s : Standing) (h : Handle) (x : Client)
    → (IsPlaced x → (ch : Channel) → under x.channels h ≡ Some ch → ((on : Handle) → is_on_in was_live on ch ≡ true → stands-in-test was_live on s ≡ true) × ((c : Handle) (p : Phase) → s ≡ On c p → is_connecting p ≡ is_none (connection_at x c)))
    → Keeps x (with_standing s h x)
keeps-stood s h x may = record {
  thins = record { channels = thin-changed there h x.channels; requests = thin-itself x.requests; subscriptions = thin-itself x.subscriptions };
  placed = λ p. record {
    attached = record {
      requests = λ q r is. live p r.channel r.circuit (p.attached.requests q r is);
      subscriptions = λ g d on is drains. live p d.channel on (p.attached.subscriptions g d on is drains);
    };
    waiting = λ g ch c q is stands. elim (changed-back there x.channels g h ch is) [
      | inr old ↦ p.waiting g ch c q old.1 stands
      | inl own ↦ (may p own.1.0 own.1.1).1 c q (sym (ap (λ (z : Channel). z.standing) own.1.2) ∙ stands)
    ];
  };
  links = λ c. refl;
}
  where
    there : Channel → Channel
    there ch = record ch { standing = s }

    live : IsPlaced x → (channel on : Handle) → WasLive x channel on → WasLive (with_standing s h x) channel on
    live p channel on was = elim (handle-or channel h) [
      | inr other ↦ (was.0, changed-other there x.channels channel h was.0 was.1 other, was.2)
      | inl same ↦
          let here : under x.channels h ≡ Some was.0 = subst (λ (k : Handle). under x.channels k ≡ Some was.0) same was.1 in (
            there was.0,
            subst (λ (k : Handle). under (with_changed there h x.channels) k ≡ Some (there was.0)) (sym same) (changed-own there x.channels h was.0 here),
            (may p was.0 here).0 on was.2,
          )
    ]

-- ---- a channel is gone, or searched for again

-- so it is with one that was not live
pub header_only-never : (h : Handle) (x : Client) → IsPlaced x → ((ch : Channel) (on : Handle) → under x.channels h ≡ Some ch → is_on_in was_live on ch ≡ false) → HasNothingOut h x
header_only-never h x p never = record {
  requests = λ q r is same. no_one r.channel r.circuit same (p.attached.requests q r is);
  subscriptions = λ g d on is drains same. no_one d.channel on same (p.attached.subscriptions g d on is drains);
}
  where
    no_one : (channel on : Handle) → channel ≡ h → WasLive x channel on → ⊥
    no_one channel on same was = both_ways (is_on_in was_live on was.0) (never was.0 on (subst (λ (k : Handle). under x.channels k ≡ Some was.0) same was.1)) was.2

pub keeps-gone : (h : Handle) (x : Client) → (IsPlaced x → HasNothingOut h x) → Keeps x (without_channel x h)
keeps-gone h x header_only = record {
  thins = record { channels = thin-freed h x.channels; requests = thin-itself x.requests; subscriptions = thin-itself x.subscriptions };
  placed = λ p. record {
    attached = record {
      requests = λ q r is. live r.channel r.circuit (λ e. (header_only p).requests q r is e) (p.attached.requests q r is);
      subscriptions = λ g d on is drains. live d.channel on (λ e. (header_only p).subscriptions g d on is drains e) (p.attached.subscriptions g d on is drains);
    };
    waiting = λ g ch c q is stands. p.waiting g ch c q (freed-back x.channels g h ch is).1 stands;
  };
  links = λ c. refl;
}
  where
    live : (channel on : Handle) → (channel ≡ h → ⊥) → WasLive x channel on → WasLive (without_channel x h) channel on
    live channel on other was = (was.0, freed-other x.channels channel h was.0 was.1 other, was.2)

pub keeps-again : (h : Handle) (x : Client) → (IsPlaced x → HasNothingOut h x) → Keeps x (searched_again x h)
keeps-again h x header_only = record {
  thins = record { channels = thin-changed there h x.channels; requests = thin-itself x.requests; subscriptions = thin-itself x.subscriptions };
  placed = λ p. record {
    attached = record {
      requests = λ q r is. live r.channel r.circuit (λ e. (header_only p).requests q r is e) (p.attached.requests q r is);
      subscriptions = λ g d on is drains. live d.channel on (λ e. (header_only p).subscriptions g d on is drains e) (p.attached.subscriptions g d on is drains);
    };
    waiting = λ g ch c q is stands. elim (changed-back there x.channels g h ch is) [
      | inr old ↦ p.waiting g ch c q old.1 stands
      | inl own ↦ absurd (nowhere c q (sym (ap (λ (z : Channel). z.standing) own.1.2) ∙ stands))
    ];
  };
  links = λ c. refl;
}
  where
    there : Channel → Channel
    there ch = record ch { standing = Searching }

    nowhere : (c : Handle) (q : Phase) → Searching ≡ On c q → ⊥
    nowhere c q e = cc

    live : (channel on : Handle) → (channel ≡ h → ⊥) → WasLive x channel on → WasLive (searched_again x h) channel on
    live channel on other was = (was.0, changed-other there x.channels channel h was.0 was.1 other, was.2)

-- ---- requests and subscriptions

-- requests end, or change their stage
pub keeps-requests : (t : Table Request) (x : Client) → IsThinner x.requests t
    → ((q : Handle) (r : Request) → under t q ≡ Some r → (s : Request) × (under x.requests q ≡ Some s) × (r.channel ≡ s.channel) × (r.circuit ≡ s.circuit)) → Keeps x (with_requests t x)
keeps-requests t x thin were = record {
  thins = record { channels = thin-itself x.channels; requests = thin; subscriptions = thin-itself x.subscriptions };
  placed = λ p. record {
    attached = record {
      requests = λ q r is. (let was = were q r is in subst (λ (k : Handle × Handle). WasLive x k.0 k.1) (λ i. (sym was.2 i, sym was.3 i)) (p.attached.requests q was.0 was.1));
      subscriptions = p.attached.subscriptions;
    };
    waiting = p.waiting;
  };
  links = λ c. refl;
}

-- ids of subscriptions drain where they did, or where their channel was live
pub keeps-subscriptions : (t : Table Subscription) (x : Client) → IsThinner x.subscriptions t
    → (IsPlaced x → (g : Handle) (d : Subscription) (on : Handle) → under t g ≡ Some d → drains_in on d.stage ≡ true
    → ((s : Subscription) × (under x.subscriptions g ≡ Some s) × (d.channel ≡ s.channel) × (drains_in on s.stage ≡ true)) ⊎ WasLive x d.channel on) → Keeps x (record x { subscriptions = t })
keeps-subscriptions t x thin were = record {
  thins = record { channels = thin-itself x.channels; requests = thin-itself x.requests; subscriptions = thin };
  placed = λ p. record {
    attached = record {
      requests = p.attached.requests;
      subscriptions = λ g d on is drains. elim (were p g d on is drains) [
        | inl was ↦ subst (λ (k : Handle). WasLive x k on) (sym was.2) (p.attached.subscriptions g was.0 on was.1 was.3)
        | inr live ↦ live
      ];
    };
    waiting = p.waiting;
  };
  links = λ c. refl;
}
