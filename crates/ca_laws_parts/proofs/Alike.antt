-- Tables that hold the same ids of a circuit, and clients that do: what is held of
-- the circuit stays so.
use Rattle.std.proofs.Common.{◌≡◌, ℕ, inl, inr, Bool, true, false, List, [], ◌∷◌, length, Some, sym, ◌∙◌, subst, arith}
use Rattle.std.proofs.lemmas.Bool.{both_ways, cases_Bool}
use Rattle.std.proofs.lemmas.List.{length-map}
use Rattle.ca_arena.specs.declared.handle.Handle.{Handle}
use Rattle.ca_ids.specs.Table.{MayGive, Table, under, with_all, with_all_freed, with_changed, with_freed, with_held}
use Rattle.ca_model.specs.Answers.{Sending}
use Rattle.ca_model.specs.Client.{Channel, Client, Standing, is_on_in, sending, with_one_sent, with_standing, without_channel}
use Rattle.ca_model.specs.Speech.{Id, Cid, Ioid, SubId}
use Rattle.ca_model.specs.History.{Circuit, Intent}
use Rattle.ca_model.specs.World.{Names}
use Rattle.ca_monitor.specs.Subscriptions.{Subscription}
use Rattle.ca_requests.specs.Requests.{was_sent_on}
use Rattle.ca_laws_parts.specs.Held.{HoldAlike, Holds, HoldsIds, IsAlike, has_id, is_asked, is_subscribed}
use Rattle.ca_laws_parts.proofs.Answered.{subscribed-asked}
use Rattle.ca_model.proofs.Handles.{handle-or}
use Rattle.ca_laws_parts.proofs.CircuitHeard.{has-too}
use Rattle.ca_laws_parts.proofs.Held.{ids-kept}
use Rattle.ca_model.proofs.Tables.{all-back, all-freed-back, all-freed-there, all-there, changed-back, changed-few, changed-other, changed-own, freed-back, freed-few, freed-other, held-back, held-few, held-other, one-value}

module _ {T : Type 0} where
  pub alike-itself : (here : T → Bool) (t : Table T) → IsAlike here here t t
  alike-itself here t = record { few = λ le. le; keeps = λ g v is pass. (v, is, pass); back = λ g v is pass. (v, is, pass) }

  pub alike-then : (here there then_there : T → Bool) (t u w : Table T) → IsAlike here there t u → IsAlike there then_there u w → IsAlike here then_there t w
  alike-then here there then_there t u w a b = record {
    few = λ le. b.few (a.few le);
    keeps = λ g v is pass. (let r = a.keeps g v is pass in b.keeps g r.0 r.1 r.2);
    back = λ g v is pass. (let r = b.back g v is pass in a.back g r.0 r.1 r.2);
  }

  -- one is changed, if it is there, and the test sees no difference
  pub changed-if : (here : T → Bool) (f : T → T) (t : Table T) (h : Handle) → ((u : T) → under t h ≡ Some u → here u ≡ here (f u)) → IsAlike here here t (with_changed f h t)
  changed-if here f t h same = record {
    few = λ le. (let e : length (with_changed f h t) ≡ length t = changed-few f t h in omega (arith, e, le));
    keeps = λ g v stands pass. elim (handle-or g h) [
      | inl own ↦
          let is : under t h ≡ Some v = subst (λ (k : Handle). under t k ≡ Some v) own stands in
          (f v, subst (λ (k : Handle). under (with_changed f h t) k ≡ Some (f v)) (sym own) (changed-own f t h v is), sym (same v is) ∙ pass)
      | inr other ↦ (v, changed-other f t g h v stands other, pass)
    ];
    back = λ g w stands pass. elim (changed-back f t g h w stands) [
      | inl own ↦
          let u : T = own.1.0 in
          (u, subst (λ (k : Handle). under t k ≡ Some u) (sym own.0) own.1.1, same u own.1.1 ∙ subst (λ (z : T). here z ≡ true) own.1.2 pass)
      | inr old ↦ (w, old.1, pass)
    ];
  }

  pub changed-alike : (here : T → Bool) (f : T → T) (t : Table T) (h : Handle) (u : T) → under t h ≡ Some u → here u ≡ here (f u) → IsAlike here here t (with_changed f h t)
  changed-alike here f t h u is same =
      changed-if here f t h (λ v stands. subst (λ (z : T). here z ≡ here (f z)) (one-value t h u v is stands) same)

  -- one that the test does not name is freed, if it is there
  pub freed-if : (here : T → Bool) (t : Table T) (h : Handle) → ((u : T) → under t h ≡ Some u → here u ≡ false) → IsAlike here here t (with_freed h t)
  freed-if here t h away = record {
    few = λ le. (let e : length (with_freed h t) ≡ length t = freed-few t h in omega (arith, e, le));
    keeps = λ g v stands pass. (
      v,
      freed-other t g h v stands (λ same. both_ways (here v) (away v (subst (λ (k : Handle). under t k ≡ Some v) same stands)) pass),
      pass,
    );
    back = λ g w stands pass. (w, (freed-back t g h w stands).1, pass);
  }

  pub freed-alike : (here : T → Bool) (t : Table T) (h : Handle) (u : T) → under t h ≡ Some u → here u ≡ false → IsAlike here here t (with_freed h t)
  freed-alike here t h u is away = freed-if here t h (λ v stands. subst (λ (z : T). here z ≡ false) (one-value t h u v is stands) away)

  -- something new comes that the test does not name
  pub held-alike : (here : T → Bool) (t : Table T) (h : Handle) (u : T) → MayGive t h → here u ≡ false → IsAlike here here t (with_held h u t)
  held-alike here t h u may away = record {
    few = λ le. held-few t h u may le;
    keeps = λ g v stands pass. (v, held-other t g h u v may stands, pass);
    back = λ g w stands pass. elim (held-back t g h u w stands) [
      | inl new ↦ absurd (both_ways (here u) away (subst (λ (z : T). here z ≡ true) new.1 pass))
      | inr old ↦ (w, old, pass)
    ];
  }

  -- all are changed, and the other test sees what the one saw
  pub all-alike : (here there : T → Bool) (f : T → T) (t : Table T) → ((g : Handle) (v : T) → under t g ≡ Some v → here v ≡ there (f v)) → IsAlike here there t (with_all f t)
  all-alike here there f t same = record {
    few = λ le. (let e : length (with_all f t) ≡ length t = length-map t _ in omega (arith, e, le));
    keeps = λ g v stands pass. (f v, all-there f t g v stands, sym (same g v stands) ∙ pass);
    back = λ g w stands pass. (let was = all-back f t g w stands in (was.0, was.1, same g was.0 was.1 ∙ subst (λ (z : T). there z ≡ true) was.2 pass));
  }

  -- those are freed that the test does not name
  pub all-freed-alike : (here frees : T → Bool) (t : Table T) → ((g : Handle) (v : T) → under t g ≡ Some v → here v ≡ true → frees v ≡ false) → IsAlike here here t (with_all_freed frees t)
  all-freed-alike here frees t none = record {
    few = λ le. (let e : length (with_all_freed frees t) ≡ length t = length-map t _ in omega (arith, e, le));
    keeps = λ g v stands pass. (v, all-freed-there frees t g v stands (none g v stands pass), pass);
    back = λ g w stands pass. (w, (all-freed-back frees t g w stands).0, pass);
  }

  pub ids-alike : (kind : ℕ → Id) (meant : Handle → Intent) (Awaits : ℕ → Type 0) (here there : T → Bool) (t u : Table T) (c : Circuit) → IsAlike here there t u → HoldsIds Awaits kind here meant t c → HoldsIds Awaits kind there meant u c
  ids-alike kind meant Awaits here there t u c a h =
      ids-kept kind meant Awaits here there t u c (a.few h.few)
      (λ p n pending was. (let r = a.keeps was.0 was.1 was.2 was.4 in (was.0, r.0, r.1, was.3, r.2)))
      (λ g v is pass. a.back g v is pass) h

-- ---- clients

-- What one client holds of a circuit, a client that holds the same holds too.
pub holds-alike : (Awaits : ℕ → Type 0) (on : Handle) (n : Names) (x y : Client) (c : Circuit) → HoldAlike on x y → Holds Awaits on n x c → Holds Awaits on n y c
holds-alike Awaits on n x y c a h = record {
  channels = ids-alike Cid _ Awaits (is_on_in is_asked on) (is_on_in is_asked on) x.channels y.channels c a.asked h.channels;
  requests = ids-alike Ioid _ Awaits (was_sent_on on) (was_sent_on on) x.requests y.requests c a.requests h.requests;
  subscriptions = ids-alike SubId _ Awaits (has_id x.channels on) (has_id y.channels on) x.subscriptions y.subscriptions c a.subscriptions h.subscriptions;
}

pub client-itself : (on : Handle) (x : Client) → HoldAlike on x x
client-itself on x = record {
  asked = alike-itself (is_on_in is_asked on) x.channels;
  requests = alike-itself (was_sent_on on) x.requests;
  subscriptions = alike-itself (has_id x.channels on) x.subscriptions;
}

pub client-then : (on : Handle) (x y z : Client) → HoldAlike on x y → HoldAlike on y z → HoldAlike on x z
client-then on x y z a b = record {
  asked = alike-then (is_on_in is_asked on) (is_on_in is_asked on) (is_on_in is_asked on) x.channels y.channels z.channels a.asked b.asked;
  requests = alike-then (was_sent_on on) (was_sent_on on) (was_sent_on on) x.requests y.requests z.requests a.requests b.requests;
  subscriptions = alike-then (has_id x.channels on) (has_id y.channels on) (has_id z.channels on) x.subscriptions y.subscriptions z.subscriptions a.subscriptions b.subscriptions;
}

-- messages that wait on their circuits change no table
pub sending-alike : (on : Handle) (sends : List Sending) (x : Client) → HoldAlike on x (sending sends x)
sending-alike on [] x = client-itself on x
sending-alike on (s ∷ sends) x =
    let r : HoldAlike on (with_one_sent x s) (sending sends (with_one_sent x s)) = sending-alike on sends (with_one_sent x s) in
    record { asked = r.asked; requests = r.requests; subscriptions = r.subscriptions }

-- subscriptions see no difference between channels of which the same are subscribed to
pub has-alike : (on : Handle) (t u : Table Channel) (d : Subscription) → IsAlike (is_on_in is_subscribed on) (is_on_in is_subscribed on) t u → has_id t on d ≡ has_id u on d
has-alike on t u d a = elim (cases_Bool (has_id t on d)) [
  | inl is ↦ is ∙ sym (has-too on t u d (λ w there pass. a.keeps d.channel w there pass) is)
  | inr not_it ↦ elim (cases_Bool (has_id u on d)) [
    | inl is ↦ absurd (both_ways (has_id t on d) not_it (has-too on u t d (λ w there pass. a.back d.channel w there pass) is))
    | inr too ↦ not_it ∙ sym too
  ]
]

-- the channels are others, of which the same are on the circuit
pub with-channels : (on : Handle) (x : Client) (u : Table Channel) → IsAlike (is_on_in is_asked on) (is_on_in is_asked on) x.channels u → IsAlike (is_on_in is_subscribed on) (is_on_in is_subscribed on) x.channels u
    → HoldAlike on x (record x { channels = u })
with-channels on x u asked subscribed = record {
  asked = asked;
  requests = alike-itself (was_sent_on on) x.requests;
  subscriptions = record {
    few = λ le. le;
    keeps = λ g v is pass. (v, is, sym (has-alike on x.channels u v subscribed) ∙ pass);
    back = λ g v is pass. (v, is, has-alike on x.channels u v subscribed ∙ pass);
  };
}

-- a channel stands elsewhere, if it is there, and the circuit sees no difference
pub restood-if : (on : Handle) (x : Client) (h : Handle) (s : Standing) → ((ch : Channel) → under x.channels h ≡ Some ch → is_on_in is_asked on ch ≡ is_on_in is_asked on (record ch { standing = s }))
    → ((ch : Channel) → under x.channels h ≡ Some ch → is_on_in is_subscribed on ch ≡ is_on_in is_subscribed on (record ch { standing = s })) → HoldAlike on x (with_standing s h x)
restood-if on x h s asked subscribed =
    let f : Channel → Channel = λ (w : Channel). record w { standing = s } in
    with-channels on x (with_changed f h x.channels) (changed-if (is_on_in is_asked on) f x.channels h asked)
    (changed-if (is_on_in is_subscribed on) f x.channels h subscribed)

pub restood : (on : Handle) (x : Client) (h : Handle) (s : Standing) (ch : Channel) → under x.channels h ≡ Some ch → is_on_in is_asked on ch ≡ is_on_in is_asked on (record ch { standing = s })
    → is_on_in is_subscribed on ch ≡ is_on_in is_subscribed on (record ch { standing = s }) → HoldAlike on x (with_standing s h x)
restood on x h s ch there asked subscribed =
    let f : Channel → Channel = λ (w : Channel). record w { standing = s } in
    with-channels on x (with_changed f h x.channels) (changed-alike (is_on_in is_asked on) f x.channels h ch there asked)
    (changed-alike (is_on_in is_subscribed on) f x.channels h ch there subscribed)

-- what is not asked for here is not subscribed to here
pub not-subscribed : (on : Handle) (ch : Channel) → is_on_in is_asked on ch ≡ false → is_on_in is_subscribed on ch ≡ false
not-subscribed on ch away = elim (cases_Bool (is_on_in is_subscribed on ch)) [
  | inl is ↦ absurd (both_ways (is_on_in is_asked on ch) away (subscribed-asked on ch is))
  | inr is ↦ is
]

-- a channel that is not on the circuit is gone
pub channel-freed-if : (on : Handle) (x : Client) (h : Handle) → ((ch : Channel) → under x.channels h ≡ Some ch → is_on_in is_asked on ch ≡ false) → HoldAlike on x (without_channel x h)
channel-freed-if on x h away =
    let u : Table Channel = with_freed h x.channels in
    let a : HoldAlike on x (record x { channels = u }) =
    with-channels on x u (freed-if (is_on_in is_asked on) x.channels h away) (freed-if (is_on_in is_subscribed on) x.channels h (λ ch there. not-subscribed on ch (away ch there))) in
    record { asked = a.asked; requests = a.requests; subscriptions = a.subscriptions }

pub channel-freed : (on : Handle) (x : Client) (h : Handle) (ch : Channel) → under x.channels h ≡ Some ch → is_on_in is_asked on ch ≡ false → HoldAlike on x (without_channel x h)
channel-freed on x h ch there away =
    channel-freed-if on x h (λ w stands. subst (λ (z : Channel). is_on_in is_asked on z ≡ false) (one-value x.channels h ch w there stands) away)

-- other requests, of which the same were sent here
pub with-others : (on : Handle) (x y : Client) → y.channels ≡ x.channels → IsAlike (was_sent_on on) (was_sent_on on) x.requests y.requests → IsAlike (has_id x.channels on) (has_id x.channels on) x.subscriptions y.subscriptions → HoldAlike on x y
with-others on x y same requests subscriptions =
    subst (λ (u : Table Channel). HoldAlike on x (record y { channels = u })) (sym same) (record {
      asked = alike-itself (is_on_in is_asked on) x.channels;
      requests = requests;
      subscriptions = subscriptions;
    })
