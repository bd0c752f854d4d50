-- What a server's events leave of the meaning of ids: a message is handled and answered, a put is
-- finished, a record removed, updates sent.
use Rattle.std.proofs.Common.{◌≡◌, ℕ, ◌+◌, ◌<◌, ◌≤◌, ◌⊎◌, inl, inr, List, [], ◌∷◌, ◌++◌, length, refl, sym, ◌∙◌, subst, arith}
use Rattle.std.specs.Prelude.{map}
use Rattle.std.proofs.lemmas.List.{append-nil, append_assoc}
use Rattle.ca_text.specs.declared.command.Command.TheVariants as command
use Rattle.ca_text.specs.Place.{At}
use Rattle.ca_text.proofs.Places.{At-one, At-within}
use Rattle.ca_wire.specs.Fields.{Fields}
use Rattle.ca_arena.specs.declared.handle.Handle.{Handle}
use Rattle.ca_requests.specs.Requests.{was_sent_on}
use Rattle.ca_model.specs.Client.{Client, is_on_in}
use Rattle.ca_model.specs.Speech.{Cid, Id, In, Ioid, Is, Speaks, SubId}
use Rattle.ca_model.specs.History.{Create, Clear, Request, Subscribe, Cancel, Read, Put, Write, Reply, Intent, On, OfCircuit, Sent, Told, Step, Circuit}
use Rattle.ca_model.specs.Channels.{Suits}
use Rattle.ca_laws_parts.specs.Flows.{Awaits, Concerns, Ends, Flows, IsLast, MayTell, with_handled, with_told}
use Rattle.ca_model.specs.World.{Names}
use Rattle.ca_laws_parts.specs.Held.{Holds, has_id, is_asked}
use Rattle.ca_laws_parts.specs.CircuitSteps.{Answers, replied}
use Rattle.ca_laws_parts.proofs.Flows.{awaits-handled, flows-handled, flows-told}
use Rattle.ca_laws_parts.proofs.Held.{ids-handled, ids-told}
use Rattle.ca_model.proofs.Tables.{length-more}

-- ---- later messages: they tell nothing's end, or that of a put

-- a SERVER_DISCONN or an update, about something that the server keeps; it may keep less after it
pub may-later : (kept fewer : List ℕ) (c : Circuit) (t : Told) → (t.cause ≡ Reply → ⊥) → t.place < length c.up → In kept t.place → ((p : ℕ) → In fewer p → In kept p)
    → ((id : Id) → Speaks t.message id → Concerns c.up t.place id) → MayTell (Awaits c kept) (Awaits c fewer) c t
may-later kept fewer c t other there keeps less speaks =
    record {
      there = there;
      awaits = inr keeps;
      speaks = speaks;
      fewer = λ p a. elim a [
        | inl late ↦ inl late
        | inr in_it ↦ inr (less p in_it)
      ];
      last = λ s cause at is a. other cause;
      over = λ p s r cause at here lt ends a. other cause;
    }

pub flows-later : (kept fewer : List ℕ) (c : Circuit) (t : Told) → (t.cause ≡ Reply → ⊥) → t.place < length c.up → In kept t.place → ((p : ℕ) → In fewer p → In kept p)
    → ((id : Id) → Speaks t.message id → Concerns c.up t.place id) → Flows (Awaits c kept) c → Flows (Awaits c fewer) (with_told t c)
flows-later kept fewer c t other there keeps less speaks f = flows-told (Awaits c kept) (Awaits c fewer) c t (may-later kept fewer c t other there keeps less speaks) f

-- an intent that suits a put ends no other
put-ends : (intent other : Intent) (m : Fields) → Suits intent m → Is command.WriteNotify m → Ends intent other → ⊥
put-ends (On a (Request Put n)) other m suits is ends = ends
put-ends (On a (Request Read n)) other m suits is ends = ends
put-ends (On a (Request Write n)) other m suits is ends = ends
put-ends (On a Create) other m suits is ends = ends
put-ends (On a (Subscribe n)) other m suits is ends = ends
put-ends (On a Clear) other m suits is ends = (let e : ◌≡◌ {A = ℕ} 12 19 = sym suits ∙ is in omega (arith, e))
put-ends (On a (Cancel n)) other m suits is ends = (let e : ◌≡◌ {A = ℕ} 2 19 = sym suits ∙ is in omega (arith, e))
put-ends OfCircuit other m suits is ends = ends

-- the reply of a finish, after which the server keeps nothing for the put
pub may-finish : (kept fewer : List ℕ) (c : Circuit) (t : Told) (s : Sent) → At c.up t.place s → Is command.WriteNotify s.message → t.place < length c.handled → In kept t.place → ((p : ℕ) → In fewer p → In kept p) → (In fewer t.place → ⊥)
    → ((id : Id) → Speaks t.message id → Concerns c.up t.place id) → Flows (Awaits c kept) c → MayTell (Awaits c kept) (Awaits c fewer) c t
may-finish kept fewer c t s at is handled keeps less gone speaks f =
    record {
      there = At-within c.up t.place s at;
      awaits = inr keeps;
      speaks = speaks;
      fewer = λ p a. elim a [
        | inl late ↦ inl late
        | inr in_it ↦ inr (less p in_it)
      ];
      last = λ r cause stands final a. elim a [
        | inl late ↦ (let le : length c.handled ≤ t.place = late in omega (arith, le, handled))
        | inr in_it ↦ gone in_it
      ];
      over = λ p r q cause stands here lt ends a.
          put-ends r.intent q.intent r.message (f.asked t.place r stands) (subst (λ (x : Sent). Is command.WriteNotify x.message) (At-one c.up t.place s r at stands) is) ends;
    }

pub flows-finish : (kept fewer : List ℕ) (c : Circuit) (t : Told) (s : Sent) → At c.up t.place s → Is command.WriteNotify s.message → t.place < length c.handled → In kept t.place → ((p : ℕ) → In fewer p → In kept p) → (In fewer t.place → ⊥)
    → ((id : Id) → Speaks t.message id → Concerns c.up t.place id) → Flows (Awaits c kept) c → Flows (Awaits c fewer) (with_told t c)
flows-finish kept fewer c t s at is handled keeps less gone speaks f = flows-told (Awaits c kept) (Awaits c fewer) c t (may-finish kept fewer c t s at is handled keeps less gone speaks f) f

-- ---- a message is handled

-- a reply to the message that is handled next, after which others may come
may-more : (kept : List ℕ) (c : Circuit) (m : Fields) (s : Sent) → At c.up (length c.handled) s → (IsLast m s.intent → ⊥) → ((other : Intent) → Ends s.intent other → ⊥)
    → ((id : Id) → Speaks m id → Concerns c.up (length c.handled) id) → MayTell (Awaits c kept) (Awaits c kept) c (replied (length c.handled) m)
may-more kept c m s at more ends_none speaks =
    record {
      there = At-within c.up (length c.handled) s at;
      awaits = inl (omega arith);
      speaks = speaks;
      fewer = λ p a. a;
      last = λ r cause stands final a. more (subst (λ (x : Sent). IsLast m x.intent) (At-one c.up (length c.handled) r s stands at) final);
      over = λ p r q cause stands here lt ends a. ends_none q.intent (subst (λ (x : Sent). Ends x.intent q.intent) (At-one c.up (length c.handled) r s stands at) ends);
    }

reply-more : (kept : List ℕ) (c : Circuit) (m : Fields) (s : Sent) → At c.up (length c.handled) s → (IsLast m s.intent → ⊥) → ((other : Intent) → Ends s.intent other → ⊥)
    → ((id : Id) → Speaks m id → Concerns c.up (length c.handled) id) → Flows (Awaits c kept) c → Flows (Awaits c kept) (with_told (replied (length c.handled) m) c)
reply-more kept c m s at more ends_none speaks f = flows-told (Awaits c kept) (Awaits c kept) c (replied (length c.handled) m) (may-more kept c m s at more ends_none speaks) f

-- the one reply to it, and what the server keeps then
may-one : (kept now : List ℕ) (c : Circuit) (h : Step) (m : Fields) (s : Sent) → At c.up (length c.handled) s → ((p : ℕ) → In now p → In kept p ⊎ (p ≡ length c.handled))
    → (IsLast m s.intent → In now (length c.handled) → ⊥) → ((p : ℕ) (r : Sent) → At c.up p r → p < length c.handled → Ends s.intent r.intent → In now p → ⊥)
    → ((id : Id) → Speaks m id → Concerns c.up (length c.handled) id) → MayTell (Awaits c kept) (Awaits (with_handled h c) now) c (replied (length c.handled) m)
may-one kept now c h m s at were gone over speaks =
    let place : ℕ = length c.handled in
    let len : length (c.handled ++ h ∷ []) ≡ length c.handled + 1 = length-more c.handled h in
    record {
      there = At-within c.up place s at;
      awaits = inl (omega arith);
      speaks = speaks;
      fewer = awaits-handled kept now c h were;
      last = λ r cause stands final a. elim a [
        | inl late ↦ (let le : length (c.handled ++ h ∷ []) ≤ length c.handled = late in omega (arith, le, len))
        | inr in_it ↦ gone (subst (λ (x : Sent). IsLast m x.intent) (At-one c.up place r s stands at) final) in_it
      ];
      over = λ p r q cause stands here lt ends a. elim a [
        | inl late ↦ (let le : length (c.handled ++ h ∷ []) ≤ p = late in let l : p < length c.handled = lt in omega (arith, le, len, l))
        | inr in_it ↦ over p q here lt (subst (λ (x : Sent). Ends x.intent q.intent) (At-one c.up place r s stands at) ends) in_it
      ];
    }

reply-one : (kept now : List ℕ) (c : Circuit) (h : Step) (m : Fields) (s : Sent) → At c.up (length c.handled) s → ((p : ℕ) → In now p → In kept p ⊎ (p ≡ length c.handled))
    → (IsLast m s.intent → In now (length c.handled) → ⊥) → ((p : ℕ) (r : Sent) → At c.up p r → p < length c.handled → Ends s.intent r.intent → In now p → ⊥)
    → ((id : Id) → Speaks m id → Concerns c.up (length c.handled) id) → Flows (Awaits c kept) c
    → Flows (Awaits (with_handled h c) now) (with_handled h (with_told (replied (length c.handled) m) c))
reply-one kept now c h m s at were gone over speaks f =
    let place : ℕ = length c.handled in
    let told : Flows (Awaits (with_handled h c) now) (with_told (replied place m) c) =
    flows-told (Awaits c kept) (Awaits (with_handled h c) now) c (replied place m) (may-one kept now c h m s at were gone over speaks) f in
    flows-handled (Awaits (with_handled h c) now) (Awaits (with_handled h c) now) (with_told (replied place m) c) h (λ p a. a) told

pub flows-step : (kept now : List ℕ) (c : Circuit) (h : Step) (s : Sent) (replies : List Fields) → At c.up (length c.handled) s → ((p : ℕ) → In now p → In kept p ⊎ (p ≡ length c.handled))
    → Answers c now s replies → Flows (Awaits c kept) c
    → Flows (Awaits (with_handled h c) now) (with_handled h (record c { down = c.down ++ map (replied (length c.handled)) replies }))
flows-step kept now c h s [] at were answers f =
    subst (λ (d : List Told). Flows (Awaits (with_handled h c) now) (with_handled h (record c { down = d }))) (sym (append-nil c.down))
    (flows-handled (Awaits c kept) (Awaits (with_handled h c) now) c h (awaits-handled kept now c h were) f)
flows-step kept now c h s (m ∷ []) at were answers f = reply-one kept now c h m s at were (answers.last m refl) (answers.over m refl) (λ id spoken. answers.speaks 0 m refl id spoken) f
flows-step kept now c h s (m ∷ q ∷ []) at were answers f =
    let first : Flows (Awaits c kept) (with_told (replied (length c.handled) m) c) =
    reply-more kept c m s at (answers.more m q refl).0 (answers.more m q refl).2 (λ id spoken. answers.speaks 0 m refl id spoken) f in
    let both : Flows (Awaits (with_handled h c) now) (with_handled h (with_told (replied (length c.handled) q) (with_told (replied (length c.handled) m) c))) =
    reply-one kept now (with_told (replied (length c.handled) m) c) h q s at were (λ final in_it. (answers.more m q refl).1 final) (λ p r here lt ends in_it. (answers.more m q refl).2 r.intent ends)
    (λ id spoken. answers.speaks 1 q refl id spoken) first in
    subst (λ (d : List Told). Flows (Awaits (with_handled h c) now) (with_handled h (record c { down = d }))) (append_assoc c.down (replied (length c.handled) m ∷ []) (replied (length c.handled) q ∷ [])) both
flows-step kept now c h s (m ∷ q ∷ r ∷ replies) at were answers f = absurd (answers.few m q r replies refl)

-- what the client sent is what it meant
pub flows-next : (kept now : List ℕ) (c : Circuit) (h : Step) (s : Sent) (replies : List Fields) → At c.up (length c.handled) s → ((p : ℕ) → In now p → In kept p ⊎ (p ≡ length c.handled))
    → (Suits s.intent s.message → Answers c now s replies) → Flows (Awaits c kept) c
    → Flows (Awaits (with_handled h c) now) (with_handled h (record c { down = c.down ++ map (replied (length c.handled)) replies }))
flows-next kept now c h s replies at were answers f = flows-step kept now c h s replies at were (answers (f.asked (length c.handled) s at)) f

-- ---- what a client's tables hold stays so

pub holds-told : (Awaits Fewer : ℕ → Type 0) (on : Handle) (n : Names) (x : Client) (c : Circuit) (t : Told) → MayTell Awaits Fewer c t → Holds Awaits on n x c → Holds Fewer on n x (with_told t c)
holds-told Awaits Fewer on n x c t may h = record {
  channels = ids-told Cid _ Awaits Fewer (is_on_in is_asked on) x.channels c t may h.channels;
  requests = ids-told Ioid _ Awaits Fewer (was_sent_on on) x.requests c t may h.requests;
  subscriptions = ids-told SubId _ Awaits Fewer (has_id x.channels on) x.subscriptions c t may h.subscriptions;
}

pub holds-handled : (Awaits Fewer : ℕ → Type 0) (on : Handle) (n : Names) (x : Client) (c : Circuit) (g : Step) → ((p : ℕ) → Fewer p → Awaits p) → Holds Awaits on n x c → Holds Fewer on n x (with_handled g c)
holds-handled Awaits Fewer on n x c g fewer h = record {
  channels = ids-handled Cid _ Awaits Fewer (is_on_in is_asked on) x.channels c g fewer h.channels;
  requests = ids-handled Ioid _ Awaits Fewer (was_sent_on on) x.requests c g fewer h.requests;
  subscriptions = ids-handled SubId _ Awaits Fewer (has_id x.channels on) x.subscriptions c g fewer h.subscriptions;
}

-- with all replies to the message that is handled next
pub holds-step : (kept now : List ℕ) (on : Handle) (n : Names) (x : Client) (c : Circuit) (h : Step) (s : Sent) (replies : List Fields) → At c.up (length c.handled) s → ((p : ℕ) → In now p → In kept p ⊎ (p ≡ length c.handled))
    → Answers c now s replies → Holds (Awaits c kept) on n x c
    → Holds (Awaits (with_handled h c) now) on n x (with_handled h (record c { down = c.down ++ map (replied (length c.handled)) replies }))
holds-step kept now on n x c h s [] at were answers held =
    subst (λ (d : List Told). Holds (Awaits (with_handled h c) now) on n x (with_handled h (record c { down = d }))) (sym (append-nil c.down))
    (holds-handled (Awaits c kept) (Awaits (with_handled h c) now) on n x c h (awaits-handled kept now c h were) held)
holds-step kept now on n x c h s (m ∷ []) at were answers held =
    holds-handled (Awaits (with_handled h c) now) (Awaits (with_handled h c) now) on n x (with_told (replied (length c.handled) m) c) h (λ p a. a)
    (holds-told (Awaits c kept) (Awaits (with_handled h c) now) on n x c (replied (length c.handled) m)
    (may-one kept now c h m s at were (answers.last m refl) (answers.over m refl) (λ id spoken. answers.speaks 0 m refl id spoken)) held)
holds-step kept now on n x c h s (m ∷ q ∷ []) at were answers held =
    let d : Circuit = with_told (replied (length c.handled) m) c in
    let first : Holds (Awaits c kept) on n x d =
    holds-told (Awaits c kept) (Awaits c kept) on n x c (replied (length c.handled) m) (may-more kept c m s at (answers.more m q refl).0 (answers.more m q refl).2 (λ id spoken. answers.speaks 0 m refl id spoken)) held in
    let both : Holds (Awaits (with_handled h c) now) on n x (with_handled h (with_told (replied (length c.handled) q) d)) =
    holds-handled (Awaits (with_handled h c) now) (Awaits (with_handled h c) now) on n x (with_told (replied (length c.handled) q) d) h (λ p a. a)
    (holds-told (Awaits c kept) (Awaits (with_handled h c) now) on n x d (replied (length c.handled) q)
    (may-one kept now d h q s at were (λ final in_it. (answers.more m q refl).1 final) (λ p r here lt ends in_it. (answers.more m q refl).2 r.intent ends) (λ id spoken. answers.speaks 1 q refl id spoken)) first) in
    subst (λ (l : List Told). Holds (Awaits (with_handled h c) now) on n x (with_handled h (record c { down = l }))) (append_assoc c.down (replied (length c.handled) m ∷ []) (replied (length c.handled) q ∷ [])) both
holds-step kept now on n x c h s (m ∷ q ∷ r ∷ replies) at were answers held = absurd (answers.few m q r replies refl)
