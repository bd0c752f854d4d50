-- The finish of a busy put keeps bytes as messages, and handles: its reply goes down the circuit
-- on which the put came.
use Rattle.std.proofs.Common.{◌≡◌, ℕ, ◌⊎◌, inl, inr, true, List, [], ◌∷◌, ◌++◌, Option, Some, None, refl, sym, ap, ◌∙◌, subst}
use Rattle.std.specs.Prelude.{map, option_map, slice_get, slice_set, unwrap_or}
use Rattle.std.proofs.lemmas.Bool.{cases_Bool}
use Rattle.std.proofs.lemmas.List.{append-nil}
use Rattle.ca_arena.specs.declared.handle.Handle.{Handle}
use Rattle.ca_ids.specs.Table.{under}
use Rattle.ca_records.specs.declared.puts.Put.{Put}
use Rattle.ca_records.specs.Puts.{Record}
use Rattle.ca_text.specs.Place.{At}
use Rattle.ca_text.proofs.Places.{At-map, At-mapped, At-one, At-set, At-set-other, some_is}
use Rattle.ca_wire.specs.Fields.{Fields}
use Rattle.ca_model.specs.Server.{Open, Server, ServerEnd}
use Rattle.ca_model.specs.ServerCalls.{Replies, after_next, finish_reply, with_finish}
use Rattle.ca_model.specs.ServerSteps.{HasEnd}
use Rattle.ca_model.specs.History.{Reply, Told}
use Rattle.ca_model.specs.Channels.{IsTaken}
use Rattle.ca_model.specs.ServerEvents.{Finished, HappensFinish, about, ends_by, next_busy, next_numbers, replied_at}
use Rattle.ca_model.specs.ServerEvents as event
use Rattle.ca_model.specs.World.{Joined, PutPlace, ServerSide, Setting, World, with_circuit}
use Rattle.ca_model.proofs.Handles.{handle-or}
use Rattle.ca_model.proofs.Thinner.{thin-then}
use Rattle.ca_laws_parts.specs.Agrees.{Agrees, IsBusyAs, IsBusyBy, IsBusyWith}
use Rattle.ca_laws_parts.specs.Lives.{CameOn, IsPutOf}
use Rattle.ca_laws_parts.specs.Moves.{Lives, finish_told}
use Rattle.ca_laws_parts.specs.Seats.{Sound}
use Rattle.ca_laws_parts.proofs.WritesEvents.{found}
use Rattle.ca_laws_parts.proofs.Going.{came-as}
use Rattle.ca_laws_parts.proofs.WritesLists.{both-at}
use Rattle.ca_laws_parts.proofs.WritesLives.{others-apart}
use Rattle.ca_laws_parts.proofs.Midway.{set-here}
use Rattle.ca_laws_parts.specs.Worlds.{AllStream, HandlesStand, sent_down}
use Rattle.ca_laws_parts.proofs.Clients.{map-both}
use Rattle.ca_laws_parts.proofs.Handles.{handles-after, over-by-core}
use Rattle.ca_laws_parts.proofs.ServerEnds.{Goes, Stays, go-end, go-then, next-go, replies-own}
use Rattle.ca_laws_parts.proofs.ServerEvents.{next-tells}
use Rattle.ca_laws_parts.proofs.BytesServerSteps.{map-about}
use Rattle.ca_laws_parts.proofs.BytesServers.{Tells, after-streams, tells-then}
use Rattle.ca_laws_parts.proofs.Tables.{next-write-thin, replies-thin, thin-is, thin-server}

module _ (s : Setting) (w new : World) (i : ℕ) (y : ServerSide) (name : List ℕ) (at : At w.servers i y) (sound : Sound s w) (stand : HandlesStand w) (f : Finished w i y name new) where
  abbrev own : Lives w i y
  own = sound.writes.lives i y at

  -- the busy put, as the core has it
  abbrev put : Put
  put = f.finishes.0.p

  abbrev pub side : ServerSide
  side = record y { records = event.with_record name next_busy y.records }

  abbrev pub told : World
  told = finish_told w i y name f.cr f.r f.p

  abbrev pub mid : World
  mid = replied_at f.p f.sent told

  abbrev pub said : List Fields
  said = map (λ (x : Handle × Fields). x.1) f.sent

  abbrev reply : Joined → Joined
  reply j = record j { lists = record j.lists { down = j.lists.down ++ about f.p.place Reply said } }

  abbrev finish : Server
  finish = with_finish name f.finishes.0.r y.core

  -- record and side agree
  agrees : Agrees (IsPutOf w.circuits i) own.log f.cr f.r
  agrees =
      let g = found (IsPutOf w.circuits i) own.log y.core.records y.records name f.cr own.life.each f.named in
      let one : g.i ≡ f.at.0 = elim (others-apart y.records g.i f.at.0 g.r f.r own.life.others g.in_rs f.at.1) [
        | inl e ↦ e
        | inr apart ↦ absurd (apart.0 (f.at.2 ∙ sym g.named))
      ] in
      both-at (Agrees (IsPutOf w.circuits i) own.log) y.core.records y.records f.at.0 f.cr f.r own.life.each (subst (λ (n : ℕ). At y.core.records n f.cr) one g.in_cs) f.at.1

  is-put : IsPutOf w.circuits i f.p put
  is-put =
      let same : f.finishes.0.r ≡ f.cr = some_is f.finishes.0.r f.cr (sym f.finishes.0.named ∙ f.named) in
      let busy : f.cr.busy ≡ Some put = ap (λ (r : Record). r.busy) (sym same) ∙ f.finishes.0.busy in
      subst (λ (o : Option PutPlace × Option Put). IsBusyAs (IsPutOf w.circuits i) o.0 o.1) (λ k. (f.busy k, busy k)) agrees.busy_as

  by : IsBusyWith own.log f.r.number f.p
  by = subst (λ (o : Option PutPlace). IsBusyBy own.log f.r.number o) f.busy agrees.busy

  came : (e : ℕ) × CameOn w.circuits y.life IsTaken f.p e by.v.value
  came = came-as w.circuits y.life own.log by.i f.p.circuit f.p.place f.r.number by.v true own.life.once by.at

  -- the circuit on which it came joins this life
  joins : is-put.c.lists.server ≡ y.life
  joins = ap (λ (c : Joined). c.lists.server) (At-one w.circuits f.p.circuit is-put.c came.1.c is-put.on came.1.on) ∙ came.1.joins

  -- and if its end is in the core it is open
  still-open : (e : ServerEnd) → HasEnd y.core put.circuit e → is-put.c.lists.server_open ≡ true
  still-open e has = elim (cases_Bool is-put.c.lists.server_open) [
    | inl opened ↦ opened
    | inr shut ↦
        absurd (stand.gone f.p.circuit is-put.c y (Open e) is-put.on (subst (λ (k : ℕ). At w.servers k y) (sym is-put.of) at) joins shut (ap (λ (h : Handle). under y.core.circuits h) (sym is-put.handle) ∙ has))
  ]

  -- ---- the core

  abbrev last : Server
  last = f.finishes.1

  core-is : f.core ≡ after_next name f.finishes.0.r.waiting f.finishes.0.gone last
  core-is = f.finishes.3

  rest-goes : (h : Handle) → Goes last f.core h []
  rest-goes h = subst (λ (x : Server). Goes last x h []) (sym core-is) (next-go name f.finishes.0.r.waiting f.finishes.0.gone last h)

  -- on other circuits nothing is said
  others-go : Replies finish put f.finishes.0.gone f.sent last → (h : Handle) → (h ≡ put.circuit → ⊥) → Goes y.core f.core h []
  others-go (inl r) h other =
      go-then y.core last f.core h [] [] (λ e has. subst (λ (x : Server). Stays y.core x h e []) (sym r.3) (go-end finish put.circuit h _ other e has)) (rest-goes h)
  others-go (inr r) h other = go-then y.core last f.core h [] [] (λ e has. (e, subst (λ (x : Server). HasEnd x h e) (sym r.2) has, refl, sym (append-nil e.link.output))) (rest-goes h)

  own-goes : Replies finish put f.finishes.0.gone f.sent last → Goes y.core f.core put.circuit said
  own-goes (inl r) =
      subst (λ (l : List (Handle × Fields)). Goes y.core f.core put.circuit (map (λ (x : Handle × Fields). x.1) l)) (sym r.2)
      (go-then y.core last f.core put.circuit (finish_reply put ∷ []) [] (λ e has. replies-own finish put r.0 last r.1.0 r.3 e has) (rest-goes put.circuit))
  own-goes (inr r) =
      subst (λ (l : List (Handle × Fields)). Goes y.core f.core put.circuit (map (λ (x : Handle × Fields). x.1) l)) (sym r.1)
      (go-then y.core last f.core put.circuit [] [] (λ e has. (e, subst (λ (x : Server). HasEnd x put.circuit e) (sym r.2) has, refl, sym (append-nil e.link.output))) (rest-goes put.circuit))

  -- what is said is said on an open circuit
  none-said : Replies finish put f.finishes.0.gone f.sent last → (is-put.c.lists.server_open ≡ true → ⊥) → said ≡ []
  none-said (inl r) none = absurd (none (still-open r.0 r.1.0))
  none-said (inr r) none = ap (λ (l : List (Handle × Fields)). map (λ (x : Handle × Fields). x.1) l) r.1

  -- ---- circuits

  reply-tells : (c : Joined) → Tells c (reply c) said
  reply-tells c = record {
    like = record { client = refl; server = refl; handle = refl; life = refl; side = λ x. refl; up = refl };
    is_open = refl;
    left = refl;
    handled = refl;
    said = map-both (λ (t : Told). t.message) c.lists.down (about f.p.place Reply said) ∙ ap (λ (l : List Fields). sent_down c ++ l) (map-about f.p.place said);
  }

  abbrev f-next : Joined → Joined
  f-next = next_numbers i y.core name f.cr.waiting

  -- the world in which the reply is told
  pub mid-is : (n : ℕ) (m : Joined) → At mid.circuits n m → (c : Joined) × At w.circuits n c × (((n ≡ f.p.circuit) × Tells c m said) ⊎ ((n ≡ f.p.circuit → ⊥) × Tells c m []))
  mid-is n m there = go (slice_get told.circuits f.p.circuit) refl there
    where
      go : (o : Option Joined) → slice_get told.circuits f.p.circuit ≡ o → At (unwrap_or (option_map (λ (j : Joined). with_circuit f.p.circuit (reply j) told) o) told).circuits n m
          → (c : Joined) × At w.circuits n c × (((n ≡ f.p.circuit) × Tells c m said) ⊎ ((n ≡ f.p.circuit → ⊥) × Tells c m []))
      go None is stands =
          let c = At-mapped f-next w.circuits n m stands in
          (c.0, c.1, inr (λ same. none (At-map f-next w.circuits f.p.circuit is-put.c is-put.on) is, subst (λ (d : Joined). Tells c.0 d []) (sym c.2) (next-tells i y.core name f.cr.waiting c.0)))
        where
          none : At told.circuits f.p.circuit (f-next is-put.c) → slice_get told.circuits f.p.circuit ≡ None → ⊥
          none at e = (let g : let a : Option Joined = None in let b : Option Joined = Some (f-next is-put.c) in a ≡ b = sym e ∙ at in cc)
      go (Some j) is stands = elim (At-set told.circuits f.p.circuit (reply j) n m stands) [
        | inl here ↦
            let c = At-mapped f-next w.circuits f.p.circuit j is in (
              c.0,
              subst (λ (k : ℕ). At w.circuits k c.0) (sym here.0) c.1,
              inl (here.0, subst (λ (d : Joined). Tells c.0 d said) (sym here.1) (tells-then c.0 j (reply j) [] said (subst (λ (d : Joined). Tells c.0 d []) (sym c.2) (next-tells i y.core name f.cr.waiting c.0)) (reply-tells j))),
            )
        | inr old ↦
            let c = At-mapped f-next w.circuits n m old.0 in
            (c.0, c.1, inr (old.1, subst (λ (d : Joined). Tells c.0 d []) (sym c.2) (next-tells i y.core name f.cr.waiting c.0)))
      ]

  mid-clients : mid.clients ≡ w.clients
  mid-clients = go (slice_get told.circuits f.p.circuit)
    where
      go : (o : Option Joined) → (unwrap_or (option_map (λ (j : Joined). with_circuit f.p.circuit (reply j) told) o) told).clients ≡ w.clients
      go None = refl
      go (Some j) = refl

  pub mid-servers : mid.servers ≡ slice_set w.servers i side
  mid-servers = go (slice_get told.circuits f.p.circuit)
    where
      go : (o : Option Joined) → (unwrap_or (option_map (λ (j : Joined). with_circuit f.p.circuit (reply j) told) o) told).servers ≡ slice_set w.servers i side
      go None = refl
      go (Some j) = refl

  pub finished-streams : AllStream w → AllStream new
  finished-streams all =
      subst (λ (z : World). AllStream z) (sym f.leaves)
      (after-streams w mid i y side f.core at mid-clients (λ l s stands other. subst (λ (q : List ServerSide). At q l s) (sym mid-servers) (At-set-other w.servers i l s side stands other))
      (side, subst (λ (q : List ServerSide). At q i side) (sym mid-servers) (set-here w.servers i y side at)) back sound.seated all)
    where
      back : (n : ℕ) (m : Joined) → At mid.circuits n m → (c : Joined) × At w.circuits n c × (more : List Fields) × Tells c m more × (c.server ≡ i → c.lists.server_open ≡ true → Goes y.core f.core c.at_server more)
          × ((c.server ≡ i → c.lists.server_open ≡ true → ⊥) → more ≡ [])
      back n m there =
          let c = mid-is n m there in
          elim c.2 [
            | inl here ↦
                let one : c.0 ≡ is-put.c = At-one w.circuits f.p.circuit c.0 is-put.c (subst (λ (k : ℕ). At w.circuits k c.0) here.0 c.1) is-put.on in (
                  c.0,
                  c.1,
                  said,
                  here.1,
                  (λ mine opened. subst (λ (h : Handle). Goes y.core f.core h said) (is-put.handle ∙ ap (λ (q : Joined). q.at_server) (sym one)) (own-goes f.finishes.2)),
                  (λ none. none-said f.finishes.2 (λ opened. none (ap (λ (q : Joined). q.server) one ∙ is-put.of) (ap (λ (q : Joined). q.lists.server_open) one ∙ opened))),
                )
            | inr other ↦ (c.0, c.1, [], other.1, (λ mine opened. elsewhere n c.0 c.1 other.0 mine opened), (λ none. refl))
          ]
        where
          -- on another circuit of the server: if the put's end is there it has another handle
          elsewhere : (n : ℕ) (c : Joined) → At w.circuits n c → (n ≡ f.p.circuit → ⊥) → c.server ≡ i → c.lists.server_open ≡ true → Goes y.core f.core c.at_server []
          elsewhere n c stands other mine opened = elim (handle-or c.at_server put.circuit) [
            | inl same ↦
                (λ e has.
                let is_open = still-open e (ap (λ (h : Handle). under y.core.circuits h) (sym same) ∙ has) in
                absurd (other (sound.seated.one n f.p.circuit c is-put.c stands is-put.on (mine ∙ sym is-put.of) opened is_open (same ∙ is-put.handle))))
            | inr far ↦ others-go f.finishes.2 c.at_server far
          ]

  pub finished-handles : HandlesStand new
  finished-handles =
      subst (λ (z : World). HandlesStand z) (sym f.leaves)
      (handles-after w mid i y side f.core (ends_by i f.core) at refl
      (λ l s there other. elim (At-set w.servers i side l s (subst (λ (q : List ServerSide). At q l s) mid-servers there)) [ inl here ↦ absurd (other here.0) | inr old ↦ old.0 ])
      (thin-is y.core _ f.core core-is (thin-then y.core.circuits last.circuits _ (thin-then y.core.circuits finish.circuits last.circuits (thin-server y.core finish refl) (replies-thin finish put f.finishes.0.gone f.sent last f.finishes.2)) (next-write-thin name f.finishes.0.r.waiting f.finishes.0.gone last)))
      (λ n m there.
      let c = mid-is n m there in
      elim c.2 [ inl here ↦ (c.0, c.1, here.1.like, here.1.is_open) | inr other ↦ (c.0, c.1, other.1.like, other.1.is_open) ]) (over-by-core i f.core) stand)

pub finish-streams : (s : Setting) (w new : World) (i : ℕ) (y : ServerSide) (name : List ℕ) → At w.servers i y → Sound s w → HandlesStand w → HappensFinish w i y name new → AllStream w → AllStream new
finish-streams s w new i y name at sound stand (inl f) all = finished-streams s w new i y name at sound stand f all
finish-streams s w new i y name at sound stand (inr refused) all = subst (λ (z : World). AllStream z) (sym refused.2) all

pub finish-handles : (s : Setting) (w new : World) (i : ℕ) (y : ServerSide) (name : List ℕ) → At w.servers i y → Sound s w → HandlesStand w → HappensFinish w i y name new → HandlesStand new
finish-handles s w new i y name at sound stand (inl f) = finished-handles s w new i y name at sound stand f
finish-handles s w new i y name at sound stand (inr refused) = subst (λ (z : World). HandlesStand z) (sym refused.2) stand
