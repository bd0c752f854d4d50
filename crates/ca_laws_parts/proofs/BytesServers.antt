-- What an event at a server does to the ends of its circuits, and that bytes are
-- as messages after it.
use Rattle.std.proofs.Common.{◌≡◌, ℕ, ◌+◌, ◌⊎◌, inl, inr, Bool, true, false, ◌&&◌, ne_eqb, cond, eqb, List, [], ◌++◌, Option, Some, None, refl, sym, ap, ◌∙◌, subst, append_assoc}
use Rattle.std.specs.Prelude.{is_some, length, map, option_map, unwrap_or}
use Rattle.std.proofs.lemmas.Bool.{both_ways, cases_Bool, eq-eqb}
use Rattle.std.proofs.lemmas.List.{append-nil}
use Rattle.ca_arena.specs.declared.handle.Handle.{Handle}
use Rattle.ca_ids.specs.Table.{under}
use Rattle.ca_text.specs.Place.{At}
use Rattle.ca_text.proofs.Places.{At-mapped, At-one, At-set-other}
use Rattle.ca_wire.specs.Fields.{Fields}
use Rattle.ca_wire.specs.Message.{Spells, spelled}
use Rattle.ca_model.specs.Server.{Open, Server, ServerCircuit, ServerEnd}
use Rattle.ca_model.specs.ServerSteps.{HasEnd, output_of}
use Rattle.ca_model.specs.ClientEvents.{waiting_down}
use Rattle.ca_model.specs.ServerEvents.{ending, ends_at, ends_by, left_by, reported, server_after, server_closed, without_puts}
use Rattle.ca_model.specs.World.{ClientSide, Joined, ServerSide, World}
use Rattle.ca_model.proofs.Tables.{all-freed-there}
use Rattle.ca_model.proofs.Thinner.{number-or}
use Rattle.ca_laws_parts.specs.Seats.{Seated}
use Rattle.ca_laws_parts.proofs.Midway.{set-here}
use Rattle.ca_laws_parts.specs.Streams.{CircuitEnd, Meets}
use Rattle.ca_laws_parts.specs.Worlds.{AllStream, client_end, input_of, sent_down, server_end}
use Rattle.ca_laws_parts.proofs.ServerEnds.{Goes, Stays}
use Rattle.ca_laws_parts.proofs.Streaming.{Acts, close-acts, meets-on-back, open-acts, shut-acts}

-- ---- the end of a circuit at its server

pub server-waits : (y : ServerSide) (j : Joined) (e : ServerEnd) → j.lists.server_open ≡ true → HasEnd y.core j.at_server e → waiting_down y j ≡ e.link.output
server-waits y j e opened has =
    ap (λ (b : Bool). cond b (output_of (under y.core.circuits j.at_server)) j.left_down) opened ∙ ap (λ (o : Option ServerCircuit). output_of o) has

pub server-left : (y : ServerSide) (j : Joined) → j.lists.server_open ≡ false → waiting_down y j ≡ j.left_down
server-left y j shut = ap (λ (b : Bool). cond b (output_of (under y.core.circuits j.at_server)) j.left_down) shut

pub server-came : (y : ServerSide) (j : Joined) (e : ServerEnd) → HasEnd y.core j.at_server e → input_of (under y.core.circuits j.at_server) ≡ e.link.input.bytes
server-came y j e has = ap (λ (o : Option ServerCircuit). input_of o) has

-- it stays open: these messages were sent, and the same bytes came
pub server-open : (y z : ServerSide) (c d : Joined) (more : List Fields) (e f : ServerEnd) → c.lists.server_open ≡ true → d.lists.server_open ≡ true → sent_down d ≡ sent_down c ++ more
    → HasEnd y.core c.at_server e → HasEnd z.core d.at_server f → f.link.output ≡ e.link.output ++ spelled more → f.link.input.bytes ≡ e.link.input.bytes
    → length d.lists.handled ≡ length c.lists.handled → Acts (server_end y c) (server_end z d)
server-open y z c d more e f t u sent was is output input handled =
    open-acts (server_end y c) (server_end z d) more t u sent
    (server-waits z d f u is ∙ output ∙ ap (λ (l : List ℕ). l ++ spelled more) (sym (server-waits y c e t was)))
    (inl (server-came z d f is ∙ input ∙ sym (server-came y c e was), handled))

-- it stays open, and read a message
pub server-took : (y z : ServerSide) (c d : Joined) (more : List Fields) (e f : ServerEnd) (m : Fields) (front : List ℕ) → c.lists.server_open ≡ true → d.lists.server_open ≡ true → sent_down d ≡ sent_down c ++ more
    → HasEnd y.core c.at_server e → HasEnd z.core d.at_server f → f.link.output ≡ e.link.output ++ spelled more → Spells front m → e.link.input.bytes ≡ front ++ f.link.input.bytes
    → length d.lists.handled ≡ length c.lists.handled + 1 → Acts (server_end y c) (server_end z d)
server-took y z c d more e f m front t u sent was is output spells input handled =
    open-acts (server_end y c) (server_end z d) more t u sent
    (server-waits z d f u is ∙ output ∙ ap (λ (l : List ℕ). l ++ spelled more) (sym (server-waits y c e t was)))
    (inr (m, front, spells, server-came y c e was ∙ input ∙ ap (λ (l : List ℕ). front ++ l) (sym (server-came z d f is)), handled))

-- it ended
pub server-ends : (y z : ServerSide) (c d : Joined) (more : List Fields) (lost : List ℕ) (e : ServerEnd) → c.lists.server_open ≡ true → d.lists.server_open ≡ false → sent_down d ≡ sent_down c ++ more
    → HasEnd y.core c.at_server e → e.link.output ++ spelled more ≡ d.left_down ++ lost → Acts (server_end y c) (server_end z d)
server-ends y z c d more lost e t f sent was left =
    close-acts (server_end y c) (server_end z d) more lost t f sent
    (ap (λ (l : List ℕ). l ++ spelled more) (server-waits y c e t was) ∙ left ∙ ap (λ (l : List ℕ). l ++ lost) (sym (server-left z d f)))

-- it had ended
pub server-shut : (y z : ServerSide) (c d : Joined) → c.lists.server_open ≡ false → d.lists.server_open ≡ false → sent_down d ≡ sent_down c → d.left_down ≡ c.left_down → Acts (server_end y c) (server_end z d)
server-shut y z c d f g sent left = shut-acts (server_end y c) (server_end z d) f g sent (server-left z d g ∙ left ∙ sym (server-left y c f))

-- ---- circuits before and after

-- The same circuit, as its client has it.
pub record Like (c d : Joined) : Type 0 where
  pub client : d.client ≡ c.client
  pub server : d.server ≡ c.server
  pub handle : d.at_server ≡ c.at_server
  pub life : d.lists.server ≡ c.lists.server
  pub side : (x : ClientSide) → client_end x d ≡ client_end x c
  pub up : d.lists.up ≡ c.lists.up

-- and its server's end is as it was, except that it sent these messages more
pub record Tells (c d : Joined) (more : List Fields) : Type 0 where
  pub like : Like c d
  pub is_open : d.lists.server_open ≡ c.lists.server_open
  pub left : d.left_down ≡ c.left_down
  pub handled : length d.lists.handled ≡ length c.lists.handled
  pub said : sent_down d ≡ sent_down c ++ more

pub like-itself : (c : Joined) → Like c c
like-itself c = record { client = refl; server = refl; handle = refl; life = refl; side = λ x. refl; up = refl }

pub like-then : (a b c : Joined) → Like a b → Like b c → Like a c
like-then a b c f g = record { client = g.client ∙ f.client; server = g.server ∙ f.server; handle = g.handle ∙ f.handle; life = g.life ∙ f.life; side = λ x. g.side x ∙ f.side x; up = g.up ∙ f.up }

pub tells-itself : (c : Joined) → Tells c c []
tells-itself c = record { like = like-itself c; is_open = refl; left = refl; handled = refl; said = sym (append-nil (sent_down c)) }

pub tells-then : (a b c : Joined) (ms ns : List Fields) → Tells a b ms → Tells b c ns → Tells a c (ms ++ ns)
tells-then a b c ms ns f g = record {
  like = like-then a b c f.like g.like;
  is_open = g.is_open ∙ f.is_open;
  left = g.left ∙ f.left;
  handled = g.handled ∙ f.handled;
  said = g.said ∙ ap (λ (l : List Fields). l ++ ns) f.said ∙ append_assoc (sent_down a) ms ns;
}

-- an end that told nothing is as it was
pub tells-same : (c d : Joined) → Tells c d [] → (s : ServerSide) → server_end s d ≡ server_end s c
tells-same c d t s = λ i. record {
  came = input_of (under s.core.circuits (t.like.handle i));
  waiting = cond (t.is_open i) (output_of (under s.core.circuits (t.like.handle i))) (t.left i);
  is_open = t.is_open i;
  sent = (t.said ∙ append-nil (sent_down c)) i;
  read = t.handled i;
}

-- ---- an event at a server

-- Of each circuit of this server its end goes on; those of others are as they were.
pub server-event : (w new : World) (i : ℕ) (y z : ServerSide) → At w.servers i y → At new.servers i z → ((l : ℕ) (s : ServerSide) → At w.servers l s → (l ≡ i → ⊥) → At new.servers l s) → new.clients ≡ w.clients
    → ((n : ℕ) (d : Joined) → At new.circuits n d → (c : Joined) × At w.circuits n c × Like c d × (c.server ≡ i → Acts (server_end y c) (server_end z d)) × ((c.server ≡ i → ⊥) → (s : ServerSide) → server_end s d ≡ server_end s c))
    → AllStream w → AllStream new
server-event w new i y z at now others clients back all n d there =
    let b = back n d there in
    let c : Joined = b.0 in
    let st = all n c b.1 in
    let client : At new.clients d.client st.x = subst (λ (k : ℕ). At new.clients k st.x) (sym b.2.client) (subst (λ (l : List ClientSide). At l c.client st.x) (sym clients) st.client) in
    elim (number-or c.server i) [
      | inl mine ↦
          let is : st.y ≡ y = At-one w.servers i st.y y (subst (λ (k : ℕ). At w.servers k st.y) mine st.server) at in
          record {
            x = st.x;
            client = client;
            y = z;
            server = subst (λ (k : ℕ). At new.servers k z) (sym (b.2.server ∙ mine)) now;
            meets = subst (λ (e : CircuitEnd). Meets e (server_end z d)) (sym (b.2.side st.x))
                (meets-on-back (server_end y c) (server_end z d) (client_end st.x c) (b.3 mine) (subst (λ (v : ServerSide). Meets (client_end st.x c) (server_end v c)) is st.meets));
          }
      | inr other ↦
          record {
            x = st.x;
            client = client;
            y = st.y;
            server = subst (λ (k : ℕ). At new.servers k st.y) (sym b.2.server) (others c.server st.y st.server other);
            meets = subst (λ (e : CircuitEnd × CircuitEnd). Meets e.0 e.1) (λ k. (sym (b.2.side st.x) k, sym (b.4 other st.y) k)) st.meets;
          }
    ]

-- ---- ends that end

ending-none : (ends : Joined → Option (List ℕ)) (m : Joined) → ends m ≡ None → ending ends m ≡ m
ending-none ends m is = ap (λ (o : Option (List ℕ)). unwrap_or (option_map (λ (left : List ℕ). server_closed left m) o) m) is

ending-some : (ends : Joined → Option (List ℕ)) (m : Joined) (left : List ℕ) → ends m ≡ Some left → ending ends m ≡ server_closed left m
ending-some ends m left is = ap (λ (o : Option (List ℕ)). unwrap_or (option_map (λ (left : List ℕ). server_closed left m) o) m) is

pub ending-like : (ends : Joined → Option (List ℕ)) (m : Joined) → Like m (ending ends m)
ending-like ends m = go (ends m)
  where
    go : (o : Option (List ℕ)) → Like m (unwrap_or (option_map (λ (left : List ℕ). server_closed left m) o) m)
    go None = like-itself m
    go (Some left) = record { client = refl; server = refl; handle = refl; life = refl; side = λ x. refl; up = refl }

-- By these ends the circuit m ends with a beginning of what waits, or stays.
abbrev pub EndsAs : (old core : Server) → (ends : Joined → Option (List ℕ)) → Joined → Handle → ServerEnd → List Fields → Type 0
EndsAs old core ends m h e more =
    ((ends m ≡ None) × Stays old core h e more) ⊎ ((left : List ℕ) × (ends m ≡ Some left) × ((lost : List ℕ) × (e.link.output ++ spelled more ≡ left ++ lost)))

-- an end of the server, as circuits end
pub ending-acts : (y z : ServerSide) (core : Server) (ends : Joined → Option (List ℕ)) (c m : Joined) (more : List Fields) → z.core ≡ reported core → Tells c m more
    → (c.lists.server_open ≡ true → (e : ServerEnd) × HasEnd y.core c.at_server e × EndsAs y.core core ends m c.at_server e more)
    → (c.lists.server_open ≡ false → (ends m ≡ None) × (more ≡ [])) → Acts (server_end y c) (server_end z (ending ends m))
ending-acts y z core ends c m more is t opens shuts = elim (cases_Bool c.lists.server_open) [
  | inl opened ↦
      let e = opens opened in
      let now : m.lists.server_open ≡ true = t.is_open ∙ opened in
      elim e.2 [
        | inl stays ↦
            let f = stays.1 in
            let there : HasEnd z.core m.at_server f.0 =
            subst (λ (q : Server × Handle). HasEnd q.0 q.1 f.0) (λ k. (sym is k, sym t.like.handle k)) (all-freed-there (λ (v : ServerCircuit). is_some (left_by (Some v))) core.circuits c.at_server (Open f.0) f.1 refl) in
            subst (λ (d : Joined). Acts (server_end y c) (server_end z d)) (sym (ending-none ends m stays.0))
            (server-open y z c m more e.0 f.0 opened now t.said e.1 there f.3 f.2 t.handled)
        | inr over ↦
            subst (λ (d : Joined). Acts (server_end y c) (server_end z d)) (sym (ending-some ends m over.0 over.1))
            (server-ends y z c (server_closed over.0 m) more over.2.0 e.0 opened refl t.said e.1 over.2.1)
      ]
  | inr shut ↦
      let none = shuts shut in
      subst (λ (d : Joined). Acts (server_end y c) (server_end z d)) (sym (ending-none ends m none.0))
      (server-shut y z c m shut (t.is_open ∙ shut) (t.said ∙ ap (λ (l : List Fields). sent_down c ++ l) none.1 ∙ append-nil (sent_down c)) t.left)
]

-- what the core says of an open end, of one that is shut, and of one elsewhere
pub by-core : (i : ℕ) (core : Server) (m : Joined) → m.server ≡ i → m.lists.server_open ≡ true → ends_by i core m ≡ left_by (under core.circuits m.at_server)
by-core i core m same opened =
    ap (λ (b : Bool). cond (b && m.lists.server_open) (left_by (under core.circuits m.at_server)) None) (eq-eqb m.server i same)
    ∙ ap (λ (b : Bool). cond b (left_by (under core.circuits m.at_server)) None) opened

none-if : {A : Type 0} (a b : Bool) (o : Option A) → (a ≡ false) ⊎ (b ≡ false) → cond (a && b) o None ≡ None
none-if true b o (inl e) = absurd (both_ways true e refl)
none-if false b o (inl e) = refl
none-if true true o (inr e) = absurd (both_ways true e refl)
none-if true false o (inr e) = refl
none-if false b o (inr e) = refl

pub by-core-shut : (i : ℕ) (core : Server) (m : Joined) → m.lists.server_open ≡ false → ends_by i core m ≡ None
by-core-shut i core m shut = none-if (eqb m.server i) m.lists.server_open (left_by (under core.circuits m.at_server)) (inr shut)

pub by-core-other : (i : ℕ) (core : Server) (m : Joined) → (m.server ≡ i → ⊥) → ends_by i core m ≡ None
by-core-other i core m other = none-if (eqb m.server i) m.lists.server_open (left_by (under core.circuits m.at_server)) (inl (ne_eqb m.server i other))

-- an end that goes on ends as the core says
pub goes-ends : (i : ℕ) (old core : Server) (m : Joined) (h : Handle) (e : ServerEnd) (more : List Fields) → m.server ≡ i → m.lists.server_open ≡ true → m.at_server ≡ h → HasEnd old h e → Goes old core h more → EndsAs old core (ends_by i core) m h e more
goes-ends i old core m h e more same opened handle has goes =
    let by : ends_by i core m ≡ left_by (under core.circuits h) = by-core i core m same opened ∙ ap (λ (k : Handle). left_by (under core.circuits k)) handle in
    elim (goes e has) [
      | inl stays ↦ inl (by ∙ ap (λ (o : Option ServerCircuit). left_by o) stays.1, stays)
      | inr over ↦ inr (over.1, by ∙ ap (λ (o : Option ServerCircuit). left_by o) over.2, over.3)
    ]

-- ---- an event after which circuits end

-- a circuit before, midway and after such an event
pub circuit-ends : (w : World) (i : ℕ) (y z : ServerSide) (core : Server) (ends : Joined → Option (List ℕ)) (n : ℕ) (c m d : Joined) (more : List Fields) → z.core ≡ reported core → d ≡ ending ends m → Tells c m more
    → (c.server ≡ i → c.lists.server_open ≡ true → (e : ServerEnd) × HasEnd y.core c.at_server e × EndsAs y.core core ends m c.at_server e more)
    → ((c.server ≡ i → c.lists.server_open ≡ true → ⊥) → (ends m ≡ None) × (more ≡ []))
    → Like c d × (c.server ≡ i → Acts (server_end y c) (server_end z d)) × ((c.server ≡ i → ⊥) → (s : ServerSide) → server_end s d ≡ server_end s c)
circuit-ends w i y z core ends n c m d more is after t opens shuts = (
  subst (λ (q : Joined). Like c q) (sym after) (like-then c m (ending ends m) t.like (ending-like ends m)),
  (λ mine.
      subst (λ (q : Joined). Acts (server_end y c) (server_end z q)) (sym after)
      (ending-acts y z core ends c m more is t (λ opened. opens mine opened) (λ shut. shuts (λ same opened. both_ways c.lists.server_open shut opened)))),
  (λ other s.
      let none = shuts (λ same opened. other same) in
      ap (λ (q : Joined). server_end s q) (after ∙ ending-none ends m none.0) ∙ tells-same c m (subst (λ (l : List Fields). Tells c m l) none.1 t) s),
)

-- the end of an open circuit of a server
pub seat-of : (w : World) (i : ℕ) (y : ServerSide) (n : ℕ) (c : Joined) → At w.servers i y → Seated w → At w.circuits n c → c.server ≡ i → c.lists.server_open ≡ true → (e : ServerEnd) × HasEnd y.core c.at_server e
seat-of w i y n c at seated on mine opened =
    let seat = seated.each n c on opened in
    let own : seat.y ≡ y = At-one w.servers i seat.y y (subst (λ (k : ℕ). At w.servers k seat.y) mine seat.at) at in
    (seat.e, subst (λ (v : ServerSide). HasEnd v.core c.at_server seat.e) own seat.has)

-- none of these circuits ends, or is one of this server that is open
pub not-open : (i : ℕ) (core : Server) (c m : Joined) (more : List Fields) → Tells c m more → (c.server ≡ i → c.lists.server_open ≡ true → ⊥) → ends_by i core m ≡ None
not-open i core c m more t none = elim (number-or c.server i) [
  | inl mine ↦ elim (cases_Bool c.lists.server_open) [
    | inl opened ↦ absurd (none mine opened)
    | inr shut ↦ by-core-shut i core m (t.is_open ∙ shut)
  ]
  | inr other ↦ by-core-other i core m (λ q. other (sym t.like.server ∙ q))
]

-- as the core says
pub after-streams : (w mid : World) (i : ℕ) (y side : ServerSide) (core : Server) → At w.servers i y → mid.clients ≡ w.clients → ((l : ℕ) (s : ServerSide) → At w.servers l s → (l ≡ i → ⊥) → At mid.servers l s) → ((s : ServerSide) × At mid.servers i s)
    → ((n : ℕ) (m : Joined) → At mid.circuits n m → (c : Joined) × At w.circuits n c × (more : List Fields) × Tells c m more × (c.server ≡ i → c.lists.server_open ≡ true → Goes y.core core c.at_server more)
    × ((c.server ≡ i → c.lists.server_open ≡ true → ⊥) → more ≡ []))
    → Seated w → AllStream w → AllStream (server_after i side (ends_by i core) core mid)
after-streams w mid i y side core at clients others there back seated all =
    server-event w new i y z at (set-here mid.servers i there.0 z there.1) (λ l s on other. At-set-other mid.servers i l s z (others l s on other) other) clients circuits all
  where
    new : World
    new = server_after i side (ends_by i core) core mid

    z : ServerSide
    z = record side { core = reported core; records = map (without_puts (ends_at (ends_by i core) mid.circuits)) side.records }

    circuits : (n : ℕ) (d : Joined) → At new.circuits n d → (c : Joined) × At w.circuits n c × Like c d × (c.server ≡ i → Acts (server_end y c) (server_end z d)) × ((c.server ≡ i → ⊥) → (s : ServerSide) → server_end s d ≡ server_end s c)
    circuits n d stands =
        let m = At-mapped (ending (ends_by i core)) mid.circuits n d stands in
        let b = back n m.0 m.1 in
        let c : Joined = b.0 in
        let t = b.3 in
        let r = circuit-ends w i y z core (ends_by i core) n c m.0 d b.2 refl m.2 t
        (λ mine opened.
        let e = seat-of w i y n c at seated b.1 mine opened in
        (e.0, e.1, goes-ends i y.core core m.0 c.at_server e.0 b.2 (t.like.server ∙ mine) (t.is_open ∙ opened) t.like.handle e.1 (b.4 mine opened)))
        (λ none. (not-open i core c m.0 b.2 t none, b.5 none)) in
        (c, b.1, r.0, r.1, r.2)
