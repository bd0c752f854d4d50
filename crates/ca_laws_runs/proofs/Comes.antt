-- Where the puts of servers come from: a message that is handled, or the first that waits, as its
-- record's busy put is finished.
use Rattle.std.proofs.Common.{◌≡◌, ℕ, suc, ◌⊎◌, inl, inr, true, false, List, [], ◌∷◌, ◌++◌, length, Option, Some, refl, sym, ap, subst, ◌∙◌}
use Rattle.ca_arena.specs.declared.handle.Handle.{Handle}
use Rattle.ca_ids.specs.Table.{under}
use Rattle.ca_ids.specs.Wire.{wire_of}
use Rattle.ca_model.proofs.Tables.{wire-under}
use Rattle.ca_records.specs.declared.puts.Put.{Put}
use Rattle.ca_records.specs.declared.puts.Stamp.{Stamp}
use Rattle.ca_records.specs.Puts.{Record, WaitingPut, finished, with_record, with_value, with_waiting, withdrawn, written_meta}
use Rattle.ca_text.specs.Place.{At}
use Rattle.ca_text.proofs.Places.{some_is}
use Rattle.ca_wire.specs.Fields.{Fields}
use Rattle.ca_model.specs.Due.{Action, Applies}
use Rattle.ca_model.specs.Due as action
use Rattle.ca_model.specs.History.{Entry, Sent}
use Rattle.ca_model.specs.Server.{OpenChannel, Server, ServerEnd}
use Rattle.ca_model.specs.ServerSteps.{HasEnd, IsPut, Records}
use Rattle.ca_model.specs.Speech.{In, sid_in}
use Rattle.ca_model.specs.ServerEvents.{first_of, next_busy, records_after}
use Rattle.ca_model.specs.ServerEvents as event
use Rattle.ca_model.specs.World.{Joined, PutPlace, RecordSide, ServerSide, World}
use Rattle.ca_laws_parts.specs.Agrees.{Agrees, AreOthers, IsBusyAs, WaitsAs}
use Rattle.ca_laws_parts.specs.Both.{Both}
use Rattle.ca_laws_parts.specs.Lives.{IsPutOf}
use Rattle.ca_laws_parts.proofs.WritesLists.{In-snoc, beside-left, beside-right}
use Rattle.ca_laws_parts.proofs.WritesLives.{others-apart}
use Rattle.ca_laws_runs.specs.Pairs.{BusyPair, CoreWaits, SideWaits}
use Rattle.ca_laws_runs.proofs.Pairs.{Follows, In-drop, cores-are, cores-with, cores-withdrawn, follows-keep, follows-with, none-some, sides-core, sides-same}

-- ---- a put beside its place

module _ (Is : PutPlace → Put → Type 0) (y : List Entry) (cs : List Record) (rs : List RecordSide) (both : Both (Agrees Is y) cs rs) where
  pub beside-named : AreOthers rs → (c : Record) (r : RecordSide) → In cs c → In rs r → c.state.name ≡ r.name → Agrees Is y c r
  beside-named others c r in_cs in_rs same =
      let b = beside-left (Agrees Is y) cs rs in_cs.0 c both in_cs.1 in
      elim (others-apart rs in_cs.0 in_rs.0 b.0 r others b.1 in_rs.1) [
        | inl one ↦
            let at : At rs in_rs.0 b.0 = subst (λ (k : ℕ). At rs k b.0) one b.1 in
            subst (λ (z : RecordSide). Agrees Is y c z) (some_is b.0 r (sym at ∙ in_rs.1)) b.2
        | inr apart ↦ absurd (apart.0 (sym same ∙ b.2.name))
      ]

  pub busy-beside : AreOthers rs → (q : PutPlace) (b : Put) → BusyPair cs rs q b → Is q b
  busy-beside others q b p =
      let a = beside-named others p.c p.r p.in_cs p.in_rs p.name in
      subst (λ (o : Option Put). IsBusyAs Is (Some q) o) p.core (subst (λ (o : Option PutPlace). IsBusyAs Is o p.c.busy) p.side a.busy_as)

  pub core-beside : (b : Put) → CoreWaits cs b → (q : PutPlace) × SideWaits rs q × Is q b
  core-beside b p =
      let r = beside-left (Agrees Is y) cs rs p.1.0 p.0 both p.1.1 in
      let q = beside-right (WaitsAs Is y r.0.number) r.0.waiting p.0.waiting p.2.1.0 p.2.0 r.2.each p.2.1.1 in
      (q.0, (r.0, (p.1.0, r.1), (p.2.1.0, q.1)), subst (λ (z : Put). Is q.0 z) p.2.2 q.2.1)

-- ---- puts that come

module _ (w : World) where
  -- A message of a circuit of server i is handled, as this put, on a channel that is open.
  pub record StepPut (i : ℕ) (q : PutPlace) (b : Put) : Type 0 where
    pub j : Joined
    pub on : At w.circuits q.circuit j
    pub place : q.place ≡ length j.lists.handled
    pub y : ServerSide
    pub there : At w.servers j.server y
    pub of : i ≡ j.server
    pub is_open : j.lists.server_open ≡ true
    pub e : ServerEnd
    pub has : HasEnd y.core j.at_server e
    pub handle : b.circuit ≡ j.at_server
    pub ch : OpenChannel
    pub channel : under e.channels b.channel ≡ Some ch
    pub s : Sent
    pub sent : At j.lists.up q.place s
    pub sid : wire_of b.channel ≡ sid_in s.message

  -- The first that waits for a record of server i: it came at this place.
  pub record NextPut (i : ℕ) (q : PutPlace) (b : Put) : Type 0 where
    pub y : ServerSide
    pub there : At w.servers i y
    pub is_put : IsPutOf w.circuits i q b
    pub core : CoreWaits y.core.records b
    pub side : SideWaits y.records q

  abbrev pub Comes : (i : ℕ) → PutPlace → Put → Type 0
  Comes i q b = StepPut i q b ⊎ NextPut i q b

-- ---- a message

module _ (w : World) (k : ℕ) (j : Joined) (y : ServerSide) (e t : ServerEnd) (m : Fields) (s : Sent) (on : At w.circuits k j) (there : At w.servers j.server y) (opened : j.lists.server_open ≡ true) (has : HasEnd y.core j.at_server e) (same : t.channels ≡ e.channels) (sent : At j.lists.up (length j.lists.handled) s) (is : s.message ≡ m) where
  abbrev own : PutPlace
  own = record { circuit = k; place = length j.lists.handled }

  step-put : (b : Put) → IsPut j.at_server t m b → StepPut w j.server own b
  step-put b (c, found, b_is) =
      let r = wire-under t.channels m.p1 c found in
      let ch : b.channel ≡ c.0 = ap (λ (p : Put). p.channel) b_is in
      record {
        j = j;
        on = on;
        place = refl;
        y = y;
        there = there;
        of = refl;
        is_open = opened;
        e = e;
        has = has;
        handle = ap (λ (p : Put). p.circuit) b_is;
        ch = c.1;
        channel = ap (λ (h : Handle). under e.channels h) ch ∙ ap (λ (x : _). under x c.0) (sym same) ∙ r.0;
        s = s;
        sent = sent;
        sid = ap wire_of ch ∙ r.1 ∙ ap (λ (x : Fields). x.p1) (sym is);
      }

  abbrev From : List Record → List RecordSide → Type 0
  From ds ss = Follows (Comes w j.server) y.core.records ds y.records ss

  quiet : (new : Server) → new ≡ y.core → From new.records y.records
  quiet new new_is = follows-keep (Comes w j.server) y.core.records new.records y.records y.records (cores-are y.core.records new.records (ap (λ (z : Server). z.records) new_is)) (sides-same y.records)

  pub acted-follow : (did : Action) (new : Server) → Records y.core j.at_server t m did new → From new.records (records_after y.core j.at_server own did y.records)
  acted-follow (Applies name value true) new (b, put, new_is) =
      let f : Record → Record = λ (r : Record). record (with_value value (written_meta value y.core.stamp) r) { busy = Some b } in
      let g : RecordSide → RecordSide = λ (r : RecordSide). record r { busy = Some own } in
      subst (λ (x : Server). From x.records (event.with_record name g y.records)) (sym new_is)
      (follows-with (Comes w j.server) name f g y.core.records y.records (λ c. refl) (λ r. refl)
      (λ c r q d in_cs in_rs names core side. inr (inl (subst (λ (z : PutPlace × Put). StepPut w j.server z.0 z.1) (λ i. (some_is own q side i, some_is b d core i)) (step-put b put))))
      (λ c x in_cs h. inl (c, in_cs, (x, h, refl)))
      (λ r q in_rs h. inl (r, in_rs, h)))
  acted-follow (Applies name value false) new new_is =
      subst (λ (x : Server). From x.records y.records) (sym new_is)
      (follows-keep (Comes w j.server) y.core.records (with_record name (with_value value (written_meta value y.core.stamp)) y.core.records) y.records y.records
      (cores-with name (with_value value (written_meta value y.core.stamp)) y.core.records (λ c. refl) (λ c. refl) (λ c. refl)) (sides-same y.records))
  acted-follow (action.Waits name value) new (b, put, new_is) =
      let x : WaitingPut = record { put = b; value = value } in
      let g : RecordSide → RecordSide = λ (r : RecordSide). record r { waiting = r.waiting ++ own ∷ [] } in
      subst (λ (z : Server). From z.records (event.with_record name g y.records)) (sym new_is)
      (follows-with (Comes w j.server) name (with_waiting x) g y.core.records y.records (λ c. refl) (λ r. refl)
      (λ c r q d in_cs in_rs names core side. inl (record { c = c; r = r; in_cs = in_cs; in_rs = in_rs; name = names; core = core; side = side }))
      (λ c z in_cs h. elim (In-snoc c.waiting x z h) [
        | inl old ↦ inl (c, in_cs, (z, old, refl))
        | inr new_it ↦ inr (own, inl (subst (λ (p : Put). StepPut w j.server own p) (ap (λ (p : WaitingPut). p.put) (sym new_it)) (step-put b put)))
      ])
      (λ r q in_rs h. elim (In-snoc r.waiting own q h) [
        | inl old ↦ inl (r, in_rs, old)
        | inr new_it ↦ inr (b, inl (subst (λ (p : PutPlace). StepPut w j.server p b) (sym new_it) (step-put b put)))
      ]))
  acted-follow (action.Clears sid) new new_is =
      subst (λ (x : Server). From x.records (records_after y.core j.at_server own (action.Clears sid) y.records)) (sym new_is)
      (follows-keep (Comes w j.server) y.core.records (withdrawn (event.is_of_channel j.at_server sid) y.core.records) y.records (event.with_core (event.without_channel j.at_server sid) y.core.records y.records)
      (cores-withdrawn (event.is_of_channel j.at_server sid) y.core.records) (sides-core j.at_server sid y.core.records y.records))
  acted-follow action.Nothing new new_is = quiet new new_is
  acted-follow action.Greets new new_is = quiet new new_is
  acted-follow (action.Names p) new new_is = quiet new new_is
  acted-follow (action.Opens c) new new_is = quiet new new_is
  acted-follow (action.Adds x) new new_is = quiet new new_is
  acted-follow (action.Drops key) new new_is = quiet new new_is
  acted-follow (action.Switches x) new new_is = quiet new new_is

-- ---- a finish

none-first : (q : PutPlace) → first_of [] ≡ Some q → ⊥
none-first q e = none-some q e

-- the first that waits, on both sides
first-pair : (Is : PutPlace → Put → Type 0) (y : List Entry) (n : ℕ) (stamp : Stamp) (c : Record) (ps : List PutPlace) (ws : List WaitingPut) (q : PutPlace) (b : Put) → Both (WaitsAs Is y n) ps ws → (finished stamp c ws).busy ≡ Some b → first_of ps ≡ Some q
    → Is q b × In ps q × ((x : WaitingPut) × In ws x × (x.put ≡ b))
first-pair Is y n stamp c [] ws q b both core side = absurd (none-first q side)
first-pair Is y n stamp c (p ∷ ps) [] q b both core side = absurd both
first-pair Is y n stamp c (p ∷ ps) (x ∷ ws) q b both core side =
    let a : p ≡ q = some_is p q side in
    let d : x.put ≡ b = some_is x.put b core in
    (subst (λ (z : PutPlace × Put). Is z.0 z.1) (λ i. (a i, d i)) both.0.1, (0, side), (x, (0, refl), d))

finished-name : (stamp : Stamp) (c : Record) (ws : List WaitingPut) → (finished stamp c ws).state.name ≡ c.state.name
finished-name stamp c [] = refl
finished-name stamp c (x ∷ ws) = refl

finished-waits : (stamp : Stamp) (c : Record) (ws : List WaitingPut) (x : WaitingPut) → In (finished stamp c ws).waiting x → In ws x
finished-waits stamp c [] x h = h
finished-waits stamp c (z ∷ ws) x h = (suc h.0, h.1)

pub finish-follow : (w : World) (i : ℕ) (y : ServerSide) (name : List ℕ) (log : List Entry) → At w.servers i y → Both (Agrees (IsPutOf w.circuits i) log) y.core.records y.records → AreOthers y.records
    → Follows (Comes w i) y.core.records (with_record name (λ (q : Record). finished y.core.stamp q q.waiting) y.core.records) y.records (event.with_record name next_busy y.records)
finish-follow w i y name log at both others =
    follows-with (Comes w i) name (λ (q : Record). finished y.core.stamp q q.waiting) next_busy y.core.records y.records (λ c. finished-name y.core.stamp c c.waiting) (λ r. refl)
    (λ c r q b in_cs in_rs same core side.
    let a = beside-named (IsPutOf w.circuits i) log y.core.records y.records both others c r in_cs in_rs same in
    let p = first-pair (IsPutOf w.circuits i) log r.number y.core.stamp c r.waiting c.waiting q b a.each core side in
    inr (inr (record { y = y; there = at; is_put = p.0; core = (c, in_cs, p.2); side = (r, in_rs, p.1) })))
    (λ c x in_cs h. inl (c, in_cs, (x, finished-waits y.core.stamp c c.waiting x h, refl)))
    (λ r q in_rs h. inl (r, in_rs, In-drop 1 r.waiting q h))
