-- The servers' ends of open circuits, as an event at a server goes by.
use Rattle.std.proofs.Common.{◌≡◌, ℕ, ◌+◌, ◌≤◌, ◌⊎◌, inl, inr, Bool, true, false, cond, ◌&&◌, ◌||◌, eq-eqb, List, ◌++◌, length, Option, Some, None, refl, sym, ap, subst, ◌∙◌, arith}
use Rattle.std.specs.Prelude.{is_some, map, option_map, unwrap_or}
use Rattle.std.proofs.lemmas.List.{length-append}
use Rattle.ca_arena.specs.declared.handle.Handle.{Handle}
use Rattle.ca_ids.specs.Table.{same_handle, under}
use Rattle.ca_model.proofs.Handles.{not-same}
use Rattle.ca_model.proofs.Tables.{all-freed-there, freed-other}
use Rattle.ca_records.specs.declared.puts.Put.{Put}
use Rattle.ca_records.specs.Puts.{Record, withdrawn}
use Rattle.ca_text.specs.Place.{At}
use Rattle.ca_text.proofs.Places.{At-mapped, At-one, At-set-other}
use Rattle.ca_model.specs.Server.{Ended, Open, Server, ServerCircuit, ServerEnd}
use Rattle.ca_model.specs.ServerSteps.{HasEnd, closed}
use Rattle.ca_model.specs.History.{Entry, Step}
use Rattle.ca_model.specs.ServerEvents.{ending, ends_at, ends_by, ends_here, left_by, reported, server_after, server_closed, without_puts}
use Rattle.ca_model.specs.World.{Joined, ServerSide, Setting, World, with_server}
use Rattle.ca_laws_parts.specs.Lives.{EndsAgree}
use Rattle.ca_laws_parts.specs.Moves.{EndsOnly, Midway, Moves}
use Rattle.ca_laws_parts.specs.Seats.{HasSeat, Seated, Sound}
use Rattle.ca_laws_parts.proofs.Cores.{EndsBy}
use Rattle.ca_laws_parts.proofs.WritesEnding.{ending-closed, ending-not}
use Rattle.ca_laws_parts.proofs.WritesEvents.{SameEnds}
use Rattle.ca_laws_parts.proofs.Midway.{ended-moves, logged_after, set-here, side_after}
use Rattle.ca_laws_parts.proofs.Frames.{seated-like}
use Rattle.ca_laws_parts.proofs.WritesMoves.{moves-keep, same-or}

-- ---- whether circuits end, by the core

-- Of each open circuit of server i it is known whether it ends, by its handle; if it does not,
-- the core has its end.
abbrev pub EndsAt : (i : ℕ) → (old new : Server) → (ends : Joined → Option (List ℕ)) → (gone : Handle → Bool) → Type 0
EndsAt i old new ends gone = (c : Joined) (e : ServerEnd) → c.server ≡ i → c.lists.server_open ≡ true → HasEnd old c.at_server e
    → ((is_some (ends c) ≡ true) × (gone c.at_server ≡ true))
    ⊎ ((is_some (ends c) ≡ false) × (gone c.at_server ≡ false) × ((f : ServerEnd) × HasEnd new c.at_server f))

by-core : (i : ℕ) (core : Server) (c : Joined) → c.server ≡ i → c.lists.server_open ≡ true → is_some (ends_by i core c) ≡ is_some (left_by (under core.circuits c.at_server))
by-core i core c same opened =
    ap (λ (b : Bool). is_some (cond (b && c.lists.server_open) (left_by (under core.circuits c.at_server)) None)) (eq-eqb c.server i same)
    ∙ ap (λ (b : Bool). is_some (cond b (left_by (under core.circuits c.at_server)) None)) opened

pub ends-by-at : (i : ℕ) (old new : Server) (gone : Handle → Bool) → EndsBy old new gone → EndsAt i old new (ends_by i new) gone
ends-by-at i old new gone ends c e same opened has = elim (ends c.at_server e has) [
  | inl over ↦ inl (by-core i new c same opened ∙ ap (λ (o : Option ServerCircuit). is_some (left_by o)) over.1.2, over.0)
  | inr stays ↦ inr (by-core i new c same opened ∙ ap (λ (o : Option ServerCircuit). is_some (left_by o)) stays.1.1, stays.0, stays.1)
]

or-false : (a b : Bool) → a ≡ false → b ≡ false → a || b ≡ false
or-false true b e f = absurd cc
or-false false b e f = f

or-right : (a b : Bool) → b ≡ true → a || b ≡ true
or-right true b e = refl
or-right false b e = e

or-left : (a b : Bool) → a ≡ true → a || b ≡ true
or-left true b e = refl
or-left false b e = absurd cc

-- also in a step that closes the circuit j
pub closed-at : (i : ℕ) (j : Joined) (left : List ℕ) (old mid : Server) (gone : Handle → Bool) → EndsBy old mid gone → EndsAt i old (closed j.at_server mid) (ends_here j left i (closed j.at_server mid)) (λ (g : Handle). gone g || same_handle g j.at_server)
closed-at i j left old mid gone ends c e same opened has = go (same_handle c.at_server j.at_server) refl
  where
    core : Server
    core = closed j.at_server mid

    here : (b : Bool) → same_handle c.at_server j.at_server ≡ b → is_some (ends_here j left i core c) ≡ is_some (cond (b && true) (Some left) (ends_by i core c))
    here b is =
        ap (λ (x : Bool). is_some (cond (same_handle c.at_server j.at_server && (x && c.lists.server_open)) (Some left) (ends_by i core c))) (eq-eqb c.server i same)
        ∙ ap (λ (x : Bool). is_some (cond (same_handle c.at_server j.at_server && x) (Some left) (ends_by i core c))) opened
        ∙ ap (λ (x : Bool). is_some (cond (x && true) (Some left) (ends_by i core c))) is

    go : (b : Bool) → same_handle c.at_server j.at_server ≡ b
        → ((is_some (ends_here j left i core c) ≡ true) × (gone c.at_server || same_handle c.at_server j.at_server ≡ true))
        ⊎ ((is_some (ends_here j left i core c) ≡ false) × (gone c.at_server || same_handle c.at_server j.at_server ≡ false) × ((f : ServerEnd) × HasEnd core c.at_server f))
    go true is = inl (here true is, or-right (gone c.at_server) (same_handle c.at_server j.at_server) is)
    go false is = elim (ends c.at_server e has) [
      | inl over ↦
          let there = freed-other mid.circuits c.at_server j.at_server (Ended over.1.0 over.1.1) over.1.2 (not-same c.at_server j.at_server is) in
          inl (here false is ∙ by-core i core c same opened ∙ ap (λ (o : Option ServerCircuit). is_some (left_by o)) there, or-left (gone c.at_server) (same_handle c.at_server j.at_server) over.0)
      | inr stays ↦
          let there = freed-other mid.circuits c.at_server j.at_server (Open stays.1.0) stays.1.1 (not-same c.at_server j.at_server is) in
          inr (here false is ∙ by-core i core c same opened ∙ ap (λ (o : Option ServerCircuit). is_some (left_by o)) there, or-false (gone c.at_server) (same_handle c.at_server j.at_server) stays.0 is, (stays.1.0, there))
    ]

-- and in one that closes it for a bad message
pub bad-at : (i : ℕ) (j : Joined) (left : List ℕ) (old : Server) → EndsAt i old (closed j.at_server old) (ends_here j left i old) (λ (g : Handle). same_handle g j.at_server)
bad-at i j left old c e same opened has = go (same_handle c.at_server j.at_server) refl
  where
    here : (b : Bool) → same_handle c.at_server j.at_server ≡ b → is_some (ends_here j left i old c) ≡ is_some (cond (b && true) (Some left) (ends_by i old c))
    here b is =
        ap (λ (x : Bool). is_some (cond (same_handle c.at_server j.at_server && (x && c.lists.server_open)) (Some left) (ends_by i old c))) (eq-eqb c.server i same)
        ∙ ap (λ (x : Bool). is_some (cond (same_handle c.at_server j.at_server && x) (Some left) (ends_by i old c))) opened
        ∙ ap (λ (x : Bool). is_some (cond (x && true) (Some left) (ends_by i old c))) is

    go : (b : Bool) → same_handle c.at_server j.at_server ≡ b
        → ((is_some (ends_here j left i old c) ≡ true) × (same_handle c.at_server j.at_server ≡ true))
        ⊎ ((is_some (ends_here j left i old c) ≡ false) × (same_handle c.at_server j.at_server ≡ false) × ((f : ServerEnd) × HasEnd (closed j.at_server old) c.at_server f))
    go true is = inl (here true is, is)
    go false is =
        inr (here false is ∙ by-core i old c same opened ∙ ap (λ (o : Option ServerCircuit). is_some (left_by o)) has, is, (e, freed-other old.circuits c.at_server j.at_server (Open e) has (not-same c.at_server j.at_server is)))

-- ---- logs and settings

-- an event at server i, by which each step that a circuit handled was handled before, or
-- ended within the log
pub sound-moves : (s : Setting) (w new : World) (i : ℕ) (y next : ServerSide) (log more : List Entry) → At w.server_logs y.life log → Moves w new i y next log more
    → ((n : ℕ) (d : Joined) → At new.circuits n d → (c : Joined) × At w.circuits n c × (d.lists.server ≡ c.lists.server)
    × ((k : ℕ) (h : Step) → At d.lists.handled k h → At c.lists.handled k h ⊎ ((d.lists.server ≡ y.life) × (h.after ≤ length (log ++ more)))))
    → next.setting ≡ y.setting → Seated new → Sound s w → Sound s new
sound-moves s w new i y next log more here m back setting seated h = record {
  writes = moves-keep w new i y next log more here m h.writes;
  seated = seated;
  within = λ n d at.
      let c = back n d at in
      let was = h.within n c.0 c.1 in
      elim (same-or d.lists.server y.life) [
        | inl mine ↦
            let is : was.0 ≡ log = At-one w.server_logs y.life was.0 log (subst (λ (l : ℕ). At w.server_logs l was.0) (sym c.2 ∙ mine) was.1) here in (
              log ++ more,
              subst (λ (l : ℕ). At new.server_logs l (log ++ more)) (sym mine) m.logged,
              λ k g on. elim (c.3 k g on) [
                | inl old ↦
                    let le : g.after ≤ length was.0 = was.2 k g old in
                    let len : length was.0 ≡ length log = ap (λ (l : List Entry). length l) is in
                    let sum : length (log ++ more) ≡ length log + length more = length-append log more in
                    omega (arith, le, len, sum)
                | inr now ↦ now.1
              ],
            )
        | inr other ↦ (
          was.0,
          m.stay d.lists.server was.0 (subst (λ (l : ℕ). At w.server_logs l was.0) (sym c.2) was.1) other,
          λ k g on. elim (c.3 k g on) [
            | inl old ↦ was.2 k g old
            | inr now ↦ absurd (other now.0)
          ],
        )
      ];
  given = λ j z at. elim (m.server j z at) [
    | inl same ↦ subst (λ (k : ℕ). At s.servers k z.setting) (sym same.0) (subst (λ (q : _). At s.servers i q) (sym (ap (λ (x : ServerSide). x.setting) same.1 ∙ setting)) (h.given i y m.is))
    | inr old ↦ h.given j z old.0
  ];
}

-- ---- an event at a server, after which circuits end

pub open-still : (ends : Joined → Option (List ℕ)) (c d : Joined) → d ≡ ending ends c → d.lists.server_open ≡ true → (is_some (ends c) ≡ false) × (d ≡ c)
open-still ends c d is opened = go (is_some (ends c)) refl
  where
    go : (b : Bool) → is_some (ends c) ≡ b → (is_some (ends c) ≡ false) × (d ≡ c)
    go true e = absurd (let f : true ≡ false = sym opened ∙ ap (λ (x : Joined). x.lists.server_open) is ∙ ending-closed ends c e in cc)
    go false e = (e, is ∙ ending-not ends c e)

pub ending-lists : (ends : Joined → Option (List ℕ)) (c : Joined) → ((ending ends c).lists.server ≡ c.lists.server) × ((ending ends c).lists.handled ≡ c.lists.handled)
ending-lists ends c = go (ends c)
  where
    go : (o : Option (List ℕ)) → ((unwrap_or (option_map (λ (left : List ℕ). server_closed left c) o) c).lists.server ≡ c.lists.server)
        × ((unwrap_or (option_map (λ (left : List ℕ). server_closed left c) o) c).lists.handled ≡ c.lists.handled)
    go None = (refl, refl)
    go (Some left) = (refl, refl)

-- where circuits end that the core of server i ends
module _ (w mid : World) (i : ℕ) (y next : ServerSide) (ends : Joined → Option (List ℕ)) (core : Server) (gone : Handle → Bool) (is_server : At w.servers i y) (is_core : next.core ≡ reported core) (same_life : next.life ≡ y.life) (back : (n : ℕ) (d : Joined) → At mid.circuits n d → (c : Joined) × At w.circuits n c × SameEnds c d) (servers : (j : ℕ) (z : ServerSide) → At w.servers j z → (j ≡ i → ⊥) → At mid.servers j z) (there : (z : ServerSide) × At mid.servers i z) (at_ends : EndsAt i y.core core ends gone) (h : Seated w) where
  abbrev after : World
  after = with_server i next (record mid { circuits = map (ending ends) mid.circuits })

  -- the end that an open circuit of this server had
  had : (n : ℕ) (c : Joined) → At mid.circuits n c → c.server ≡ i → c.lists.server_open ≡ true → (e : ServerEnd) × HasEnd y.core c.at_server e × (c.lists.server ≡ y.life)
  had n c at same opened =
      let b = back n c at in
      let seat = h.each n b.0 b.1 (sym b.2.is_open ∙ opened) in
      let own : seat.y ≡ y = At-one w.servers i seat.y y (subst (λ (k : ℕ). At w.servers k seat.y) (sym b.2.server ∙ same) seat.at) is_server in (
        seat.e,
        subst (λ (k : Handle). HasEnd y.core k seat.e) (sym b.2.handle) (subst (λ (z : ServerSide). HasEnd z.core b.0.at_server seat.e) own seat.has),
        b.2.life ∙ seat.joins ∙ ap (λ (z : ServerSide). z.life) own,
      )

  pub ends-agree : EndsAgree mid.circuits i ends (λ (p : Put). gone p.circuit)
  ends-agree n c b at same opened handle =
      let e = had n c at same opened in
      ap gone handle ∙ elim (at_ends c e.0 same opened e.1) [
        | inl over ↦ over.1 ∙ sym over.0
        | inr stays ↦ stays.1 ∙ sym stays.0
      ]

  stayed : (c : Joined) (e : ServerEnd) → c.server ≡ i → c.lists.server_open ≡ true → HasEnd y.core c.at_server e → is_some (ends c) ≡ false → (f : ServerEnd) × HasEnd core c.at_server f
  stayed c e mine opened has stays = elim (at_ends c e mine opened has) [
    | inl over ↦ absurd (let f : true ≡ false = sym over.0 ∙ stays in cc)
    | inr is ↦ is.2
  ]

  pub seated-after : Seated after
  seated-after = record {
    each = λ n d at opened.
        let x = At-mapped (ending ends) mid.circuits n d at in
        let still = open-still ends x.0 d x.2 opened in
        let c1 : Joined = x.0 in
        let opened1 : c1.lists.server_open ≡ true = ap (λ (z : Joined). z.lists.server_open) (sym still.1) ∙ opened in
        subst (λ (z : Joined). HasSeat after z) (sym still.1) (elim (same-or c1.server i) [
          | inl mine ↦
              let e = had n c1 x.1 mine opened1 in
              let f = stayed c1 e.0 mine opened1 e.1 still.0 in
              record {
                y = next;
                at = subst (λ (k : ℕ). At after.servers k next) (sym mine) (set-here mid.servers i there.0 next there.1);
                joins = e.2 ∙ sym same_life;
                e = f.0;
                has = subst (λ (z : Server). HasEnd z c1.at_server f.0) (sym is_core) (all-freed-there (λ (c : ServerCircuit). is_some (left_by (Some c))) core.circuits c1.at_server (Open f.0) f.1 refl);
              }
          | inr other ↦
              let b = back n c1 x.1 in
              let seat = h.each n b.0 b.1 (sym b.2.is_open ∙ opened1) in
              record {
                y = seat.y;
                at = At-set-other mid.servers i c1.server seat.y next (servers c1.server seat.y (subst (λ (k : ℕ). At w.servers k seat.y) (sym b.2.server) seat.at) other) other;
                joins = b.2.life ∙ seat.joins;
                e = seat.e;
                has = subst (λ (k : Handle). HasEnd seat.y.core k seat.e) (sym b.2.handle) seat.has;
              }
        ]);
    one = λ n l d e at on same a b handles.
        let x = At-mapped (ending ends) mid.circuits n d at in
        let z = At-mapped (ending ends) mid.circuits l e on in
        let p = open-still ends x.0 d x.2 a in
        let q = open-still ends z.0 e z.2 b in
        let c = back n x.0 x.1 in
        let u = back l z.0 z.1 in
        h.one n l c.0 u.0 c.1 u.1 (sym c.2.server ∙ ap (λ (t : Joined). t.server) (sym p.1) ∙ same ∙ ap (λ (t : Joined). t.server) q.1 ∙ u.2.server)
        (sym c.2.is_open ∙ ap (λ (t : Joined). t.lists.server_open) (sym p.1) ∙ a)
        (sym u.2.is_open ∙ ap (λ (t : Joined). t.lists.server_open) (sym q.1) ∙ b)
        (sym c.2.handle ∙ ap (λ (t : Joined). t.at_server) (sym p.1) ∙ handles ∙ ap (λ (t : Joined). t.at_server) q.1 ∙ u.2.handle);
  }

pub seated-ended : (w mid : World) (i : ℕ) (y side : ServerSide) (ends : Joined → Option (List ℕ)) (core : Server) (gone : Handle → Bool) → At w.servers i y → side.life ≡ y.life → ((n : ℕ) (d : Joined) → At mid.circuits n d → (c : Joined) × At w.circuits n c × SameEnds c d)
    → ((j : ℕ) (z : ServerSide) → At w.servers j z → (j ≡ i → ⊥) → At mid.servers j z) → ((z : ServerSide) × At mid.servers i z) → EndsAt i y.core core ends gone → Seated w → Seated (server_after i side ends core mid)
seated-ended w mid i y side ends core gone at life back servers there at_ends h =
    let next : ServerSide = record side { core = reported core; records = map (without_puts (ends_at ends mid.circuits)) side.records } in
    seated-like (after w mid i y next ends core gone at refl life back servers there at_ends h) (server_after i side ends core mid) refl (λ n d on. (d, on, refl, refl, refl, refl))
    (seated-after w mid i y next ends core gone at refl life back servers there at_ends h)

-- An event at a server that is told, by which circuits end.
pub event-keeps : (s : Setting) (w mid : World) (i : ℕ) (y side : ServerSide) (log more : List Entry) (records : List Record) (ends : Joined → Option (List ℕ)) (core : Server) (gone : Handle → Bool) → Midway w mid i y side log more records → Sound s w
    → ((n : ℕ) (d : Joined) → At mid.circuits n d → (c : Joined) × At w.circuits n c × SameEnds c d) → ((j : ℕ) (z : ServerSide) → At w.servers j z → (j ≡ i → ⊥) → At mid.servers j z) → ((z : ServerSide) × At mid.servers i z)
    → EndsAt i y.core core ends gone → EndsOnly mid.circuits i ends → side.setting ≡ y.setting → core.records ≡ withdrawn (λ (p : Put). gone p.circuit) records → Sound s (server_after i side ends core mid)
event-keeps s w mid i y side log more records ends core gone m h back servers there at_ends only setting is =
    let lost : Put → Bool = λ (p : Put). gone p.circuit in
    let new : World = server_after i side ends core mid in
    let next : ServerSide = side_after w mid i y side log more records ends lost core in
    sound-moves s w new i y next (log) (logged_after w mid i y side log more records ends lost core) m.here
    (ended-moves w mid i y side log more records ends lost core m h.writes is (ends-agree w mid i y next ends core gone m.is refl m.same_life back servers there at_ends h.seated) only)
    (λ n d at.
    let x = At-mapped (ending ends) mid.circuits n d at in
    let l = ending-lists ends x.0 in
    let b = back n x.0 x.1 in (
      b.0,
      b.1,
      ap (λ (z : Joined). z.lists.server) x.2 ∙ l.0 ∙ b.2.life,
      λ k g on. inl (subst (λ (z : List Step). At z k g) (ap (λ (z : Joined). z.lists.handled) x.2 ∙ l.1 ∙ b.2.handled) on),
    ))
    setting
    (seated-ended w mid i y side ends core gone m.is m.same_life back servers there at_ends h.seated) h
