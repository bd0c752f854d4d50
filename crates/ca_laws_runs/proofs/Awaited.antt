-- What a server's core awaits to send is kept, in every world whose puts stand.
use Rattle.std.proofs.Common.{◌≡◌, ℕ, inl, Bool, true, false, List, Option, Some, None, refl, sym, subst, ◌∙◌}
use Rattle.std.proofs.lemmas.Slice.Eq.{bytes_eq-Decides}
use Rattle.std.specs.Prelude.{is_some}
use Rattle.std.specs.Str.{bytes_eq}
use Rattle.ca_arena.specs.declared.handle.Handle.{Handle}
use Rattle.ca_ids.specs.Table.{under}
use Rattle.ca_records.specs.Puts.{Record}
use Rattle.ca_text.specs.Place.{At}
use Rattle.ca_text.proofs.Places.{At-one}
use Rattle.ca_model.specs.Server.{Open}
use Rattle.ca_model.specs.ServerSteps.{HasEnd}
use Rattle.ca_model.specs.World.{Joined, PutPlace, RecordSide, Setting, World}
use Rattle.ca_laws_parts.specs.Worlds.{HandlesStand}
use Rattle.ca_laws_parts.specs.Awaited.{KeepsAwaited}
use Rattle.ca_laws_parts.proofs.Puts.{PutIn}
use Rattle.ca_laws_parts.proofs.Thins.{of-channel, records-there, sid-is, there-kept}
use Rattle.ca_laws_parts.specs.Agrees.{Agrees, IsBusyBy, IsBusyWith}
use Rattle.ca_laws_parts.specs.Lives.{IsPutOf}
use Rattle.ca_laws_parts.specs.Moves.{Lives}
use Rattle.ca_laws_parts.specs.Seats.{Sound}
use Rattle.ca_laws_parts.proofs.WritesEvents.{find-at}
use Rattle.ca_laws_parts.proofs.Going.{came-as}
use Rattle.ca_laws_runs.specs.Pairs.{BusyPair}
use Rattle.ca_laws_runs.specs.Puts.{AllPuts}
use Rattle.ca_laws_runs.proofs.Comes.{beside-named, busy-beside}

some-there : {A : Type 0} (o : Option A) → is_some o ≡ true → (x : A) × (o ≡ Some x)
some-there None is = absurd cc
some-there (Some x) is = (x, refl)

pub keeps-awaited : (s : Setting) (w : World) → Sound s w → HandlesStand w → AllPuts w → KeepsAwaited w
keeps-awaited s w sound handles puts i y name c b r q e at named busy in_rs r_name side awaited =
    let x = (puts q.circuit put.c y e put.on there opened has).busy q b pair refl in
    let ch = some-there (under e.channels b.channel) awaited.1 in
    let made = x.before ch.0 ch.1 in
    there-kept w q.circuit q.place put.c put.on opened
    (inl (
      q,
      subst (λ (rs : List RecordSide). PutIn rs q) (sym (records-there w put.c y there)) (r, in_rs, inl side),
      refl,
      of-channel put.c q.place made.0 made.1 (made.2 ∙ put.sid ∙ sym (sid-is put.c.lists q.place put.s put.sent)) made.3,
      refl,
    ))
  where
    own : Lives w i y
    own = sound.writes.lives i y at

    pair : BusyPair y.core.records y.records q b
    pair =
        let f = find-at (λ (z : Record). bytes_eq z.state.name name) y.core.records c named in
        let name_is : c.state.name ≡ name = (bytes_eq-Decides c.state.name name).0 f.2 in
        record { c = c; r = r; in_cs = (f.0, f.1); in_rs = in_rs; name = name_is ∙ sym r_name; core = busy; side = side }

    put : IsPutOf w.circuits i q b
    put = busy-beside (IsPutOf w.circuits i) own.log y.core.records y.records own.life.each own.life.others q b pair

    there : At w.servers put.c.server y
    there = subst (λ (k : ℕ). At w.servers k y) (sym put.of) at

    has : HasEnd y.core put.c.at_server e
    has = subst (λ (h : Handle). HasEnd y.core h e) put.handle awaited.0

    -- the log says that it was applied, and so it came in this life
    joins : put.c.lists.server ≡ y.life
    joins =
        let agrees : Agrees (IsPutOf w.circuits i) own.log c r = beside-named (IsPutOf w.circuits i) own.log y.core.records y.records own.life.each own.life.others c r pair.in_cs pair.in_rs pair.name in
        let by : IsBusyWith own.log r.number q = subst (λ (o : Option PutPlace). IsBusyBy own.log r.number o) side agrees.busy in
        let came = came-as w.circuits y.life own.log by.i q.circuit q.place r.number by.v true own.life.once by.at in
        subst (λ (z : Joined). z.lists.server ≡ y.life) (At-one w.circuits q.circuit came.1.c put.c came.1.on put.on) came.1.joins

    opened : put.c.lists.server_open ≡ true
    opened = go put.c.lists.server_open refl
      where
        go : (t : Bool) → put.c.lists.server_open ≡ t → put.c.lists.server_open ≡ true
        go true is = is
        go false is = absurd (handles.gone q.circuit put.c y (Open e) put.on there joins is has)
