-- Events at a server by which no circuit ends at once: a record is added, bytes come and go, a
-- circuit is made; and a restart.
use Rattle.std.proofs.Common.{◌≡◌, ℕ, ◌+◌, ◌≤◌, inl, inr, Bool, true, false, cond, ◌&&◌, eq-eqb, List, [], ◌∷◌, ◌++◌, length, Option, Some, None, refl, sym, ap, subst, ◌∙◌, append-nil, arith}
use Rattle.std.specs.Prelude.{drop, is_some, slice_set, take}
use Rattle.std.proofs.lemmas.List.{length-append}
use Rattle.std.proofs.lemmas.Option.{get_or_from_slice_get}
use Rattle.ca_arena.specs.Arena.{Place, blank, place_at}
use Rattle.ca_arena.specs.declared.handle.Handle.{Handle}
use Rattle.ca_ids.specs.Table.{MayGive, Table, under}
use Rattle.ca_model.proofs.Tables.{place, under-at}
use Rattle.ca_records.specs.Puts.{Record}
use Rattle.ca_records.specs.Record.{RecordState}
use Rattle.ca_text.specs.Place.{At}
use Rattle.ca_text.proofs.Places.{At-append, At-mapped, At-one, At-set, At-set-other, At-snoc}
use Rattle.ca_model.specs.Server.{Server}
use Rattle.ca_model.specs.ServerSteps.{HasEnd, output_of}
use Rattle.ca_model.specs.History.{Added, Entry, Step}
use Rattle.ca_model.specs.ServerEvents.{HappensAdd, HappensServerRestart, ending, ends_untold}
use Rattle.ca_model.specs.World.{IsSetting, Joined, ServerSide, Setting, World, grown, log_begun, record_begun, server_begun, with_server}
use Rattle.ca_laws_parts.specs.Lives.{Life}
use Rattle.ca_laws_parts.specs.Moves.{Moves, addition_told, restarted}
use Rattle.ca_laws_parts.specs.Seats.{AsGiven, HasSeat, Seated, Sound, WithinLogs}
use Rattle.ca_laws_parts.proofs.Cores.{StayOpen, stay-self}
use Rattle.ca_laws_parts.proofs.WritesEnding.{later-self}
use Rattle.ca_laws_parts.proofs.WritesEvents.{writes-added, writes-later, writes-restart}
use Rattle.ca_laws_parts.proofs.WritesLists.{none_at}
use Rattle.ca_laws_parts.proofs.Midway.{grown-here, grown-other, set-here}
use Rattle.ca_laws_parts.proofs.WritesMoves.{moves-keep, same-or}
use Rattle.ca_laws_parts.proofs.Seats.{ending-lists, open-still}

-- ---- a server goes on with another core, and no circuit changes

pub seated-core : (w new : World) (i : ℕ) (y next : ServerSide) → At w.servers i y → new.servers ≡ slice_set w.servers i next → new.circuits ≡ w.circuits → next.life ≡ y.life → StayOpen y.core next.core → Seated w → Seated new
seated-core w new i y next at servers circuits life stay s = record {
  each = λ n c on opened.
      let seat = s.each n c (subst (λ (l : List Joined). At l n c) circuits on) opened in
      elim (same-or c.server i) [
        | inl mine ↦
            let own : seat.y ≡ y = At-one w.servers i seat.y y (subst (λ (k : ℕ). At w.servers k seat.y) mine seat.at) at in
            let f = stay c.at_server seat.e (subst (λ (z : ServerSide). HasEnd z.core c.at_server seat.e) own seat.has) in
            record {
              y = next;
              at = subst (λ (l : List ServerSide). At l c.server next) (sym servers) (subst (λ (k : ℕ). At (slice_set w.servers i next) k next) (sym mine) (set-here w.servers i y next at));
              joins = seat.joins ∙ ap (λ (z : ServerSide). z.life) own ∙ sym life;
              e = f.0;
              has = f.1;
            }
        | inr other ↦ record {
          y = seat.y;
          at = subst (λ (l : List ServerSide). At l c.server seat.y) (sym servers) (At-set-other w.servers i c.server seat.y next seat.at other);
          joins = seat.joins;
          e = seat.e;
          has = seat.has;
        }
      ];
  one = λ n m c d p q. s.one n m c d (subst (λ (l : List Joined). At l n c) circuits p) (subst (λ (l : List Joined). At l m d) circuits q);
}

within-grown : (w new : World) (life : ℕ) (log more : List Entry) → At w.server_logs life log → new.server_logs ≡ grown life more w.server_logs → new.circuits ≡ w.circuits → WithinLogs w → WithinLogs new
within-grown w new life log more here logs circuits h n c on =
    let was = h n c (subst (λ (l : List Joined). At l n c) circuits on) in
    elim (same-or c.lists.server life) [
      | inl mine ↦
          let is : was.0 ≡ log = At-one w.server_logs life was.0 log (subst (λ (l : ℕ). At w.server_logs l was.0) mine was.1) here in (
            log ++ more,
            subst (λ (l : List (List Entry)). At l c.lists.server (log ++ more)) (sym logs) (subst (λ (l : ℕ). At (grown life more w.server_logs) l (log ++ more)) (sym mine) (grown-here w.server_logs life log more here)),
            λ k g at.
                let le : g.after ≤ length was.0 = was.2 k g at in
                let len : length was.0 ≡ length log = ap (λ (l : List Entry). length l) is in
                let sum : length (log ++ more) ≡ length log + length more = length-append log more in
                omega (arith, le, len, sum),
          )
      | inr other ↦ (
        was.0,
        subst (λ (l : List (List Entry)). At l c.lists.server was.0) (sym logs) (grown-other w.server_logs life more c.lists.server was.0 was.1 other),
        was.2,
      )
    ]

given-set : (s : Setting) (w new : World) (i : ℕ) (y next : ServerSide) → At w.servers i y → new.servers ≡ slice_set w.servers i next → next.setting ≡ y.setting → AsGiven s w → AsGiven s new
given-set s w new i y next at servers setting h j z there =
    elim (At-set w.servers i next j z (subst (λ (l : List ServerSide). At l j z) servers there)) [
      | inl same ↦
          subst (λ (k : ℕ). At s.servers k z.setting) (sym same.0)
          (subst (λ (q : _). At s.servers i q) (sym (ap (λ (x : ServerSide). x.setting) same.1 ∙ setting)) (h i y at))
      | inr old ↦ h j z old.0
    ]

-- a core that keeps its records, and each end that is open
pub core-keeps : (s : Setting) (w : World) (i : ℕ) (y : ServerSide) (core : Server) → At w.servers i y → StayOpen y.core core → core.records ≡ y.core.records → Sound s w → Sound s (with_server i (record y { core = core }) w)
core-keeps s w i y core at stay is h =
    let own = h.writes.lives i y at in
    let next : ServerSide = record y { core = core } in
    let new : World = with_server i next w in
    let same : own.log ++ [] ≡ own.log = append-nil own.log in
    let moves : Moves w new i y next own.log [] = record {
      is = at;
      server = λ j z there. elim (At-set w.servers i next j z there) [ inl set ↦ inl set | inr old ↦ inr old ];
      same_life = refl;
      logged = subst (λ (l : List Entry). At w.server_logs y.life l) (sym same) own.at;
      logs = λ l z there. inr there;
      stay = λ l z there other. there;
      circuits = λ n c there. (c, there, later-self c);
      life = subst (λ (l : List Entry). Life w.circuits i y.life l core.records y.records y.added) (sym same)
          (subst (λ (rs : List Record). Life w.circuits i y.life own.log rs y.records y.added) (sym is) own.life);
      own_open = own.still_open;
      others_open = λ j z there other. (h.writes.lives j z there).still_open;
      handled = λ e p told about. absurd (none_at told.0 e told.1);
    } in
    record {
      writes = moves-keep w new i y next own.log [] own.at moves h.writes;
      seated = seated-core w new i y next at refl refl refl stay h.seated;
      within = h.within;
      given = given-set s w new i y next at refl refl h.given;
    }

-- ---- a record is added

pub add-keeps : (s : Setting) (w new : World) (i : ℕ) (y : ServerSide) (r : RecordState) → At w.servers i y → HappensAdd w i y r new → Sound s w → Sound s new
add-keeps s w new i y r at (core, behind, inl (adds, is)) h =
    let own = h.writes.lives i y at in
    let next : ServerSide = record y { core = core; records = take behind y.records ++ record_begun y.added r ∷ drop behind y.records; added = y.added + 1 } in
    subst (λ (z : World). Sound s z) (sym is) (record {
      writes = writes-added w i y r behind core at adds.0.1 (ap (λ (x : Server). x.records) adds.1) h.writes;
      seated = seated-core w (addition_told w i y r behind core) i y next at refl refl refl (stay-self y.core core (ap (λ (x : Server). x.circuits) adds.1)) h.seated;
      within = within-grown w (addition_told w i y r behind core) y.life own.log (Added y.added r ∷ []) own.at refl refl h.within;
      given = given-set s w (addition_told w i y r behind core) i y next at refl refl h.given;
    })
add-keeps s w new i y r at (core, behind, inr refused) h = subst (λ (z : World). Sound s z) (sym refused.3) h

-- ---- a circuit is made

none-some : {A : Type 0} (x : A) → let a : Option A = None in let b : Option A = Some x in a ≡ b → ⊥
none-some x e = cc

pub given-free : {T : Type 0} (t : Table T) (h : Handle) (v : T) → MayGive t h → under t h ≡ Some v → ⊥
given-free {T} t h v may is =
    let at : place_at t h.index ≡ place h v = get_or_from_slice_get t h.index (place h v) blank (under-at t h v is) in
    none-some v (sym may.free ∙ ap (λ (p : Place T). p.value) at)

-- a circuit on which nothing was handled, with its seat, under a handle of its own
pub circuit-keeps : (s : Setting) (w : World) (c : Joined) → c.lists.handled ≡ [] → HasSeat w c → ((n : ℕ) (d : Joined) → At w.circuits n d → d.server ≡ c.server → d.lists.server_open ≡ true → d.at_server ≡ c.at_server → ⊥) → Sound s w → Sound s (record w { circuits = w.circuits ++ c ∷ [] })
circuit-keeps s w c none seat fresh h =
    let new : World = record w { circuits = w.circuits ++ c ∷ [] } in
    let log = h.writes.lives c.server seat.y seat.at in
    record {
      writes = writes-later w new refl refl (λ n d at. (d, At-append w.circuits (c ∷ []) n d at, later-self d))
          (λ n d e at there. ap (λ (z : Joined). z.lists.server_open) (At-one new.circuits n e d there (At-append w.circuits (c ∷ []) n d at))) h.writes;
      seated = record {
        each = λ n d at opened. elim (At-snoc w.circuits c n d at) [
          | inl old ↦ (let z = h.seated.each n d old opened in record { y = z.y; at = z.at; joins = z.joins; e = z.e; has = z.has })
          | inr last ↦ subst (λ (x : Joined). HasSeat new x) (sym last.1) (record { y = seat.y; at = seat.at; joins = seat.joins; e = seat.e; has = seat.has })
        ];
        one = λ n m d e p q same a b handles. elim (At-snoc w.circuits c n d p) [
          | inl old ↦ elim (At-snoc w.circuits c m e q) [
            | inl was ↦ h.seated.one n m d e old was same a b handles
            | inr last ↦ absurd (fresh n d old (same ∙ ap (λ (z : Joined). z.server) last.1) a (handles ∙ ap (λ (z : Joined). z.at_server) last.1))
          ]
          | inr last ↦ elim (At-snoc w.circuits c m e q) [
            | inl was ↦ absurd (fresh m e was (sym same ∙ ap (λ (z : Joined). z.server) last.1) b (sym handles ∙ ap (λ (z : Joined). z.at_server) last.1))
            | inr too ↦ last.0 ∙ sym too.0
          ]
        ];
      };
      within = λ n d at. elim (At-snoc w.circuits c n d at) [
        | inl old ↦ h.within n d old
        | inr last ↦ (
          log.log,
          subst (λ (l : ℕ). At w.server_logs l log.log) (sym (ap (λ (z : Joined). z.lists.server) last.1 ∙ seat.joins)) log.at,
          λ k g on. absurd (none_at k g (subst (λ (l : List Step). At l k g) (ap (λ (z : Joined). z.lists.handled) last.1 ∙ none) on)),
        )
      ];
      given = h.given;
    }

-- ---- a server begins again

pub restart-keeps : (s : Setting) (w new : World) (i : ℕ) (y : ServerSide) → IsSetting s → At w.servers i y → HappensServerRestart w i y new → Sound s w → Sound s new
restart-keeps s w new i y ok at is h = subst (λ (z : World). Sound s z) (sym is) (record {
  writes = writes-restart w i y at (λ j k r q a b e. ok.names i j k y.setting r q (h.given i y at) a b e) h.writes;
  seated = record {
    each = λ n d on opened.
        let x = At-mapped (ending ends) w.circuits n d on in
        let still = open-still ends x.0 d x.2 opened in
        let opened1 : x.0.lists.server_open ≡ true = ap (λ (z : Joined). z.lists.server_open) (sym still.1) ∙ opened in
        let seat = h.seated.each n x.0 x.1 opened1 in
        let other : x.0.server ≡ i → ⊥ = λ mine. over x.0 mine opened1 still.0 in
        subst (λ (z : Joined). HasSeat after z) (sym still.1) (record { y = seat.y; at = At-set-other w.servers i x.0.server seat.y next seat.at other; joins = seat.joins; e = seat.e; has = seat.has });
    one = λ n m d e p q same a b handles.
        let x = At-mapped (ending ends) w.circuits n d p in
        let z = At-mapped (ending ends) w.circuits m e q in
        let u = open-still ends x.0 d x.2 a in
        let v = open-still ends z.0 e z.2 b in
        h.seated.one n m x.0 z.0 x.1 z.1 (ap (λ (t : Joined). t.server) (sym u.1) ∙ same ∙ ap (λ (t : Joined). t.server) v.1)
        (ap (λ (t : Joined). t.lists.server_open) (sym u.1) ∙ a) (ap (λ (t : Joined). t.lists.server_open) (sym v.1) ∙ b)
        (ap (λ (t : Joined). t.at_server) (sym u.1) ∙ handles ∙ ap (λ (t : Joined). t.at_server) v.1);
  };
  within = λ n d on.
      let x = At-mapped (ending ends) w.circuits n d on in
      let l = ending-lists ends x.0 in
      let was = h.within n x.0 x.1 in (
        was.0,
        At-append w.server_logs (log_begun y.setting ∷ []) d.lists.server was.0 (subst (λ (k : ℕ). At w.server_logs k was.0) (sym (ap (λ (z : Joined). z.lists.server) x.2 ∙ l.0)) was.1),
        λ k g there. was.2 k g (subst (λ (z : List Step). At z k g) (ap (λ (z : Joined). z.lists.handled) x.2 ∙ l.1) there),
      );
  given = λ j z there. elim (At-set w.servers i next j z there) [
    | inl same ↦ subst (λ (k : ℕ). At s.servers k z.setting) (sym same.0) (subst (λ (q : _). At s.servers i q) (sym (ap (λ (x : ServerSide). x.setting) same.1)) (h.given i y at))
    | inr old ↦ h.given j z old.0
  ];
})
  where
    ends : Joined → Option (List ℕ)
    ends = ends_untold i y.core

    next : ServerSide
    next = server_begun w.moment (length w.server_logs) y.setting

    after : World
    after = restarted w i y

    -- each open circuit of this server ends
    over : (c : Joined) → c.server ≡ i → c.lists.server_open ≡ true → is_some (ends c) ≡ false → ⊥
    over c mine opened none =
        let all : is_some (ends c) ≡ true =
        ap (λ (b : Bool). is_some (cond (b && c.lists.server_open) (Some (output_of (under y.core.circuits c.at_server))) None)) (eq-eqb c.server i mine)
        ∙ ap (λ (b : Bool). is_some (cond b (Some (output_of (under y.core.circuits c.at_server))) None)) opened in
        (let t : true ≡ false = sym all ∙ none in cc)
