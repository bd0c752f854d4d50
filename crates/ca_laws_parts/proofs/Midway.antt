-- The end of an event at a server: circuits that ended in it are closed, and the puts that wait
-- there are withdrawn.
use Rattle.std.proofs.Common.{◌≡◌, ℕ, zero, suc, ◌⊎◌, inl, inr, Bool, true, false, List, [], ◌∷◌, ◌++◌, Option, Some, refl, sym, ap, subst, ◌∙◌, append_assoc}
use Rattle.std.specs.Prelude.{filter, is_some, map, slice_set, slice_get, unwrap_or}
use Rattle.std.specs.List.{flat_map}
use Rattle.ca_text.specs.Place.{At}
use Rattle.ca_text.proofs.Places.{some_is, At-mapped, At-one, At-parts, At-set, At-set-other}
use Rattle.ca_records.specs.declared.puts.Put.{Put}
use Rattle.ca_records.specs.Puts.{Record, withdrawn}
use Rattle.ca_model.specs.Server.{Server}
use Rattle.ca_model.specs.Speech.{In}
use Rattle.ca_model.specs.History.{Entry, Waits, Withdrawn}
use Rattle.ca_model.specs.ServerEvents.{ending, ends_at, reported, server_after, withdrawals}
use Rattle.ca_model.specs.ServerEvents as event
use Rattle.ca_model.specs.World.{Joined, PutPlace, RecordSide, ServerSide, World, grown}
use Rattle.ca_laws_parts.specs.Once.{write_in}
use Rattle.ca_laws_parts.specs.Agrees.{Agrees, WaitsAs}
use Rattle.ca_laws_parts.specs.Lives.{EndsAgree, IsPutOf, Life}
use Rattle.ca_laws_parts.specs.Moves.{EndsOnly, Midway, Moves, WasHandled, Writes}
use Rattle.ca_laws_parts.proofs.WritesLists.{In-kept, beside-left, beside-right, none_at}
use Rattle.ca_laws_parts.proofs.WritesEnding.{ending-not, endings-later, life-ended}
use Rattle.ca_laws_parts.proofs.Leaving.{flat-in}
use Rattle.ca_laws_parts.proofs.WritesLives.{waits-there}
use Rattle.ca_laws_parts.proofs.WritesMoves.{handled-later, later-trans, moves-keep, told-on}

-- ---- logs that grow

pub set-here : {A : Type 0} (xs : List A) (i : ℕ) (x y : A) → At xs i x → At (slice_set xs i y) i y
set-here [] i x y at = absurd (none_at i x at)
set-here (z ∷ xs) zero x y at = refl
set-here (z ∷ xs) (suc i) x y at = set-here xs i x y at

pub grown-here : (logs : List (List Entry)) (l : ℕ) (log more : List Entry) → At logs l log → At (grown l more logs) l (log ++ more)
grown-here logs l log more at =
    subst (λ (o : Option (List Entry)). At (slice_set logs l (unwrap_or o [] ++ more)) l (log ++ more)) (sym at) (set-here logs l log (log ++ more) at)

pub grown-back : (logs : List (List Entry)) (l : ℕ) (more : List Entry) (k : ℕ) (z : List Entry) → At (grown l more logs) k z → (k ≡ l) ⊎ At logs k z
grown-back logs l more k z at =
    elim (At-set logs l (unwrap_or (slice_get logs l) [] ++ more) k z at) [ inl new ↦ inl new.0 | inr old ↦ inr old.0 ]

pub grown-other : (logs : List (List Entry)) (l : ℕ) (more : List Entry) (k : ℕ) (z : List Entry) → At logs k z → (k ≡ l → ⊥) → At (grown l more logs) k z
grown-other logs l more k z at other = At-set-other logs l k z (unwrap_or (slice_get logs l) [] ++ more) at other

-- ---- the end of an event

module _ (w mid : World) (i : ℕ) (y side : ServerSide) (log more : List Entry) (records : List Record) (ends : Joined → Option (List ℕ)) (lost : Put → Bool) (core : Server) where
  -- the side after it
  abbrev pub side_after : ServerSide
  side_after = record side { core = reported core; records = map (event.without_puts (ends_at ends mid.circuits)) side.records }

  abbrev pub logged_after : List Entry
  logged_after = more ++ withdrawals (ends_at ends mid.circuits) side.records

  mid-handled : Midway w mid i y side log more records → Writes w → (e : Entry) (p : PutPlace) → In (log ++ more) e → write_in e ≡ Some p → WasHandled mid.circuits p
  mid-handled m h e p told about =
      elim (At-parts log more told.0 e told.1) [
        | inl old ↦
            let c = told-on w.circuits y.life log e p (h.logs y.life log m.here) (told.0, old) about in
            handled-later w.circuits mid.circuits p c.0 c.1 m.circuits (h.handled y.life log e p m.here (told.0, old) about)
        | inr new ↦ m.handled e p (new.0, new.2) about
      ]

  end-handled : Midway w mid i y side log more records → Writes w → (e : Entry) (p : PutPlace) → In (withdrawals (ends_at ends mid.circuits) side.records) e → write_in e ≡ Some p → WasHandled mid.circuits p
  end-handled m h e p told about =
      let was = At-mapped (λ (q : PutPlace). Withdrawn q.circuit q.place) (flat_map (λ (r : RecordSide). filter (λ (q : PutPlace). ends_at ends mid.circuits q.circuit) r.waiting) side.records) told.0 e told.1 in
      let q : PutPlace = was.0 in
      let f = flat-in (λ (r : RecordSide). filter (λ (x : PutPlace). ends_at ends mid.circuits x.circuit) r.waiting) side.records q (told.0, was.1) in
      let there = beside-right (Agrees (IsPutOf mid.circuits i) (log ++ more)) records side.records f.1.0 f.0 m.life.each f.1.1 in
      let k = In-kept (λ (x : PutPlace). ends_at ends mid.circuits x.circuit) f.0.waiting q f.2 in
      let s = waits-there (IsPutOf mid.circuits i) (log ++ more) there.0 f.0 q there.2 k.0 in
      let same : q ≡ p = some_is q p (ap write_in (sym was.2) ∙ about) in
      subst (λ (x : PutPlace). WasHandled mid.circuits x) same (mid-handled m h (Waits q.circuit q.place f.0.number s.1.v) q s.1.came refl)

  -- a circuit that was there is there, with what it handled
  end-was : (p : PutPlace) → WasHandled mid.circuits p → WasHandled (map (ending ends) mid.circuits) p
  end-was p was d on is_open =
      let c = At-mapped (ending ends) mid.circuits p.circuit d on in
      handled-later mid.circuits (map (ending ends) mid.circuits) p c.0 c.1 (endings-later ends mid.circuits) was d on is_open

  pub ended-moves : Midway w mid i y side log more records → Writes w → core.records ≡ withdrawn lost records → EndsAgree mid.circuits i ends lost → EndsOnly mid.circuits i ends → Moves w (server_after i side ends core mid) i y side_after log logged_after
  ended-moves m h is agree only =
      let new : World = server_after i side ends core mid in
      let gone : List Entry = withdrawals (ends_at ends mid.circuits) side.records in
      let l = life-ended mid.circuits i y.life (log ++ more) records side.records side.added ends lost m.own_open agree m.life in
      let joined : (log ++ more) ++ gone ≡ log ++ logged_after = append_assoc log more gone in
      let at_side : At mid.server_logs side.life (log ++ more) = subst (λ (k : ℕ). At mid.server_logs k (log ++ more)) (sym m.same_life) m.logged in
      record {
        is = m.is;
        server = λ j z at. elim (At-set mid.servers i side_after j z at) [
          | inl new ↦ inl new
          | inr old ↦ inr (m.others j z old.0 old.1, old.1)
        ];
        same_life = m.same_life;
        logged = subst (λ (x : List Entry). At new.server_logs y.life x) joined
            (subst (λ (k : ℕ). At new.server_logs k ((log ++ more) ++ gone)) m.same_life (grown-here mid.server_logs side.life (log ++ more) gone at_side));
        logs = λ k z at. elim (grown-back mid.server_logs side.life gone k z at) [
          | inl same ↦ inl (same ∙ m.same_life)
          | inr old ↦ m.logs k z old
        ];
        stay = λ k z at other. grown-other mid.server_logs side.life gone k z (m.stay k z at other) (λ e. other (e ∙ m.same_life));
        circuits = later-trans w.circuits mid.circuits new.circuits m.circuits (endings-later ends mid.circuits);
        life = subst (λ (x : List Entry). Life new.circuits i y.life x core.records side_after.records side.added) joined
            (subst (λ (x : List Record). Life new.circuits i y.life ((log ++ more) ++ gone) x side_after.records side.added) (sym is) l.0);
        own_open = l.1;
        others_open = λ j z at other k r p d in_rs waits on.
            let was = At-mapped (ending ends) mid.circuits p.circuit d on in
            let own = h.lives j z at in
            let there = beside-right (Agrees (IsPutOf w.circuits j) own.log) z.core.records z.records k r own.life.each in_rs in
            let b = beside-left (WaitsAs (IsPutOf w.circuits j) own.log r.number) r.waiting there.0.waiting waits.0 p there.2.each waits.1 in
            let put : IsPutOf w.circuits j p b.0.put = b.2.1 in
            let c = m.circuits p.circuit put.c put.on in
            let same : c.0 ≡ was.0 = At-one mid.circuits p.circuit c.0 was.0 c.1 was.1 in
            let of : was.0.server ≡ j = ap (λ (x : Joined). x.server) (sym same) ∙ c.2.server ∙ put.of in
            let stays : is_some (ends was.0) ≡ false = only p.circuit was.0 was.1 (λ e. other (sym of ∙ e)) in
            subst (λ (x : Joined). x.lists.server_open ≡ true) (sym (was.2 ∙ ending-not ends was.0 stays)) (m.others_open j z at other k r p was.0 in_rs waits was.1);
        handled = λ e p told about. elim (At-parts more gone told.0 e told.1) [
          | inl first ↦ end-was p (m.handled e p (told.0, first) about)
          | inr last ↦ end-was p (end-handled m h e p (last.0, last.2) about)
        ];
      }

  -- so the event keeps what holds of writes
  pub ended-keep : Midway w mid i y side log more records → Writes w → core.records ≡ withdrawn lost records → EndsAgree mid.circuits i ends lost → EndsOnly mid.circuits i ends → Writes (server_after i side ends core mid)
  ended-keep m h is agree only =
      moves-keep w (server_after i side ends core mid) i y side_after log logged_after m.here (ended-moves m h is agree only) h
