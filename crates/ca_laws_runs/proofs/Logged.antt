-- What holds of each open end of a server and of its circuit, by the log of the server's life and
-- its records, stays so as an event goes by, if each change of these keeps it.
use Rattle.std.proofs.Common.{◌≡◌, ℕ, ◌⊎◌, inl, inr, true, List, [], ◌∷◌, ◌++◌, length, Option, Some, refl, sym, ap, subst, ◌∙◌}
use Rattle.std.specs.Prelude.{drop, filter, is_some, map, not, slice_set, take}
use Rattle.std.specs.List.{FoldsTo, flat_map}
use Rattle.std.specs.Str.{bytes_eq}
use Rattle.ca_arena.specs.declared.handle.Handle.{Handle}
use Rattle.ca_model.proofs.Tables.{all-freed-back}
use Rattle.ca_text.specs.Place.{At}
use Rattle.ca_text.proofs.Places.{At-mapped, At-one, At-set}
use Rattle.ca_wire.specs.Fields.{Fields}
use Rattle.ca_records.specs.Record.{RecordState}
use Rattle.ca_model.specs.Due.{Action, Due}
use Rattle.ca_model.specs.Server.{Open, Server, ServerCircuit, ServerEnd, new_end, with_post}
use Rattle.ca_model.specs.ServerCalls.{channels_of, end_without}
use Rattle.ca_model.specs.ServerSteps.{Acts, HasEnd, Leaves, Update, knows}
use Rattle.ca_model.specs.Speech.{In, Stored}
use Rattle.ca_model.specs.History.{Added, Entry, Sent, Step, Withdrawn}
use Rattle.ca_model.specs.ServerEvents.{ending, ends_at, handled_at, left_by, numbers_after, removal_entries, reported, server_after, stamped, withdrawals, without_puts}
use Rattle.ca_model.specs.World.{Joined, PutPlace, RecordSide, ServerSide, World, record_begun}
use Rattle.ca_laws_parts.specs.Agrees.{AreOthers}
use Rattle.ca_laws_parts.specs.Seats.{Seated}
use Rattle.ca_laws_parts.proofs.Frames.{Frame, Goes, goes-self}
use Rattle.ca_laws_parts.proofs.Lasting.{EndsWere, IsNew, SameHeld, SameSeat, held-self, numbered_for, told_gone, told_late}
use Rattle.ca_laws_parts.proofs.Midway.{grown-back, grown-here}
use Rattle.ca_laws_parts.proofs.Seats.{open-still}
use Rattle.ca_laws_runs.specs.Entries.{AreQuiet, IsPost, IsQuiet, Tells, title, titles}

-- ---- entries and names

pub titles-kept : (f : RecordSide → RecordSide) → ((r : RecordSide) → title (f r) ≡ title r) → (rs : List RecordSide) → titles (map f rs) ≡ titles rs
titles-kept f same [] = refl
titles-kept f same (r ∷ rs) = ap (λ (t : List ℕ × ℕ). t ∷ titles (map f rs)) (same r) ∙ ap (λ (l : List (List ℕ × ℕ)). title r ∷ l) (titles-kept f same rs)

pub withdrawn-quiet : (ps : List PutPlace) → AreQuiet (map (λ (p : PutPlace). Withdrawn p.circuit p.place) ps)
withdrawn-quiet ps e there =
    let p = At-mapped (λ (p : PutPlace). Withdrawn p.circuit p.place) ps there.0 e there.1 in
    subst (λ (x : Entry). IsQuiet x) (sym p.2) tt

-- ---- what is to hold of ends and circuits

module _ (P : ℕ → List Entry → List RecordSide → ServerEnd → Joined → Type 0) where
  abbrev pub AllEnds : World → Type 0
  AllEnds w = (n : ℕ) (c : Joined) (y : ServerSide) (e : ServerEnd) (log : List Entry) → At w.circuits n c → At w.servers c.server y → c.lists.server_open ≡ true
      → HasEnd y.core c.at_server e → At w.server_logs y.life log → P n log y.records e c

  -- Each change of an end and its circuit keeps it: what happens at the client, and to bytes;
  -- what else the log says; a post; a record that is removed or added; updates that leave their
  -- queues; and a late reply.
  pub record Lasting : Type 0 where
    pub stays : (n : ℕ) (log : List Entry) (rs : List RecordSide) (e f : ServerEnd) (c d : Joined) → SameHeld e f → Goes c d → P n log rs e c → P n log rs f d
    pub told : (n : ℕ) (log more : List Entry) (rs rt : List RecordSide) (e : ServerEnd) (c : Joined) → AreQuiet more → titles rt ≡ titles rs → P n log rs e c → P n (log ++ more) rt e c
    pub posted : (n : ℕ) (log : List Entry) (rs : List RecordSide) (r : RecordSide) (mask : ℕ) (v : Stored) (entry : Entry) (e : ServerEnd) (c : Joined) → AreOthers rs → In rs r → IsPost r.number mask v entry
        → P n log rs e c → P n (log ++ entry ∷ []) rs (with_post r.name mask v e) (numbered_for r.name mask e c)
    pub removed : (n : ℕ) (log : List Entry) (rs : List RecordSide) (name : List ℕ) (e : ServerEnd) (c : Joined) → P n log rs e c
        → P n (log ++ removal_entries name rs) (filter (λ (r : RecordSide). not (bytes_eq r.name name)) rs) (end_without name e) (told_gone (channels_of name e) c)
    pub added : (n : ℕ) (log : List Entry) (rs : List RecordSide) (number behind : ℕ) (s : RecordState) (e : ServerEnd) (c : Joined) → AreOthers rs → ((r : RecordSide) → In rs r → (r.number ≡ number → ⊥) × (r.name ≡ s.name → ⊥))
        → P n log rs e c → P n (log ++ Added number s ∷ []) (take behind rs ++ record_begun number s ∷ drop behind rs) e c
    pub pumped : (n : ℕ) (log : List Entry) (rs : List RecordSide) (updates : List Update) (e after : ServerEnd) (c : Joined) → FoldsTo Leaves e updates after → P n log rs e c → P n log rs after (stamped updates c)
    pub replied : (n : ℕ) (log : List Entry) (rs : List RecordSide) (e : ServerEnd) (c : Joined) (place : ℕ) (ms : List Fields) → P n log rs e c → P n log rs e (told_late place ms c)

  abbrev pub Begins : Type 0
  Begins = (n moment : ℕ) (log : List Entry) (rs : List RecordSide) (c : Joined) → IsNew c → P n log rs (new_end moment) c

  -- And so does a message that is handled.
  abbrev pub Handled : Type 0
  Handled = (n : ℕ) (log : List Entry) (rs : List RecordSide) (y : Server) (e new : ServerEnd) (s : Sent) (replies : List Fields) (did : Action) (step : Step) (c : Joined)
      → At c.lists.up (length c.lists.handled) s → Due (knows y e) s.message replies did → Acts y e did new → step.logged ≡ length log → Tells log y.records rs
      → P n log rs e c → P n log rs new (handled_at (length c.lists.handled) step replies (numbers_after (length c.lists.handled) did c))

  -- servers stay, and circuits go on
  pub frame-lasts : Lasting → (w new : World) → Frame w new → AllEnds w → AllEnds new
  frame-lasts k w new f all n d y e log at there opened has logged =
      let c = f.back n d at in
      k.stays n log y.records e e c.0 d (held-self e) c.2
      (all n c.0 y e log c.1 (subst (λ (m : ℕ). At w.servers m y) c.2.later.server (subst (λ (l : List ServerSide). At l d.server y) f.servers there)) (sym c.2.is_open ∙ opened)
      (subst (λ (h : Handle). HasEnd y.core h e) c.2.later.handle has) (subst (λ (l : List (List Entry)). At l y.life log) f.logs logged))

  -- a server goes on with another core, and no circuit changes
  pub core-lasts : Lasting → (w new : World) (i : ℕ) (y next : ServerSide) → At w.servers i y → new.servers ≡ slice_set w.servers i next → new.circuits ≡ w.circuits → new.server_logs ≡ w.server_logs → next.life ≡ y.life → next.records ≡ y.records
      → EndsWere y.core next.core → AllEnds w → AllEnds new
  core-lasts k w new i y next is servers circuits logs life records were all n c z e log at there opened has logged =
      let on : At w.circuits n c = subst (λ (l : List Joined). At l n c) circuits at in
      let log_on : At w.server_logs z.life log = subst (λ (l : List (List Entry)). At l z.life log) logs logged in
      elim (At-set w.servers i next c.server z (subst (λ (l : List ServerSide). At l c.server z) servers there)) [
        | inl own ↦
            let was = were c.at_server e (subst (λ (s : ServerSide). HasEnd s.core c.at_server e) own.1 has) in
            subst (λ (rs : List RecordSide). P n log rs e c) (sym (ap (λ (s : ServerSide). s.records) own.1 ∙ records))
            (k.stays n log y.records was.0 e c c was.2 (goes-self c)
            (all n c y was.0 log on (subst (λ (m : ℕ). At w.servers m y) (sym own.0) is) opened was.1
            (subst (λ (l : ℕ). At w.server_logs l log) (ap (λ (s : ServerSide). s.life) own.1 ∙ life) log_on)))
        | inr old ↦ all n c z e log on old.0 opened has log_on
      ]

-- no two servers have one life
abbrev pub AreApart : World → Type 0
AreApart w = (i j : ℕ) (y z : ServerSide) → At w.servers i y → At w.servers j z → y.life ≡ z.life → i ≡ j

-- An event at server i, whose log was this, after which its core is this. The law says what it
-- makes of each circuit of the server that is open then.
module _ (P : ℕ → List Entry → List RecordSide → ServerEnd → Joined → Type 0) (w : World) (i : ℕ) (y : ServerSide) (core : Server) (log : List Entry) where
  abbrev pub Back : World → Type 0
  Back new = (n : ℕ) (d : Joined) → At new.circuits n d → d.lists.server_open ≡ true
      → (c : Joined) × At w.circuits n c × SameSeat c d × ((c.server ≡ i → ⊥) → (l : List Entry) (rs : List RecordSide) (e : ServerEnd) → P n l rs e c → P n l rs e d)

  abbrev pub Law : World → List Entry → List RecordSide → Type 0
  Law new more rs = (n : ℕ) (c d : Joined) (e f : ServerEnd) → At w.circuits n c → At new.circuits n d → d.lists.server_open ≡ true → c.server ≡ i
      → HasEnd y.core c.at_server e → P n log y.records e c → HasEnd core c.at_server f → P n more rs f d

  abbrev pub Logs : World → List Entry → Type 0
  Logs new more = At new.server_logs y.life more × ((l : ℕ) (z : List Entry) → At new.server_logs l z → (l ≡ y.life → ⊥) → At w.server_logs l z)

  pub at-server : (new : World) (next : ServerSide) (more : List Entry) → At w.servers i y → At w.server_logs y.life log → AreApart w → Back new
      → ((j : ℕ) (z : ServerSide) → At new.servers j z → ((j ≡ i) × (z ≡ next)) ⊎ (At w.servers j z × (j ≡ i → ⊥)))
      → next.core ≡ reported core → next.life ≡ y.life → Logs new more → Law new more next.records → Seated w → AllEnds P w → AllEnds P new
  at-server new next more is here apart back servers is_core life logs law seated all n d z e lg at there opened has logged =
      let b = back n d at opened in
      let c : Joined = b.0 in
      let opened_then : c.lists.server_open ≡ true = sym b.2.is_open ∙ opened in
      elim (servers d.server z there) [
        | inl own ↦
            let mine : c.server ≡ i = sym b.2.server ∙ own.0 in
            let seat = seated.each n c b.1 opened_then in
            let same : seat.y ≡ y = At-one w.servers i seat.y y (subst (λ (k : ℕ). At w.servers k seat.y) mine seat.at) is in
            let had : HasEnd y.core c.at_server seat.e = subst (λ (s : ServerSide). HasEnd s.core c.at_server seat.e) same seat.has in
            let core_is : z.core ≡ reported core = ap (λ (s : ServerSide). s.core) own.1 ∙ is_core in
            let kept = all-freed-back (λ (u : ServerCircuit). is_some (left_by (Some u))) core.circuits d.at_server (Open e) (subst (λ (s : Server). HasEnd s d.at_server e) core_is has) in
            let one : lg ≡ more = At-one new.server_logs y.life lg more (subst (λ (l : ℕ). At new.server_logs l lg) (ap (λ (s : ServerSide). s.life) own.1 ∙ life) logged) logs.0 in
            subst (λ (l : List Entry). P n l z.records e d) (sym one)
            (subst (λ (rs : List RecordSide). P n more rs e d) (ap (λ (s : ServerSide). s.records) (sym own.1))
            (law n c d seat.e e b.1 at opened mine had (all n c y seat.e log b.1 (subst (λ (k : ℕ). At w.servers k y) (sym mine) is) opened_then had here)
            (subst (λ (h : Handle). HasEnd core h e) b.2.handle kept.0)))
        | inr old ↦
            let other : c.server ≡ i → ⊥ = λ mine. old.1 (b.2.server ∙ mine) in
            b.3 other lg z.records e
            (all n c z e lg b.1 (subst (λ (k : ℕ). At w.servers k z) b.2.server old.0) opened_then (subst (λ (h : Handle). HasEnd z.core h e) b.2.handle has)
            (logs.1 z.life lg logged (λ one. old.1 (apart d.server i z y old.0 is one))))
      ]

  -- so of one after which circuits end
  pub after-lasts : Lasting P → (mid : World) (side : ServerSide) (ends : Joined → Option (List ℕ)) (more : List Entry) → At w.servers i y → At w.server_logs y.life log → AreApart w → side.life ≡ y.life → Logs mid more → Back mid
      → ((j : ℕ) (z : ServerSide) → At mid.servers j z → (j ≡ i → ⊥) → At w.servers j z) → Law mid more side.records → Seated w → AllEnds P w
      → AllEnds P (server_after i side ends core mid)
  after-lasts k mid side ends more is here apart life logs back others law seated all =
      at-server (server_after i side ends core mid) next (more ++ gone) is here apart
      (λ n d at opened.
      let x = At-mapped (ending ends) mid.circuits n d at in
      let still = open-still ends x.0 d x.2 opened in
      let b = back n x.0 x.1 (ap (λ (j : Joined). j.lists.server_open) (sym still.1) ∙ opened) in (
        b.0,
        b.1,
        subst (λ (j : Joined). SameSeat b.0 j) (sym still.1) b.2,
        λ other l rs e h. subst (λ (j : Joined). P n l rs e j) (sym still.1) (b.3 other l rs e h),
      ))
      (λ j z at. elim (At-set mid.servers i next j z at) [
        | inl own ↦ inl own
        | inr old ↦ inr (others j z old.0 old.1, old.1)
      ])
      refl life (
        subst (λ (l : ℕ). At (server_after i side ends core mid).server_logs l (more ++ gone)) life (grown-here mid.server_logs side.life more gone (subst (λ (l : ℕ). At mid.server_logs l more) (sym life) logs.0)),
        λ l z at other. elim (grown-back mid.server_logs side.life gone l z at) [
          | inl own ↦ absurd (other (own ∙ life))
          | inr old ↦ logs.1 l z old other
        ],
      )
      (λ n c d e f on at opened mine had h has.
      let x = At-mapped (ending ends) mid.circuits n d at in
      let still = open-still ends x.0 d x.2 opened in
      subst (λ (j : Joined). P n (more ++ gone) next.records f j) (sym still.1)
      (k.told n more gone side.records next.records f x.0 (withdrawn-quiet (flat_map (λ (r : RecordSide). filter (λ (p : PutPlace). ends_at ends mid.circuits p.circuit) r.waiting) side.records))
      (titles-kept (without_puts (ends_at ends mid.circuits)) (λ r. refl) side.records)
      (law n c x.0 e f on x.1 (ap (λ (j : Joined). j.lists.server_open) (sym still.1) ∙ opened) mine had h has)))
      seated all
    where
      next : ServerSide
      next = record side { core = reported core; records = map (without_puts (ends_at ends mid.circuits)) side.records }

      gone : List Entry
      gone = withdrawals (ends_at ends mid.circuits) side.records
