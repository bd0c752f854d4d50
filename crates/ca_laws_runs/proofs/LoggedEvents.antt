-- What holds of open ends by their servers' logs stays so: bytes, circuits that are made, posts,
-- removals, additions, pumps, cuts and restarts.
use Rattle.std.proofs.Common.{◌≡◌, ℕ, ◌+◌, ◌<◌, inl, inr, Bool, true, false, cond, ◌&&◌, eq-eqb, not, List, [], ◌∷◌, ◌++◌, length, Option, Some, None, refl, sym, ap, subst, ◌∙◌, arith}
use Rattle.std.specs.Prelude.{Ok, drop, filter, is_some, map, take}
use Rattle.std.specs.List.{fold}
use Rattle.std.specs.Str.{bytes_eq}
use Rattle.ca_arena.specs.declared.handle.Handle.{Handle}
use Rattle.ca_dbr.specs.Elements.{Elements}
use Rattle.ca_ids.specs.Table.{under, with_each}
use Rattle.ca_model.proofs.Tables.{at-find, changed-back, held-back, one-value}
use Rattle.std.proofs.lemmas.Slice.Eq.{bytes_eq-Decides}
use Rattle.ca_link.specs.Link.{with_given, with_handed}
use Rattle.ca_records.specs.Puts.{Record, record_named, with_record, with_value}
use Rattle.ca_records.specs.Record.{RecordState, unset}
use Rattle.ca_text.specs.Place.{At}
use Rattle.ca_text.proofs.Places.{At-append, At-mapped, At-one, At-set, At-snoc}
use Rattle.ca_wire.specs.Message.{spelled}
use Rattle.ca_model.specs.Answers.{Closing, Sending}
use Rattle.ca_model.specs.Client.{Client}
use Rattle.ca_model.specs.Ends as why
use Rattle.ca_model.specs.History.{Added, Entry}
use Rattle.ca_model.specs.History as history
use Rattle.ca_model.specs.Server.{Ended, Open, OpenChannel, Server, ServerCircuit, ServerEnd, Subscription, concerns, key_of, new_end, with_post}
use Rattle.ca_model.specs.ServerCalls.{channels_of, circuit_without, disconnects, end_without}
use Rattle.ca_model.specs.ServerSteps.{Accepts, Cuts, Gives, HasEnd, Pumps, Sends, after_post, ended, output_of, reached, with_end}
use Rattle.ca_model.specs.Speech.{In, Stored}
use Rattle.ca_model.specs.ClientEvents.{DownTaken, HappensAccept, HappensDown, HappensUp, WantsFirst, client_after, connected_as, lines_of, new_circuit, closing_notices, up_taken}
use Rattle.ca_model.specs.ServerEvents.{HappensAdd, HappensCutServer, HappensPost, HappensPump, HappensRemove, HappensServerRestart, disconnected_at, ending, ends_by, ends_untold, keys_concerned, number_of, numbers_posted, posted_entry, removal_entries, removed_at, stamped, with_number}
use Rattle.ca_model.specs.World.{ClientSide, Joined, RecordSide, ServerSide, World, log_begun, grown, record_begun, server_begun, with_circuit, with_entries, with_server}
use Rattle.ca_laws_parts.specs.Agrees.{Agrees, AreOthers}
use Rattle.ca_laws_parts.specs.Lives.{IsPutOf}
use Rattle.ca_laws_parts.specs.Moves.{Lives, Writes, post_told, removal_told, restarted}
use Rattle.ca_laws_parts.specs.Seats.{Seated}
use Rattle.ca_laws_parts.proofs.Cores.{each-there}
use Rattle.ca_laws_parts.proofs.WritesEvents.{Found, SameEnds, found, posted-same, removed-same, same-self}
use Rattle.ca_laws_parts.proofs.Frames.{goes-self}
use Rattle.ca_laws_parts.proofs.HappensAdd.{given-free}
use Rattle.ca_laws_parts.proofs.HappensClient.{left-frame, sent-frame, up-frame}
use Rattle.ca_laws_parts.proofs.HappensPost.{stamped-same}
use Rattle.ca_laws_parts.proofs.Lasting.{EndsWere, IsNew, SameHeld, SameSeat, numbered_for, seat-of, told_gone}
use Rattle.ca_laws_parts.proofs.LastingEvents.{is-here, not-here, one-end, were-end, were-ended, were-self}
use Rattle.ca_laws_parts.proofs.WritesLists.{beside-right}
use Rattle.ca_laws_parts.proofs.WritesLives.{number-of}
use Rattle.ca_laws_parts.proofs.Midway.{grown-back, grown-here}
use Rattle.ca_laws_parts.proofs.Seats.{open-still}
use Rattle.ca_laws_runs.specs.Entries.{IsPost}
use Rattle.ca_laws_runs.proofs.Logged.{AllEnds, Begins, Lasting, after-lasts, core-lasts, frame-lasts}

gives-were : (old new : Server) (h : Handle) (bytes : List ℕ) → Gives old h bytes (Ok tt) new → EndsWere old new
gives-were old new h bytes (e, has, is) =
    subst (λ (x : Server). EndsWere old x) (sym is) (were-end old h e (record e { link = with_given old.moment bytes e.link }) has (record { channels = refl; subscriptions = refl; queues = refl }))

sends-were : (old new : Server) (h : Handle) (n : ℕ) → Sends old h n new → EndsWere old new
sends-were old new h n (inl (e, has, within, is)) =
    subst (λ (x : Server). EndsWere old x) (sym is) (were-end old h e (record e { link = with_handed n e.link }) has (record { channels = refl; subscriptions = refl; queues = refl }))
sends-were old new h n (inr (none, zero_of, is)) = were-self old new (ap (λ (x : Server). x.circuits) is)

cuts-were : (y : Server) (h : Handle) (core : Server) → Cuts y h core → EndsWere y core
cuts-were y h core (inl (e, has, is)) = subst (λ (x : Server). EndsWere y x) (sym is) (were-ended y h why.Cut e.link.output)
cuts-were y h core (inr (none, is)) = were-self y core (ap (λ (x : Server). x.circuits) is)

-- none of these has a name under which none is found
not-named : (cs : List Record) (i : ℕ) (c : Record) (name : List ℕ) → At cs i c → c.state.name ≡ name → record_named cs name ≡ None → ⊥
not-named cs i c name at named none =
    let found_it = at-find (λ (x : Record). bytes_eq x.state.name name) cs i c at ((bytes_eq-Decides c.state.name name).1 named) in
    none-some found_it.0 (sym none ∙ found_it.1)
  where
    none-some : (x : Record) → None ≡ Some x → ⊥
    none-some x e = cc

-- the record that a core finds under a name is among those of its server, which has its number
pub named-there : (w : World) (i : ℕ) (y : ServerSide) (h : Writes w) (at : At w.servers i y) (name : List ℕ) (c : _) → Found (IsPutOf w.circuits i) (h.lives i y at).log y.core.records y.records name c
    → (r : RecordSide) × In y.records r × (r.name ≡ name) × (number_of name y.records ≡ r.number)
named-there w i y h at name c f =
    (f.r, (f.i, f.in_rs), f.named, ap (λ (n : List ℕ). number_of n y.records) (sym f.named) ∙ number-of y.records f.i f.r (h.lives i y at).life.others f.in_rs)

module _ (P : ℕ → List Entry → List RecordSide → ServerEnd → Joined → Type 0) (k : Lasting P) where
  -- ---- what other circuits are

  -- circuits that were mapped
  pub mapped-from : (w : World) (i : ℕ) (f : Joined → Joined) → ((c : Joined) → SameEnds c (f c)) → ((c : Joined) → (c.server ≡ i → ⊥) → f c ≡ c) → (n : ℕ) (d : Joined) → At (map f w.circuits) n d
      → (c : Joined) × At w.circuits n c × SameSeat c d × ((c.server ≡ i → ⊥) → (l : List Entry) (rs : List RecordSide) (e : ServerEnd) → P n l rs e c → P n l rs e d)
  mapped-from w i f same other n d at =
      let c = At-mapped f w.circuits n d at in (
        c.0,
        c.1,
        subst (λ (x : Joined). SameSeat c.0 x) (sym c.2) (seat-of c.0 (f c.0) (same c.0)),
        λ far l rs e h. subst (λ (x : Joined). P n l rs e x) (sym (c.2 ∙ other c.0 far)) h,
      )

  pub mapped-one : (w : World) (f : Joined → Joined) (n : ℕ) (c d : Joined) → At w.circuits n c → At (map f w.circuits) n d → d ≡ f c
  mapped-one w f n c d on at = (let x = At-mapped f w.circuits n d at in x.2 ∙ ap f (At-one w.circuits n x.0 c x.1 on))

  -- ---- a post

  -- A post reaches an end and its circuit, as an entry says; the core told the numbers when it had
  -- this end with the same subscriptions.
  pub post-ends-last : (n i : ℕ) (log : List Entry) (rs : List RecordSide) (core mid : Server) (name : List ℕ) (r : RecordSide) (mask : ℕ) (v : Stored) (entry : Entry) (gone : Handle → Bool) (c : Joined) (b e f : ServerEnd)
      → AreOthers rs → In rs r → r.name ≡ name → IsPost r.number mask v entry → c.server ≡ i → c.lists.server_open ≡ true → HasEnd core c.at_server b
      → HasEnd mid c.at_server e → e.subscriptions ≡ b.subscriptions → P n log rs e c → HasEnd (after_post name mask v gone mid) c.at_server f → P n (log ++ entry ∷ []) rs f (numbers_posted i core name mask c)
  post-ends-last n i log rs core mid name r mask v entry gone c b e f others in_rs named is_post mine opened before has subs p after =
      subst (λ (d : Joined). P n (log ++ entry ∷ []) rs f d) (sym numbers)
      (go (gone c.at_server)
      (one-value (after_post name mask v gone mid).circuits c.at_server (Open f) (reached name mask v gone c.at_server (Open e)) after
      (each-there (reached name mask v gone) mid.circuits c.at_server (Open e) has)))
    where
      numbers : numbers_posted i core name mask c ≡ numbered_for name mask e c
      numbers =
          is-here i c (fold with_number c (keys_concerned name mask (under core.circuits c.at_server))) mine opened
          ∙ ap (λ (o : Option ServerCircuit). fold with_number c (keys_concerned name mask o)) before
          ∙ ap (λ (l : List Subscription). fold with_number c (map key_of (filter (concerns name mask) l))) (sym subs)

      same-end : (x : ServerEnd) → Open f ≡ Open x → f ≡ x
      same-end x is = cc

      both : P n (log ++ entry ∷ []) rs (with_post name mask v e) (numbered_for name mask e c)
      both = subst (λ (m : List ℕ). P n (log ++ entry ∷ []) rs (with_post m mask v e) (numbered_for m mask e c)) named (k.posted n log rs r mask v entry e c others in_rs is_post p)

      go : (x : Bool) → Open f ≡ cond x (Ended why.OutOfMemory e.link.output) (Open (with_post name mask v e)) → P n (log ++ entry ∷ []) rs f (numbered_for name mask e c)
      go true is = absurd cc
      go false is = subst (λ (x : ServerEnd). P n (log ++ entry ∷ []) rs x (numbered_for name mask e c)) (sym (same-end (with_post name mask v e) is)) both

  -- a circuit of another server gets no numbers
  pub other-posted : (i : ℕ) (core : Server) (name : List ℕ) (mask : ℕ) (c : Joined) → (c.server ≡ i → ⊥) → numbers_posted i core name mask c ≡ c
  other-posted i core name mask c other = not-here i c (fold with_number c (keys_concerned name mask (under core.circuits c.at_server))) other

  pub post-lasts : (w new : World) (i : ℕ) (y : ServerSide) (name : List ℕ) (e : Elements) (mask : ℕ) → At w.servers i y → HappensPost w i y name e mask new → Writes w → Seated w → AllEnds P w → AllEnds P new
  post-lasts w new i y name e mask at (gone, core, inl (posts, is)) h seated all =
      let v : Stored = record { value = e; meta = unset } in
      let own = h.lives i y at in
      let stored : Server = record y.core { records = with_record name (with_value v.value v.meta) y.core.records } in
      let numbers : Joined → Joined = numbers_posted i y.core name mask in
      let more : List Entry = own.log ++ posted_entry y name v mask in
      let r = named-there w i y h at name posts.0.0 (found (IsPutOf w.circuits i) own.log y.core.records y.records name posts.0.0 own.life.each posts.0.1) in
      subst (λ (z : World). AllEnds P z) (sym is)
      (after-lasts P w i y core own.log k (post_told w i y name v mask) y (ends_by i core) more at own.at h.apart refl
      (grown-here w.server_logs y.life own.log (posted_entry y name v mask) own.at, λ l z there other. elim (grown-back w.server_logs y.life (posted_entry y name v mask) l z there) [ inl mine ↦ absurd (other mine) | inr old ↦ old ])
      (λ n d there opened. mapped-from w i numbers (posted-same i y.core name mask) (other-posted i y.core name mask) n d there) (λ j z there other. there)
      (λ n c d b f on there opened mine had p has.
      let is_d : d ≡ numbers c = mapped-one w numbers n c d on there in
      let opened_c : c.lists.server_open ≡ true = sym (posted-same i y.core name mask c).is_open ∙ ap (λ (x : Joined). x.lists.server_open) (sym is_d) ∙ opened in
      subst (λ (x : Joined). P n more y.records f x) (sym is_d)
      (post-ends-last n i own.log y.records y.core stored name r.0 mask v _ gone c b b f own.life.others r.1 r.2 (r.3, refl, refl) mine opened_c had had refl p (subst (λ (x : Server). HasEnd x c.at_server f) posts.2 has)))
      seated all)
  post-lasts w new i y name e mask at (gone, core, inr refused) h seated all = subst (λ (z : World). AllEnds P z) (sym refused.3) all

  -- ---- a removal

  pub remove-lasts : (w new : World) (i : ℕ) (y : ServerSide) (name : List ℕ) → At w.servers i y → HappensRemove w i y name new → Writes w → Seated w → AllEnds P w → AllEnds P new
  remove-lasts w new i y name at (gone, left, core, inl (removes, is)) h seated all =
      let own = h.lives i y at in
      let rs : List RecordSide = filter (λ (r : RecordSide). not (bytes_eq r.name name)) y.records in
      let side : ServerSide = record y { records = rs } in
      let over : Joined → Joined = removed_at i y.core name gone left in
      let more : List Entry = own.log ++ removal_entries name y.records in
      subst (λ (z : World). AllEnds P z) (sym is)
      (after-lasts P w i y core own.log k (removal_told w i y name gone left) side (ends_by i core) more at own.at h.apart refl
      (grown-here w.server_logs y.life own.log (removal_entries name y.records) own.at, λ l z there other. elim (grown-back w.server_logs y.life (removal_entries name y.records) l z there) [ inl mine ↦ absurd (other mine) | inr old ↦ old ])
      (λ n d there opened. mapped-from w i over (removed-same i y.core name gone left) (λ c other. not-here i c _ other) n d there)
      (λ j z there other. elim (At-set w.servers i side j z there) [ inl mine ↦ absurd (other mine.0) | inr old ↦ old.0 ])
      (λ n c d e f on there opened mine had p has.
      let is_d : d ≡ over c = mapped-one w over n c d on there in
      let opened_c : c.lists.server_open ≡ true = sym (removed-same i y.core name gone left c).is_open ∙ ap (λ (x : Joined). x.lists.server_open) (sym is_d) ∙ opened in
      subst (λ (x : Joined). P n more rs f x) (sym is_d)
      (one n own.log c e f mine opened_c had p (subst (λ (x : Server). HasEnd x c.at_server f) removes.2 has)))
      seated all)
    where
      one : (n : ℕ) (log : List Entry) (c : Joined) (e f : ServerEnd) → c.server ≡ i → c.lists.server_open ≡ true → HasEnd y.core c.at_server e → P n log y.records e c → under (with_each (circuit_without name gone left) y.core.circuits) c.at_server ≡ Some (Open f)
          → P n (log ++ removal_entries name y.records) (filter (λ (r : RecordSide). not (bytes_eq r.name name)) y.records) f (removed_at i y.core name gone left c)
      one n log c e f mine opened had p has =
          go (gone c.at_server) refl
          (one-value (with_each (circuit_without name gone left) y.core.circuits) c.at_server (Open f) (circuit_without name gone left c.at_server (Open e)) has
          (each-there (circuit_without name gone left) y.core.circuits c.at_server (Open e) had))
        where
          channels : List (Handle × OpenChannel)
          channels = channels_of name e

          more : List Entry
          more = log ++ removal_entries name y.records

          rs : List RecordSide
          rs = filter (λ (r : RecordSide). not (bytes_eq r.name name)) y.records

          same-end : (x : ServerEnd) → Open f ≡ Open x → f ≡ x
          same-end x is = cc

          go : (b : Bool) → gone c.at_server ≡ b → Open f ≡ cond b (Ended why.OutOfMemory (e.link.output ++ spelled (take (left c.at_server) (disconnects name e)))) (Open (end_without name e))
              → P n more rs f (removed_at i y.core name gone left c)
          go true is_gone same = absurd cc
          go false is_gone same =
              let now : removed_at i y.core name gone left c ≡ told_gone channels c =
              is-here i c (told_gone (disconnected_at name gone left c.at_server (under y.core.circuits c.at_server)) c) mine opened
              ∙ ap (λ (o : Option ServerCircuit). told_gone (disconnected_at name gone left c.at_server o) c) had
              ∙ ap (λ (b : Bool). told_gone (cond b (take (left c.at_server) channels) channels) c) is_gone in
              subst (λ (x : ServerEnd). P n more rs x (removed_at i y.core name gone left c)) (sym (same-end (end_without name e) same))
              (subst (λ (d : Joined). P n more rs (end_without name e) d) (sym now) (k.removed n log y.records name e c p))
  remove-lasts w new i y name at (gone, left, core, inr (removes, is)) h seated all = subst (λ (z : World). AllEnds P z) (sym is) all

  -- ---- a cut, a pump

  -- ends go on as they were, and so do circuits
  pub as-before : (n : ℕ) (log : List Entry) (rs : List RecordSide) (c : Joined) (e f : ServerEnd) (y core : Server) → HasEnd y c.at_server e → P n log rs e c → EndsWere y core → HasEnd core c.at_server f → P n log rs f c
  as-before n log rs c e f y core had p were has =
      let was = were c.at_server f has in
      let one : was.0 ≡ e = one-end y c.at_server was.0 e was.1 had in
      k.stays n log rs e f c c (subst (λ (x : ServerEnd). SameHeld x f) one was.2) (goes-self c) p

  pub cut-lasts : (w new : World) (n : ℕ) (j : Joined) (y : ServerSide) → At w.servers j.server y → HappensCutServer w n j y new → Writes w → Seated w → AllEnds P w → AllEnds P new
  cut-lasts w new n j y at f h seated all =
      let own = h.lives j.server y at in
      subst (λ (z : World). AllEnds P z) (sym f.leaves)
      (after-lasts P w j.server y f.core own.log k w y (ends_by j.server f.core) own.log at own.at h.apart refl (own.at, λ l z there other. there) (λ n d on opened. (d, on, seat-of d d (same-self d), λ other l rs e h. h)) (λ i z there other. there)
      (λ n c d e x on there opened mine had p has.
      let same : d ≡ c = At-one w.circuits n d c there on in
      subst (λ (z : Joined). P n own.log y.records x z) (sym same) (as-before n own.log y.records c e x y.core f.core had p (cuts-were y.core j.at_server f.core f.cuts) has))
      seated all)

  pub pump-lasts : (w new : World) (m : ℕ) (j : Joined) (y : ServerSide) → At w.circuits m j → At w.servers j.server y → j.lists.server_open ≡ true → HappensPump w m j y new → Writes w → Seated w → AllEnds P w → AllEnds P new
  pump-lasts w new m j y at_m at open_m f h seated all =
      let own = h.lives j.server y at in
      let pumped : Joined = stamped f.updates j in
      let mid : World = with_circuit m pumped w in
      subst (λ (z : World). AllEnds P z) (sym f.leaves)
      (after-lasts P w j.server y f.core own.log k mid y (ends_by j.server f.core) own.log at own.at h.apart refl (own.at, λ l z there other. there)
      (λ n d there opened. elim (At-set w.circuits m pumped n d there) [
        | inl mine ↦ (
          j,
          subst (λ (z : ℕ). At w.circuits z j) (sym mine.0) at_m,
          subst (λ (z : Joined). SameSeat j z) (sym mine.1) (seat-of j pumped (stamped-same f.updates j)),
          λ other. absurd (other refl),
        )
        | inr old ↦ (d, old.0, seat-of d d (same-self d), λ other l rs e h. h)
      ])
      (λ i z there other. there)
      (λ n c d e x on there opened mine had p has. elim (At-set w.circuits m pumped n d there) [
        | inl this ↦
            let one : c ≡ j = At-one w.circuits m c j (subst (λ (z : ℕ). At w.circuits z c) this.0 on) at_m in
            subst (λ (z : Joined). P n own.log y.records x z) (sym this.1)
            (own-pump own.log e x n f.pumps (subst (λ (z : Joined). HasEnd y.core z.at_server e) one had) (subst (λ (z : Joined). P n own.log y.records e z) one p) (subst (λ (z : Joined). HasEnd f.core z.at_server x) one has))
        | inr old ↦
            let same : d ≡ c = At-one w.circuits n d c old.0 on in
            let apart : c.at_server ≡ j.at_server → ⊥ = λ handles. old.1 (seated.one n m c j on at_m mine (ap (λ (z : Joined). z.lists.server_open) (sym same) ∙ opened) open_m handles) in
            subst (λ (z : Joined). P n own.log y.records x z) (sym same) (other-pump own.log n c e x f.pumps apart had p has)
      ])
      seated all)
    where
      same-open : (a b : ServerEnd) → Open a ≡ Open b → a ≡ b
      same-open a b is = cc

      own-pump : (log : List Entry) (e x : ServerEnd) (n : ℕ) → Pumps y.core j.at_server f.updates f.core → HasEnd y.core j.at_server e → P n log y.records e j → HasEnd f.core j.at_server x → P n log y.records x (stamped f.updates j)
      own-pump log e x n (inl (d, hd, (after, folds, inl (rests, is)))) had p has =
          let there : HasEnd (with_end j.at_server after y.core) j.at_server x = subst (λ (z : Server). HasEnd z j.at_server x) is has in
          let one : d ≡ e = one-end y.core j.at_server d e hd had in
          elim (changed-back (λ (c : ServerCircuit). Open after) y.core.circuits j.at_server j.at_server (Open x) there) [
            | inl own ↦
                subst (λ (z : ServerEnd). P n log y.records z (stamped f.updates j)) (sym (same-open x after own.1.2))
                (k.pumped n log y.records f.updates d after j folds (subst (λ (z : ServerEnd). P n log y.records z j) (sym one) p))
            | inr old ↦ absurd (old.0 refl)
          ]
      own-pump log e x n (inl (d, hd, (after, folds, inr (more, is)))) had p has =
          let there : HasEnd (ended j.at_server why.OutOfMemory after.link.output y.core) j.at_server x = subst (λ (z : Server). HasEnd z j.at_server x) is has in
          elim (changed-back (λ (c : ServerCircuit). Ended why.OutOfMemory after.link.output) y.core.circuits j.at_server j.at_server (Open x) there) [
            | inl own ↦ absurd (let e : Open x ≡ Ended why.OutOfMemory after.link.output = own.1.2 in cc)
            | inr old ↦ absurd (old.0 refl)
          ]
      own-pump log e x n (inr (none, nothing, is)) had p has = absurd (none e had)

      other-pump : (log : List Entry) (n : ℕ) (c : Joined) (e x : ServerEnd) → Pumps y.core j.at_server f.updates f.core → (c.at_server ≡ j.at_server → ⊥) → HasEnd y.core c.at_server e → P n log y.records e c → HasEnd f.core c.at_server x → P n log y.records x c
      other-pump log n c e x (inl (d, hd, (after, folds, inl (rests, is)))) apart had p has =
          let there : HasEnd (with_end j.at_server after y.core) c.at_server x = subst (λ (z : Server). HasEnd z c.at_server x) is has in
          elim (changed-back (λ (c : ServerCircuit). Open after) y.core.circuits c.at_server j.at_server (Open x) there) [
            | inl own ↦ absurd (apart own.0)
            | inr old ↦ subst (λ (z : ServerEnd). P n log y.records z c) (one-end y.core c.at_server e x had old.1) p
          ]
      other-pump log n c e x (inl (d, hd, (after, folds, inr (more, is)))) apart had p has =
          as-before n log y.records c e x y.core f.core had p (subst (λ (z : Server). EndsWere y.core z) (sym is) (were-ended y.core j.at_server why.OutOfMemory after.link.output)) has
      other-pump log n c e x (inr (none, nothing, is)) apart had p has = as-before n log y.records c e x y.core f.core had p (were-self y.core f.core (ap (λ (z : Server). z.circuits) is)) has

  -- ---- a record is added, a server begins again

  pub add-lasts : (w new : World) (i : ℕ) (y : ServerSide) (r : RecordState) → At w.servers i y → HappensAdd w i y r new → Writes w → AllEnds P w → AllEnds P new
  add-lasts w new i y r at (core, behind, inl (adds, is)) h all = subst (λ (z : World). AllEnds P z) (sym is) after
    where
      own : Lives w i y
      own = h.lives i y at

      next : ServerSide
      next = record y { core = core; records = take behind y.records ++ record_begun y.added r ∷ drop behind y.records; added = y.added + 1 }

      fresh : (x : RecordSide) → In y.records x → (x.number ≡ y.added → ⊥) × (x.name ≡ r.name → ⊥)
      fresh x there =
          let b = beside-right (Agrees (IsPutOf w.circuits i) own.log) y.core.records y.records there.0 x own.life.each there.1 in
          let below : x.number < y.added = own.life.numbers x.number (Added x.number b.2.first) b.2.added refl in (
            λ is_number. omega (arith, below, is_number),
            λ is_name. not-named y.core.records there.0 b.0 r.name b.1 (b.2.name ∙ is_name) adds.0.1,
          )

      after : AllEnds P (with_entries y.life (Added y.added r ∷ []) (with_server i next w))
      after n c z e lg on there opened has logged = elim (At-set w.servers i next c.server z there) [
        | inl mine ↦
            let life : z.life ≡ y.life = ap (λ (s : ServerSide). s.life) mine.1 in
            let had : HasEnd y.core c.at_server e = subst (λ (s : Server). HasEnd s c.at_server e) adds.1 (subst (λ (s : ServerSide). HasEnd s.core c.at_server e) mine.1 has) in
            let one : lg ≡ own.log ++ Added y.added r ∷ [] =
            At-one (grown y.life (Added y.added r ∷ []) w.server_logs) y.life lg (own.log ++ Added y.added r ∷ []) (subst (λ (l : ℕ). At (grown y.life (Added y.added r ∷ []) w.server_logs) l lg) life logged) (grown-here w.server_logs y.life own.log (Added y.added r ∷ []) own.at) in
            subst (λ (l : List Entry). P n l z.records e c) (sym one)
            (subst (λ (s : ServerSide). P n (own.log ++ Added y.added r ∷ []) s.records e c) (sym mine.1)
            (k.added n own.log y.records y.added behind r e c own.life.others fresh (all n c y e own.log on (subst (λ (l : ℕ). At w.servers l y) (sym mine.0) at) opened had own.at)))
        | inr old ↦ all n c z e lg on old.0 opened has (elim (grown-back w.server_logs y.life (Added y.added r ∷ []) z.life lg logged) [
          | inl same ↦ absurd (old.1 (h.apart c.server i z y old.0 at same))
          | inr was ↦ was
        ])
      ]
  add-lasts w new i y r at (core, behind, inr refused) h all = subst (λ (z : World). AllEnds P z) (sym refused.3) all

  pub restart-lasts : (w new : World) (i : ℕ) (y : ServerSide) → At w.servers i y → HappensServerRestart w i y new → Writes w → AllEnds P w → AllEnds P new
  restart-lasts w new i y at is h all = subst (λ (z : World). AllEnds P z) (sym is) after
    where
      ends : Joined → Option (List ℕ)
      ends = ends_untold i y.core

      -- each open circuit of this server ends
      over : (c : Joined) → c.server ≡ i → c.lists.server_open ≡ true → is_some (ends c) ≡ false → ⊥
      over c mine opened none =
          let all : is_some (ends c) ≡ true =
          ap (λ (b : Bool). is_some (cond (b && c.lists.server_open) (Some (output_of (under y.core.circuits c.at_server))) None)) (eq-eqb c.server i mine)
          ∙ ap (λ (b : Bool). is_some (cond b (Some (output_of (under y.core.circuits c.at_server))) None)) opened in
          (let t : true ≡ false = sym all ∙ none in cc)

      after : AllEnds P (restarted w i y)
      after n d z e lg on there opened has logged =
          let x = At-mapped (ending ends) w.circuits n d on in
          let still = open-still ends x.0 d x.2 opened in
          let c : Joined = x.0 in
          let opened_c : c.lists.server_open ≡ true = ap (λ (q : Joined). q.lists.server_open) (sym still.1) ∙ opened in
          let other : c.server ≡ i → ⊥ = λ mine. over c mine opened_c still.0 in
          subst (λ (q : Joined). P n lg z.records e q) (sym still.1)
          (elim (At-set w.servers i (server_begun w.moment (length w.server_logs) y.setting) d.server z there) [
            | inl own ↦ absurd (other (ap (λ (q : Joined). q.server) (sym still.1) ∙ own.0))
            | inr old ↦
                let was = h.lives d.server z old.0 in
                let one : lg ≡ was.log = At-one (w.server_logs ++ log_begun y.setting ∷ []) z.life lg was.log logged (At-append w.server_logs (log_begun y.setting ∷ []) z.life was.log was.at) in
                all n c z e lg x.1 (subst (λ (q : Joined). At w.servers q.server z) still.1 old.0) opened_c (subst (λ (q : Joined). HasEnd z.core q.at_server e) still.1 has)
                (subst (λ (l : List Entry). At w.server_logs z.life l) (sym one) was.at)
          ])

  -- ---- bytes move

  pub up-lasts : (w new : World) (m n : ℕ) (j : Joined) (x : ClientSide) (y : ServerSide) → At w.circuits m j → At w.servers j.server y → HappensUp w m n j x y new → AllEnds P w → AllEnds P new
  up-lasts w new m n j x y at server (core, gives, is) all =
      let mid : World = up_taken m n j x w in
      let f = up-frame w m n j x at in
      core-lasts P k mid new j.server y (record y { core = core }) (subst (λ (l : List ServerSide). At l j.server y) (sym f.servers) server) (ap (λ (z : World). z.servers) is) (ap (λ (z : World). z.circuits) is)
      (ap (λ (z : World). z.server_logs) is) refl refl
      (gives-were y.core core j.at_server _ gives) (frame-lasts P k w mid f all)

  down-taken : (w mid : World) (m n : ℕ) (j : Joined) (y : ServerSide) → At w.circuits m j → At w.servers j.server y → DownTaken w m n j y mid → AllEnds P w → AllEnds P mid
  down-taken w mid m n j y at server (inl (opened, (core, sends, is))) all =
      core-lasts P k w mid j.server y (record y { core = core }) server (ap (λ (z : World). z.servers) is) (ap (λ (z : World). z.circuits) is) (ap (λ (z : World). z.server_logs) is) refl refl (sends-were y.core core j.at_server n sends) all
  down-taken w mid m n j y at server (inr (shut, is)) all =
      subst (λ (z : World). AllEnds P z) (sym is) (frame-lasts P k w (with_circuit m (record j { left_down = drop n j.left_down }) w) (left-frame w m n j at) all)

  pub down-lasts : (w new : World) (m n : ℕ) (j : Joined) (x : ClientSide) (y : ServerSide) → At w.circuits m j → At w.servers j.server y → HappensDown w m n j x y new → AllEnds P w → AllEnds P new
  down-lasts w new m n j x y at server (mid, sent, core, taken, gives, is) all =
      frame-lasts P k mid new (sent-frame mid new j.client x.names sent (ap (λ (z : World). z.servers) is) (ap (λ (z : World). z.server_logs) is) (ap (λ (z : World). z.circuits) is)) (down-taken w mid m n j y at server taken all)

  -- ---- a circuit is made

  pub accept-lasts : (w new : World) (c : ℕ) (x : ClientSide) (v : WantsFirst w x) → Begins P → HappensAccept w c x v new → Seated w → AllEnds P w → AllEnds P new
  accept-lasts w new c x v begins f seated all = elim f.leaves [
    | inl full ↦ subst (λ (z : World). AllEnds P z) (sym full.1) all
    | inr made ↦ (let accepts : Accepts v.y.core (Ok made.0) f.server = subst (λ (a : _). Accepts v.y.core a f.server) made.4 f.accepts in joined made.0 made.1 made.2 made.3 accepts made.6)
  ]
    where
      circuit : Handle → Option Closing → Joined
      circuit g o = connected_as o (new_circuit c x v.v.circuit v.i v.y g)

      made_by : Handle → Option Closing → World
      made_by g o = record (with_server v.i (record v.y { core = f.server }) w) { circuits = w.circuits ++ circuit g o ∷ [] }

      is-new : (g : Handle) (o : Option Closing) → IsNew (circuit g o) × ((circuit g o).server ≡ v.i) × ((circuit g o).at_server ≡ g)
      is-new g None = (record { up = refl; down = refl; handled = refl; creations = refl; standing = refl; queues = refl }, refl, refl)
      is-new g (Some o) = (record { up = refl; down = refl; handled = refl; creations = refl; standing = refl; queues = refl }, refl, refl)

      same-open : (a b : ServerEnd) → Open a ≡ Open b → a ≡ b
      same-open a b is = cc

      made-all : (g : Handle) (o : Option Closing) → Accepts v.y.core (Ok g) f.server → AllEnds P (made_by g o)
      made-all g o accepts n d z e lg at there opened has logged =
          let next : ServerSide = record v.y { core = f.server } in
          let fresh : ServerEnd = new_end v.y.core.moment in
          let new-is = is-new g o in
          elim (At-set w.servers v.i next d.server z there) [
            | inl own ↦
                let records : z.records ≡ v.y.records = ap (λ (s : ServerSide). s.records) own.1 in
                let log_on : At w.server_logs v.y.life lg = subst (λ (l : ℕ). At w.server_logs l lg) (ap (λ (s : ServerSide). s.life) own.1) logged in
                let has_f : HasEnd f.server d.at_server e = subst (λ (s : ServerSide). HasEnd s.core d.at_server e) own.1 has in
                let back = held-back v.y.core.circuits d.at_server g (Open fresh) (Open e) (subst (λ (s : Server). HasEnd s d.at_server e) accepts.1 has_f) in
                subst (λ (rs : List RecordSide). P n lg rs e d) (sym records)
                (elim (At-snoc w.circuits (circuit g o) n d at) [
                  | inl old ↦
                      let seat = seated.each n d old opened in
                      let mine : seat.y ≡ v.y = At-one w.servers v.i seat.y v.y (subst (λ (m : ℕ). At w.servers m seat.y) own.0 seat.at) v.there.0 in
                      let had : HasEnd v.y.core d.at_server seat.e = subst (λ (s : ServerSide). HasEnd s.core d.at_server seat.e) mine seat.has in
                      elim back [
                        | inl this ↦ absurd (given-free v.y.core.circuits g (Open seat.e) accepts.0 (subst (λ (m : Handle). HasEnd v.y.core m seat.e) this.0 had))
                        | inr was ↦ all n d v.y e lg old (subst (λ (m : ℕ). At w.servers m v.y) (sym own.0) v.there.0) opened was log_on
                      ]
                  | inr last ↦ elim back [
                    | inl this ↦
                        subst (λ (q : ServerEnd). P n lg v.y.records q d) (sym (same-open e fresh this.1))
                        (subst (λ (q : Joined). P n lg v.y.records fresh q) (sym last.1) (begins n v.y.core.moment lg v.y.records (circuit g o) new-is.0))
                    | inr was ↦
                        absurd (given-free v.y.core.circuits g (Open e) accepts.0
                        (subst (λ (m : Handle). HasEnd v.y.core m e) (ap (λ (q : Joined). q.at_server) last.1 ∙ new-is.2) was))
                  ]
                ])
            | inr old ↦ elim (At-snoc w.circuits (circuit g o) n d at) [
              | inl on ↦ all n d z e lg on old.0 opened has logged
              | inr last ↦ absurd (old.1 (ap (λ (q : Joined). q.server) last.1 ∙ new-is.1))
            ]
          ]

      joined : (g : Handle) (o : Option Closing) (sent : List Sending) (core : Client) → Accepts v.y.core (Ok g) f.server → new ≡ client_after c x x.names (record { core = core; names = x.names; lines = lines_of history.OfCircuit x.names (closing_notices o); sent = sent }) (record (with_server v.i (record v.y { core = f.server }) w) { circuits = w.circuits ++ connected_as o (new_circuit c x v.v.circuit v.i v.y g) ∷ [] }) → AllEnds P new
      joined g o sent core accepts is =
          frame-lasts P k (made_by g o) new (sent-frame (made_by g o) new c x.names sent (ap (λ (z : World). z.servers) is) (ap (λ (z : World). z.server_logs) is) (ap (λ (z : World). z.circuits) is)) (made-all g o accepts)
