-- What holds of open ends and their circuits stays so: bytes, circuits that are made, posts,
-- removals, pumps, cuts and restarts.
use Rattle.std.proofs.Common.{◌≡◌, ℕ, ◌+◌, inl, inr, Bool, true, false, cond, ◌&&◌, eqb, ne_eqb, eq-eqb, not, List, [], ◌∷◌, ◌++◌, Option, Some, None, refl, sym, ap, subst, ◌∙◌, arith}
use Rattle.std.specs.Prelude.{Ok, drop, filter, is_some, length, map, take}
use Rattle.std.specs.List.{fold}
use Rattle.std.specs.Str.{bytes_eq}
use Rattle.ca_arena.specs.declared.handle.Handle.{Handle}
use Rattle.ca_dbr.specs.Elements.{Elements}
use Rattle.ca_ids.specs.Table.{Table, under, with_each}
use Rattle.ca_model.proofs.Tables.{changed-back, freed-back, held-back, one-value}
use Rattle.ca_link.specs.Link.{with_given, with_handed}
use Rattle.ca_records.specs.Puts.{with_record, with_value}
use Rattle.ca_records.specs.Record.{RecordState, unset}
use Rattle.ca_text.specs.Place.{At}
use Rattle.ca_text.proofs.Places.{At-mapped, At-one, At-set, At-snoc}
use Rattle.ca_wire.specs.Message.{spelled}
use Rattle.ca_model.specs.Answers.{Closing, Sending}
use Rattle.ca_model.specs.Client.{Client}
use Rattle.ca_model.specs.Ends.{Why}
use Rattle.ca_model.specs.Ends as why
use Rattle.ca_model.specs.History as history
use Rattle.ca_model.specs.Server.{Ended, Open, OpenChannel, Server, ServerCircuit, ServerEnd, Subscription, concerns, key_of, new_end, with_post}
use Rattle.ca_model.specs.ServerCalls.{channels_of, circuit_without, disconnects, end_without}
use Rattle.ca_model.specs.ServerSteps.{Accepts, Cuts, Gives, HasEnd, Pumps, Sends, after_post, closed, ended, output_of, reached, with_end}
use Rattle.ca_model.specs.Speech.{Stored}
use Rattle.ca_model.specs.ClientEvents.{DownTaken, HappensAccept, HappensDown, HappensUp, WantsFirst, client_after, connected_as, lines_of, new_circuit, closing_notices, up_taken}
use Rattle.ca_model.specs.ServerEvents.{HappensAdd, HappensCutServer, HappensPost, HappensPump, HappensRemove, HappensServerRestart, disconnected_at, ending, ends_by, ends_untold, keys_concerned, numbers_posted, removed_at, stamped, with_number}
use Rattle.ca_model.specs.World.{ClientSide, Joined, RecordSide, ServerSide, World, record_begun, server_begun, with_circuit, with_server}
use Rattle.ca_laws_parts.specs.Moves.{post_told, removal_told, restarted}
use Rattle.ca_laws_parts.specs.Seats.{Seated}
use Rattle.ca_laws_parts.proofs.Cores.{each-there}
use Rattle.ca_laws_parts.proofs.WritesEvents.{SameEnds, posted-same, removed-same, same-self}
use Rattle.ca_laws_parts.proofs.Frames.{goes-self}
use Rattle.ca_laws_parts.proofs.HappensAdd.{given-free}
use Rattle.ca_laws_parts.proofs.HappensClient.{left-frame, sent-frame, up-frame}
use Rattle.ca_laws_parts.proofs.HappensPost.{stamped-same}
use Rattle.ca_laws_parts.proofs.Lasting.{AllEnds, Begins, EndsWere, IsNew, Lasting, SameHeld, SameSeat, after-lasts, core-lasts, frame-lasts, held-self, numbered_for, seat-of, told_gone}
use Rattle.ca_laws_parts.proofs.Seats.{open-still}

-- ---- ends of a core

pub one-end : (y : Server) (h : Handle) (e f : ServerEnd) → HasEnd y h e → HasEnd y h f → e ≡ f
one-end y h e f a b = same (one-value y.circuits h (Open e) (Open f) a b)
  where
    same : Open e ≡ Open f → e ≡ f
    same is = cc

pub were-self : (old new : Server) → new.circuits ≡ old.circuits → EndsWere old new
were-self old new is h f has = (f, subst (λ (t : Table ServerCircuit). under t h ≡ Some (Open f)) is has, held-self f)

pub were-end : (y : Server) (h : Handle) (e d : ServerEnd) → HasEnd y h e → SameHeld e d → EndsWere y (with_end h d y)
were-end y h e d has held g f there = elim (changed-back (λ (c : ServerCircuit). Open d) y.circuits g h (Open f) there) [
  | inl own ↦
      let same : f ≡ d = same-end f d own.1.2 in
      (e, subst (λ (k : Handle). HasEnd y k e) (sym own.0) has, subst (λ (x : ServerEnd). SameHeld e x) (sym same) held)
  | inr old ↦ (f, old.1, held-self f)
]
  where
    same-end : (f d : ServerEnd) → Open f ≡ Open d → f ≡ d
    same-end f d is = cc

pub were-closed : (y : Server) (h : Handle) → EndsWere y (closed h y)
were-closed y h g f there = (f, (freed-back y.circuits g h (Open f) there).1, held-self f)

-- one end has ended, and the others are as they were
pub were-ended : (y : Server) (h : Handle) (w : Why) (left : List ℕ) → EndsWere y (ended h w left y)
were-ended y h w left g f there = elim (changed-back (λ (c : ServerCircuit). Ended w left) y.circuits g h (Open f) there) [
  | inl own ↦ absurd (let is : Open f ≡ Ended w left = own.1.2 in cc)
  | inr old ↦ (f, old.1, held-self f)
]

gives-were : (old new : Server) (h : Handle) (bytes : List ℕ) → Gives old h bytes (Ok tt) new → EndsWere old new
gives-were old new h bytes (e, has, is) =
    subst (λ (x : Server). EndsWere old x) (sym is) (were-end old h e (record e { link = with_given old.moment bytes e.link }) has (record { channels = refl; subscriptions = refl; queues = refl }))

sends-were : (old new : Server) (h : Handle) (n : ℕ) → Sends old h n new → EndsWere old new
sends-were old new h n (inl (e, has, within, is)) =
    subst (λ (x : Server). EndsWere old x) (sym is) (were-end old h e (record e { link = with_handed n e.link }) has (record { channels = refl; subscriptions = refl; queues = refl }))
sends-were old new h n (inr (none, zero_of, is)) = were-self old new (ap (λ (x : Server). x.circuits) is)

cuts-were : (y : Server) (h : Handle) (core : Server) → Cuts y h core → EndsWere y core
cuts-were y h core (inl (e, has, is)) = subst (λ (x : Server). EndsWere y x) (sym is) (were-ended y h why.Cut e.link.output)
cuts-were y h core (inr (none, is)) = were-self y core (ap (λ (x : Server). x.circuits) is)

-- ---- whether a circuit is one of the server's that are open

pub is-here : (i : ℕ) (c d : Joined) → c.server ≡ i → c.lists.server_open ≡ true → cond (eqb c.server i && c.lists.server_open) d c ≡ d
is-here i c d mine opened =
    ap (λ (b : Bool). cond (b && c.lists.server_open) d c) (eq-eqb c.server i mine) ∙ ap (λ (b : Bool). cond b d c) opened

pub not-here : (i : ℕ) (c d : Joined) → (c.server ≡ i → ⊥) → cond (eqb c.server i && c.lists.server_open) d c ≡ c
not-here i c d other = ap (λ (b : Bool). cond (b && c.lists.server_open) d c) (ne_eqb c.server i other)

module _ (P : ℕ → ServerEnd → Joined → Type 0) (k : Lasting P) where
  -- ---- what other circuits are

  -- circuits that were mapped
  pub mapped-from : (w : World) (i : ℕ) (f : Joined → Joined) → ((c : Joined) → SameEnds c (f c)) → ((c : Joined) → (c.server ≡ i → ⊥) → f c ≡ c) → (n : ℕ) (d : Joined) → At (map f w.circuits) n d
      → (c : Joined) × At w.circuits n c × SameSeat c d × ((c.server ≡ i → ⊥) → (e : ServerEnd) → P n e c → P n e d)
  mapped-from w i f same other n d at =
      let c = At-mapped f w.circuits n d at in (
        c.0,
        c.1,
        subst (λ (x : Joined). SameSeat c.0 x) (sym c.2) (seat-of c.0 (f c.0) (same c.0)),
        λ far e h. subst (λ (x : Joined). P n e x) (sym (c.2 ∙ other c.0 far)) h,
      )

  pub mapped-one : (w : World) (f : Joined → Joined) (n : ℕ) (c d : Joined) → At w.circuits n c → At (map f w.circuits) n d → d ≡ f c
  mapped-one w f n c d on at = (let x = At-mapped f w.circuits n d at in x.2 ∙ ap f (At-one w.circuits n x.0 c x.1 on))

  -- ---- a post

  -- A post reaches an end and its circuit; the core told the numbers when it had this end with
  -- the same subscriptions.
  pub post-ends-last : (n i : ℕ) (core mid : Server) (name : List ℕ) (mask : ℕ) (v : Stored) (gone : Handle → Bool) (c : Joined) (b e f : ServerEnd) → c.server ≡ i → c.lists.server_open ≡ true → HasEnd core c.at_server b
      → HasEnd mid c.at_server e → e.subscriptions ≡ b.subscriptions → P n e c → HasEnd (after_post name mask v gone mid) c.at_server f → P n f (numbers_posted i core name mask c)
  post-ends-last n i core mid name mask v gone c b e f mine opened before has subs p after =
      subst (λ (d : Joined). P n f d) (sym numbers)
      (go (gone c.at_server)
      (one-value (after_post name mask v gone mid).circuits c.at_server (Open f) (reached name mask v gone c.at_server (Open e)) after
      (each-there (reached name mask v gone) mid.circuits c.at_server (Open e) has)))
    where
      numbers : numbers_posted i core name mask c ≡ numbered_for name mask e c
      numbers =
          is-here i c (fold with_number c (keys_concerned name mask (under core.circuits c.at_server))) mine opened
          ∙ ap (λ (o : Option ServerCircuit). fold with_number c (keys_concerned name mask o)) before
          ∙ ap (λ (l : List Subscription). fold with_number c (map key_of (filter (concerns name mask) l))) (sym subs)

      same-end : (x : ServerEnd) → Open f ≡ Open x → f ≡ x
      same-end x is = cc

      go : (x : Bool) → Open f ≡ cond x (Ended why.OutOfMemory e.link.output) (Open (with_post name mask v e)) → P n f (numbered_for name mask e c)
      go true is = absurd cc
      go false is = subst (λ (x : ServerEnd). P n x (numbered_for name mask e c)) (sym (same-end (with_post name mask v e) is)) (k.posted n name mask v e c p)

  -- a circuit of another server gets no numbers
  pub other-posted : (i : ℕ) (core : Server) (name : List ℕ) (mask : ℕ) (c : Joined) → (c.server ≡ i → ⊥) → numbers_posted i core name mask c ≡ c
  other-posted i core name mask c other = not-here i c (fold with_number c (keys_concerned name mask (under core.circuits c.at_server))) other

  pub post-lasts : (w new : World) (i : ℕ) (y : ServerSide) (name : List ℕ) (e : Elements) (mask : ℕ) → At w.servers i y → HappensPost w i y name e mask new → Seated w → AllEnds P w → AllEnds P new
  post-lasts w new i y name e mask at (gone, core, inl (posts, is)) seated all =
      let v : Stored = record { value = e; meta = unset } in
      let stored : Server = record y.core { records = with_record name (with_value v.value v.meta) y.core.records } in
      let numbers : Joined → Joined = numbers_posted i y.core name mask in
      subst (λ (z : World). AllEnds P z) (sym is)
      (after-lasts P w i y core (post_told w i y name v mask) y (ends_by i core) at
      (λ n d there opened. mapped-from w i numbers (posted-same i y.core name mask) (other-posted i y.core name mask) n d there) (λ j z there other. there)
      (λ n c d b f on there opened mine had p has.
      let is_d : d ≡ numbers c = mapped-one w numbers n c d on there in
      let opened_c : c.lists.server_open ≡ true = sym (posted-same i y.core name mask c).is_open ∙ ap (λ (x : Joined). x.lists.server_open) (sym is_d) ∙ opened in
      subst (λ (x : Joined). P n f x) (sym is_d)
      (post-ends-last n i y.core stored name mask v gone c b b f mine opened_c had had refl p (subst (λ (x : Server). HasEnd x c.at_server f) posts.2 has)))
      seated all)
  post-lasts w new i y name e mask at (gone, core, inr refused) seated all = subst (λ (z : World). AllEnds P z) (sym refused.3) all

  -- ---- a removal

  pub remove-lasts : (w new : World) (i : ℕ) (y : ServerSide) (name : List ℕ) → At w.servers i y → HappensRemove w i y name new → Seated w → AllEnds P w → AllEnds P new
  remove-lasts w new i y name at (gone, left, core, inl (removes, is)) seated all =
      let side : ServerSide = record y { records = filter (λ (r : RecordSide). not (bytes_eq r.name name)) y.records } in
      let over : Joined → Joined = removed_at i y.core name gone left in
      subst (λ (z : World). AllEnds P z) (sym is)
      (after-lasts P w i y core (removal_told w i y name gone left) side (ends_by i core) at
      (λ n d there opened. mapped-from w i over (removed-same i y.core name gone left) (λ c other. not-here i c _ other) n d there)
      (λ j z there other. elim (At-set w.servers i side j z there) [ inl own ↦ absurd (other own.0) | inr old ↦ old.0 ])
      (λ n c d e f on there opened mine had p has.
      let is_d : d ≡ over c = mapped-one w over n c d on there in
      let opened_c : c.lists.server_open ≡ true = sym (removed-same i y.core name gone left c).is_open ∙ ap (λ (x : Joined). x.lists.server_open) (sym is_d) ∙ opened in
      subst (λ (x : Joined). P n f x) (sym is_d)
      (one n c e f mine opened_c had p (subst (λ (x : Server). HasEnd x c.at_server f) removes.2 has)))
      seated all)
    where
      one : (n : ℕ) (c : Joined) (e f : ServerEnd) → c.server ≡ i → c.lists.server_open ≡ true → HasEnd y.core c.at_server e → P n e c → under (with_each (circuit_without name gone left) y.core.circuits) c.at_server ≡ Some (Open f)
          → P n f (removed_at i y.core name gone left c)
      one n c e f mine opened had p has =
          go (gone c.at_server) refl
          (one-value (with_each (circuit_without name gone left) y.core.circuits) c.at_server (Open f) (circuit_without name gone left c.at_server (Open e)) has
          (each-there (circuit_without name gone left) y.core.circuits c.at_server (Open e) had))
        where
          channels : List (Handle × OpenChannel)
          channels = channels_of name e

          same-end : (x : ServerEnd) → Open f ≡ Open x → f ≡ x
          same-end x is = cc

          go : (b : Bool) → gone c.at_server ≡ b → Open f ≡ cond b (Ended why.OutOfMemory (e.link.output ++ spelled (take (left c.at_server) (disconnects name e)))) (Open (end_without name e))
              → P n f (removed_at i y.core name gone left c)
          go true is_gone same = absurd cc
          go false is_gone same =
              let now : removed_at i y.core name gone left c ≡ told_gone channels c =
              is-here i c (told_gone (disconnected_at name gone left c.at_server (under y.core.circuits c.at_server)) c) mine opened
              ∙ ap (λ (o : Option ServerCircuit). told_gone (disconnected_at name gone left c.at_server o) c) had
              ∙ ap (λ (b : Bool). told_gone (cond b (take (left c.at_server) channels) channels) c) is_gone in
              subst (λ (x : ServerEnd). P n x (removed_at i y.core name gone left c)) (sym (same-end (end_without name e) same))
              (subst (λ (d : Joined). P n (end_without name e) d) (sym now) (k.removed n name e c p))
  remove-lasts w new i y name at (gone, left, core, inr (removes, is)) seated all = subst (λ (z : World). AllEnds P z) (sym is) all

  -- ---- a cut, a pump

  -- ends go on as they were, and so do circuits
  pub as-before : (n : ℕ) (c : Joined) (e f : ServerEnd) (y core : Server) → HasEnd y c.at_server e → P n e c → EndsWere y core → HasEnd core c.at_server f → P n f c
  as-before n c e f y core had p were has =
      let was = were c.at_server f has in
      let one : was.0 ≡ e = one-end y c.at_server was.0 e was.1 had in
      k.stays n e f c c (subst (λ (x : ServerEnd). SameHeld x f) one was.2) (goes-self c) p

  pub cut-lasts : (w new : World) (n : ℕ) (j : Joined) (y : ServerSide) → At w.servers j.server y → HappensCutServer w n j y new → Seated w → AllEnds P w → AllEnds P new
  cut-lasts w new n j y at f seated all =
      subst (λ (z : World). AllEnds P z) (sym f.leaves)
      (after-lasts P w j.server y f.core w y (ends_by j.server f.core) at (λ n d on opened. (d, on, seat-of d d (same-self d), λ other e h. h)) (λ i z there other. there)
      (λ n c d e x on there opened mine had p has.
      let same : d ≡ c = At-one w.circuits n d c there on in
      subst (λ (z : Joined). P n x z) (sym same) (as-before n c e x y.core f.core had p (cuts-were y.core j.at_server f.core f.cuts) has))
      seated all)

  pub pump-lasts : (w new : World) (m : ℕ) (j : Joined) (y : ServerSide) → At w.circuits m j → At w.servers j.server y → j.lists.server_open ≡ true → HappensPump w m j y new → Seated w → AllEnds P w → AllEnds P new
  pump-lasts w new m j y at_m at open_m f seated all =
      let pumped : Joined = stamped f.updates j in
      let mid : World = with_circuit m pumped w in
      subst (λ (z : World). AllEnds P z) (sym f.leaves)
      (after-lasts P w j.server y f.core mid y (ends_by j.server f.core) at
      (λ n d there opened. elim (At-set w.circuits m pumped n d there) [
        | inl own ↦ (
          j,
          subst (λ (z : ℕ). At w.circuits z j) (sym own.0) at_m,
          subst (λ (z : Joined). SameSeat j z) (sym own.1) (seat-of j pumped (stamped-same f.updates j)),
          λ other. absurd (other refl),
        )
        | inr old ↦ (d, old.0, seat-of d d (same-self d), λ other e h. h)
      ])
      (λ i z there other. there)
      (λ n c d e x on there opened mine had p has. elim (At-set w.circuits m pumped n d there) [
        | inl own ↦
            let one : c ≡ j = At-one w.circuits m c j (subst (λ (z : ℕ). At w.circuits z c) own.0 on) at_m in
            subst (λ (z : Joined). P n x z) (sym own.1)
            (own-pump e x n own.0 f.pumps (subst (λ (z : Joined). HasEnd y.core z.at_server e) one had) (subst (λ (z : Joined). P n e z) one p) (subst (λ (z : Joined). HasEnd f.core z.at_server x) one has))
        | inr old ↦
            let same : d ≡ c = At-one w.circuits n d c old.0 on in
            let apart : c.at_server ≡ j.at_server → ⊥ = λ handles. old.1 (seated.one n m c j on at_m mine (ap (λ (z : Joined). z.lists.server_open) (sym same) ∙ opened) open_m handles) in
            subst (λ (z : Joined). P n x z) (sym same) (other-pump n c e x f.pumps apart had p has)
      ])
      seated all)
    where
      same-open : (a b : ServerEnd) → Open a ≡ Open b → a ≡ b
      same-open a b is = cc

      own-pump : (e x : ServerEnd) (n : ℕ) → n ≡ m → Pumps y.core j.at_server f.updates f.core → HasEnd y.core j.at_server e → P n e j → HasEnd f.core j.at_server x → P n x (stamped f.updates j)
      own-pump e x n own_is (inl (d, hd, (after, folds, inl (rests, is)))) had p has =
          let there : HasEnd (with_end j.at_server after y.core) j.at_server x = subst (λ (z : Server). HasEnd z j.at_server x) is has in
          let one : d ≡ e = one-end y.core j.at_server d e hd had in
          elim (changed-back (λ (c : ServerCircuit). Open after) y.core.circuits j.at_server j.at_server (Open x) there) [
            | inl own ↦
                subst (λ (z : ServerEnd). P n z (stamped f.updates j)) (sym (same-open x after own.1.2))
                (k.pumped n f.updates d after j folds (subst (λ (z : ServerEnd). P n z j) (sym one) p))
            | inr old ↦ absurd (old.0 refl)
          ]
      own-pump e x n own_is (inl (d, hd, (after, folds, inr (more, is)))) had p has =
          let there : HasEnd (ended j.at_server why.OutOfMemory after.link.output y.core) j.at_server x = subst (λ (z : Server). HasEnd z j.at_server x) is has in
          elim (changed-back (λ (c : ServerCircuit). Ended why.OutOfMemory after.link.output) y.core.circuits j.at_server j.at_server (Open x) there) [
            | inl own ↦ absurd (let e : Open x ≡ Ended why.OutOfMemory after.link.output = own.1.2 in cc)
            | inr old ↦ absurd (old.0 refl)
          ]
      own-pump e x n own_is (inr (none, nothing, is)) had p has = absurd (none e had)

      other-pump : (n : ℕ) (c : Joined) (e x : ServerEnd) → Pumps y.core j.at_server f.updates f.core → (c.at_server ≡ j.at_server → ⊥) → HasEnd y.core c.at_server e → P n e c → HasEnd f.core c.at_server x → P n x c
      other-pump n c e x (inl (d, hd, (after, folds, inl (rests, is)))) apart had p has =
          let there : HasEnd (with_end j.at_server after y.core) c.at_server x = subst (λ (z : Server). HasEnd z c.at_server x) is has in
          elim (changed-back (λ (c : ServerCircuit). Open after) y.core.circuits c.at_server j.at_server (Open x) there) [
            | inl own ↦ absurd (apart own.0)
            | inr old ↦ subst (λ (z : ServerEnd). P n z c) (one-end y.core c.at_server e x had old.1) p
          ]
      other-pump n c e x (inl (d, hd, (after, folds, inr (more, is)))) apart had p has =
          as-before n c e x y.core f.core had p (subst (λ (z : Server). EndsWere y.core z) (sym is) (were-ended y.core j.at_server why.OutOfMemory after.link.output)) has
      other-pump n c e x (inr (none, nothing, is)) apart had p has = as-before n c e x y.core f.core had p (were-self y.core f.core (ap (λ (z : Server). z.circuits) is)) has

  -- ---- a record is added, a server begins again

  pub add-lasts : (w new : World) (i : ℕ) (y : ServerSide) (r : RecordState) → At w.servers i y → HappensAdd w i y r new → AllEnds P w → AllEnds P new
  add-lasts w new i y r at (core, behind, inl (adds, is)) all =
      let next : ServerSide = record y { core = core; records = take behind y.records ++ record_begun y.added r ∷ drop behind y.records; added = y.added + 1 } in
      core-lasts P k w new i y next at (ap (λ (z : World). z.servers) is) (ap (λ (z : World). z.circuits) is) (were-self y.core core (ap (λ (z : Server). z.circuits) adds.1)) all
  add-lasts w new i y r at (core, behind, inr refused) all = subst (λ (z : World). AllEnds P z) (sym refused.3) all

  pub restart-lasts : (w new : World) (i : ℕ) (y : ServerSide) → At w.servers i y → HappensServerRestart w i y new → AllEnds P w → AllEnds P new
  restart-lasts w new i y at is all = subst (λ (z : World). AllEnds P z) (sym is) after
    where
      ends : Joined → Option (List ℕ)
      ends = ends_untold i y.core

      -- each open circuit of this server ends
      over : (c : Joined) → c.server ≡ i → c.lists.server_open ≡ true → is_some (ends c) ≡ false → ⊥
      over c mine opened none =
          let all : is_some (ends c) ≡ true =
          ap (λ (b : Bool). is_some (cond (b && c.lists.server_open) (Some (output_of (under y.core.circuits c.at_server))) None)) (eq-eqb c.server i mine)
          ∙ ap (λ (b : Bool). is_some (cond b (Some (output_of (under y.core.circuits c.at_server))) None)) opened in
          (let t : true ≡ false = sym all ∙ none in cc)

      after : AllEnds P (restarted w i y)
      after n d z e on there opened has =
          let x = At-mapped (ending ends) w.circuits n d on in
          let still = open-still ends x.0 d x.2 opened in
          let c : Joined = x.0 in
          let opened_c : c.lists.server_open ≡ true = ap (λ (q : Joined). q.lists.server_open) (sym still.1) ∙ opened in
          let other : c.server ≡ i → ⊥ = λ mine. over c mine opened_c still.0 in
          subst (λ (q : Joined). P n e q) (sym still.1)
          (elim (At-set w.servers i (server_begun w.moment (length w.server_logs) y.setting) d.server z there) [
            | inl own ↦ absurd (other (ap (λ (q : Joined). q.server) (sym still.1) ∙ own.0))
            | inr old ↦ all n c z e x.1 (subst (λ (q : Joined). At w.servers q.server z) still.1 old.0) opened_c (subst (λ (q : Joined). HasEnd z.core q.at_server e) still.1 has)
          ])

  -- ---- bytes move

  pub up-lasts : (w new : World) (m n : ℕ) (j : Joined) (x : ClientSide) (y : ServerSide) → At w.circuits m j → At w.servers j.server y → HappensUp w m n j x y new → AllEnds P w → AllEnds P new
  up-lasts w new m n j x y at server (core, gives, is) all =
      let mid : World = up_taken m n j x w in
      let f = up-frame w m n j x at in
      core-lasts P k mid new j.server y (record y { core = core }) (subst (λ (l : List ServerSide). At l j.server y) (sym f.servers) server) (ap (λ (z : World). z.servers) is) (ap (λ (z : World). z.circuits) is)
      (gives-were y.core core j.at_server _ gives) (frame-lasts P k w mid f all)

  down-taken : (w mid : World) (m n : ℕ) (j : Joined) (y : ServerSide) → At w.circuits m j → At w.servers j.server y → DownTaken w m n j y mid → AllEnds P w → AllEnds P mid
  down-taken w mid m n j y at server (inl (opened, (core, sends, is))) all =
      core-lasts P k w mid j.server y (record y { core = core }) server (ap (λ (z : World). z.servers) is) (ap (λ (z : World). z.circuits) is) (sends-were y.core core j.at_server n sends) all
  down-taken w mid m n j y at server (inr (shut, is)) all =
      subst (λ (z : World). AllEnds P z) (sym is) (frame-lasts P k w (with_circuit m (record j { left_down = drop n j.left_down }) w) (left-frame w m n j at) all)

  pub down-lasts : (w new : World) (m n : ℕ) (j : Joined) (x : ClientSide) (y : ServerSide) → At w.circuits m j → At w.servers j.server y → HappensDown w m n j x y new → AllEnds P w → AllEnds P new
  down-lasts w new m n j x y at server (mid, sent, core, taken, gives, is) all =
      frame-lasts P k mid new (sent-frame mid new j.client x.names sent (ap (λ (z : World). z.servers) is) (ap (λ (z : World). z.server_logs) is) (ap (λ (z : World). z.circuits) is)) (down-taken w mid m n j y at server taken all)

  -- ---- a circuit is made

  pub accept-lasts : (w new : World) (c : ℕ) (x : ClientSide) (v : WantsFirst w x) → Begins P w → HappensAccept w c x v new → Seated w → AllEnds P w → AllEnds P new
  accept-lasts w new c x v begins f seated all = elim f.leaves [
    | inl full ↦ subst (λ (z : World). AllEnds P z) (sym full.1) all
    | inr made ↦ (let accepts : Accepts v.y.core (Ok made.0) f.server = subst (λ (a : _). Accepts v.y.core a f.server) made.4 f.accepts in joined made.0 made.1 made.2 made.3 accepts made.6)
  ]
    where
      circuit : Handle → Option Closing → Joined
      circuit g o = connected_as o (new_circuit c x v.v.circuit v.i v.y g)

      made_by : Handle → Option Closing → World
      made_by g o = record (with_server v.i (record v.y { core = f.server }) w) { circuits = w.circuits ++ circuit g o ∷ [] }

      is-new : (g : Handle) (o : Option Closing) → IsNew (circuit g o) × ((circuit g o).server ≡ v.i) × ((circuit g o).at_server ≡ g)
      is-new g None = (record { up = refl; down = refl; handled = refl; creations = refl; standing = refl; queues = refl }, refl, refl)
      is-new g (Some o) = (record { up = refl; down = refl; handled = refl; creations = refl; standing = refl; queues = refl }, refl, refl)

      same-open : (a b : ServerEnd) → Open a ≡ Open b → a ≡ b
      same-open a b is = cc

      made-all : (g : Handle) (o : Option Closing) → Accepts v.y.core (Ok g) f.server → AllEnds P (made_by g o)
      made-all g o accepts n d z e at there opened has =
          let next : ServerSide = record v.y { core = f.server } in
          let fresh : ServerEnd = new_end v.y.core.moment in
          let new-is = is-new g o in
          elim (At-set w.servers v.i next d.server z there) [
            | inl own ↦
                let has_f : HasEnd f.server d.at_server e = subst (λ (s : ServerSide). HasEnd s.core d.at_server e) own.1 has in
                let back = held-back v.y.core.circuits d.at_server g (Open fresh) (Open e) (subst (λ (s : Server). HasEnd s d.at_server e) accepts.1 has_f) in
                elim (At-snoc w.circuits (circuit g o) n d at) [
                  | inl old ↦
                      let seat = seated.each n d old opened in
                      let mine : seat.y ≡ v.y = At-one w.servers v.i seat.y v.y (subst (λ (m : ℕ). At w.servers m seat.y) own.0 seat.at) v.there.0 in
                      let had : HasEnd v.y.core d.at_server seat.e = subst (λ (s : ServerSide). HasEnd s.core d.at_server seat.e) mine seat.has in
                      elim back [
                        | inl this ↦ absurd (given-free v.y.core.circuits g (Open seat.e) accepts.0 (subst (λ (m : Handle). HasEnd v.y.core m seat.e) this.0 had))
                        | inr was ↦ all n d v.y e old (subst (λ (m : ℕ). At w.servers m v.y) (sym own.0) v.there.0) opened was
                      ]
                  | inr last ↦ elim back [
                    | inl this ↦
                        subst (λ (q : ServerEnd). P n q d) (sym (same-open e fresh this.1))
                        (subst (λ (q : Joined). P n fresh q) (sym last.1) (begins n v.y.core.moment (circuit g o) (let is : n ≡ length w.circuits = last.0 in omega (arith, is)) new-is.0))
                    | inr was ↦
                        absurd (given-free v.y.core.circuits g (Open e) accepts.0
                        (subst (λ (m : Handle). HasEnd v.y.core m e) (ap (λ (q : Joined). q.at_server) last.1 ∙ new-is.2) was))
                  ]
                ]
            | inr old ↦ elim (At-snoc w.circuits (circuit g o) n d at) [
              | inl on ↦ all n d z e on old.0 opened has
              | inr last ↦ absurd (old.1 (ap (λ (q : Joined). q.server) last.1 ∙ new-is.1))
            ]
          ]

      joined : (g : Handle) (o : Option Closing) (sent : List Sending) (core : Client) → Accepts v.y.core (Ok g) f.server → new ≡ client_after c x x.names (record { core = core; names = x.names; lines = lines_of history.OfCircuit x.names (closing_notices o); sent = sent }) (record (with_server v.i (record v.y { core = f.server }) w) { circuits = w.circuits ++ connected_as o (new_circuit c x v.v.circuit v.i v.y g) ∷ [] }) → AllEnds P new
      joined g o sent core accepts is =
          frame-lasts P k (made_by g o) new (sent-frame (made_by g o) new c x.names sent (ap (λ (z : World). z.servers) is) (ap (λ (z : World). z.server_logs) is) (ap (λ (z : World). z.circuits) is)) (made-all g o accepts)
