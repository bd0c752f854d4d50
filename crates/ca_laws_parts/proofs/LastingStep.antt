-- What holds of open ends and their circuits stays so: a finish, and a step of a server's end.
use Rattle.std.proofs.Common.{◌≡◌, ℕ, ◌⊎◌, inl, inr, Bool, true, false, cond, ◌&&◌, eqb, List, [], ◌∷◌, Option, Some, None, refl, sym, ap, subst, ◌∙◌}
use Rattle.std.specs.Prelude.{length, map, option_map, slice_get, slice_set, unwrap_or}
use Rattle.std.specs.List.{fold}
use Rattle.ca_arena.specs.declared.handle.Handle.{Handle}
use Rattle.ca_dbr.specs.Elements.{Elements}
use Rattle.ca_ids.specs.Table.{Table, under}
use Rattle.ca_model.proofs.Tables.{changed-other, changed-own, freed-back, handle-is, one-value}
use Rattle.ca_link.specs.Link.{with_rest, with_sent}
use Rattle.ca_queue.specs.declared.entry.SubKey.{SubKey}
use Rattle.ca_records.specs.Puts.{Record, WaitingPut}
use Rattle.ca_records.specs.declared.puts.Put.{Put}
use Rattle.ca_text.specs.Place.{At}
use Rattle.ca_text.proofs.Places.{some_is, At-map, At-mapped, At-one, At-set}
use Rattle.ca_wire.specs.Fields.{Fields}
use Rattle.ca_model.specs.Due.{Action, Applies, Due}
use Rattle.ca_model.specs.Due as action
use Rattle.ca_model.specs.Ends as why
use Rattle.ca_model.specs.Server.{Ended, Open, Server, ServerCircuit, ServerEnd}
use Rattle.ca_model.specs.ServerCalls.{Replies, after_next, finish_reply, lacking, with_finish}
use Rattle.ca_model.specs.ServerSteps.{Acts, HasEnd, LeftOf, Next, Reaches, Stepped, closed, is_write, knows, stored_now, with_end, write_mask}
use Rattle.ca_model.specs.ServerSteps as stepped
use Rattle.ca_model.specs.History.{Sent, Step}
use Rattle.ca_model.specs.ServerEvents.{Finished, HappensFinish, ServerStepped, StepHandles, StepLacks, acted, ending, ends_at, ends_by, ends_here, handled_at, logged, next_busy, next_numbers, numbers_after, numbers_posted, replied_at, reported, server_after, side_of, unsaid, with_number, without_puts, write_numbers}
use Rattle.ca_model.specs.ServerEvents as event
use Rattle.ca_model.specs.World.{Joined, PutPlace, ServerSide, World, with_circuit}
use Rattle.ca_laws_parts.specs.Moves.{finish_told}
use Rattle.ca_laws_parts.specs.Seats.{Seated, TakesSent}
use Rattle.ca_laws_parts.proofs.Cores.{each-there, records-stay}
use Rattle.ca_laws_parts.proofs.WritesEvents.{SameEnds, next-same, same-self, same-trans}
use Rattle.ca_laws_parts.proofs.Frames.{goes-self}
use Rattle.ca_laws_parts.proofs.Lasting.{AllEnds, EndsWere, Lasting, SameHeld, SameSeat, after-lasts, at-server, held-self, seat-of, told_late}
use Rattle.ca_laws_parts.proofs.LastingEvents.{as-before, mapped-one, one-end, other-posted, post-ends-last, were-closed}
use Rattle.ca_laws_parts.proofs.Midway.{set-here}
use Rattle.ca_laws_parts.proofs.WritesMoves.{same-or}
use Rattle.ca_laws_parts.proofs.Seats.{open-still}
use Rattle.ca_laws_parts.proofs.Waited.{numbers-after-same, write-numbers-same}

same-open : (a b : ServerEnd) → Open a ≡ Open b → a ≡ b
same-open a b is = cc

-- ---- each end that was open is open still, with what it held

abbrev pub EndsStay : (old new : Server) → Type 0
EndsStay old new = (h : Handle) (e : ServerEnd) → HasEnd old h e → (f : ServerEnd) × HasEnd new h f × SameHeld e f

stays-self : (old new : Server) → new.circuits ≡ old.circuits → EndsStay old new
stays-self old new is h e has = (e, subst (λ (t : Table ServerCircuit). under t h ≡ Some (Open e)) (sym is) has, held-self e)

handle-or : (g h : Handle) → (g ≡ h) ⊎ (g ≡ h → ⊥)
handle-or g h = elim (same-or g.index h.index) [
  | inr other ↦ inr (λ is. other (ap (λ (x : Handle). x.index) is))
  | inl one ↦ elim (same-or g.generation h.generation) [
    | inr other ↦ inr (λ is. other (ap (λ (x : Handle). x.generation) is))
    | inl two ↦ inl (handle-is g h one two)
  ]
]

stays-end : (y : Server) (h : Handle) (e d : ServerEnd) → HasEnd y h e → SameHeld e d → EndsStay y (with_end h d y)
stays-end y h e d has held g f there = elim (handle-or g h) [
  | inl is ↦
      let one : e ≡ f = one-end y h e f has (subst (λ (k : Handle). HasEnd y k f) is there) in
      (d, subst (λ (k : Handle). HasEnd (with_end h d y) k d) (sym is) (changed-own (λ (c : ServerCircuit). Open d) y.circuits h (Open e) has), subst (λ (x : ServerEnd). SameHeld x d) one held)
  | inr other ↦ (f, changed-other (λ (c : ServerCircuit). Open d) y.circuits g h (Open f) there other, held-self f)
]

replies-stay-held : (y : Server) (p : Put) (gone : Handle → Bool) (sent : List (Handle × Fields)) (new : Server) → Replies y p gone sent new → EndsStay y new
replies-stay-held y p gone sent new (inl said) =
    let e : ServerEnd = said.0 in
    subst (λ (x : Server). EndsStay y x) (sym said.3) (stays-end y p.circuit e (record e { link = with_sent (finish_reply p ∷ []) e.link }) said.1.0 (record { channels = refl; subscriptions = refl; queues = refl }))
replies-stay-held y p gone sent new (inr not) = stays-self y new (ap (λ (x : Server). x.circuits) not.2)

-- ---- a circuit on which a late reply went down, or none

pub replied-back : (p : PutPlace) (sent : List (Handle × Fields)) (t : World) (n : ℕ) (d : Joined) → At (replied_at p sent t).circuits n d
    → (c : Joined) × At t.circuits n c × ((d ≡ c) ⊎ (d ≡ told_late p.place (map (λ (x : Handle × Fields). x.1) sent) c))
replied-back p sent t n d = go (slice_get t.circuits p.circuit) refl
  where
    said : Joined → Joined
    said c = told_late p.place (map (λ (x : Handle × Fields). x.1) sent) c

    go : (o : Option Joined) → slice_get t.circuits p.circuit ≡ o → At (unwrap_or (option_map (λ (j : Joined). with_circuit p.circuit (said j) t) o) t).circuits n d → (c : Joined) × At t.circuits n c × ((d ≡ c) ⊎ (d ≡ said c))
    go None is at = (d, at, inl refl)
    go (Some j) is at = elim (At-set t.circuits p.circuit (said j) n d at) [
      | inl own ↦ (j, subst (λ (m : ℕ). At t.circuits m j) (sym own.0) is, inr own.1)
      | inr old ↦ (d, old.0, inl refl)
    ]

late-same : (place : ℕ) (ms : List Fields) (c : Joined) → SameEnds c (told_late place ms c)
late-same place ms c = record { server = refl; handle = refl; life = refl; up = refl; handled = refl; is_open = refl }

-- a server's sides after a finish is told
pub told-servers : (p : PutPlace) (sent : List (Handle × Fields)) (t : World) → (replied_at p sent t).servers ≡ t.servers
told-servers p sent t = go (slice_get t.circuits p.circuit)
  where
    go : (o : Option Joined) → (unwrap_or (option_map (λ (j : Joined). with_circuit p.circuit (told_late p.place (map (λ (x : Handle × Fields). x.1) sent) j) t) o) t).servers ≡ t.servers
    go None = refl
    go (Some j) = refl

-- ---- what a message does to an end, and then its write

-- an action is a write, or reaches nothing
reaches-or : (did : Action) → ((name : List ℕ) × (value : Elements) × (busies : Bool) × (did ≡ Applies name value busies))
    ⊎ (((gone : Handle → Bool) (y new : Server) → Reaches did gone y new → new ≡ y) × ((i : ℕ) (core : Server) (c : Joined) → write_numbers i core did c ≡ c) × (is_write did ≡ false))
reaches-or (Applies name value busies) = inl (name, value, busies, refl)
reaches-or (action.Waits name value) = inr (λ g y n r. r.1, λ i core c. refl, refl)
reaches-or (action.Clears sid) = inr (λ g y n r. r.1, λ i core c. refl, refl)
reaches-or action.Nothing = inr (λ g y n r. r.1, λ i core c. refl, refl)
reaches-or action.Greets = inr (λ g y n r. r.1, λ i core c. refl, refl)
reaches-or (action.Names x) = inr (λ g y n r. r.1, λ i core c. refl, refl)
reaches-or (action.Opens x) = inr (λ g y n r. r.1, λ i core c. refl, refl)
reaches-or (action.Adds x) = inr (λ g y n r. r.1, λ i core c. refl, refl)
reaches-or (action.Drops x) = inr (λ g y n r. r.1, λ i core c. refl, refl)
reaches-or (action.Switches x) = inr (λ g y n r. r.1, λ i core c. refl, refl)

-- numbers and lists are apart
handled-numbers : (place : ℕ) (step : Step) (replies : List Fields) (keys : List SubKey) (c : Joined) → fold with_number (handled_at place step replies c) keys ≡ handled_at place step replies (fold with_number c keys)
handled-numbers place step replies [] c = refl
handled-numbers place step replies (key ∷ keys) c = handled-numbers place step replies keys (with_number c key)

handled-posted : (i : ℕ) (core : Server) (name : List ℕ) (mask place : ℕ) (step : Step) (replies : List Fields) (c : Joined) → numbers_posted i core name mask (handled_at place step replies c) ≡ handled_at place step replies (numbers_posted i core name mask c)
handled-posted i core name mask place step replies c = go (eqb c.server i && c.lists.server_open)
  where
    keys : List SubKey
    keys = event.keys_concerned name mask (under core.circuits c.at_server)

    go : (b : Bool) → cond b (fold with_number (handled_at place step replies c) keys) (handled_at place step replies c) ≡ handled_at place step replies (cond b (fold with_number c keys) c)
    go true = handled-numbers place step replies keys c
    go false = refl

module _ (P : ℕ → ServerEnd → Joined → Type 0) (k : Lasting P) where
  -- ---- a finish

  next-ends-last : (n i : ℕ) (core mid : Server) (name : List ℕ) (ws : List WaitingPut) (gone : Handle → Bool) (c : Joined) (b e f : ServerEnd) → c.server ≡ i → c.lists.server_open ≡ true → HasEnd core c.at_server b
      → HasEnd mid c.at_server e → e.subscriptions ≡ b.subscriptions → P n e c → HasEnd (after_next name ws gone mid) c.at_server f → P n f (next_numbers i core name ws c)
  next-ends-last n i core mid name [] gone c b e f mine opened before has subs p after =
      go (gone c.at_server)
      (one-value (after_next name [] gone mid).circuits c.at_server (Open f) (lacking gone c.at_server (Open e)) after
      (each-there (lacking gone) mid.circuits c.at_server (Open e) has))
    where
      go : (x : Bool) → Open f ≡ cond x (Ended why.OutOfMemory e.link.output) (Open e) → P n f c
      go true is = absurd cc
      go false is = subst (λ (x : ServerEnd). P n x c) (sym (same-open f e is)) p
  next-ends-last n i core mid name (w ∷ ws) gone c b e f mine opened before has subs p after =
      post-ends-last P k n i core (stepped.counted mid) name write_mask (stored_now mid w.value) gone c b e f mine opened before has subs p after

  finished-lasts : (w new : World) (i : ℕ) (y : ServerSide) (name : List ℕ) → At w.servers i y → Finished w i y name new → Seated w → AllEnds P w → AllEnds P new
  finished-lasts w new i y name at f seated all =
      subst (λ (z : World). AllEnds P z) (sym f.leaves)
      (after-lasts P w i y f.core mid side (ends_by i f.core) at
      (λ n d there opened.
      let r = replied-back f.p f.sent told n d there in
      let c = At-mapped numbers w.circuits n r.0 r.1 in
      let same_c : SameEnds c.0 r.0 = subst (λ (x : Joined). SameEnds c.0 x) (sym c.2) (next-same i y.core name f.cr.waiting c.0) in
      let far : (c.0.server ≡ i → ⊥) → r.0 ≡ c.0 = λ other. c.2 ∙ not-numbered f.cr.waiting c.0 other in (
        c.0,
        c.1,
        elim r.2 [
          | inl is ↦ subst (λ (x : Joined). SameSeat c.0 x) (sym is) (seat-of c.0 r.0 same_c)
          | inr is ↦ subst (λ (x : Joined). SameSeat c.0 x) (sym is) (seat-of c.0 (late r.0) (same-trans c.0 r.0 (late r.0) same_c (late-same f.p.place ms r.0)))
        ],
        λ other e h. elim r.2 [
          | inl is ↦ subst (λ (x : Joined). P n e x) (sym (is ∙ far other)) h
          | inr is ↦ subst (λ (x : Joined). P n e x) (sym is) (k.replied n e r.0 f.p.place ms (subst (λ (x : Joined). P n e x) (sym (far other)) h))
        ],
      ))
      (λ j z there other. elim (At-set w.servers i side j z (subst (λ (l : List ServerSide). At l j z) (told-servers f.p f.sent told) there)) [ inl own ↦ absurd (other own.0) | inr old ↦ old.0 ])
      (λ n c d e x on there opened mine had p has.
      let r = replied-back f.p f.sent told n d there in
      let numbered : r.0 ≡ numbers c = mapped-one P k w numbers n c r.0 on r.1 in
      let same_c : SameEnds c r.0 = subst (λ (z : Joined). SameEnds c z) (sym numbered) (next-same i y.core name f.cr.waiting c) in
      let opened_c : c.lists.server_open ≡ true = sym same_c.is_open ∙ open-of r.0 d r.2 opened in
      let made = stays c.at_server e had in
      let q : P n x r.0 =
      subst (λ (z : Joined). P n x z) (sym numbered)
      (next-ends-last n i y.core f.finishes.1 name f.cr.waiting gone c e made.0 x mine opened_c had made.1 made.2.subscriptions (k.stays n e made.0 c c made.2 (goes-self c) p)
      (subst (λ (ws : List WaitingPut). HasEnd (after_next name ws gone f.finishes.1) c.at_server x) (ap (λ (z : Record). z.waiting) one_record) (subst (λ (z : Server). HasEnd z c.at_server x) f.finishes.3 has))) in
      elim r.2 [
        | inl is ↦ subst (λ (z : Joined). P n x z) (sym is) q
        | inr is ↦ subst (λ (z : Joined). P n x z) (sym is) (k.replied n x r.0 f.p.place ms q)
      ])
      seated all)
    where
      ms : List Fields
      ms = map (λ (x : Handle × Fields). x.1) f.sent

      late : Joined → Joined
      late c = told_late f.p.place ms c

      gone : Handle → Bool
      gone = f.finishes.0.gone

      one_record : f.finishes.0.r ≡ f.cr
      one_record = some_is f.finishes.0.r f.cr (sym f.finishes.0.named ∙ f.named)

      side : ServerSide
      side = record y { records = event.with_record name next_busy y.records }

      told : World
      told = finish_told w i y name f.cr f.r f.p

      mid : World
      mid = replied_at f.p f.sent told

      numbers : Joined → Joined
      numbers = next_numbers i y.core name f.cr.waiting

      not-numbered : (ws : List WaitingPut) (c : Joined) → (c.server ≡ i → ⊥) → next_numbers i y.core name ws c ≡ c
      not-numbered [] c other = refl
      not-numbered (x ∷ ws) c other = other-posted P k i y.core name write_mask c other

      open-of : (c d : Joined) → (d ≡ c) ⊎ (d ≡ late c) → d.lists.server_open ≡ true → c.lists.server_open ≡ true
      open-of c d (inl is) opened = ap (λ (z : Joined). z.lists.server_open) (sym is) ∙ opened
      open-of c d (inr is) opened = ap (λ (z : Joined). z.lists.server_open) (sym is) ∙ opened

      stays : EndsStay y.core f.finishes.1
      stays h e had = replies-stay-held (with_finish name f.finishes.0.r y.core) f.finishes.0.p gone f.sent f.finishes.1 f.finishes.2 h e had

  pub finish-lasts : (w new : World) (i : ℕ) (y : ServerSide) (name : List ℕ) → At w.servers i y → HappensFinish w i y name new → Seated w → AllEnds P w → AllEnds P new
  finish-lasts w new i y name at (inl f) seated all = finished-lasts w new i y name at f seated all
  finish-lasts w new i y name at (inr refused) seated all = subst (λ (z : World). AllEnds P z) (sym refused.2) all

  -- ---- a step that closes its circuit

  -- other ends after the next message of an end
  next-others : (y : Server) (h : Handle) (e : ServerEnd) (next : Next y h e) (g : Handle) (f : ServerEnd) → (g ≡ h → ⊥) → HasEnd y g f → HasEnd next.after g f
  next-others y h e next g f apart has =
      let made = next.handles in
      let circuits = records-stay y h (record e { link = with_rest next.rest e.link }) next.m next.action made.recorded made.records in
      let d : ServerEnd = record made.acted { link = with_sent next.replies made.acted.link } in
      let there : HasEnd made.recorded g f = subst (λ (t : Table ServerCircuit). under t g ≡ Some (Open f)) (sym circuits) has in
      subst (λ (x : Server). HasEnd x g f) (sym made.leaves) (changed-other (λ (c : ServerCircuit). Open d) made.recorded.circuits g h (Open f) there apart)

  -- and its own
  next-own : (y : Server) (h : Handle) (e : ServerEnd) (next : Next y h e) → HasEnd y h e → HasEnd next.after h (record next.handles.acted { link = with_sent next.replies next.handles.acted.link })
  next-own y h e next has =
      let made = next.handles in
      let circuits = records-stay y h (record e { link = with_rest next.rest e.link }) next.m next.action made.recorded made.records in
      let d : ServerEnd = record made.acted { link = with_sent next.replies made.acted.link } in
      let there : HasEnd made.recorded h e = subst (λ (t : Table ServerCircuit). under t h ≡ Some (Open e)) (sym circuits) has in
      subst (λ (x : Server). HasEnd x h d) (sym made.leaves) (changed-own (λ (c : ServerCircuit). Open d) made.recorded.circuits h (Open e) there)

  -- a circuit of this server whose message this is not
  others-last : (n : ℕ) (y : Server) (i : ℕ) (h : Handle) (e : ServerEnd) (next : Next y h e) (gone : Handle → Bool) (core : Server) (c : Joined) (b f : ServerEnd) → Reaches next.action gone next.after core → c.server ≡ i → c.lists.server_open ≡ true
      → (c.at_server ≡ h → ⊥) → HasEnd y c.at_server b → P n b c → HasEnd core c.at_server f → P n f (write_numbers i y next.action c)
  others-last n y i h e next gone core c b f reaches mine opened apart has p after = elim (reaches-or next.action) [
    | inl writes ↦
        let name : List ℕ = writes.0 in
        let r = subst (λ (a : Action). Reaches a gone next.after core) writes.3 reaches in
        subst (λ (a : Action). P n f (write_numbers i y a c)) (sym writes.3)
        (post-ends-last P k n i y next.after name write_mask (stored_now next.after writes.1) gone c b b f mine opened has (next-others y h e next c.at_server b apart has) refl p
        (subst (λ (x : Server). HasEnd x c.at_server f) r.1 after))
    | inr quiet ↦
        let same : core ≡ next.after = quiet.0 gone next.after core reaches in
        let one : b ≡ f = one-end next.after c.at_server b f (next-others y h e next c.at_server b apart has) (subst (λ (x : Server). HasEnd x c.at_server f) same after) in
        subst (λ (d : Joined). P n f d) (sym (quiet.1 i y c)) (subst (λ (x : ServerEnd). P n x c) one p)
  ]

  -- what a circuit is after a message was handled, before that is noted
  acted-from : (w : World) (m : ℕ) (j : Joined) (y : ServerSide) (did : Action) → At w.circuits m j → (n : ℕ) (d : Joined) → At (acted m j y did w).circuits n d
      → ((n ≡ m) × (d ≡ write_numbers j.server y.core did (numbers_after (length j.lists.handled) did j)))
      ⊎ ((n ≡ m → ⊥) × ((c : Joined) × At w.circuits n c × (d ≡ write_numbers j.server y.core did c)))
  acted-from w m j y did at n d there =
      let f : Joined → Joined = write_numbers j.server y.core did in
      let x = At-mapped f (slice_set w.circuits m (numbers_after (length j.lists.handled) did j)) n d there in
      elim (At-set w.circuits m (numbers_after (length j.lists.handled) did j) n x.0 x.1) [
        | inl own ↦ inl (own.0, x.2 ∙ ap f own.1)
        | inr old ↦ inr (old.1, (x.0, old.0, x.2))
      ]

  not-written : (i : ℕ) (core : Server) (did : Action) (c : Joined) → (c.server ≡ i → ⊥) → write_numbers i core did c ≡ c
  not-written i core did c other = elim (reaches-or did) [
    | inl writes ↦ subst (λ (a : Action). write_numbers i core a c ≡ c) (sym writes.3) (other-posted P k i core writes.0 write_mask c other)
    | inr quiet ↦ quiet.1 i core c
  ]

  written-seat : (i : ℕ) (core : Server) (did : Action) (c d : Joined) → d ≡ write_numbers i core did c → SameSeat c d
  written-seat i core did c d is = subst (λ (x : Joined). SameSeat c x) (sym is) (seat-of c (write_numbers i core did c) (write-numbers-same i core did c))

  acted-servers : (w : World) (m : ℕ) (j : Joined) (y : ServerSide) (did : Action) (l : ℕ) (z : ServerSide) → At (acted m j y did w).servers l z → (l ≡ j.server → ⊥) → At w.servers l z
  acted-servers w m j y did l z there other = elim (At-set w.servers j.server _ l z there) [ inl own ↦ absurd (other own.0) | inr old ↦ old.0 ]

  closed-apart : (h : Handle) (made core : Server) (g : Handle) (f : ServerEnd) → core ≡ closed h made → HasEnd core g f → (g ≡ h → ⊥) × HasEnd made g f
  closed-apart h made core g f is has = freed-back made.circuits g h (Open f) (subst (λ (x : Server). HasEnd x g f) is has)

  bad-lasts : (w : World) (m : ℕ) (j : Joined) (y side : ServerSide) (ends : Joined → Option (List ℕ)) (core : Server) → At w.servers j.server y → core ≡ closed j.at_server y.core → Seated w → AllEnds P w → AllEnds P (server_after j.server side ends core w)
  bad-lasts w m j y side ends core at is seated all =
      after-lasts P w j.server y core w side ends at (λ n d on opened. (d, on, seat-of d d (same-self d), λ other e h. h)) (λ i z there other. there)
      (λ n c d e x on there opened mine had p has.
      let same : d ≡ c = At-one w.circuits n d c there on in
      subst (λ (z : Joined). P n x z) (sym same) (as-before P k n c e x y.core core had p (subst (λ (z : Server). EndsWere y.core z) (sym is) (were-closed y.core j.at_server)) has))
      seated all

  lacks-lasts : (w new : World) (m : ℕ) (j : Joined) (y : ServerSide) (left : List ℕ) → At w.circuits m j → At w.servers j.server y → StepLacks w m j y left new → Seated w → AllEnds P w → AllEnds P new
  lacks-lasts w new m j y left at server f seated all = subst (λ (z : World). AllEnds P z) (sym f.leaves) (go f.lacks.written f.lacks.mid f.lacks.left_is f.lacks.leaves)
    where
      i : ℕ
      i = j.server

      go : (o : Option (Handle → Bool)) (made : Server) → LeftOf f.lacks.next o made → f.core ≡ closed j.at_server made
          → AllEnds P (server_after i (side_of i y (unsaid m j y f.lacks.next.action o w)) (ends_here j left i f.core) f.core (unsaid m j y f.lacks.next.action o w))
      go None made same is =
          bad-lasts w m j y (side_of i y w) (ends_here j left i f.core) f.core server (is ∙ ap (λ (x : Server). closed j.at_server x) same) seated all
      go (Some gone) made wrote is =
          after-lasts P w i y f.core (acted m j y f.lacks.next.action w) (side_of i y (acted m j y f.lacks.next.action w)) (ends_here j left i f.core) server
          (λ n d there opened. elim (acted-from w m j y f.lacks.next.action at n d there) [
            | inl own ↦
                let a = numbers-after-same (length j.lists.handled) f.lacks.next.action j in
                let numbers : Joined = numbers_after (length j.lists.handled) f.lacks.next.action j in (
                  j,
                  subst (λ (z : ℕ). At w.circuits z j) (sym own.0) at,
                  subst (λ (z : Joined). SameSeat j z) (sym own.1) (seat-of j (write_numbers i y.core f.lacks.next.action numbers) (same-trans j numbers (write_numbers i y.core f.lacks.next.action numbers) a (write-numbers-same i y.core f.lacks.next.action numbers))),
                  λ other. absurd (other refl),
                )
            | inr old ↦ (
              old.1.0,
              old.1.1,
              written-seat i y.core f.lacks.next.action old.1.0 d old.1.2,
              λ other e h. subst (λ (z : Joined). P n e z) (sym (old.1.2 ∙ not-written i y.core f.lacks.next.action old.1.0 other)) h,
            )
          ])
          (λ l z there other. acted-servers w m j y f.lacks.next.action l z there other)
          (λ n c d e x on there opened mine had p has.
          let apart = closed-apart j.at_server made f.core c.at_server x is has in
          elim (acted-from w m j y f.lacks.next.action at n d there) [
            | inl own ↦
                let one : c ≡ j = At-one w.circuits m c j (subst (λ (z : ℕ). At w.circuits z c) own.0 on) at in
                absurd (apart.0 (ap (λ (z : Joined). z.at_server) one))
            | inr old ↦
                let one : old.1.0 ≡ c = At-one w.circuits n old.1.0 c old.1.1 on in
                let is_d : d ≡ write_numbers i y.core f.lacks.next.action c = old.1.2 ∙ ap (λ (z : Joined). write_numbers i y.core f.lacks.next.action z) one in
                let opened_c : c.lists.server_open ≡ true = sym (written-seat i y.core f.lacks.next.action c d is_d).is_open ∙ opened in
                subst (λ (z : Joined). P n x z) (sym is_d)
                (others-last n y.core i j.at_server f.e f.lacks.next gone made c e x wrote.1 mine opened_c apart.0 had p apart.1)
          ])
          seated all

  -- ---- a step that handles a message

  -- The message that is handled next on circuit m, whose end this server has, keeps it.
  abbrev pub HandledHere : (m : ℕ) → Joined → Server → Type 0
  HandledHere m j y = (e taken new : ServerEnd) (s : Sent) (replies : List Fields) (did : Action) (step : Step) → HasEnd y j.at_server e → SameHeld e taken
      → At j.lists.up (length j.lists.handled) s → Due (knows y taken) s.message replies did → Acts y taken did new → P m e j
      → P m new (handled_at (length j.lists.handled) step replies (numbers_after (length j.lists.handled) did j))

  own-last : (n : ℕ) (y : Server) (i : ℕ) (j : Joined) (e : ServerEnd) (next : Next y j.at_server e) (gone : Handle → Bool) (core : Server) (f : ServerEnd) (s : Sent) (step : Step) → HandledHere n j y → At j.lists.up (length j.lists.handled) s → s.message ≡ next.m
      → Reaches next.action gone next.after core → j.server ≡ i → j.lists.server_open ≡ true → HasEnd y j.at_server e → P n e j → HasEnd core j.at_server f
      → P n f (handled_at (length j.lists.handled) step next.replies (write_numbers i y next.action (numbers_after (length j.lists.handled) next.action j)))
  own-last n y i j e next gone core f s step law sent is reaches mine opened has p after = elim (reaches-or next.action) [
    | inl writes ↦
        let name : List ℕ = writes.0 in
        let r = subst (λ (a : Action). Reaches a gone next.after core) writes.3 reaches in
        let acts : made.acted ≡ taken = subst (λ (a : Action). Acts y taken a made.acted) writes.3 made.acts in
        let q : P n d (handled_at place step next.replies j) = subst (λ (a : Action). P n d (handled_at place step next.replies (numbers_after place a j))) writes.3 handled in
        subst (λ (a : Action). P n f (handled_at place step next.replies (write_numbers i y a (numbers_after place a j)))) (sym writes.3)
        (subst (λ (c : Joined). P n f c) (handled-posted i y name write_mask place step next.replies j)
        (post-ends-last P k n i y next.after name write_mask (stored_now next.after writes.1) gone (handled_at place step next.replies j) e d f mine opened has (next-own y j.at_server e next has)
        (ap (λ (x : ServerEnd). x.subscriptions) acts) q (subst (λ (x : Server). HasEnd x j.at_server f) r.1 after)))
    | inr quiet ↦
        let same : core ≡ next.after = quiet.0 gone next.after core reaches in
        let one : d ≡ f = one-end next.after j.at_server d f (next-own y j.at_server e next has) (subst (λ (x : Server). HasEnd x j.at_server f) same after) in
        subst (λ (c : Joined). P n f (handled_at place step next.replies c)) (sym (quiet.1 i y (numbers_after place next.action j)))
        (subst (λ (x : ServerEnd). P n x (handled_at place step next.replies (numbers_after place next.action j))) one handled)
  ]
    where
      made : stepped.Handles y j.at_server (record e { link = with_rest next.rest e.link }) next.m next.replies next.action next.after
      made = next.handles

      place : ℕ
      place = length j.lists.handled

      taken : ServerEnd
      taken = record e { link = with_rest next.rest e.link }

      d : ServerEnd
      d = record made.acted { link = with_sent next.replies made.acted.link }

      due : Due (knows y taken) s.message next.replies next.action
      due = subst (λ (m : Fields). Due (knows y taken) m next.replies next.action) (sym is) made.due

      acted-p : P n made.acted (handled_at place step next.replies (numbers_after place next.action j))
      acted-p = law e taken made.acted s next.replies next.action step has (record { channels = refl; subscriptions = refl; queues = refl }) sent due made.acts p

      handled : P n d (handled_at place step next.replies (numbers_after place next.action j))
      handled = k.stays n made.acted d (handled_at place step next.replies (numbers_after place next.action j)) (handled_at place step next.replies (numbers_after place next.action j)) (record { channels = refl; subscriptions = refl; queues = refl }) (goes-self (handled_at place step next.replies (numbers_after place next.action j))) acted-p

  handles-lasts : (w new : World) (m : ℕ) (j : Joined) (y : ServerSide) → HandledHere m j y.core → At w.circuits m j → At w.servers j.server y → j.lists.server_open ≡ true → TakesSent w → StepHandles w m j y new → Seated w → AllEnds P w → AllEnds P new
  handles-lasts w new m j y law at server opened_j takes f seated all =
      subst (λ (z : World). AllEnds P z) (sym new-is)
      (at-server P w i y f.core (with_circuit m noted_last after) server
      (λ n d there opened. elim (from n d there opened) [
        | inl own ↦ (
          j,
          subst (λ (z : ℕ). At w.circuits z j) (sym own.0) at,
          subst (λ (z : Joined). SameSeat j z) (sym own.1) (record { server = moved-same.server; handle = moved-same.handle; is_open = moved-same.is_open }),
          λ other. absurd (other refl),
        )
        | inr old ↦ (
          old.1.0,
          old.1.1,
          written-seat i y.core did old.1.0 d old.1.2,
          λ other e h. subst (λ (z : Joined). P n e z) (sym (old.1.2 ∙ not-written i y.core did old.1.0 other)) h,
        )
      ])
      (λ l z there. elim (At-set mid.servers i (record (side_of i y mid) { core = reported f.core; records = map (without_puts (ends_at (ends_by i f.core) mid.circuits)) (side_of i y mid).records }) l z there) [
        | inl own ↦ inl (own.0, ap (λ (s : ServerSide). s.core) own.1)
        | inr old ↦ inr (acted-servers w m j y did l z old.0 old.1, old.1)
      ])
      (λ n c d e x on there opened mine had p has. elim (from n d there opened) [
        | inl own ↦
            let one : c ≡ j = At-one w.circuits m c j (subst (λ (z : ℕ). At w.circuits z c) own.0 on) at in
            let e_is : e ≡ f.e = one-end y.core j.at_server e f.e (subst (λ (z : Joined). HasEnd y.core z.at_server e) one had) f.has in
            let sent = takes m j y f.e next.m next.rest at server opened_j f.has next.takes in
            subst (λ (z : Joined). P n x z) (sym own.1)
            (own-last n y.core i j f.e next gone f.core x sent.0 step (subst (λ (q : ℕ). HandledHere q j y.core) (sym own.0) law) sent.1 sent.2 f.steps.3 refl opened_j f.has (subst (λ (z : ServerEnd). P n z j) e_is (subst (λ (z : Joined). P n e z) one p))
            (subst (λ (z : Joined). HasEnd f.core z.at_server x) one has))
        | inr old ↦
            let one : old.1.0 ≡ c = At-one w.circuits n old.1.0 c old.1.1 on in
            let is_d : d ≡ write_numbers i y.core did c = old.1.2 ∙ ap (λ (z : Joined). write_numbers i y.core did z) one in
            let opened_c : c.lists.server_open ≡ true = sym (written-seat i y.core did c d is_d).is_open ∙ opened in
            let apart : c.at_server ≡ j.at_server → ⊥ = λ handles. old.0 (seated.one n m c j on at mine opened_c opened_j handles) in
            subst (λ (z : Joined). P n x z) (sym is_d) (others-last n y.core i j.at_server f.e next gone f.core c e x f.steps.3 mine opened_c apart had p has)
      ])
      seated all)
    where
      next : Next y.core j.at_server f.e
      next = f.steps.0

      gone : Handle → Bool
      gone = f.steps.1

      did : Action
      did = next.action

      i : ℕ
      i = j.server

      place : ℕ
      place = length j.lists.handled

      mid : World
      mid = acted m j y did w

      after : World
      after = server_after i (side_of i y mid) (ends_by i f.core) f.core mid

      moved : Joined
      moved = write_numbers i y.core did (numbers_after place did j)

      moved-same : SameEnds j moved
      moved-same = same-trans j (numbers_after place did j) moved (numbers-after-same place did j) (write-numbers-same i y.core did (numbers_after place did j))

      last : Joined
      last = ending (ends_by i f.core) moved

      step : Step
      step = record { sent = length j.lists.down; logged = logged y w; after = logged y after }

      noted_last : Joined
      noted_last = handled_at place step next.replies last

      there_last : At after.circuits m last
      there_last =
          At-map (ending (ends_by i f.core)) mid.circuits m moved
          (At-map (write_numbers i y.core did) (slice_set w.circuits m (numbers_after place did j)) m (numbers_after place did j) (set-here w.circuits m j (numbers_after place did j) at))

      new-is : new ≡ with_circuit m noted_last after
      new-is = f.leaves ∙ ap (λ (o : Option Joined). unwrap_or (option_map (λ (c : Joined). with_circuit m (handled_at place step next.replies c) after) o) after) there_last

      -- a circuit that is open now
      from : (n : ℕ) (d : Joined) → At (with_circuit m noted_last after).circuits n d → d.lists.server_open ≡ true
          → ((n ≡ m) × (d ≡ handled_at place step next.replies moved)) ⊎ ((n ≡ m → ⊥) × ((c : Joined) × At w.circuits n c × (d ≡ write_numbers i y.core did c)))
      from n d there opened = elim (At-set after.circuits m noted_last n d there) [
        | inl own ↦
            let still = open-still (ends_by i f.core) moved last refl (ap (λ (z : Joined). z.lists.server_open) (sym own.1) ∙ opened) in
            inl (own.0, own.1 ∙ ap (λ (z : Joined). handled_at place step next.replies z) still.1)
        | inr old ↦
            let x = At-mapped (ending (ends_by i f.core)) mid.circuits n d old.0 in
            let still = open-still (ends_by i f.core) x.0 d x.2 opened in
            elim (acted-from w m j y did at n x.0 x.1) [
              | inl own ↦ absurd (old.1 own.0)
              | inr was ↦ inr (old.1, (was.1.0, was.1.1, still.1 ∙ was.1.2))
            ]
      ]

  pub step-lasts : (w new : World) (m : ℕ) (j : Joined) (y : ServerSide) (did : Stepped) → HandledHere m j y.core → At w.circuits m j → At w.servers j.server y → j.lists.server_open ≡ true → TakesSent w → ServerStepped w m j y did new → Seated w → AllEnds P w → AllEnds P new
  step-lasts w new m j y stepped.Handled law at server opened takes f seated all = handles-lasts w new m j y law at server opened takes f seated all
  step-lasts w new m j y stepped.NeedBytes law at server opened takes f seated all = subst (λ (z : World). AllEnds P z) (sym f.3) all
  step-lasts w new m j y stepped.OutputFull law at server opened takes f seated all = subst (λ (z : World). AllEnds P z) (sym f.3) all
  step-lasts w new m j y (stepped.Closed why.OutOfMemory left) law at server opened takes f seated all = lacks-lasts w new m j y left at server f seated all
  step-lasts w new m j y (stepped.Closed cause left) law at server opened takes f seated all =
      subst (λ (z : World). AllEnds P z) (sym f.3) (bad-lasts w m j y y (ends_here j left j.server y.core) (closed j.at_server y.core) server refl seated all)
