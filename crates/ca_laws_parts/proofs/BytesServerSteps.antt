-- A step of a server's end keeps bytes as messages: it handles the message that comes first,
-- or closes its circuit.
use Rattle.std.proofs.Common.{◌≡◌, ℕ, ◌+◌, inl, inr, Bool, true, false, ◌&&◌, cond, eqb, List, [], ◌∷◌, ◌++◌, Option, Some, None, refl, sym, ap, ◌∙◌, subst}
use Rattle.std.specs.Prelude.{is_some, length, map, option_map, slice_get, slice_set, unwrap_or}
use Rattle.std.proofs.lemmas.Bool.{and_from, eq-eqb, eqb-true}
use Rattle.std.proofs.lemmas.List.{append-nil, length-append}
use Rattle.ca_arena.specs.declared.handle.Handle.{Handle}
use Rattle.ca_ids.specs.Table.{same_handle, under}
use Rattle.ca_text.specs.Place.{At}
use Rattle.ca_text.proofs.Places.{At-map, At-mapped, At-one, At-set, At-set-other}
use Rattle.ca_wire.specs.Fields.{Fields}
use Rattle.ca_wire.specs.Message.{spelled}
use Rattle.ca_model.specs.Due.{Action, Applies}
use Rattle.ca_model.specs.Due as action
use Rattle.ca_model.specs.Ends as why
use Rattle.ca_model.specs.History.{Reply, Step, Told}
use Rattle.ca_model.specs.Server.{Ended, Open, Server, ServerCircuit, ServerEnd}
use Rattle.ca_model.specs.ServerSteps.{HasEnd, LeftOf, Next, Stepped, closed}
use Rattle.ca_model.specs.ServerSteps as stepped
use Rattle.ca_model.specs.ServerEvents.{ServerStepped, StepHandles, StepLacks, about, acted, ending, ends_at, ends_by, ends_here, handled_at, left_by, logged, numbers_after, records_after, reported, server_after, server_closed, side_of, unsaid, without_puts, write_numbers}
use Rattle.ca_model.specs.World.{Joined, ServerSide, World, with_circuit}
use Rattle.ca_model.proofs.Handles.{same-itself, same-not}
use Rattle.ca_model.proofs.Tables.{all-freed-there, freed-back, freed-other}
use Rattle.ca_model.proofs.Placed.{options-agree}
use Rattle.ca_model.proofs.Thinner.{number-or}
use Rattle.ca_laws_parts.specs.Seats.{Seated}
use Rattle.ca_laws_parts.proofs.Midway.{set-here}
use Rattle.ca_laws_parts.specs.Worlds.{AllStream, sent_down, server_end}
use Rattle.ca_laws_parts.proofs.Clients.{map-both}
use Rattle.ca_laws_parts.proofs.ServerEnds.{Goes, Stays, go-same, go-then, next-others, next-own, reaches-go, reaches-stays}
use Rattle.ca_laws_parts.proofs.ServerEvents.{posted-tells}
use Rattle.ca_laws_parts.proofs.BytesServers.{Like, Tells, by-core, circuit-ends, goes-ends, not-open, seat-of, server-event, server-took, tells-itself, tells-then}
use Rattle.ca_laws_parts.proofs.Streaming.{Acts}

-- ---- numbers

after-tells : (place : ℕ) (did : Action) (j : Joined) → Tells j (numbers_after place did j) []
after-tells place (Applies name value busies) j = tells-itself j
after-tells place (action.Waits name value) j = tells-itself j
after-tells place (action.Clears sid) j = record { like = record { client = refl; server = refl; handle = refl; life = refl; side = λ x. refl; up = refl }; is_open = refl; left = refl; handled = refl; said = sym (append-nil (sent_down j)) }
after-tells place action.Nothing j = tells-itself j
after-tells place action.Greets j = tells-itself j
after-tells place (action.Names x) j = tells-itself j
after-tells place (action.Opens x) j = record { like = record { client = refl; server = refl; handle = refl; life = refl; side = λ x. refl; up = refl }; is_open = refl; left = refl; handled = refl; said = sym (append-nil (sent_down j)) }
after-tells place (action.Adds x) j = record { like = record { client = refl; server = refl; handle = refl; life = refl; side = λ x. refl; up = refl }; is_open = refl; left = refl; handled = refl; said = sym (append-nil (sent_down j)) }
after-tells place (action.Drops x) j = record { like = record { client = refl; server = refl; handle = refl; life = refl; side = λ x. refl; up = refl }; is_open = refl; left = refl; handled = refl; said = sym (append-nil (sent_down j)) }
after-tells place (action.Switches x) j = record { like = record { client = refl; server = refl; handle = refl; life = refl; side = λ x. refl; up = refl }; is_open = refl; left = refl; handled = refl; said = sym (append-nil (sent_down j)) }

write-tells : (i : ℕ) (core : Server) (did : Action) (j : Joined) → Tells j (write_numbers i core did j) []
write-tells i core (Applies name value busies) j = posted-tells i core name 3 j
write-tells i core (action.Waits name value) j = tells-itself j
write-tells i core (action.Clears sid) j = tells-itself j
write-tells i core action.Nothing j = tells-itself j
write-tells i core action.Greets j = tells-itself j
write-tells i core (action.Names x) j = tells-itself j
write-tells i core (action.Opens x) j = tells-itself j
write-tells i core (action.Adds x) j = tells-itself j
write-tells i core (action.Drops x) j = tells-itself j
write-tells i core (action.Switches x) j = tells-itself j

-- circuits midway in such a step tell nothing
pub acted-tells : (w : World) (k : ℕ) (j : Joined) (y : ServerSide) (did : Action) → At w.circuits k j → (n : ℕ) (m : Joined) → At (acted k j y did w).circuits n m → (c : Joined) × At w.circuits n c × Tells c m []
acted-tells w k j y did at n m there =
    let d : Joined = numbers_after (length j.lists.handled) did j in
    let f : Joined → Joined = write_numbers j.server y.core did in
    let a = At-mapped f (slice_set w.circuits k d) n m there in
    elim (At-set w.circuits k d n a.0 a.1) [
      | inl here ↦ (
        j,
        subst (λ (l : ℕ). At w.circuits l j) (sym here.0) at,
        subst (λ (z : Joined). Tells j z []) (sym a.2) (subst (λ (z : Joined). Tells j (f z) []) (sym here.1) (tells-then j d (f d) [] [] (after-tells (length j.lists.handled) did j) (write-tells j.server y.core did d))),
      )
      | inr old ↦ (a.0, old.0, subst (λ (z : Joined). Tells a.0 z []) (sym a.2) (write-tells j.server y.core did a.0))
    ]

-- ---- a message is handled

-- what is noted of circuit k, which is there
pub noted-is : (k : ℕ) (place : ℕ) (g : Step) (replies : List Fields) (w : World) (c : Joined) → At w.circuits k c
    → unwrap_or (option_map (λ (c : Joined). with_circuit k (handled_at place g replies c) w) (slice_get w.circuits k)) w ≡ with_circuit k (handled_at place g replies c) w
noted-is k place g replies w c at = ap (λ (o : Option Joined). unwrap_or (option_map (λ (c : Joined). with_circuit k (handled_at place g replies c) w) o) w) at

pub map-about : (place : ℕ) (ms : List Fields) → map (λ (t : Told). t.message) (about place Reply ms) ≡ ms
map-about place [] = refl
map-about place (m ∷ ms) = ap (λ (l : List Fields). m ∷ l) (map-about place ms)

module _ (w : World) (k : ℕ) (j : Joined) (y : ServerSide) (on : At w.circuits k j) (at : At w.servers j.server y) (opened : j.lists.server_open ≡ true) (seated : Seated w) (all : AllStream w) where
  -- an open end of another circuit of the server has another handle
  apart : (n : ℕ) (c : Joined) → At w.circuits n c → (n ≡ k → ⊥) → c.server ≡ j.server → c.lists.server_open ≡ true → c.at_server ≡ j.at_server → ⊥
  apart n c there other mine is_open same = other (seated.one n k c j there on mine is_open opened same)

  next-go : (e : ServerEnd) (next : Next y.core j.at_server e) (gone : Handle → Bool) (core : Server) → stepped.Reaches next.action gone next.after core → (g : Handle) → (g ≡ j.at_server → ⊥) → Goes y.core core g []
  next-go e next gone core reaches g other = go-then y.core next.after core g [] [] (next-others y.core j.at_server e next g other) (reaches-go next.action gone next.after core reaches g)

  pub handled-streams : (new : World) → StepHandles w k j y new → AllStream new
  handled-streams new f = subst (λ (v : World). AllStream v) (sym (f.leaves ∙ noted-is k (length j.lists.handled) g next.replies ended own own-there)) (server-event w after j.server y z at now others refl back all)
    where
      next : Next y.core j.at_server f.e
      next = f.steps.0

      mid : World
      mid = acted k j y next.action w

      ends : Joined → Option (List ℕ)
      ends = ends_by j.server f.core

      ended : World
      ended = server_after j.server (side_of j.server y mid) ends f.core mid

      g : Step
      g = record { sent = length j.lists.down; logged = logged y w; after = logged y ended }

      z : ServerSide
      z = record (side_of j.server y mid) { core = reported f.core; records = map (without_puts (ends_at ends mid.circuits)) (side_of j.server y mid).records }

      -- the circuit midway
      midway : Joined
      midway = write_numbers j.server y.core next.action (numbers_after (length j.lists.handled) next.action j)

      midway-there : At mid.circuits k midway
      midway-there =
          At-map (write_numbers j.server y.core next.action) (slice_set w.circuits k (numbers_after (length j.lists.handled) next.action j)) k (numbers_after (length j.lists.handled) next.action j)
          (set-here w.circuits k j (numbers_after (length j.lists.handled) next.action j) on)

      midway-tells : Tells j midway []
      midway-tells =
          tells-then j (numbers_after (length j.lists.handled) next.action j) midway [] [] (after-tells (length j.lists.handled) next.action j)
          (write-tells j.server y.core next.action (numbers_after (length j.lists.handled) next.action j))

      own : Joined
      own = ending ends midway

      own-there : At ended.circuits k own
      own-there = At-map (ending ends) mid.circuits k midway midway-there

      after : World
      after = with_circuit k (handled_at (length j.lists.handled) g next.replies own) ended

      side : ServerSide
      side = record y { records = records_after y.core j.at_server (record { circuit = k; place = length j.lists.handled }) next.action y.records }

      now : At after.servers j.server z
      now = set-here mid.servers j.server side z (set-here w.servers j.server y side at)

      others : (l : ℕ) (s : ServerSide) → At w.servers l s → (l ≡ j.server → ⊥) → At after.servers l s
      others l s there other = At-set-other mid.servers j.server l s z (At-set-other w.servers j.server l s side there other) other

      -- the end that handled it
      first : (d : ServerEnd) × HasEnd next.after j.at_server d × (d.link.input.bytes ≡ next.rest) × (d.link.output ≡ f.e.link.output ++ spelled next.replies)
      first = next-own y.core j.at_server f.e f.has next

      last : Stays next.after f.core j.at_server first.0 []
      last = reaches-stays next.action f.steps.1 next.after f.core f.steps.3 j.at_server f.steps.2 first.0 first.1

      stays : own ≡ midway
      stays =
          ap (λ (o : Option (List ℕ)). unwrap_or (option_map (λ (left : List ℕ). server_closed left midway) o) midway)
          (by-core j.server f.core midway midway-tells.like.server (midway-tells.is_open ∙ opened)
          ∙ ap (λ (h : Handle). left_by (under f.core.circuits h)) midway-tells.like.handle
          ∙ ap (λ (o : Option ServerCircuit). left_by o) last.1)

      noted : Joined
      noted = handled_at (length j.lists.handled) g next.replies midway

      handled-like : Like j noted
      handled-like = record { client = midway-tells.like.client; server = midway-tells.like.server; handle = midway-tells.like.handle; life = midway-tells.like.life; side = midway-tells.like.side; up = midway-tells.like.up }

      handled-acts : Acts (server_end y j) (server_end z noted)
      handled-acts =
          let there : HasEnd z.core noted.at_server last.0 =
          subst (λ (h : Handle). HasEnd z.core h last.0) (sym midway-tells.like.handle) (all-freed-there (λ (v : ServerCircuit). is_some (left_by (Some v))) f.core.circuits j.at_server (Open last.0) last.1 refl) in
          server-took y z j noted next.replies f.e last.0 next.m next.takes.0 opened (midway-tells.is_open ∙ opened)
          (map-both (λ (t : Told). t.message) midway.lists.down (about (length j.lists.handled) Reply next.replies)
          ∙ ap (λ (l : List Fields). sent_down midway ++ l) (map-about (length j.lists.handled) next.replies)
          ∙ ap (λ (l : List Fields). l ++ next.replies) (midway-tells.said ∙ append-nil (sent_down j))) f.has there
          (last.3 ∙ append-nil first.0.link.output ∙ first.3) next.takes.1 (next.takes.2 ∙ ap (λ (l : List ℕ). next.takes.0 ++ l) (sym (last.2 ∙ first.2)))
          (length-append midway.lists.handled (g ∷ []) ∙ ap (λ (n : ℕ). n + 1) midway-tells.handled)

      back : (n : ℕ) (d : Joined) → At after.circuits n d
          → (c : Joined) × At w.circuits n c × Like c d × (c.server ≡ j.server → Acts (server_end y c) (server_end z d)) × ((c.server ≡ j.server → ⊥) → (s : ServerSide) → server_end s d ≡ server_end s c)
      back n d there = elim (At-set ended.circuits k (handled_at (length j.lists.handled) g next.replies own) n d there) [
        | inl here ↦
            let is : d ≡ noted = here.1 ∙ ap (λ (c : Joined). handled_at (length j.lists.handled) g next.replies c) stays in (
              j,
              subst (λ (l : ℕ). At w.circuits l j) (sym here.0) on,
              subst (λ (q : Joined). Like j q) (sym is) handled-like,
              (λ mine. subst (λ (q : Joined). Acts (server_end y j) (server_end z q)) (sym is) handled-acts),
              (λ other. absurd (other refl)),
            )
        | inr old ↦
            let m = At-mapped (ending ends) mid.circuits n d old.0 in
            let c = acted-tells w k j y next.action on n m.0 m.1 in
            let r = circuit-ends w j.server y z f.core ends n c.0 m.0 d [] refl m.2 c.2
            (λ mine is_open.
            let e = seat-of w j.server y n c.0 at seated c.1 mine is_open in (
              e.0,
              e.1,
              goes-ends j.server y.core f.core m.0 c.0.at_server e.0 [] (c.2.like.server ∙ mine) (c.2.is_open ∙ is_open) c.2.like.handle e.1
                  (next-go f.e next f.steps.1 f.core f.steps.3 c.0.at_server (apart n c.0 c.1 old.1 mine is_open)),
            ))
            (λ none. (not-open j.server f.core c.0 m.0 [] c.2 none, refl)) in
            (c.0, c.1, r.0, r.1, r.2)
      ]

  -- ---- it closes its circuit

  -- ends after that
  here-own : (left : List ℕ) (core : Server) (m : Joined) → Tells j m [] → ends_here j left j.server core m ≡ Some left
  here-own left core m t =
      let same : same_handle m.at_server j.at_server ≡ true = subst (λ (h : Handle). same_handle h j.at_server ≡ true) (sym t.like.handle) (same-itself j.at_server) in
      let mine : (eqb m.server j.server && m.lists.server_open) ≡ true = and_from (eqb m.server j.server) m.lists.server_open (eq-eqb m.server j.server t.like.server) (t.is_open ∙ opened) in
      ap (λ (b : Bool). cond b (Some left) (ends_by j.server core m)) (and_from (same_handle m.at_server j.at_server) (eqb m.server j.server && m.lists.server_open) same mine)

  here-other : (left : List ℕ) (core : Server) (m : Joined) → (m.at_server ≡ j.at_server → ⊥) → ends_here j left j.server core m ≡ ends_by j.server core m
  here-other left core m other =
      ap (λ (b : Bool). cond (b && (eqb m.server j.server && m.lists.server_open)) (Some left) (ends_by j.server core m)) (same-not m.at_server j.at_server other)

  here-none : (left : List ℕ) (core : Server) (c m : Joined) → Tells c m [] → (c.server ≡ j.server → c.lists.server_open ≡ true → ⊥) → ends_here j left j.server core m ≡ None
  here-none left core c m t none =
      go (same_handle m.at_server j.at_server) (eqb m.server j.server) m.lists.server_open refl refl ∙ not-open j.server core c m [] t none
    where
      go : (a b d : Bool) → eqb m.server j.server ≡ b → m.lists.server_open ≡ d → cond (a && (b && d)) (Some left) (ends_by j.server core m) ≡ ends_by j.server core m
      go true true true e f = absurd (none (sym t.like.server ∙ eqb-true m.server j.server e) (sym t.is_open ∙ f))
      go true true false e f = refl
      go true false d e f = refl
      go false b d e f = refl

  -- other ends go on as this circuit is freed
  closed-goes : (mid : Server) (g : Handle) → (g ≡ j.at_server → ⊥) → Goes y.core mid g [] → Goes y.core (closed j.at_server mid) g []
  closed-goes mid g other goes e has = elim (goes e has) [
    | inl stays ↦ inl (stays.0, freed-other mid.circuits g j.at_server (Open stays.0) stays.1 other, stays.2, stays.3)
    | inr over ↦ inr (over.0, over.1, freed-other mid.circuits g j.at_server (Ended over.0 over.1) over.2 other, over.3)
  ]

  -- A step that closes the circuit: midway its circuits told nothing, and the other
  -- ends of the core go on.
  pub closing-streams : (mid : World) (side : ServerSide) (left : List ℕ) (e : ServerEnd) (core said : Server) → HasEnd y.core j.at_server e → left ≡ e.link.output → mid.clients ≡ w.clients → ((l : ℕ) (s : ServerSide) → At w.servers l s → (l ≡ j.server → ⊥) → At mid.servers l s)
      → ((s : ServerSide) × At mid.servers j.server s) → ((n : ℕ) (m : Joined) → At mid.circuits n m → (c : Joined) × At w.circuits n c × Tells c m [])
      → ((g : Handle) → (g ≡ j.at_server → ⊥) → Goes y.core core g []) → ((m : Joined) (o : Option (List ℕ)) (more : (m.at_server ≡ j.at_server → ⊥)) → ends_by j.server core m ≡ o → ends_by j.server said m ≡ o)
      → AllStream (server_after j.server side (ends_here j left j.server said) core mid)
  closing-streams mid side left e core said has is clients others there back goes same =
      server-event w new j.server y z at (set-here mid.servers j.server there.0 z there.1) (λ l s stands other. At-set-other mid.servers j.server l s z (others l s stands other) other) clients circuits all
    where
      ends : Joined → Option (List ℕ)
      ends = ends_here j left j.server said

      new : World
      new = server_after j.server side ends core mid

      z : ServerSide
      z = record side { core = reported core; records = map (without_puts (ends_at ends mid.circuits)) side.records }

      circuits : (n : ℕ) (d : Joined) → At new.circuits n d
          → (c : Joined) × At w.circuits n c × Like c d × (c.server ≡ j.server → Acts (server_end y c) (server_end z d)) × ((c.server ≡ j.server → ⊥) → (s : ServerSide) → server_end s d ≡ server_end s c)
      circuits n d stands =
          let m = At-mapped (ending ends) mid.circuits n d stands in
          let c = back n m.0 m.1 in
          let r = circuit-ends w j.server y z core ends n c.0 m.0 d [] refl m.2 c.2
          (λ mine is_open. elim (number-or n k) [
            | inl here ↦
                let one : c.0 ≡ j = At-one w.circuits k c.0 j (subst (λ (l : ℕ). At w.circuits l c.0) here c.1) on in (
                  e,
                  subst (λ (q : Joined). HasEnd y.core q.at_server e) (sym one) has,
                  inr (left, here-own left said m.0 (subst (λ (q : Joined). Tells q m.0 []) one c.2), ([], ap (λ (l : List ℕ). l ++ []) (sym is))),
                )
            | inr other ↦
                let s = seat-of w j.server y n c.0 at seated c.1 mine is_open in
                let far : c.0.at_server ≡ j.at_server → ⊥ = apart n c.0 c.1 other mine is_open in
                let off : m.0.at_server ≡ j.at_server → ⊥ = λ q. far (sym c.2.like.handle ∙ q) in (
                  s.0,
                  s.1,
                  elim (goes-ends j.server y.core core m.0 c.0.at_server s.0 [] (c.2.like.server ∙ mine) (c.2.is_open ∙ is_open) c.2.like.handle s.1 (goes c.0.at_server far)) [
                    | inl stays ↦ inl (here-other left said m.0 off ∙ same m.0 None off stays.0, stays.1)
                    | inr over ↦ inr (over.0, here-other left said m.0 off ∙ same m.0 (Some over.0) off over.1, over.2)
                  ],
                )
          ])
          (λ none. (here-none left said c.0 m.0 c.2 none, refl)) in
          (c.0, c.1, r.0, r.1, r.2)

  left-go : (e : ServerEnd) (next : Next y.core j.at_server e) (written : Option (Handle → Bool)) (mid : Server) → LeftOf next written mid → (g : Handle) → (g ≡ j.at_server → ⊥) → Goes y.core mid g []
  left-go e next None mid is g other = go-same y.core mid (ap (λ (x : Server). x.circuits) is) g
  left-go e next (Some gone) mid is g other = next-go e next gone mid is.1 g other

  pub lacks-streams : (left : List ℕ) (new : World) → StepLacks w k j y left new → AllStream new
  lacks-streams left new f = subst (λ (v : World). AllStream v) (sym f.leaves) (go f.lacks.written (λ g other. subst (λ (x : Server). Goes y.core x g []) (sym f.lacks.leaves) (closed-goes f.lacks.mid g other (left-go f.e f.lacks.next f.lacks.written f.lacks.mid f.lacks.left_is g other))))
    where
      go : (o : Option (Handle → Bool)) → ((g : Handle) → (g ≡ j.at_server → ⊥) → Goes y.core f.core g [])
          → AllStream (server_after j.server (side_of j.server y (unsaid k j y f.lacks.next.action o w)) (ends_here j left j.server f.core) f.core (unsaid k j y f.lacks.next.action o w))
      go None goes = closing-streams w (side_of j.server y w) left f.e f.core f.core f.has f.left_is refl (λ l s there other. there) (y, at) (λ n m there. (m, there, tells-itself m)) goes (λ m o far is. is)
      go (Some gone) goes =
          let side : ServerSide = record y { records = records_after y.core j.at_server (record { circuit = k; place = length j.lists.handled }) f.lacks.next.action y.records } in
          closing-streams (acted k j y f.lacks.next.action w) (side_of j.server y (acted k j y f.lacks.next.action w)) left f.e f.core f.core f.has f.left_is refl
          (λ l s there other. At-set-other w.servers j.server l s side there other) (side, set-here w.servers j.server y side at) (acted-tells w k j y f.lacks.next.action on) goes (λ m o far is. is)

  bad-streams : (left : List ℕ) (e : ServerEnd) → HasEnd y.core j.at_server e → left ≡ e.link.output → AllStream (server_after j.server y (ends_here j left j.server y.core) (closed j.at_server y.core) w)
  bad-streams left e has is =
      closing-streams w y left e (closed j.at_server y.core) y.core has is refl (λ l s there other. there) (y, at) (λ n m there. (m, there, tells-itself m))
      (λ g other. closed-goes y.core g other (go-same y.core y.core refl g)) (λ m o far q. same m o far q)
    where
      same : (m : Joined) (o : Option (List ℕ)) → (m.at_server ≡ j.at_server → ⊥) → ends_by j.server (closed j.at_server y.core) m ≡ o → ends_by j.server y.core m ≡ o
      same m o far q =
          ap (λ (p : Option ServerCircuit). cond (eqb m.server j.server && m.lists.server_open) (left_by p) None) (options-agree (under (closed j.at_server y.core).circuits m.at_server) (under y.core.circuits m.at_server)
          (λ v h. (freed-back y.core.circuits m.at_server j.at_server v h).1) (λ v h. freed-other y.core.circuits m.at_server j.at_server v h far)) ∙ q

  pub server-step-streams : (did : Stepped) (new : World) → ServerStepped w k j y did new → AllStream new
  server-step-streams stepped.Handled new f = handled-streams new f
  server-step-streams stepped.NeedBytes new f = subst (λ (v : World). AllStream v) (sym f.3) all
  server-step-streams stepped.OutputFull new f = subst (λ (v : World). AllStream v) (sym f.3) all
  server-step-streams (stepped.Closed why.OutOfMemory left) new f = lacks-streams left new f
  server-step-streams (stepped.Closed why.Misaligned left) new f = subst (λ (v : World). AllStream v) (sym f.3) (bad-streams left f.0 f.1 f.2.2)
  server-step-streams (stepped.Closed why.TooLarge left) new f = subst (λ (v : World). AllStream v) (sym f.3) (bad-streams left f.0 f.1 f.2.2)
  server-step-streams (stepped.Closed why.Cut left) new f = subst (λ (v : World). AllStream v) (sym f.3) (bad-streams left f.0 f.1 f.2.2)
  server-step-streams (stepped.Closed why.Asked left) new f = subst (λ (v : World). AllStream v) (sym f.3) (bad-streams left f.0 f.1 f.2.2)
  server-step-streams (stepped.Closed why.Silence left) new f = subst (λ (v : World). AllStream v) (sym f.3) (bad-streams left f.0 f.1 f.2.2)
