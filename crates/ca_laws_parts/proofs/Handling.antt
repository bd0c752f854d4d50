-- What a message that a server handles leaves of what is known of it and one
-- circuit, whoever sent it.
use Rattle.std.proofs.Common.{◌≡◌, ℕ, zero, suc, ◌+◌, ◌<◌, ◌≤◌, ◌%◌, ◌⊎◌, inl, inr, Bool, true, false, List, [], ◌∷◌, length, Some, refl, sym, ap, ◌∙◌, subst, arith}
use Rattle.std.specs.Prelude.{filter, not}
use Rattle.std.proofs.lemmas.Bool.{both_ways}
use Rattle.ca_text.specs.Limits.{arena_slots}
use Rattle.ca_text.specs.Place.{At}
use Rattle.ca_text.proofs.Places.{At-map, At-parts, At-within, some_is}
use Rattle.ca_arena.specs.declared.handle.Handle.{Handle}
use Rattle.ca_dbr.specs.Elements.{base_of}
use Rattle.ca_ids.specs.Table.{MayGive, Table, held, under, with_held}
use Rattle.ca_ids.specs.Wire.{wire_of}
use Rattle.ca_ids.proofs.Wires.{wire_of-index}
use Rattle.ca_wire.specs.Fields.{Fields}
use Rattle.ca_wire.specs.Messages.{cancel_reply, cleared_reply, created_reply, rights_reply, text_in}
use Rattle.ca_dbr.specs.Types.{base_number}
use Rattle.ca_queue.specs.Keys.{same}
use Rattle.ca_model.specs.Due.{Action, IsCreated, Serves, key_in, rights_at, subscription_in}
use Rattle.ca_model.specs.Due as action
use Rattle.ca_model.specs.Sends.{Conduct, LegalServer}
use Rattle.ca_model.specs.Server.{OpenChannel, Server, ServerEnd, Subscription, key_of}
use Rattle.ca_model.specs.ServerSteps.{Acts, HasEnd, known_channel, knows}
use Rattle.ca_model.specs.Speech.{Creates}
use Rattle.ca_model.proofs.Tables.{given-none, length-more, under-at, under-held}
use Rattle.ca_laws_parts.specs.ServerFits.{ServerFits}
use Rattle.ca_laws_parts.specs.Conduct.{with_all_sent, with_read}
use Rattle.ca_laws_parts.proofs.Growing.{IsTold, read-there, told-read, told-sent}
use Rattle.ca_laws_parts.proofs.Carried.{Carries}
use Rattle.ca_laws_parts.proofs.Dealing.{AreMute, Deals, IsCalm, marks, one-mute}
use Rattle.ca_laws_parts.proofs.Dealing as dealing
use Rattle.ca_laws_parts.proofs.EndKnown.{EndKnown, EndKnownTo, end-created, end-sent, heard-add, heard-cancel, heard-clear, heard-quiet, known-longer}
use Rattle.ca_laws_parts.proofs.Spoken.{IsFresh, NoErrors, fresh-read, legal-read, legal-sent, still-reads}

-- What is known of a server and one circuit.
pub record Known (c : Handle) (y : Server) (k : Conduct) : Type 0 where
  pub told : IsTold k
  pub fits : ServerFits y
  pub legal : LegalServer k
  pub ends : (e : ServerEnd) → HasEnd y c e → EndKnown e.channels e.subscriptions k

pub known-carried : (c : Handle) (y new : Server) (k : Conduct) → ServerFits new → Carries c y new → Known c y k → Known c new k
known-carried c y new k fits carries known = record {
  told = known.told;
  fits = fits;
  legal = known.legal;
  ends = λ d has.
      (let e = carries d has in
      subst (λ (v : Table OpenChannel × List Subscription). EndKnown v.0 v.1 k) (λ i. (sym e.2 i, sym e.3 i)) (known.ends e.0 e.1));
}

-- ---- messages that are no CREATE_CHAN, EVENT_ADD or SERVER_DISCONN

mute-not : (ms : List Fields) → AreMute ms → (q : ℕ) (m : Fields) → At ms q m → (n : ℕ) → m.command ≡ n → marks n ≡ true → ⊥
mute-not ms mute q m at n is it = both_ways (marks m.command) (mute q m at) (ap marks is ∙ it)

pub legal-mute : (k : Conduct) (ms : List Fields) → IsTold k → AreMute ms → NoErrors ms ⊎ IsFresh k → LegalServer k → LegalServer (with_all_sent ms k)
legal-mute k ms told mute errors legal =
    legal-sent k ms told legal errors (λ i q a b m r less at_m at_r makes also same. absurd (mute-not ms mute q r at_r 18 also.0 refl))
    (λ q m at is some. absurd (mute-not ms mute q m at 1 is refl)) (λ q m at is none. absurd (mute-not ms mute q m at 1 is refl))
    (λ q m at is. absurd (mute-not ms mute q m at 27 is refl))

pub end-mute : (upto : ℕ) (t : Table OpenChannel) (subs : List Subscription) (k : Conduct) (ms : List Fields) → IsTold k → AreMute ms → NoErrors ms ⊎ (upto < length k.read) → EndKnownTo upto t subs k
    → EndKnownTo upto t subs (with_all_sent ms k)
end-mute upto t subs k ms told mute errors known =
    end-sent upto t subs k ms told known (λ q m at is. mute-not ms mute q m at 18 is refl) (λ q m h o at lost there open_it. mute-not ms mute q m at 27 lost.0 refl) errors

pub known-mute : (c : Handle) (y : Server) (k : Conduct) (ms : List Fields) → AreMute ms → NoErrors ms → Known c y k → Known c y (with_all_sent ms k)
known-mute c y k ms mute none known = record {
  told = told-sent k ms known.told;
  fits = known.fits;
  legal = legal-mute k ms known.told mute (inl none) known.legal;
  ends = λ e has. end-mute (length k.came) e.channels e.subscriptions k ms known.told mute (inl none) (known.ends e has);
}

-- ---- a message is handled

calm-acts : (y : Server) (e new : ServerEnd) (did : Action) → IsCalm did → Acts y e did new → (new.channels ≡ e.channels) × (new.subscriptions ≡ e.subscriptions)
calm-acts y e new action.Nothing calm acts = (ap (λ (z : ServerEnd). z.channels) acts, ap (λ (z : ServerEnd). z.subscriptions) acts)
calm-acts y e new action.Greets calm acts = (ap (λ (z : ServerEnd). z.channels) acts, ap (λ (z : ServerEnd). z.subscriptions) acts)
calm-acts y e new (action.Names p) calm acts = (ap (λ (z : ServerEnd). z.channels) acts, ap (λ (z : ServerEnd). z.subscriptions) acts)
calm-acts y e new (action.Applies name value busies) calm acts = (ap (λ (z : ServerEnd). z.channels) acts, ap (λ (z : ServerEnd). z.subscriptions) acts)
calm-acts y e new (action.Waits name value) calm acts = (ap (λ (z : ServerEnd). z.channels) acts, ap (λ (z : ServerEnd). z.subscriptions) acts)
calm-acts y e new (action.Switches on) calm acts = (ap (λ (z : ServerEnd). z.channels) acts, ap (λ (z : ServerEnd). z.subscriptions) acts)
calm-acts y e new (action.Opens k) calm acts = absurd calm
calm-acts y e new (action.Clears sid) calm acts = absurd calm
calm-acts y e new (action.Adds s) calm acts = absurd calm
calm-acts y e new (action.Drops key) calm acts = absurd calm

-- Two that hold ids with one index are one; what may be given has none.
index-fresh : (t : Table OpenChannel) (h g : Handle) (o : OpenChannel) (a : ℕ) → length t ≤ arena_slots → MayGive t h → under t g ≡ Some o → wire_of g ≡ a
    → a % arena_slots ≡ wire_of h % arena_slots → ⊥
index-fresh t h g o a few may there wire same_index =
    let in_it : g.index < length t = At-within t g.index _ (under-at t g o there) in
    let slot : h.index < arena_slots = may.slot in
    let i : wire_of g % 65536 ≡ g.index = wire_of-index g (omega (arith, in_it, few)) in
    let j : wire_of h % 65536 ≡ h.index = wire_of-index h (omega (arith, slot)) in
    given-none t g h o may there (sym i ∙ ap (λ (n : ℕ). n % 65536) wire ∙ same_index ∙ j)

no-errors : NoErrors []
no-errors q m at = absurd (none q m at)
  where
    none : (q : ℕ) (m : Fields) → At [] q m → ⊥
    none q m at = cc

module _ (y : Server) (e acted : ServerEnd) (m : Fields) (replies : List Fields) (did : Action) (k : Conduct) (told : IsTold k) (legal : LegalServer k) (known : EndKnown e.channels e.subscriptions k) where
  abbrev pub heard : Conduct
  heard = with_read (Some m) k

  abbrev pub answered : Conduct
  answered = with_all_sent replies heard

  abbrev pub Handles-so : Type 0
  Handles-so = LegalServer answered × EndKnown acted.channels acted.subscriptions answered

  told-now : IsTold heard
  told-now = told-read k m told

  legal-now : LegalServer heard
  legal-now = legal-read k m told legal

  fresh : IsFresh heard
  fresh = fresh-read k m told

  -- what was known before was read before the message
  longer-by : length heard.came ≡ length k.came + 1
  longer-by = length-more k.came m

  past : length k.came < length heard.read
  past = (let same : length heard.read ≡ length heard.came = told-now.same in let more : length heard.came ≡ length k.came + 1 = longer-by in omega (arith, same, more))

  answers-on : (t : Table OpenChannel) (subs : List Subscription) → EndKnownTo (length k.came) t subs answered → EndKnown t subs answered
  answers-on t subs now =
      known-longer (length k.came) (length heard.came) t subs answered (let more : length heard.came ≡ length k.came + 1 = longer-by in omega (arith, more)) now

  so-calm : AreMute replies → IsCalm did → (m.command ≡ 12 → ⊥) → (m.command ≡ 2 → ⊥) → Acts y e did acted → Handles-so
  so-calm mute calm no_clear no_stop acts =
      let same = calm-acts y e acted did calm acts in (
        legal-mute heard replies told-now mute (inr fresh) legal-now,
        subst (λ (v : Table OpenChannel × List Subscription). EndKnown v.0 v.1 answered) (λ i. (sym same.0 i, sym same.1 i))
            (answers-on e.channels e.subscriptions (end-mute (length k.came) e.channels e.subscriptions heard replies told-now mute (inr past) (heard-quiet e.channels e.subscriptions k m told known (λ sid clears. no_clear clears.0) no_stop))),
      )

  so-clears : m.command ≡ 12 → replies ≡ cleared_reply m ∷ [] → Acts y e (action.Clears m.p1) acted → Handles-so
  so-clears clears are acts =
      let mute : AreMute replies = subst (λ (l : List Fields). AreMute l) (sym are) (one-mute (cleared_reply m) refl) in (
        legal-mute heard replies told-now mute (inr fresh) legal-now,
        subst (λ (v : ServerEnd). EndKnown v.channels v.subscriptions answered) (sym acts)
            (answers-on _ _ (end-mute (length k.came) _ _ heard replies told-now mute (inr past) (heard-clear e.channels e.subscriptions k m told known clears))),
      )

  so-adds : m.command ≡ 1 → (c : Serves (knows y e) m.p1) → replies ≡ [] → Acts y e (action.Adds (subscription_in m c.channel.name)) acted → Handles-so
  so-adds adds c are acts =
      let mute : AreMute replies = subst (λ (l : List Fields). AreMute l) (sym are) dealing.none-mute in
      let none : NoErrors replies = subst (λ (l : List Fields). NoErrors l) (sym are) no-errors in (
        legal-mute heard replies told-now mute (inl none) legal-now,
        subst (λ (v : ServerEnd). EndKnown v.channels v.subscriptions answered) (sym acts.2.leaves)
            (end-mute (length heard.came) _ _ heard replies told-now mute (inl none) (heard-add e.channels e.subscriptions k m told known c.channel c.channel.name c.open_there c.under c.there adds)),
      )

  so-drops : m.command ≡ 2 → replies ≡ cancel_reply m ∷ [] → Acts y e (action.Drops (key_in m)) acted → Handles-so
  so-drops stops are acts = (
    subst (λ (l : List Fields). LegalServer (with_all_sent l heard)) (sym are)
        (legal-sent heard ms told-now legal-now (inr fresh) (λ i q a b n r less at_n at_r makes also same. absurd (only q r at_r 18 also.0 (λ n. omega (arith, n))))
        (λ q n at is some. absurd (some (ap (λ (z : Fields). z.payload) (sym (one q n at).1))))
        (λ q n at is none.
        (let r = read-there k m told in
        let same : cancel_reply m ≡ n = (one q n at).1 in
        let place : q ≡ 0 = (one q n at).0 in
        let zero_of : length k.sent ≡ length k.sent + q = omega (arith, place) in
        (length k.came, m, r.0, subst (λ (p : ℕ). At heard.read (length k.came) p) zero_of r.1, stops, ap (λ (z : Fields). z.p1) same, ap (λ (z : Fields). z.p2) same)))
        (λ q n at is. absurd (only q n at 27 is (λ n. omega (arith, n))))),
    subst (λ (v : ServerEnd). EndKnown v.channels v.subscriptions answered) (sym acts)
        (answers-on _ _ (subst (λ (l : List Fields). EndKnownTo (length k.came) e.channels (filter (λ (s : Subscription). not (same_key s)) e.subscriptions) (with_all_sent l heard)) (sym are)
        (end-sent (length k.came) e.channels _ heard ms told-now (heard-cancel e.channels e.subscriptions k m told known (key_in m) stops refl refl) (λ q n at is. only q n at 18 is (λ n. omega (arith, n)))
        (λ q n h o at lost there open_it. only q n at 27 lost.0 (λ n. omega (arith, n))) (inr past)))),
  )
    where
      ms : List Fields
      ms = cancel_reply m ∷ []

      same_key : Subscription → Bool
      same_key s = same (key_in m) (key_of s)

      one : (q : ℕ) (n : Fields) → At ms q n → (q ≡ 0) × (cancel_reply m ≡ n)
      one zero n at = (refl, some_is (cancel_reply m) n at)
      one (suc q) n at = cc

      only : (q : ℕ) (n : Fields) → At ms q n → (a : ℕ) → n.command ≡ a → (1 ≡ a → ⊥) → ⊥
      only q n at a is differ = differ (ap (λ (z : Fields). z.command) (one q n at).1 ∙ is)

  so-creates : IsCreated (knows y e) m replies did → m.command ≡ 18 → Acts y e did acted → Handles-so
  so-creates made creates acts =
      let opens = subst (λ (a : Action). Acts y e a acted) made.does acts in
      created opens.0 opens.1 opens.2 opens.3
    where
      o : OpenChannel
      o = record { cid = m.p1; name = text_in m.payload; retired = false }

      first : Fields
      first = rights_reply m (rights_at (knows y e) made.known.state.name)

      last : Fields
      last = created_reply m (base_number (base_of made.known.state.value)) made.known.state.count made.sid

      ms : List Fields
      ms = first ∷ last ∷ []

      quiet : EndKnownTo (length k.came) e.channels e.subscriptions heard
      quiet =
          heard-quiet e.channels e.subscriptions k m told known (λ sid clears. (let n : ◌≡◌ {A = ℕ} 18 12 = sym creates ∙ clears.0 in omega (arith, n)))
          (λ stops. (let n : ◌≡◌ {A = ℕ} 18 2 = sym creates ∙ stops in omega (arith, n)))

      first-not : (q : ℕ) (r : Fields) → At ms q r → (n : ℕ) → r.command ≡ n → (22 ≡ n → ⊥) → (18 ≡ n → ⊥) → ⊥
      first-not zero r at n is no22 no18 = no22 (ap (λ (z : Fields). z.command) (some_is first r at) ∙ is)
      first-not (suc zero) r at n is no22 no18 = no18 (ap (λ (z : Fields). z.command) (some_is last r at) ∙ is)
      first-not (suc (suc q)) r at n is no22 no18 = cc

      -- only the second creates a channel
      second : (q b : ℕ) (r : Fields) → At ms q r → Creates r b → (q ≡ 1) × (made.sid ≡ b)
      second zero b r at makes = absurd (let n : ◌≡◌ {A = ℕ} 22 18 = ap (λ (z : Fields). z.command) (some_is first r at) ∙ makes.0 in omega (arith, n))
      second (suc zero) b r at makes = (refl, ap (λ (z : Fields). z.p2) (some_is last r at) ∙ makes.1)
      second (suc (suc q)) b r at makes = cc

      unused : (g : Handle) (p : OpenChannel) → under e.channels g ≡ Some p → p.cid ≡ m.p1 → ⊥
      unused g p there same_cid =
          let r = under-held e.channels g p there in
          made.cid_free (known_channel (g, p), (r.0, At-map known_channel (held e.channels) r.0 (g, p) r.1), same_cid)

      created : (h : Handle) → MayGive e.channels h → wire_of h ≡ made.sid
          → acted ≡ record e { settled = true; channels = with_held h (record { cid = m.p1; name = text_in m.payload; retired = false }) e.channels } → Handles-so
      created h may wire is =
          subst (λ (l : List Fields). LegalServer (with_all_sent l heard) × EndKnown acted.channels acted.subscriptions (with_all_sent l heard)) (sym made.are) (
            legal-sent heard ms told-now legal-now (inr fresh)
                (λ i q a b n r less at_n at_r makes also same_index.
                let is_second = second q b r at_r also in
                let place : q ≡ 1 = is_second.0 in
                elim (At-parts heard.sent ms i n at_n) [
                  | inr new ↦
                      absurd (let p = second new.0 a n new.2 makes in let p_is : new.0 ≡ 1 = p.0 in let i_is : i ≡ length heard.sent + new.0 = new.1 in omega (arith, place, p_is, i_is, less))
                  | inl old ↦ elim (quiet.sids i a n old makes) [
                    | inl was ↦ (was.0, was.1, still-reads heard ms told-now i (length heard.sent + q) was.0 was.1 (omega arith) was.2, was.3)
                    | inr held_it ↦
                        absurd (index-fresh e.channels h held_it.0 held_it.1 a known.few may held_it.2 held_it.3 (same_index ∙ ap (λ (z : ℕ). z % arena_slots) (sym is_second.1 ∙ sym wire)))
                  ]
                ])
                (λ q n at it some. absurd (first-not q n at 1 it (λ z. omega (arith, z)) (λ z. omega (arith, z))))
                (λ q n at it none. absurd (first-not q n at 1 it (λ z. omega (arith, z)) (λ z. omega (arith, z))))
                (λ q n at it. absurd (first-not q n at 27 it (λ z. omega (arith, z)) (λ z. omega (arith, z)))),
            subst (λ (v : ServerEnd). EndKnown v.channels v.subscriptions (with_all_sent ms heard)) (sym is)
                (known-longer (length k.came) (length heard.came) _ _ (with_all_sent ms heard) (let more : length heard.came ≡ length k.came + 1 = longer-by in omega (arith, more))
                (end-created (length k.came) e.channels e.subscriptions heard first last h o told-now quiet may (λ it. (let n : ◌≡◌ {A = ℕ} 22 18 = it in omega (arith, n))) (λ it. (let n : ◌≡◌ {A = ℕ} 22 27 = it in omega (arith, n)))
                (λ it. (let n : ◌≡◌ {A = ℕ} 22 11 = it in omega (arith, n))) (refl, sym wire) refl unused)),
          )

  pub so-dealt : Deals (knows y e) m replies did → Acts y e did acted → Handles-so
  so-dealt (dealing.Calm mute calm no_clear no_stop) acts = so-calm mute calm no_clear no_stop acts
  so-dealt (dealing.Creates made creates) acts = so-creates made creates acts
  so-dealt (dealing.Clears clears are is) acts = so-clears clears are (subst (λ (a : Action). Acts y e a acted) is acts)
  so-dealt (dealing.Adds adds c are is) acts = so-adds adds c are (subst (λ (a : Action). Acts y e a acted) is acts)
  so-dealt (dealing.Drops stops are is) acts = so-drops stops are (subst (λ (a : Action). Acts y e a acted) is acts)
