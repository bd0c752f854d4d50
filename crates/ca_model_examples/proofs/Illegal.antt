-- Of each of these histories one part of what is legal is broken, or none.
use Rattle.std.proofs.Common.{◌≡◌, ◌≢◌, ℕ, ◌<◌, ◌≤◌, ◌⊎◌, inl, inr, List, [], ◌∷◌, refl, sym, ap, subst, ◌∙◌, arith}
use Rattle.std.specs.Prelude.{Bool, true, false, get_or, length, replicate, take}
use Rattle.ca_text.specs.Place.{At}
use Rattle.ca_text.proofs.Places.{At-within, some_is}
use Rattle.ca_text.specs.declared.command.Command.TheVariants as command
use Rattle.ca_dbr.specs.declared.value.Outcome.{Outcome}
use Rattle.ca_dbr.specs.Elements.{signed_bytes_4}
use Rattle.ca_wire.specs.Fields.{Fields}
use Rattle.ca_wire.specs.Header.{HeaderFits, header_spelling, number16}
use Rattle.ca_wire.specs.Message.{header_of}
use Rattle.ca_wire.specs.Messages.{cancel_reply, cleared_reply}
use Rattle.ca_wire.proofs.Headers.{header-spells}
use Rattle.ca_model.specs.Speech.{Cid, Ioid, Creates, Gives, Id, In, Is, SubId, name_in, sid_in}
use Rattle.ca_model.specs.History.{Cancel, Clear, Create, Read, Request, Subscribe, Write, Intent, On, Sent, Told, Step, Circuit, Entry, Line, Added, Called, Noticed, Opened, Nothing, ToRead, ToWatch, ToWrite, Wish}
use Rattle.ca_model.specs.Channels.{IsHeld, Meant}
use Rattle.ca_model.specs.Sends.{Conduct, Frees, HasChannel, HasCleared, IsFree, SameIndex, IsConnected, IsDisconnect, IsOnChannel, IsOpenAt, IsRefused, IsUncancelled, ReadsBetween}
use Rattle.ca_model.specs.Legal.{AsksFor, BecomesLive, Carries, IsStanding, Legal, MayAsk, WasCalled, client_conduct, server_conduct}
use Rattle.ca_model_examples.specs.Worlds.{circuit, putting, clearing, temp, adding, created_told, creating, disconnected, long, reading, step, temp_name, world}
use Rattle.ca_model_examples.specs.Unsafe.{cancelling, echo, opened, temp_removed, temp_there, updated, value_21}
use Rattle.ca_model_examples.specs.Illegal.{added_after, added_again, asked_after, asked_again, asked_with, both_asked, both_created, called_at, called_in, calls, cancel_called, cancelled_between, clears_lost, confirm_out, created_again, created_read, echo_first, goes_out, live_again, never_cleared, read_for, read_out, reads_out, reread_after, refused, refused_out, alone, writing, unasked, sent_in, subscribe_called, told_closed, told_so, two_circuits, uncalled_in, update_out, watch_for, write_called}
use Rattle.ca_model_examples.specs.Parts.{CalledSo, HeldSo, MaySend, Sending, SendsWrong, SentSo}
use Rattle.ca_model_examples.specs.Parts as part
use Rattle.ca_model_examples.proofs.Lists.{each-at, none-at, one-at, two-at}
use Rattle.ca_model_examples.proofs.Quiet.{clash, none}
use Rattle.ca_model_examples.proofs.Opened.{created-here}
use Rattle.ca_model_examples.proofs.Creations.{channel-of, only-added, uncleared}
use Rattle.ca_model_examples.proofs.Sent.{all-legal, all-on-sid, is, is-so, its-sent, mask-is, on-channel-so, on-sid, quiet-sends, quiet-sent, sends, unrefused}

-- ---- what a client sends

read-legal-each : (p : Sending) → MaySend p (sent_in (read_out (step 1 0 0 ∷ [])))
read-legal-each part.OnChannel = sends part.OnChannel (read_out (step 1 0 0 ∷ [])) (calls (read_out (step 1 0 0 ∷ [])).up) temp_there refl refl (all-on-sid (read_out (step 1 0 0 ∷ [])) (calls (read_out (step 1 0 0 ∷ [])).up) temp_there ((reading 0 7).message) [] 1 refl refl refl refl refl refl refl) tt
read-legal-each p = quiet-sends p (read_out (step 1 0 0 ∷ [])) (calls (read_out (step 1 0 0 ∷ [])).up) temp_there refl refl refl

pub read-legal : Legal (sent_in (read_out (step 1 0 0 ∷ [])))
read-legal = all-legal _ read-legal-each

read-uncalled-rest : (p : Sending) → (p ≡ part.HasCall → ⊥) → MaySend p (uncalled_in (read_out (step 1 0 0 ∷ [])))
read-uncalled-rest part.HasCall ne = absurd (ne refl)
read-uncalled-rest part.OnChannel ne = sends part.OnChannel (read_out (step 1 0 0 ∷ [])) opened temp_there refl refl (all-on-sid (read_out (step 1 0 0 ∷ [])) opened temp_there ((reading 0 7).message) [] 1 refl refl refl refl refl refl refl) tt
read-uncalled-rest p ne = quiet-sends p (read_out (step 1 0 0 ∷ [])) opened temp_there refl refl refl

pub read-uncalled : SendsWrong part.HasCall (uncalled_in (read_out (step 1 0 0 ∷ [])))
read-uncalled = (read-uncalled-rest, λ h. (let c = its-sent part.HasCall (read_out (step 1 0 0 ∷ [])) opened temp_there refl refl h.0 1 (reading 0 7) refl in let e : Called (On 0 (Request Read 0)) c.0 ≡ Opened 0 temp_name = (one-at (Opened 0 temp_name) c.1.0 _ c.1.1).1 in cc))

read-too-soon-rest : (p : Sending) → (p ≡ part.OnChannel → ⊥) → MaySend p (sent_in (read_out []))
read-too-soon-rest part.OnChannel ne = absurd (ne refl)
read-too-soon-rest p ne = quiet-sends p (read_out []) (calls (read_out []).up) temp_there refl refl refl

pub read-too-soon : SendsWrong part.OnChannel (sent_in (read_out []))
read-too-soon = (read-too-soon-rest, λ h. (let o = its-sent part.OnChannel (read_out []) (calls (read_out []).up) temp_there refl refl h.0 1 (reading 0 7).message refl (inl refl) in none-at o.1 o.3.4.0 o.3.4.2))

unasked-rest : (p : Sending) → (p ≡ part.OnChannel → ⊥) → MaySend p (sent_in unasked)
unasked-rest part.OnChannel ne = absurd (ne refl)
unasked-rest p ne = quiet-sends p unasked (calls (unasked).up) temp_there refl refl refl

pub read-unasked : SendsWrong part.OnChannel (sent_in unasked)
read-unasked = (
  unasked-rest,
  λ h.
      (let o = its-sent part.OnChannel unasked (calls (unasked).up) temp_there refl refl h.0 1 (reading 0 7).message refl (inl refl) in
      let c = o.3 in
      each-at (λ (i : ℕ) (m : Fields). Gives m (Cid o.2) → ⊥) (client_conduct unasked).sent ((λ g. (let e = g.0 in omega (arith, e))), ((λ g. (let e = g.0 in omega (arith, e))), tt)) o.0 c.0 c.2 c.3),
)

-- A message on a channel goes out, and none was read.
alone-fails : (m : Sent) → IsOnChannel m.message → MaySend part.OnChannel (sent_in (alone m)) → ⊥
alone-fails m on h = (let o = its-sent part.OnChannel (alone m) (calls (alone m).up) temp_there refl refl h.0 0 m.message refl on in none-at o.1 o.3.4.0 o.3.4.2)

put-alone-rest : (p : Sending) → (p ≡ part.OnChannel → ⊥) → MaySend p (sent_in (alone (putting 0 8 22)))
unfolding signed_bytes_4
put-alone-rest part.OnChannel ne = absurd (ne refl)
put-alone-rest p ne = quiet-sends p (alone (putting 0 8 22)) (calls (alone (putting 0 8 22)).up) temp_there refl refl refl

pub put-alone : SendsWrong part.OnChannel (sent_in (alone (putting 0 8 22)))
put-alone = (put-alone-rest, alone-fails (putting 0 8 22) (inr (inl refl)))

write-alone-rest : (p : Sending) → (p ≡ part.OnChannel → ⊥) → MaySend p (sent_in (alone (writing)))
unfolding signed_bytes_4
write-alone-rest part.OnChannel ne = absurd (ne refl)
write-alone-rest p ne = quiet-sends p (alone (writing)) (calls (alone (writing)).up) temp_there refl refl refl

pub write-alone : SendsWrong part.OnChannel (sent_in (alone (writing)))
write-alone = (write-alone-rest, alone-fails (writing) (inr (inr (inl refl))))

add-alone-rest : (p : Sending) → (p ≡ part.OnChannel → ⊥) → MaySend p (sent_in (alone (adding 0 9)))
unfolding number16
add-alone-rest part.OnChannel ne = absurd (ne refl)
add-alone-rest p ne = quiet-sends p (alone (adding 0 9)) (calls (alone (adding 0 9)).up) temp_there refl refl refl

pub add-alone : SendsWrong part.OnChannel (sent_in (alone (adding 0 9)))
add-alone = (add-alone-rest, alone-fails (adding 0 9) (inr (inr (inr (inl refl)))))

clear-alone-rest : (p : Sending) → (p ≡ part.OnChannel → ⊥) → MaySend p (sent_in (alone (clearing)))
clear-alone-rest part.OnChannel ne = absurd (ne refl)
clear-alone-rest p ne = quiet-sends p (alone (clearing)) (calls (alone (clearing)).up) temp_there refl refl refl

pub clear-alone : SendsWrong part.OnChannel (sent_in (alone (clearing)))
clear-alone = (clear-alone-rest, alone-fails (clearing) (inr (inr (inr (inr (inr refl))))))

shared-rest : (p : Sending) → (p ≡ part.Ids → ⊥) → MaySend p (sent_in (goes_out (adding 0 9 ∷ adding 1 9 ∷ [])))
unfolding number16
shared-rest part.Ids ne = absurd (ne refl)
shared-rest part.OnChannel ne = sends part.OnChannel (goes_out (adding 0 9 ∷ adding 1 9 ∷ [])) (calls (goes_out (adding 0 9 ∷ adding 1 9 ∷ [])).up) temp_there refl refl (all-on-sid (goes_out (adding 0 9 ∷ adding 1 9 ∷ [])) (calls (goes_out (adding 0 9 ∷ adding 1 9 ∷ [])).up) temp_there ((adding 0 9).message) ((adding 1 9).message ∷ []) 1 refl refl refl refl refl refl refl) tt
shared-rest p ne = quiet-sends p (goes_out (adding 0 9 ∷ adding 1 9 ∷ [])) (calls (goes_out (adding 0 9 ∷ adding 1 9 ∷ [])).up) temp_there refl refl refl

pub sub-shared : SendsWrong part.Ids (sent_in (goes_out (adding 0 9 ∷ adding 1 9 ∷ [])))
sub-shared = (
  shared-rest,
  λ h.
      (let c = goes_out (adding 0 9 ∷ adding 1 9 ∷ []) in
      let f = its-sent part.Ids (goes_out (adding 0 9 ∷ adding 1 9 ∷ [])) (calls (goes_out (adding 0 9 ∷ adding 1 9 ∷ [])).up) temp_there refl refl h.0 1 2 (adding 0 9).message (adding 1 9).message (SubId 9) (SubId 9) (omega arith) refl refl (refl, refl) (refl, refl) refl in
      let b = (one-at 1 f.0 f.1 f.6).1 in
      let late = f.7 in
      omega (arith, b, late)),
)

-- the cancel is for the EVENT_ADD before it
cancel-for : (c : Circuit) → (client_conduct c).sent ≡ creating.message ∷ (adding 0 9).message ∷ cancelling.message ∷ [] → (k : ℕ) (m : Fields) → At (client_conduct c).sent k m → Is command.EventCancel m
    → (l : ℕ) × (add : Fields) × At (client_conduct c).sent l add × Is command.EventAdd add × (l < k) × (add.p1 ≡ m.p1) × (add.p2 ≡ m.p2) × IsUncancelled (client_conduct c) l k add
cancel-for c sent k m at e =
    each-at (λ (i : ℕ) (z : Fields). Is command.EventCancel z → (l : ℕ) × (add : Fields) × At (client_conduct c).sent l add × Is command.EventAdd add × (l < i) × (add.p1 ≡ z.p1) × (add.p2 ≡ z.p2) × IsUncancelled (client_conduct c) l i add) (creating.message ∷ (adding 0 9).message ∷ cancelling.message ∷ []) (
      (λ f. absurd (omega (arith, f))),
      (
        (λ f. absurd (omega (arith, f))),
        ((λ f. (1, (adding 0 9).message, subst (λ (s : List Fields). At s 1 (adding 0 9).message) (sym sent) refl, refl, omega arith, refl, refl, λ i s after early. absurd (omega (arith, after, early)))), tt),
      ),
    ) k m (subst (λ (s : List Fields). At s k m) sent at) e

cancel-legal-each : (p : Sending) → MaySend p (sent_in (goes_out (adding 0 9 ∷ cancelling ∷ [])))
unfolding number16
cancel-legal-each part.OnChannel = sends part.OnChannel (goes_out (adding 0 9 ∷ cancelling ∷ [])) (calls (goes_out (adding 0 9 ∷ cancelling ∷ [])).up) temp_there refl refl (all-on-sid (goes_out (adding 0 9 ∷ cancelling ∷ [])) (calls (goes_out (adding 0 9 ∷ cancelling ∷ [])).up) temp_there ((adding 0 9).message) (cancelling.message ∷ []) 1 refl refl refl refl refl refl refl) tt
cancel-legal-each part.Cancels = sends part.Cancels (goes_out (adding 0 9 ∷ cancelling ∷ [])) (calls (goes_out (adding 0 9 ∷ cancelling ∷ [])).up) temp_there refl refl (cancel-for (goes_out (adding 0 9 ∷ cancelling ∷ [])) refl) tt
cancel-legal-each p = quiet-sends p (goes_out (adding 0 9 ∷ cancelling ∷ [])) (calls (goes_out (adding 0 9 ∷ cancelling ∷ [])).up) temp_there refl refl refl

pub cancel-legal : Legal (sent_in (goes_out (adding 0 9 ∷ cancelling ∷ [])))
cancel-legal = all-legal _ cancel-legal-each

cancel-of-nothing-rest : (p : Sending) → (p ≡ part.Cancels → ⊥) → MaySend p (sent_in (goes_out (cancelling ∷ [])))
cancel-of-nothing-rest part.Cancels ne = absurd (ne refl)
cancel-of-nothing-rest part.OnChannel ne = sends part.OnChannel (goes_out (cancelling ∷ [])) (calls (goes_out (cancelling ∷ [])).up) temp_there refl refl (all-on-sid (goes_out (cancelling ∷ [])) (calls (goes_out (cancelling ∷ [])).up) temp_there (cancelling.message) [] 1 refl refl refl refl refl refl refl) tt
cancel-of-nothing-rest p ne = quiet-sends p (goes_out (cancelling ∷ [])) (calls (goes_out (cancelling ∷ [])).up) temp_there refl refl refl

pub cancel-of-nothing : SendsWrong part.Cancels (sent_in (goes_out (cancelling ∷ [])))
cancel-of-nothing = (cancel-of-nothing-rest, λ h. (let a = its-sent part.Cancels (goes_out (cancelling ∷ [])) (calls (goes_out (cancelling ∷ [])).up) temp_there refl refl h.0 1 cancelling.message refl refl in each-at (λ (i : ℕ) (z : Fields). Is command.EventAdd z → i < 1 → ⊥) (creating.message ∷ cancelling.message ∷ []) ((λ e l. omega (arith, e)), ((λ e l. omega (arith, l)), tt)) a.0 a.1 a.2 a.3 a.4))

ids-legal-each : (p : Sending) → MaySend p (sent_in (both_asked 2))
ids-legal-each part.OnChannel = quiet-sends part.OnChannel (both_asked 2) (calls (both_asked 2).up) temp_there refl refl refl
ids-legal-each p = quiet-sends p (both_asked 2) (calls (both_asked 2).up) temp_there refl refl refl

pub ids-legal : Legal (sent_in (both_asked 2))
ids-legal = all-legal _ ids-legal-each

id-shared-rest : (p : Sending) → (p ≡ part.Ids → ⊥) → MaySend p (sent_in (both_asked 1))
id-shared-rest part.Ids ne = absurd (ne refl)
id-shared-rest p ne = quiet-sends p (both_asked 1) (calls (both_asked 1).up) temp_there refl refl refl

pub id-shared : SendsWrong part.Ids (sent_in (both_asked 1))
id-shared = (id-shared-rest, λ h. (let f = its-sent part.Ids (both_asked 1) (calls (both_asked 1).up) temp_there refl refl h.0 0 1 creating.message (asked_with 1).message (Cid 1) (Cid 1) (omega arith) refl refl (refl, refl) (refl, refl) refl in none-at f.0 f.3 f.5))

reads-each : (p : Sending) → MaySend p (sent_in (reads_out 8))
reads-each part.OnChannel = sends part.OnChannel (reads_out 8) (calls (reads_out 8).up) temp_there refl refl (all-on-sid (reads_out 8) (calls (reads_out 8).up) temp_there ((reading 0 7).message) ((reading 1 8).message ∷ []) 1 refl refl refl refl refl refl refl) tt
reads-each p = quiet-sends p (reads_out 8) (calls (reads_out 8).up) temp_there refl refl refl

pub reads-legal : Legal (sent_in (reads_out 8))
reads-legal = all-legal _ reads-each

reused-rest : (p : Sending) → (p ≡ part.Ids → ⊥) → MaySend p (sent_in (reads_out 7))
reused-rest part.Ids ne = absurd (ne refl)
reused-rest part.OnChannel ne = sends part.OnChannel (reads_out 7) (calls (reads_out 7).up) temp_there refl refl (all-on-sid (reads_out 7) (calls (reads_out 7).up) temp_there ((reading 0 7).message) ((reading 1 7).message ∷ []) 1 refl refl refl refl refl refl refl) tt
reused-rest p ne = quiet-sends p (reads_out 7) (calls (reads_out 7).up) temp_there refl refl refl

-- no ACCESS_RIGHTS frees the id of a read
not-freed : (e : Conduct) (b : ℕ) (r m : Fields) → r.command ≡ 15 → m.command ≡ 22 → Frees e 1 b r m → ⊥
not-freed e b r m read rights h =
    elim h [
      | inl a ↦ (let f = a.0 in omega (arith, f, read))
      | inr h1 ↦ elim h1 [
        | inl a ↦ elim a.1 [
          | inl d ↦ (let f = d.0 in omega (arith, f, read, rights))
          | inr d ↦ (let f = d.0 in omega (arith, f, rights))
        ]
        | inr h2 ↦ elim h2 [
          | inl a ↦ (let f = a.0 in omega (arith, f, read))
          | inr a ↦ (let f = a.4 in omega (arith, f, rights))
        ]
      ]
    ]

pub id-reused : SendsWrong part.Ids (sent_in (reads_out 7))
id-reused = (
  reused-rest,
  λ h.
      (let e = client_conduct (reads_out 7) in
      let f = its-sent part.Ids (reads_out 7) (calls (reads_out 7).up) temp_there refl refl h.0 1 2 (reading 0 7).message (reading 1 7).message (Ioid 7) (Ioid 7) (omega arith) refl refl (inl refl, refl) (inl refl, refl) refl in
      let read : f.2.command ≡ 15 = ap (λ (m : Fields). m.command) (sym (some_is (reading 0 7).message f.2 f.4)) in
      let late = f.7 in
      let rights : f.3.command ≡ 22 = each-at (λ (j : ℕ) (m : Fields). At (1 ∷ 2 ∷ []) j f.1 → m.command ≡ 22) (client_conduct (reads_out 7)).came ((λ at. absurd (let one = some_is 1 f.1 at in omega (arith, one, late))), ((λ at. refl), tt)) f.0 f.3 f.5 f.6 in
      not-freed (client_conduct (reads_out 7)) f.1 f.2 f.3 read rights f.9),
)

-- an IOID is given again: the read's reply was read after n messages
reread-each : (n : ℕ) (p : Sending) → (p ≡ part.Ids → ⊥) → MaySend p (sent_in (reread_after n))
reread-each n part.Ids ne = absurd (ne refl)
reread-each n part.OnChannel ne = sends part.OnChannel (reread_after n) (calls (reread_after n).up) temp_there refl refl (all-on-sid (reread_after n) (calls (reread_after n).up) temp_there ((reading 0 7).message) ((reading 1 7).message ∷ []) 1 refl refl refl refl refl refl refl) tt
reread-each n p ne = quiet-sends p (reread_after n) (calls (reread_after n).up) temp_there refl refl refl

-- the reply frees the IOID
reread-free : IsFree (client_conduct (reread_after 2)) 1 2
reread-free = (1, 2, (reading 0 7).message, value_21, refl, refl, refl, omega arith, omega arith, inr (inl (inl refl, inl (refl, refl))))

read-at : (l : ℕ) (r : Fields) → At (client_conduct (reread_after 2)).sent l r → (Is command.ReadNotify r ⊎ Is command.WriteNotify r) → (l ≡ 1) ⊎ (l ≡ 2)
read-at l r at is = each-at (λ (i : ℕ) (z : Fields). (Is command.ReadNotify z ⊎ Is command.WriteNotify z) → (i ≡ 1) ⊎ (i ≡ 2)) (client_conduct (reread_after 2)).sent (
  (λ f. absurd (elim f [ inl e ↦ omega (arith, e) | inr e ↦ omega (arith, e) ])),
  ((λ f. inl refl), ((λ f. inr refl), tt)),
) l r at is

reread-ids : (l k : ℕ) (r m : Fields) (a b : Id) → l < k → At (client_conduct (reread_after 2)).sent l r → At (client_conduct (reread_after 2)).sent k m → Gives r a → Gives m b → SameIndex a b → IsFree (client_conduct (reread_after 2)) l k
reread-ids l k r m (Ioid a) (Ioid b) lt p q g h same = elim (read-at l r p g.0) [
  | inl i ↦ elim (read-at k m q h.0) [
    | inl j ↦ absurd (omega (arith, i, j, lt))
    | inr j ↦ subst (λ (z : ℕ). IsFree (client_conduct (reread_after 2)) z k) (sym i) (subst (λ (z : ℕ). IsFree (client_conduct (reread_after 2)) 1 z) (sym j) reread-free)
  ]
  | inr i ↦ elim (read-at k m q h.0) [
    | inl j ↦ absurd (omega (arith, i, j, lt))
    | inr j ↦ absurd (omega (arith, i, j, lt))
  ]
]
reread-ids l k r m (Cid a) (Cid b) lt p q g h same =
    let j : k ≡ 0 = each-at (λ (i : ℕ) (z : Fields). Is command.CreateChannel z → i ≡ 0) (client_conduct (reread_after 2)).sent ((λ f. refl), ((λ f. absurd (omega (arith, f))), ((λ f. absurd (omega (arith, f))), tt))) k m q h.0 in
    absurd (omega (arith, j, lt))
reread-ids l k r m (SubId a) b lt p q g h same =
    absurd (each-at (λ (i : ℕ) (z : Fields). Is command.EventAdd z → ⊥) (client_conduct (reread_after 2)).sent ((λ f. omega (arith, f)), ((λ f. omega (arith, f)), ((λ f. omega (arith, f)), tt))) l r p g.0)
reread-ids l k r m (Ioid a) (Cid b) lt p q g h same = absurd same
reread-ids l k r m (Ioid a) (SubId b) lt p q g h same = absurd same
reread-ids l k r m (Cid a) (Ioid b) lt p q g h same = absurd same
reread-ids l k r m (Cid a) (SubId b) lt p q g h same = absurd same

reread-legal-each : (p : Sending) → MaySend p (sent_in (reread_after 2))
reread-legal-each part.Ids = sends part.Ids (reread_after 2) (calls (reread_after 2).up) temp_there refl refl reread-ids tt
reread-legal-each p = reread-each 2 p (λ e. cc)

pub reread-legal : Legal (sent_in (reread_after 2))
reread-legal = all-legal _ reread-legal-each

-- all that was read was read before the first read was sent
pub reread-too-soon : SendsWrong part.Ids (sent_in (reread_after 1))
reread-too-soon = (
  reread-each 1,
  λ h.
      (let f = its-sent part.Ids (reread_after 1) (calls (reread_after 1).up) temp_there refl refl h.0 1 2 (reading 0 7).message (reading 1 7).message (Ioid 7) (Ioid 7) (omega arith) refl refl (inl refl, refl) (inl refl, refl) refl in
      let one : f.1 ≡ 1 = each-at (λ (j n : ℕ). n ≡ 1) (1 ∷ 1 ∷ []) (refl, (refl, tt)) f.0 f.1 f.6 in
      let late = f.7 in
      omega (arith, one, late)),
)

-- ---- what a server sends

sids-legal-each : (p : Sending) → MaySend p (sent_in (both_created 6))
sids-legal-each part.OnChannel = quiet-sends part.OnChannel (both_created 6) (calls (both_created 6).up) temp_there refl refl refl
sids-legal-each p = quiet-sends p (both_created 6) (calls (both_created 6).up) temp_there refl refl refl

pub sids-legal : Legal (sent_in (both_created 6))
sids-legal = all-legal _ sids-legal-each

sid-shared-rest : (p : Sending) → (p ≡ part.Sids → ⊥) → MaySend p (sent_in (both_created 5))
sid-shared-rest part.Sids ne = absurd (ne refl)
sid-shared-rest p ne = quiet-sends p (both_created 5) (calls (both_created 5).up) temp_there refl refl refl

pub sid-shared : SendsWrong part.Sids (sent_in (both_created 5))
sid-shared = (sid-shared-rest, λ h. (let f = its-sent part.Sids (both_created 5) (calls (both_created 5).up) temp_there refl refl h.0 0 1 5 5 _ _ (omega arith) refl refl (refl, refl) (refl, refl) refl in none-at f.0 f.2.0 f.2.2))

-- what an update at this place has
abbrev UpdateFor : Circuit → ℕ → Fields → Type 0
UpdateFor c k m =
    (i j cid : ℕ) × (add : Fields) × IsOpenAt (server_conduct c) k i cid (sid_in add) × IsConnected (server_conduct c) i k cid × ReadsBetween (server_conduct c) i k j add × Gives add (SubId m.p2)
    × ((l : ℕ) (r : Fields) → j < l → ReadsBetween (server_conduct c) i k l r → Is command.EventCancel r → r.p1 ≡ add.p1 → r.p2 ≢ add.p2)
    × (IsRefused (server_conduct c) j add → ⊥)

update-legal-each : (p : Sending) → MaySend p (sent_in (update_out (step 0 0 0 ∷ step 1 0 0 ∷ [])))
unfolding number16
update-legal-each part.OnChannel = sends part.OnChannel (update_out (step 0 0 0 ∷ step 1 0 0 ∷ [])) (calls (update_out (step 0 0 0 ∷ step 1 0 0 ∷ [])).up) temp_there refl refl (all-on-sid (update_out (step 0 0 0 ∷ step 1 0 0 ∷ [])) (calls (update_out (step 0 0 0 ∷ step 1 0 0 ∷ [])).up) temp_there ((adding 0 9).message) [] 1 refl refl refl refl refl refl refl) tt
update-legal-each part.Updates = sends part.Updates (update_out (step 0 0 0 ∷ step 1 0 0 ∷ [])) (calls (update_out (step 0 0 0 ∷ step 1 0 0 ∷ [])).up) temp_there refl refl (λ k m at e full. each-at (λ (i : ℕ) (z : Fields). Is command.EventAdd z → UpdateFor (update_out (step 0 0 0 ∷ step 1 0 0 ∷ [])) i z) (server_conduct (update_out (step 0 0 0 ∷ step 1 0 0 ∷ []))).sent ((λ f. absurd (omega (arith, f))), ((λ f. (0, 1, 1, (adding 0 9).message, (created_told.message, refl, (refl, refl), refl, omega arith, λ j r reads clears. none (is 12) (server_conduct (update_out (step 0 0 0 ∷ step 1 0 0 ∷ []))).came refl j r reads.1 (is-so 12 r clears.0)), (λ l m a b. absurd (omega (arith, a, b))), (1, refl, refl, omega arith, omega arith), (refl, refl), (λ l r after reads cancel. absurd (none (is 2) (server_conduct (update_out (step 0 0 0 ∷ step 1 0 0 ∷ []))).came refl l r reads.1 (is-so 2 r cancel))), unrefused (server_conduct (update_out (step 0 0 0 ∷ step 1 0 0 ∷ []))) refl 1 (adding 0 9).message)), tt)) k m at e) tt
update-legal-each p = quiet-sends p (update_out (step 0 0 0 ∷ step 1 0 0 ∷ [])) (calls (update_out (step 0 0 0 ∷ step 1 0 0 ∷ [])).up) temp_there refl refl refl

pub update-legal : Legal (sent_in (update_out (step 0 0 0 ∷ step 1 0 0 ∷ [])))
update-legal = all-legal _ update-legal-each

update-unread-rest : (p : Sending) → (p ≡ part.Updates → ⊥) → MaySend p (sent_in (update_out (step 0 0 0 ∷ [])))
unfolding number16
update-unread-rest part.Updates ne = absurd (ne refl)
update-unread-rest part.OnChannel ne = sends part.OnChannel (update_out (step 0 0 0 ∷ [])) (calls (update_out (step 0 0 0 ∷ [])).up) temp_there refl refl (all-on-sid (update_out (step 0 0 0 ∷ [])) (calls (update_out (step 0 0 0 ∷ [])).up) temp_there ((adding 0 9).message) [] 1 refl refl refl refl refl refl refl) tt
update-unread-rest p ne = quiet-sends p (update_out (step 0 0 0 ∷ [])) (calls (update_out (step 0 0 0 ∷ [])).up) temp_there refl refl refl

pub update-unread : SendsWrong part.Updates (sent_in (update_out (step 0 0 0 ∷ [])))
update-unread = (update-unread-rest, λ h. (let u = its-sent part.Updates (update_out (step 0 0 0 ∷ [])) (calls (update_out (step 0 0 0 ∷ [])).up) temp_there refl refl h.0 1 (updated 0 21).message refl refl (λ e. cc) in let b = (one-at 0 u.1 u.6.0 u.6.2).1 in let early = u.6.3 in omega (arith, b, early)))

refused-legal-each : (p : Sending) → MaySend p (sent_in (refused_out []))
unfolding number16
refused-legal-each part.OnChannel = sends part.OnChannel (refused_out []) (calls (refused_out []).up) temp_there refl refl (all-on-sid (refused_out []) (calls (refused_out []).up) temp_there ((adding 0 9).message) [] 1 refl refl refl refl refl refl refl) tt
refused-legal-each p = quiet-sends p (refused_out []) (calls (refused_out []).up) temp_there refl refl refl

pub refused-legal : Legal (sent_in (refused_out []))
refused-legal = all-legal _ refused-legal-each

refused-updated-rest : (p : Sending) → (p ≡ part.Updates → ⊥) → MaySend p (sent_in (refused_out (updated 0 21 ∷ [])))
unfolding number16
refused-updated-rest part.Updates ne = absurd (ne refl)
refused-updated-rest part.OnChannel ne = sends part.OnChannel (refused_out (updated 0 21 ∷ [])) (calls (refused_out (updated 0 21 ∷ [])).up) temp_there refl refl (all-on-sid (refused_out (updated 0 21 ∷ [])) (calls (refused_out (updated 0 21 ∷ [])).up) temp_there ((adding 0 9).message) [] 1 refl refl refl refl refl refl refl) tt
refused-updated-rest p ne = quiet-sends p (refused_out (updated 0 21 ∷ [])) (calls (refused_out (updated 0 21 ∷ [])).up) temp_there refl refl refl

added-fits : HeaderFits (header_of (adding 0 9).message)
unfolding number16
added-fits = record { command = omega arith; data_type = omega arith; size = (let n : length (adding 0 9).message.payload ≡ 16 = refl in omega (arith, n)); count = omega arith; p1 = omega arith; p2 = omega arith }

-- the ERROR quotes the EVENT_ADD
is-refused : (more : List Told) → IsRefused (server_conduct (refused_out more)) 1 (adding 0 9).message
is-refused more = (
  1,
  1,
  refused.message,
  refl,
  refl,
  omega arith,
  (refl, (header_of (adding 0 9).message, header_spelling (header_of (adding 0 9).message), replicate 8 0, header-spells (header_of (adding 0 9).message) added-fits, refl, refl, refl)),
  λ c at. absurd (let w = At-within (0 ∷ 1 ∷ []) 2 c at in omega (arith, w)),
)

pub refused-updated : SendsWrong part.Updates (sent_in (refused_out (updated 0 21 ∷ [])))
refused-updated = (
  refused-updated-rest,
  λ h.
      (let u = its-sent part.Updates (refused_out (updated 0 21 ∷ [])) (calls (refused_out (updated 0 21 ∷ [])).up) temp_there refl refl h.0 2 (updated 0 21).message refl refl (λ f. cc) in
      let add = each-at (λ (i : ℕ) (z : Fields). Is command.EventAdd z → (i ≡ 1) × (z ≡ (adding 0 9).message)) (creating.message ∷ (adding 0 9).message ∷ []) ((λ f. absurd (omega (arith, f))), ((λ f. (refl, refl)), tt)) u.1 u.3 u.6.1 u.7.0 in
      u.9 (subst (λ (z : ℕ × Fields). IsRefused (server_conduct (refused_out (updated 0 21 ∷ []))) z.0 z.1) (λ i. (sym add.0 i, sym add.1 i)) (is-refused (updated 0 21 ∷ [])))),
)

-- what a confirmation at this place has
abbrev ConfirmFor : Circuit → ℕ → Fields → Type 0
ConfirmFor c k m =
    (j : ℕ) × (r : Fields) × At (server_conduct c).came j r × At (server_conduct c).read j k × Is command.EventCancel r × (r.p1 ≡ m.p1) × (r.p2 ≡ m.p2)

confirm-legal-each : (p : Sending) → MaySend p (sent_in (confirm_out (step 0 0 0 ∷ step 1 0 0 ∷ step 1 0 0 ∷ [])))
unfolding number16
confirm-legal-each part.OnChannel = sends part.OnChannel (confirm_out (step 0 0 0 ∷ step 1 0 0 ∷ step 1 0 0 ∷ [])) (calls (confirm_out (step 0 0 0 ∷ step 1 0 0 ∷ step 1 0 0 ∷ [])).up) temp_there refl refl (all-on-sid (confirm_out (step 0 0 0 ∷ step 1 0 0 ∷ step 1 0 0 ∷ [])) (calls (confirm_out (step 0 0 0 ∷ step 1 0 0 ∷ step 1 0 0 ∷ [])).up) temp_there ((adding 0 9).message) (cancelling.message ∷ []) 1 refl refl refl refl refl refl refl) tt
confirm-legal-each part.Cancels = sends part.Cancels (confirm_out (step 0 0 0 ∷ step 1 0 0 ∷ step 1 0 0 ∷ [])) (calls (confirm_out (step 0 0 0 ∷ step 1 0 0 ∷ step 1 0 0 ∷ [])).up) temp_there refl refl (cancel-for (confirm_out (step 0 0 0 ∷ step 1 0 0 ∷ step 1 0 0 ∷ [])) refl) tt
confirm-legal-each part.Confirmations = sends part.Confirmations (confirm_out (step 0 0 0 ∷ step 1 0 0 ∷ step 1 0 0 ∷ [])) (calls (confirm_out (step 0 0 0 ∷ step 1 0 0 ∷ step 1 0 0 ∷ [])).up) temp_there refl refl (λ k m at e empty. each-at (λ (i : ℕ) (z : Fields). Is command.EventAdd z → ConfirmFor (confirm_out (step 0 0 0 ∷ step 1 0 0 ∷ step 1 0 0 ∷ [])) i z) (server_conduct (confirm_out (step 0 0 0 ∷ step 1 0 0 ∷ step 1 0 0 ∷ []))).sent ((λ f. absurd (omega (arith, f))), ((λ f. (2, cancelling.message, refl, refl, refl, refl, refl)), tt)) k m at e) tt
confirm-legal-each p = quiet-sends p (confirm_out (step 0 0 0 ∷ step 1 0 0 ∷ step 1 0 0 ∷ [])) (calls (confirm_out (step 0 0 0 ∷ step 1 0 0 ∷ step 1 0 0 ∷ [])).up) temp_there refl refl refl

pub confirm-legal : Legal (sent_in (confirm_out (step 0 0 0 ∷ step 1 0 0 ∷ step 1 0 0 ∷ [])))
confirm-legal = all-legal _ confirm-legal-each

confirm-unread-rest : (p : Sending) → (p ≡ part.Confirmations → ⊥) → MaySend p (sent_in (confirm_out (step 0 0 0 ∷ step 1 0 0 ∷ [])))
unfolding number16
confirm-unread-rest part.Confirmations ne = absurd (ne refl)
confirm-unread-rest part.OnChannel ne = sends part.OnChannel (confirm_out (step 0 0 0 ∷ step 1 0 0 ∷ [])) (calls (confirm_out (step 0 0 0 ∷ step 1 0 0 ∷ [])).up) temp_there refl refl (all-on-sid (confirm_out (step 0 0 0 ∷ step 1 0 0 ∷ [])) (calls (confirm_out (step 0 0 0 ∷ step 1 0 0 ∷ [])).up) temp_there ((adding 0 9).message) (cancelling.message ∷ []) 1 refl refl refl refl refl refl refl) tt
confirm-unread-rest part.Cancels ne = sends part.Cancels (confirm_out (step 0 0 0 ∷ step 1 0 0 ∷ [])) (calls (confirm_out (step 0 0 0 ∷ step 1 0 0 ∷ [])).up) temp_there refl refl (cancel-for (confirm_out (step 0 0 0 ∷ step 1 0 0 ∷ [])) refl) tt
confirm-unread-rest p ne = quiet-sends p (confirm_out (step 0 0 0 ∷ step 1 0 0 ∷ [])) (calls (confirm_out (step 0 0 0 ∷ step 1 0 0 ∷ [])).up) temp_there refl refl refl

pub confirm-unread : SendsWrong part.Confirmations (sent_in (confirm_out (step 0 0 0 ∷ step 1 0 0 ∷ [])))
confirm-unread = (confirm-unread-rest, λ h. (let f = its-sent part.Confirmations (confirm_out (step 0 0 0 ∷ step 1 0 0 ∷ [])) (calls (confirm_out (step 0 0 0 ∷ step 1 0 0 ∷ [])).up) temp_there refl refl h.0 1 _ refl refl refl in let two = each-at (λ (i : ℕ) (z : Fields). Is command.EventCancel z → i ≡ 2) (server_conduct (confirm_out (step 0 0 0 ∷ step 1 0 0 ∷ []))).came ((λ e. absurd (omega (arith, e))), ((λ e. absurd (omega (arith, e))), ((λ e. refl), tt))) f.0 f.1 f.2 f.4 in let w = At-within (server_conduct (confirm_out (step 0 0 0 ∷ step 1 0 0 ∷ []))).read f.0 1 f.3 in omega (arith, two, w)))

-- an id is given again: the cancel's confirmation was read after n messages
added-each : (n : ℕ) (p : Sending) → (p ≡ part.Ids → ⊥) → MaySend p (sent_in (added_after n))
unfolding number16
added-each n part.Ids ne = absurd (ne refl)
added-each n part.OnChannel ne = sends part.OnChannel (added_after n) (calls (added_after n).up) temp_there refl refl (all-on-sid (added_after n) (calls (added_after n).up) temp_there ((adding 0 9).message) (cancelling.message ∷ (adding 1 9).message ∷ []) 1 refl refl refl refl refl refl refl) tt
added-each n part.Cancels ne = sends part.Cancels (added_after n) (calls (added_after n).up) temp_there refl refl (λ k m at e. each-at (λ (i : ℕ) (z : Fields). Is command.EventCancel z → (l : ℕ) × (add : Fields) × At (client_conduct (added_after n)).sent l add × Is command.EventAdd add × (l < i) × (add.p1 ≡ z.p1) × (add.p2 ≡ z.p2) × IsUncancelled (client_conduct (added_after n)) l i add) (client_conduct (added_after n)).sent (
  (λ f. absurd (omega (arith, f))),
  ((λ f. absurd (omega (arith, f))), ((λ f. (1, (adding 0 9).message, refl, refl, omega arith, refl, refl, λ i s after early. absurd (omega (arith, after, early)))), ((λ f. absurd (omega (arith, f))), tt))),
) k m at e) tt
added-each n part.Confirmations ne = sends part.Confirmations (added_after n) (calls (added_after n).up) temp_there refl refl (λ k m at e empty. each-at (λ (i : ℕ) (z : Fields). Is command.EventAdd z → ConfirmFor (added_after n) i z) (server_conduct (added_after n)).sent ((λ f. absurd (omega (arith, f))), ((λ f. (2, cancelling.message, refl, refl, refl, refl, refl)), tt)) k m at e) tt
added-each n p ne = quiet-sends p (added_after n) (calls (added_after n).up) temp_there refl refl refl

-- the confirmation frees the id that was cancelled
added-free : IsFree (client_conduct (added_after 3)) 1 3
added-free = (1, 3, (adding 0 9).message, cancel_reply cancelling.message, refl, refl, refl, omega arith, omega arith, inr (inr (inl (refl, inl (refl, refl, refl, λ u. u 2 cancelling.message (omega arith) (omega arith) refl refl refl refl)))))

add-at : (l : ℕ) (r : Fields) → At (client_conduct (added_after 3)).sent l r → Is command.EventAdd r → (l ≡ 1) ⊎ (l ≡ 3)
add-at l r at is = each-at (λ (i : ℕ) (z : Fields). Is command.EventAdd z → (i ≡ 1) ⊎ (i ≡ 3)) (client_conduct (added_after 3)).sent ((λ f. absurd (omega (arith, f))), ((λ f. inl refl), ((λ f. absurd (omega (arith, f))), ((λ f. inr refl), tt)))) l r at is

added-ids : (l k : ℕ) (r m : Fields) (a b : Id) → l < k → At (client_conduct (added_after 3)).sent l r → At (client_conduct (added_after 3)).sent k m → Gives r a → Gives m b → SameIndex a b → IsFree (client_conduct (added_after 3)) l k
added-ids l k r m (SubId a) (SubId b) lt p q g h same = elim (add-at l r p g.0) [
  | inl i ↦ elim (add-at k m q h.0) [
    | inl j ↦ absurd (omega (arith, i, j, lt))
    | inr j ↦ subst (λ (z : ℕ). IsFree (client_conduct (added_after 3)) z k) (sym i) (subst (λ (z : ℕ). IsFree (client_conduct (added_after 3)) 1 z) (sym j) added-free)
  ]
  | inr i ↦ elim (add-at k m q h.0) [
    | inl j ↦ absurd (omega (arith, i, j, lt))
    | inr j ↦ absurd (omega (arith, i, j, lt))
  ]
]
added-ids l k r m (Cid a) (Cid b) lt p q g h same =
    let create : (i : ℕ) (z : Fields) → At (client_conduct (added_after 3)).sent i z → Is command.CreateChannel z → i ≡ 0 =
    λ i z at is. each-at (λ (i : ℕ) (z : Fields). Is command.CreateChannel z → i ≡ 0) (client_conduct (added_after 3)).sent ((λ f. refl), ((λ f. absurd (omega (arith, f))), ((λ f. absurd (omega (arith, f))), ((λ f. absurd (omega (arith, f))), tt)))) i z at is in
    let j = create k m q h.0 in
    absurd (omega (arith, j, lt))
added-ids l k r m (Ioid a) b lt p q g h same =
    absurd (each-at (λ (i : ℕ) (z : Fields). (Is command.ReadNotify z ⊎ Is command.WriteNotify z) → ⊥) (client_conduct (added_after 3)).sent (
      (λ f. elim f [ inl e ↦ omega (arith, e) | inr e ↦ omega (arith, e) ]),
      ((λ f. elim f [ inl e ↦ omega (arith, e) | inr e ↦ omega (arith, e) ]), ((λ f. elim f [ inl e ↦ omega (arith, e) | inr e ↦ omega (arith, e) ]), ((λ f. elim f [ inl e ↦ omega (arith, e) | inr e ↦ omega (arith, e) ]), tt))),
    ) l r p g.0)
added-ids l k r m (Cid a) (Ioid b) lt p q g h same = absurd same
added-ids l k r m (Cid a) (SubId b) lt p q g h same = absurd same
added-ids l k r m (SubId a) (Cid b) lt p q g h same = absurd same
added-ids l k r m (SubId a) (Ioid b) lt p q g h same = absurd same

added-legal-each : (p : Sending) → MaySend p (sent_in (added_after 3))
added-legal-each part.Ids = sends part.Ids (added_after 3) (calls (added_after 3).up) temp_there refl refl added-ids tt
added-legal-each p = added-each 3 p (λ e. cc)

pub added-legal : Legal (sent_in (added_after 3))
added-legal = all-legal _ added-legal-each

-- a confirmation frees no subscription id that was not cancelled by then
not-confirmed : (e : Conduct) (b : ℕ) (r m : Fields) → r.command ≡ 1 → m.command ≡ 1 → b ≡ 2 → Frees e 1 b r m → ⊥
not-confirmed e b r m add says two h =
    elim h [
      | inl a ↦ (let f = a.0 in omega (arith, f, add))
      | inr (inl a) ↦ elim a.0 [
        | inl f ↦ omega (arith, f, add)
        | inr f ↦ omega (arith, f, add)
      ]
      | inr (inr (inl a)) ↦ elim a.1 [
        | inl d ↦ d.3 (λ i s after early. absurd (omega (arith, after, early, two)))
        | inr d ↦ (let f = d.0.0 in omega (arith, f, says))
      ]
      | inr (inr (inr a)) ↦ (let f = a.4 in omega (arith, f, says))
    ]

pub added-too-soon : SendsWrong part.Ids (sent_in (added_after 2))
added-too-soon = (
  added-each 2,
  λ h.
      (let e = client_conduct (added_after 2) in
      let f = its-sent part.Ids (added_after 2) (calls (added_after 2).up) temp_there refl refl h.0 1 3 (adding 0 9).message (adding 1 9).message (SubId 9) (SubId 9) (omega arith) refl refl (refl, refl) (refl, refl) refl in
      let add : f.2.command ≡ 1 = ap (λ (m : Fields). m.command) (sym (some_is (adding 0 9).message f.2 f.4)) in
      let late = f.7 in
      let says = each-at (λ (j : ℕ) (m : Fields). At (1 ∷ 2 ∷ []) j f.1 → (m.command ≡ 1) × (f.1 ≡ 2)) (client_conduct (added_after 2)).came ((λ at. absurd (let one = some_is 1 f.1 at in omega (arith, one, late))), ((λ at. (refl, sym (some_is 2 f.1 at))), tt)) f.0 f.3 f.5 f.6 in
      not-confirmed e f.1 f.2 f.3 add says.0 says.1 f.9),
)

-- a CID is given again: the reply to the clear was read after n messages
asked-on : (n : ℕ) → SentSo part.OnChannel 0 (asked_after n) (calls (asked_after n).up) temp_there
asked-on n = λ k r at on. each-at (λ (i : ℕ) (z : Fields). IsOnChannel z → (p q cid : ℕ) × HasChannel (client_conduct (asked_after n)) i p q cid (sid_in z)
    × ((Is command.ClearChannel z × (z.p2 ≡ cid)) ⊎ ((Is command.ClearChannel z → ⊥) × ((l : ℕ) (d : Fields) → q < l → ReadsBetween (client_conduct (asked_after n)) p i l d → IsDisconnect cid d → ⊥)))) (client_conduct (asked_after n)).sent (
      (λ f. absurd (clash (on-channel-so creating.message f) refl)),
      (
        (λ f. (0, 0, 1, (creating.message, created_told.message, refl, (refl, refl), (1, refl, refl, omega arith, omega arith), (refl, refl), refl, λ l d late early there clears. absurd (omega (arith, late, early))), inl (refl, refl))),
        ((λ f. absurd (clash (on-channel-so (asked_with 1).message f) refl)), tt),
      ),
    ) k r at on

asked-each : (n : ℕ) (p : Sending) → (p ≡ part.Ids → ⊥) → MaySend p (sent_in (asked_after n))
asked-each n part.Ids ne = absurd (ne refl)
asked-each n part.OnChannel ne = sends part.OnChannel (asked_after n) (calls (asked_after n).up) temp_there refl refl (asked-on n) tt
asked-each n p ne = quiet-sends p (asked_after n) (calls (asked_after n).up) temp_there refl refl refl

-- the reply frees the CID that was cleared
asked-free : IsFree (client_conduct (asked_after 2)) 0 2
asked-free = (1, 2, creating.message, cleared_reply clearing.message, refl, refl, refl, omega arith, omega arith, inl (refl, inr (refl, refl, (1, clearing.message, omega arith, omega arith, refl, refl, refl))))

asked-ids : (l k : ℕ) (r m : Fields) (a b : Id) → l < k → At (client_conduct (asked_after 2)).sent l r → At (client_conduct (asked_after 2)).sent k m → Gives r a → Gives m b → SameIndex a b → IsFree (client_conduct (asked_after 2)) l k
asked-ids l k r m (Cid a) (Cid b) lt p q g h same =
    let create : (i : ℕ) (z : Fields) → At (client_conduct (asked_after 2)).sent i z → Is command.CreateChannel z → (i ≡ 0) ⊎ (i ≡ 2) =
    λ i z at is. each-at (λ (i : ℕ) (z : Fields). Is command.CreateChannel z → (i ≡ 0) ⊎ (i ≡ 2)) (client_conduct (asked_after 2)).sent ((λ f. inl refl), ((λ f. absurd (omega (arith, f))), ((λ f. inr refl), tt))) i z at is in
    elim (create l r p g.0) [
      | inl i ↦ elim (create k m q h.0) [
        | inl j ↦ absurd (omega (arith, i, j, lt))
        | inr j ↦ subst (λ (z : ℕ). IsFree (client_conduct (asked_after 2)) z k) (sym i) (subst (λ (z : ℕ). IsFree (client_conduct (asked_after 2)) 0 z) (sym j) asked-free)
      ]
      | inr i ↦ elim (create k m q h.0) [
        | inl j ↦ absurd (omega (arith, i, j, lt))
        | inr j ↦ absurd (omega (arith, i, j, lt))
      ]
    ]
asked-ids l k r m (Ioid a) b lt p q g h same =
    absurd (each-at (λ (i : ℕ) (z : Fields). (Is command.ReadNotify z ⊎ Is command.WriteNotify z) → ⊥) (client_conduct (asked_after 2)).sent (
      (λ f. elim f [ inl e ↦ omega (arith, e) | inr e ↦ omega (arith, e) ]),
      ((λ f. elim f [ inl e ↦ omega (arith, e) | inr e ↦ omega (arith, e) ]), ((λ f. elim f [ inl e ↦ omega (arith, e) | inr e ↦ omega (arith, e) ]), tt)),
    ) l r p g.0)
asked-ids l k r m (SubId a) b lt p q g h same =
    absurd (each-at (λ (i : ℕ) (z : Fields). Is command.EventAdd z → ⊥) (client_conduct (asked_after 2)).sent ((λ f. omega (arith, f)), ((λ f. omega (arith, f)), ((λ f. omega (arith, f)), tt))) l r p g.0)
asked-ids l k r m (Cid a) (Ioid b) lt p q g h same = absurd same
asked-ids l k r m (Cid a) (SubId b) lt p q g h same = absurd same

asked-legal-each : (p : Sending) → MaySend p (sent_in (asked_after 2))
asked-legal-each part.Ids = sends part.Ids (asked_after 2) (calls (asked_after 2).up) temp_there refl refl asked-ids tt
asked-legal-each p = asked-each 2 p (λ e. cc)

pub asked-legal : Legal (sent_in (asked_after 2))
asked-legal = all-legal _ asked-legal-each

-- a reply to a clear frees no CID that was not cleared by then
not-cleared : (e : Conduct) (b : ℕ) (r m : Fields) → r.command ≡ 18 → m.command ≡ 12 → b ≡ 1 → Frees e 0 b r m → ⊥
not-cleared e b r m creates says one h =
    elim h [
      | inl a ↦ elim a.1 [
        | inl d ↦ (let f = d.0 in omega (arith, f, says))
        | inr d ↦ (let after = d.2.2 in let early = d.2.3 in omega (arith, after, early, one))
      ]
      | inr (inl a) ↦ elim a.0 [
        | inl f ↦ omega (arith, f, creates)
        | inr f ↦ omega (arith, f, creates)
      ]
      | inr (inr (inl a)) ↦ (let f = a.0 in omega (arith, f, creates))
      | inr (inr (inr a)) ↦ (let after = a.6.2 in let early = a.6.3 in omega (arith, after, early, one))
    ]

pub asked-too-soon : SendsWrong part.Ids (sent_in (asked_after 1))
asked-too-soon = (
  asked-each 1,
  λ h.
      (let e = client_conduct (asked_after 1) in
      let f = its-sent part.Ids (asked_after 1) (calls (asked_after 1).up) temp_there refl refl h.0 0 2 creating.message (asked_with 1).message (Cid 1) (Cid 1) (omega arith) refl refl (refl, refl) (refl, refl) refl in
      let creates : f.2.command ≡ 18 = ap (λ (m : Fields). m.command) (sym (some_is creating.message f.2 f.4)) in
      first-reply e f.0 f.1 f.2 f.3 creates f.5 f.6 f.9),
)
  where
    -- the creation's reply frees nothing, nor what was read then
    first-reply : (e : Conduct) (j b : ℕ) (r m : Fields) → r.command ≡ 18 → At (created_told.message ∷ cleared_reply clearing.message ∷ []) j m → At (1 ∷ 1 ∷ []) j b → Frees e 0 b r m → ⊥
    first-reply e j b r m creates at_m at_b frees = elim (two-at created_told.message (cleared_reply clearing.message) j m at_m) [
      | inl first ↦
          let says : m.command ≡ 18 = ap (λ (z : Fields). z.command) first.1 in
          elim frees [
            | inl a ↦ elim a.1 [
              | inl d ↦ (let f = d.0 in omega (arith, f, says))
              | inr d ↦ (let f = d.0 in omega (arith, f, says))
            ]
            | inr (inl a) ↦ elim a.0 [
              | inl f ↦ omega (arith, f, creates)
              | inr f ↦ omega (arith, f, creates)
            ]
            | inr (inr (inl a)) ↦ (let f = a.0 in omega (arith, f, creates))
            | inr (inr (inr a)) ↦ (let f = a.4 in omega (arith, f, says))
          ]
      | inr second ↦
          let one : b ≡ 1 = sym (some_is 1 b (subst (λ (k : ℕ). At (1 ∷ 1 ∷ []) k b) second.0 at_b)) in
          not-cleared e b r m creates (ap (λ (z : Fields). z.command) second.1) one frees
    ]

-- the CID is given again, and no CLEAR_CHANNEL was sent
never-clear : (b cid : ℕ) → HasCleared (client_conduct never_cleared) 0 b cid → ⊥
never-clear b cid h = each-at (λ (i : ℕ) (z : Fields). Is command.ClearChannel z → ⊥) (client_conduct never_cleared).sent ((λ f. omega (arith, f)), ((λ f. omega (arith, f)), ((λ f. omega (arith, f)), tt))) h.0 h.1 h.4 h.5

never-on : SentSo part.OnChannel 0 never_cleared (calls never_cleared.up) temp_there
never-on = λ k r at on. each-at (λ (i : ℕ) (z : Fields). IsOnChannel z → (p q cid : ℕ) × HasChannel (client_conduct never_cleared) i p q cid (sid_in z)
    × ((Is command.ClearChannel z × (z.p2 ≡ cid)) ⊎ ((Is command.ClearChannel z → ⊥) × ((l : ℕ) (d : Fields) → q < l → ReadsBetween (client_conduct never_cleared) p i l d → IsDisconnect cid d → ⊥)))) (client_conduct never_cleared).sent (
      (λ f. absurd (clash (on-channel-so creating.message f) refl)),
      (
        (λ f. on-sid (client_conduct never_cleared) 1 refl refl refl (omega arith) refl refl 1 (reading 0 1).message refl (omega arith) refl),
        ((λ f. absurd (clash (on-channel-so (asked_with 1).message f) refl)), tt),
      ),
    ) k r at on

never-cleared-rest : (p : Sending) → (p ≡ part.Ids → ⊥) → MaySend p (sent_in never_cleared)
never-cleared-rest part.Ids ne = absurd (ne refl)
never-cleared-rest part.OnChannel ne = sends part.OnChannel never_cleared (calls never_cleared.up) temp_there refl refl never-on tt
never-cleared-rest p ne = quiet-sends p never_cleared (calls never_cleared.up) temp_there refl refl refl

-- so nothing frees the CID but a CREATE_CH_FAIL
not-freed-uncleared : (b : ℕ) (r m : Fields) → r.command ≡ 18 → (m.command ≡ 26 → ⊥) → Frees (client_conduct never_cleared) 0 b r m → ⊥
not-freed-uncleared b r m creates says h =
    elim h [
      | inl a ↦ elim a.1 [
        | inl d ↦ says d.0
        | inr d ↦ never-clear b r.p1 d.2
      ]
      | inr (inl a) ↦ elim a.0 [
        | inl f ↦ omega (arith, f, creates)
        | inr f ↦ omega (arith, f, creates)
      ]
      | inr (inr (inl a)) ↦ (let f = a.0 in omega (arith, f, creates))
      | inr (inr (inr a)) ↦ never-clear b a.2 a.6
    ]

pub never-cleared : SendsWrong part.Ids (sent_in never_cleared)
never-cleared = (
  never-cleared-rest,
  λ h.
      (let f = its-sent part.Ids never_cleared (calls never_cleared.up) temp_there refl refl h.0 0 2 creating.message (asked_with 1).message (Cid 1) (Cid 1) (omega arith) refl refl (refl, refl) (refl, refl) refl in
      let creates : f.2.command ≡ 18 = ap (λ (m : Fields). m.command) (sym (some_is creating.message f.2 f.4)) in
      let says : f.3.command ≡ 26 → ⊥ = each-at (λ (j : ℕ) (m : Fields). m.command ≡ 26 → ⊥) (client_conduct never_cleared).came ((λ e. omega (arith, e)), ((λ e. omega (arith, e)), tt)) f.0 f.3 f.5 in
      not-freed-uncleared f.1 f.2 f.3 creates says f.9),
)

gone-legal-each : (p : Sending) → MaySend p (sent_in (told_so (created_told ∷ disconnected ∷ [])))
gone-legal-each part.Disconnects = sends part.Disconnects (told_so (created_told ∷ disconnected ∷ [])) (calls (told_so (created_told ∷ disconnected ∷ [])).up) temp_there refl refl (λ k m at e. each-at (λ (i : ℕ) (z : Fields). Is command.ServerDisconnect z → (a sid : ℕ) × IsOpenAt (server_conduct (told_so (created_told ∷ disconnected ∷ []))) i a z.p1 sid × IsConnected (server_conduct (told_so (created_told ∷ disconnected ∷ []))) a i z.p1) (server_conduct (told_so (created_told ∷ disconnected ∷ []))).sent ((λ f. absurd (omega (arith, f))), ((λ f. (0, 5, (created_told.message, refl, (refl, refl), refl, omega arith, λ j r reads clears. none (is 12) (server_conduct (told_so (created_told ∷ disconnected ∷ []))).came refl j r reads.1 (is-so 12 r clears.0)), λ l m a b. absurd (omega (arith, a, b)))), tt)) k m at e) tt
gone-legal-each p = quiet-sends p (told_so (created_told ∷ disconnected ∷ [])) (calls (told_so (created_told ∷ disconnected ∷ [])).up) temp_there refl refl refl

pub gone-legal : Legal (sent_in (told_so (created_told ∷ disconnected ∷ [])))
gone-legal = all-legal _ gone-legal-each

gone-uncreated-rest : (p : Sending) → (p ≡ part.Disconnects → ⊥) → MaySend p (sent_in (told_so (disconnected ∷ [])))
gone-uncreated-rest part.Disconnects ne = absurd (ne refl)
gone-uncreated-rest p ne = quiet-sends p (told_so (disconnected ∷ [])) (calls (told_so (disconnected ∷ [])).up) temp_there refl refl refl

pub gone-uncreated : SendsWrong part.Disconnects (sent_in (told_so (disconnected ∷ [])))
gone-uncreated = (gone-uncreated-rest, λ h. (let d = its-sent part.Disconnects (told_so (disconnected ∷ [])) (calls (told_so (disconnected ∷ [])).up) temp_there refl refl h.0 0 disconnected.message refl refl in let e = d.2.4 in omega (arith, e)))

gone-twice-rest : (p : Sending) → (p ≡ part.Disconnects → ⊥) → MaySend p (sent_in (told_so (created_told ∷ disconnected ∷ disconnected ∷ [])))
gone-twice-rest part.Disconnects ne = absurd (ne refl)
gone-twice-rest p ne = quiet-sends p (told_so (created_told ∷ disconnected ∷ disconnected ∷ [])) (calls (told_so (created_told ∷ disconnected ∷ disconnected ∷ [])).up) temp_there refl refl refl

pub gone-twice : SendsWrong part.Disconnects (sent_in (told_so (created_told ∷ disconnected ∷ disconnected ∷ [])))
gone-twice = (gone-twice-rest, λ h. (let d = its-sent part.Disconnects (told_so (created_told ∷ disconnected ∷ disconnected ∷ [])) (calls (told_so (created_told ∷ disconnected ∷ disconnected ∷ [])).up) temp_there refl refl h.0 2 disconnected.message refl refl in let first = each-at (λ (i : ℕ) (z : Fields). Creates z d.1 → i < 1) (server_conduct (told_so (created_told ∷ disconnected ∷ disconnected ∷ []))).sent ((λ e. omega arith), ((λ e. (let f = e.0 in absurd (omega (arith, f)))), ((λ e. (let f = e.0 in absurd (omega (arith, f)))), tt))) d.0 d.2.0 d.2.1 d.2.2 in d.3 1 disconnected.message (omega (arith, first)) (omega arith) refl (refl, refl)))

closed-untold-each : (p : Sending) → MaySend p (world (told_closed (created_told ∷ []) ∷ []) opened temp_removed)
closed-untold-each part.OnChannel = quiet-sends part.OnChannel (told_closed (created_told ∷ [])) opened temp_removed refl refl refl
closed-untold-each p = quiet-sends p (told_closed (created_told ∷ [])) opened temp_removed refl refl refl

pub closed-untold : Legal (world (told_closed (created_told ∷ []) ∷ []) opened temp_removed)
closed-untold = all-legal _ closed-untold-each

removed-untold-rest : (p : Sending) → (p ≡ part.ToldRemoved → ⊥) → MaySend p (world (told_so (created_told ∷ []) ∷ []) opened temp_removed)
removed-untold-rest part.ToldRemoved ne = absurd (ne refl)
removed-untold-rest p ne = quiet-sends p (told_so (created_told ∷ [])) opened temp_removed refl refl refl

pub removed-untold : SendsWrong part.ToldRemoved (world (told_so (created_told ∷ []) ∷ []) opened temp_removed)
removed-untold = (removed-untold-rest, λ h. (let t = its-sent part.ToldRemoved (told_so (created_told ∷ [])) opened temp_removed refl refl h.0 0 0 5 0 1 (created-here (told_so (created_told ∷ [])) temp_removed refl refl refl refl (only-added (Added 0 temp ∷ []) 0 refl)) refl (uncleared (told_so (created_told ∷ [])) 1 refl) refl in let e = (one-at created_told t.0 t.1 t.2).1 in let f : created_told.cause ≡ t.1.cause = ap (λ (u : Told). u.cause) (sym e) in let g = t.4 in cc))

-- ---- a write of its value, a cancel, a clear and a creation

write-legal-each : (p : Sending) → MaySend p (called_in (write_called 22) (goes_out (writing ∷ [])))
unfolding signed_bytes_4
write-legal-each part.OnChannel = sends part.OnChannel (goes_out (writing ∷ [])) (write_called 22) temp_there refl refl (all-on-sid (goes_out (writing ∷ [])) (write_called 22) temp_there (writing.message) [] 1 refl refl refl refl refl refl refl) tt
write-legal-each p = quiet-sends p (goes_out (writing ∷ [])) (write_called 22) temp_there refl refl refl

pub write-legal : Legal (called_in (write_called 22) (goes_out (writing ∷ [])))
write-legal = all-legal _ write-legal-each

write-other-rest : (p : Sending) → (p ≡ part.HasCall → ⊥) → MaySend p (called_in (write_called 23) (goes_out (writing ∷ [])))
write-other-rest part.HasCall ne = absurd (ne refl)
write-other-rest part.OnChannel ne = sends part.OnChannel (goes_out (writing ∷ [])) (write_called 23) temp_there refl refl (all-on-sid (goes_out (writing ∷ [])) (write_called 23) temp_there (writing.message) [] 1 refl refl refl refl refl refl refl) tt
write-other-rest p ne = quiet-sends p (goes_out (writing ∷ [])) (write_called 23) temp_there refl refl refl

abbrev wish-of : Line → Wish
wish-of (Called i a) = a
wish-of l = Nothing

pub write-other : SendsWrong part.HasCall (called_in (write_called 23) (goes_out (writing ∷ [])))
unfolding signed_bytes_4
write-other = (
  write-other-rest,
  λ h.
      (let c = its-sent part.HasCall (goes_out (writing ∷ [])) (write_called 23) temp_there refl refl h.0 1 writing refl in
      let call = two-at (Opened 0 temp_name) (Called (On 0 (Request Write 0)) (ToWrite (long 23).value)) c.1.0 (Called (On 0 (Request Write 0)) c.0) c.1.1 in
      elim call [
        | inl first ↦ (let e : Called (On 0 (Request Write 0)) c.0 ≡ Opened 0 temp_name = first.1 in cc)
        | inr second ↦
            let carries : Carries writing.message (long 23).value = subst (λ (a : Wish). AsksFor writing.message a) (ap wish-of second.1) c.3 in
            let byte : ◌≡◌ {A = ℕ} 22 23 = ap (λ (l : List ℕ). get_or l 3 0) carries.payload in
            omega (arith, byte)
      ]),
)

cancel-uncalled-rest : (p : Sending) → (p ≡ part.HasCall → ⊥) → MaySend p (called_in (calls (creating ∷ adding 0 9 ∷ [])) (goes_out (adding 0 9 ∷ cancelling ∷ [])))
cancel-uncalled-rest part.HasCall ne = absurd (ne refl)
cancel-uncalled-rest part.OnChannel ne = sends part.OnChannel (goes_out (adding 0 9 ∷ cancelling ∷ [])) (calls (creating ∷ adding 0 9 ∷ [])) temp_there refl refl (all-on-sid (goes_out (adding 0 9 ∷ cancelling ∷ [])) (calls (creating ∷ adding 0 9 ∷ [])) temp_there ((adding 0 9).message) (cancelling.message ∷ []) 1 refl refl refl refl refl refl refl) tt
cancel-uncalled-rest part.Cancels ne = sends part.Cancels (goes_out (adding 0 9 ∷ cancelling ∷ [])) (calls (creating ∷ adding 0 9 ∷ [])) temp_there refl refl (cancel-for (goes_out (adding 0 9 ∷ cancelling ∷ [])) refl) tt
cancel-uncalled-rest p ne = quiet-sends p (goes_out (adding 0 9 ∷ cancelling ∷ [])) (calls (creating ∷ adding 0 9 ∷ [])) temp_there refl refl refl

pub cancel-uncalled : SendsWrong part.HasCall (called_in (calls (creating ∷ adding 0 9 ∷ [])) (goes_out (adding 0 9 ∷ cancelling ∷ [])))
cancel-uncalled = (
  cancel-uncalled-rest,
  λ h.
      (let c = its-sent part.HasCall (goes_out (adding 0 9 ∷ cancelling ∷ [])) (calls (creating ∷ adding 0 9 ∷ [])) temp_there refl refl h.0 2 cancelling refl in
      each-at (λ (i : ℕ) (l : Line). l ≡ Called (On 0 (Cancel 0)) c.0 → ⊥) (calls (creating ∷ adding 0 9 ∷ [])) ((λ e. cc), ((λ e. cc), tt)) c.1.0 _ c.1.1 refl),
)

-- A CLEAR_CHANNEL goes out on the channel, once the creation's reply was read.
clear-on-sid : (c : Circuit) (x : List Line) (y : List Entry) → (client_conduct c).sent ≡ creating.message ∷ clearing.message ∷ [] → At (client_conduct c).came 0 created_told.message → At (client_conduct c).read 0 1 → SentSo part.OnChannel 0 c x y
clear-on-sid c x y sent came read = λ k r at on. each-at (λ (i : ℕ) (z : Fields). IsOnChannel z → (p q cid : ℕ) × HasChannel (client_conduct c) i p q cid (sid_in z)
    × ((Is command.ClearChannel z × (z.p2 ≡ cid)) ⊎ ((Is command.ClearChannel z → ⊥) × ((l : ℕ) (d : Fields) → q < l → ReadsBetween (client_conduct c) p i l d → IsDisconnect cid d → ⊥)))) (creating.message ∷ clearing.message ∷ []) (
      (λ first. absurd (clash (on-channel-so creating.message first) refl)),
      ((λ first. (0, 0, 1, (creating.message, created_told.message, subst (λ (l : List Fields). At l 0 creating.message) (sym sent) refl, (refl, refl), (1, came, read, omega arith, omega arith), (refl, refl), refl, λ l d late early there clears. absurd (omega (arith, late, early))), inl (refl, refl))), tt),
    ) k r (subst (λ (l : List Fields). At l k r) sent at) on

clear-legal-each : (p : Sending) → MaySend p (sent_in (goes_out (clearing ∷ [])))
clear-legal-each part.OnChannel = sends part.OnChannel (goes_out (clearing ∷ [])) (calls (goes_out (clearing ∷ [])).up) temp_there refl refl (clear-on-sid (goes_out (clearing ∷ [])) (calls (goes_out (clearing ∷ [])).up) temp_there refl refl refl) tt
clear-legal-each p = quiet-sends p (goes_out (clearing ∷ [])) (calls (goes_out (clearing ∷ [])).up) temp_there refl refl refl

pub clear-legal : Legal (sent_in (goes_out (clearing ∷ [])))
clear-legal = all-legal _ clear-legal-each

clear-uncalled-rest : (p : Sending) → (p ≡ part.HasCall → ⊥) → MaySend p (uncalled_in (goes_out (clearing ∷ [])))
clear-uncalled-rest part.HasCall ne = absurd (ne refl)
clear-uncalled-rest part.OnChannel ne = sends part.OnChannel (goes_out (clearing ∷ [])) opened temp_there refl refl (clear-on-sid (goes_out (clearing ∷ [])) opened temp_there refl refl refl) tt
clear-uncalled-rest p ne = quiet-sends p (goes_out (clearing ∷ [])) opened temp_there refl refl refl

-- nobody called it
clear-not-called : (At opened 0 (Opened 0 temp_name)) → In opened (Called (On 0 Clear) Nothing) → ⊥
clear-not-called one c = (let e : Called (On 0 Clear) Nothing ≡ Opened 0 temp_name = (one-at (Opened 0 temp_name) c.0 _ c.1).1 in cc)

pub clear-uncalled : SendsWrong part.HasCall (uncalled_in (goes_out (clearing ∷ [])))
clear-uncalled = (
  clear-uncalled-rest,
  λ h. elim (its-sent part.HasCall (goes_out (clearing ∷ [])) opened temp_there refl refl h.0 1 clearing refl) [
    | inl c ↦ clear-not-called refl c
    | inr a ↦ (let t = one-at created_told a.0 a.1 a.3 in let lost : Is command.ServerDisconnect created_told.message = subst (λ (z : Told). Is command.ServerDisconnect z.message) t.1 a.6.0 in omega (arith, lost))
  ],
)

lost-disconnects : (heard : List Step) (x : List Line) (y : List Entry) → SentSo part.Disconnects 0 (clears_lost heard) x y
lost-disconnects heard x y = λ k m at e. each-at (λ (i : ℕ) (z : Fields). Is command.ServerDisconnect z → (a sid : ℕ) × IsOpenAt (server_conduct (clears_lost heard)) i a z.p1 sid × IsConnected (server_conduct (clears_lost heard)) a i z.p1) (server_conduct (clears_lost heard)).sent (
  (λ f. absurd (omega (arith, f))),
  ((λ f. (0, 5, (created_told.message, refl, (refl, refl), refl, omega arith, λ j r reads clears. none-at j reads.0 reads.2), λ l d late early. absurd (omega (arith, late, early)))), tt),
) k m at e

clear-answers-each : (p : Sending) → MaySend p (uncalled_in (clears_lost (created_read ∷ created_read ∷ [])))
clear-answers-each part.OnChannel = sends part.OnChannel (clears_lost (created_read ∷ created_read ∷ [])) opened temp_there refl refl (clear-on-sid (clears_lost (created_read ∷ created_read ∷ [])) opened temp_there refl refl refl) tt
clear-answers-each part.Disconnects = sends part.Disconnects (clears_lost (created_read ∷ created_read ∷ [])) opened temp_there refl refl (lost-disconnects (created_read ∷ created_read ∷ []) opened temp_there) tt
clear-answers-each part.HasCall = sends part.HasCall (clears_lost (created_read ∷ created_read ∷ [])) opened temp_there refl refl
    (λ k s at. each-at (λ (i : ℕ) (z : Sent). WasCalled (clears_lost (created_read ∷ created_read ∷ [])) opened i z.intent z.message) (creating ∷ clearing ∷ []) ((0, refl), (inr (1, disconnected, created_read, refl, refl, refl, (refl, refl)), tt)) k s at) tt
clear-answers-each p = quiet-sends p (clears_lost (created_read ∷ created_read ∷ [])) opened temp_there refl refl refl

pub clear-answers : Legal (uncalled_in (clears_lost (created_read ∷ created_read ∷ [])))
clear-answers = all-legal _ clear-answers-each

clear-too-soon-rest : (p : Sending) → (p ≡ part.HasCall → ⊥) → MaySend p (uncalled_in (clears_lost (created_read ∷ [])))
clear-too-soon-rest part.HasCall ne = absurd (ne refl)
clear-too-soon-rest part.OnChannel ne = sends part.OnChannel (clears_lost (created_read ∷ [])) opened temp_there refl refl (clear-on-sid (clears_lost (created_read ∷ [])) opened temp_there refl refl refl) tt
clear-too-soon-rest part.Disconnects ne = sends part.Disconnects (clears_lost (created_read ∷ [])) opened temp_there refl refl (lost-disconnects (created_read ∷ []) opened temp_there) tt
clear-too-soon-rest p ne = quiet-sends p (clears_lost (created_read ∷ [])) opened temp_there refl refl refl

pub clear-too-soon : SendsWrong part.HasCall (uncalled_in (clears_lost (created_read ∷ [])))
clear-too-soon = (
  clear-too-soon-rest,
  λ h. elim (its-sent part.HasCall (clears_lost (created_read ∷ [])) opened temp_there refl refl h.0 1 clearing refl) [
    | inl c ↦ clear-not-called refl c
    | inr a ↦
        let first : a.0 ≡ 0 = (one-at created_read a.0 a.2 a.4).0 in
        let lost : a.0 ≡ 1 = each-at (λ (i : ℕ) (z : Told). Is command.ServerDisconnect z.message → i ≡ 1) (created_told ∷ disconnected ∷ []) ((λ e. absurd (omega (arith, e))), ((λ e. refl), tt)) a.0 a.1 a.3 a.6.0 in
        omega (arith, first, lost)
  ],
)

create-legal-each : (p : Sending) → MaySend p (called_in opened (alone creating))
create-legal-each part.HasCall = quiet-sends part.HasCall (alone creating) opened temp_there refl refl refl
create-legal-each p = quiet-sends p (alone creating) opened temp_there refl refl refl

pub create-legal : Legal (called_in opened (alone creating))
create-legal = all-legal _ create-legal-each

create-other-rest : (p : Sending) → (p ≡ part.HasCall → ⊥) → MaySend p (called_in (Opened 0 (84 ∷ []) ∷ []) (alone creating))
create-other-rest part.HasCall ne = absurd (ne refl)
create-other-rest p ne = quiet-sends p (alone creating) (Opened 0 (84 ∷ []) ∷ []) temp_there refl refl refl

abbrev name-of : Line → List ℕ
name-of (Opened a name) = name
name-of l = []

pub create-other : SendsWrong part.HasCall (called_in (Opened 0 (84 ∷ []) ∷ []) (alone creating))
create-other = (
  create-other-rest,
  λ h.
      (let c = its-sent part.HasCall (alone creating) (Opened 0 (84 ∷ []) ∷ []) temp_there refl refl h.0 0 creating refl in
      let named : name_in creating.message ≡ 84 ∷ [] = ap name-of (one-at (Opened 0 (84 ∷ [])) c.0 _ c.1).1 in
      let long_is : ◌≡◌ {A = ℕ} 4 1 = ap (λ (l : List ℕ). length l) named in
      omega (arith, long_is)),
)

-- ---- a read and a subscription, for what their calls asked

read-for-rest : (a : Wish) (p : Sending) → (p ≡ part.HasCall → ⊥) → MaySend p (called_in (read_for a) (goes_out (reading 0 7 ∷ [])))
read-for-rest a part.HasCall ne = absurd (ne refl)
read-for-rest a part.OnChannel ne = sends part.OnChannel (goes_out (reading 0 7 ∷ [])) (read_for a) temp_there refl refl (all-on-sid (goes_out (reading 0 7 ∷ [])) (read_for a) temp_there ((reading 0 7).message) [] 1 refl refl refl refl refl refl refl) tt
read-for-rest a p ne = quiet-sends p (goes_out (reading 0 7 ∷ [])) (read_for a) temp_there refl refl refl

read-for-each : (p : Sending) → MaySend p (called_in (read_for (ToRead 5 1)) (goes_out (reading 0 7 ∷ [])))
read-for-each part.HasCall = quiet-sends part.HasCall (goes_out (reading 0 7 ∷ [])) (read_for (ToRead 5 1)) temp_there refl refl refl
read-for-each p = read-for-rest (ToRead 5 1) p (λ e. cc)

pub read-for-legal : Legal (called_in (read_for (ToRead 5 1)) (goes_out (reading 0 7 ∷ [])))
read-for-legal = all-legal _ read-for-each

-- it goes out for one LONG, if it may
read-asks : (a : Wish) → MaySend part.HasCall (called_in (read_for a) (goes_out (reading 0 7 ∷ []))) → MayAsk (Request Read 0) a × AsksFor (reading 0 7).message a
read-asks a h =
    let c = its-sent part.HasCall (goes_out (reading 0 7 ∷ [])) (read_for a) temp_there refl refl h.0 1 (reading 0 7) refl in
    elim (two-at (Opened 0 temp_name) (Called (On 0 (Request Read 0)) a) c.1.0 (Called (On 0 (Request Read 0)) c.0) c.1.1) [
      | inl first ↦ absurd (let e : Called (On 0 (Request Read 0)) c.0 ≡ Opened 0 temp_name = first.1 in cc)
      | inr second ↦ subst (λ (b : Wish). MayAsk (Request Read 0) b × AsksFor (reading 0 7).message b) (ap wish-of second.1) (c.2, c.3)
    ]

pub read-of-other-type : SendsWrong part.HasCall (called_in (read_for (ToRead 6 1)) (goes_out (reading 0 7 ∷ [])))
read-of-other-type = (read-for-rest (ToRead 6 1), λ h. (let e : ◌≡◌ {A = ℕ} 5 6 = (read-asks (ToRead 6 1) h).1.0 in omega (arith, e)))

pub read-of-other-count : SendsWrong part.HasCall (called_in (read_for (ToRead 5 2)) (goes_out (reading 0 7 ∷ [])))
read-of-other-count = (read-for-rest (ToRead 5 2), λ h. (let e : ◌≡◌ {A = ℕ} 1 2 = (read-asks (ToRead 5 2) h).1.1 in omega (arith, e)))

pub read-for-nothing : SendsWrong part.HasCall (called_in (read_for Nothing) (goes_out (reading 0 7 ∷ [])))
read-for-nothing = (read-for-rest Nothing, λ h. (read-asks Nothing h).0)

add-for-rest : (a : Wish) (p : Sending) → (p ≡ part.HasCall → ⊥) → MaySend p (called_in (watch_for a) (goes_out (adding 0 9 ∷ [])))
add-for-rest a part.HasCall ne = absurd (ne refl)
add-for-rest a part.OnChannel ne = sends part.OnChannel (goes_out (adding 0 9 ∷ [])) (watch_for a) temp_there refl refl (all-on-sid (goes_out (adding 0 9 ∷ [])) (watch_for a) temp_there ((adding 0 9).message) [] 1 refl refl refl refl refl refl refl) tt
add-for-rest a p ne = quiet-sends p (goes_out (adding 0 9 ∷ [])) (watch_for a) temp_there refl refl refl

add-for-each : (p : Sending) → MaySend p (called_in (watch_for (ToWatch 5 1 1)) (goes_out (adding 0 9 ∷ [])))
unfolding number16
add-for-each part.HasCall = quiet-sends part.HasCall (goes_out (adding 0 9 ∷ [])) (watch_for (ToWatch 5 1 1)) temp_there refl refl refl
add-for-each p = add-for-rest (ToWatch 5 1 1) p (λ e. cc)

pub add-for-legal : Legal (called_in (watch_for (ToWatch 5 1 1)) (goes_out (adding 0 9 ∷ [])))
add-for-legal = all-legal _ add-for-each

-- it goes out for one LONG, by VALUE
add-asks : (a : Wish) → MaySend part.HasCall (called_in (watch_for a) (goes_out (adding 0 9 ∷ []))) → AsksFor (adding 0 9).message a
add-asks a h =
    let c = its-sent part.HasCall (goes_out (adding 0 9 ∷ [])) (watch_for a) temp_there refl refl h.0 1 (adding 0 9) refl in
    elim (two-at (Opened 0 temp_name) (Called (On 0 (Subscribe 0)) a) c.1.0 (Called (On 0 (Subscribe 0)) c.0) c.1.1) [
      | inl first ↦ absurd (let e : Called (On 0 (Subscribe 0)) c.0 ≡ Opened 0 temp_name = first.1 in cc)
      | inr second ↦ subst (λ (b : Wish). AsksFor (adding 0 9).message b) (ap wish-of second.1) c.3
    ]

pub add-of-other-type : SendsWrong part.HasCall (called_in (watch_for (ToWatch 6 1 1)) (goes_out (adding 0 9 ∷ [])))
add-of-other-type = (add-for-rest (ToWatch 6 1 1), λ h. (let e : ◌≡◌ {A = ℕ} 5 6 = (add-asks (ToWatch 6 1 1) h).0 in omega (arith, e)))

pub add-of-other-count : SendsWrong part.HasCall (called_in (watch_for (ToWatch 5 2 1)) (goes_out (adding 0 9 ∷ [])))
add-of-other-count = (add-for-rest (ToWatch 5 2 1), λ h. (let e : ◌≡◌ {A = ℕ} 1 2 = (add-asks (ToWatch 5 2 1) h).1 in omega (arith, e)))

pub add-by-other-mask : SendsWrong part.HasCall (called_in (watch_for (ToWatch 5 1 4)) (goes_out (adding 0 9 ∷ [])))
add-by-other-mask = (add-for-rest (ToWatch 5 1 4), λ h. (let e : ◌≡◌ {A = ℕ} 1 4 = sym (mask-is 0 9) ∙ (add-asks (ToWatch 5 1 4) h).2 in omega (arith, e)))

-- ---- ids on two circuits

abbrev other-circuit : ℕ → Bool → Circuit
other-circuit cid stays = record (alone (asked_with cid)) { client_open = stays }

-- what is said of each of two circuits, of the log, and of the world
pair-send : (p : Sending) (d : Circuit) (x : List Line) → d.client ≡ 0 → d.server ≡ 0 → ((n : ℕ) → SentSo p n (alone creating) x temp_there) → ((n : ℕ) → SentSo p n d x temp_there) → CalledSo p (world (alone creating ∷ d ∷ []) x temp_there) 0 x
    → HeldSo p (world (alone creating ∷ d ∷ []) x temp_there) → MaySend p (world (alone creating ∷ d ∷ []) x temp_there)
pair-send p d x client server one two called held = (
  λ n c at. elim (two-at (alone creating) d n c at) [
    | inl first ↦ (
      x,
      temp_there,
      (at, subst (λ (v : Circuit). At (x ∷ []) v.client x) (sym first.1) refl, subst (λ (v : Circuit). At (temp_there ∷ []) v.server temp_there) (sym first.1) refl),
      subst (λ (v : Circuit). SentSo p n v x temp_there) (sym first.1) (one n),
    )
    | inr second ↦ (
      x,
      temp_there,
      (
        at,
        subst (λ (v : Circuit). At (x ∷ []) v.client x) (sym second.1) (subst (λ (k : ℕ). At (x ∷ []) k x) (sym client) refl),
        subst (λ (v : Circuit). At (temp_there ∷ []) v.server temp_there) (sym second.1) (subst (λ (k : ℕ). At (temp_there ∷ []) k temp_there) (sym server) refl),
      ),
      subst (λ (v : Circuit). SentSo p n v x temp_there) (sym second.1) (two n),
    )
  ],
  (λ life z at. (let e = one-at x life z at in subst (λ (v : List Line). CalledSo p (world (alone creating ∷ d ∷ []) x temp_there) life v) (sym e.1) (subst (λ (m : ℕ). CalledSo p (world (alone creating ∷ d ∷ []) x temp_there) m x) (sym e.0) called))),
  held,
)

two-send : (p : Sending) (cid : ℕ) (stays : Bool) → ((n : ℕ) → SentSo p n (alone creating) (calls (creating ∷ asked_with cid ∷ [])) temp_there) → ((n : ℕ) → SentSo p n (other-circuit cid stays) (calls (creating ∷ asked_with cid ∷ [])) temp_there)
    → CalledSo p (two_circuits cid stays) 0 (calls (creating ∷ asked_with cid ∷ [])) → HeldSo p (two_circuits cid stays) → MaySend p (two_circuits cid stays)
two-send p cid stays one two called held = pair-send p (other-circuit cid stays) (calls (creating ∷ asked_with cid ∷ [])) refl refl one two called held

-- every part but that of ids on two circuits
two-rest : (p : Sending) (cid : ℕ) (stays : Bool) → (p ≡ part.IdsApart → ⊥) → MaySend p (two_circuits cid stays)
two-rest part.IdsApart cid stays ne = absurd (ne refl)
two-rest part.HasAdd cid stays ne = two-send part.HasAdd cid stays (λ n. tt) (λ n. tt) (λ channel number h. absurd (each-at (λ (i : ℕ) (l : Line). l ≡ Called (On channel (Subscribe number)) h.0 → ⊥) (calls (creating ∷ asked_with cid ∷ [])) ((λ e. cc), ((λ e. cc), tt)) h.1.0 _ h.1.1 refl)) tt
two-rest p cid stays ne = two-send p cid stays (λ n. quiet-sent p (alone creating) (calls (creating ∷ asked_with cid ∷ [])) temp_there refl) (λ n. quiet-sent p (other-circuit cid stays) (calls (creating ∷ asked_with cid ∷ [])) temp_there refl) tt tt

-- the places of two circuits, and what is sent there
two-places : (n m l k : ℕ) (c d : Circuit) (s r : Sent) (cid : ℕ) (stays : Bool) → n < m → At (two_circuits cid stays).circuits n c → At (two_circuits cid stays).circuits m d → At c.up l s → At d.up k r
    → (s ≡ creating) × (r ≡ asked_with cid) × (d ≡ other-circuit cid stays)
two-places n m l k c d s r cid stays lt at_c at_d at_s at_r = elim (two-at (alone creating) (other-circuit cid stays) m d at_d) [
  | inl first ↦ (let e = first.0 in absurd (omega (arith, lt, e)))
  | inr second ↦ elim (two-at (alone creating) (other-circuit cid stays) n c at_c) [
    | inr both ↦ (let e = both.0 in let f = second.0 in absurd (omega (arith, lt, e, f)))
    | inl first ↦ (
      (one-at creating l s (subst (λ (v : Circuit). At v.up l s) first.1 at_s)).1,
      (one-at (asked_with cid) k r (subst (λ (v : Circuit). At v.up k r) second.1 at_r)).1,
      second.1,
    )
  ]
]

-- they give two CIDs
apart-ids : (a b : Id) → Gives creating.message a → Gives (asked_with 2).message b → SameIndex a b → ⊥
apart-ids (Cid a) (Cid b) p q same = (let e = p.1 in let f = q.1 in omega (arith, e, f, same))
apart-ids (Ioid a) b p q same = elim p.0 [ inl e ↦ omega (arith, e) | inr e ↦ omega (arith, e) ]
apart-ids (SubId a) b p q same = (let e = p.0 in omega (arith, e))
apart-ids (Cid a) (Ioid b) p q same = absurd same
apart-ids (Cid a) (SubId b) p q same = absurd same

cids-apart-each : (p : Sending) → MaySend p (two_circuits 2 true)
cids-apart-each part.IdsApart = two-send part.IdsApart 2 true (λ n. tt) (λ n. tt) tt (λ n m l k c d s r a b lt at_c at_d same open_c open_d at_s at_r gives_s gives_r index.
    let at = two-places n m l k c d s r 2 true lt at_c at_d at_s at_r in
    absurd (apart-ids a b (subst (λ (z : Sent). Gives z.message a) at.0 gives_s) (subst (λ (z : Sent). Gives z.message b) at.1 gives_r) index))
cids-apart-each p = two-rest p 2 true (λ e. cc)

pub cids-apart : Legal (two_circuits 2 true)
cids-apart = all-legal _ cids-apart-each

cids-ended-each : (p : Sending) → MaySend p (two_circuits 1 false)
cids-ended-each part.IdsApart = two-send part.IdsApart 1 false (λ n. tt) (λ n. tt) tt (λ n m l k c d s r a b lt at_c at_d same open_c open_d at_s at_r gives_s gives_r index.
    let at = two-places n m l k c d s r 1 false lt at_c at_d at_s at_r in
    absurd (clash (sym (ap (λ (e : Circuit). e.client_open) at.2) ∙ open_d) refl))
cids-ended-each p = two-rest p 1 false (λ e. cc)

pub cids-ended : Legal (two_circuits 1 false)
cids-ended = all-legal _ cids-ended-each

pub cids-shared : SendsWrong part.IdsApart (two_circuits 1 true)
cids-shared = (
  (λ p ne. two-rest p 1 true ne),
  λ h. elim (h.2 0 1 0 0 (alone creating) (other-circuit 1 true) creating (asked_with 1) (Cid 1) (Cid 1) (omega arith) refl refl refl refl refl refl refl (refl, refl) (refl, refl) refl) [
    | inl free ↦ none-at free.0 free.3 free.5
    | inr free ↦ none-at free.0 free.3 free.5
  ],
)

-- an ECHO goes out before the channel is asked for
abbrev later-circuit : Circuit
later-circuit = circuit (echo ∷ asked_with 2 ∷ []) [] [] []

abbrev later-lines : List Line
later-lines = calls (creating ∷ asked_with 2 ∷ [])

echo-gives : (b : Id) → Gives echo.message b → ⊥
echo-gives (Cid n) g = (let e = g.0 in omega (arith, e))
echo-gives (Ioid n) g = elim g.0 [ inl e ↦ omega (arith, e) | inr e ↦ omega (arith, e) ]
echo-gives (SubId n) g = (let e = g.0 in omega (arith, e))

later-apart : (n m l k : ℕ) (c d : Circuit) (s r : Sent) (a b : Id) → n < m → At echo_first.circuits n c → At echo_first.circuits m d → At c.up l s → At d.up k r → Gives s.message a → Gives r.message b → SameIndex a b → ⊥
later-apart n m l k c d s r a b lt at_c at_d at_s at_r gives_s gives_r index = elim (two-at (alone creating) later-circuit m d at_d) [
  | inl first ↦ (let e = first.0 in omega (arith, lt, e))
  | inr second ↦ elim (two-at (alone creating) later-circuit n c at_c) [
    | inr both ↦ (let e = both.0 in let f = second.0 in omega (arith, lt, e, f))
    | inl first ↦
        let one : s ≡ creating = (one-at creating l s (subst (λ (v : Circuit). At v.up l s) first.1 at_s)).1 in
        elim (two-at echo (asked_with 2) k r (subst (λ (v : Circuit). At v.up k r) second.1 at_r)) [
          | inl e ↦ echo-gives b (subst (λ (z : Sent). Gives z.message b) e.1 gives_r)
          | inr e ↦ apart-ids a b (subst (λ (z : Sent). Gives z.message a) one gives_s) (subst (λ (z : Sent). Gives z.message b) e.1 gives_r) index
        ]
  ]
]

later-each : (p : Sending) → MaySend p echo_first
later-each part.IdsApart = pair-send part.IdsApart later-circuit later-lines refl refl (λ n. tt) (λ n. tt) tt (λ n m l k c d s r a b lt at_c at_d same open_c open_d at_s at_r gives_s gives_r index. absurd (later-apart n m l k c d s r a b lt at_c at_d at_s at_r gives_s gives_r index))
later-each part.HasAdd = pair-send part.HasAdd later-circuit later-lines refl refl (λ n. tt) (λ n. tt) (λ channel number h. absurd (each-at (λ (i : ℕ) (l : Line). l ≡ Called (On channel (Subscribe number)) h.0 → ⊥) later-lines ((λ e. cc), ((λ e. cc), tt)) h.1.0 _ h.1.1 refl)) tt
later-each p = pair-send p later-circuit later-lines refl refl (λ n. quiet-sent p (alone creating) later-lines temp_there refl) (λ n. quiet-sent p later-circuit later-lines temp_there refl) tt tt

pub cids-later : Legal echo_first
cids-later = all-legal _ later-each

-- ---- subscriptions

adds-legal-each : (p : Sending) → MaySend p (sent_in (goes_out (adding 0 9 ∷ adding 1 10 ∷ [])))
unfolding number16
adds-legal-each part.OnChannel = sends part.OnChannel (goes_out (adding 0 9 ∷ adding 1 10 ∷ [])) (calls (goes_out (adding 0 9 ∷ adding 1 10 ∷ [])).up) temp_there refl refl (all-on-sid (goes_out (adding 0 9 ∷ adding 1 10 ∷ [])) (calls (goes_out (adding 0 9 ∷ adding 1 10 ∷ [])).up) temp_there ((adding 0 9).message) ((adding 1 10).message ∷ []) 1 refl refl refl refl refl refl refl) tt
adds-legal-each p = quiet-sends p (goes_out (adding 0 9 ∷ adding 1 10 ∷ [])) (calls (goes_out (adding 0 9 ∷ adding 1 10 ∷ [])).up) temp_there refl refl refl

pub adds-legal : Legal (sent_in (goes_out (adding 0 9 ∷ adding 1 10 ∷ [])))
adds-legal = all-legal _ adds-legal-each

adds-uncalled-rest : (p : Sending) → (p ≡ part.HasCall → ⊥) → MaySend p (uncalled_in (goes_out (adding 0 9 ∷ adding 1 10 ∷ [])))
adds-uncalled-rest part.HasCall ne = absurd (ne refl)
adds-uncalled-rest part.OnChannel ne = sends part.OnChannel (goes_out (adding 0 9 ∷ adding 1 10 ∷ [])) opened temp_there refl refl (all-on-sid (goes_out (adding 0 9 ∷ adding 1 10 ∷ [])) opened temp_there ((adding 0 9).message) ((adding 1 10).message ∷ []) 1 refl refl refl refl refl refl refl) tt
adds-uncalled-rest p ne = quiet-sends p (goes_out (adding 0 9 ∷ adding 1 10 ∷ [])) opened temp_there refl refl refl

pub adds-uncalled : SendsWrong part.HasCall (uncalled_in (goes_out (adding 0 9 ∷ adding 1 10 ∷ [])))
adds-uncalled = (adds-uncalled-rest, λ h. (let c = its-sent part.HasCall (goes_out (adding 0 9 ∷ adding 1 10 ∷ [])) opened temp_there refl refl h.0 1 (adding 0 9) refl in let e : Called (On 0 (Subscribe 0)) c.0 ≡ Opened 0 temp_name = (one-at (Opened 0 temp_name) c.1.0 _ c.1.1).1 in cc))

added-twice-rest : (p : Sending) → (p ≡ part.Apart → ⊥) → MaySend p (sent_in (goes_out (adding 0 9 ∷ adding 0 10 ∷ [])))
unfolding number16
added-twice-rest part.Apart ne = absurd (ne refl)
added-twice-rest part.OnChannel ne = sends part.OnChannel (goes_out (adding 0 9 ∷ adding 0 10 ∷ [])) (calls (goes_out (adding 0 9 ∷ adding 0 10 ∷ [])).up) temp_there refl refl (all-on-sid (goes_out (adding 0 9 ∷ adding 0 10 ∷ [])) (calls (goes_out (adding 0 9 ∷ adding 0 10 ∷ [])).up) temp_there ((adding 0 9).message) ((adding 0 10).message ∷ []) 1 refl refl refl refl refl refl refl) tt
added-twice-rest p ne = quiet-sends p (goes_out (adding 0 9 ∷ adding 0 10 ∷ [])) (calls (goes_out (adding 0 9 ∷ adding 0 10 ∷ [])).up) temp_there refl refl refl

pub added-twice : SendsWrong part.Apart (sent_in (goes_out (adding 0 9 ∷ adding 0 10 ∷ [])))
added-twice = (added-twice-rest, λ h. (let p = its-sent part.Apart (goes_out (adding 0 9 ∷ adding 0 10 ∷ [])) (calls (goes_out (adding 0 9 ∷ adding 0 10 ∷ [])).up) temp_there refl refl h.0 1 2 0 0 (omega arith) (adding 0 9, refl, refl) (adding 0 10, refl, refl) in let after = p.1 in let early = p.2 in omega (arith, after, early)))

abbrev intent-of : Line → Intent
intent-of (Called i e) = i
intent-of l = On 0 Create

-- the subscription that was called
called-is : (channel number i : ℕ) (a : Wish) → At subscribe_called i (Called (On channel (Subscribe number)) a) → On 0 (Subscribe 1) ≡ On channel (Subscribe number)
called-is channel number i a at = each-at (λ (k : ℕ) (l : Line). l ≡ Called (On channel (Subscribe number)) a → On 0 (Subscribe 1) ≡ On channel (Subscribe number)) subscribe_called ((λ e. absurd cc), ((λ e. ap intent-of e), tt)) i _ at refl

cancelled-is : (channel number i : ℕ) (a : Wish) → At cancel_called i (Called (On channel (Subscribe number)) a) → On 0 (Subscribe 1) ≡ On channel (Subscribe number)
cancelled-is channel number i a at = each-at (λ (k : ℕ) (l : Line). l ≡ Called (On channel (Subscribe number)) a → On 0 (Subscribe 1) ≡ On channel (Subscribe number)) cancel_called ((λ e. absurd cc), ((λ e. ap intent-of e), ((λ e. absurd (let f : On 0 (Cancel 1) ≡ On channel (Subscribe number) = ap intent-of e in cc)), tt))) i _ at refl

called-legal-each : (p : Sending) → MaySend p (world (called_at 1 (adding 1 9 ∷ []) ∷ []) subscribe_called temp_there)
unfolding number16
called-legal-each part.OnChannel = sends part.OnChannel (called_at 1 (adding 1 9 ∷ [])) subscribe_called temp_there refl refl (all-on-sid (called_at 1 (adding 1 9 ∷ [])) subscribe_called temp_there ((adding 1 9).message) [] 1 refl refl refl refl refl refl refl) tt
called-legal-each part.HasAdd = sends part.HasAdd (called_at 1 (adding 1 9 ∷ [])) subscribe_called temp_there refl refl tt (λ channel number h. (0, 1, (called_at 1 (adding 1 9 ∷ []), refl, refl, (adding 1 9, refl, called-is channel number h.1.0 h.0 h.1.1))))
called-legal-each p = quiet-sends p (called_at 1 (adding 1 9 ∷ [])) subscribe_called temp_there refl refl refl

pub called-legal : Legal (world (called_at 1 (adding 1 9 ∷ []) ∷ []) subscribe_called temp_there)
called-legal = all-legal _ called-legal-each

called-unsent-rest : (p : Sending) → (p ≡ part.HasAdd → ⊥) → MaySend p (world (called_at 1 [] ∷ []) subscribe_called temp_there)
called-unsent-rest part.HasAdd ne = absurd (ne refl)
called-unsent-rest p ne = quiet-sends p (called_at 1 []) subscribe_called temp_there refl refl refl

pub called-unsent : SendsWrong part.HasAdd (world (called_at 1 [] ∷ []) subscribe_called temp_there)
called-unsent = (called-unsent-rest, λ h. (let a = h.1 0 subscribe_called refl 0 1 (ToWatch 5 1 1, (1, refl)) in let c = one-at (called_at 1 []) a.0 a.2.0 a.2.1 in let s = one-at creating a.1 a.2.3.0 (subst (λ (d : Circuit). At d.up a.1 a.2.3.0) c.1 a.2.3.1) in (let e : On 0 Create ≡ On 0 (Subscribe 1) = sym (ap (λ (z : Sent). z.intent) s.1) ∙ a.2.3.2 in cc)))

-- The subscription was called, and neither ended nor told of, in the first two lines.
held-yet : (channel number : ℕ) → IsHeld subscribe_called (On channel (Subscribe number)) × ((o : Outcome) → In subscribe_called (Noticed (On channel (Subscribe number)) o) → ⊥)
held-yet channel number = (
  (
    (λ g. each-at (λ (k : ℕ) (l : Line). l ≡ Called (On channel Clear) Nothing → ⊥) subscribe_called ((λ e. cc), ((λ e. (let f : On 0 (Subscribe 1) ≡ On channel Clear = ap intent-of e in cc)), tt)) g.0 _ g.1 refl),
    (λ g. each-at (λ (k : ℕ) (l : Line). l ≡ Called (On channel (Cancel number)) Nothing → ⊥) subscribe_called ((λ e. cc), ((λ e. (let f : On 0 (Subscribe 1) ≡ On channel (Cancel number) = ap intent-of e in cc)), tt)) g.0 _ g.1 refl),
  ),
  λ o g. each-at (λ (k : ℕ) (l : Line). l ≡ Noticed (On channel (Subscribe number)) o → ⊥) subscribe_called ((λ e. cc), ((λ e. cc), tt)) g.0 _ g.1 refl,
)

cancelled-later-legal-each : (p : Sending) → MaySend p (world (called_at 2 (adding 1 9 ∷ []) ∷ []) cancel_called temp_there)
unfolding number16
cancelled-later-legal-each part.OnChannel = sends part.OnChannel (called_at 2 (adding 1 9 ∷ [])) cancel_called temp_there refl refl (all-on-sid (called_at 2 (adding 1 9 ∷ [])) cancel_called temp_there ((adding 1 9).message) [] 1 refl refl refl refl refl refl refl) tt
cancelled-later-legal-each part.HasAdd = sends part.HasAdd (called_at 2 (adding 1 9 ∷ [])) cancel_called temp_there refl refl tt (λ channel number h. (0, 1, ((called_at 2 (adding 1 9 ∷ [])), refl, refl, (adding 1 9, refl, cancelled-is channel number h.1.0 h.0 h.1.1))))
cancelled-later-legal-each part.Anew = sends part.Anew (called_at 2 (adding 1 9 ∷ [])) cancel_called temp_there refl refl (λ channel k number h live standing. (let g : step 1 2 2 ≡ h = sym (one-at (step 1 2 2) live.0 h live.8).1 in let j = (one-at created_told live.0 live.2 live.4) in let k0 : 0 ≡ k = sym (ap (λ (t : Told). t.place) j.1) ∙ live.5 in subst (λ (n : ℕ). (l : ℕ) × (h.sent ≤ l) × Meant (called_at 2 (adding 1 9 ∷ [])) l (On channel (Subscribe number)) × ((p : ℕ) → n < p → p < l → Meant (called_at 2 (adding 1 9 ∷ [])) p (On channel Create) → ⊥)) k0 (1, subst (λ (z : Step). z.sent ≤ 1) g (omega arith), (adding 1 9, refl, called-is channel number standing.0.1.0 standing.0.0 (subst (λ (z : Step). At (take z.logged cancel_called) standing.0.1.0 (Called (On channel (Subscribe number)) standing.0.0)) (sym g) standing.0.1.1)), λ p a b. absurd (omega (arith, a, b))))) tt
cancelled-later-legal-each part.Ended = sends part.Ended (called_at 2 (adding 1 9 ∷ [])) cancel_called temp_there refl refl (λ channel k l number h live lt meant. (let g : step 1 2 2 ≡ h = sym (one-at (step 1 2 2) live.0 h live.8).1 in subst (λ (z : Step). IsHeld (take z.logged cancel_called) (On channel (Subscribe number)) × ((o : Outcome) → In (take z.logged cancel_called) (Noticed (On channel (Subscribe number)) o) → ⊥)) g (held-yet channel number))) tt
cancelled-later-legal-each p = quiet-sends p (called_at 2 (adding 1 9 ∷ [])) cancel_called temp_there refl refl refl

pub cancelled-later-legal : Legal (world (called_at 2 (adding 1 9 ∷ []) ∷ []) cancel_called temp_there)
cancelled-later-legal = all-legal _ cancelled-later-legal-each

abbrev cancel-of : Intent → Intent
cancel-of (On channel (Subscribe number)) = On channel (Cancel number)
cancel-of i = i

-- the subscription was cancelled by then
cancelled-then : (channel number : ℕ) → IsStanding cancel_called (On channel (Subscribe number)) → ⊥
cancelled-then channel number s =
    let i : On 0 (Cancel 1) ≡ On channel (Cancel number) = ap cancel-of (cancelled-is channel number s.0.1.0 s.0.0 s.0.1.1) in
    s.1.1 (2, subst (λ (d : Intent). At (Opened 0 temp_name ∷ Called (On 0 (Subscribe 1)) (ToWatch 5 1 1) ∷ Called (On 0 (Cancel 1)) Nothing ∷ []) 2 (Called d Nothing)) i refl)

not-standing : (channel number : ℕ) (h : Step) → step 1 3 3 ≡ h → IsStanding (take h.logged cancel_called) (On channel (Subscribe number)) → ⊥
not-standing channel number h g standing = cancelled-then channel number (subst (λ (z : Step). IsStanding (take z.logged cancel_called) (On channel (Subscribe number))) (sym g) standing)

added-cancelled-rest : (p : Sending) → (p ≡ part.Ended → ⊥) → MaySend p (world (called_at 3 (adding 1 9 ∷ []) ∷ []) cancel_called temp_there)
unfolding number16
added-cancelled-rest part.Ended ne = absurd (ne refl)
added-cancelled-rest part.OnChannel ne = sends part.OnChannel (called_at 3 (adding 1 9 ∷ [])) cancel_called temp_there refl refl (all-on-sid (called_at 3 (adding 1 9 ∷ [])) cancel_called temp_there ((adding 1 9).message) [] 1 refl refl refl refl refl refl refl) tt
added-cancelled-rest part.HasAdd ne = sends part.HasAdd (called_at 3 (adding 1 9 ∷ [])) cancel_called temp_there refl refl tt (λ channel number h. (0, 1, ((called_at 3 (adding 1 9 ∷ [])), refl, refl, (adding 1 9, refl, cancelled-is channel number h.1.0 h.0 h.1.1))))
added-cancelled-rest part.Anew ne = sends part.Anew (called_at 3 (adding 1 9 ∷ [])) cancel_called temp_there refl refl (λ channel k number h live standing. absurd (not-standing channel number h (sym (one-at (step 1 3 3) live.0 h live.8).1) standing)) tt
added-cancelled-rest p ne = quiet-sends p (called_at 3 (adding 1 9 ∷ [])) cancel_called temp_there refl refl refl

pub added-cancelled : SendsWrong part.Ended (world (called_at 3 (adding 1 9 ∷ []) ∷ []) cancel_called temp_there)
added-cancelled = (added-cancelled-rest, λ h. (let e = its-sent part.Ended (called_at 3 (adding 1 9 ∷ [])) cancel_called temp_there refl refl h.0 0 0 1 1 (step 1 3 3) (0, 5, created_told, (creating, refl, refl), refl, refl, refl, (refl, refl), refl) (omega arith) (adding 1 9, refl, refl) in e.0.1 (2, refl)))

-- what a message on a channel has
abbrev SentOn : Circuit → ℕ → Fields → Type 0
SentOn c k m =
    (i j cid : ℕ) × HasChannel (client_conduct c) k i j cid (sid_in m) × ((Is command.ClearChannel m × (m.p2 ≡ cid))
    ⊎ ((Is command.ClearChannel m → ⊥) × ((l : ℕ) (r : Fields) → j < l → ReadsBetween (client_conduct c) i k l r → IsDisconnect cid r → ⊥)))

-- which creation a step tells live
abbrev AddedAfter : Circuit → (k channel number : ℕ) → Step → Type 0
AddedAfter c k channel number h =
    (l : ℕ) × (h.sent ≤ l) × Meant c l (On channel (Subscribe number)) × ((p : ℕ) → k < p → p < l → Meant c p (On channel Create) → ⊥)

added-after : (k channel number : ℕ) (h : Step) → BecomesLive (live_again (added_again ∷ [])) channel k h → On 0 (Subscribe 1) ≡ On channel (Subscribe number) → AddedAfter (live_again (added_again ∷ [])) k channel number h
added-after k channel number h live is =
    each-at (λ (j : ℕ) (t : Told). (g : Step) → t.place ≡ k → At (step 1 2 2 ∷ step 3 2 2 ∷ []) j g → AddedAfter (live_again (added_again ∷ [])) k channel number g) (created_told ∷ created_again ∷ []) (
      (λ g place at. subst (λ (z : Step). AddedAfter (live_again (added_again ∷ [])) k channel number z) (some_is (step 1 2 2) g at) (subst (λ (n : ℕ). AddedAfter (live_again (added_again ∷ [])) n channel number (step 1 2 2)) place (1, omega arith, (adding 1 9, refl, is), λ p a b. absurd (omega (arith, a, b))))),
      ((λ g place at. subst (λ (z : Step). AddedAfter (live_again (added_again ∷ [])) k channel number z) (some_is (step 3 2 2) g at) (subst (λ (n : ℕ). AddedAfter (live_again (added_again ∷ [])) n channel number (step 3 2 2)) place (3, omega arith, (added_again, refl, is), λ p a b. absurd (omega (arith, a, b))))), tt),
    ) live.0 live.2 live.4 h live.5 live.8

-- Of a subscription there is an EVENT_ADD before, and one after, the second creation.
add-places : (k : ℕ) (s : Sent) (channel number : ℕ) → At (live_again (added_again ∷ [])).up k s → s.intent ≡ On channel (Subscribe number) → ((k ≡ 1) ⊎ (k ≡ 3)) × (channel ≡ 0)
add-places k s channel number at is =
    each-at (λ (i : ℕ) (z : Sent). z.intent ≡ On channel (Subscribe number) → ((i ≡ 1) ⊎ (i ≡ 3)) × (channel ≡ 0)) (live_again (added_again ∷ [])).up (
      (λ e. absurd cc),
      ((λ e. (inl refl, sym (ap channel-of e))), ((λ e. absurd cc), ((λ e. (inr refl, sym (ap channel-of e))), tt))),
    ) k s at is

between : (k l channel number : ℕ) → k < l → Meant (live_again (added_again ∷ [])) k (On channel (Subscribe number)) → Meant (live_again (added_again ∷ [])) l (On channel (Subscribe number)) → (p : ℕ) × (k < p) × (p < l) × Meant (live_again (added_again ∷ [])) p (On channel Create)
between k l channel number lt a b =
    let p = add-places k a.0 channel number a.1 a.2 in
    let q = add-places l b.0 channel number b.1 b.2 in
    let made : Meant (live_again (added_again ∷ [])) 2 (On channel Create) = (asked_again, refl, ap (λ (n : ℕ). On n Create) (sym p.1)) in
    elim p.0 [
      | inl first ↦ elim q.0 [
        | inl e ↦ absurd (omega (arith, first, e, lt))
        | inr e ↦ (2, omega (arith, first), omega (arith, e), made)
      ]
      | inr last ↦ elim q.0 [
        | inl e ↦ absurd (omega (arith, last, e, lt))
        | inr e ↦ absurd (omega (arith, last, e, lt))
      ]
    ]

again-legal-each : (p : Sending) → MaySend p (world (live_again (added_again ∷ []) ∷ []) subscribe_called temp_there)
unfolding number16
again-legal-each part.OnChannel = sends part.OnChannel (live_again (added_again ∷ [])) subscribe_called temp_there refl refl (λ k m at o. each-at (λ (i : ℕ) (z : Fields). IsOnChannel z → SentOn (live_again (added_again ∷ [])) i z) (client_conduct (live_again (added_again ∷ []))).sent ((λ f. absurd (let e : false ≡ true = on-channel-so creating.message f in cc)), ((λ f. on-sid (client_conduct (live_again (added_again ∷ []))) 1 refl refl refl (omega arith) refl refl 1 (adding 1 9).message refl (omega arith) refl), ((λ f. absurd (let e : false ≡ true = on-channel-so asked_again.message f in cc)), ((λ f. (2, 1, 2, (asked_again.message, created_again.message, refl, (refl, refl), (3, refl, refl, omega arith, omega arith), (refl, refl), refl, λ l r after before here clears same. none (is 12) (client_conduct (live_again (added_again ∷ []))).sent refl l r here (is-so 12 r clears.0)), inr ((λ e. omega (arith, e)), (λ l r after reads d. none (is 27) (client_conduct (live_again (added_again ∷ []))).came refl l r reads.1 (is-so 27 r d.0))))), tt)))) k m at o) tt
again-legal-each part.HasAdd = sends part.HasAdd (live_again (added_again ∷ [])) subscribe_called temp_there refl refl tt (λ channel number h. (0, 1, ((live_again (added_again ∷ [])), refl, refl, (adding 1 9, refl, called-is channel number h.1.0 h.0 h.1.1))))
again-legal-each part.Ended = sends part.Ended (live_again (added_again ∷ [])) subscribe_called temp_there refl refl (λ channel k l number h live lt meant. each-at (λ (i : ℕ) (z : Step). IsHeld (take z.logged subscribe_called) (On channel (Subscribe number)) × ((o : Outcome) → In (take z.logged subscribe_called) (Noticed (On channel (Subscribe number)) o) → ⊥)) (step 1 2 2 ∷ step 3 2 2 ∷ []) (held-yet channel number, (held-yet channel number, tt)) live.0 h live.8) tt
again-legal-each part.Apart = sends part.Apart (live_again (added_again ∷ [])) subscribe_called temp_there refl refl between tt
again-legal-each part.Anew = sends part.Anew (live_again (added_again ∷ [])) subscribe_called temp_there refl refl (λ channel k number h live standing. added-after k channel number h live (each-at (λ (j : ℕ) (g : Step). At (take g.logged subscribe_called) standing.0.1.0 (Called (On channel (Subscribe number)) standing.0.0) → On 0 (Subscribe 1) ≡ On channel (Subscribe number)) (step 1 2 2 ∷ step 3 2 2 ∷ []) ((λ e. called-is channel number standing.0.1.0 standing.0.0 e), ((λ e. called-is channel number standing.0.1.0 standing.0.0 e), tt)) live.0 h live.8 standing.0.1.1)) tt
again-legal-each p = quiet-sends p (live_again (added_again ∷ [])) subscribe_called temp_there refl refl refl

pub again-legal : Legal (world (live_again (added_again ∷ []) ∷ []) subscribe_called temp_there)
again-legal = all-legal _ again-legal-each

not-added-again-rest : (p : Sending) → (p ≡ part.Anew → ⊥) → MaySend p (world (live_again [] ∷ []) subscribe_called temp_there)
unfolding number16
not-added-again-rest part.Anew ne = absurd (ne refl)
not-added-again-rest part.OnChannel ne = sends part.OnChannel (live_again []) subscribe_called temp_there refl refl (λ k m at o. each-at (λ (i : ℕ) (z : Fields). IsOnChannel z → SentOn (live_again []) i z) (client_conduct (live_again [])).sent ((λ f. absurd (let e : false ≡ true = on-channel-so creating.message f in cc)), ((λ f. on-sid (client_conduct (live_again [])) 1 refl refl refl (omega arith) refl refl 1 (adding 1 9).message refl (omega arith) refl), ((λ f. absurd (let e : false ≡ true = on-channel-so asked_again.message f in cc)), tt))) k m at o) tt
not-added-again-rest part.HasAdd ne = sends part.HasAdd (live_again []) subscribe_called temp_there refl refl tt (λ channel number h. (0, 1, ((live_again []), refl, refl, (adding 1 9, refl, called-is channel number h.1.0 h.0 h.1.1))))
not-added-again-rest part.Ended ne = sends part.Ended (live_again []) subscribe_called temp_there refl refl (λ channel k l number h live lt meant. each-at (λ (i : ℕ) (z : Step). IsHeld (take z.logged subscribe_called) (On channel (Subscribe number)) × ((o : Outcome) → In (take z.logged subscribe_called) (Noticed (On channel (Subscribe number)) o) → ⊥)) (step 1 2 2 ∷ step 3 2 2 ∷ []) (held-yet channel number, (held-yet channel number, tt)) live.0 h live.8) tt
not-added-again-rest p ne = quiet-sends p (live_again []) subscribe_called temp_there refl refl refl

pub not-added-again : SendsWrong part.Anew (world (live_again [] ∷ []) subscribe_called temp_there)
not-added-again = (not-added-again-rest, λ h. (let a = its-sent part.Anew (live_again []) subscribe_called temp_there refl refl h.0 0 2 1 (step 3 2 2) (1, 6, created_again, (asked_again, refl, refl), refl, refl, refl, (refl, refl), refl) ((ToWatch 5 1 1, (1, refl)), (held-yet 0 1).0, (held-yet 0 1).1) in let m = a.2 in let w = At-within (live_again []).up a.0 m.0 m.1 in let late = a.1 in omega (arith, w, late)))

-- it was cancelled before the channel was live again
added-between : (k channel number : ℕ) (h : Step) → BecomesLive cancelled_between channel k h → IsStanding (take h.logged cancel_called) (On channel (Subscribe number)) → AddedAfter cancelled_between k channel number h
added-between k channel number h live standing =
    each-at (λ (j : ℕ) (t : Told). (g : Step) → t.place ≡ k → At (step 1 2 2 ∷ step 3 3 3 ∷ []) j g → IsStanding (take g.logged cancel_called) (On channel (Subscribe number)) → AddedAfter cancelled_between k channel number g) (created_told ∷ created_again ∷ []) (
      (λ g place at stands.
          (let here : step 1 2 2 ≡ g = some_is (step 1 2 2) g at in
          let is = called-is channel number stands.0.1.0 stands.0.0 (subst (λ (z : Step). At (take z.logged cancel_called) stands.0.1.0 (Called (On channel (Subscribe number)) stands.0.0)) (sym here) stands.0.1.1) in
          subst (λ (z : Step). AddedAfter cancelled_between k channel number z) here (subst (λ (n : ℕ). AddedAfter cancelled_between n channel number (step 1 2 2)) place (1, omega arith, (adding 1 9, refl, is), λ p a b. absurd (omega (arith, a, b)))))),
      ((λ g place at stands. absurd (cancelled-then channel number (subst (λ (z : Step). IsStanding (take z.logged cancel_called) (On channel (Subscribe number))) (sym (some_is (step 3 3 3) g at)) stands))), tt),
    ) live.0 live.2 live.4 h live.5 live.8 standing

held-between : (channel k l number : ℕ) (h : Step) → BecomesLive cancelled_between channel k h → k < l → Meant cancelled_between l (On channel (Subscribe number))
    → IsHeld (take h.logged cancel_called) (On channel (Subscribe number)) × ((o : Outcome) → In (take h.logged cancel_called) (Noticed (On channel (Subscribe number)) o) → ⊥)
held-between channel k l number h live lt meant =
    let one : l ≡ 1 = each-at (λ (i : ℕ) (z : Sent). z.intent ≡ On channel (Subscribe number) → i ≡ 1) (creating ∷ adding 1 9 ∷ asked_again ∷ []) ((λ e. absurd cc), ((λ e. refl), ((λ e. absurd cc), tt))) l meant.0 meant.1 meant.2 in
    each-at (λ (j : ℕ) (t : Told). (g : Step) → t.place ≡ k → At (step 1 2 2 ∷ step 3 3 3 ∷ []) j g → IsHeld (take g.logged cancel_called) (On channel (Subscribe number)) × ((o : Outcome) → In (take g.logged cancel_called) (Noticed (On channel (Subscribe number)) o) → ⊥)) (created_told ∷ created_again ∷ []) (
      (λ g place at. subst (λ (z : Step). IsHeld (take z.logged cancel_called) (On channel (Subscribe number)) × ((o : Outcome) → In (take z.logged cancel_called) (Noticed (On channel (Subscribe number)) o) → ⊥)) (some_is (step 1 2 2) g at) (held-yet channel number)),
      ((λ g place at. absurd (let two : 2 ≡ k = place in omega (arith, two, one, lt))), tt),
    ) live.0 live.2 live.4 h live.5 live.8

cancelled-between-each : (p : Sending) → MaySend p (world (cancelled_between ∷ []) cancel_called temp_there)
unfolding number16
cancelled-between-each part.OnChannel = sends part.OnChannel cancelled_between cancel_called temp_there refl refl (λ k m at o. each-at (λ (i : ℕ) (z : Fields). IsOnChannel z → SentOn cancelled_between i z) (client_conduct cancelled_between).sent ((λ f. absurd (let e : false ≡ true = on-channel-so creating.message f in cc)), ((λ f. on-sid (client_conduct cancelled_between) 1 refl refl refl (omega arith) refl refl 1 (adding 1 9).message refl (omega arith) refl), ((λ f. absurd (let e : false ≡ true = on-channel-so asked_again.message f in cc)), tt))) k m at o) tt
cancelled-between-each part.HasAdd = sends part.HasAdd cancelled_between cancel_called temp_there refl refl tt (λ channel number h. (0, 1, (cancelled_between, refl, refl, (adding 1 9, refl, cancelled-is channel number h.1.0 h.0 h.1.1))))
cancelled-between-each part.Anew = sends part.Anew cancelled_between cancel_called temp_there refl refl (λ channel k number h live standing. added-between k channel number h live standing) tt
cancelled-between-each part.Ended = sends part.Ended cancelled_between cancel_called temp_there refl refl (λ channel k l number h live lt meant. held-between channel k l number h live lt meant) tt
cancelled-between-each p = quiet-sends p cancelled_between cancel_called temp_there refl refl refl

pub cancelled-between : Legal (world (cancelled_between ∷ []) cancel_called temp_there)
cancelled-between = all-legal _ cancelled-between-each
