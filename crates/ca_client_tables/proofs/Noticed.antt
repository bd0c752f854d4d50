-- What the messages of a datagram send is noted as they are received.
use Rattle.std.proofs.Common.{◌≡◌, ◌≢◌, ◌∙◌, Err, ℕ, suc, ◌+◌, ◌<◌, ◌≤◌, ◌==◌, inl, inr, List, [], ◌∷◌, ◌++◌, Option, Some, None, Ok, append-nil, append_assoc, ap, arith, drop, get_or, if◌then◌else◌, length, refl, subst, sym}
use Rattle.std.specs.declared.alloc.AllocError.{AllocError}
use Rattle.std.specs.declared.alloc.Global.{Global}
use Rattle.std.specs.Prelude.{IsErr, Result, Vec, false, is_some, map, option_map, option_to_list, true}
use Rattle.std.proofs.Math.Numerals.{add-one}
use Rattle.std.proofs.Math.Seq.{drop-cons}
use Rattle.std.proofs.lemmas.Bool.{cases_eq, ne_eqb}
use Rattle.std.proofs.lemmas.List.{length-append, map-append}
use Rattle.ca_arena.specs.declared.handle.Handle.{Handle}
use Rattle.ca_text.specs.Command.{command_number}
use Rattle.ca_text.specs.declared.command.Command.TheVariants as command
use Rattle.ca_wire.specs.Fields.{Fields}
use Rattle.ca_model.specs.Answers.{Notice, Sending}
use Rattle.ca_model.specs.Client.{Channel, Client, ClientCircuit, Connection, circuit_to}
use Rattle.ca_model.specs.ClientEnds.{Receives}
use Rattle.ca_model.specs.ClientEnds as receives
use Rattle.ca_model.specs.Ends.{Address}
use Rattle.ca_model.specs.Hears.{Effect, FindsAt, PutsOn, becomes, found_at, put_on, searched_by}
use Rattle.ca_client_tables.specs.Finding.{as_found}
use Rattle.ca_client_tables.specs.Foretelling.{creation_at, creation_by, creation_on}
use Rattle.ca_client_tables.specs.Noting.{HaveSent, NotesAll, NotesOne, as_sent, creation_in}
use Rattle.ca_client_tables.specs.Receiving.{HalfParts, HasReceived, OpensOrUndoes, Parts, all_settled, all_undone, opened_parts, parts_of, unopened_parts, with_parts}
use Rattle.ca_client_tables.specs.Opening.{AreOpening}
use Rattle.ca_client_tables.specs.declared.foretelling.Creation.{Creation}
use Rattle.ca_client_tables.specs.declared.noting.Noted.{Noted}
use Rattle.ca_client_tables.specs.declared.receiving.Received.{Received}
use Rattle.ca_client_tables.proofs.Arrivals.{begun, some-of, undone-last}

-- ---- what a message sends

-- what goes out, if something does
abbrev pub sent_if : Option Creation → List Sending
sent_if o = map as_sent (option_to_list o)

module _ (x : Client) where
  put-so : (h : Handle) (here : Channel) (b : Handle) (o : Option Connection) (e : Effect) → e ≡ put_on b o h here x → e.sent ≡ sent_if (creation_on h here (Some (b, is_some o)))
  put-so h here b None e is = ap (λ (z : Effect). z.sent) is
  put-so h here b (Some k) e is = ap (λ (z : Effect). z.sent) is

  puts-so : (a : Address) (h : Handle) (here : Channel) (o : Option (Handle × ClientCircuit)) (e : Effect) → PutsOn x a h here o e → e.sent ≡ sent_if (creation_on h here (option_map as_found o))
  puts-so a h here (Some (b, d)) e is = put-so h here b d.connection e is
  puts-so a h here None e (inl (b, may, is)) = ap (λ (z : Effect). z.sent) is
  puts-so a h here None e (inr (full, is)) = ap (λ (z : Effect). z.sent) is

  finds-so : (a : Address) (o : Option (Handle × Channel)) (e : Effect) → FindsAt x a o e → e.sent ≡ sent_if (creation_at a x.circuits o)
  finds-so a None e is = ap (λ (z : Effect). z.sent) is
  finds-so a (Some (h, here)) e is = puts-so a h here (circuit_to a here.priority x) e is

  -- by the number of its command
  abbrev told_as : Address → Fields → ℕ → List Sending
  told_as from m n = sent_if (if n == 6 then creation_by x.channels x.circuits from m else None)

  none-told : (from : Address) (m : Fields) → (m.command ≡ 6 → ⊥) → told_as from m m.command ≡ []
  none-told from m other =
      elim (cases_eq m.command 6) [
        | inl is ↦ absurd (other is)
        | inr g ↦ rw (ne_eqb m.command 6 g) refl
      ]

  pub receives-so : (from : Address) (m : Fields) (e : Effect) → Receives from x m e → e.sent ≡ sent_if (creation_in x.channels x.circuits from m)
  receives-so from m e (receives.Search is finds) = finds-so (found_at from m) (searched_by m.p2 x) e finds ∙ sym (ap (told_as from m) is)
  receives-so from m e (receives.Beacon is port effect) = ap (λ (z : Effect). z.sent) effect ∙ sym (none-told from m (λ search. not-both m.command search is))
    where
      not-both : (n : ℕ) → n ≡ 6 → n ≡ command_number command.RsrvIsUp → ⊥
      not-both n a b = omega (arith, a, b)
  receives-so from m e (receives.Other other beacon effect) = ap (λ (z : Effect). z.sent) effect ∙ sym (none-told from m other)

-- ---- one after another

-- how far a datagram is received, and what is noted
pub record SoNoted (first now : HalfParts) (from : Address) (ms : List Fields) (i : ℕ) (done : List Received) (told : List Creation) : Type 0 where
  pub goes : (ds : List Received) (cs : List Creation) (final : Parts) → HaveSent (opened_parts now) from (drop i ms) ds cs final → HaveSent (opened_parts first) from ms (done ++ ds) (told ++ cs) final
  pub back : all_undone done now ≡ first
  pub few : length told ≤ i
  pub some : now.opening ≢ first.opening → ms ≢ []
  pub opening : AreOpening now.opening now.circuits

pub so-noted-none : (first : HalfParts) (from : Address) (ms : List Fields) → AreOpening first.opening first.circuits → SoNoted first first from ms 0 [] []
so-noted-none first from ms opening = record { goes = λ ds cs final have. have; back = refl; few = omega arith; some = λ other. absurd (other refl); opening = opening }

-- what is left at this place: its message, and the rest
left-from : (ms : List Fields) (i : ℕ) (m : Fields) → i < length ms → m ≡ get_or ms i m → drop i ms ≡ m ∷ drop (i + 1) ms
left-from ms i m within is =
    drop-cons ms i m within
    ∙ ap (λ (n : Fields). n ∷ drop (suc i) ms) (sym is)
    ∙ ap (λ (n : ℕ). m ∷ drop n ms) (sym (add-one i))

noted-more : (old mid final : Parts) (from : Address) (m : Fields) (rest : List Fields) (d : Received) (ds : List Received) (cs : List Creation) → HasReceived old from m d mid → HaveSent mid from rest ds cs final
    → HaveSent old from (m ∷ rest) (d ∷ ds) (option_to_list (creation_in old.channels old.circuits from m) ++ cs) final
noted-more old mid final from m rest d ds cs one others =
    λ x at.
    (let a = one x at in
    let b = others a.0.core (ap parts_of a.3) in
    let e : Effect = record { core = b.0.core; sent = a.0.sent ++ b.0.sent; notices = a.0.notices ++ b.0.notices } in
    let here : a.0.sent ≡ sent_if (creation_in old.channels old.circuits from m) = receives-so x from m a.0 a.1 ∙ ap (λ (p : Parts). sent_if (creation_in p.channels p.circuits from m)) at in
    let all : a.0.sent ++ b.0.sent ≡ map as_sent (option_to_list (creation_in old.channels old.circuits from m) ++ cs) =
    ap (λ (ss : List Sending). ss ++ b.0.sent) here
    ∙ ap (λ (ss : List Sending). sent_if (creation_in old.channels old.circuits from m) ++ ss) b.3
    ∙ sym (map-append as_sent (option_to_list (creation_in old.channels old.circuits from m)) cs) in
    (e, (a.0, b.0, a.1, b.1, refl), ap (λ (ns : List Notice). ns ++ b.0.notices) a.2 ∙ b.2, all, b.4 ∙ ap (λ (y : Client). all_settled ds (with_parts final y)) a.3))

one-at-most : (o : Option Creation) → length (option_to_list o) ≤ 1
one-at-most None = omega arith
one-at-most (Some c) = omega arith

pub so-noted-more : (first now next : HalfParts) (from : Address) (ms : List Fields) (i : ℕ) (m : Fields) (done : List Received) (d : Received) (told told' : List Creation) → i < length ms → m ≡ get_or ms i m → NotesOne now from m told (Ok d) told' next → AreOpening next.opening next.circuits → SoNoted first now from ms i done told
    → SoNoted first next from ms (i + 1) (done ++ d ∷ []) told'
so-noted-more first now next from ms i m done d told told' within is did opening far =
    subst (λ (z : List Creation). SoNoted first next from ms (i + 1) (done ++ d ∷ []) z) (sym did.1)
    (record {
      goes = λ ds cs final have.
          subst (λ (es : List Creation). HaveSent (opened_parts first) from ms ((done ++ d ∷ []) ++ ds) es final) (sym (append_assoc told here cs))
          (subst (λ (es : List Received). HaveSent (opened_parts first) from ms es (told ++ (here ++ cs)) final) (sym (append_assoc done (d ∷ []) ds))
          (far.goes (d ∷ ds) (here ++ cs) final
          (subst (λ (ns : List Fields). HaveSent (opened_parts now) from ns (d ∷ ds) (here ++ cs) final) (sym (left-from ms i m within is))
          (noted-more (opened_parts now) (opened_parts next) final from m (drop (i + 1) ms) d ds cs did.0.0 have))));
      back = undone-last done d next ∙ ap (all_undone done) did.0.1 ∙ far.back;
      few =
          (let all = length-append told here in
          let one = one-at-most (creation_in now.channels (opened_parts now).circuits from m) in
          omega (arith, all, one, far.few));
      some = λ other. some-of ms i within;
      opening = opening;
    })
  where
    here : List Creation
    here = option_to_list (creation_in now.channels (opened_parts now).circuits from m)

sent-none : (p : Parts) (from : Address) → HaveSent p from [] [] [] p
sent-none p from = λ x at. (becomes x, refl, refl, refl, ap (λ (q : Parts). with_parts q x) at)

-- all were
so-noted-all : (first now : HalfParts) (from : Address) (ms : List Fields) (i : ℕ) (done : List Received) (told : List Creation) → drop i ms ≡ [] → SoNoted first now from ms i done told → HaveSent (opened_parts first) from ms done told (opened_parts now)
so-noted-all first now from ms i done told none far =
    subst (λ (es : List Creation). HaveSent (opened_parts first) from ms done es (opened_parts now)) (append-nil told)
    (subst (λ (es : List Received). HaveSent (opened_parts first) from ms es (told ++ []) (opened_parts now)) (append-nil done)
    (far.goes [] [] (opened_parts now) (subst (λ (ns : List Fields). HaveSent (opened_parts now) from ns [] [] (opened_parts now)) (sym none) (sent-none (opened_parts now) from))))

-- and their circuits are opened
pub so-noted-opens : (first : Parts) (now : HalfParts) (from : Address) (ms : List Fields) (i : ℕ) (done ds : Vec Received Global) (told : List Creation) (new : Parts) → drop i ms ≡ [] → SoNoted (begun first) now from ms i done.items told → OpensOrUndoes now done (Ok ds) new → HaveSent first from ms ds.items told new
so-noted-opens first now from ms i done ds told new none far did =
    subst (λ (es : List Received). HaveSent first from ms es told new) (sym (ap (λ (v : Vec Received Global). v.items) did.0))
    (subst (HaveSent first from ms done.items told) (sym did.1) (so-noted-all (begun first) now from ms i done.items told none far))

-- or not
pub so-noted-refused : (first : Parts) (now : HalfParts) (from : Address) (ms : List Fields) (i : ℕ) (done : Vec Received Global) (e : AllocError) (told : List Creation) (new : Parts) (r : Result Noted AllocError) → IsErr r → SoNoted (begun first) now from ms i done.items told → OpensOrUndoes now done (Err e) new → NotesAll first from ms r new
so-noted-refused first now from ms i done e told new (Ok n) err far did =
    let bad : false ≡ true = err in
    absurd cc
so-noted-refused first now from ms i done e told new (Err f) err far did = (far.some did.0, did.1 ∙ ap unopened_parts far.back)
