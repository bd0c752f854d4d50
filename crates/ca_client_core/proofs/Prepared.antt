-- A tick in two halves, of which the first can be taken back, is that of the statement.
use Rattle.std.proofs.Common.{◌≡◌, ◌≢◌, ◌∙◌, ℕ, ◌+◌, ◌≤◌, inl, inr, Bool, true, false, cond, List, [], ◌∷◌, Ok, Err, ap, fold, length, map, refl, subst, sym}
use Rattle.std.specs.Prelude.{Option, None, Some, filter, flat_map, vec_capacity, vec_len}
use Rattle.ca_text.specs.Limits.{arena_slots}
use Rattle.ca_text.specs.declared.refusal.Refusal.TheVariants as refusal
use Rattle.ca_arena.specs.declared.handle.Handle.{Handle}
use Rattle.ca_search.specs.Searches.{Wanted}
use Rattle.ca_model.specs.Answers.{Sending}
use Rattle.ca_model.specs.Answers as answer
use Rattle.ca_model.specs.Client.{Client, ClientCircuit, disconnected, ended, later, without_circuit}
use Rattle.ca_ids.specs.Table.{under}
use Rattle.ca_model.specs.ClientEnds.{ClientTicks, Ticking, all_searched_on, circuits_ticked, due, echoes, falls_silent, is_name_connected, packed, searches_made, to_server}
use Rattle.ca_client_core.specs.declared.for_histories.Sending.{Sending as Noted}
use Rattle.ca_client_core.specs.declared.ticking.Left.{Left}
use Rattle.ca_client_core.specs.declared.ticking.Plan.{Plan}
use Rattle.ca_client_tables.specs.Ahead.{Once, due_after, is_in}
use Rattle.ca_client_core.specs.Foretold.{IsFar, Notes}
use Rattle.ca_client_core.specs.Moments.{EchoIsDue, EchoesAll, all_echoed, all_ended, all_searched, echo_step, end_step, is_echo_due, is_silent, silent_of}
use Rattle.ca_client_core.specs.Ticked.{CarriesOut, IsPlanned, LacksMemory, Plans, Reports, circuits_of, lefts_of, made_of, notices_of}
use Rattle.ca_client_core.proofs.Ahead.{due-so, echo-sought}
use Rattle.ca_client_core.proofs.Aside.{ended-gone, ended-is, ended_but}
use Rattle.ca_client_core.proofs.Moments.{calm-echoed, calm-searched, calm-searches, echo-order, ends-some, made-so, sent-some, silent-echoed, ticked-so}

-- ---- what a tick begins with

-- a tick of this client that begins
abbrev pub begins : Client → Ticking
begins x = record { core = x; sent = []; notices = []; closings = [] }

-- ---- the servers stay

servers-ended : (c : Handle) (x : Client) → (ended c x).servers ≡ x.servers
servers-ended c x = go (under x.circuits c) refl
  where
    by : (b : Bool) → (cond b (disconnected c (ended_but c x)) (without_circuit c (ended_but c x))).servers ≡ x.servers
    by true = refl
    by false = refl

    go : (o : Option ClientCircuit) → under x.circuits c ≡ o → (ended c x).servers ≡ x.servers
    go None is = ap (λ (y : Client). y.servers) (ended-gone c x is)
    go (Some d) is = ap (λ (y : Client). y.servers) (ended-is c x d is) ∙ by d.is_name

servers-ends : (cs : List Handle) (t : Ticking) → (all_ended cs t).core.servers ≡ t.core.servers
servers-ends [] t = refl
servers-ends (c ∷ cs) t = servers-ends cs (end_step t c) ∙ go (is_silent t.core c)
  where
    go : (b : Bool) → (cond b (falls_silent c t) t).core.servers ≡ t.core.servers
    go true = servers-ended c t.core
    go false = refl

servers-echoed : (cs : List Handle) (t : Ticking) → (all_echoed cs t).core.servers ≡ t.core.servers
servers-echoed [] t = refl
servers-echoed (c ∷ cs) t = servers-echoed cs (echo_step t c) ∙ go (is_echo_due t.core c)
  where
    go : (b : Bool) → (cond b (echoes c t) t).core.servers ≡ t.core.servers
    go true = refl
    go false = refl

servers-stay : (t : Ticking) → (circuits_of t).core.servers ≡ t.core.servers
servers-stay t =
    ap (λ (u : Ticking). u.core.servers) (sym (ticked-so t.core.order t))
    ∙ servers-ends t.core.order (all_echoed t.core.order t)
    ∙ servers-echoed t.core.order t

-- ---- the first half

-- the client after its ECHOs is that of a tick after them
pub echoed-as : (x y : Client) (t : Ticking) → EchoesAll x y → t.core ≡ x → y ≡ (all_echoed t.core.order t).core
echoed-as x y t echoes is = echoes t is ∙ ap (λ (z : Client). (all_echoed z.order t).core) (sym is)

pub same-silent : (x y : Client) (t : Ticking) → EchoesAll x y → t.core ≡ x → silent_of y y.order ≡ silent_of t.core t.core.order
same-silent x y t echoes is =
    let one : Ticking = all_echoed t.core.order t in
    ap (λ (z : Client). silent_of z z.order) (echoed-as x y t echoes is)
    ∙ ap (silent_of one.core) (echo-order t.core.order t)
    ∙ silent-echoed t.core.order t.core.order t

-- the searches that were foreseen are those that are due
pub foreseen : (x y : Client) (t : Ticking) (ends : List Handle) → length x.channels ≤ arena_slots → Once x.searches → EchoesAll x y → t.core ≡ x → ends ≡ silent_of y y.order → due_after (is_in ends) y.moment y.channels y.searches ≡ due (circuits_of t).core
foreseen x y t ends few once echoes is silent =
    let one : Ticking = all_echoed t.core.order t in
    let same = echo-sought t.core.order t in
    ap (λ (cs : List Handle). due_after (is_in cs) y.moment y.channels y.searches) (silent ∙ same-silent x y t echoes is)
    ∙ ap (λ (z : Client). due_after (is_in (silent_of t.core t.core.order)) z.moment z.channels z.searches) (echoed-as x y t echoes is)
    ∙ (λ i. due_after (is_in (silent_of t.core t.core.order)) (same.2 i) (same.0 i) (same.1 i))
    ∙ due-so t (subst (λ (z : Client). length z.channels ≤ arena_slots) (sym is) few) (subst (λ (z : Client). Once z.searches) (sym is) once)

-- ---- what takes memory

pub lacks-echo : (x : Client) → EchoIsDue x → LacksMemory x
lacks-echo x lacks t is =
    inl (sent-some t (subst (λ (z : Client). (all_echoed z.order t).sent ≢ []) (sym is) (lacks t is)))

pub lacks-end : (x y : Client) → EchoesAll x y → silent_of y y.order ≢ [] → LacksMemory x
lacks-end x y echoes some t is = inr (inl (ends-some t (λ none. some (same-silent x y t echoes is ∙ none))))

pub lacks-due : (x y : Client) (ends : List Handle) → length x.channels ≤ arena_slots → Once x.searches → EchoesAll x y → ends ≡ silent_of y y.order → due_after (is_in ends) y.moment y.channels y.searches ≢ [] → LacksMemory x
lacks-due x y ends few once echoes silent some t is =
    inr (inr (λ none. some (foreseen x y t ends few once echoes is silent ∙ none)))

-- no datagrams without searches
pub packs-some : {A : Type 0} (f : A → List ℕ) (ds : List A) (ws : List Wanted) → map f ds ≡ packed [] ws → ds ≢ [] → ws ≢ []
packs-some f [] ws is some none = some refl
packs-some f (d ∷ ds) ws is some none =
    let bad : f d ∷ map f ds ≡ [] = is ∙ ap (packed []) none in
    absurd cc

-- ---- a plan

pub plans-so : (x y z : Client) (p : Plan) (ss : List Noted) (ws : List Wanted) (packs : List (List ℕ)) → length x.channels ≤ arena_slots → Once x.searches → EchoesAll x y → Notes (all_echoed x.order) x [] y ss → p.ends.items ≡ silent_of y y.order → p.closings.items ≡ [] → ws ≡ due_after (is_in p.ends.items) y.moment y.channels y.searches → packs ≡ packed [] ws
    → p.datagrams.items ≡ flat_map (to_server packs) y.servers → Notes (all_searched ws y.order) y ss z p.sent.items → length p.ends.items + vec_len p.closings ≤ vec_capacity p.closings → Plans x p z
plans-so x y z p ss ws packs few once echoes first ends none wanted packs-are datagrams searches room = (planned, room)
  where
    planned : (t : Ticking) → t.core ≡ x → t.sent ≡ [] → IsPlanned t p z
    planned t is empty =
        let one : Ticking = all_echoed t.core.order t in
        let so : y ≡ one.core = echoed-as x y t echoes is in
        let all : ws ≡ due (circuits_of t).core = wanted ∙ foreseen x y t p.ends.items few once echoes is ends in
        let order : y.order ≡ t.core.order = ap (λ (v : Client). v.order) so ∙ echo-order t.core.order t in
        let far : IsFar one y ss = subst (λ (cs : List Handle). IsFar (all_echoed cs t) y ss) (ap (λ (v : Client). v.order) (sym is)) (first t (is, empty)) in
        let last = searches one far in
        record {
          ends = ends ∙ same-silent x y t echoes is;
          none = none;
          datagrams =
              datagrams
              ∙ ap (λ (ps : List (List ℕ)). flat_map (to_server ps) y.servers) (packs-are ∙ ap (packed []) all)
              ∙ ap (flat_map (to_server (packed [] (due (circuits_of t).core)))) (ap (λ (v : Client). v.servers) so ∙ servers-echoed t.core.order t);
          core = sym last.0 ∙ (λ i. (all_searched (all i) (order i) one).core);
          sent = sym last.1 ∙ (λ i. (all_searched (all i) (order i) one).sent);
        }

-- ---- the whole

pub tick-so : (x w y z : Client) (now m : ℕ) (p : Plan) (a : answer.Ticked) → m ≡ later now x → w ≡ record x { moment = m } → Plans w p y → CarriesOut y p a z → (sent : List Sending) × ClientTicks x now (Ok a) sent z
tick-so x w y z now m p a at begun plans carries =
    let start : Ticking = begins (record x { moment = later now x }) in
    let planned : IsPlanned start p y = plans.0 start (sym (begun ∙ ap (λ (n : ℕ). let v : Client = record x { moment = n } in v) at)) refl in
    let t : Ticking = circuits_ticked now x in
    let ws : List Wanted = due t.core in
    let mid : Ticking = all_searched ws x.order (all_echoed x.order start) in
    let u : Ticking = fold (all_searched_on ws) t (filter (is_name_connected t.core) t.core.order) in
    let first = calm-echoed x.order start in
    let next = calm-searched ws x.order (all_echoed x.order start) in
    let reports : Reports mid y p.closings.items = (
      sym planned.core,
      subst (λ (ls : List Left). mid.notices ≡ notices_of ls) (sym planned.none) (next.0 ∙ first.0),
      subst (λ (ls : List Left). mid.closings ≡ lefts_of ls) (sym planned.none) (next.1 ∙ first.1),
    ) in
    let did = carries mid reports in
    let is : all_ended p.ends.items mid ≡ u = ap (λ (cs : List Handle). all_ended cs mid) planned.ends ∙ made-so start ws in
    let calm = calm-searches ws (filter (is_name_connected t.core) t.core.order) t in (
      (searches_made t).sent,
      (
        did.1
            ∙ (λ i. record {
              notices = (ap (λ (v : Ticking). v.notices) is ∙ calm.0) i;
              datagrams = (planned.datagrams ∙ ap (flat_map (to_server (packed [] ws))) (sym (servers-stay start))) i;
              closings = (ap (λ (v : Ticking). v.closings) is ∙ calm.1) i;
            }),
        refl,
        did.0 ∙ ap made_of is,
      ),
    )

pub tick-lacks : (x w y new : Client) (now m before : ℕ) → m ≡ later now x → before ≡ x.moment → w ≡ record x { moment = m } → LacksMemory w → y ≡ w → new ≡ record y { moment = before } → (sent : List Sending) × ClientTicks x now (Err refusal.OutOfMemory) sent new
tick-lacks x w y new now m before at was begun lacks back is =
    let start : Ticking = begins (record x { moment = later now x }) in (
      [],
      (
        lacks start (sym (begun ∙ ap (λ (n : ℕ). let v : Client = record x { moment = n } in v) at)),
        (
          refl,
          is
              ∙ ap (λ (v : Client). let u : Client = record v { moment = before } in u) (back ∙ begun)
              ∙ ap (λ (n : ℕ). let u : Client = record x { moment = n } in u) was,
        ),
      ),
    )
