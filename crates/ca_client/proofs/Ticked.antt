-- What a moment does to the requests that wait.
use Rattle.std.proofs.Common.{◌≡◌, ℕ, Bool, true, false, cond, List, [], ◌∷◌, ◌++◌, fold, filter, Option, Some, None, Ok, Err, refl, sym, ap, ◌∙◌, subst}
use Rattle.std.specs.Prelude.{option_map, unwrap_or}
use Rattle.std.proofs.lemmas.List.Elements.{filter_map-append}
use Rattle.ca_text.specs.declared.refusal.Refusal.{Refusal}
use Rattle.ca_text.specs.declared.refusal.Refusal.TheVariants as refusal
use Rattle.ca_text.specs.declared.command.Command.TheVariants as command
use Rattle.ca_arena.specs.declared.handle.Handle.{Handle}
use Rattle.ca_link.specs.declared.keep.Keep.{Keep}
use Rattle.ca_link.specs.declared.keep.Keep.TheVariants.{Close, Echo, Idle}
use Rattle.ca_link.specs.Link.{kept}
use Rattle.ca_search.specs.Searches as search
use Rattle.ca_wire.specs.Messages.{header_only, search_request}
use Rattle.ca_model.specs.Answers.{Notice, Sending, Ticked}
use Rattle.ca_model.specs.Client.{Client, Connection, connection_at, ended, farewell, later, on_connection, sending}
use Rattle.ca_model.specs.ClientCalls.{is_over}
use Rattle.ca_model.specs.ClientEnds.{ClientTicks, Ticking, all_searched_on, circuits_ticked, due, is_name_connected, of_circuit, searches_made, searches_on, ticks, ticks_as, with_sending}
use Rattle.ca_model.specs.Placed.{IsPlaced}
use Rattle.ca_model.proofs.Changes.{keeps-searches}
use Rattle.ca_model.proofs.Hearing.{keeps-moment}
use Rattle.ca_model.proofs.Letting.{ends-ended}
use Rattle.ca_model.proofs.Placed.{Keeps, keeps-on, keeps-sending}
use Rattle.ca_client_core.specs.Notices.{Completion, completion, completions}
use Rattle.ca_client.specs.Awaited.{IsListed, Waits}
use Rattle.ca_client.proofs.Ends.{told-end}
use Rattle.ca_client.proofs.Settled.{Stands}
use Rattle.ca_client.proofs.Tickets.{But, Leaves, Tells}
use Rattle.ca_client.proofs.Waiting.{Same, leaves-more, same-sending, tells-more, told-on, told-same}

stands-on : (x : Client) (ns : List Notice) (y z : Client) → Stands x ns y → Same y z → Keeps y z → Stands x ns z
stands-on x ns y z r same keeps = record { told = told-on x y z ns r.told same; placed = keeps.placed r.placed }

tells-append : (asked : Handle → Type 0) (cs ds : List Completion) → Tells asked cs → Tells (Leaves asked cs) ds → Tells asked (cs ++ ds)
tells-append asked [] ds a b = b
tells-append asked (c ∷ cs) ds a b = (a.0, tells-append (But asked c.0) cs ds a.1 b)

leaves-append : (asked : Handle → Type 0) (cs ds : List Completion) (q : Handle) → Leaves (Leaves asked cs) ds q → Leaves asked (cs ++ ds) q
leaves-append asked [] ds q h = h
leaves-append asked (c ∷ cs) ds q h = leaves-append (But asked c.0) cs ds q h

stands-then : (x : Client) (ns : List Notice) (y : Client) (ms : List Notice) (z : Client) → Stands x ns y → Stands y ms z → Stands x (ns ++ ms) z
stands-then x ns y ms z a b =
    let is : completions (ns ++ ms) ≡ completions ns ++ completions ms = filter_map-append completion ns ms in
    let before : (q : Handle) → Waits y q → Leaves (Waits x) (completions ns) q = a.told.leaves in
    record {
      told = record {
        tells = subst (Tells (Waits x)) (sym is) (tells-append (Waits x) (completions ns) (completions ms) a.told.tells (tells-more (Waits y) (Leaves (Waits x) (completions ns)) (completions ms) before b.told.tells));
        leaves = λ q w. subst (λ (cs : List Completion). Leaves (Waits x) cs q) (sym is)
            (leaves-append (Waits x) (completions ns) (completions ms) q (leaves-more (Waits y) (Leaves (Waits x) (completions ns)) (completions ms) before q (b.told.leaves q w)));
        listed = b.told.listed;
      };
      placed = b.placed;
    }

-- a moment is as far as this
abbrev Goes : Client → Ticking → Type 0
Goes x t = Stands x t.notices t.core

goes-sent : (x : Client) (s : Sending) (t : Ticking) → Goes x t → Goes x (with_sending s t)
goes-sent x s t r = stands-on x t.notices t.core (sending (s ∷ []) t.core) r (same-sending (s ∷ []) t.core) (keeps-sending (s ∷ []) t.core)

goes-as : (x : Client) (k : Keep) (c : Handle) (t : Ticking) → Goes x t → Goes x (ticks_as k c t)
goes-as x Idle c t r = r
goes-as x Echo c t r =
    let f : Connection → Connection = λ (e : Connection). record e { link = record e.link { echoed = true } } in
    let u : Ticking = record t { core = on_connection f c t.core } in
    goes-sent x (of_circuit c (header_only command.Echo)) u (stands-on x t.notices t.core u.core r (record { requests = refl; issued = refl }) (keeps-on f c t.core))
goes-as x Close c t r =
    stands-then x t.notices t.core (farewell c t.core) (ended c t.core) r (record { told = told-end c t.core r.placed r.told.listed; placed = (ends-ended c t.core).placed r.placed })

goes-one : (x : Client) (t : Ticking) (c : Handle) → Goes x t → Goes x (ticks t c)
goes-one x t c r = go (connection_at t.core c)
  where
    go : (o : Option Connection) → Goes x (unwrap_or (option_map (λ (e : Connection). ticks_as (kept t.core.moment e.link) c t) o) t)
    go None = r
    go (Some e) = goes-as x (kept t.core.moment e.link) c t r

goes-all : (x : Client) (cs : List Handle) (t : Ticking) → Goes x t → Goes x (fold ticks t cs)
goes-all x [] t r = r
goes-all x (c ∷ cs) t r = goes-all x cs (ticks t c) (goes-one x t c r)

goes-search : (x : Client) (c : Handle) (ws : List search.Wanted) (t : Ticking) → Goes x t → Goes x (all_searched_on ws t c)
goes-search x c [] t r = r
goes-search x c (w ∷ ws) t r = goes-search x c ws (searches_on c t w) (go (is_over t.core c))
  where
    go : (b : Bool) → Goes x (cond b t (with_sending (of_circuit c (search_request w.cid w.name)) t))
    go true = r
    go false = goes-sent x (of_circuit c (search_request w.cid w.name)) t r

goes-searches : (x : Client) (ws : List search.Wanted) (cs : List Handle) (t : Ticking) → Goes x t → Goes x (fold (all_searched_on ws) t cs)
goes-searches x ws [] t r = r
goes-searches x ws (c ∷ cs) t r = goes-searches x ws cs (all_searched_on ws t c) (goes-search x c ws t r)

-- searches send, and report nothing
quiet-search : (c : Handle) (ws : List search.Wanted) (t : Ticking) → (all_searched_on ws t c).notices ≡ t.notices
quiet-search c [] t = refl
quiet-search c (w ∷ ws) t = quiet-search c ws (searches_on c t w) ∙ go (is_over t.core c)
  where
    go : (b : Bool) → (cond b t (with_sending (of_circuit c (search_request w.cid w.name)) t)).notices ≡ t.notices
    go true = refl
    go false = refl

quiet-searches : (ws : List search.Wanted) (cs : List Handle) (t : Ticking) → (fold (all_searched_on ws) t cs).notices ≡ t.notices
quiet-searches ws [] t = refl
quiet-searches ws (c ∷ cs) t = quiet-searches ws cs (all_searched_on ws t c) ∙ quiet-search c ws t

pub stands-ticked : (x : Client) (now : ℕ) (a : Ticked) (sent : List Sending) (y : Client) → IsPlaced x → IsListed x → ClientTicks x now (Ok a) sent y → Stands x a.notices y
stands-ticked x now a sent y placed l does =
    let x' : Client = record x { moment = later now x } in
    let start : Ticking = record { core = x'; sent = []; notices = []; closings = [] } in
    let t : Ticking = circuits_ticked now x in
    let begin : Goes x start = record {
      told = told-same x x' [] (record { requests = refl; issued = refl }) l refl;
      placed = (keeps-moment (later now x) x).placed placed;
    } in
    let goes : Goes x t = goes-all x x.order start begin in
    let cs : List Handle = filter (is_name_connected t.core) t.core.order in
    let ws : List search.Wanted = due t.core in
    let u : Ticking = fold (all_searched_on ws) t cs in
    let far : Goes x u = goes-searches x ws cs t goes in
    let z : Client = (searches_made t).core in
    let done : Stands x u.notices z = stands-on x u.notices u.core z far (record { requests = refl; issued = refl }) (keeps-searches u.core z.searches) in
    let told : Stands x t.notices z = subst (λ (ns : List Notice). Stands x ns z) (quiet-searches ws cs t) done in
    let all : Stands x a.notices z = subst (λ (ns : List Notice). Stands x ns z) (sym (ap (λ (b : Ticked). b.notices) does.0)) told in
    subst (Stands x a.notices) (sym does.2) all

pub rests-tick : (x : Client) (now : ℕ) (e : Refusal) (sent : List Sending) (y : Client) → ClientTicks x now (Err e) sent y → y ≡ x
rests-tick x now refusal.OutOfMemory sent y does = does.1.1
rests-tick x now _ sent y does = absurd does
