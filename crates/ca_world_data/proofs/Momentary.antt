-- A moment is handed to a client, from what its parts became.
use Rattle.std.proofs.Common.{◌≡◌, ◌≢◌, ℕ, ◌≤◌, inl, inr, ◌⊎◌, true, false, List, [], ◌∷◌, Ok, Err, fold, length, refl, sym, ap, subst, ◌∙◌}
use Rattle.std.specs.Prelude.{IsErr, Result, filter, map}
use Rattle.std.specs.declared.alloc.AllocError.{AllocError}
use Rattle.ca_arena.specs.declared.handle.Handle.{Handle}
use Rattle.ca_text.specs.declared.refusal.Refusal.TheVariants.{OutOfMemory}
use Rattle.ca_client_core.specs.declared.for_histories.Sending.{Sending as Said}
use Rattle.ca_client_core.specs.declared.for_moments.Foretold.{Foretold}
use Rattle.ca_client_core.specs.ForHistories.{sending_of}
use Rattle.ca_client_core.specs.Foretold.{Foretells}
use Rattle.ca_model.specs.Answers.{Sending, Ticked}
use Rattle.ca_model.specs.Client.{Client}
use Rattle.ca_model.specs.ClientEnds.{ClientTicks, Ticking, all_searched_on, circuits_ticked, due, is_name_connected, searches_made}
use Rattle.ca_model.specs.History.{Line, OfCircuit}
use Rattle.ca_model.specs.ClientEvents.{after_tick, lines_of}
use Rattle.ca_model.specs.World.{ClientSide, Joined, Names, grown}
use Rattle.ca_world_data.specs.Found.{AreNumbered}
use Rattle.ca_world_data.specs.Speaking.{sent_up}
use Rattle.ca_world_data.specs.Ticks.{TicksClient}
use Rattle.ca_world_data.proofs.Indexes.{KeepsEnds}
use Rattle.ca_world_data.proofs.Silences.{numbered-map}

-- ---- what takes memory

none-searched : (cs : List Handle) (t : Ticking) → fold (all_searched_on []) t cs ≡ t
none-searched [] t = refl
none-searched (c ∷ cs) t = none-searched cs t

-- nothing is sent where no ECHO and no search is due
sent-none : (t : Ticking) → t.sent ≡ [] → due t.core ≡ [] → (searches_made t).sent ≡ []
sent-none t quiet none =
    ap (λ (ws : List _). (fold (all_searched_on ws) t (filter (is_name_connected t.core) t.core.order)).sent) none
    ∙ ap (λ (u : Ticking). u.sent) (none-searched (filter (is_name_connected t.core) t.core.order) t)
    ∙ quiet

sent-some : (t : Ticking) → (searches_made t).sent ≢ [] → (t.sent ≢ []) ⊎ ((t.closings ≢ []) ⊎ (due t.core ≢ []))
sent-some t some = go t.sent refl
  where
    go : (ss : List Sending) → t.sent ≡ ss → (t.sent ≢ []) ⊎ ((t.closings ≢ []) ⊎ (due t.core ≢ []))
    go [] is = inr (inr (λ none. some (sent-none t is none)))
    go (s ∷ ss) is = inl (λ none. absurd (let bad : s ∷ ss ≡ [] = sym is ∙ none in cc))

-- a client that has something to send may refuse the moment
pub lacks-sent : (x : Client) (moment : ℕ) (f : Foretold) → Foretells x moment f → f.sent.items ≢ [] → ClientTicks x moment (Err OutOfMemory) [] x
lacks-sent x moment f told some =
    (sent-some (circuits_ticked moment x) (λ none. some (no-more f.sent.items (told.sent ∙ none))), (refl, refl))
  where
    no-more : (ss : List Said) → map sending_of ss ≡ [] → ss ≡ []
    no-more [] e = refl
    no-more (s ∷ ss) e = absurd (let bad : sending_of s ∷ map sending_of ss ≡ [] = e in cc)

-- ---- what it told

pub told-few : (x : Client) (moment n : ℕ) (a : Ticked) (sent : List Sending) (y : Client) → ClientTicks x moment (Ok a) sent y → length (circuits_ticked moment x).notices ≤ n → length a.notices ≤ n
told-few x moment n a sent y does few = subst (λ (z : Ticked). length z.notices ≤ n) (sym does.0) few

pub told-none : (x : Client) (moment : ℕ) (f : Foretold) (a : Ticked) (sent : List Sending) (y : Client) → Foretells x moment f → ClientTicks x moment (Ok a) sent y → f.ends ≡ false → a.closings ≡ []
told-none x moment f a sent y told does off = ap (λ (z : Ticked). z.closings) does.0 ∙ told.none off

-- ---- the whole

pub sent-keeps : (i : ℕ) (n : Names) (sent : List Sending) (j : Joined) → KeepsEnds j (sent_up i n sent j)
sent-keeps i n sent j = record { client = refl; server = refl; at_client = refl; at_server = refl; closes = λ on. on; stops = λ on. on }

pub numbered-sent : (i : ℕ) (x : ClientSide) (sent : List Sending) (numbers : List ℕ) (ks ks' : List Joined) → AreNumbered numbers ks i → ks' ≡ map (sent_up i x.names sent) ks → AreNumbered numbers ks' i
numbered-sent i x sent numbers ks ks' h up =
    subst (λ (z : List Joined). AreNumbered numbers z i) (sym up) (numbered-map i numbers ks (sent_up i x.names sent) (sent-keeps i x.names sent) h)

pub tick-done : (i moment : ℕ) (x : ClientSide) (logs logs' : List (List Line)) (ks mid ks' : List Joined) (a : Ticked) (f : Foretold) (sent : List Sending) (core : Client) → Foretells x.core moment f → ClientTicks x.core moment (Ok a) sent core
    → mid ≡ map (sent_up i x.names (map sending_of f.sent.items)) ks → ks' ≡ map (after_tick i a.closings) mid → logs' ≡ grown x.life (lines_of OfCircuit x.names a.notices) logs
    → TicksClient i moment x logs ks (Ok tt) (record x { core = core }) logs' ks'
tick-done i moment x logs logs' ks mid ks' a f sent core told does up ends logged =
    let same : map sending_of f.sent.items ≡ sent = told.sent ∙ sym does.1 in
    (a, sent, does, refl, logged, ends ∙ ap (map (after_tick i a.closings)) (up ∙ ap (λ (s : List Sending). map (sent_up i x.names s) ks) same))

pub tick-refused : (i moment : ℕ) (x x' : ClientSide) (logs logs' : List (List Line)) (ks ks' : List Joined) (r : Result (Unit {0}) AllocError) → IsErr r → ClientTicks x.core moment (Err OutOfMemory) [] x.core → x' ≡ x → logs' ≡ logs → ks' ≡ ks
    → TicksClient i moment x logs ks r x' logs' ks'
tick-refused i moment x x' logs logs' ks ks' (Ok u) bad lacks side lines stay = absurd (let no : false ≡ true = bad in cc)
tick-refused i moment x x' logs logs' ks ks' (Err e) refused lacks side lines stay = (lacks, side, lines, stay)

-- the client that was asked is as it was
pub side-same : (x : ClientSide) (core : Client) → core ≡ x.core → ◌≡◌ {A = ClientSide} (record x { core = core }) x
side-same x core same = λ t. record x { core = same t }
