-- What a moment does to circuits: ECHOs, searches and ends, in whichever order.
use Rattle.std.proofs.Common.{◌≡◌, ◌≢◌, ◌∙◌, ℕ, ◌-◌, inl, inr, ◌&&◌, Bool, true, false, not, cond, List, [], ◌∷◌, ◌++◌, Option, Some, None, ap, filter, fold, length, nat_le, option_map, refl, subst, sym, unwrap_or}
use Rattle.std.specs.Prelude.{is_some, option_and_then}
use Rattle.std.specs.List.{AllByRecursion}
use Rattle.std.proofs.lemmas.Bool.{both_ways}
use Rattle.ca_text.specs.Limits.{close_silence, echo_silence, output_limit}
use Rattle.ca_text.specs.declared.command.Command.TheVariants as command
use Rattle.ca_arena.specs.declared.handle.Handle.{Handle}
use Rattle.ca_ids.specs.Table.{Table, same_handle, under}
use Rattle.ca_link.specs.declared.keep.Keep.{Keep}
use Rattle.ca_link.specs.declared.keep.Keep.TheVariants.{Close, Echo, Idle}
use Rattle.ca_link.specs.Link.{LinkState, kept, silence, with_sent}
use Rattle.ca_search.specs.Searches.{Wanted}
use Rattle.ca_wire.specs.Messages.{header_only, search_request}
use Rattle.ca_model.specs.Answers.{Sending}
use Rattle.ca_model.specs.Client.{Client, ClientCircuit, Connection, connection_at, disconnected, ended, farewell, on_connection, out_bytes, without_circuit}
use Rattle.ca_model.specs.ClientCalls.{is_over}
use Rattle.ca_model.specs.ClientEnds.{Ticking, all_searched_on, echoes, falls_silent, is_name_connected, of_circuit, searches_on, ticks, ticks_as, with_sending}
use Rattle.ca_model.proofs.Handles.{handle-or, same-not}
use Rattle.ca_model.proofs.Placed.{under-other}
use Rattle.ca_client_core.specs.Moments.{all_echoed, all_ended, all_searched, asks_in, echo_step, end_step, is_close, is_echo, is_echo_due, is_searched_on, is_silent, search_step, silent_of}
use Rattle.ca_client_core.proofs.Aside.{circuit-past, connection-own, connection-past, ended-gone, ended-is, ended-moment, ended-on, ended-own, ended-past, ended_but}
use Rattle.ca_client_tables.proofs.Circuits.{found-changed}
use Rattle.ca_client_tables.proofs.Queued.{unchanged}

-- ---- what a moment asks

silent-in : (moment : ℕ) (l : LinkState) → is_close (kept moment l) ≡ nat_le close_silence (silence moment l)
silent-in moment l = go (nat_le close_silence (silence moment l)) (nat_le echo_silence (silence moment l) && not l.echoed)
  where
    go : (a b : Bool) → is_close (cond a Close (cond b Echo Idle)) ≡ a
    go true b = refl
    go false true = refl
    go false false = refl

-- the end hears as before
abbrev KeepsHeard : (Connection → Connection) → Type 0
KeepsHeard f = (e : Connection) → (f e).link.heard_at ≡ e.link.heard_at

silent-on : (f : Connection → Connection) → KeepsHeard f → (x : Client) (d c : Handle) → is_silent (on_connection f d x) c ≡ is_silent x c
silent-on f heard x d c = elim (handle-or c d) [
  | inr other ↦ ap (asks_in is_close x.moment) (connection-past f x c d other)
  | inl same ↦
      subst (λ (k : Handle). is_silent (on_connection f k x) c ≡ is_silent x c) same
      (ap (asks_in is_close x.moment) (connection-own f x c) ∙ go (connection_at x c))
]
  where
    go : (o : Option Connection) → asks_in is_close x.moment (option_map f o) ≡ asks_in is_close x.moment o
    go None = refl
    go (Some e) =
        silent-in x.moment (f e).link
        ∙ ap (λ (h : ℕ). nat_le close_silence (x.moment - h)) (heard e)
        ∙ sym (silent-in x.moment e.link)

pub asks-past : (test : Keep → Bool) (c e : Handle) (x : Client) → (e ≡ c → ⊥) → asks_in test (ended c x).moment (connection_at (ended c x) e) ≡ asks_in test x.moment (connection_at x e)
asks-past test c e x other =
    ap (λ (m : ℕ). asks_in test m (connection_at (ended c x) e)) (ended-moment c x)
    ∙ ap (asks_in test x.moment) (ended-past c e x other)

asks-own : (test : Keep → Bool) (c : Handle) (x : Client) → asks_in test (ended c x).moment (connection_at (ended c x) c) ≡ test Idle
asks-own test c x = ap (asks_in test (ended c x).moment) (ended-own c x)

-- ---- circuits of name servers

name-on : (f : Connection → Connection) (x : Client) (d c : Handle) → is_name_connected (on_connection f d x) c ≡ is_name_connected x c
name-on f x d c = elim (handle-or c d) [
  | inr other ↦ ap named (under-other mapped x.circuits d c other)
  | inl same ↦ subst (λ (k : Handle). is_name_connected (on_connection f k x) c ≡ is_name_connected x c) same (go (under x.circuits c) refl)
]
  where
    named : Option ClientCircuit → Bool
    named o = unwrap_or (option_map (λ (w : ClientCircuit). w.is_name && is_some w.connection) o) false

    mapped : ClientCircuit → ClientCircuit
    mapped w = record w { connection = option_map f w.connection }

    still : (b : Bool) (o : Option Connection) → (b && is_some (option_map f o)) ≡ (b && is_some o)
    still b None = refl
    still b (Some e) = refl

    go : (o : Option ClientCircuit) → under x.circuits c ≡ o → is_name_connected (on_connection f c x) c ≡ is_name_connected x c
    go None is = ap (λ (t : Table ClientCircuit). named (under t c)) (unchanged x.circuits mapped c is)
    go (Some w) is =
        ap named (found-changed x.circuits mapped c w is) ∙ still w.is_name w.connection ∙ sym (ap named is)

name-past : (c e : Handle) (x : Client) → (e ≡ c → ⊥) → is_name_connected (ended c x) e ≡ is_name_connected x e
name-past c e x other =
    ap (λ (o : Option ClientCircuit). unwrap_or (option_map (λ (w : ClientCircuit). w.is_name && is_some w.connection) o) false) (circuit-past c e x other)

name-own : (c : Handle) (x : Client) → is_name_connected (ended c x) c ≡ false
name-own c x = go (under (ended c x).circuits c) (ended-own c x)
  where
    right : (b : Bool) (o : Option Connection) → o ≡ None → (b && is_some o) ≡ false
    right true None e = refl
    right false None e = refl
    right b (Some d) e = absurd cc

    go : (o : Option ClientCircuit) → option_and_then (λ (w : ClientCircuit). w.connection) o ≡ None → unwrap_or (option_map (λ (w : ClientCircuit). w.is_name && is_some w.connection) o) false ≡ false
    go None e = refl
    go (Some w) e = right w.is_name w.connection e

-- ---- one end that ends, and what is sent on another circuit

abbrev waits : Option Connection → List ℕ
waits o = unwrap_or (option_map (λ (e : Connection). e.link.output) o) []

falls-on : (f : Connection → Connection) (c d : Handle) (t : Ticking) → (c ≡ d → ⊥) → falls_silent c (record t { core = on_connection f d t.core }) ≡ record (falls_silent c t) { core = on_connection f d (ended c t.core) }
falls-on f c d t other =
    let p : ended c (on_connection f d t.core) ≡ on_connection f d (ended c t.core) = ended-on f c d t.core other in
    let q : out_bytes (on_connection f d t.core) c ≡ out_bytes t.core c = ap waits (connection-past f t.core c d other) in
    λ i. record {
      core = p i;
      sent = t.sent;
      notices = t.notices ++ farewell c t.core;
      closings = t.closings ++ record { circuit = c; bytes = q i } ∷ [];
    }

falls-sent : (s : Sending) (c : Handle) (t : Ticking) → (c ≡ s.circuit → ⊥) → falls_silent c (with_sending s t) ≡ with_sending s (falls_silent c t)
falls-sent s c t other =
    let f : Connection → Connection = λ (e : Connection). record e { link = with_sent (s.message ∷ []) e.link } in
    let p : ended c (on_connection f s.circuit t.core) ≡ on_connection f s.circuit (ended c t.core) = ended-on f c s.circuit t.core other in
    let q : out_bytes (on_connection f s.circuit t.core) c ≡ out_bytes t.core c = ap waits (connection-past f t.core c s.circuit other) in
    λ i. record {
      core = p i;
      sent = t.sent ++ s ∷ [];
      notices = t.notices ++ farewell c t.core;
      closings = t.closings ++ record { circuit = c; bytes = q i } ∷ [];
    }

abbrev note : Connection → Connection
note e = record e { link = record e.link { echoed = true } }

echo-past : (c d : Handle) (t : Ticking) → (c ≡ d → ⊥) → falls_silent c (echoes d t) ≡ echoes d (falls_silent c t)
echo-past c d t other =
    let s : Sending = of_circuit d (header_only command.Echo) in
    falls-sent s c (record t { core = on_connection note d t.core }) other ∙ ap (with_sending s) (falls-on note c d t other)

search-past : (c d : Handle) (t : Ticking) (w : Wanted) → (c ≡ d → ⊥) → falls_silent c (searches_on d t w) ≡ searches_on d (falls_silent c t) w
search-past c d t w other = mid (is_over t.core d) ∙ ap (λ (b : Bool). cond b u (with_sending s u)) (sym over)
  where
    s : Sending
    s = of_circuit d (search_request w.cid w.name)

    u : Ticking
    u = falls_silent c t

    over : is_over u.core d ≡ is_over t.core d
    over = ap (λ (o : Option Connection). nat_le output_limit (length (waits o))) (ended-past c d t.core (λ same. other (sym same)))

    mid : (b : Bool) → falls_silent c (cond b t (with_sending s t)) ≡ cond b u (with_sending s u)
    mid true = refl
    mid false = falls-sent s c t other

all-search-past : (c d : Handle) (ws : List Wanted) (t : Ticking) → (c ≡ d → ⊥) → falls_silent c (all_searched_on ws t d) ≡ all_searched_on ws (falls_silent c t) d
all-search-past c d [] t other = refl
all-search-past c d (w ∷ ws) t other =
    all-search-past c d ws (searches_on d t w) other ∙ ap (λ (u : Ticking). all_searched_on ws u d) (search-past c d t w other)

-- ---- what is done to circuits that are not silent too long

record Speaks (does : Ticking → Handle → Ticking) : Type 0 where
  elsewhere : (t : Ticking) (c d : Handle) → (c ≡ d → ⊥) → falls_silent c (does t d) ≡ does (falls_silent c t) d
  quiet : (t : Ticking) (d : Handle) → is_silent t.core d ≡ true → does t d ≡ t
  over : (t : Ticking) (c : Handle) → does (falls_silent c t) c ≡ falls_silent c t
  heard : (t : Ticking) (c d : Handle) → is_silent (does t d).core c ≡ is_silent t.core c

pub echo-heard : (t : Ticking) (c d : Handle) (b : Bool) → is_silent (cond b (echoes d t) t).core c ≡ is_silent t.core c
echo-heard t c d false = refl
echo-heard t c d true =
    silent-on (λ (e : Connection). record e { link = with_sent (header_only command.Echo ∷ []) e.link }) (λ e. refl) (on_connection note d t.core) d c
    ∙ silent-on note (λ e. refl) t.core d c

speaks-echo : Speaks echo_step
speaks-echo = record {
  elsewhere = λ t c d other. mid t c d other (is_echo_due t.core d)
      ∙ ap (λ (b : Bool). cond b (echoes d (falls_silent c t)) (falls_silent c t)) (sym (asks-past is_echo c d t.core (λ same. other (sym same))));
  quiet = λ t d silent. ap (λ (b : Bool). cond b (echoes d t) t) (once t.core.moment (connection_at t.core d) silent);
  over = λ t c. ap (λ (b : Bool). cond b (echoes c (falls_silent c t)) (falls_silent c t)) (asks-own is_echo c t.core);
  heard = λ t c d. echo-heard t c d (is_echo_due t.core d);
}
  where
    mid : (t : Ticking) (c d : Handle) → (c ≡ d → ⊥) → (b : Bool) → falls_silent c (cond b (echoes d t) t) ≡ cond b (echoes d (falls_silent c t)) (falls_silent c t)
    mid t c d other true = echo-past c d t other
    mid t c d other false = refl

    one : (k : Keep) → is_close k ≡ true → is_echo k ≡ false
    one Close e = refl
    one Idle e = refl
    one Echo e = absurd cc

    once : (moment : ℕ) (o : Option Connection) → asks_in is_close moment o ≡ true → asks_in is_echo moment o ≡ false
    once moment None e = refl
    once moment (Some d) e = one (kept moment d.link) e

search-heard : (c d : Handle) (ws : List Wanted) (t : Ticking) → is_silent (all_searched_on ws t d).core c ≡ is_silent t.core c
search-heard c d [] t = refl
search-heard c d (w ∷ ws) t = search-heard c d ws (searches_on d t w) ∙ go (is_over t.core d)
  where
    go : (b : Bool) → is_silent (cond b t (with_sending (of_circuit d (search_request w.cid w.name)) t)).core c ≡ is_silent t.core c
    go true = refl
    go false =
        silent-on (λ (e : Connection). record e { link = with_sent (search_request w.cid w.name ∷ []) e.link }) (λ e. refl) t.core d c

and-false : (a : Bool) → (a && false) ≡ false
and-false true = refl
and-false false = refl

and-true : (a : Bool) → (a && true) ≡ a
and-true true = refl
and-true false = refl

speaks-search : (ws : List Wanted) → Speaks (search_step ws)
speaks-search ws = record {
  elsewhere = λ t c d other. mid t c d other (is_searched_on t.core d)
      ∙ ap (λ (b : Bool). cond b (all_searched_on ws (falls_silent c t) d) (falls_silent c t)) (sym (same t.core c d (λ e. other (sym e))));
  quiet = λ t d silent.
      ap (λ (b : Bool). cond b (all_searched_on ws t d) t)
      (ap (λ (b : Bool). is_name_connected t.core d && not b) silent ∙ and-false (is_name_connected t.core d));
  over = λ t c.
      ap (λ (b : Bool). cond (b && not (is_silent (ended c t.core) c)) (all_searched_on ws (falls_silent c t) c) (falls_silent c t)) (name-own c t.core);
  heard = λ t c d. still t c d (is_searched_on t.core d);
}
  where
    mid : (t : Ticking) (c d : Handle) → (c ≡ d → ⊥) → (b : Bool) → falls_silent c (cond b (all_searched_on ws t d) t) ≡ cond b (all_searched_on ws (falls_silent c t) d) (falls_silent c t)
    mid t c d other true = all-search-past c d ws t other
    mid t c d other false = refl

    same : (x : Client) (c d : Handle) → (d ≡ c → ⊥) → is_searched_on (ended c x) d ≡ is_searched_on x d
    same x c d other =
        ap (λ (a : Bool). a && not (is_silent (ended c x) d)) (name-past c d x other)
        ∙ ap (λ (b : Bool). is_name_connected x d && not b) (asks-past is_close c d x other)

    still : (t : Ticking) (c d : Handle) (b : Bool) → is_silent (cond b (all_searched_on ws t d) t).core c ≡ is_silent t.core c
    still t c d true = search-heard c d ws t
    still t c d false = refl

-- ---- ends after it, or before

module _ (does : Ticking → Handle → Ticking) (s : Speaks does) where
  past-one : (t : Ticking) (c d : Handle) → end_step (does t d) c ≡ does (end_step t c) d
  past-one t c d = elim (handle-or c d) [
    | inr other ↦
        ap (λ (b : Bool). cond b (falls_silent c (does t d)) (does t d)) (s.heard t c d) ∙ mid other (is_silent t.core c)
    | inl same ↦ subst (λ (k : Handle). end_step (does t k) c ≡ does (end_step t c) k) same (own (is_silent t.core c) refl)
  ]
    where
      mid : (c ≡ d → ⊥) → (b : Bool) → cond b (falls_silent c (does t d)) (does t d) ≡ does (cond b (falls_silent c t) t) d
      mid other true = s.elsewhere t c d other
      mid other false = refl

      own : (b : Bool) → is_silent t.core c ≡ b → end_step (does t c) c ≡ does (end_step t c) c
      own true e =
          let closes : end_step t c ≡ falls_silent c t = ap (λ (b : Bool). cond b (falls_silent c t) t) e in
          ap (λ (u : Ticking). end_step u c) (s.quiet t c e)
          ∙ closes
          ∙ sym (s.over t c)
          ∙ ap (λ (u : Ticking). does u c) (sym closes)
      own false e =
          let stays : end_step t c ≡ t = ap (λ (b : Bool). cond b (falls_silent c t) t) e in
          ap (λ (b : Bool). cond b (falls_silent c (does t c)) (does t c)) (s.heard t c c ∙ e)
          ∙ ap (λ (u : Ticking). does u c) (sym stays)

  past-all : (ds : List Handle) (t : Ticking) (c : Handle) → end_step (fold does t ds) c ≡ fold does (end_step t c) ds
  past-all [] t c = refl
  past-all (d ∷ ds) t c = past-all ds (does t d) c ∙ ap (λ (u : Ticking). fold does u ds) (past-one t c d)

  all-past : (cs ds : List Handle) (t : Ticking) → fold end_step (fold does t ds) cs ≡ fold does (fold end_step t cs) ds
  all-past [] ds t = refl
  all-past (c ∷ cs) ds t = ap (λ (u : Ticking). fold end_step u cs) (past-all ds t c) ∙ all-past cs ds (end_step t c)

  all-heard : (ds : List Handle) (t : Ticking) (c : Handle) → is_silent (fold does t ds).core c ≡ is_silent t.core c
  all-heard [] t c = refl
  all-heard (d ∷ ds) t c = all-heard ds (does t d) c ∙ s.heard t c d

-- ECHOs end no silence
pub echoed-heard : (cs : List Handle) (t : Ticking) (d : Handle) → is_silent (all_echoed cs t).core d ≡ is_silent t.core d
echoed-heard cs t d = all-heard echo_step speaks-echo cs t d

-- ---- the circuits of a tick

ticks-is : (t : Ticking) (c : Handle) → ticks t c ≡ end_step (echo_step t c) c
ticks-is t c = go (connection_at t.core c) refl
  where
    m : ℕ
    m = t.core.moment

    done : Keep → Ticking
    done k = cond (is_close k) (falls_silent c (cond (is_echo k) (echoes c t) t)) (cond (is_echo k) (echoes c t) t)

    by : (k : Keep) → ticks_as k c t ≡ done k
    by Idle = refl
    by Echo = refl
    by Close = refl

    went : (a b : Bool) → is_echo_due t.core c ≡ a → is_silent t.core c ≡ b → end_step (echo_step t c) c ≡ cond b (falls_silent c (cond a (echoes c t) t)) (cond a (echoes c t) t)
    went a b due silent =
        let first : echo_step t c ≡ cond a (echoes c t) t = ap (λ (k : Bool). cond k (echoes c t) t) due in
        ap (λ (k : Bool). cond k (falls_silent c (echo_step t c)) (echo_step t c)) (speaks-echo.heard t c c ∙ silent)
        ∙ ap (λ (u : Ticking). cond b (falls_silent c u) u) first

    go : (o : Option Connection) → connection_at t.core c ≡ o → ticks t c ≡ end_step (echo_step t c) c
    go None is =
        ap (λ (o : Option Connection). unwrap_or (option_map (λ (e : Connection). ticks_as (kept m e.link) c t) o) t) is
        ∙ sym (went false false (ap (asks_in is_echo m) is) (ap (asks_in is_close m) is))
    go (Some e) is =
        ap (λ (o : Option Connection). unwrap_or (option_map (λ (e : Connection). ticks_as (kept m e.link) c t) o) t) is
        ∙ by (kept m e.link)
        ∙ sym (went (is_echo (kept m e.link)) (is_close (kept m e.link)) (ap (asks_in is_echo m) is) (ap (asks_in is_close m) is))

pub ticked-so : (cs : List Handle) (t : Ticking) → all_ended cs (all_echoed cs t) ≡ fold ticks t cs
ticked-so [] t = refl
ticked-so (c ∷ cs) t =
    ap (λ (u : Ticking). fold end_step u cs) (past-all echo_step speaks-echo cs (echo_step t c) c)
    ∙ ap (λ (u : Ticking). fold end_step (fold echo_step u cs) cs) (sym (ticks-is t c))
    ∙ ticked-so cs (ticks t c)

-- ---- those that are silent alone

pub calm-still : (t : Ticking) (c d : Handle) → is_silent t.core d ≡ false → is_silent (end_step t c).core d ≡ false
calm-still t c d calm = go (is_silent t.core c)
  where
    go : (b : Bool) → is_silent (cond b (falls_silent c t) t).core d ≡ false
    go false = calm
    go true = elim (handle-or d c) [
      | inl same ↦ subst (λ (k : Handle). is_silent (ended c t.core) k ≡ false) (sym same) (asks-own is_close c t.core)
      | inr other ↦ asks-past is_close c d t.core other ∙ calm
    ]

pub silent-alone : (Q : Handle → Bool) (cs : List Handle) (t : Ticking) → ((d : Handle) → Q d ≡ false → is_silent t.core d ≡ false) → all_ended (filter Q cs) t ≡ all_ended cs t
silent-alone Q [] t calm = refl
silent-alone Q (c ∷ cs) t calm = go (Q c) refl (silent-alone Q cs (end_step t c) (λ d out. calm-still t c d (calm d out)))
  where
    go : (b : Bool) → Q c ≡ b → all_ended (filter Q cs) (end_step t c) ≡ all_ended cs (end_step t c) → all_ended (filter Q (c ∷ cs)) t ≡ all_ended cs (end_step t c)
    go true e rest = ap (λ (b : Bool). all_ended (cond b (c ∷ filter Q cs) (filter Q cs)) t) e ∙ rest
    go false e rest =
        let stays : end_step t c ≡ t = ap (λ (b : Bool). cond b (falls_silent c t) t) (calm c e) in
        ap (λ (b : Bool). all_ended (cond b (c ∷ filter Q cs) (filter Q cs)) t) e
        ∙ ap (all_ended (filter Q cs)) (sym stays)
        ∙ rest

-- ---- nothing is silent any more

calm-fold : (cs : List Handle) (t : Ticking) (d : Handle) → is_silent t.core d ≡ false → is_silent (all_ended cs t).core d ≡ false
calm-fold [] t d calm = calm
calm-fold (c ∷ cs) t d calm = calm-fold cs (end_step t c) d (calm-still t c d calm)

calm-own : (t : Ticking) (c : Handle) → is_silent (end_step t c).core c ≡ false
calm-own t c = go (is_silent t.core c) refl
  where
    go : (b : Bool) → is_silent t.core c ≡ b → is_silent (end_step t c).core c ≡ false
    go true e = ap (λ (b : Bool). is_silent (cond b (falls_silent c t) t).core c) e ∙ asks-own is_close c t.core
    go false e = ap (λ (b : Bool). is_silent (cond b (falls_silent c t) t).core c) e ∙ e

calm-all : (cs : List Handle) (t : Ticking) → AllByRecursion (λ (d : Handle). is_silent (all_ended cs t).core d ≡ false) cs
calm-all [] t = tt
calm-all (c ∷ cs) t = (calm-fold cs (end_step t c) c (calm-own t c), calm-all cs (end_step t c))

-- ---- searches after the ends

each-as : {A : Type 0} (P Q : A → Type 0) (xs : List A) → ((x : A) → P x → Q x) → AllByRecursion P xs → AllByRecursion Q xs
each-as P Q [] f all = tt
each-as P Q (x ∷ xs) f all = (f x all.0, each-as P Q xs f all.1)

name-searched : (c d : Handle) (ws : List Wanted) (t : Ticking) → is_name_connected (all_searched_on ws t d).core c ≡ is_name_connected t.core c
name-searched c d [] t = refl
name-searched c d (w ∷ ws) t = name-searched c d ws (searches_on d t w) ∙ go (is_over t.core d)
  where
    go : (b : Bool) → is_name_connected (cond b t (with_sending (of_circuit d (search_request w.cid w.name)) t)).core c ≡ is_name_connected t.core c
    go true = refl
    go false = name-on (λ (e : Connection). record e { link = with_sent (search_request w.cid w.name ∷ []) e.link }) t.core d c

searched-so : (ws : List Wanted) (P : Handle → Bool) (ds : List Handle) (t : Ticking) → ((d : Handle) → P d ≡ is_name_connected t.core d) → AllByRecursion (λ (d : Handle). is_silent t.core d ≡ false) ds → all_searched ws ds t ≡ fold (all_searched_on ws) t (filter P ds)
searched-so ws P [] t same calm = refl
searched-so ws P (d ∷ ds) t same calm =
    go (P d) refl
    (searched-so ws P ds (all_searched_on ws t d) (λ k. same k ∙ sym (name-searched k d ws t))
    (each-as (λ (k : Handle). is_silent t.core k ≡ false) (λ (k : Handle). is_silent (all_searched_on ws t d).core k ≡ false) ds (λ k calm. search-heard k d ws t ∙ calm) calm.1))
    (searched-so ws P ds t same calm.1)
  where
    is : is_searched_on t.core d ≡ P d
    is =
        ap (λ (b : Bool). is_name_connected t.core d && not b) calm.0
        ∙ and-true (is_name_connected t.core d)
        ∙ sym (same d)

    next : Ticking
    next = all_searched_on ws t d

    go : (b : Bool) → P d ≡ b → all_searched ws ds next ≡ fold (all_searched_on ws) next (filter P ds) → all_searched ws ds t ≡ fold (all_searched_on ws) t (filter P ds) → all_searched ws (d ∷ ds) t ≡ fold (all_searched_on ws) t (filter P (d ∷ ds))
    go true e more rest =
        ap (λ (b : Bool). all_searched ws ds (cond b next t)) (is ∙ e)
        ∙ more
        ∙ ap (λ (b : Bool). fold (all_searched_on ws) t (cond b (d ∷ filter P ds) (filter P ds))) (sym e)
    go false e more rest =
        ap (λ (b : Bool). all_searched ws ds (cond b next t)) (is ∙ e)
        ∙ rest
        ∙ ap (λ (b : Bool). fold (all_searched_on ws) t (cond b (d ∷ filter P ds) (filter P ds))) (sym e)

-- ---- the circuits of name servers, in order

filter-within : {A : Type 0} (P Q : A → Bool) (xs : List A) → ((x : A) → P x ≡ true → Q x ≡ true) → filter P (filter Q xs) ≡ filter P xs
filter-within P Q [] within = refl
filter-within {A} P Q (x ∷ xs) within = go (Q x) refl (filter-within P Q xs within)
  where
    out : (b : Bool) → P x ≡ b → Q x ≡ false → filter P xs ≡ filter P (x ∷ xs)
    out true p e = absurd (both_ways (Q x) e (within x p))
    out false p e = ap (λ (b : Bool). cond b (x ∷ filter P xs) (filter P xs)) (sym p)

    go : (b : Bool) → Q x ≡ b → filter P (filter Q xs) ≡ filter P xs → filter P (filter Q (x ∷ xs)) ≡ filter P (x ∷ xs)
    go true e rest =
        ap (λ (b : Bool). filter P (cond b (x ∷ filter Q xs) (filter Q xs))) e
        ∙ ap (λ (ys : List A). cond (P x) (x ∷ ys) ys) rest
    go false e rest =
        ap (λ (b : Bool). filter P (cond b (x ∷ filter Q xs) (filter Q xs))) e ∙ rest ∙ out (P x) refl e

-- those of the order are those of these circuits
abbrev AreNamed : List Handle → Client → Type 0
AreNamed cs x = filter (is_name_connected x) x.order ≡ filter (is_name_connected x) cs

named-ended : (cs : List Handle) (c : Handle) (x : Client) → AreNamed cs x → AreNamed cs (ended c x)
named-ended cs c x so = go (under x.circuits c) refl
  where
    y : Client
    y = ended c x

    P : Handle → Bool
    P = is_name_connected y

    apart : (d : Handle) → P d ≡ true → d ≡ c → ⊥
    apart d is_it same = both_ways (P d) (subst (λ (k : Handle). P k ≡ false) (sym same) (name-own c x)) is_it

    was : (d : Handle) → P d ≡ true → is_name_connected x d ≡ true
    was d is_it = sym (name-past c d x (apart d is_it)) ∙ is_it

    last : filter P y.order ≡ filter P x.order → filter P y.order ≡ filter P cs
    last same =
        same
        ∙ sym (filter-within P (is_name_connected x) x.order was)
        ∙ ap (filter P) so
        ∙ filter-within P (is_name_connected x) cs was

    by : (b : Bool) → filter P (cond b (disconnected c (ended_but c x)) (without_circuit c (ended_but c x))).order ≡ filter P x.order
    by true = refl
    by false = filter-within P (λ (d : Handle). not (same_handle d c)) x.order (λ d is_it. ap not (same-not d c (apart d is_it)))

    go : (o : Option ClientCircuit) → under x.circuits c ≡ o → filter P y.order ≡ filter P cs
    go None is = last (ap (λ (z : Client). filter P z.order) (ended-gone c x is))
    go (Some d) is = last (ap (λ (z : Client). filter P z.order) (ended-is c x d is) ∙ by d.is_name)

named-step : (cs : List Handle) (t : Ticking) (c : Handle) → AreNamed cs t.core → AreNamed cs (end_step t c).core
named-step cs t c so = go (is_silent t.core c)
  where
    go : (b : Bool) → AreNamed cs (cond b (falls_silent c t) t).core
    go true = named-ended cs c t.core so
    go false = so

named-all : (cs ds : List Handle) (t : Ticking) → AreNamed cs t.core → AreNamed cs (all_ended ds t).core
named-all cs [] t so = so
named-all cs (d ∷ ds) t so = named-all cs ds (end_step t d) (named-step cs t d so)

pub echo-order : (cs : List Handle) (t : Ticking) → (all_echoed cs t).core.order ≡ t.core.order
echo-order [] t = refl
echo-order (c ∷ cs) t = echo-order cs (echo_step t c) ∙ go (is_echo_due t.core c)
  where
    go : (b : Bool) → (cond b (echoes c t) t).core.order ≡ t.core.order
    go true = refl
    go false = refl

-- ---- the whole

-- ECHOs, searches, and then ends: as if the searches came last
pub made-so : (t : Ticking) (ws : List Wanted) → (let u : Ticking = fold ticks t t.core.order in all_ended (silent_of t.core t.core.order) (all_searched ws t.core.order (all_echoed t.core.order t)) ≡ fold (all_searched_on ws) u (filter (is_name_connected u.core) u.core.order))
made-so t ws =
    let cs : List Handle = t.core.order in
    let one : Ticking = all_echoed cs t in
    let two : Ticking = all_searched ws cs one in
    let u : Ticking = all_ended cs one in
    let named : AreNamed cs u.core = named-all cs cs one (ap (filter (is_name_connected one.core)) (echo-order cs t)) in
    silent-alone (is_silent t.core) cs two
    (λ d calm. all-heard (search_step ws) (speaks-search ws) cs one d ∙ all-heard echo_step speaks-echo cs t d ∙ calm)
    ∙ all-past (search_step ws) (speaks-search ws) cs cs one
    ∙ searched-so ws (is_name_connected u.core) cs u (λ d. refl) (calm-all cs one)
    ∙ ap (fold (all_searched_on ws) u) (sym named)
    ∙ ap (λ (v : Ticking). fold (all_searched_on ws) v (filter (is_name_connected v.core) v.core.order)) (ticked-so cs t)

-- ---- what is reported

-- neither a notice nor the end of a circuit
abbrev pub IsCalm : Ticking → Ticking → Type 0
IsCalm t u = (u.notices ≡ t.notices) × (u.closings ≡ t.closings)

calm-search : (d : Handle) (ws : List Wanted) (t : Ticking) → IsCalm t (all_searched_on ws t d)
calm-search d [] t = (refl, refl)
calm-search d (w ∷ ws) t =
    let rest = calm-search d ws (searches_on d t w) in
    let first = go (is_over t.core d) in
    (rest.0 ∙ first.0, rest.1 ∙ first.1)
  where
    go : (b : Bool) → IsCalm t (cond b t (with_sending (of_circuit d (search_request w.cid w.name)) t))
    go true = (refl, refl)
    go false = (refl, refl)

pub calm-searches : (ws : List Wanted) (ds : List Handle) (t : Ticking) → IsCalm t (fold (all_searched_on ws) t ds)
calm-searches ws [] t = (refl, refl)
calm-searches ws (d ∷ ds) t =
    let rest = calm-searches ws ds (all_searched_on ws t d) in
    let first = calm-search d ws t in
    (rest.0 ∙ first.0, rest.1 ∙ first.1)

pub calm-searched : (ws : List Wanted) (ds : List Handle) (t : Ticking) → IsCalm t (all_searched ws ds t)
calm-searched ws [] t = (refl, refl)
calm-searched ws (d ∷ ds) t =
    let rest = calm-searched ws ds (search_step ws t d) in
    let first = go (is_searched_on t.core d) in
    (rest.0 ∙ first.0, rest.1 ∙ first.1)
  where
    go : (b : Bool) → IsCalm t (cond b (all_searched_on ws t d) t)
    go true = calm-search d ws t
    go false = (refl, refl)

pub calm-echoed : (cs : List Handle) (t : Ticking) → IsCalm t (all_echoed cs t)
calm-echoed [] t = (refl, refl)
calm-echoed (c ∷ cs) t =
    let rest = calm-echoed cs (echo_step t c) in
    let first = go (is_echo_due t.core c) in
    (rest.0 ∙ first.0, rest.1 ∙ first.1)
  where
    go : (b : Bool) → IsCalm t (cond b (echoes c t) t)
    go true = (refl, refl)
    go false = (refl, refl)

-- ---- what takes memory

pub ended-sent : (cs : List Handle) (t : Ticking) → (all_ended cs t).sent ≡ t.sent
ended-sent [] t = refl
ended-sent (c ∷ cs) t = ended-sent cs (end_step t c) ∙ go (is_silent t.core c)
  where
    go : (b : Bool) → (cond b (falls_silent c t) t).sent ≡ t.sent
    go true = refl
    go false = refl

-- an ECHO went out
pub sent-some : (t : Ticking) → (all_echoed t.core.order t).sent ≢ [] → (fold ticks t t.core.order).sent ≢ []
sent-some t some none =
    some (sym (ended-sent t.core.order (all_echoed t.core.order t)) ∙ ap (λ (u : Ticking). u.sent) (ticked-so t.core.order t) ∙ none)

last-some : {A : Type 0} (xs : List A) (x : A) → xs ++ x ∷ [] ≢ []
last-some [] x e = absurd cc
last-some (y ∷ xs) x e = absurd cc

echo-still : (cs : List Handle) (t : Ticking) → t.sent ≢ [] → (all_echoed cs t).sent ≢ []
echo-still [] t some = some
echo-still (c ∷ cs) t some = echo-still cs (echo_step t c) (go (is_echo_due t.core c))
  where
    go : (b : Bool) → (cond b (echoes c t) t).sent ≢ []
    go true = last-some t.sent (of_circuit c (header_only command.Echo))
    go false = some

-- one that is due after the first of them
pub echo-some : (cs ds : List Handle) (c : Handle) (t : Ticking) → is_echo_due (all_echoed cs t).core c ≡ true → (all_echoed (cs ++ c ∷ ds) t).sent ≢ []
echo-some [] ds c t due =
    echo-still ds (echo_step t c)
    (subst (λ (b : Bool). (cond b (echoes c t) t).sent ≢ []) (sym due) (last-some t.sent (of_circuit c (header_only command.Echo))))
echo-some (d ∷ cs) ds c t due = echo-some cs ds c (echo_step t d) due

closed-still : (cs : List Handle) (t : Ticking) → t.closings ≢ [] → (all_ended cs t).closings ≢ []
closed-still [] t some = some
closed-still (c ∷ cs) t some = closed-still cs (end_step t c) (go (is_silent t.core c))
  where
    go : (b : Bool) → (cond b (falls_silent c t) t).closings ≢ []
    go true = last-some t.closings (record { circuit = c; bytes = out_bytes t.core c })
    go false = some

closed-some : (cs : List Handle) (t : Ticking) → silent_of t.core cs ≢ [] → (all_ended cs t).closings ≢ []
closed-some [] t some = absurd (some refl)
closed-some (c ∷ cs) t some = go (is_silent t.core c) refl (closed-some cs t)
  where
    go : (b : Bool) → is_silent t.core c ≡ b → (silent_of t.core cs ≢ [] → (all_ended cs t).closings ≢ []) → (all_ended cs (end_step t c)).closings ≢ []
    go true e rest =
        closed-still cs (end_step t c)
        (subst (λ (b : Bool). (cond b (falls_silent c t) t).closings ≢ []) (sym e) (last-some t.closings (record { circuit = c; bytes = out_bytes t.core c })))
    go false e rest =
        subst (λ (b : Bool). (all_ended cs (cond b (falls_silent c t) t)).closings ≢ []) (sym e)
        (rest (λ none. some (ap (λ (b : Bool). cond b (c ∷ silent_of t.core cs) (silent_of t.core cs)) e ∙ none)))

same-silent : (cs : List Handle) (x y : Client) → ((d : Handle) → is_silent y d ≡ is_silent x d) → silent_of y cs ≡ silent_of x cs
same-silent [] x y same = refl
same-silent (c ∷ cs) x y same =
    ap (λ (b : Bool). cond b (c ∷ silent_of y cs) (silent_of y cs)) (same c)
    ∙ ap (λ (ds : List Handle). cond (is_silent x c) (c ∷ ds) ds) (same-silent cs x y same)

pub silent-echoed : (cs ds : List Handle) (t : Ticking) → silent_of (all_echoed cs t).core ds ≡ silent_of t.core ds
silent-echoed cs ds t = same-silent ds t.core (all_echoed cs t).core (λ d. all-heard echo_step speaks-echo cs t d)

-- an end has ended
pub ends-some : (t : Ticking) → silent_of t.core t.core.order ≢ [] → (fold ticks t t.core.order).closings ≢ []
ends-some t some none =
    closed-some t.core.order (all_echoed t.core.order t) (λ e. some (sym (silent-echoed t.core.order t.core.order t) ∙ e))
    (ap (λ (u : Ticking). u.closings) (ticked-so t.core.order t) ∙ none)
