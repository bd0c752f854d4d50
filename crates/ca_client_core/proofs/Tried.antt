-- What a moment makes a client send is what it sent as it was tried out.
use Rattle.std.proofs.Common.{◌≡◌, ◌≢◌, ◌∙◌, ℕ, ◌+◌, Bool, true, false, cond, List, [], ◌∷◌, ◌++◌, Some, Err, ap, fold, map, refl, subst, sym, take}
use Rattle.std.specs.Prelude.{IfOk, OnErr, Ok, Result, slice_get}
use Rattle.std.proofs.lemmas.List.{map-append}
use Rattle.ca_text.specs.declared.refusal.Refusal.TheVariants as refusal
use Rattle.ca_text.specs.declared.command.Command.TheVariants as command
use Rattle.ca_arena.specs.declared.handle.Handle.{Handle}
use Rattle.ca_search.specs.Searches.{Wanted}
use Rattle.ca_wire.specs.Fields.{Fields}
use Rattle.ca_wire.specs.Messages.{header_only, search_request}
use Rattle.ca_model.specs.Answers as answer
use Rattle.ca_model.specs.Client.{Client, later}
use Rattle.ca_model.specs.ClientCalls.{is_over}
use Rattle.ca_model.specs.ClientEnds.{ClientTicks, Ticking, all_searched_on, circuits_ticked, due, echoes, of_circuit, searches_on, with_sending}
use Rattle.ca_client_tables.specs.Ends.{with_messages, with_message}
use Rattle.ca_client_tables.proofs.Queued.{messages-none, messages-twice}
use Rattle.ca_client_core.specs.declared.for_histories.Sending.{Sending}
use Rattle.ca_client_core.specs.declared.for_moments.Foretold.{Foretold}
use Rattle.ca_client_core.specs.declared.ticking.Plan.{Plan}
use Rattle.ca_client_core.specs.Foretold.{AreSome, Foretells, IsFar, IsTried, Notes, Tries}
use Rattle.ca_client_core.specs.ForHistories.{sending_of}
use Rattle.ca_client_core.specs.Moments.{all_echoed, all_ended, all_searched, echo_step, is_echo_due, is_searched_on, is_silent, search_step, silent_of}
use Rattle.ca_client_core.specs.Ticked.{IsPlanned, LacksMemory, Plans, circuits_of}
use Rattle.ca_client_core.proofs.Moments.{calm-echoed, echoed-heard, ended-sent, ends-some, made-so, silent-alone, ticked-so}
use Rattle.ca_client_core.proofs.Prepared.{begins}
use Rattle.ca_client_core.proofs.Rounds.{echo-not, fold-next, none-searched, search-order}

-- ---- what was noted

-- one message more
noted-more : (ss zs : List Sending) (s : Sending) (e : answer.Sending) (us : List answer.Sending) → us ≡ map sending_of ss → sending_of s ≡ e → zs ≡ ss ++ s ∷ [] → us ++ e ∷ [] ≡ map sending_of zs
noted-more ss zs s e us sent is more =
    ap (λ (vs : List answer.Sending). vs ++ e ∷ []) sent
    ∙ ap (λ (z : answer.Sending). map sending_of ss ++ z ∷ []) (sym is)
    ∙ sym (map-append sending_of ss (s ∷ []))
    ∙ ap (map sending_of) (sym more)

-- one step more of a walk
pub notes-next : {A : Type 0} (step : Ticking → A → Ticking) (cs : List A) (i : ℕ) (c : A) (x y z : Client) (ss zs vs : List Sending) → slice_get cs i ≡ Some c → Notes (λ (t : Ticking). fold step t (take i cs)) x ss y zs → Notes (λ (t : Ticking). step t c) y zs z vs → Notes (λ (t : Ticking). fold step t (take (i + 1) cs)) x ss z vs
notes-next step cs i c x y z ss zs vs at before does t far =
    subst (λ (u : Ticking). IsFar u z vs) (sym (fold-next step cs i c t at)) (does (fold step t (take i cs)) (before t far))

-- the same of what is not walked any more
pub notes-same : (f g : Ticking → Ticking) (x y : Client) (ss zs : List Sending) → ((t : Ticking) → f t ≡ g t) → Notes f x ss y zs → Notes g x ss y zs
notes-same f g x y ss zs same does t far = subst (λ (u : Ticking). IsFar u y zs) (same t) (does t far)

-- a tick that is as far as this
abbrev far_at : Client → List Sending → Ticking
far_at x ss = record { core = x; sent = map sending_of ss; notices = []; closings = [] }

-- ---- ECHOs

pub noted-echo-not : (x : Client) (c : Handle) (ss : List Sending) → is_echo_due x c ≡ false → Notes (λ (t : Ticking). echo_step t c) x ss x ss
noted-echo-not x c ss off t far =
    (sym (echo-not x c t off far.0), ap (λ (b : Bool). (cond b (echoes c t) t).sent) (ap (λ (y : Client). is_echo_due y c) far.0 ∙ off) ∙ far.1)

pub noted-echo : (x y : Client) (c : Handle) (ss zs : List Sending) (s : Sending) → is_echo_due x c ≡ true → ((t : Ticking) → t.core ≡ x → y ≡ (echo_step t c).core) → sending_of s ≡ of_circuit c (header_only command.Echo) → zs ≡ ss ++ s ∷ []
    → Notes (λ (t : Ticking). echo_step t c) x ss y zs
noted-echo x y c ss zs s due does is more t far = (
  sym (does t far.0),
  ap (λ (b : Bool). (cond b (echoes c t) t).sent) (ap (λ (z : Client). is_echo_due z c) far.0 ∙ due)
      ∙ noted-more ss zs s (of_circuit c (header_only command.Echo)) t.sent far.1 is more,
)

-- ---- searches

pub noted-over : (x : Client) (c : Handle) (w : Wanted) (ss : List Sending) → is_over x c ≡ true → Notes (λ (t : Ticking). searches_on c t w) x ss x ss
noted-over x c w ss over t far =
    let is : is_over t.core c ≡ true = ap (λ (y : Client). is_over y c) far.0 ∙ over in
    let same : searches_on c t w ≡ t = ap (λ (b : Bool). cond b t (with_sending (of_circuit c (search_request w.cid w.name)) t)) is in
    (ap (λ (u : Ticking). u.core) same ∙ far.0, ap (λ (u : Ticking). u.sent) same ∙ far.1)

pub noted-search : (x y : Client) (c : Handle) (w : Wanted) (ss zs : List Sending) (s : Sending) → is_over x c ≡ false → y ≡ with_message c (search_request w.cid w.name) x → sending_of s ≡ of_circuit c (search_request w.cid w.name) → zs ≡ ss ++ s ∷ []
    → Notes (λ (t : Ticking). searches_on c t w) x ss y zs
noted-search x y c w ss zs s room does is more t far =
    let e : answer.Sending = of_circuit c (search_request w.cid w.name) in
    let free : is_over t.core c ≡ false = ap (λ (y : Client). is_over y c) far.0 ∙ room in
    let next : searches_on c t w ≡ with_sending e t = ap (λ (b : Bool). cond b t (with_sending e t)) free in (
      ap (λ (u : Ticking). u.core) next ∙ ap (with_message c (search_request w.cid w.name)) far.0 ∙ sym does,
      ap (λ (u : Ticking). u.sent) next ∙ noted-more ss zs s e t.sent far.1 is more,
    )

-- what waits after these messages
pub noted-kept : (x y z : Client) (c : Handle) (ms ns : List Fields) → y ≡ with_messages c ms x → z ≡ with_messages c ns y → (os : List Fields) × (z ≡ with_messages c os x)
noted-kept x y z c ms ns is next = (ms ++ ns, next ∙ ap (with_messages c ns) is ∙ messages-twice x c ms ns)

pub kept-none : (x y : Client) (c : Handle) → y ≡ x → (os : List Fields) × (y ≡ with_messages c os x)
kept-none x y c same = ([], same ∙ sym (messages-none x c))

pub kept-one : (x y : Client) (c : Handle) (m : Fields) → y ≡ with_message c m x → (os : List Fields) × (y ≡ with_messages c os x)
kept-one x y c m is = (m ∷ [], is)

pub noted-off : (x : Client) (c : Handle) (ws : List Wanted) (ss : List Sending) → is_searched_on x c ≡ false → Notes (λ (t : Ticking). search_step ws t c) x ss x ss
noted-off x c ws ss off t far =
    let is : is_searched_on t.core c ≡ false = ap (λ (y : Client). is_searched_on y c) far.0 ∙ off in
    let same : search_step ws t c ≡ t = ap (λ (b : Bool). cond b (all_searched_on ws t c) t) is in
    (ap (λ (u : Ticking). u.core) same ∙ far.0, ap (λ (u : Ticking). u.sent) same ∙ far.1)

pub noted-on : (x y : Client) (c : Handle) (ws : List Wanted) (ss zs : List Sending) → is_searched_on x c ≡ true → Notes (λ (t : Ticking). all_searched_on ws t c) x ss y zs → Notes (λ (t : Ticking). search_step ws t c) x ss y zs
noted-on x y c ws ss zs on does t far =
    let is : is_searched_on t.core c ≡ true = ap (λ (z : Client). is_searched_on z c) far.0 ∙ on in
    let same : search_step ws t c ≡ all_searched_on ws t c = ap (λ (b : Bool). cond b (all_searched_on ws t c) t) is in
    subst (λ (u : Ticking). IsFar u y zs) (sym same) (does t far)

-- the order of circuits stays
pub noted-order : (ws : List Wanted) (cs : List Handle) (x y : Client) (ss zs : List Sending) → Notes (all_searched ws cs) x ss y zs → y.order ≡ x.order
noted-order ws cs x y ss zs does =
    ap (λ (z : Client). z.order) (sym (does (far_at x ss) (refl, refl)).0) ∙ search-order ws cs (far_at x ss)

pub none-noted : (ws : List Wanted) (cs : List Handle) (x : Client) (ss : List Sending) → ws ≡ [] → Notes (all_searched ws cs) x ss x ss
none-noted ws cs x ss none t far = subst (λ (u : Ticking). IsFar u x ss) (sym (ap (λ (vs : List Wanted). all_searched vs cs t) none ∙ none-searched cs t)) far

-- ---- the whole

-- some, or none
pub are-some : (hs : List Handle) (b : Bool) → AreSome hs b → (b ≡ true → hs ≢ []) × (b ≡ false → hs ≡ [])
are-some hs true is = (λ e. is, λ e. absurd (let bad : true ≡ false = e in cc))
are-some hs false is = (λ e. absurd (let bad : false ≡ true = e in cc), λ e. is)

-- a plan tells what is sent, and whether an end is to end
pub tried-so : (x y : Client) (p : Plan) (f : Foretold) → f.sent.items ≡ p.sent.items → AreSome p.ends.items f.ends → Plans x p y → Tries x f
tried-so x y p f same some plans t is empty =
    let planned : IsPlanned t p y = plans.0 t is empty in
    let either = are-some p.ends.items f.ends some in
    record {
      sent = ap (map sending_of) same ∙ planned.sent;
      some = λ on none. either.0 on (planned.ends ∙ none);
      none = λ off. sym planned.ends ∙ either.1 off;
    }

-- no end is to end
none-end : (t : Ticking) → silent_of t.core t.core.order ≡ [] → (circuits_of t).closings ≡ t.closings
none-end t none =
    let cs : List Handle = t.core.order in
    let one : Ticking = all_echoed cs t in
    ap (λ (u : Ticking). u.closings)
    (sym (ticked-so cs t)
    ∙ sym (silent-alone (is_silent t.core) cs one (λ d calm. echoed-heard cs t d ∙ calm))
    ∙ ap (λ (ds : List Handle). all_ended ds one) none)
    ∙ (calm-echoed cs t).1

pub foretold-so : (x w : Client) (now m : ℕ) (f : Foretold) → m ≡ later now x → w ≡ record x { moment = m } → Tries w f → Foretells x now f
foretold-so x w now m f at begun tries =
    let start : Ticking = begins (record x { moment = later now x }) in
    let tried : IsTried start f = tries start (sym (begun ∙ ap (λ (n : ℕ). let v : Client = record x { moment = n } in v) at)) refl in
    let ws : List Wanted = due (circuits_ticked now x).core in
    let mid : Ticking = all_searched ws x.order (all_echoed x.order start) in
    record {
      sent =
          tried.sent
          ∙ sym (ended-sent (silent_of start.core x.order) mid)
          ∙ ap (λ (u : Ticking). u.sent) (made-so start ws);
      some = λ on. ends-some start (tried.some on);
      none = λ off. none-end start (tried.none off);
    }

pub foretold-lacks : (x w : Client) (now m : ℕ) → m ≡ later now x → w ≡ record x { moment = m } → LacksMemory w → ClientTicks x now (Err refusal.OutOfMemory) [] x
foretold-lacks x w now m at begun lacks =
    let start : Ticking = begins (record x { moment = later now x }) in
    (lacks start (sym (begun ∙ ap (λ (n : ℕ). let v : Client = record x { moment = n } in v) at)), (refl, refl))

-- it is as it was
pub foretold-back : (x w y new : Client) (m before : ℕ) → before ≡ x.moment → w ≡ record x { moment = m } → y ≡ w → new ≡ record y { moment = before } → new ≡ x
foretold-back x w y new m before was begun back is =
    is
    ∙ ap (λ (v : Client). let u : Client = record v { moment = before } in u) (back ∙ begun)
    ∙ ap (λ (n : ℕ). let u : Client = record x { moment = n } in u) was

-- ---- an answer, and what that says

pub ok-says : {A E : Type 0} (P Q : A → Type 0) (r : Result A E) → ((a : A) → P a → Q a) → IfOk r P → IfOk r Q
ok-says P Q (Ok a) says is = says a is
ok-says P Q (Err e) says is = is

pub err-says : {A E : Type 0} (P Q : Type 0) (r : Result A E) → (P → Q) → OnErr r P → OnErr r Q
err-says P Q (Ok a) says is = is
err-says P Q (Err e) says is = says is
