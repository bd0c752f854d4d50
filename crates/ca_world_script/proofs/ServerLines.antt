-- What lines of servers add, and what refuses them.
use Rattle.std.proofs.Common.{◌≡◌, ℕ, Bool, true, false, List, [], ◌∷◌, ◌++◌, refl, sym, ap, ◌∙◌, subst, arith, inl, inr}
use Rattle.std.specs.Prelude.{Result, OnOk, codes}
use Rattle.ca_text.specs.declared.refusal.Refusal.{Refusal}
use Rattle.ca_text.specs.declared.refusal.Refusal.TheVariants.{BadText}
use Rattle.ca_model.specs.World.{ServerSetting}
use Rattle.ca_records.specs.Record.{RecordState}
use Rattle.ca_script.specs.Grammar.{Refuses}
use Rattle.ca_script.specs.Lines.{SaysRecord, SaysRule, SaysServer}
use Rattle.ca_script.proofs.Sayings.{apart, behind-same}
use Rattle.ca_script.proofs.Refusals.{NoWord, refuses-whole, says-none}
use Rattle.ca_model.specs.Ends.{Address}
use Rattle.ca_world_data.specs.Settings.{is_taken}
use Rattle.ca_world_script.proofs.Same.{same-server}
use Rattle.ca_script.proofs.Heads.{ok-then}
use Rattle.ca_world_script.specs.Events.{SaysAdd}
use Rattle.ca_world_script.specs.Scripts.{Adds, AddsAdd, AddsClient, AddsServer, AddsTo, Reading}
use Rattle.ca_world_script.specs.Lines.{SaysClient}
use Rattle.ca_world_script.specs.Servers.{TakesLine, TakesRecord, TakesRule}

-- ---- the first word tells the kind

pub of-record : (a m : ServerSetting) (rest words : List (List ℕ)) → words ≡ codes "record" ∷ rest → TakesLine a words m → TakesRecord a words m
of-record a m rest words e (inl h) = h
of-record a m rest words e (inr h) = absurd (apart (codes "record") (codes "rule") rest h.behind words (λ x. omega (arith, x)) e h.are)

pub of-rule : (a m : ServerSetting) (rest words : List (List ℕ)) → words ≡ codes "rule" ∷ rest → TakesLine a words m → TakesRule a words m
of-rule a m rest words e (inl h) = absurd (apart (codes "rule") (codes "record") rest h.behind words (λ x. omega (arith, x)) e h.are)
of-rule a m rest words e (inr h) = h

no-line : (old : ServerSetting) (words : List (List ℕ)) (new : ServerSetting) → NoWord words → TakesLine old words new → ⊥
no-line old words new nay (inl h) = nay (codes "record") h.behind h.are (omega arith)
no-line old words new nay (inr h) = nay (codes "rule") h.behind h.are (omega arith)

-- a line whose first word is none, or is empty
pub line-unread : (old : ServerSetting) (words : List (List ℕ)) (e : Refusal) → (e ≡ BadText) × NoWord words → Refuses (TakesLine old words) e
line-unread old words e nay =
    says-none (TakesLine old words) e nay.0 (λ (new : ServerSetting) (h : TakesLine old words new). no-line old words new nay.1 h)

-- ---- records and rules

pub record-unread : (old : ServerSetting) (words : List (List ℕ)) (e : Refusal) → Refuses (SaysRecord words old.records) e → Refuses (TakesRecord old (codes "record" ∷ words)) e
record-unread old words e nay =
    refuses-whole (SaysRecord words old.records) (TakesRecord old (codes "record" ∷ words)) e
    (λ (new : ServerSetting) (h : TakesRecord old (codes "record" ∷ words) new).
    let same : h.behind ≡ words = behind-same (codes "record") (codes "record") h.behind words (codes "record" ∷ words) h.are refl in
    (h.records, subst (λ (ws : List (List ℕ)). SaysRecord ws old.records h.records) same h.says))
    nay

pub rule-unread : (old : ServerSetting) (words : List (List ℕ)) (e : Refusal) → Refuses (SaysRule words) e → Refuses (TakesRule old (codes "rule" ∷ words)) e
rule-unread old words e nay =
    refuses-whole (SaysRule words) (TakesRule old (codes "rule" ∷ words)) e
    (λ (new : ServerSetting) (h : TakesRule old (codes "rule" ∷ words) new).
    let same : h.behind ≡ words = behind-same (codes "rule") (codes "rule") h.behind words (codes "rule" ∷ words) h.are refl in
    (h.rule, subst (λ (ws : List (List ℕ)). SaysRule ws h.rule) same h.says))
    nay

-- ---- the last server

abbrev ending : {A : Type 0} → A → List A → A
ending d [] = d
ending d (x ∷ xs) = ending x xs

ending-is : {A : Type 0} (d : A) (xs : List A) (x : A) → ending d (xs ++ x ∷ []) ≡ x
ending-is d [] x = refl
ending-is d (y ∷ xs) x = ending-is y xs x

last-one : {A : Type 0} (xs ys : List A) (x y : A) → xs ++ x ∷ [] ≡ ys ++ y ∷ [] → x ≡ y
last-one {A} xs ys x y e = sym (ending-is x xs x) ∙ ap (λ (zs : List A). ending x zs) e ∙ ending-is x ys y

-- a line that the last server does not take
pub line-refused : (old : Reading) (words : List (List ℕ)) (others : List ServerSetting) (server : ServerSetting) (e : Refusal) → old.servers ≡ others ++ server ∷ [] → Refuses (TakesLine server words) e → Refuses (AddsTo old words) e
line-refused old words others server e last nay =
    refuses-whole (TakesLine server words) (AddsTo old words) e
    (λ (new : Reading) (h : AddsTo old words new).
    let mine : h.server ≡ server = last-one h.others others h.server server (sym h.last ∙ last) in
    (h.next, subst (λ (s : ServerSetting). TakesLine s words h.next) mine h.takes))
    nay

-- ---- clients and servers

pub client-refused : (old : Reading) (words : List (List ℕ)) (e : Refusal) → Refuses (SaysClient words) e → Refuses (AddsClient old (codes "client" ∷ words)) e
client-refused old words e nay =
    refuses-whole (SaysClient words) (AddsClient old (codes "client" ∷ words)) e
    (λ (new : Reading) (h : AddsClient old (codes "client" ∷ words) new).
    let same : h.behind ≡ words = behind-same (codes "client") (codes "client") h.behind words (codes "client" ∷ words) h.are refl in
    (h.client, subst (λ (ws : List (List ℕ)). SaysClient ws h.client) same h.says))
    nay

pub server-unread : (old : Reading) (words : List (List ℕ)) (e : Refusal) → (e ≡ BadText) × ((host port : ℕ) → SaysServer words host port → ⊥) → Refuses (AddsServer old (codes "server" ∷ words)) e
server-unread old words e nay =
    says-none (AddsServer old (codes "server" ∷ words)) e nay.0
    (λ (new : Reading) (h : AddsServer old (codes "server" ∷ words) new).
    let same : h.behind ≡ words = behind-same (codes "server") (codes "server") h.behind words (codes "server" ∷ words) h.are refl in
    nay.1 h.address.host h.address.port (subst (λ (ws : List (List ℕ)). SaysServer ws h.address.host h.address.port) same h.says))

both-ways : (b : Bool) → b ≡ true → b ≡ false → ⊥
both-ways true p q = absurd cc
both-ways false p q = absurd cc

-- another server has its address
pub server-taken : (old : Reading) (words : List (List ℕ)) (a : Address) → SaysServer words a.host a.port → is_taken a old.servers ≡ true → (new : Reading) → AddsServer old (codes "server" ∷ words) new → ⊥
server-taken old words a says taken new h =
    let same : h.behind ≡ words = behind-same (codes "server") (codes "server") h.behind words (codes "server" ∷ words) h.are refl in
    let mine = subst (λ (ws : List (List ℕ)). SaysServer ws h.address.host h.address.port) same h.says in
    let parts = same-server words h.address.host h.address.port a.host a.port mine says in
    let one : h.address ≡ a = (λ i. record { host = parts.0 i; port = parts.1 i }) in
    both-ways (is_taken a old.servers) taken (subst (λ (b : Address). is_taken b old.servers ≡ false) one h.fresh)

pub addition-refused : (old : Reading) (words : List (List ℕ)) (e : Refusal) → Refuses (λ (p : ℕ × RecordState). SaysAdd words p.0 p.1) e → Refuses (AddsAdd old (codes "add" ∷ words)) e
addition-refused old words e nay =
    refuses-whole (λ (p : ℕ × RecordState). SaysAdd words p.0 p.1) (AddsAdd old (codes "add" ∷ words)) e
    (λ (new : Reading) (h : AddsAdd old (codes "add" ∷ words) new).
    let same : h.behind ≡ words = behind-same (codes "add") (codes "add") h.behind words (codes "add" ∷ words) h.are refl in
    ((h.server, h.r), subst (λ (ws : List (List ℕ)). SaysAdd ws h.server h.r) same h.says))
    nay

-- a line of a kind that was taken
pub kind-taken : {T : Type 0} (Kind : Reading → List (List ℕ) → Reading → Type 0) (word : List ℕ) → ((a m : Reading) (words : List (List ℕ)) → Kind a words m → Adds a words m) → (r : Result T Refusal) (old new : Reading) (words rest : List (List ℕ)) (first : List ℕ) → words ≡ first ∷ rest → first ≡ word → OnOk r (Kind old (word ∷ rest) new) → OnOk r (Adds old words new)
kind-taken Kind word into r old new words rest first split is takes =
    let are : word ∷ rest ≡ words = ap (λ (w : List ℕ). w ∷ rest) (sym is) ∙ sym split in
    ok-then r (λ (h : Kind old (word ∷ rest) new). into old new words (subst (λ (ws : List (List ℕ)). Kind old ws new) are h)) takes

pub as-client : (a m : Reading) (words : List (List ℕ)) → AddsClient a words m → Adds a words m
as-client a m words h = inl h

pub as-server : (a m : Reading) (words : List (List ℕ)) → AddsServer a words m → Adds a words m
as-server a m words h = inr (inl h)

pub to-taken : {T : Type 0} (r : Result T Refusal) (old new : Reading) (words : List (List ℕ)) → OnOk r (AddsTo old words new) → OnOk r (Adds old words new)
to-taken r old new words takes = ok-then r (λ (h : AddsTo old words new). inr (inr (inl h))) takes
