-- The first word of a line says its kind.
use Rattle.std.proofs.Common.{◌≡◌, ◌<◌, ℕ, ◌⊎◌, inl, inr, List, [], ◌∷◌, length, get_or, refl, sym, ap, ◌∙◌, subst, arith}
use Rattle.std.specs.Prelude.{Result, IfErr, if◌then◌else◌, codes}
use Rattle.std.specs.Str.{bytes_eq}
use Rattle.ca_text.specs.declared.refusal.Refusal.{Refusal}
use Rattle.ca_text.specs.declared.refusal.Refusal.TheVariants.{BadText}
use Rattle.ca_model.specs.World.{ServerSetting}
use Rattle.ca_events.specs.Events.{event_of}
use Rattle.ca_script.specs.Grammar.{Refuses}
use Rattle.ca_script.proofs.Sayings.{behind-same}
use Rattle.ca_script.proofs.Refusals.{NoWord, err-then, refuses-whole, says-none}
use Rattle.ca_world_script.specs.Events.{SaysPost, verb_word}
use Rattle.ca_world_script.specs.Scripts.{Adds, AddsAdd, AddsClient, AddsEvent, AddsPost, AddsServer, AddsTo, Reading}
use Rattle.ca_world_script.specs.Servers.{TakesLine}
use Rattle.ca_world_script.specs.declared.verb.Verb.{Verb}
use Rattle.ca_world_script.specs.declared.verb.Verb.TheVariants as verb

-- a number for each kind of line, 0 for events
abbrev kind : List ℕ → ℕ
kind w =
    if bytes_eq w (codes "client") then 1 else if bytes_eq w (codes "server") then 2 else if bytes_eq w (codes "record") then 3 else if bytes_eq w (codes "rule") then 3 else if bytes_eq w (codes "post") then 4 else if bytes_eq w (codes "add") then 5 else 0

-- the first word
abbrev first : List (List ℕ) → List ℕ
first words = get_or words 0 []

event-kind : (v : Verb) → kind (verb_word v) ≡ 0
event-kind verb.Open = refl
event-kind verb.Clear = refl
event-kind verb.Read = refl
event-kind verb.Write = refl
event-kind verb.WriteNotify = refl
event-kind verb.Subscribe = refl
event-kind verb.Unsubscribe = refl
event-kind verb.Collect = refl
event-kind verb.GiveUp = refl
event-kind verb.Datagram = refl
event-kind verb.Accept = refl
event-kind verb.Up = refl
event-kind verb.Down = refl
event-kind verb.ServerStep = refl
event-kind verb.ClientStep = refl
event-kind verb.Pump = refl
event-kind verb.Cut = refl
event-kind verb.ClientRestart = refl
event-kind verb.ServerRestart = refl
event-kind verb.Finish = refl
event-kind verb.Remove = refl
event-kind verb.Tick = refl

event-first : (v : Verb) → 0 < length (verb_word v)
event-first verb.Open = omega arith
event-first verb.Clear = omega arith
event-first verb.Read = omega arith
event-first verb.Write = omega arith
event-first verb.WriteNotify = omega arith
event-first verb.Subscribe = omega arith
event-first verb.Unsubscribe = omega arith
event-first verb.Collect = omega arith
event-first verb.GiveUp = omega arith
event-first verb.Datagram = omega arith
event-first verb.Accept = omega arith
event-first verb.Up = omega arith
event-first verb.Down = omega arith
event-first verb.ServerStep = omega arith
event-first verb.ClientStep = omega arith
event-first verb.Pump = omega arith
event-first verb.Cut = omega arith
event-first verb.ClientRestart = omega arith
event-first verb.ServerRestart = omega arith
event-first verb.Finish = omega arith
event-first verb.Remove = omega arith
event-first verb.Tick = omega arith

-- these words begin with one of this kind
abbrev Of : ℕ → List (List ℕ) → Type 0
Of n words = kind (first words) ≡ n

begins : (words rest : List (List ℕ)) (w : List ℕ) → words ≡ w ∷ rest → kind (first words) ≡ kind w
begins words rest w e = ap (λ (ws : List (List ℕ)). kind (first ws)) e

client-of : (a m : Reading) (words : List (List ℕ)) → AddsClient a words m → Of 1 words
client-of a m words h = begins words h.behind (codes "client") h.are

server-of : (a m : Reading) (words : List (List ℕ)) → AddsServer a words m → Of 2 words
server-of a m words h = begins words h.behind (codes "server") h.are

takes-of : (a m : ServerSetting) (words : List (List ℕ)) → TakesLine a words m → Of 3 words
takes-of a m words (inl h) = begins words h.behind (codes "record") h.are
takes-of a m words (inr h) = begins words h.behind (codes "rule") h.are

to-of : (a m : Reading) (words : List (List ℕ)) → AddsTo a words m → Of 3 words
to-of a m words h = takes-of h.server h.next words h.takes

event-of : (a m : Reading) (words : List (List ℕ)) → AddsEvent a words m → Of 0 words
event-of a m words h = begins words h.behind (verb_word h.verb) h.are ∙ event-kind h.verb

post-of : (a m : Reading) (words : List (List ℕ)) → AddsPost a words m → Of 4 words
post-of a m words h = begins words h.behind (codes "post") h.are

add-of : (a m : Reading) (words : List (List ℕ)) → AddsAdd a words m → Of 5 words
add-of a m words h = begins words h.behind (codes "add") h.are

two-kinds : {A : Type 0} (m n : ℕ) (words : List (List ℕ)) → (m ≡ n → ⊥) → Of m words → Of n words → A
two-kinds m n words other p q = absurd (other (sym p ∙ q))

kind-client : (a m : Reading) (words : List (List ℕ)) → Of 1 words → Adds a words m → AddsClient a words m
kind-client a m words e (inl h) = h
kind-client a m words e (inr (inl h)) = two-kinds 1 2 words (λ x. omega (arith, x)) e (server-of a m words h)
kind-client a m words e (inr (inr (inl h))) = two-kinds 1 3 words (λ x. omega (arith, x)) e (to-of a m words h)
kind-client a m words e (inr (inr (inr (inl h)))) = two-kinds 1 0 words (λ x. omega (arith, x)) e (event-of a m words h)
kind-client a m words e (inr (inr (inr (inr (inl h))))) = two-kinds 1 4 words (λ x. omega (arith, x)) e (post-of a m words h)
kind-client a m words e (inr (inr (inr (inr (inr h))))) = two-kinds 1 5 words (λ x. omega (arith, x)) e (add-of a m words h)

kind-server : (a m : Reading) (words : List (List ℕ)) → Of 2 words → Adds a words m → AddsServer a words m
kind-server a m words e (inl h) = two-kinds 2 1 words (λ x. omega (arith, x)) e (client-of a m words h)
kind-server a m words e (inr (inl h)) = h
kind-server a m words e (inr (inr (inl h))) = two-kinds 2 3 words (λ x. omega (arith, x)) e (to-of a m words h)
kind-server a m words e (inr (inr (inr (inl h)))) = two-kinds 2 0 words (λ x. omega (arith, x)) e (event-of a m words h)
kind-server a m words e (inr (inr (inr (inr (inl h))))) = two-kinds 2 4 words (λ x. omega (arith, x)) e (post-of a m words h)
kind-server a m words e (inr (inr (inr (inr (inr h))))) = two-kinds 2 5 words (λ x. omega (arith, x)) e (add-of a m words h)

kind-to : (a m : Reading) (words : List (List ℕ)) → Of 3 words → Adds a words m → AddsTo a words m
kind-to a m words e (inl h) = two-kinds 3 1 words (λ x. omega (arith, x)) e (client-of a m words h)
kind-to a m words e (inr (inl h)) = two-kinds 3 2 words (λ x. omega (arith, x)) e (server-of a m words h)
kind-to a m words e (inr (inr (inl h))) = h
kind-to a m words e (inr (inr (inr (inl h)))) = two-kinds 3 0 words (λ x. omega (arith, x)) e (event-of a m words h)
kind-to a m words e (inr (inr (inr (inr (inl h))))) = two-kinds 3 4 words (λ x. omega (arith, x)) e (post-of a m words h)
kind-to a m words e (inr (inr (inr (inr (inr h))))) = two-kinds 3 5 words (λ x. omega (arith, x)) e (add-of a m words h)

kind-post : (a m : Reading) (words : List (List ℕ)) → Of 4 words → Adds a words m → AddsPost a words m
kind-post a m words e (inl h) = two-kinds 4 1 words (λ x. omega (arith, x)) e (client-of a m words h)
kind-post a m words e (inr (inl h)) = two-kinds 4 2 words (λ x. omega (arith, x)) e (server-of a m words h)
kind-post a m words e (inr (inr (inl h))) = two-kinds 4 3 words (λ x. omega (arith, x)) e (to-of a m words h)
kind-post a m words e (inr (inr (inr (inl h)))) = two-kinds 4 0 words (λ x. omega (arith, x)) e (event-of a m words h)
kind-post a m words e (inr (inr (inr (inr (inl h))))) = h
kind-post a m words e (inr (inr (inr (inr (inr h))))) = two-kinds 4 5 words (λ x. omega (arith, x)) e (add-of a m words h)

kind-add : (a m : Reading) (words : List (List ℕ)) → Of 5 words → Adds a words m → AddsAdd a words m
kind-add a m words e (inl h) = two-kinds 5 1 words (λ x. omega (arith, x)) e (client-of a m words h)
kind-add a m words e (inr (inl h)) = two-kinds 5 2 words (λ x. omega (arith, x)) e (server-of a m words h)
kind-add a m words e (inr (inr (inl h))) = two-kinds 5 3 words (λ x. omega (arith, x)) e (to-of a m words h)
kind-add a m words e (inr (inr (inr (inl h)))) = two-kinds 5 0 words (λ x. omega (arith, x)) e (event-of a m words h)
kind-add a m words e (inr (inr (inr (inr (inl h))))) = two-kinds 5 4 words (λ x. omega (arith, x)) e (post-of a m words h)
kind-add a m words e (inr (inr (inr (inr (inr h))))) = h

pub of-client : (a m : Reading) (rest words : List (List ℕ)) → words ≡ codes "client" ∷ rest → Adds a words m → AddsClient a words m
of-client a m rest words e h = kind-client a m words (begins words rest (codes "client") e) h

pub of-server : (a m : Reading) (rest words : List (List ℕ)) → words ≡ codes "server" ∷ rest → Adds a words m → AddsServer a words m
of-server a m rest words e h = kind-server a m words (begins words rest (codes "server") e) h

pub of-add : (a m : Reading) (rest words : List (List ℕ)) → words ≡ codes "add" ∷ rest → Adds a words m → AddsAdd a words m
of-add a m rest words e h = kind-add a m words (begins words rest (codes "add") e) h

-- a line of a record or a rule
pub to-refused : {T : Type 0} (r : Result T Refusal) (a : Reading) (words rest : List (List ℕ)) (w : List ℕ) → words ≡ w ∷ rest → (w ≡ codes "record") ⊎ (w ≡ codes "rule") → IfErr r (λ e. Refuses (AddsTo a words) e) → IfErr r (λ e. Refuses (Adds a words) e)
to-refused r a words rest w e (inl is) nay =
    err-then r (λ e. Refuses (AddsTo a words) e) (λ e. Refuses (Adds a words) e)
    (λ x no. refuses-whole (AddsTo a words) (Adds a words) x (λ (m : Reading) (h : Adds a words m). (m, kind-to a m words (begins words rest w e ∙ ap (λ (v : List ℕ). kind v) is) h)) no) nay
to-refused r a words rest w e (inr is) nay =
    err-then r (λ e. Refuses (AddsTo a words) e) (λ e. Refuses (Adds a words) e)
    (λ x no. refuses-whole (AddsTo a words) (Adds a words) x (λ (m : Reading) (h : Adds a words m). (m, kind-to a m words (begins words rest w e ∙ ap (λ (v : List ℕ). kind v) is) h)) no) nay

no-line : (a : Reading) (words : List (List ℕ)) (m : Reading) → NoWord words → Adds a words m → ⊥
no-line a words m nay (inl h) = nay (codes "client") h.behind h.are (omega arith)
no-line a words m nay (inr (inl h)) = nay (codes "server") h.behind h.are (omega arith)
no-line a words m nay (inr (inr (inl h))) = by h.takes
  where
    by : TakesLine h.server words h.next → ⊥
    by (inl k) = nay (codes "record") k.behind k.are (omega arith)
    by (inr k) = nay (codes "rule") k.behind k.are (omega arith)
no-line a words m nay (inr (inr (inr (inl h)))) = nay (verb_word h.verb) h.behind h.are (event-first h.verb)
no-line a words m nay (inr (inr (inr (inr (inl h))))) = nay (codes "post") h.behind h.are (omega arith)
no-line a words m nay (inr (inr (inr (inr (inr h))))) = nay (codes "add") h.behind h.are (omega arith)

-- a line whose first word is none, or is empty
pub line-refused : (a : Reading) (words : List (List ℕ)) (e : Refusal) → (e ≡ BadText) × NoWord words → Refuses (Adds a words) e
line-refused a words e nay = says-none (Adds a words) e nay.0 (λ (m : Reading) (h : Adds a words m). no-line a words m nay.1 h)

-- a post that says none
pub post-refused : (a : Reading) (words rest : List (List ℕ)) (w : List ℕ) (e : Refusal) → words ≡ w ∷ rest → w ≡ codes "post" → Refuses (SaysPost a.servers a.added rest) e → Refuses (Adds a words) e
post-refused a words rest w e are is nay =
    refuses-whole (SaysPost a.servers a.added rest) (Adds a words) e
    (λ (m : Reading) (h : Adds a words m).
    let k = kind-post a m words (begins words rest w are ∙ ap (λ (v : List ℕ). kind v) is) h in
    let behind : k.behind ≡ rest = behind-same (codes "post") w k.behind rest words k.are are in
    (event_of k.event, subst (λ (ws : List (List ℕ)). SaysPost a.servers a.added ws (event_of k.event)) behind k.says))
    nay
