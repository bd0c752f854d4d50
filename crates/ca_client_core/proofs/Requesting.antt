-- A read is issued, with its message.
use Rattle.std.proofs.Common.{◌≡◌, ◌∙◌, ◌<◌, ℕ, zero, suc, Bool, true, false, if◌then◌else◌, not, List, [], ◌∷◌, Option, Some, None, Result, Ok, Err, ap, arith, is_none, length, refl, subst, sym}
use Rattle.std.proofs.lemmas.Bool.{lt-ltb, ne_eqb}
use Rattle.std.specs.Prelude.{nat_lt}
use Rattle.std.specs.declared.alloc.AllocError.{AllocError}
use Rattle.ca_text.specs.declared.refusal.Refusal.{Refusal}
use Rattle.ca_text.specs.declared.refusal.Refusal.TheVariants as refusal
use Rattle.ca_arena.specs.declared.handle.Handle.{Handle}
use Rattle.ca_records.specs.Rules.{may_read}
use Rattle.ca_ids.specs.Table.{MayGive, is_full}
use Rattle.ca_ids.proofs.Holding.{may-not-full}
use Rattle.ca_wire.specs.Fields.{Fields}
use Rattle.ca_requests.specs.Requests.{Asked}
use Rattle.ca_requests.specs.Requests as request
use Rattle.ca_model.specs.Answers.{Sending}
use Rattle.ca_model.specs.Client.{Client, out_bytes, standing_at}
use Rattle.ca_model.specs.ClientCalls.{IsLive, LiveChannel, ReadsUnless, Shape, is_over, read_sent, typed_fault}
use Rattle.ca_model.specs.Images.{type_of}
use Rattle.ca_client_core.specs.Asks.{Asks, IssuesOr, with_request}
use Rattle.ca_client_core.specs.Lives.{ioid_fault}
use Rattle.ca_client_tables.specs.Ends.{cut_back, with_message}
use Rattle.ca_client_tables.proofs.Queued.{cut-messages}
use Rattle.ca_client_core.proofs.Faults.{Faults, and_then, earlier-fault, fault-memory, last-fault}

-- ---- what was queued is taken back

-- only what waited before is left
pub cut-queued : (x : Client) (c : Handle) (m : Fields) (n : ℕ) → n ≡ length (out_bytes x c) → cut_back c n (with_message c m x) ≡ x
cut-queued x c m n all = cut-messages x c (m ∷ []) n all

-- ---- a request is issued, and its message waits

pub asks-or : (x y z : Client) (n : ℕ) (q h c : Handle) (asked : Asked) (m : Fields) (r : Result (Unit {0}) AllocError) → n ≡ length (out_bytes x c) → y ≡ with_message c m x → IssuesOr n y q h c asked r z → Asks x q h c asked m r z
asks-or x y z n q h c asked m (Ok u) all is did =
    (subst (λ (w : Client). MayGive w.requests q) is did.0, did.1 ∙ ap (with_request q h c asked) is)
asks-or x y z n q h c asked m (Err e) all is did = did ∙ ap (cut_back c n) is ∙ cut-queued x c m n all

-- ---- a read

-- the refusal of a read for which no id is free
abbrev unless : Bool → Option Refusal
unless full = if full then Some refusal.ArenaFull else None

-- the faults of a read or of a subscription, except that no id is free
abbrev pub asks : Bool → Client → Shape → Faults
asks bad x a = λ (l : LiveChannel).
    (bad, refusal.BadType)
    ∷ (not (may_read l.rights), refusal.NoAccess)
    ∷ (nat_lt l.native.count a.count, refusal.BadCount)
    ∷ (is_over x l.circuit, refusal.OutputFull)
    ∷ []

pub ask-memory : (bad : Bool) (x : Client) (full : Bool) (h : Handle) (a : Shape) → typed_fault bad x full h a ≡ Some refusal.OutOfMemory → ⊥
ask-memory bad x full h a is =
    fault-memory (and_then (asks bad x a) full refusal.ArenaFull) (standing_at x h)
    (λ l. (λ same. absurd cc, (λ same. absurd cc, (λ same. absurd cc, (λ same. absurd cc, (λ same. absurd cc, tt)))))) is

pub reads-not : (bad : Bool) (x : Client) (h : Handle) (a : Shape) (e : Refusal) → typed_fault bad x false h a ≡ Some e → (sent : List Sending) × ReadsUnless (typed_fault bad x (is_full x.requests) h a) x h a (Err e) sent x
reads-not bad x h a refusal.OutOfMemory is = absurd (ask-memory bad x false h a is)
reads-not bad x h a e is =
    ([], (earlier-fault (asks bad x a) refusal.ArenaFull e (is_full x.requests) (standing_at x h) is, (refl, refl)))

-- what may be asked for while an id is free is refused only if none is
pub may-unless : (bad : Bool) (x : Client) (h : Handle) (a : Shape) (l : LiveChannel) → IsLive x h l → typed_fault bad x false h a ≡ None → ioid_fault x ≡ typed_fault bad x (is_full x.requests) h a
may-unless bad x h a l live none = by (is_full x.requests)
  where
    by : (full : Bool) → (if full then Some refusal.ArenaFull else None) ≡ typed_fault bad x full h a
    by true = sym (last-fault (asks bad x a) refusal.ArenaFull (standing_at x h) l live none)
    by false = sym none

pub reads-full : (x : Client) (h : Handle) (a : Shape) → is_full x.requests ≡ true → (sent : List Sending) × ReadsUnless (ioid_fault x) x h a (Err refusal.ArenaFull) sent x
reads-full x h a full = ([], (ap unless full, (refl, refl)))

-- an id may be given
may-ask : (x : Client) (q : Handle) → MayGive x.requests q → ioid_fault x ≡ None
may-ask x q may = ap unless (may-not-full x.requests q may)

pub reads-out : (x : Client) (h : Handle) (a : Shape) (q : Handle) (new : Client) → MayGive x.requests q → new ≡ x → (sent : List Sending) × ReadsUnless (ioid_fault x) x h a (Err refusal.OutOfMemory) sent new
reads-out x h a q new may is = ([], (may-ask x q may, (refl, is)))

pub reads-done : (x : Client) (h : Handle) (a : Shape) (l : LiveChannel) (q : Handle) (m : Fields) (new : Client) → IsLive x h l → m ≡ (read_sent h l a q).message → Asks x q h l.circuit (request.Read a.data_type a.count) m (Ok tt) new → (sent : List Sending) × ReadsUnless (ioid_fault x) x h a (Ok q) sent new
reads-done x h a l q m new live says did =
    (read_sent h l a q ∷ [], (l, live, may-ask x q did.0, did.0, (refl, did.1 ∙ ap (λ (f : Fields). with_message l.circuit f (with_request q h l.circuit (request.Read a.data_type a.count) x)) says)))

-- ---- the type of a read

-- a plain type is one up to 20
no-plain-type : (n : ℕ) → 20 < n → is_none (type_of n) ≡ true
no-plain-type n over =
    rw (ne_eqb 0 n (λ e. omega (arith, e, over)), ne_eqb 1 n (λ e. omega (arith, e, over)), ne_eqb 2 n (λ e. omega (arith, e, over)), ne_eqb 3 n (λ e. omega (arith, e, over)), ne_eqb 4 n (λ e. omega (arith, e, over)), ne_eqb 5 n (λ e. omega (arith, e, over)), ne_eqb 6 n (λ e. omega (arith, e, over)), ne_eqb 7 n (λ e. omega (arith, e, over)), ne_eqb 8 n (λ e. omega (arith, e, over)), ne_eqb 9 n (λ e. omega (arith, e, over)), ne_eqb 10 n (λ e. omega (arith, e, over)), ne_eqb 11 n (λ e. omega (arith, e, over)), ne_eqb 12 n (λ e. omega (arith, e, over)), ne_eqb 13 n (λ e. omega (arith, e, over)), ne_eqb 14 n (λ e. omega (arith, e, over)), ne_eqb 15 n (λ e. omega (arith, e, over)), ne_eqb 16 n (λ e. omega (arith, e, over)), ne_eqb 17 n (λ e. omega (arith, e, over)), ne_eqb 18 n (λ e. omega (arith, e, over)), ne_eqb 19 n (λ e. omega (arith, e, over)), ne_eqb 20 n (λ e. omega (arith, e, over))) refl

pub plain-type : (n : ℕ) → is_none (type_of n) ≡ nat_lt 20 n
plain-type zero = refl
plain-type (suc zero) = refl
plain-type (suc (suc zero)) = refl
plain-type (suc (suc (suc zero))) = refl
plain-type (suc (suc (suc (suc zero)))) = refl
plain-type (suc (suc (suc (suc (suc zero))))) = refl
plain-type (suc (suc (suc (suc (suc (suc zero)))))) = refl
plain-type (suc (suc (suc (suc (suc (suc (suc zero))))))) = refl
plain-type (suc (suc (suc (suc (suc (suc (suc (suc zero)))))))) = refl
plain-type (suc (suc (suc (suc (suc (suc (suc (suc (suc zero))))))))) = refl
plain-type (suc (suc (suc (suc (suc (suc (suc (suc (suc (suc zero)))))))))) = refl
plain-type (suc (suc (suc (suc (suc (suc (suc (suc (suc (suc (suc zero))))))))))) = refl
plain-type (suc (suc (suc (suc (suc (suc (suc (suc (suc (suc (suc (suc zero)))))))))))) = refl
plain-type (suc (suc (suc (suc (suc (suc (suc (suc (suc (suc (suc (suc (suc zero))))))))))))) = refl
plain-type (suc (suc (suc (suc (suc (suc (suc (suc (suc (suc (suc (suc (suc (suc zero)))))))))))))) = refl
plain-type (suc (suc (suc (suc (suc (suc (suc (suc (suc (suc (suc (suc (suc (suc (suc zero))))))))))))))) = refl
plain-type (suc (suc (suc (suc (suc (suc (suc (suc (suc (suc (suc (suc (suc (suc (suc (suc zero)))))))))))))))) = refl
plain-type (suc (suc (suc (suc (suc (suc (suc (suc (suc (suc (suc (suc (suc (suc (suc (suc (suc zero))))))))))))))))) = refl
plain-type (suc (suc (suc (suc (suc (suc (suc (suc (suc (suc (suc (suc (suc (suc (suc (suc (suc (suc zero)))))))))))))))))) = refl
plain-type (suc (suc (suc (suc (suc (suc (suc (suc (suc (suc (suc (suc (suc (suc (suc (suc (suc (suc (suc zero))))))))))))))))))) = refl
plain-type (suc (suc (suc (suc (suc (suc (suc (suc (suc (suc (suc (suc (suc (suc (suc (suc (suc (suc (suc (suc zero)))))))))))))))))))) = refl
plain-type (suc (suc (suc (suc (suc (suc (suc (suc (suc (suc (suc (suc (suc (suc (suc (suc (suc (suc (suc (suc (suc n))))))))))))))))))))) =
    no-plain-type (suc (suc (suc (suc (suc (suc (suc (suc (suc (suc (suc (suc (suc (suc (suc (suc (suc (suc (suc (suc (suc n))))))))))))))))))))) (omega arith) ∙ sym (lt-ltb 20 (suc (suc (suc (suc (suc (suc (suc (suc (suc (suc (suc (suc (suc (suc (suc (suc (suc (suc (suc (suc (suc n))))))))))))))))))))) (omega arith))
