-- What a client's calls do to the requests that wait: what they report completes some, each once,
-- and the others wait on.
use Rattle.std.proofs.Common.{◌≡◌, ℕ, inl, inr, ◌⊎◌, Bool, true, false, ◌&&◌, cond, List, [], ◌∷◌, ◌++◌, eqb, Option, Some, None, refl, sym, ap, ◌∙◌, subst, filter, ⊎_elim}
use Rattle.std.specs.Prelude.{option_and_then, option_map, unwrap_or}
use Rattle.std.proofs.lemmas.Bool.{both_ways}
use Rattle.ca_arena.specs.declared.handle.Handle.{Handle}
use Rattle.ca_dbr.specs.declared.value.Outcome.{Outcome}
use Rattle.ca_text.specs.Command.{command_number}
use Rattle.ca_ids.specs.Table.{MayGive, Table, by_wire, under, with_freed, with_held}
use Rattle.ca_requests.specs.Requests.{Draining, Open, Request, Stage, answered_by, asks_on, channel_over, command_of, is_open, is_open_in, over_on, was_sent_on}
use Rattle.ca_model.specs.Answers.{Completed, Notice, Sending}
use Rattle.ca_model.specs.Client.{Client, disconnections, sending, with_one_sent}
use Rattle.ca_model.proofs.Tables.{all-back, freed-back, given-none, held-back, held-other, held-own, one-value, wire-under}
use Rattle.ca_client_core.specs.Notices.{Completion, completions}
use Rattle.ca_client.specs.Awaited.{Among, AreApart, IsListed, Waits}
use Rattle.ca_client.proofs.Lists.{among-filter, among-last, apart-filter, apart-last, append-nil, completions-first, ends, told-ends}
use Rattle.ca_client.proofs.Tickets.{But, Leaves, Tells}

-- ---- a request is open

-- every request
abbrev pub any : Request → Bool
any q = true

-- what is found is open, and the test names it
abbrev pub opens : (Request → Bool) → Option Request → Bool
opens which o = unwrap_or (option_map (λ (r : Request). which r && is_open_in r.stage) o) false

pub open-back : (which : Request → Bool) (t : Table Request) (q : Handle) → is_open which t q ≡ true → (r : Request) × (under t q ≡ Some r) × (which r ≡ true) × (r.stage ≡ Open)
open-back which t q e = go (under t q) refl e
  where
    stage : (s : Stage) → is_open_in s ≡ true → s ≡ Open
    stage Open f = refl
    stage Draining f = absurd (both_ways false refl f)

    both : (r : Request) (b : Bool) → which r ≡ b → (b && is_open_in r.stage) ≡ true → (which r ≡ true) × (r.stage ≡ Open)
    both r true w f = (w, stage r.stage f)
    both r false w f = absurd (both_ways false refl f)

    go : (o : Option Request) → under t q ≡ o → opens which o ≡ true → (r : Request) × (under t q ≡ Some r) × (which r ≡ true) × (r.stage ≡ Open)
    go None at f = absurd (both_ways false refl f)
    go (Some r) at f = (let b = both r (which r) refl f in (r, at, b.0, b.1))

pub not-open : (which : Request → Bool) (t : Table Request) (q : Handle) (u : Request) → under t q ≡ Some u → which u ≡ false → is_open which t q ≡ true → ⊥
not-open which t q u at fails e =
    let r = open-back which t q e in
    let same : r.0 ≡ u = one-value t q r.0 u r.1 at in
    both_ways (which u) fails (subst (λ (z : Request). which z ≡ true) same r.2)

-- ---- what completes

pub leaves-ends : (asked : Handle → Type 0) (qs : List Handle) (k : Handle) → asked k → ¬ (Among qs k) → Leaves asked (ends qs) k
leaves-ends asked [] k a n = a
leaves-ends asked (q ∷ qs) k a n = leaves-ends (But asked q) qs k (a, λ e. n (inl (sym e))) (λ m. n (inr m))

pub tells-ends : (asked : Handle → Type 0) (qs : List Handle) → AreApart qs → ((k : Handle) → Among qs k → asked k) → Tells asked (ends qs)
tells-ends asked [] a f = tt
tells-ends asked (q ∷ qs) a f =
    (f q (inl refl), tells-ends (But asked q) qs a.1 (λ k m. (f k (inr m), λ e. a.0 (subst (Among qs) e m))))

pub tells-more : (few more : Handle → Type 0) (cs : List Completion) → ((q : Handle) → few q → more q) → Tells few cs → Tells more cs
tells-more few more [] f h = tt
tells-more few more (c ∷ cs) f h = (f c.0 h.0, tells-more (But few c.0) (But more c.0) cs (λ q g. (f q g.0, g.1)) h.1)

pub leaves-more : (few more : Handle → Type 0) (cs : List Completion) → ((q : Handle) → few q → more q) → (q : Handle) → Leaves few cs q → Leaves more cs q
leaves-more few more [] f q h = f q h
leaves-more few more (c ∷ cs) f q h = leaves-more (But few c.0) (But more c.0) cs (λ k g. (f k g.0, g.1)) q h

-- From x, these notices tell what became of requests that waited, and y is left.
pub record Told (x : Client) (ns : List Notice) (y : Client) : Type 0 where
  pub tells : Tells (Waits x) (completions ns)
  pub leaves : (q : Handle) → Waits y q → Leaves (Waits x) (completions ns) q
  pub listed : IsListed y

-- the requests are the same
pub record Same (x y : Client) : Type 0 where
  pub requests : y.requests ≡ x.requests
  pub issued : y.issued ≡ x.issued

pub same-itself : (x : Client) → Same x x
same-itself x = record { requests = refl; issued = refl }

pub same-then : (x y z : Client) → Same x y → Same y z → Same x z
same-then x y z a b = record { requests = b.requests ∙ a.requests; issued = b.issued ∙ a.issued }

pub waits-same : (x y : Client) (q : Handle) → Same x y → Waits y q → Waits x q
waits-same x y q s w = (w.0, subst (λ (t : Table Request). under t q ≡ Some w.0) s.requests w.1, w.2)

pub listed-same : (x y : Client) → Same x y → IsListed x → IsListed y
listed-same x y s l = record {
  wait = λ q m. (let w = l.wait q (subst (λ (hs : List Handle). Among hs q) s.issued m) in (w.0, subst (λ (t : Table Request). under t q ≡ Some w.0) (sym s.requests) w.1, w.2));
  once = subst AreApart (sym s.issued) l.once;
}

pub listed-fewer : (x y : Client) → y.issued ≡ filter (is_open any y.requests) x.issued → IsListed x → IsListed y
listed-fewer x y e l = record {
  wait = λ q m.
      let f = among-filter (is_open any y.requests) x.issued q (subst (λ (hs : List Handle). Among hs q) e m) in
      let o = open-back any y.requests q f.1 in
      (o.0, o.1, o.3);
  once = subst AreApart (sym e) (apart-filter (is_open any y.requests) x.issued l.once);
}

pub same-sending : (sends : List Sending) (x : Client) → Same x (sending sends x)
same-sending [] x = same-itself x
same-sending (s ∷ sends) x =
    same-then x (with_one_sent x s) (sending (s ∷ sends) x) (record { requests = refl; issued = refl }) (same-sending sends (with_one_sent x s))

-- ---- what is told

-- these are the completions among the notices
told-by : (x y : Client) (ns : List Notice) (cs : List Completion) → completions ns ≡ cs → Tells (Waits x) cs → ((q : Handle) → Waits y q → Leaves (Waits x) cs q) → IsListed y → Told x ns y
told-by x y ns cs is tells leaves l = record {
  tells = subst (Tells (Waits x)) (sym is) tells;
  leaves = λ q w. subst (λ (ds : List Completion). Leaves (Waits x) ds q) (sym is) (leaves q w);
  listed = l;
}

-- no request is complete
pub told-quiet : (x y : Client) (ns : List Notice) → ((q : Handle) → Waits y q → Waits x q) → IsListed y → completions ns ≡ [] → Told x ns y
told-quiet x y ns back l none = told-by x y ns [] none tt back l

pub told-same : (x y : Client) (ns : List Notice) → Same x y → IsListed x → completions ns ≡ [] → Told x ns y
told-same x y ns s l none = told-quiet x y ns (λ q w. waits-same x y q s w) (listed-same x y s l) none

pub told-on : (x y z : Client) (ns : List Notice) → Told x ns y → Same y z → Told x ns z
told-on x y z ns t s =
    record { tells = t.tells; leaves = λ q w. t.leaves q (waits-same y z q s w); listed = listed-same y z s t.listed }

pub told-from : (x y z : Client) (ns : List Notice) → Same x y → Told y ns z → Told x ns z
told-from x y z ns s t = record {
  tells = tells-more (Waits y) (Waits x) (completions ns) (λ q w. waits-same x y q s w) t.tells;
  leaves = λ q w. leaves-more (Waits y) (Waits x) (completions ns) (λ k h. waits-same x y k s h) q (t.leaves q w);
  listed = t.listed;
}

-- the open requests that the test names are complete with Disconnected
pub told-ended : (x y : Client) (which : Request → Bool) (rest : List Notice) → IsListed x → IsListed y → ((q : Handle) → Waits y q → Waits x q × ¬ (is_open which x.requests q ≡ true)) → completions rest ≡ [] → Told x (disconnections which x ++ rest) y
told-ended x y which rest l after back none =
    let qs : List Handle = filter (is_open which x.requests) x.issued in
    let is : completions (disconnections which x ++ rest) ≡ ends qs =
    ap (λ (ns : List Notice). completions (ns ++ rest)) (told-ends qs) ∙ completions-first (ends qs) rest ∙ ap (λ (cs : List Completion). ends qs ++ cs) none
    ∙ append-nil (ends qs) in
    told-by x y (disconnections which x ++ rest) (ends qs) is
    (tells-ends (Waits x) qs (apart-filter (is_open which x.requests) x.issued l.once) (λ k m. l.wait k (among-filter (is_open which x.requests) x.issued k m).0))
    (λ q w. leaves-ends (Waits x) qs q (back q w).0 (λ m. (back q w).1 (among-filter (is_open which x.requests) x.issued q m).1))
    after

-- one request is complete
pub told-one : (x y : Client) (q : Handle) (o : Outcome) → Waits x q → IsListed y → ((k : Handle) → Waits y k → But (Waits x) q k) → Told x (Completed q o ∷ []) y
told-one x y q o w l back =
    record { tells = (w, tt); leaves = back; listed = l }

-- ---- requests that are over

pub freed-waits : (x : Client) (q k : Handle) (y : Client) → y.requests ≡ with_freed q x.requests → Waits y k → But (Waits x) q k
freed-waits x q k y is w =
    let f = freed-back x.requests k q w.0 (subst (λ (t : Table Request). under t k ≡ Some w.0) is w.1) in
    ((w.0, f.1, w.2), f.0)

pub over-waits : (h : Handle) (x y : Client) (q : Handle) → y.requests ≡ channel_over h x.requests → Waits y q → Waits x q × ¬ (is_open (asks_on h) x.requests q ≡ true)
over-waits h x y q is w =
    let was = all-back (over_on h) x.requests q w.0 (subst (λ (t : Table Request). under t q ≡ Some w.0) is w.1) in
    let f = stays was.0 (asks_on h was.0) refl (sym (ap (λ (z : Request). z.stage) was.2) ∙ w.2) in
    ((was.0, was.1, f.0), not-open (asks_on h) x.requests q was.0 was.1 f.1)
  where
    no-open : Draining ≡ Open → ⊥
    no-open e = cc

    stays : (r : Request) (b : Bool) → asks_on h r ≡ b → (cond b (record r { stage = Draining }) r).stage ≡ Open → (r.stage ≡ Open) × (asks_on h r ≡ false)
    stays r true e s = absurd (no-open s)
    stays r false e s = (s, e)

-- ---- a request is issued

pub issued-back : (x y : Client) (q k : Handle) (r : Request) → y.requests ≡ with_held q r x.requests → Waits y k → (k ≡ q) ⊎ Waits x k
issued-back x y q k r is w = elim (held-back x.requests k q r w.0 (subst (λ (t : Table Request). under t k ≡ Some w.0) is w.1)) [
  | inl own ↦ inl own.0
  | inr old ↦ inr (w.0, old, w.2)
]

-- no request of the index waited
pub issued-apart : (x : Client) (q k : Handle) → MayGive x.requests q → Waits x k → k.index ≡ q.index → ⊥
issued-apart x q k may w same = given-none x.requests k q w.0 may w.1 same

pub issued-listed : (x y : Client) (q : Handle) (r : Request) → MayGive x.requests q → r.stage ≡ Open → y.requests ≡ with_held q r x.requests → y.issued ≡ x.issued ++ q ∷ [] → IsListed x → IsListed y
issued-listed x y q r may begins is order l = record {
  wait = λ k m. ⊎_elim
      (λ (was : Among x.issued k). (let w = l.wait k was in (w.0, subst (λ (t : Table Request). under t k ≡ Some w.0) (sym is) (held-other x.requests k q r w.0 may w.1), w.2)))
      (λ (own : q ≡ k). (r, subst (λ (t : Table Request). under t k ≡ Some r) (sym is) (subst (λ (h : Handle). under (with_held q r x.requests) h ≡ Some r) own (held-own x.requests q r may)), begins))
      (among-last x.issued q k (subst (λ (hs : List Handle). Among hs k) order m));
  once = subst AreApart (sym order) (apart-last x.issued q l.once (λ m. issued-apart x q q may (l.wait q m) refl));
}

-- ---- what a reply is about

pub answered-there : (c : Handle) (command id : ℕ) (t : Table Request) (q : Handle) (r : Request) → answered_by c command id t ≡ Some (q, r) → under t q ≡ Some r
answered-there c command id t q r is = go (by_wire t id) refl is
  where
    some-is : (a b : Handle × Request) → Some a ≡ Some b → a ≡ b
    some-is a b e = cc

    go : (o : Option (Handle × Request)) → by_wire t id ≡ o
        → option_and_then (λ (e : Handle × Request). cond (was_sent_on c e.1 && eqb (command_number (command_of e.1.asked)) command) (Some e) None) o ≡ Some (q, r) → under t q ≡ Some r
    go None at e = absurd cc
    go (Some p) at e = by (was_sent_on c p.1 && eqb (command_number (command_of p.1.asked)) command) e
      where
        by : (b : Bool) → cond b (Some p) None ≡ Some (q, r) → under t q ≡ Some r
        by true f = (let same = some-is p (q, r) f in subst (λ (z : Handle × Request). under t z.0 ≡ Some z.1) same (wire-under t id p at).0)
        by false f = absurd cc
