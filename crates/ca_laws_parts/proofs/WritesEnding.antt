-- Ends of circuits at a server end: the puts that wait there are withdrawn.
use Rattle.std.proofs.Common.{◌≡◌, ℕ, inr, Bool, true, false, not, List, ◌++◌, Option, Some, None, refl, sym, ap, subst, ◌∙◌}
use Rattle.std.specs.Prelude.{is_some, map, option_map, unwrap_or}
use Rattle.ca_text.specs.Place.{At}
use Rattle.ca_text.proofs.Places.{At-map, At-mapped}
use Rattle.ca_records.specs.declared.puts.Put.{Put}
use Rattle.ca_records.specs.Puts.{Record, withdrawn}
use Rattle.ca_model.specs.Speech.{In}
use Rattle.ca_model.specs.History.{Entry}
use Rattle.ca_model.specs.ServerEvents.{ending, ends_at, server_closed, withdrawals}
use Rattle.ca_model.specs.ServerEvents as event
use Rattle.ca_model.specs.World.{Joined, PutPlace, RecordSide}
use Rattle.ca_laws_parts.specs.Agrees.{Agrees, LoseAll, TestsAgree, WaitsAs}
use Rattle.ca_laws_parts.specs.Lives.{AreLater, AreOpen, CameOn, EndsAgree, IsPutOf, Later, Life, LostOn}
use Rattle.ca_laws_parts.proofs.WritesLists.{In-kept, beside-left, beside-right, both-at}
use Rattle.ca_laws_parts.proofs.Going.{life-later}
use Rattle.ca_laws_parts.proofs.Leaving.{agree-gone}

pub later-self : (c : Joined) → Later c c
later-self c = record {
  server = refl;
  handle = refl;
  life = refl;
  up = λ k s at. at;
  handled = λ k h at. at;
  ended = λ e. (e, refl);
}

-- a circuit that ends, or not, is the circuit still
pub ending-later : (ends : Joined → Option (List ℕ)) (c : Joined) → Later c (ending ends c)
ending-later ends c = go (ends c)
  where
    go : (o : Option (List ℕ)) → Later c (unwrap_or (option_map (λ (left : List ℕ). server_closed left c) o) c)
    go None = later-self c
    go (Some left) = record {
      server = refl;
      handle = refl;
      life = refl;
      up = λ k s at. at;
      handled = λ k h at. at;
      ended = λ e. (refl, refl);
    }

pub endings-later : (ends : Joined → Option (List ℕ)) (cs : List Joined) → AreLater cs (map (ending ends) cs)
endings-later ends cs n c at = (ending ends c, At-map (ending ends) cs n c at, ending-later ends c)

-- one that ends is closed, and one that does not is as it was
pub ending-closed : (ends : Joined → Option (List ℕ)) (c : Joined) → is_some (ends c) ≡ true → (ending ends c).lists.server_open ≡ false
ending-closed ends c e = go (ends c) e
  where
    go : (o : Option (List ℕ)) → is_some o ≡ true → (unwrap_or (option_map (λ (left : List ℕ). server_closed left c) o) c).lists.server_open ≡ false
    go None is = absurd cc
    go (Some left) is = refl

pub ending-not : (ends : Joined → Option (List ℕ)) (c : Joined) → is_some (ends c) ≡ false → ending ends c ≡ c
ending-not ends c e = go (ends c) e
  where
    go : (o : Option (List ℕ)) → is_some o ≡ false → unwrap_or (option_map (λ (left : List ℕ). server_closed left c) o) c ≡ c
    go None is = refl
    go (Some left) is = absurd cc

-- whether circuit n ends
pub ends-at-is : (ends : Joined → Option (List ℕ)) (cs : List Joined) (n : ℕ) (c : Joined) → At cs n c → ends_at ends cs n ≡ is_some (ends c)
ends-at-is ends cs n c at = ap (λ (o : Option Joined). unwrap_or (option_map (λ (j : Joined). is_some (ends j)) o) false) at

tests-agree : (circuits : List Joined) (server life : ℕ) (y : List Entry) (cs : List Record) (rs : List RecordSide) (n : ℕ) (ends : Joined → Option (List ℕ)) (lost : Put → Bool) → AreOpen circuits rs → EndsAgree circuits server ends lost → Life circuits server life y cs rs n → TestsAgree (λ (p : PutPlace). ends_at ends circuits p.circuit) lost cs rs
tests-agree circuits server life y cs rs n ends lost are_open agree a =
    λ i j c r p w in_cs in_rs at there.
    let g = both-at (Agrees (IsPutOf circuits server) y) cs rs i c r a.each in_cs in_rs in
    let is = (both-at (WaitsAs (IsPutOf circuits server) y r.number) r.waiting c.waiting j p w g.each at there).1 in
    ends-at-is ends circuits p.circuit is.c is.on
    ∙ sym (agree p.circuit is.c w.put is.on is.of (are_open i r p is.c in_rs (j, at) is.on) is.handle)

lose-all : (circuits : List Joined) (server life : ℕ) (y : List Entry) (cs : List Record) (rs : List RecordSide) (n : ℕ) (ends : Joined → Option (List ℕ)) → Life circuits server life y cs rs n → LoseAll (LostOn (map (ending ends) circuits)) (λ (p : PutPlace). ends_at ends circuits p.circuit) y rs
lose-all circuits server life y cs rs n ends a =
    λ j r p in_rs waits gone i le.
    let there = beside-right (Agrees (IsPutOf circuits server) y) cs rs j r a.each in_rs in
    let w = beside-left (WaitsAs (IsPutOf circuits server) y r.number) r.waiting there.0.waiting waits.0 p there.2.each waits.1 in
    let is : IsPutOf circuits server p w.0.put = w.2.1 in
    record {
      c = ending ends is.c;
      on = At-map (ending ends) circuits p.circuit is.c is.on;
      s = is.s;
      sent = (ending-later ends is.c).up p.place is.s is.sent;
      why = inr (ending-closed ends is.c (sym (ends-at-is ends circuits p.circuit is.c is.on) ∙ gone));
    }

-- Ends of this server's circuits end, and the core withdraws the puts that wait there.
pub life-ended : (circuits : List Joined) (server life : ℕ) (y : List Entry) (cs : List Record) (rs : List RecordSide) (n : ℕ) (ends : Joined → Option (List ℕ)) (lost : Put → Bool) → AreOpen circuits rs → EndsAgree circuits server ends lost → Life circuits server life y cs rs n → Life (map (ending ends) circuits) server life (y ++ withdrawals (ends_at ends circuits) rs) (withdrawn lost cs) (map (event.without_puts (ends_at ends circuits)) rs) n × AreOpen (map (ending ends) circuits) (map (event.without_puts (ends_at ends circuits)) rs)
life-ended circuits server life y cs rs n ends lost are_open agree a =
    let new : List Joined = map (ending ends) circuits in (
      agree-gone (CameOn new life) (LostOn new) (IsPutOf new server) y cs rs n (ends_at ends circuits) lost (tests-agree circuits server life y cs rs n ends lost are_open agree a) (lose-all circuits server life y cs rs n ends a)
          (life-later circuits new server life y cs rs n (endings-later ends circuits) a),
      λ j r p d in_rs waits on.
          let was = At-mapped (event.without_puts (ends_at ends circuits)) rs j r in_rs in
          let k = In-kept (λ (q : PutPlace). not (ends_at ends circuits q.circuit)) was.0.waiting p (subst (λ (x : RecordSide). In x.waiting p) was.2 waits) in
          let c = At-mapped (ending ends) circuits p.circuit d on in
          let stays : is_some (ends c.0) ≡ false = not-not (ends_at ends circuits p.circuit) (is_some (ends c.0)) (ends-at-is ends circuits p.circuit c.0 c.1) k.1 in
          subst (λ (x : Joined). x.lists.server_open ≡ true) (sym (c.2 ∙ ending-not ends c.0 stays)) (are_open j was.0 p c.0 was.1 k.0 c.1),
    )
  where
    not-not : (s t : Bool) → s ≡ t → not s ≡ true → t ≡ false
    not-not s true e h = absurd (let f : not true ≡ true = ap (λ (b : Bool). not b) (sym e) ∙ h in cc)
    not-not s false e h = refl
