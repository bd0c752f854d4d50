-- What a server's core knows of its records is what the log of its life says.
use Rattle.std.proofs.Common.{◌≡◌, ℕ, zero, suc, Bool, true, false, cond, List, [], ◌∷◌, length, Option, Some, None, refl, sym, ap, subst, ◌∙◌}
use Rattle.std.specs.Prelude.{is_some, map, option_map}
use Rattle.std.specs.Str.{bytes_eq}
use Rattle.ca_records.specs.declared.puts.Put.{Put}
use Rattle.ca_records.specs.Puts.{Record, record_named}
use Rattle.ca_text.specs.Place.{At}
use Rattle.ca_text.proofs.Places.{some_is, At-one}
use Rattle.ca_model.specs.History.{Entry}
use Rattle.ca_model.specs.ServerSteps.{known_record}
use Rattle.ca_model.specs.Known.{IsBusy, IsNow, IsRecordOf}
use Rattle.ca_model.specs.Events.{Event}
use Rattle.ca_model.specs.Runs.{Runs}
use Rattle.ca_model.specs.World.{IsSetting, PutPlace, RecordSide, Setting, World}
use Rattle.ca_laws_runs.proofs.StepWhole.{run-serves}
use Rattle.ca_laws_parts.specs.Agrees.{Agrees, IsBusyAs, IsBusyBy, pair_of, stored}
use Rattle.ca_laws_parts.specs.Both.{Both}
use Rattle.ca_laws_parts.specs.Lives.{IsPutOf}
use Rattle.ca_laws_parts.proofs.WritesEvents.{found}
use Rattle.ca_laws_parts.proofs.WritesLists.{beside-right, none_at}
use Rattle.ca_laws_runs.specs.Knew.{KnowRecords}
use Rattle.ca_laws_runs.specs.Listed.{IsListed}
use Rattle.ca_laws_runs.proofs.PostFollowing.{same-bytes, titled}
use Rattle.ca_laws_runs.proofs.FollowsWhole.{run-stand}

both-length : {A B : Type 0} (Q : A → B → Type 0) (xs : List A) (ys : List B) → Both Q xs ys → length xs ≡ length ys
both-length Q [] [] both = refl
both-length Q [] (y ∷ ys) both = absurd both
both-length Q (x ∷ xs) [] both = absurd both
both-length Q (x ∷ xs) (y ∷ ys) both = ap (λ (n : ℕ). suc n) (both-length Q xs ys both.1)

map-length : {A B : Type 0} (f : A → B) (xs : List A) → length (map f xs) ≡ length xs
map-length f [] = refl
map-length f (x ∷ xs) = ap (λ (n : ℕ). suc n) (map-length f xs)

-- whether a put makes the record busy
busy-is : (Is : PutPlace → Put → Type 0) (y : List Entry) (r : ℕ) (o : Option PutPlace) (b : Option Put) → IsBusyBy y r o → IsBusyAs Is o b → (is_some b ≡ true → IsBusy y r) × (IsBusy y r → is_some b ≡ true)
busy-is Is y r None None idle same = ((λ e. cc), (λ busy. absurd (busy.4 (idle busy.0 busy.1 busy.2 busy.3))))
busy-is Is y r None (Some b) idle same = absurd same
busy-is Is y r (Some p) None busy same = absurd same
busy-is Is y r (Some p) (Some b) busy same = ((λ e. (p.circuit, p.place, busy.v, (busy.i, busy.at), busy.unfinished)), (λ e. refl))

now-of : (Is : PutPlace → Put → Type 0) (y : List Entry) (c : Record) (r : RecordSide) → Agrees Is y c r → IsNow y r.number (known_record c)
now-of Is y c r a = record {
  first = a.first;
  added = a.added;
  v = stored c;
  last = a.value;
  state = a.state;
  busy = busy-is Is y r.number r.busy c.busy a.busy a.busy_as;
  waits = sym (both-length _ r.waiting c.waiting a.each) ∙ sym (map-length pair_of r.waiting) ∙ ap (λ (l : List (ℕ × ℕ)). length l) (sym a.waits);
}

-- a name that is not found is no record's
unfound : (name : List ℕ) (cs : List Record) (i : ℕ) (c : Record) → At cs i c → bytes_eq c.state.name name ≡ true → record_named cs name ≡ None → ⊥
unfound name [] i c at same none = none_at i c at
unfound name (x ∷ cs) i c at same none = go (bytes_eq x.state.name name) refl none i at (λ j there e. unfound name cs j c there same e)
  where
    some-none : (z : Record) → let a : Option Record = Some z in let b : Option Record = None in a ≡ b → ⊥
    some-none z e = cc

    clash : (b : Bool) → b ≡ true → b ≡ false → ⊥
    clash true e f = cc
    clash false e f = cc

    go : (b : Bool) → bytes_eq x.state.name name ≡ b → cond b (Some x) (record_named cs name) ≡ None → (i : ℕ) → At (x ∷ cs) i c → ((j : ℕ) → At cs j c → record_named cs name ≡ None → ⊥) → ⊥
    go true is e i at more = some-none x e
    go false is e zero at more = clash (bytes_eq c.state.name name) same (ap (λ (z : Record). bytes_eq z.state.name name) (sym (some_is x c at)) ∙ is)
    go false is e (suc i) at more = more i at e

record-of : (Is : PutPlace → Put → Type 0) (y : List Entry) (cs : List Record) (rs : List RecordSide) (name : List ℕ) → Both (Agrees Is y) cs rs → IsListed y rs → IsRecordOf y name (option_map known_record (record_named cs name))
record-of Is y cs rs name both listed = go (record_named cs name) refl
  where
    go : (o : Option Record) → record_named cs name ≡ o → IsRecordOf y name (option_map known_record o)
    go (Some c) is =
        let g = found Is y cs rs name c both is in
        (g.r.number, (g.agrees.first, g.agrees.added, sym (ap (λ (z : _). z.name) g.agrees.state) ∙ g.agrees.name ∙ g.named, g.agrees.there), now-of Is y c g.r g.agrees)
    go None is = λ r has.
        let x = titled rs (has.0.name, r) (listed r has.0 has.1 has.3) in
        let b = beside-right (Agrees Is y) cs rs x.1.0 x.0 both x.1.1 in
        unfound name cs x.1.0 b.0 b.1 (same-bytes b.0.state.name name (b.2.name ∙ ap (λ (v : List ℕ × ℕ). v.0) (sym x.2) ∙ has.2)) is

pub run-records : (s : Setting) (es : List Event) (stopped : Option Event) (w : World) → IsSetting s → Runs s es stopped w → KnowRecords w
run-records s es stopped w ok runs i y e log name at logged =
    let own = (run-serves s es stopped w ok runs).stands.sound.writes.lives i y at in
    let same : own.log ≡ log = At-one w.server_logs y.life own.log log own.at logged in
    subst (λ (l : List Entry). IsRecordOf l name (option_map known_record (record_named y.core.records name))) same
    (record-of (IsPutOf w.circuits i) own.log y.core.records y.records name own.life.each ((run-stand s es stopped w ok runs).listed i y own.log at own.at))
