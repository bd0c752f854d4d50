-- What a server knows of a record is what the log says.
use Rattle.std.proofs.Common.{◌≡◌, ℕ, suc, true, List, [], ◌∷◌, length, Option, Some, None, refl, sym, ap, ◌∙◌}
use Rattle.std.specs.Prelude.{is_some, map}
use Rattle.ca_records.specs.declared.puts.Put.{Put}
use Rattle.ca_records.specs.Puts.{Record}
use Rattle.ca_records.specs.Record.{RecordState}
use Rattle.ca_model.specs.ServerSteps.{known_record}
use Rattle.ca_model.specs.History.{Entry}
use Rattle.ca_model.specs.Channels.{Has}
use Rattle.ca_model.specs.Known.{IsBusy, IsNow}
use Rattle.ca_model.specs.World.{PutPlace, RecordSide}
use Rattle.ca_laws_parts.specs.Both.{Both}
use Rattle.ca_laws_parts.specs.Agrees.{Agrees, IsBusyAs, IsBusyBy, WaitsAs, pair_of, stored}

both-length : {A B : Type 0} (Q : A → B → Type 0) (xs : List A) (ys : List B) → Both Q xs ys → length ys ≡ length xs
both-length Q [] [] both = refl
both-length Q [] (y ∷ ys) both = absurd both
both-length Q (x ∷ xs) [] both = absurd both
both-length Q (x ∷ xs) (y ∷ ys) both = ap (λ (n : ℕ). suc n) (both-length Q xs ys both.1)

map-long : {A B : Type 0} (f : A → B) (xs : List A) → length (map f xs) ≡ length xs
map-long f [] = refl
map-long f (x ∷ xs) = ap (λ (n : ℕ). suc n) (map-long f xs)

module _ (Is : PutPlace → Put → Type 0) where
  busy-is : (y : List Entry) (r : ℕ) (o : Option PutPlace) (b : Option Put) → IsBusyAs Is o b → IsBusyBy y r o → (is_some b ≡ true → IsBusy y r) × (IsBusy y r → is_some b ≡ true)
  busy-is y r None None as_it idle = (λ e. absurd cc, λ busy. absurd (busy.4 (idle busy.0 busy.1 busy.2 busy.3)))
  busy-is y r None (Some b) as_it idle = absurd as_it
  busy-is y r (Some p) None as_it by = absurd as_it
  busy-is y r (Some p) (Some b) as_it by = (λ e. (p.circuit, p.place, by.v, (by.i, by.at), by.unfinished), λ busy. refl)

  pub is-now : (y : List Entry) (c : Record) (r : RecordSide) → Agrees Is y c r → IsNow y r.number (known_record c)
  is-now y c r a = record {
    first = a.first;
    added = a.added;
    v = stored c;
    last = a.value;
    state = a.state;
    busy = busy-is y r.number r.busy c.busy a.busy_as a.busy;
    waits = both-length (WaitsAs Is y r.number) r.waiting c.waiting a.each ∙ sym (map-long pair_of r.waiting) ∙ ap (λ (l : List (ℕ × ℕ)). length l) (sym a.waits);
  }

  pub has-name : (y : List Entry) (c : Record) (r : RecordSide) → Agrees Is y c r → Has y r.number r.name
  has-name y c r a = (a.first, a.added, ap (λ (s : RecordState). s.name) (sym a.state) ∙ a.name, a.there)
