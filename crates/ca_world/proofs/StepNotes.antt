-- What a message did is told and noted: circuits stay where they are.
use Rattle.std.proofs.Common.{◌≡◌, ℕ, ◌<◌, Bool, true, false, List, Option, Some, None, length, refl, sym, ap, subst, ◌∙◌}
use Rattle.std.specs.Prelude.{Vec, map, vec_len}
use Rattle.std.specs.declared.alloc.Global.{Global}
use Rattle.std.proofs.lemmas.List.{length-map}
use Rattle.ca_arena.specs.declared.handle.Handle.{Handle}
use Rattle.ca_text.specs.Place.{At}
use Rattle.ca_text.proofs.Places.{At-mapped}
use Rattle.ca_model.specs.History.{Entry}
use Rattle.ca_model.specs.ServerSteps.{write_mask}
use Rattle.ca_model.specs.ServerEvents.{numbers_posted}
use Rattle.ca_model.specs.World as model
use Rattle.ca_server_circuit.specs.declared.effect.Effect.{Effect}
use Rattle.ca_server_circuit.specs.declared.effect.Effect.TheVariants as effect
use Rattle.ca_world_data.specs.declared.joined.Joined.{Joined}
use Rattle.ca_world_data.specs.declared.server.ServerSide.{ServerSide}
use Rattle.ca_world_data.specs.Reporting.{AreServed}
use Rattle.ca_world_data.specs.Seen.{joined_of}
use Rattle.ca_world_data.proofs.Indexes.{KeepsEnds, ends-stay}
use Rattle.ca_world_servers.specs.declared.coming.Coming.{Coming}
use Rattle.ca_world_servers.specs.declared.parting.Parting.{Parting}
use Rattle.ca_world_servers.specs.Effects.{IsTold, TellsClear, TellsMessage, TellsWait, TellsWrite}
use Rattle.ca_world_servers.proofs.Done.{map-same}
use Rattle.ca_world.proofs.Postings.{posted-keeps}

-- What is told of a message leaves the server its circuits, its core and its life, and
-- each circuit its ends.
pub record Stays (y : ServerSide) (ks : List model.Joined) (y' : ServerSide) (ks' : List model.Joined) : Type 0 where
  pub numbers : y'.circuits.items ≡ y.circuits.items
  pub core : y'.core ≡ y.core
  pub life : y'.life ≡ y.life
  pub f : model.Joined → model.Joined
  pub keeps : (j : model.Joined) → KeepsEnds j (f j)
  pub circuits : ks' ≡ map f ks

stays-so : (y y' : ServerSide) (ks ks' : List model.Joined) → y' ≡ y → ks' ≡ ks → Stays y ks y' ks'
stays-so y y' ks ks' side circuits = record {
  numbers = ap (λ (z : ServerSide). z.circuits.items) side;
  core = ap (λ (z : ServerSide). z.core) side;
  life = ap (λ (z : ServerSide). z.life) side;
  f = λ j. j;
  keeps = λ j. ends-stay j j refl;
  circuits = circuits ∙ map-same (λ j. j) ks (λ j. refl);
}

stays-told : (records : List model.RecordSide) (told : List Entry) (y y' : ServerSide) (ks ks' : List model.Joined) (logs logs' : List (List Entry)) (f : model.Joined → model.Joined) → ((j : model.Joined) → KeepsEnds j (f j)) → IsTold records told y logs y' logs' → ks' ≡ map f ks → Stays y ks y' ks'
stays-told records told y y' ks ks' logs logs' f keeps is circuits = record {
  numbers = is.numbers;
  core = ap (λ (z : model.ServerSide). z.core) is.side;
  life = ap (λ (z : model.ServerSide). z.life) is.side;
  f = f;
  keeps = keeps;
  circuits = circuits;
}

stays-apart : (records : List model.RecordSide) (told : List Entry) (y y' : ServerSide) (ks ks' : List model.Joined) (logs logs' : List (List Entry)) → IsTold records told y logs y' logs' → ks' ≡ ks → Stays y ks y' ks'
stays-apart records told y y' ks ks' logs logs' is circuits =
    stays-told records told y y' ks ks' logs logs' (λ j. j) (λ j. ends-stay j j refl) is (circuits ∙ map-same (λ j. j) ks (λ j. refl))

module _ (i : ℕ) (p : model.PutPlace) (y y' : ServerSide) (ks ks' : List model.Joined) (logs logs' : List (List Entry)) where
  pub stays-write : (wrote : Option Bool) (write : Option Coming) → TellsWrite i p wrote write y ks logs y' ks' logs' → Stays y ks y' ks'
  stays-write None write told = stays-so y y' ks ks' told.0 told.1
  stays-write (Some busies) None told = stays-so y y' ks ks' told.0 told.1
  stays-write (Some busies) (Some w) told =
      stays-told _ _ y y' ks ks' logs logs' (numbers_posted i y.core w.name.items write_mask) (λ j. posted-keeps i y.core w.name.items write_mask j) told.0 told.1

  stays-wait : (write : Option Coming) → TellsWait p write y logs y' logs' → ks' ≡ ks → Stays y ks y' ks'
  stays-wait None told circuits = stays-so y y' ks ks' told.0 circuits
  stays-wait (Some w) told circuits = stays-apart _ _ y y' ks ks' logs logs' told circuits

  stays-clear : (parting : Option Parting) → TellsClear parting y logs y' logs' → ks' ≡ ks → Stays y ks y' ks'
  stays-clear None told circuits = stays-so y y' ks ks' told.0 circuits
  stays-clear (Some q) told circuits = stays-apart _ _ y y' ks ks' logs logs' told circuits

  pub stays-message : (did : Effect) (write : Option Coming) (parting : Option Parting) → TellsMessage i p did write parting y ks logs y' ks' logs' → Stays y ks y' ks'
  stays-message (effect.Queued sid) write parting told = stays-wait write told.0 told.1
  stays-message (effect.Cleared sid) write parting told = stays-clear parting told.0 told.1
  stays-message (effect.Wrote sid) write parting told = stays-write (Some false) write told
  stays-message (effect.Busied sid) write parting told = stays-write (Some true) write told
  stays-message effect.Quiet write parting told = stays-write None write told
  stays-message effect.Refused write parting told = stays-write None write told
  stays-message (effect.WriteRefused sid) write parting told = stays-write None write told
  stays-message (effect.Created sid) write parting told = stays-write None write told
  stays-message (effect.Subscribed sid sub) write parting told = stays-write None write told
  stays-message (effect.Cancelled sid sub) write parting told = stays-write None write told
  stays-message (effect.Switched on) write parting told = stays-write None write told

-- the server finds its circuits still
served-map : (f : model.Joined → model.Joined) → ((j : model.Joined) → KeepsEnds j (f j)) → (own : List ℕ) (ks : List model.Joined) (i : ℕ) → AreServed own ks i → AreServed own (map f ks) i
served-map f keeps own ks i served k new there mine on =
    let d = At-mapped f ks k new there in
    let kept : KeepsEnds d.0 new = subst (λ (z : model.Joined). KeepsEnds d.0 z) (sym d.2) (keeps d.0) in
    subst (λ (h : Handle). At own h.index k) (sym kept.at_server) (served k d.0 d.1 (sym kept.server ∙ mine) (kept.stops on))

pub served-told : (y y' : ServerSide) (ks ks' : List model.Joined) (i : ℕ) → Stays y ks y' ks' → AreServed y.circuits.items ks i → AreServed y'.circuits.items ks' i
served-told y y' ks ks' i s served =
    subst (λ (z : List ℕ × List model.Joined). AreServed z.0 z.1 i) (λ t. (sym s.numbers t, sym s.circuits t)) (served-map s.f s.keeps y.circuits.items ks i served)

-- as many circuits are there
long-as : {A : Type 0} (f : A → A) (xs ys : List A) → ys ≡ map f xs → length ys ≡ length xs
long-as f xs ys is = ap length is ∙ length-map xs f

pub within-after : (f g : model.Joined → model.Joined) (old mid new : Vec Joined Global) (k : ℕ) → map joined_of mid.items ≡ map f (map joined_of old.items) → map joined_of new.items ≡ map g (map joined_of mid.items) → k < vec_len old → k < vec_len new
within-after f g old mid new k first next lt =
    let n : vec_len new ≡ vec_len old =
    new.ok.0 ∙ sym (length-map new.items joined_of) ∙ long-as g (map joined_of mid.items) (map joined_of new.items) next ∙ long-as f (map joined_of old.items) (map joined_of mid.items) first
    ∙ length-map old.items joined_of ∙ sym old.ok.0 in
    subst (λ (m : ℕ). k < m) (sym n) lt
