-- A moment is handed to one client after another.
use Rattle.std.proofs.Common.{◌≡◌, ℕ, ◌+◌, ◌≤◌, inl, inr, Bool, true, false, List, Some, Ok, Err, length, refl, sym, ap, subst, ◌∙◌, arith}
use Rattle.std.specs.Prelude.{◌&&◌, ◌==◌, IsErr, Option, None, Result, cond, map, option_map, slice_set, unwrap_or}
use Rattle.std.specs.declared.alloc.AllocError.{AllocError}
use Rattle.std.proofs.lemmas.List.{length-map}
use Rattle.ca_text.specs.Place.{At}
use Rattle.ca_text.proofs.Places.{At-map, At-set}
use Rattle.ca_model.specs.Answers.{Left}
use Rattle.ca_model.specs.History.{Entry, Line}
use Rattle.ca_model.specs.ClientEvents.{TicksOne, after_tick, client_closed, left_silent}
use Rattle.ca_model.specs.Events.{Tick}
use Rattle.ca_model.specs.Runs.{Happens, TicksAll, TicksBefore, clients_below}
use Rattle.ca_model.specs.World as model
use Rattle.ca_model.specs.World.{Joined, World}
use Rattle.ca_laws_runs.specs.Quiet.{ClientsQuiet}
use Rattle.ca_world_data.specs.declared.client.ClientSide.{ClientSide}
use Rattle.ca_world_data.specs.Found.{AreNumbered}
use Rattle.ca_world_data.specs.Indexed.{AreIndexed, client_numbers}
use Rattle.ca_world_data.specs.Seen.{client_of}
use Rattle.ca_world_data.specs.Speaking.{sent_up}
use Rattle.ca_world_data.specs.Ticks.{TellsFew, TicksClient}
use Rattle.ca_world_data.proofs.Indexes.{KeepsEnds, ends-stay, indexed-map, indexed-same, numbered-of, numbers-set}
use Rattle.ca_world_data.proofs.Ranges.{folds-more, range-more}
use Rattle.ca_world_data.proofs.Silences.{numbered-map}
use Rattle.ca_world_data.proofs.Worlds.{set-map}
use Rattle.ca_world_data.proofs.Momentary.{sent-keeps}
use Rattle.ca_world.specs.Halted.{HasStopped}
use Rattle.ca_world.specs.Ticking.{AllNumbered, AllTellFew, TicksSome, TicksTo, world_with}
use Rattle.ca_world.specs.Whole.{CameAbout, IsReached}
use Rattle.ca_world.proofs.Partings.{moment-tells}
use Rattle.ca_queue.proofs.Circuits.{length-set}

-- ---- circuits

tick-keeps : (i : ℕ) (closings : List Left) (j : Joined) → KeepsEnds j (after_tick i closings j)
tick-keeps i closings j = go (j.client == i && j.lists.client_open) (left_silent closings j)
  where
    go : (a : Bool) (o : Option (List ℕ)) → KeepsEnds j (cond a (unwrap_or (option_map (λ (left : List ℕ). client_closed left j) o) j) j)
    go false o = ends-stay j j refl
    go true None = ends-stay j j refl
    go true (Some left) = record { client = refl; server = refl; at_client = refl; at_server = refl; closes = λ on. absurd cc; stops = λ on. on }

-- ---- one client

module _ (i moment : ℕ) (x x' : model.ClientSide) (cl cl' : List (List Line)) (ks ks' : List Joined) where
  one-ticks : (cs : List model.ClientSide) (ss : List model.ServerSide) (sl : List (List Entry)) (m : ℕ) (u : Unit {0}) → At cs i x → TicksClient i moment x cl ks (Ok u) x' cl' ks'
      → TicksOne moment (world_with cs ss ks cl sl m) i (world_with (slice_set cs i x') ss ks' cl' sl m)
  one-ticks cs ss sl m u at (t, sent, does, side, logged, goes) =
      (x, at, t, sent, x'.core, does, λ k. world_with (slice_set cs i (side k)) ss (goes k) (logged k) sl m)

  one-numbered : (u : Unit {0}) (l : ℕ) (numbers : List ℕ) → TicksClient i moment x cl ks (Ok u) x' cl' ks' → AreNumbered numbers ks l → AreNumbered numbers ks' l
  one-numbered u l numbers (t, sent, does, side, logged, goes) h =
      subst (λ (z : List Joined). AreNumbered numbers z l) (sym goes)
      (numbered-map l numbers (map (sent_up i x.names sent) ks) (after_tick i t.closings) (tick-keeps i t.closings)
      (numbered-map l numbers ks (sent_up i x.names sent) (sent-keeps i x.names sent) h))

  one-indexed : (u : Unit {0}) (cs ss : List (List ℕ)) → TicksClient i moment x cl ks (Ok u) x' cl' ks' → AreIndexed cs ss ks → AreIndexed cs ss ks'
  one-indexed u cs ss (t, sent, does, side, logged, goes) h =
      indexed-same cs cs ss ss (map (after_tick i t.closings) (map (sent_up i x.names sent) ks)) ks' refl refl goes
      (indexed-map cs ss (map (sent_up i x.names sent) ks) (indexed-map cs ss ks h (sent_up i x.names sent) (sent-keeps i x.names sent)) (after_tick i t.closings) (tick-keeps i t.closings))

-- ---- and the next

pub ticks-none : (moment : ℕ) (cs : List model.ClientSide) (cl : List (List Line)) (ks : List Joined) → TicksTo moment 0 cs cl ks cs cl ks
ticks-none moment cs cl ks ss sl m = refl

pub ticks-next : (moment n : ℕ) (cs now : List model.ClientSide) (cl cl1 cl2 : List (List Line)) (ks ks1 ks2 : List Joined) (x x' : model.ClientSide) (u : Unit {0}) → TicksTo moment n cs cl ks now cl1 ks1 → At now n x
    → TicksClient n moment x cl1 ks1 (Ok u) x' cl2 ks2 → TicksTo moment (n + 1) cs cl ks (slice_set now n x') cl2 ks2
ticks-next moment n cs now cl cl1 cl2 ks ks1 ks2 x x' u before at does ss sl m =
    subst (λ (l : List ℕ). TicksAll moment (world_with cs ss ks cl sl m) l (world_with (slice_set now n x') ss ks2 cl2 sl m)) (sym (range-more n))
    (folds-more (TicksOne moment) (clients_below n) (world_with cs ss ks cl sl m) (world_with now ss ks1 cl1 sl m) (world_with (slice_set now n x') ss ks2 cl2 sl m) n
    (before ss sl m)
    (one-ticks n moment x x' cl1 cl2 ks1 ks2 now ss sl m u at does))

-- ---- how far a walk is

-- The first n clients had the moment, and all others are as they were.
pub record IsAsFar (moment n : ℕ) (cs now : List ClientSide) (cl cl' : List (List Line)) (ks ks' : List Joined) : Type 0 where
  pub ticks : TicksTo moment n (map client_of cs) cl ks (map client_of now) cl' ks'
  pub many : length now ≡ length cs
  pub rest : (i : ℕ) (x : ClientSide) → n ≤ i → At now i x → At cs i x
  pub numbered : AllNumbered now ks'
  pub numbers : client_numbers now ≡ client_numbers cs
  pub indexed : (ns ss : List (List ℕ)) → AreIndexed ns ss ks → AreIndexed ns ss ks'

pub far-none : (moment : ℕ) (cs : List ClientSide) (cl : List (List Line)) (ks : List Joined) → AllNumbered cs ks → IsAsFar moment 0 cs cs cl cl ks ks
far-none moment cs cl ks numbered = record {
  ticks = ticks-none moment (map client_of cs) cl ks;
  many = refl;
  rest = λ i x le at. at;
  numbered = numbered;
  numbers = refl;
  indexed = λ ns ss h. h;
}

pub far-next : (moment n : ℕ) (cs now : List ClientSide) (cl cl1 cl2 : List (List Line)) (ks ks1 ks2 : List Joined) (x x' : ClientSide) (u : Unit {0}) → IsAsFar moment n cs now cl cl1 ks ks1 → At now n x
    → TicksClient n moment (client_of x) cl1 ks1 (Ok u) (client_of x') cl2 ks2 → x'.circuits.items ≡ x.circuits.items → IsAsFar moment (n + 1) cs (slice_set now n x') cl cl2 ks ks2
far-next moment n cs now cl cl1 cl2 ks ks1 ks2 x x' u far at does kept = record {
  ticks =
      subst (λ (l : List model.ClientSide). TicksTo moment (n + 1) (map client_of cs) cl ks l cl2 ks2) (sym (set-map client_of now n x'))
      (ticks-next moment n (map client_of cs) (map client_of now) cl cl1 cl2 ks ks1 ks2 (client_of x) (client_of x') u far.ticks (At-map client_of now n x at) does);
  many = length-set now n x' ∙ far.many;
  rest = λ i y le there. elim (At-set now n x' i y there) [
    | inl own ↦ (let here : i ≡ n = own.0 in absurd (omega (arith, le, here)))
    | inr old ↦ far.rest i y (omega (arith, le)) old.0
  ];
  numbered = λ i y there. elim (At-set now n x' i y there) [
    | inl own ↦
        subst (λ (z : List ℕ). AreNumbered z ks2 i) (sym (ap (λ (z : ClientSide). z.circuits.items) own.1 ∙ kept))
        (one-numbered n moment (client_of x) (client_of x') cl1 cl2 ks1 ks2 u i x.circuits.items does (far.numbered i x (subst (λ (k : ℕ). At now k x) (sym own.0) at)))
    | inr old ↦ one-numbered n moment (client_of x) (client_of x') cl1 cl2 ks1 ks2 u i y.circuits.items does (far.numbered i y old.0)
  ];
  numbers = numbers-set (λ (z : ClientSide). z.circuits.items) now n x x' at kept ∙ far.numbers;
  indexed = λ ns ss h. one-indexed n moment (client_of x) (client_of x') cl1 cl2 ks1 ks2 u ns ss does (far.indexed ns ss h);
}

-- the next client tells few
pub far-few : (moment n : ℕ) (cs now : List ClientSide) (cl cl' : List (List Line)) (ks ks' : List Joined) (x : ClientSide) → IsAsFar moment n cs now cl cl' ks ks' → At now n x → AllTellFew moment (map client_of cs) → TellsFew moment (client_of x)
far-few moment n cs now cl cl' ks ks' x far at few = few n (client_of x) (At-map client_of cs n x (far.rest n x (omega arith) at))

-- all had it
pub far-all : (moment n : ℕ) (cs now : List ClientSide) (cl cl' : List (List Line)) (ks ks' : List Joined) (u : Unit {0}) → IsAsFar moment n cs now cl cl' ks ks' → n ≡ length cs → TicksSome moment (map client_of cs) cl ks (Ok u) (map client_of now) cl' ks'
far-all moment n cs now cl cl' ks ks' u far is =
    subst (λ (k : ℕ). TicksTo moment k (map client_of cs) cl ks (map client_of now) cl' ks') (is ∙ sym (length-map cs client_of)) far.ticks

-- the next one had no memory for it
pub far-stopped : (moment n : ℕ) (cs now : List ClientSide) (cl cl1 cl2 : List (List Line)) (ks ks1 ks2 : List Joined) (x x' : ClientSide) (e : AllocError) (r : Result (Unit {0}) AllocError) → IsErr r → IsAsFar moment n cs now cl cl1 ks ks1 → At now n x
    → TicksClient n moment (client_of x) cl1 ks1 (Err e) (client_of x') cl2 ks2 → TicksSome moment (map client_of cs) cl ks r (map client_of (slice_set now n x')) cl2 ks2
far-stopped moment n cs now cl cl1 cl2 ks ks1 ks2 x x' e (Ok u) bad far at stops = absurd (let no : false ≡ true = bad in cc)
far-stopped moment n cs now cl cl1 cl2 ks ks1 ks2 x x' e (Err f) refused far at (lacks, side, logged, stay) = (
  n,
  client_of x,
  At-map client_of cs n x (far.rest n x (omega arith) at),
  lacks,
  λ ss sl m. subst (λ (z : List model.ClientSide × (List (List Line) × List Joined)). TicksAll moment (world_with (map client_of cs) ss ks cl sl m) (clients_below n) (world_with z.0 ss z.1.1 z.1.0 sl m))
      (λ t. (sym (numbers-set client_of now n x x' at side) t, (sym logged t, sym stay t))) (far.ticks ss sl m),
)

-- ---- the world

-- each client has its numbers
pub all-numbered : (cs : List ClientSide) (ss : List (List ℕ)) (ks : List Joined) → AreIndexed (client_numbers cs) ss ks → AllNumbered cs ks
all-numbered cs ss ks h i x at = numbered-of (client_numbers cs) ss ks h i x.circuits.items (At-map (λ (z : ClientSide). z.circuits.items) cs i x at)

pub all-tell-few : (moment : ℕ) (w : World) → IsReached w → ClientsQuiet w → AllTellFew moment w.clients
all-tell-few moment w reached quiet i x at = moment-tells w i x moment reached quiet at

pub ticks-whole : (moment : ℕ) (w : World) (cs' : List model.ClientSide) (cl' : List (List Line)) (ks' : List Joined) (u : Unit {0}) → w.moment ≤ moment → TicksSome moment w.clients w.client_logs w.circuits (Ok u) cs' cl' ks'
    → Happens w (Tick moment) (world_with cs' w.servers ks' cl' w.server_logs moment)
ticks-whole moment w cs' cl' ks' u le ticks = (le, (world_with cs' w.servers ks' cl' w.server_logs w.moment, ticks w.servers w.server_logs w.moment, refl))

pub ticks-part : (moment : ℕ) (w : World) (cs' : List model.ClientSide) (cl' : List (List Line)) (ks' : List Joined) (e : AllocError) → w.moment ≤ moment → TicksSome moment w.clients w.client_logs w.circuits (Err e) cs' cl' ks'
    → TicksBefore moment w (world_with cs' w.servers ks' cl' w.server_logs w.moment)
ticks-part moment w cs' cl' ks' e le (n, x, at, lacks, ticks) = (n, x, le, ticks w.servers w.server_logs w.moment, at, lacks)

-- a run stopped there
pub has-stopped : (moment : ℕ) (w new : World) → CameAbout w → TicksBefore moment w new → HasStopped new
has-stopped moment w new (s, es, ok, are, folds) part = (s, es, Some (Tick moment), ok, are, (w, folds, inr part))
