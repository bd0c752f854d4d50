-- What a server refuses of its records whatever memory there is, and what it takes.
use Rattle.std.proofs.Common.{◌≡◌, ◌≢◌, ◌∙◌, ℕ, ◌<◌, ◌≤◌, ◌⊎◌, inl, inr, Bool, true, false, List, Option, Some, None, Result, Ok, Err, ap, arith, refl, sym, subst}
use Rattle.std.specs.Prelude.{IsErrAnd, is_some, option_map}
use Rattle.ca_arena.specs.declared.handle.Handle.{Handle}
use Rattle.ca_dbr.specs.declared.value.Value.{Value}
use Rattle.ca_dbr.specs.DisplayData.{DisplayData}
use Rattle.ca_dbr.specs.Elements.{Elements, base_of, count_of, elements}
use Rattle.ca_dbr.specs.Held.{Kind, display_of, displayed_by, kind_of}
use Rattle.ca_dbr.proofs.Helds.{display_of-elements}
use Rattle.ca_records.specs.Calls.{AddFault, MayAdd, PostFault, PostFits}
use Rattle.ca_records.specs.Puts.{Record, record_named}
use Rattle.ca_records.specs.Record.{HoldsValue, RecordState, unset}
use Rattle.ca_records.specs.Store.{display_at, display_in}
use Rattle.ca_records.proofs.Givens.{kind_of-alone}
use Rattle.ca_server_core.specs.Asking.{state_in}
use Rattle.ca_text.specs.declared.refusal.Refusal.{Refusal}
use Rattle.ca_text.specs.declared.refusal.Refusal.TheVariants.{BadCount, BadType, NameLength, OutOfMemory, RecordExists, UnknownRecord}
use Rattle.ca_text.specs.Limits.{record_name_limit}
use Rattle.ca_text.specs.Name.{IsName}
use Rattle.ca_model.specs.History.{Entry}
use Rattle.ca_model.specs.Server.{Server}
use Rattle.ca_model.specs.ServerCalls.{AddsRecord}
use Rattle.ca_model.specs.Speech.{Stored}
use Rattle.ca_model.specs.World as model
use Rattle.ca_world_data.specs.declared.server.ServerSide.{ServerSide}
use Rattle.ca_world_data.specs.Posting.{PostsAt}
use Rattle.ca_world_servers.specs.Removing.{RemovesAt}
use Rattle.ca_world.specs.Adding.{AddsAt}
use Rattle.ca_world.specs.Judging.{JudgesAdd, JudgesPost}
use Rattle.ca_world.specs.Wide.{IsCount}

-- ---- records by their states

pub unnamed : (o : Option Record) → None ≡ state_in o → o ≡ None
unnamed None none = refl
unnamed (Some r) none = absurd cc

pub named : (o : Option Record) (s : RecordState) → Some s ≡ state_in o → (r : Record) × (o ≡ Some r) × (r.state ≡ s)
named None s is = absurd cc
named (Some r) s is = (r, refl, cc)

no-one : (o : Option Record) → is_some o ≡ false → o ≡ None
no-one None is = refl
no-one (Some r) is = absurd cc

-- ---- posts

-- a post in place of this value, which the record has under this greatest count
module _ (rs : List Record) (name : List ℕ) (e v : Elements) (n : ℕ) (s : RecordState) (there : Some s ≡ state_in (record_named rs name)) (held : v ≡ s.value) (counted : n ≡ s.count) where
  abbrev Kept : Type 0
  Kept = (r : Record) × (record_named rs name ≡ Some r) × (v ≡ r.state.value) × (n ≡ r.state.count)

  kept : Kept
  kept = (let r = named (record_named rs name) s there in (r.0, r.1, held ∙ sym (ap (λ (z : RecordState). z.value) r.2), counted ∙ sym (ap (λ (z : RecordState). z.count) r.2)))

  post-fits : Kept → (kind_of e ≡ kind_of v) × (0 < count_of e) × (count_of e ≤ n) → PostFits rs name e
  post-fits (r, is, value, count) (kind, some, few) =
      (r, is, kind ∙ ap (λ (x : Elements). kind_of x) value, some, subst (λ (k : ℕ). count_of e ≤ k) count few)

  post-faults : Kept → (kind_of e ≢ kind_of v) ⊎ ((kind_of e ≡ kind_of v) × ((count_of e ≡ 0) ⊎ (n < count_of e))) → (f : Refusal) × PostFault rs name e f
  post-faults (r, is, value, count) (inl other) = (BadType, (r, is, subst (λ (x : Elements). kind_of e ≢ kind_of x) value other))
  post-faults (r, is, value, count) (inr (kind, fault)) =
      (BadCount, (r, is, kind ∙ ap (λ (x : Elements). kind_of x) value, subst (λ (k : ℕ). (count_of e ≡ 0) ⊎ (k < count_of e)) count fault))

  pub post-judged : (b : Bool) → (b ≡ true → (kind_of e ≡ kind_of v) × (0 < count_of e) × (count_of e ≤ n))
      → (b ≡ false → (kind_of e ≢ kind_of v) ⊎ ((kind_of e ≡ kind_of v) × ((count_of e ≡ 0) ⊎ (n < count_of e)))) → JudgesPost rs name e b
  post-judged true fits faults = post-fits kept (fits refl)
  post-judged false fits faults = post-faults kept (faults refl)

-- ---- kinds of values of the program

none-of : (o : Option DisplayData) → is_some o ≡ false → o ≡ None
none-of None is = refl
none-of (Some d) is = absurd cc

pub some-mapped : {A B : Type 0} (f : A → B) (o : Option A) → is_some (option_map f o) ≡ is_some o
some-mapped f None = refl
some-mapped f (Some x) = refl

pub other-shown : (a : Value) (h : Elements) → is_some (display_of h) ≡ true → kind_of (elements a) ≢ kind_of h
other-shown a h shown same =
    let none : display_of h ≡ None = ap (λ (k : Kind). k.display) (sym same) ∙ display_of-elements a in
    let wrong : false ≡ true = ap (λ (o : Option DisplayData). is_some o) (sym none) ∙ shown in
    cc

pub own-kind : (a : Value) (h : Elements) → base_of (elements a) ≡ base_of h → is_some (display_of h) ≡ false → kind_of (elements a) ≡ kind_of h
own-kind a h based none = kind_of-alone (elements a) h (display_of-elements a) (none-of (display_of h) none) based

-- a value that a record takes is all that it holds then
pub post-alone : (rs : List Record) (name : List ℕ) (a : Value) → PostFits rs name (elements a) → displayed_by (display_at rs name) (elements a) ≡ elements a
post-alone rs name a fits =
    let none : display_of fits.0.state.value ≡ None = ap (λ (k : Kind). k.display) (sym fits.2) ∙ display_of-elements a in
    ap (λ (o : Option DisplayData). displayed_by o (elements a)) (ap display_in fits.1 ∙ none)

pub post-unknown : (rs : List Record) (name : List ℕ) (e : Elements) → None ≡ state_in (record_named rs name) → (f : Refusal) × PostFault rs name e f
post-unknown rs name e none = (UnknownRecord, unnamed (record_named rs name) none)

-- ---- new records

pub add-unnamed : (rs : List Record) (s : RecordState) → (IsName record_name_limit s.name → ⊥) → JudgesAdd rs s false
add-unnamed rs s none = (NameLength, none)

pub add-there : (rs : List Record) (s : RecordState) → IsName record_name_limit s.name → is_some (record_named rs s.name) ≡ true → JudgesAdd rs s false
add-there rs s is some = (RecordExists, (is, some))

pub add-judged : (rs : List Record) (s : RecordState) (b : Bool) → IsName record_name_limit s.name → is_some (record_named rs s.name) ≡ false → s.meta ≡ unset → (b ≡ true → HoldsValue s.count s.value) → (b ≡ false → HoldsValue s.count s.value → ⊥) → JudgesAdd rs s b
add-judged rs s true is new fresh holds faults = (is, no-one (record_named rs s.name) new, holds refl, fresh)
add-judged rs s false is new fresh holds faults = (BadCount, (is, no-one (record_named rs s.name) new, faults refl))

add-refused : (y : Server) (s : RecordState) (f : Refusal) → AddFault y.records s f → (f ≢ OutOfMemory) × AddsRecord y s 0 (Err f) y
add-refused y s NameLength fault = ((λ is. absurd cc), (fault, refl))
add-refused y s RecordExists fault = ((λ is. absurd cc), (fault, refl))
add-refused y s BadCount fault = ((λ is. absurd cc), (fault, refl))
add-refused y s f fault = absurd fault

-- ---- at a server: what it refuses changes nothing, and only what it takes lacks memory

pub remove-refused : (i : ℕ) (name : List ℕ) (y : ServerSide) (ks : List model.Joined) (logs : List (List Entry)) → is_some (record_named y.core.records name) ≡ false → RemovesAt i name y ks logs (Ok tt) y ks logs
remove-refused i name y ks logs none = ((λ (h : Handle). false), (λ (h : Handle). 0), y.core, inr ((no-one (record_named y.core.records name) none, refl), refl, refl, refl))

pub remove-lacks : (i : ℕ) (name : List ℕ) (y y' : ServerSide) (ks ks' : List model.Joined) (logs logs' : List (List Entry)) (r : Result (Unit {0}) Refusal) → IsErrAnd r (λ e. e ≡ OutOfMemory) → is_some (record_named y.core.records name) ≡ true → y' ≡ y → ks' ≡ ks → logs' ≡ logs → RemovesAt i name y ks logs r y' ks' logs'
remove-lacks i name y y' ks ks' logs logs' (Ok u) err held is_y is_k is_l = absurd err
remove-lacks i name y y' ks ks' logs logs' (Err e) err held is_y is_k is_l =
    subst (λ (z : Refusal). RemovesAt i name y ks logs (Err z) y' ks' logs') (sym err) (held, is_y, is_k, is_l)

pub post-taken : (rs : List Record) (name : List ℕ) (e : Elements) (b : Bool) → JudgesPost rs name e b → b ≡ true → PostFits rs name e
post-taken rs name e true fits held = fits
post-taken rs name e false fault held = absurd cc

pub post-refused : (i : ℕ) (name : List ℕ) (v : Stored) (mask : ℕ) (y : ServerSide) (ks : List model.Joined) (logs : List (List Entry)) (b : Bool) → JudgesPost y.core.records name v.value b → b ≡ false → PostsAt i name v mask y ks logs (Ok tt) y ks logs
post-refused i name v mask y ks logs true fits held = absurd cc
post-refused i name v mask y ks logs false (f, fault) held =
    ((λ (h : Handle). false), y.core, inr (f, (λ is. subst (λ (z : Refusal). PostFault y.core.records name v.value z) is fault), (fault, refl), refl, refl, refl))

pub post-lacks : (i : ℕ) (name : List ℕ) (v : Stored) (mask : ℕ) (y y' : ServerSide) (ks ks' : List model.Joined) (logs logs' : List (List Entry)) (r : Result (Unit {0}) Refusal) → IsErrAnd r (λ e. e ≡ OutOfMemory) → PostFits y.core.records name v.value → y' ≡ y → ks' ≡ ks → logs' ≡ logs → PostsAt i name v mask y ks logs r y' ks' logs'
post-lacks i name v mask y y' ks ks' logs logs' (Ok u) err fits is_y is_k is_l = absurd err
post-lacks i name v mask y y' ks ks' logs logs' (Err e) err fits is_y is_k is_l =
    subst (λ (z : Refusal). PostsAt i name v mask y ks logs (Err z) y' ks' logs') (sym err) (fits, is_y, is_k, is_l)

pub add-taken : (rs : List Record) (s : RecordState) (b : Bool) → JudgesAdd rs s b → b ≡ true → MayAdd rs s
add-taken rs s true may held = may
add-taken rs s false fault held = absurd cc

pub add-refusal : (s : RecordState) (y : model.ServerSide) (logs : List (List Entry)) (b : Bool) → JudgesAdd y.core.records s b → b ≡ false → AddsAt s y logs (Ok tt) y logs
add-refusal s y logs true may held = absurd cc
add-refusal s y logs false (f, fault) held = (let r = add-refused y.core s f fault in (y.core, 0, inr (f, r.0, r.1, refl, refl)))

pub add-lacks : (s : RecordState) (y y' : model.ServerSide) (logs logs' : List (List Entry)) (r : Result (Unit {0}) Refusal) → IsErrAnd r (λ e. e ≡ OutOfMemory) → MayAdd y.core.records s → y' ≡ y → logs' ≡ logs → AddsAt s y logs r y' logs'
add-lacks s y y' logs logs' (Ok u) err may is_y is_l = absurd err
add-lacks s y y' logs logs' (Err e) err may is_y is_l = subst (λ (z : Refusal). AddsAt s y logs (Err z) y' logs') (sym err) (may, is_y, is_l)

-- a count that a record may have is none that is too great
pub count-exact : (rs : List Record) (s : RecordState) (own : ℕ) → MayAdd rs s → IsCount s.count own → own ≡ s.count
count-exact rs s own may (inl is) = is
count-exact rs s own may (inr over) = (let few = may.2.limit in absurd (omega (arith, few, over.0)))
